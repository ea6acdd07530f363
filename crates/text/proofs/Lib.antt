pub mod Put
pub mod Numbers
pub mod Lines
