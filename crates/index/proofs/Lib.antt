pub mod Entry
pub mod Examples
pub mod Height
pub mod Laid
pub mod Level
pub mod Numbers
pub mod Settled
