pub mod Its
pub mod Ready
pub mod Told
