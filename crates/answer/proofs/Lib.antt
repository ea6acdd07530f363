pub mod Casts
pub mod Settled
pub mod Told
pub mod Walked
