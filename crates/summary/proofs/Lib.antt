pub mod Append
pub mod Balanced
pub mod Bounds
pub mod Depth
pub mod Join
pub mod Machine
pub mod Meaning
pub mod Settled
