pub mod Climbing
pub mod Ends
pub mod Settled
pub mod Sinking
pub mod Turns
pub mod Whole
