pub mod Climbing
pub mod Ends
pub mod Scan
pub mod Settled
pub mod Sinking
pub mod Whole
