pub mod Climb
pub mod Settled
