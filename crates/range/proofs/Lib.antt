pub mod Climb
pub mod Settled
pub mod Small
