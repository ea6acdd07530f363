pub mod Filled
pub mod Refusal
pub mod Settled
