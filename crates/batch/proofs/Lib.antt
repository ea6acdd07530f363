pub mod Answers
pub mod Demands
pub mod Refusals
pub mod Settled
pub mod Turns
