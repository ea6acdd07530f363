pub mod Answered
pub mod Example
pub mod Printed
pub mod Settled
