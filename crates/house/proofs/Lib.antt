pub mod Faults
pub mod Fields
pub mod Steps
pub mod Whole
pub mod Loop
pub mod Examples
