pub mod Faults
pub mod Tags
pub mod Fields
pub mod File
