pub mod Answer
pub mod Decode
pub mod Fault
pub mod Places
pub mod Reads
pub mod Reply
