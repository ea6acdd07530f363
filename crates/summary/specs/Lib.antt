pub mod Bound
pub mod Four
pub mod Join
pub mod Stretch
