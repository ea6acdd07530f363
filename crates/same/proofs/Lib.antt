pub mod Checked
pub mod Settled
