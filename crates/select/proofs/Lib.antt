pub mod Descent
pub mod Leaf
pub mod Settled
