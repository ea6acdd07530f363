pub mod First
pub mod Judge
pub mod Numbered
pub mod Refusal
