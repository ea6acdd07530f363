pub mod First
pub mod Judged
pub mod Numbered
pub mod Settled
pub mod Tests
pub mod Told
