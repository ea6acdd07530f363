pub mod Output
pub mod RanAs
pub mod Replied
pub mod Sound
