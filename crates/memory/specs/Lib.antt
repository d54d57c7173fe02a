pub mod Bounds
pub mod Slots
pub mod View
