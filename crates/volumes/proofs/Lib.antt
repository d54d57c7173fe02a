pub mod Carrying
pub mod Mapping
