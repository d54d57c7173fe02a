pub mod Words
pub mod Control
pub mod Regions
pub mod Labels
pub mod Sections
pub mod Entries
pub mod Laws
