pub mod Leftovers
pub mod Sought
pub mod Tallies
