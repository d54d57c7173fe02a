pub mod Salvages
pub mod Volumes
