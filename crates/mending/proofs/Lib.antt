pub mod InexactLaws
pub mod NextLaws
pub mod TallyLaws
pub mod UnmendedLaws
