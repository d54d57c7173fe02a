pub mod BelievedLaws
pub mod ReadLaws
