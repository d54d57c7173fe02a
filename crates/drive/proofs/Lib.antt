pub mod MeaningLaws
pub mod CalmLaws
pub mod FormedLaws
pub mod AnswerLaws
pub mod EachLaws
pub mod SurfaceLaws
pub mod QueueLaws
pub mod BacklogLaws
