pub mod Filled
pub mod MapLaws
pub mod NumberLaws
pub mod StateLaws
pub mod TableLaws
