pub mod Judging
pub mod Stages
pub mod Lawful
