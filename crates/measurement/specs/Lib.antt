pub mod Settings
pub mod Input
pub mod Threads
pub mod Measuring
