pub mod Faults
pub mod Refusals
pub mod Frames
pub mod Machines
pub mod Runs
