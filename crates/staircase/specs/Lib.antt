pub mod Taps
pub mod Making
pub mod Progress
pub mod Phases
pub mod Steps
pub mod Moves
pub mod Laws
