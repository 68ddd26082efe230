pub mod LinkTurns
pub mod Swaps
pub mod Turns
pub mod TurnedBacks
pub mod TurnWalk
