pub mod Grown
pub mod InTurn
pub mod Rests
