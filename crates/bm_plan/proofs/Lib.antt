pub mod Numbers
pub mod Positions
pub mod Begins
pub mod Wrong
