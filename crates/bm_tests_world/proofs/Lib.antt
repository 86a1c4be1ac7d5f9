pub mod Begun
pub mod OneHeld
pub mod Played
