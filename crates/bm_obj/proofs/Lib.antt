pub mod Places
pub mod Refs
pub mod Alive
pub mod Told
pub mod Calls
pub mod Sides
pub mod Undoing
