pub mod Handlers
pub mod Opened
pub mod Held
