mod Same
mod Moved
mod MoveOf
mod Inboxes
mod Stocked
mod Caches
mod Hands
mod Lived
pub mod Standing
pub mod Apart
pub mod Logs
mod Once
