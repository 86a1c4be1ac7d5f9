mod Then
mod Bound
mod Meeting
mod KnownNames
mod Blocks
mod Locks
mod Stacks
mod Tables
mod Results
mod Objects
mod Softened
mod Performing
mod Exchanging
mod Guarding
mod Going
pub mod Sounds
pub mod Lives
pub mod Yields
mod Starting
mod Counted
mod Fields
