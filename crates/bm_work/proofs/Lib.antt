pub mod Rests
pub mod Tests
pub mod Onward
pub mod Alike
pub mod Points
pub mod Steps
mod Turning
pub mod Mail
pub mod Batches
pub mod Came
pub mod Moved
pub mod Gone
mod Going
pub mod Sealed
pub mod Passings
pub mod Thens
pub mod Sides
pub mod Owing
