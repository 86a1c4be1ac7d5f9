mod AtEnds
mod Owed
mod Batched
mod Received
mod Returning
mod Sweeping
mod Swept
mod Classes
mod Stops
mod Closes
pub mod Others
