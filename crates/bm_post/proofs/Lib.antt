pub mod Counts
pub mod Returned
pub mod Fetched
pub mod Posts
pub mod Room
pub mod Told
