pub mod Position
pub mod Worked
pub mod Takes
