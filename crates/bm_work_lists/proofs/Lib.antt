pub mod Fits
pub mod FromLists
pub mod Grown
pub mod Lists
pub mod Ranges
pub mod Spans
pub mod Steps
pub mod Takes
