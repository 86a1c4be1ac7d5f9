pub mod Sizes
pub mod Watermarks
