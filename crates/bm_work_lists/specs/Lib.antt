pub mod Grown
pub mod Fit
pub mod WorkSpan
pub mod FromLists
pub mod Takes
