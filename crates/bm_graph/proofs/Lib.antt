pub mod Replaying
pub mod Ids
pub mod Lists
pub mod Spending
pub mod Rows
pub mod Trees
pub mod Shelves
