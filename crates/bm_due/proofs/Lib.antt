pub mod Foremost
pub mod Selected
pub mod Plans
pub mod Standings
pub mod Counting
pub mod Askings
pub mod Made
