pub mod UnitState
pub mod Stock
pub mod Kept
pub mod Out
