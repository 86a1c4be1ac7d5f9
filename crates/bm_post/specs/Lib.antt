pub mod Calls
pub mod HasRoom
pub mod Kept
pub mod Parcels
pub mod PostState
pub mod Rights
