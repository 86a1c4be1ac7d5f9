pub mod LeavesParcels
pub mod SweepsTold
pub mod WorkedInboxes
pub mod UnitsMoved
pub mod WorkedUnits
pub mod Owed
pub mod ClosingEntries
