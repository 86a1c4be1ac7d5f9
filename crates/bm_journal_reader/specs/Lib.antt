pub mod Drafts
pub mod EntryLine
pub mod Faults
pub mod Owning
pub mod Pieces
