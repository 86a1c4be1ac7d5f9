pub mod Gathered
pub mod Objects
pub mod SlotChain
pub mod ReferenceLaw
pub mod ReadsLaw
pub mod Worked
pub mod WorkedActs
pub mod Wrong
