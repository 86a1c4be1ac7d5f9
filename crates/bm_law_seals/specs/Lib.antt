pub mod Answered
pub mod Batches
pub mod WorkedBatches
pub mod WorkedReferences
