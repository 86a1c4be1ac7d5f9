pub mod Parts
pub mod WorkPhrases
pub mod WorkedParts
pub mod Grown
pub mod WorkedPages
