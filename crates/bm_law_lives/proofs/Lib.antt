pub mod Words
pub mod Named
pub mod RightJournals
pub mod WrongLives
pub mod WrongReturns
pub mod WrongGrace
pub mod WrongStamps
