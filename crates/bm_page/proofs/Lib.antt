pub mod Least
pub mod StockLemmas
pub mod WalkLemmas
pub mod FetchLemmas
pub mod OutLemmas
