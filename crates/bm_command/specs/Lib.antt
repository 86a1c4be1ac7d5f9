pub mod Grammar
pub mod PieceCounts
pub mod Words
