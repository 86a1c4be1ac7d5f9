pub mod Word
pub mod Number
