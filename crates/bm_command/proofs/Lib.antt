pub mod WordLemmas
pub mod ParserLemmas
pub mod GenLemmas
