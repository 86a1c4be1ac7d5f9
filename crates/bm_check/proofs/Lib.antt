pub mod TableLemmas
pub mod Growth
pub mod ChangeLemmas
pub mod StatementLemmas
pub mod BlockLemmas
pub mod Needs
pub mod LawLemmas
