pub mod Faults
pub mod Source
pub mod Sink
pub mod Whole
pub mod Memory
pub mod Device
pub use Rattle.bm_word.specs.Number
