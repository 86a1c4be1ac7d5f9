-- A log that has grown by a part.
pub use Rattle.bm_law_work.specs.Grown.{GrewPart, GrewBy}
