-- A reader or a writer of std with a count of its faults, and that count after a call.
use Rattle.std.specs.Prelude.{ℕ}
use Rattle.bm_text.specs.declared.input.Read.{Read}
use Rattle.bm_text.specs.declared.input.Read.TheVariants.{Got, End, Failed}
use Rattle.bm_text.specs.declared.output.Wrote.{Wrote}
use Rattle.bm_text.specs.declared.output.Wrote.TheVariants.{Took, Failed as WriteFailed}
use Rattle.bm_text.specs.declared.output.Flushed.{Flushed}
use Rattle.bm_text.specs.declared.output.Flushed.TheVariants.{Done, Failed as FlushFailed}
use Rattle.bm_text.specs.Faults.{next_count}

pub record Device (D : Type 0) : Type 0 where
  pub inner : D
  pub faults : ℕ

-- the count after a read
abbrev pub faults_after_read : ℕ → Read → ℕ
faults_after_read faults (Got n) = faults
faults_after_read faults End = faults
faults_after_read faults Failed = next_count faults

-- the count after a write
abbrev pub faults_after_write : ℕ → Wrote → ℕ
faults_after_write faults (Took n) = faults
faults_after_write faults WriteFailed = next_count faults

-- the count after a flush
abbrev pub faults_after_flush : ℕ → Flushed → ℕ
faults_after_flush faults Done = faults
faults_after_flush faults FlushFailed = next_count faults
