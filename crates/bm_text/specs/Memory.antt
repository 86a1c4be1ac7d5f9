-- Sources and sinks in memory, as their callers see them, and what each of their calls does.
use Rattle.std.specs.Prelude.{ℕ, ◌-◌, ◌==◌, ◌||◌, nat_le, min, Bool, List, ◌++◌, take, drop, length, if◌then◌else◌}
use Rattle.std.specs.List.{list_any}
use Rattle.bm_text.specs.Faults.{next_count}
use Rattle.bm_text.specs.declared.input.Read.{Read}
use Rattle.bm_text.specs.declared.input.Read.TheVariants.{Got, End, Failed}
use Rattle.bm_text.specs.declared.output.Wrote.{Wrote}
use Rattle.bm_text.specs.declared.output.Wrote.TheVariants.{Took, Failed as WriteFailed}
use Rattle.bm_text.specs.declared.output.Flushed.{Flushed}
use Rattle.bm_text.specs.declared.output.Flushed.TheVariants.{Done, Failed as FlushFailed}

-- the calls of one source or sink: the numbers of those that are to fail, how many were made, and how many failed
pub record Calls : Type 0 where
  pub fail : List ℕ
  pub made : ℕ
  pub faults : ℕ

-- the number of the next call. Calls are numbered from 1; numbers in `fail` are far below the last value of a count
abbrev pub next_number : Calls → ℕ
next_number calls = next_count calls.made

-- whether the next call is to fail by its number
abbrev pub is_planned : Calls → Bool
is_planned calls = list_any (λ number. number == next_number calls) calls.fail

-- the calls after one more, which failed or did not
abbrev pub calls_after : Bool → Calls → Calls
calls_after failed calls = record {
  fail = calls.fail;
  made = next_number calls;
  faults = if failed then next_count calls.faults else calls.faults;
}

-- a source in memory: its bytes left, how many it gives a call at most, and its calls
pub record Tape : Type 0 where
  pub left : List ℕ
  pub piece : ℕ
  pub calls : Calls

-- what a read of at most so many bytes answers where it does not fail
abbrev pub read_gives : List ℕ → ℕ → Read
read_gives left most = if length left == 0 then End else Got (min (length left) most)

-- what a read into so much room answers
abbrev pub read_answer : Tape → ℕ → Read
read_answer tape room =
    if is_planned tape.calls then Failed else read_gives tape.left (min tape.piece room)

-- how many bytes an answer gives
abbrev pub bytes_got : Read → ℕ
bytes_got (Got n) = n
bytes_got End = 0
bytes_got Failed = 0

-- the source after that read
abbrev pub after_read : Tape → ℕ → Tape
after_read tape room = record {
  left = drop (bytes_got (read_answer tape room)) tape.left;
  piece = tape.piece;
  calls = calls_after (is_planned tape.calls) tape.calls;
}

-- a sink in memory: what was written, how much of it stood there at the last flush that was done, how many bytes it
-- holds at most, how many it takes a call at most, and its calls
pub record Sheet : Type 0 where
  pub written : List ℕ
  pub flushed : ℕ
  pub room : ℕ
  pub piece : ℕ
  pub calls : Calls

-- whether the next call, a write, fails: since there is no room left, or by its number
abbrev pub write_fails : Sheet → Bool
write_fails sheet = nat_le sheet.room (length sheet.written) || is_planned sheet.calls

-- how many bytes the next write takes of so many
abbrev pub bytes_taken : Sheet → ℕ → ℕ
bytes_taken sheet given = min given (min sheet.piece (sheet.room - length sheet.written))

-- what a write of so many bytes answers
abbrev pub write_answer : Sheet → ℕ → Wrote
write_answer sheet given = if write_fails sheet then WriteFailed else Took (bytes_taken sheet given)

-- the sink after a write of these bytes
abbrev pub after_write : Sheet → List ℕ → Sheet
after_write sheet bytes = record {
  written =
      if write_fails sheet then sheet.written
      else sheet.written ++ take (bytes_taken sheet (length bytes)) bytes;
  flushed = sheet.flushed;
  room = sheet.room;
  piece = sheet.piece;
  calls = calls_after (write_fails sheet) sheet.calls;
}

-- what a flush answers
abbrev pub flush_answer : Sheet → Flushed
flush_answer sheet = if is_planned sheet.calls then FlushFailed else Done

-- the sink after a flush
abbrev pub after_flush : Sheet → Sheet
after_flush sheet = record {
  written = sheet.written;
  flushed = if is_planned sheet.calls then sheet.flushed else length sheet.written;
  room = sheet.room;
  piece = sheet.piece;
  calls = calls_after (is_planned sheet.calls) sheet.calls;
}
