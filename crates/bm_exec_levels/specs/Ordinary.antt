-- What ordinary code leaves of its processor.
use Rattle.std.specs.Prelude.{◌≡◌, ◌≤◌, ◌+◌, ◌*◌, ◌%◌, ℕ, Bool, true, if◌then◌else◌, Some, None, length}
use Rattle.bm_journal.specs.declared.ids.Domain.{Domain}
use Rattle.bm_journal.specs.declared.ids.Domain.TheVariants.{Plain, Tracing}
use Rattle.bm_exec.specs.Around.{Around}
use Rattle.bm_exec_levels.specs.Ready.{known_of, left_of, word_of}
use Rattle.bm_exec_levels.specs.declared.processor.Processor.{Processor}
use Rattle.bm_grace.specs.declared.grace.Knows.{Ghosts as Knows}

module _ {W : Type 0} (knows : Knows W) where
  -- It is the same one, of as many.
  pub record Ordinary (before now : Processor W) : Type 0 where
    pub processors :
        (known_of knows now).grace.processors ≡ (known_of knows before).grace.processors
    pub processor : (known_of knows now).grace.processor ≡ (known_of knows before).grace.processor

  -- Statements of ordinary code, with the handlers that ran between their steps and the deferred work behind them: no handler was
  -- added to those that haven't run, none still runs, and it is in a section or in none as before, in the same one if in one; no
  -- more words are named than were reckoned for those handlers.
  pub record Statements (before now : Processor W) : Type 0 where
    pub ordinary : Ordinary before now
    pub fewer : length (left_of now) ≤ length (left_of before)
    pub running : now.running.items ≡ before.running.items
    pub inside : now.inside ≡ before.inside
    pub parity : (d : Domain) → word_of knows d now % 2 ≡ word_of knows d before % 2
    pub inner :
        word_of knows Plain before % 2 ≡ 1 → word_of knows Plain now ≡ word_of knows Plain before
    pub tracing : word_of knows Tracing now ≡ word_of knows Tracing before
    pub words :
        word_of knows Plain now + 2 * length (left_of now)
        ≤ word_of knows Plain before + 2 * length (left_of before)

  -- The plain section around a script: it is in one as a whole, or in the one that the processor is in, if it is in one.
  abbrev pub around_of : (whole : Bool) → Processor W → Around
  around_of whole m =
      record {
        whole = whole;
        begun =
            if whole then None
            else (if m.inside then Some (word_of knows Plain m) else None);
      }

  -- How many words of plain sections were named, with those that handlers which haven't run may name, and that which ends the section
  -- that the processor is in.
  abbrev pub words_of : Processor W → ℕ
  words_of m = word_of knows Plain m + 2 * length (left_of m) + (if m.inside then 1 else 0)

  -- Statements of a script, as above; but where it isn't in a plain section as a whole, it may have begun and ended sections.
  pub record Scripted (whole : Bool) (before now : Processor W) : Type 0 where
    pub ordinary : Ordinary before now
    pub fewer : length (left_of now) ≤ length (left_of before)
    pub running : now.running.items ≡ before.running.items
    pub tracing : word_of knows Tracing now ≡ word_of knows Tracing before
    pub plain : whole ≡ true → word_of knows Plain now ≡ word_of knows Plain before
