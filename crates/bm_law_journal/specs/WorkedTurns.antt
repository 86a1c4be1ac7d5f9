-- A worked journal of two processors that take turns, and wrong neighbours of it, by their logs. There is one page with one unit of class
-- 10, whose units have 4096 bytes. Entries of which no law of orders speaks are left out: scripts, flags, reads of the count, receives of
-- nothing.
use Rattle.std.specs.Prelude.{◌≡◌, ℕ, List, [], ◌∷◌, ◌++◌, Some}
use Rattle.bm_journal.specs.declared.ids.Domain.TheVariants.{Plain, Tracing}
use Rattle.bm_journal.specs.declared.units.Units.TheVariants.{Whole}
use Rattle.bm_journal.specs.declared.entry.Entry.{Entry}
use Rattle.bm_journal.specs.declared.entry.Entry.TheVariants as entry
use Rattle.bm_journal.specs.declared.journal.Journal.{Journal}
use Rattle.bm_lang.specs.declared.scenario.Parts.{Parts}
use Rattle.bm_law.specs.Lists.{Log}
use Rattle.bm_law.specs.Ordinary.{ordinary}
use Rattle.bm_law_lives.specs.Worked.{asks, batches, delays, ends, frees, gives, opens, period, pushes, returns, sends, sweeps}

-- The journal is of two processors with one page, has these logs, and its scenario names these turns.
pub record HasTurns (turns : List ℕ) (logs : List Log) (s : Parts) (j : Journal) : Type 0 where
  pub turns_are : s.turns ≡ Some turns
  pub processors : j.processors ≡ 2
  pub pages : j.pages ≡ 1
  pub logs_are : j.logs ≡ logs

-- ---- processor 0

-- It gives unit 0 in a plain section, and yields there; in its second turn it leaves that section, and yields in another one.
abbrev pub makes : List Entry
makes = entry.In Plain 1 ∷ asks ∷ gives 0 (entry.Given 0 1) ++ entry.Yield ∷ []

abbrev pub goes_on : List Entry
goes_on = entry.Out Plain 2 ∷ entry.In Plain 3 ∷ entry.Yield ∷ entry.Out Plain 4 ∷ []

-- In its third turn it receives the unit, gives it again by this reply, and frees it plainly.
abbrev pub makes_again : Entry → List Entry
makes_again reply =
    entry.Receive 10 (Whole (0 ∷ [])) ∷ entry.Ready 10 0 ∷ pushes 0 ++ entry.In Plain 5 ∷ asks
    ∷ gives 0 reply ++ frees 0 2 0 ++ entry.Out Plain 6 ∷ []

abbrev pub closes : List Entry
closes =
    entry.Ended ∷ entry.Close ∷ sweeps 0 2
    ++ period Tracing 1 (6 ∷ 0 ∷ 4 ∷ 0 ∷ []) (6 ∷ 0 ∷ 4 ∷ 0 ∷ []) ++ returns 0 2

abbrev pub sealed : Entry
sealed = entry.GivenAfter 0 2 2 2

abbrev pub maker_with : List Entry → Entry → Log
maker_with second reply =
    ordinary (opens (0 ∷ []) ++ makes ++ second ++ makes_again reply ++ closes)

abbrev pub maker : Log
maker = maker_with goes_on sealed

-- ---- processor 1

-- It finds no unit in the stock. It frees unit 0 with delay to this home, and stamps the batch that the unit is in.
abbrev pub gives_up : ℕ → List Entry
gives_up home = entry.In Plain 1 ∷ delays 0 1 home ++ entry.Out Plain 2 ∷ batches 0 2

-- It begins a period, which doesn't end, and yields.
abbrev pub waits : List Entry
waits =
    entry.Begin Plain 1 ∷ entry.Pass 10 Plain 1 ∷ entry.In Plain 3 ∷ entry.Yield ∷ entry.Out Plain 4
    ∷ []

-- In its second turn the period ends with these later words, and the batch goes to a processor.
abbrev pub ends_with : List ℕ → ℕ → List Entry
ends_with later to = ends Plain 2 (1 ∷ 2 ∷ []) later ∷ sends 0 2 to ++ entry.Ended ∷ []

abbrev pub freer_with : List ℕ → List Entry → Log
freer_with units after = ordinary (opens units ++ after)

abbrev pub freer : Log
freer = freer_with [] (gives_up 0 ++ waits ++ ends_with (3 ∷ 4 ∷ []) 0)

-- ---- both

-- A unit goes from one processor's allocation to the other's free, and home as a parcel, once a period has ended that a section of
-- the former held up. There it is given again, with its seal.
abbrev pub lent : List Log
lent = maker ∷ freer ∷ []

-- the turns that the scenario names; what is left of processor 0 comes after them
abbrev pub turns : List ℕ
turns = 0 ∷ 1 ∷ 0 ∷ 1 ∷ []

-- ---- wrong ones

-- The period ends within the section that was there when it began.
abbrev pub ended_in_section : List Log
ended_in_section =
    maker ∷ freer_with [] (gives_up 0 ++ entry.Begin Plain 1 ∷ ends_with (1 ∷ 2 ∷ []) 0) ∷ []

-- It is ended by the processor that didn't begin it.
abbrev pub ended_by_other : List Log
ended_by_other =
    maker_with (entry.Out Plain 2 ∷ ends Plain 2 (1 ∷ 2 ∷ []) (2 ∷ 3 ∷ []) ∷ goes_on) sealed ∷ freer
    ∷ []

-- The unit is given again without a seal.
abbrev pub given_unsealed : List Log
given_unsealed = maker_with goes_on (entry.Given 0 2) ∷ freer ∷ []

-- Its batch is sent while the period goes on.
abbrev pub sent_in_period : List Log
sent_in_period =
    maker_with goes_on (entry.GivenAfter 0 2 2 1)
    ∷ freer_with [] (gives_up 0 ++ entry.Begin Plain 1 ∷ sends 0 1 0 ++ entry.Ended ∷ []) ∷ []

-- Processor 1 opens with the unit that processor 0 has.
abbrev pub opened_twice : List Log
opened_twice = maker ∷ freer_with (0 ∷ []) (gives_up 0 ++ waits ++ ends_with (3 ∷ 4 ∷ []) 0) ∷ []

-- It frees the unit as if it had given it.
abbrev pub freed_to_itself : List Log
freed_to_itself = maker ∷ freer_with [] (gives_up 1 ++ waits ++ ends_with (3 ∷ 4 ∷ []) 0) ∷ []

-- It sends the parcel to itself, and processor 0 receives it.
abbrev pub sent_to_itself : List Log
sent_to_itself = maker ∷ freer_with [] (gives_up 0 ++ waits ++ ends_with (3 ∷ 4 ∷ []) 1) ∷ []

-- The same logs, where processor 0 has two turns before processor 1 has one.
abbrev pub other_turns : List ℕ
other_turns = 0 ∷ 0 ∷ 1 ∷ 1 ∷ []
