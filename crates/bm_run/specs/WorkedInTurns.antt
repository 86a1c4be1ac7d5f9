-- Worked turns of two processors, their order, and a wrong one. Entries of which no order speaks are left out: scripts, calls and their
-- flags. There is one page with one unit of class 10, whose units have 4096 bytes.
use Rattle.std.specs.Prelude.{ℕ, List, [], ◌∷◌, ◌++◌}
use Rattle.bm_journal.specs.declared.ids.Domain.TheVariants.{Plain}
use Rattle.bm_journal.specs.declared.units.Units.TheVariants.{Whole}
use Rattle.bm_journal.specs.declared.entry.Entry.TheVariants as entry
use Rattle.bm_law.specs.Lists.{Log}
use Rattle.bm_law_order.specs.Orders.{Order, by}
use Rattle.bm_run.specs.InTurns.{LogParts, RunParts, log_from}

-- ---- processor 0

-- It enters a section, in which a handler runs, and yields there.
abbrev pub enters : Log
enters = (0, entry.In Plain 1) ∷ (1, entry.Handler []) ∷ (1, entry.Back []) ∷ (0, entry.Yield) ∷ []

-- In its second turn it leaves the section, and ends.
abbrev pub leaves : Log
leaves = (0, entry.Out Plain 2) ∷ (0, entry.Ended) ∷ []

abbrev pub zero_parts : LogParts
zero_parts = record {
  fills = (0, entry.Fill 10 (Whole (0 ∷ []))) ∷ [];
  pieces = enters ∷ leaves ∷ [];
  given = (0, entry.Close) ∷ [];
  finishes = [];
  sweeps = (0, entry.Sweep 10 (Whole (0 ∷ []))) ∷ (0, entry.Return 10 (Whole (0 ∷ []))) ∷ [];
}

-- ---- processor 1

-- It begins a period and yields; in its second turn it does nothing, and ends.
abbrev pub begins : Log
begins = (0, entry.Begin Plain 1) ∷ (0, entry.Yield) ∷ []

abbrev pub ends : Log
ends = (0, entry.Ended) ∷ []

abbrev pub one_parts : LogParts
one_parts = record {
  fills = (0, entry.Fill 10 (Whole [])) ∷ [];
  pieces = begins ∷ ends ∷ [];
  given = [];
  finishes = (
    0,
    entry.Finish (record { domain = Plain; number = 2; first = 0 ∷ 0 ∷ []; later = 2 ∷ 0 ∷ [] }),
  )
      ∷ [];
  sweeps = [];
}

abbrev pub both : RunParts
both = record {
  fills = zero_parts.fills ∷ one_parts.fills ∷ [];
  taken = zero_parts.pieces ∷ one_parts.pieces ∷ [];
  given = zero_parts.given ∷ one_parts.given ∷ [];
  finishes = zero_parts.finishes ∷ one_parts.finishes ∷ [];
  sweeps = zero_parts.sweeps ∷ one_parts.sweeps ∷ [];
}

abbrev pub both_logs : List Log
both_logs = log_from zero_parts ∷ log_from one_parts ∷ []

-- ---- their orders

-- The scenario names processor 1 three times. It ends with its second turn, so that its third one is nothing; then processor 0 goes on.
abbrev pub one_ends_early : List ℕ
one_ends_early = 1 ∷ 0 ∷ 1 ∷ 1 ∷ []

abbrev pub one_ends_first : Order
one_ends_first = by 1 begins ++ (by 0 enters ++ (by 1 ends ++ by 0 leaves))

-- It names each of them once: then processor 0, the lowest, goes on to its end before processor 1 does.
abbrev pub once_each : List ℕ
once_each = 1 ∷ 0 ∷ []

abbrev pub lowest_first : Order
lowest_first = by 1 begins ++ (by 0 enters ++ (by 0 leaves ++ by 1 ends))

-- with the openings before the turns' order, and the closings after it
abbrev pub with_closing : Order → Order
with_closing order =
    by 0 zero_parts.fills
    ++ (by 1 one_parts.fills
    ++ (order
    ++ (by 0 zero_parts.given ++ (by 1 one_parts.finishes ++ by 0 zero_parts.sweeps))))

-- Wrong: when each had its turn, processor 1, the highest, takes its next one.
abbrev pub highest_first : Order
highest_first = by 1 begins ++ (by 0 enters ++ by 1 ends)
