-- Parts of a log in which no parcel comes or goes: fills, calls, refills, and the closing but for its sweeps.
use Rattle.std.proofs.Common.{ℕ, zero, suc, List, [], ◌∷◌, ◌++◌, Option, Some, None, sym, subst}
use Rattle.bm_journal.specs.declared.ids.Domain.{Domain}
use Rattle.bm_journal.specs.declared.ids.Domain.TheVariants.{Plain, Tracing}
use Rattle.bm_journal.specs.declared.units.Units.TheVariants.{Whole}
use Rattle.bm_journal.specs.declared.entry.Entry.{Entry}
use Rattle.bm_journal.specs.declared.entry.Entry.TheVariants as entry
use Rattle.bm_law.specs.Lists.{Log}
use Rattle.bm_law.specs.SweepPhrases.{PollPhrase}
use Rattle.bm_law_work.proofs.Each.{of-append, part-nothing, part-say, part-then}
use Rattle.bm_law_scenario.specs.Closing.{close_of, in_progress, EndsOne, EndsPeriods, IsEnd}
use Rattle.bm_law_logs.proofs.QuietEntries.{AllQuiet, IsQuiet, QuietPart, poll-quiet}

pub quiet-ended : (p : ℕ) → AllQuiet (entry.Ended ∷ close_of p)
quiet-ended zero = (tt, (tt, tt))
quiet-ended (suc p) = (tt, tt)

quiet-ends_one : (d : Domain) (begun : Option ℕ) → QuietPart 0 (EndsOne d begun)
quiet-ends_one d None = part-nothing IsQuiet 0
quiet-ends_one d (Some n) = part-say IsQuiet 0 (IsEnd d n) (λ own h. subst AllQuiet (sym h.3) (tt, tt))

pub quiet-ends : (log : Log) → QuietPart 0 (EndsPeriods log)
quiet-ends log = part-then IsQuiet 0 (EndsOne Plain (in_progress Plain None log)) (EndsOne Tracing (in_progress Tracing None log)) (quiet-ends_one Plain (in_progress Plain None log)) (quiet-ends_one Tracing (in_progress Tracing None log))

-- what stands behind the first entry of a sweep
pub quiet-behind : (c stamp : ℕ) (poll : List Entry) (returned : List ℕ) → PollPhrase c Tracing poll → AllQuiet (entry.Stamp c Tracing stamp ∷ poll ++ entry.Return c (Whole returned) ∷ [])
quiet-behind c stamp poll returned p = (tt, of-append IsQuiet poll (entry.Return c (Whole returned) ∷ []) (poll-quiet c Tracing poll p) (tt, tt))
