-- Deferred work neither yields nor sweeps.
use Rattle.std.proofs.Common.{ℕ, List, [], ◌∷◌, Option, Some, None, refl, arith}
use Rattle.bm_journal.specs.declared.entry.Entry.{Entry}
use Rattle.bm_journal.specs.declared.entry.Entry.TheVariants as entry
use Rattle.bm_law.specs.Lists.{Log}
use Rattle.bm_law.specs.Spans.{AllFrom, own_entries}
use Rattle.bm_law.specs.State.{State}
use Rattle.bm_law_work.specs.Grown.{GrewBy}
use Rattle.bm_law_work.specs.Parts.{Part}
use Rattle.bm_law_work.specs.WorkPhrases.{Work}
use Rattle.bm_law_work.proofs.Each.{AllOf}
use Rattle.bm_law_scenario.specs.WorkEntries.{IsOfWork}
use Rattle.bm_law_scenario.specs.Works.{UntilDown, WorkBehind}
use Rattle.bm_law_scenario.proofs.OfWork.{work-writes}
use Rattle.bm_law_scenario.proofs.PartLaws.{Has, Laws, has-laws, law-behind, law-until}
use Rattle.bm_exec.specs.Yields.{IsInTurn, AllInTurn, Unyielding}
use Rattle.bm_exec.proofs.Yields.{none-append}

work-none : (c : ℕ) (e : Entry) → IsOfWork c e → IsInTurn e
work-none c entry.Yield q = absurd q
work-none c (entry.Sweep k us) q = absurd q
work-none c _ q = tt

all-none : (c : ℕ) (es : List Entry) → AllOf (IsOfWork c) es → AllInTurn es
all-none c [] h = tt
all-none c (e ∷ es) h = (work-none c e h.0, all-none c es h.1)

-- works of these classes yield nothing, until no flag is up and after a script
works-none : (P : Part) → Has AllInTurn P → (s : State ℕ) (a b : Option Log) → GrewBy P s a b → Unyielding 0 a b
works-none P f s a None h = record { own = []; none = tt; records = tt }
works-none P f s a (Some now) h = record {
  own = own_entries 0 h.added;
  none = f s h.added h.is_part;
  records = record { log = h.log; told = h.told; added = h.added; now_is = h.now_is; from = from-zero h.added; owned = refl };
}
  where
    from-zero : (log : Log) → AllFrom 0 log
    from-zero [] = tt
    from-zero (e ∷ log) = (omega arith, from-zero log)

no-yields : Laws (Has AllInTurn)
no-yields = has-laws AllInTurn (record { none = tt; join = none-append })

one-none : (c : ℕ) → Has AllInTurn (Work 0 c)
one-none c s part h = all-none c (own_entries 0 part) (work-writes 0 c s part h)

pub works-unyielding : (cs : List ℕ) (s : State ℕ) (a b : Option Log) → GrewBy (UntilDown cs) s a b → Unyielding 0 a b
works-unyielding cs = works-none (UntilDown cs) (law-until (Has AllInTurn) no-yields cs (λ c m. one-none c))

pub behind-unyielding : (cs : List ℕ) (s : State ℕ) (a b : Option Log) → GrewBy (WorkBehind cs) s a b → Unyielding 0 a b
behind-unyielding cs = works-none (WorkBehind cs) (law-behind (Has AllInTurn) no-yields cs (λ c m. one-none c))
