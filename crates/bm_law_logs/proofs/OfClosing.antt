-- What a closing leaves behind the maps is of the entries of closings.
use Rattle.std.proofs.Common.{ℕ, List, [], ◌∷◌, ◌++◌, Option, Some, None, sym, subst, inl, inr}
use Rattle.bm_journal.specs.declared.ids.Domain.{Domain}
use Rattle.bm_journal.specs.declared.ids.Domain.TheVariants.{Plain, Tracing}
use Rattle.bm_journal.specs.declared.units.Units.TheVariants.{Whole}
use Rattle.bm_journal.specs.declared.entry.Entry.{Entry}
use Rattle.bm_journal.specs.declared.entry.Entry.TheVariants as entry
use Rattle.bm_law.specs.Lists.{Log}
use Rattle.bm_law.specs.State.{seven_lists}
use Rattle.bm_law.specs.SweepPhrases.{MayBegin, MayFinish, PollPhrase, SweepPhrase}
use Rattle.bm_law_work.specs.Parts.{Then}
use Rattle.bm_law_work.proofs.Each.{AllOf, PartOf, of-append, part-nothing, part-say, part-then}
use Rattle.bm_law_scenario.specs.Closing.{AreSweeps, EndsOne, EndsPeriods, SweepOf, SweepWhere, in_progress}
use Rattle.bm_law_logs.specs.ClosingEntries.{IsOfClosing}

abbrev Closes : List Entry → Type 0
Closes es = AllOf IsOfClosing es

of-finish : (d : Domain) (own : List Entry) → MayFinish d own → Closes own
of-finish d own (inl e) = subst Closes (sym e) tt
of-finish d own (inr x) = subst Closes (sym x.1) (subst (λ (e : Entry). Closes (e ∷ [])) (sym x.2.2) (tt, tt))

of-begin : (d : Domain) (own : List Entry) → MayBegin d own → Closes own
of-begin d own (inl e) = subst Closes (sym e) tt
of-begin d own (inr x) = subst Closes (sym x.2) (tt, of-finish d x.1 x.3)

of-poll : (c : ℕ) (own : List Entry) → PollPhrase c Tracing own → Closes own
of-poll c own p = subst Closes (sym p.own_is) (of-append IsOfClosing p.ended (p.begun ++ entry.Pass c Tracing p.seen ∷ []) (of-finish Tracing p.ended p.may_finish) (of-append IsOfClosing p.begun (entry.Pass c Tracing p.seen ∷ []) (of-begin Tracing p.begun p.may_begin) (tt, tt)))

of-sweep : (c : ℕ) (own : List Entry) → SweepPhrase c own → Closes own
of-sweep c own p = subst Closes (sym p.own_is) (tt, (tt, of-append IsOfClosing p.poll (entry.Return c (Whole p.returned) ∷ []) (of-poll c p.poll p.polls) (tt, tt)))

of-ends : (d : Domain) (begun : Option ℕ) → PartOf IsOfClosing 0 (EndsOne d begun)
of-ends d None = part-nothing IsOfClosing 0
of-ends d (Some n) = part-say IsOfClosing 0 _ (λ own h. subst Closes (sym h.3) (tt, tt))

of-where : (c : ℕ) (us : List ℕ) → PartOf IsOfClosing 0 (SweepWhere c us)
of-where c [] = part-nothing IsOfClosing 0
of-where c (u ∷ us) = part-say IsOfClosing 0 (SweepOf c (u ∷ us)) (λ own h. of-sweep c own h.phrase)

of-sweeps : (cs : List ℕ) → PartOf IsOfClosing 0 (AreSweeps cs)
of-sweeps [] s part h = part-nothing IsOfClosing 0 s part h
of-sweeps (c ∷ cs) s part h = part-then IsOfClosing 0 (SweepWhere c (seven_lists (s.rows c) ++ h.0)) (AreSweeps cs) (of-where c (seven_lists (s.rows c) ++ h.0)) (of-sweeps cs) s part h.1

pub closing-writes : (classes : List ℕ) (front : Log) → PartOf IsOfClosing 0 (Then (EndsPeriods front) (AreSweeps classes))
closing-writes classes front =
    let ends : PartOf IsOfClosing 0 (EndsPeriods front) = part-then IsOfClosing 0 (EndsOne Plain (in_progress Plain None front)) (EndsOne Tracing (in_progress Tracing None front)) (of-ends Plain (in_progress Plain None front)) (of-ends Tracing (in_progress Tracing None front)) in
    part-then IsOfClosing 0 (EndsPeriods front) (AreSweeps classes) ends (of-sweeps classes)
