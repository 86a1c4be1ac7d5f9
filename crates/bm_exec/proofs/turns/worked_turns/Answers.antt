use Rattle.std.proofs.Common.{◌≡◌, ◌∙◌, List, [], ◌∷◌, ◌++◌, Some, refl, arith, ap, subst, sym}
use Rattle.bm_journal.specs.declared.entry.Entry.{Entry}
use Rattle.bm_journal.specs.declared.entry.Entry.TheVariants as entry
use Rattle.bm_law.specs.Lists.{Log}
use Rattle.bm_law.specs.Spans.{own_entries}
use Rattle.bm_exec.specs.Yields.{IsInTurn, AllInTurn, Unyielding, YieldsLast}
use Rattle.bm_exec.specs.WorkedTurns.{a_drop, a_drop_then_yield, sweeps_after, yields_above}
use Rattle.bm_exec.proofs.turns.worked_turns.Goals as goal

-- entries that end with their only yield
abbrev YieldsAtLast : List Entry → Type 0
YieldsAtLast [] = ⊥
YieldsAtLast (entry.Yield ∷ []) = Unit {0}
YieldsAtLast (e ∷ es) = IsInTurn e × YieldsAtLast es

last-so : (own : List Entry) → AllInTurn own → YieldsAtLast (own ++ entry.Yield ∷ [])
last-so [] n = tt
last-so (entry.Yield ∷ own) n = absurd n.0
last-so (e ∷ own) n = (n.0, last-so own n.1)

yields-so : (log : Log) → YieldsLast 0 (Some []) (Some log) → YieldsAtLast (own_entries 0 log)
yields-so log y =
    let r = y.records in
    let none : r.log ≡ [] = (let t = r.told in cc) in
    let added : r.added ≡ log = sym (r.now_is ∙ ap (λ (z : Log). z ++ r.added) none) in
    subst YieldsAtLast (sym (ap (own_entries 0) (sym added) ∙ r.owned)) (last-so y.own y.none)

none-so : (log : Log) → Unyielding 0 (Some []) (Some log) → AllInTurn (own_entries 0 log)
none-so log y =
    let r = y.records in
    let none : r.log ≡ [] = (let t = r.told in cc) in
    let added : r.added ≡ log = sym (r.now_is ∙ ap (λ (z : Log). z ++ r.added) none) in
    subst AllInTurn (sym (ap (own_entries 0) (sym added) ∙ r.owned)) y.none

pub returns-clause-yielded : goal.returns-clause-yielded
returns-clause-yielded c = record {
  own = entry.Drop 0 1 ∷ entry.Last ∷ entry.Free 0 0 ∷ [];
  none = (tt, (tt, (tt, tt)));
  records = record { log = []; told = refl; added = a_drop_then_yield; now_is = refl; from = (omega arith, (omega arith, (omega arith, (omega arith, (omega arith, (omega arith, tt)))))); owned = refl };
}

pub returns-clause-ended : goal.returns-clause-ended
returns-clause-ended c = record {
  own = entry.Drop 0 1 ∷ entry.Last ∷ entry.Free 0 0 ∷ [];
  none = (tt, (tt, (tt, tt)));
  records = record { log = []; told = refl; added = a_drop; now_is = refl; from = (omega arith, (omega arith, (omega arith, (omega arith, (omega arith, tt))))); owned = refl };
}

pub returns-clause-above : goal.returns-clause-above
returns-clause-above c = record {
  own = entry.Drop 0 1 ∷ entry.Last ∷ entry.Free 0 0 ∷ [];
  none = (tt, (tt, (tt, tt)));
  records = record { log = []; told = refl; added = yields_above; now_is = refl; from = (omega arith, (omega arith, (omega arith, (omega arith, (omega arith, (omega arith, tt)))))); owned = refl };
}

pub returns-clause-ended_with_one : goal.returns-clause-ended_with_one
returns-clause-ended_with_one c y = (none-so a_drop_then_yield y).1.1.1.0

pub returns-clause-yielded_without_one : goal.returns-clause-yielded_without_one
returns-clause-yielded_without_one c y = (yields-so a_drop y).1.1.1

pub returns-clause-past_it : goal.returns-clause-past_it
returns-clause-past_it c y = (yields-so (a_drop_then_yield ++ a_drop) y).1.1.1.0

pub returns-clause-two : goal.returns-clause-two
returns-clause-two c y = (yields-so (a_drop_then_yield ++ a_drop_then_yield) y).1.1.1.0

pub returns-clause-swept : goal.returns-clause-swept
returns-clause-swept c y = (none-so sweeps_after y).1.1.1.0

pub returns-clause-no_yield_of_its_own : goal.returns-clause-no_yield_of_its_own
returns-clause-no_yield_of_its_own c y = (yields-so yields_above y).1.1.1
