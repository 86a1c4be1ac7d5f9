use Rattle.std.proofs.Common.{◌≡◌, ℕ, ◌++◌, [], Some, refl, inl, inr}
use Rattle.std.proofs.lemmas.Bool.Decides.{eqb_tells}
use Rattle.bm_law.specs.State.{opening, seven_lists}
use Rattle.bm_law.specs.Lists.{Log, after, lists_of}
use Rattle.bm_law.proofs.Agree.{leaves-lists}
use Rattle.bm_law.specs.Ordinary.{ordinary}
use Rattle.bm_law_lives.specs.Worked.{borrows, hands_on, lends_and_sweeps}
use Rattle.bm_law_logs.specs.UnitsMoved.{LeavesNothing}
use Rattle.bm_law_logs.specs.WorkedUnits.{kept}
use Rattle.bm_law_logs.proofs.returns_worked.worked_units.Goals as goal

pub returns-clause-freed : goal.returns-clause-freed
returns-clause-freed c u = refl

pub returns-clause-never : goal.returns-clause-never
returns-clause-never c h = let x = h 0 in cc

pub returns-clause-twice : goal.returns-clause-twice
returns-clause-twice c h = let x = h 0 in cc

pub returns-clause-other : goal.returns-clause-other
returns-clause-other c h = let x = h 0 in cc

pub returns-clause-block : goal.returns-clause-block
returns-clause-block c u = refl

pub returns-clause-returned : goal.returns-clause-returned
returns-clause-returned c = record { returned = λ u. refl; receivers = tt; arrive = (λ k u. refl, tt) }

pub returns-clause-received : goal.returns-clause-received
returns-clause-received c k u = refl

pub returns-clause-swept : goal.returns-clause-swept
returns-clause-swept c k u = refl

pub returns-clause-sent : goal.returns-clause-sent
returns-clause-sent c h = let x = h 10 256 in cc

pub returns-clause-received_twice : goal.returns-clause-received_twice
returns-clause-received_twice c h = let x = h 10 256 in cc

pub returns-clause-kept : goal.returns-clause-kept
returns-clause-kept c = (
  after (opening 0) kept,
  record { named = (tt, (refl, (refl, ((refl, refl), (refl, (refl, tt)))))); lists = refl },
  record {
    lists = λ k. elim (eqb_tells k 10) [ inl y ↦ rw y.0 refl | inr y ↦ rw y.0 refl ];
    hands = λ l. elim (eqb_tells l 0) [ inl y ↦ rw y.0 refl | inr y ↦ rw y.0 refl ];
    active = λ k. elim (eqb_tells k 10) [ inl y ↦ rw y.0 refl | inr y ↦ rw y.0 refl ];
  },
)

pub returns-clause-kept_parcels : goal.returns-clause-kept_parcels
returns-clause-kept_parcels c = (tt, (tt, (tt, (tt, (tt, (tt, λ k. refl))))))

pub returns-clause-kept_returned : goal.returns-clause-kept_returned
returns-clause-kept_returned c h = let x = h.returned 0 in cc

abbrev lends_on : Log
lends_on = ordinary (borrows 0 ++ hands_on)

leaves : (p : ℕ) (log : Log) → lists_of p log ≡ Some (after (opening p) log) →
    ((c : ℕ) → seven_lists ((after (opening p) log).rows c) ≡ []) → ((l : ℕ) → ((after (opening p) log).sides l).hand ≡ []) → ((c : ℕ) → ((after (opening p) log).rows c).active ≡ 0) → LeavesNothing p log
leaves p log named lists hands active = (after (opening p) log, leaves-lists p log (after (opening p) log) named, record { lists = lists; hands = hands; active = active })

pub returns-clause-two_leave : goal.returns-clause-two_leave
returns-clause-two_leave c = (
  leaves 0 lends_and_sweeps refl (λ k. elim (eqb_tells k 10) [ inl y ↦ rw y.0 refl | inr y ↦ rw y.0 refl ]) (λ l. elim (eqb_tells l 0) [ inl y ↦ rw y.0 refl | inr y ↦ rw y.0 refl ]) (λ k. elim (eqb_tells k 10) [ inl y ↦ rw y.0 refl | inr y ↦ rw y.0 refl ]),
  (
    leaves 1 lends_on refl (λ k. elim (eqb_tells k 10) [ inl y ↦ rw y.0 refl | inr y ↦ rw y.0 refl ]) (λ l. elim (eqb_tells l 0) [ inl y ↦ rw y.0 refl | inr y ↦ rw y.0 refl ]) (λ k. elim (eqb_tells k 10) [ inl y ↦ rw y.0 refl | inr y ↦ rw y.0 refl ]),
    tt,
  ),
)

pub returns-clause-two_freed : goal.returns-clause-two_freed
returns-clause-two_freed c u = refl
