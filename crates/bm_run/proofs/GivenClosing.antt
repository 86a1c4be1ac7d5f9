-- The whole closing of a processor, by what it gives up, the periods that it ends and its sweeps; and what all processors give up, one
-- after the other.
use Rattle.std.specs.Prelude.{get_or, length}
use Rattle.std.proofs.Common.{◌≡◌, ◌<◌, ◌+◌, ℕ, suc, List, [], ◌∷◌, ◌++◌, append_assoc, arith, refl, ◌∙◌, ap, subst}
use Rattle.bm_journal.specs.declared.entry.Entry.TheVariants as entry
use Rattle.bm_law.specs.Alone.{AllAt}
use Rattle.bm_law.specs.Lists.{Log, after}
use Rattle.bm_law.specs.State.{State}
use Rattle.bm_law.proofs.Folds.{after-append}
use Rattle.bm_law_order.specs.Orders.{AllFit, by, over}
use Rattle.bm_law_order.specs.Seals.{Waiting, waiting_after}
use Rattle.bm_law_order.proofs.Along.{fit-append}
use Rattle.bm_law_seals.specs.Batches.{BatchFits, GivesNoMore}
use Rattle.bm_law_work.specs.Parts.{Then}
use Rattle.bm_law_scenario.specs.Closing.{AreSweeps, Closing, EndsPeriods}
use Rattle.bm_law_scenario.specs.Declared.{Declared}
use Rattle.bm_run.specs.Between.{GivesFirst}
use Rattle.bm_run.specs.InTurns.{one_by_one}
use Rattle.bm_run.proofs.BatchesTold.{no-more, no-more-append}
use Rattle.bm_run.proofs.GivenLaws.{given-batches, given-none}

-- ---- the closing of one

pub given-closing : (d : Declared) (p : ℕ) (classes : List ℕ) (front : Log) (t : State ℕ) (given finishes sweeps : Log) → GivesFirst d p t given → EndsPeriods front (after t given) finishes → AreSweeps classes (after (after t given) finishes) sweeps →
    Closing d p classes front t ((0, entry.Ended) ∷ (given ++ (finishes ++ sweeps)))
given-closing d p classes front t given finishes sweeps h ends swept =
    let rest : Log = finishes ++ sweeps in
    let apart : after t given ≡ after (after t h.one) h.two = ap (after t) h.part_is ∙ after-append t h.one h.two in
    let last : Then (EndsPeriods front) (AreSweeps classes) (after t given) rest = record { one = finishes; two = sweeps; part_is = refl; is_first = ends; is_second = swept } in
    record {
      one = (0, entry.Ended) ∷ h.one;
      two = h.two ++ rest;
      part_is = ap (λ (z : Log). (0, entry.Ended) ∷ z) (ap (λ (z : Log). z ++ rest) h.part_is ∙ append_assoc h.one h.two rest);
      is_first = record { from = (omega arith, h.is_first.from); own_is = ap (λ es. entry.Ended ∷ es) h.is_first.own_is };
      is_second = record {
        one = h.two;
        two = rest;
        part_is = refl;
        is_first = h.is_second;
        is_second = subst (λ (x : State ℕ). Then (EndsPeriods front) (AreSweeps classes) x rest) apart last;
      };
    }

-- ---- what all of them give up

-- of these declarations each of these logs gives up something, and is of ordinary code alone
abbrev pub AllGiven : Declared → ℕ → List Log → Type 0
AllGiven d k logs = (i : ℕ) → i < length logs → ((t : State ℕ) × GivesFirst d (k + i) t (get_or logs i [])) × AllAt 0 (get_or logs i [])

given-behind : (d : Declared) (k : ℕ) (log : Log) (logs : List Log) → AllGiven d k (log ∷ logs) → AllGiven d (k + 1) logs
given-behind d k log logs h i lt =
    let x = h (suc i) (omega (arith, lt)) in
    let same : k + suc i ≡ (k + 1) + i = omega arith in
    ((x.0.0, subst (λ q. GivesFirst d q x.0.0 (get_or logs i [])) same x.0.1), x.1)

-- they give no unit
pub given-no-more : (d : Declared) (k : ℕ) (logs : List Log) → AllGiven d k logs → GivesNoMore (one_by_one k logs)
given-no-more d k [] h = tt
given-no-more d k (log ∷ logs) h =
    let x = h 0 (omega arith) in
    no-more-append (by k log) (one_by_one (k + 1) logs) (no-more k log (given-none d (k + 0) x.0.0 log x.0.1 x.1)) (given-no-more d (k + 1) logs (given-behind d k log logs h))

-- they take no stamp and send nothing
pub given-all-batches : (d : Declared) (k : ℕ) (logs : List Log) (m : Waiting) → AllGiven d k logs → AllFit waiting_after BatchFits (one_by_one k logs) m
given-all-batches d k [] m h = tt
given-all-batches d k (log ∷ logs) m h =
    let x = h 0 (omega arith) in
    fit-append waiting_after BatchFits (by k log) (one_by_one (k + 1) logs) m (given-batches d (k + 0) x.0.0 log x.0.1 x.1 k m) (given-all-batches d (k + 1) logs (over waiting_after (by k log) m) (given-behind d k log logs h))
