-- What processors that have swept leave.
use Rattle.std.specs.Prelude.{get_or}
use Rattle.std.specs.List.{All}
use Rattle.std.proofs.Common.{◌≡◌, ◌<◌, ℕ, List, Option, Some, map, arith, sym, ap, subst}
use Rattle.std.proofs.lemmas.Option.{get_or_from_slice_get}
use Rattle.bm_journal.specs.declared.past.Past.{Past}
use Rattle.bm_law.specs.State.{Side}
use Rattle.bm_cache.specs.Tokens.{Token}
use Rattle.bm_closing.specs.declared.crew.Phase.TheVariants.{Ends, Sweeps}
use Rattle.bm_exec_levels.specs.declared.kept.Kept.{Kept}
use Rattle.bm_law.specs.Lists.{Log}
use Rattle.bm_closing.specs.Crews.{StepsBelow}
use Rattle.bm_run.specs.Closers.{CloseTogether, Gathered, IsAmong, IsEmptied, OwnAfter, TellsHistories, TookStep, log_kept}
use Rattle.bm_run.specs.declared.closers.Closers.{Closers}
use Rattle.bm_run.specs.ClosersCrew.{gathered}
use Rattle.bm_run.proofs.ClosersLists.{steps-gathered}

pub is-emptied : (g : Gathered) (p : ℕ) (d : Option Kept) → IsAmong (OwnAfter Sweeps) g p → IsEmptied (get_or g.places p d)
is-emptied g p d x = record {
  kept = x.kept;
  there = get_or_from_slice_get g.places p (Some x.kept) d x.keeps;
  lists = x.own.lists;
  hands = λ l. ap (λ (h : Side Token). h.hand) (x.rests.fine.ready.sides l (omega arith));
}

-- each of them is there
pub all-emptied : (g : Gathered) → ((p : ℕ) → p < g.processors → IsAmong (OwnAfter Sweeps) g p) → 0 < g.processors → All IsEmptied g.places
all-emptied g has some k d lt =
    let many = (has 0 some).together.many in
    is-emptied g k d (has k (omega (arith, many, lt)))

-- By the steps of both phases they came together to what they leave.
pub together-by : (a b : Closers) (logs : List Log) (histories : List (List ℕ × List Past)) → (m : Closers) × StepsBelow (λ p x y. TookStep Ends p (gathered x) (gathered y)) a.processors a m × StepsBelow (λ p x y. TookStep Sweeps p (gathered x) (gathered y)) a.processors m b → b.processors ≡ a.processors → ((p : ℕ) → p < b.processors → IsAmong (OwnAfter Sweeps) (gathered b) p) → map Some logs ≡ map log_kept b.places.items → TellsHistories b.world histories → CloseTogether (gathered a) logs histories
together-by a b logs histories goes count has told histories_are = record {
  middle = gathered goes.0;
  now = gathered b;
  ends = steps-gathered Ends a.processors a goes.0 goes.1;
  sweeps = steps-gathered Sweeps a.processors goes.0 b goes.2;
  has = λ p lt. has p (subst (λ n. p < n) (sym count) lt);
  same = count;
  logs_are = told;
  histories_are = histories_are;
}
