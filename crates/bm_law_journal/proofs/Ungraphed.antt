-- What worked journals say of lists and trees, where none is declared.
use Rattle.std.specs.Prelude.{get_or}
use Rattle.std.proofs.Common.{◌≡◌, ℕ, zero, suc, List, [], ◌∷◌, refl}
use Rattle.bm_law_lives.specs.WorkedBlock.{one_block_log}
use Rattle.bm_law_scenario.specs.WorkedDrops.{counted_log}
use Rattle.bm_law_graphs.specs.GraphLaws.{GraphLaws}
use Rattle.bm_law_graphs.specs.History.{calls_on, of_processor, placed}
use Rattle.bm_law_graphs.specs.Locks.{Consecutive, Free}
use Rattle.bm_law_journal.specs.Lawful.{history_of}

one_block-parts : (name : List ℕ) (p : ℕ) → of_processor p (placed 0 []) ≡ calls_on [] name p (get_or (one_block_log ∷ []) p [])
one_block-parts name zero = refl
one_block-parts name (suc p) = refl

one_block-locks : (name : List ℕ) (p : ℕ) → Consecutive name Free (get_or (one_block_log ∷ []) p [])
one_block-locks name zero = search tt
one_block-locks name (suc p) = tt

pub one_block-graphs : GraphLaws [] (history_of []) (one_block_log ∷ [])
one_block-graphs = record {
  each = λ name. record { right = refl; parts = one_block-parts name };
  keys = λ name. tt;
  refusals = λ name. tt;
  locks = λ name p lt. one_block-locks name p;
  takes = λ u life. refl;
}

shared-parts : (name : List ℕ) (p : ℕ) → of_processor p (placed 0 []) ≡ calls_on [] name p (get_or (counted_log ∷ []) p [])
shared-parts name zero = refl
shared-parts name (suc p) = refl

shared-locks : (name : List ℕ) (p : ℕ) → Consecutive name Free (get_or (counted_log ∷ []) p [])
shared-locks name zero = search tt
shared-locks name (suc p) = tt

pub shared-graphs : GraphLaws [] (history_of []) (counted_log ∷ [])
shared-graphs = record {
  each = λ name. record { right = refl; parts = shared-parts name };
  keys = λ name. tt;
  refusals = λ name. tt;
  locks = λ name p lt. shared-locks name p;
  takes = λ u life. refl;
}
