-- The first maps of a program were emptied.
use Rattle.std.proofs.Common.{◌≡◌, ◌∙◌, ◌<◌, ◌≤◌, ◌+◌, ◌*◌, ℕ, suc, List, [], ◌∷◌, None, ap, arith, inl, inr, length, map, refl, subst, sym}
use Rattle.std.specs.Prelude.{◌^◌}
use Rattle.std.proofs.lemmas.Bool.{cases_lt}
use Rattle.std.proofs.lemmas.Bool.Decides.{eqb_tells}
use Rattle.bm_lang.specs.declared.scenario.MapDeclaration.{MapDeclaration}
use Rattle.bm_law_order.specs.Graphs.{NamedGraph, graph_at, graph_names_in, standing_from}
use Rattle.bm_world.specs.Graphs.{items_in}
use Rattle.bm_world.specs.LivingState.{LivingState}
use Rattle.bm_world.specs.ToldLiving.{knows_living}
use Rattle.bm_exec_levels.specs.AtProcessor.{Between, FineAt, graphs_of}
use Rattle.bm_exec_levels.specs.Ready.{asked_of}
use Rattle.bm_exec_levels.specs.Sound.{Sound}
use Rattle.bm_exec_levels.specs.declared.processor.Processor.{Processor}
use Rattle.bm_exec_levels.specs.declared.program.Program.{Program}
use Rattle.bm_exec_levels.proofs.Going.{between-none}
use Rattle.bm_exec_levels.proofs.Noted.{between-join, between-most}
use Rattle.bm_run.specs.Emptied.{EmptiedAt, HasRoomFor}
use Rattle.bm_run.proofs.EmptiedGraphs.{items-at, none-stand}

-- Nothing is in so many lists and trees, the first ones, any more. Two calls were made for each map, and three for each object that was taken.
pub record EmptiedSoFar (p : Program) (index : ℕ) (a b : Processor LivingState) : Type 0 where
  pub within : index ≤ length p.scenario.now.maps
  pub count : ℕ
  pub fewer : items_in (graphs_of knows_living b) + count ≡ items_in (graphs_of knows_living a)
  pub between : Between knows_living (2 * index + 3 * count) 0 0 p a b
  pub bare : (at : ℕ) → at < index → (graph_at at (graphs_of knows_living b)).nodes ≡ []

pub so-far-none : (p : Program) (a : Processor LivingState) → FineAt knows_living 0 a → EmptiedSoFar p 0 a a
so-far-none p a fine = record {
  within = omega arith;
  count = 0;
  fewer = omega arith;
  between = between-none knows_living 0 p a fine;
  bare = λ at lt. absurd (omega (arith, lt));
}

-- one map more was emptied
pub so-far-more : (p : Program) (index : ℕ) (a b c : Processor LivingState) → EmptiedSoFar p index a b → EmptiedAt index (graphs_of knows_living b) (graphs_of knows_living c) → Between knows_living (2 + 3 * length (graph_at index (graphs_of knows_living b)).nodes) 0 0 p b c → index < length p.scenario.now.maps → EmptiedSoFar p (index + 1) a c
so-far-more p index a b c x y z below =
    let n : ℕ = length (graph_at index (graphs_of knows_living b)).nodes in
    let sum : 2 * index + 3 * x.count + (2 + 3 * n) ≡ 2 * (index + 1) + 3 * (x.count + n) = omega arith in
    record {
      within = omega (arith, below);
      count = x.count + n;
      fewer = (let u = x.fewer in let v = y.fewer in omega (arith, u, v));
      between = subst (λ k. Between knows_living k 0 0 p a c) sum (between-join knows_living (2 * index + 3 * x.count) 0 (2 + 3 * n) 0 0 p a b c x.between z);
      bare = λ at lt. elim (eqb_tells at index) [
        | inl w ↦ subst (λ k. (graph_at k (graphs_of knows_living c)).nodes ≡ []) (sym w.1) y.bare
        | inr w ↦ (let off = w.1 in ap (λ (g : NamedGraph). g.nodes) (y.others at off) ∙ x.bare at (less at off lt))
      ];
    }
  where
    less : (at : ℕ) → (at ≡ index → ⊥) → at < index + 1 → at < index
    less at n lt = elim (cases_lt at index) [
      | inl y ↦ y
      | inr z ↦ absurd (n (omega (arith, z, lt)))
    ]

-- there is room for the next one
pub room-for-next : (p : Program) (index : ℕ) (a b : Processor LivingState) → EmptiedSoFar p index a b → HasRoomFor p a → index < length p.scenario.now.maps → asked_of knows_living p.scenario.now b + 2 + 3 * length (graph_at index (graphs_of knows_living b)).nodes < 2 ^ 22
room-for-next p index a b x room lt =
    let most = x.between.stays.asks_most in
    let fewer = x.fewer in
    let some = items-at index (graphs_of knows_living b) in
    omega (arith, room, most, fewer, some, lt)

same-many : (gs : List NamedGraph) (ms : List MapDeclaration) → graph_names_in gs ≡ map (λ (m : MapDeclaration). m.name) ms → length gs ≡ length ms
same-many [] [] e = refl
same-many [] (m ∷ ms) e = absurd (cc)
same-many (g ∷ gs) [] e = absurd (cc)
same-many (g ∷ gs) (m ∷ ms) e = (let rest : graph_names_in gs ≡ map (λ (x : MapDeclaration). x.name) ms = cc in ap suc (same-many gs ms rest))

-- all were emptied
module _ (p : Program) (a b : Processor LivingState) (index : ℕ) (x : EmptiedSoFar p index a b) (all : length p.scenario.now.maps ≤ index) where
  pub bare-all : Sound knows_living p b → (u : ℕ) → standing_from 0 (graphs_of knows_living b) u ≡ None
  bare-all s u =
      let many = same-many (graphs_of knows_living b) p.scenario.now.maps s.at.ready.stocked.graphs in
      none-stand 0 (graphs_of knows_living b) (λ at lt. x.bare at (omega (arith, lt, many, all))) u

  pub between-all : Between knows_living (2 * length p.scenario.now.maps + 3 * items_in (graphs_of knows_living a)) 0 0 p a b
  between-all =
      let fewer = x.fewer in
      let within = x.within in
      between-most knows_living (2 * index + 3 * x.count) (2 * length p.scenario.now.maps + 3 * items_in (graphs_of knows_living a)) 0 0 p a b (omega (arith, fewer, within)) x.between
