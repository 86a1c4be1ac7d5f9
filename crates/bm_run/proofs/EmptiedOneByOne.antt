-- Lists and trees that are emptied one object after the other.
use Rattle.std.proofs.Common.{◌≡◌, ◌<◌, ◌≤◌, ◌+◌, ◌*◌, ◌∷◌, [], ℕ, suc, true, false, List, Option, Some, None, arith, length, refl, subst, sym}
use Rattle.std.specs.Prelude.{◌^◌}
use Rattle.bm_journal.specs.declared.entry.Entry.{Entry}
use Rattle.bm_journal.specs.declared.entry.Entry.TheVariants as entry
use Rattle.bm_journal.specs.declared.ids.ObjId.{ObjId}
use Rattle.bm_lang.specs.declared.scenario.MapDeclaration.{MapDeclaration}
use Rattle.bm_lang.specs.declared.scenario.MapKind.{MapKind}
use Rattle.bm_lang.specs.declared.scenario.TypeDeclaration.{TypeDeclaration}
use Rattle.bm_law.specs.Lists.{Log}
use Rattle.bm_law.specs.Spans.{Records}
use Rattle.bm_law.specs.State.{State}
use Rattle.bm_law_order.specs.Graphs.{graph_at}
use Rattle.bm_law_work.specs.Grown.{GrewBy}
use Rattle.bm_law_work.specs.Parts.{Part, Stand, Then}
use Rattle.bm_law_work.proofs.Grown.{grew-map, grew-stand}
use Rattle.bm_law_scenario.specs.Closing.{EmptiesList, EmptiesMap, EmptiesTree, GivesBack}
use Rattle.bm_law_scenario.specs.Declared.{graph_kind}
use Rattle.bm_world.specs.LivingState.{LivingState}
use Rattle.bm_world.specs.ToldLiving.{knows_living}
use Rattle.bm_exec_levels.specs.AtProcessor.{Between, FineAt, graphs_of, lists_of, log_of}
use Rattle.bm_exec_levels.specs.Ready.{asked_of}
use Rattle.bm_exec_levels.specs.declared.processor.Processor.{Processor}
use Rattle.bm_exec_levels.specs.declared.program.Program.{Program}
use Rattle.bm_exec_levels.proofs.Going.{between-none}
use Rattle.bm_exec_levels.proofs.Noted.{between-join, between-most}
use Rattle.bm_run.specs.Emptied.{EmptiedAt}
use Rattle.bm_run.proofs.Emptied.{grew-between}
use Rattle.bm_run.proofs.EmptiedGraphs.{TakenFrom, all-taken, emptied-all, taken-join, taken-none}

-- however many objects it has
abbrev pub AnyTimes : (ℕ → Part) → Part
AnyTimes empties s part = (n : ℕ) × empties n s part

-- Objects were taken out of the list or tree at a place, and given up: where what comes then empties it, all that empties it. At most three
-- calls were made for each.
pub record Emptying (empties : ℕ → Part) (p : Program) (place : ℕ) (a b : Processor LivingState) : Type 0 where
  pub count : ℕ
  pub taken : TakenFrom place count (graphs_of knows_living a) (graphs_of knows_living b)
  pub between : Between knows_living (3 * count) 0 0 p a b
  pub rest : (n : ℕ) (log : Option Log) → GrewBy (empties n) (lists_of b) (log_of b) log → GrewBy (AnyTimes empties) (lists_of a) (log_of a) log

pub emptying-none : (empties : ℕ → Part) (p : Program) (place : ℕ) (a : Processor LivingState) → FineAt knows_living 0 a → Emptying empties p place a a
emptying-none empties p place a fine = record {
  count = 0;
  taken = taken-none place (graphs_of knows_living a) (graphs_of knows_living a) refl;
  between = between-none knows_living 0 p a fine;
  rest = λ n log g. grew-map (empties n) (AnyTimes empties) (lists_of a) (log_of a) log (λ part y. (n, y)) g;
}

-- one more was taken and given up
pub emptying-more : (empties : ℕ → Part) (p : Program) (place i : ℕ) (a b c : Processor LivingState) → Emptying empties p place a b → i ≤ 3 → TakenFrom place 1 (graphs_of knows_living b) (graphs_of knows_living c) → Between knows_living i 0 0 p b c →
    ((n : ℕ) (log : Option Log) → GrewBy (empties n) (lists_of c) (log_of c) log → GrewBy (empties (n + 1)) (lists_of b) (log_of b) log) → Emptying empties p place a c
emptying-more empties p place i a b c x most taken y step =
    let next : 3 * x.count + 3 ≡ 3 * (x.count + 1) = omega arith in
    record {
      count = x.count + 1;
      taken = taken-join place x.count 1 (graphs_of knows_living a) (graphs_of knows_living b) (graphs_of knows_living c) x.taken taken;
      between = subst (λ n. Between knows_living n 0 0 p a c) next (between-join knows_living (3 * x.count) 0 3 0 0 p a b c x.between (between-most knows_living i 3 0 0 p b c most y));
      rest = λ n log g. x.rest (n + 1) log (step n log g);
    }

-- then it was called in vain, and it is empty
module _ (empties : ℕ → Part) (p : Program) (place : ℕ) (a b c : Processor LivingState) (x : Emptying empties p place a b) (taken : TakenFrom place 0 (graphs_of knows_living b) (graphs_of knows_living c)) (y : Between knows_living 1 0 0 p b c) (bare : (graph_at place (graphs_of knows_living c)).nodes ≡ []) where
  all-out : TakenFrom place (x.count + 0) (graphs_of knows_living a) (graphs_of knows_living c)
  all-out = taken-join place x.count 0 (graphs_of knows_living a) (graphs_of knows_living b) (graphs_of knows_living c) x.taken taken

  pub emptied-at : EmptiedAt place (graphs_of knows_living a) (graphs_of knows_living c)
  emptied-at = emptied-all place (x.count + 0) (graphs_of knows_living a) (graphs_of knows_living c) all-out bare

  pub emptied-between : Between knows_living (2 + 3 * length (graph_at place (graphs_of knows_living a)).nodes) 0 0 p a c
  emptied-between =
      let all = all-taken place (x.count + 0) (graphs_of knows_living a) (graphs_of knows_living c) all-out bare in
      between-most knows_living (3 * x.count + 1) (2 + 3 * length (graph_at place (graphs_of knows_living a)).nodes) 0 0 p a c (omega (arith, all)) (between-join knows_living (3 * x.count) 0 1 0 0 p a b c x.between y)

-- so many calls may be made still
pub asks-still : (empties : ℕ → Part) (p : Program) (place : ℕ) (a b : Processor LivingState) → Emptying empties p place a b → asked_of knows_living p.scenario.now a + 2 + 3 * length (graph_at place (graphs_of knows_living a)).nodes < 2 ^ 22 → asked_of knows_living p.scenario.now b + 2 + 3 * length (graph_at place (graphs_of knows_living b)).nodes < 2 ^ 22
asks-still empties p place a b x room = (let most = x.between.stays.asks_most in let left = x.taken.left in omega (arith, room, most, left))

-- ---- what stands in the log

module _ (types : List TypeDeclaration) (m : MapDeclaration) (p : Program) where
  -- a list's first object was popped and given up
  pub list-one : (n i j : ℕ) (a b c : Processor LivingState) (o : ObjId) (position : ℕ) (log : Option Log) → FineAt knows_living 0 a → Between knows_living i 0 0 p a b → Between knows_living j 0 0 p b c → Records 0 (entry.PopFront m.name (Some o) position ∷ []) (log_of a) (log_of b) → GrewBy (GivesBack types m.type_id (Some o)) (lists_of b) (log_of b) (log_of c) →
      GrewBy (EmptiesList types m n) (lists_of c) (log_of c) log → GrewBy (EmptiesList types m (n + 1)) (lists_of a) (log_of a) log
  list-one n i j a b c o position log fine x y said back more =
      let first : Part = Stand 0 (entry.PopFront m.name (Some o) position ∷ []) in
      let second : Part = Then (GivesBack types m.type_id (Some o)) (EmptiesList types m n) in
      let behind : GrewBy second (lists_of b) (log_of b) log = grew-between (GivesBack types m.type_id (Some o)) (EmptiesList types m n) second p j b c log (λ one two s k l. record { one = one; two = two; part_is = refl; is_first = k; is_second = l }) x.fine y back more in
      let all : GrewBy (EmptiesList types m (suc n)) (lists_of a) (log_of a) log = grew-between first second (EmptiesList types m (suc n)) p i a b log (λ one two s k l. (o, position, record { one = one; two = two; part_is = refl; is_first = k; is_second = l })) fine x (grew-stand 0 (entry.PopFront m.name (Some o) position ∷ []) (lists_of a) (log_of a) (log_of b) said) behind in
      let next : suc n ≡ n + 1 = omega arith in
      subst (λ k. GrewBy (EmptiesList types m k) (lists_of a) (log_of a) log) next all

  -- it was popped in vain
  pub list-none : (a : Processor LivingState) (position : ℕ) (log : Option Log) → Records 0 (entry.PopFront m.name None position ∷ []) (log_of a) log → GrewBy (EmptiesList types m 0) (lists_of a) (log_of a) log
  list-none a position log said = grew-map (Stand 0 (entry.PopFront m.name None position ∷ [])) (EmptiesList types m 0) (lists_of a) (log_of a) log (λ part y. (position, y)) (grew-stand 0 (entry.PopFront m.name None position ∷ []) (lists_of a) (log_of a) log said)

  -- a tree's first object was taken out and given up
  pub tree-one : (n i j : ℕ) (a b c : Processor LivingState) (o : ObjId) (seen taken : ℕ) (log : Option Log) → FineAt knows_living 0 a → Between knows_living i 0 0 p a b → Between knows_living j 0 0 p b c → Records 0 (entry.First m.name (Some o) seen ∷ entry.Remove m.name o.unit o.life taken ∷ []) (log_of a) (log_of b) → GrewBy (GivesBack types m.type_id (Some o)) (lists_of b) (log_of b) (log_of c) →
      GrewBy (EmptiesTree types m n) (lists_of c) (log_of c) log → GrewBy (EmptiesTree types m (n + 1)) (lists_of a) (log_of a) log
  tree-one n i j a b c o seen taken log fine x y said back more =
      let own : List Entry = entry.First m.name (Some o) seen ∷ entry.Remove m.name o.unit o.life taken ∷ [] in
      let first : Part = Stand 0 own in
      let second : Part = Then (GivesBack types m.type_id (Some o)) (EmptiesTree types m n) in
      let behind : GrewBy second (lists_of b) (log_of b) log = grew-between (GivesBack types m.type_id (Some o)) (EmptiesTree types m n) second p j b c log (λ one two s k l. record { one = one; two = two; part_is = refl; is_first = k; is_second = l }) x.fine y back more in
      let all : GrewBy (EmptiesTree types m (suc n)) (lists_of a) (log_of a) log = grew-between first second (EmptiesTree types m (suc n)) p i a b log (λ one two s k l. (o, seen, taken, record { one = one; two = two; part_is = refl; is_first = k; is_second = l })) fine x (grew-stand 0 own (lists_of a) (log_of a) (log_of b) said) behind in
      let next : suc n ≡ n + 1 = omega arith in
      subst (λ k. GrewBy (EmptiesTree types m k) (lists_of a) (log_of a) log) next all

  -- its first object was looked for in vain
  pub tree-none : (a : Processor LivingState) (position : ℕ) (log : Option Log) → Records 0 (entry.First m.name None position ∷ []) (log_of a) log → GrewBy (EmptiesTree types m 0) (lists_of a) (log_of a) log
  tree-none a position log said = grew-map (Stand 0 (entry.First m.name None position ∷ [])) (EmptiesTree types m 0) (lists_of a) (log_of a) log (λ part y. (position, y)) (grew-stand 0 (entry.First m.name None position ∷ []) (lists_of a) (log_of a) log said)

  -- all of it, by the kind of the map
  pub list-all : (s : State ℕ) (a b : Option Log) → m.kind ≡ graph_kind false → GrewBy (AnyTimes (EmptiesList types m)) s a b → GrewBy (EmptiesMap types m.kind m) s a b
  list-all s a b kind g = subst (λ (k : MapKind). GrewBy (EmptiesMap types k m) s a b) (sym kind) g

  pub tree-all : (s : State ℕ) (a b : Option Log) → m.kind ≡ graph_kind true → GrewBy (AnyTimes (EmptiesTree types m)) s a b → GrewBy (EmptiesMap types m.kind m) s a b
  tree-all s a b kind g = subst (λ (k : MapKind). GrewBy (EmptiesMap types k m) s a b) (sym kind) g
