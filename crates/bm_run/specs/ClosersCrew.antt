-- What all processors of a closing have together, behind each phase.
use Rattle.std.specs.Prelude.{◌%◌, if◌then◌else◌, eqb, map, slice_get}
use Rattle.std.specs.List.{concat}
use Rattle.std.proofs.Common.{◌≡◌, ◌<◌, ◌++◌, ℕ, zero, suc, List, [], ◌∷◌, Option, None, Some, IfSome, true, arith, refl, sym, ◌∙◌, ap, subst, eq-eqb}
use Rattle.bm_journal.specs.declared.ids.Domain.{Domain}
use Rattle.bm_law.specs.Stands.{times}
use Rattle.bm_grace.specs.AtRest.{IsDriven}
use Rattle.bm_grace.specs.Kept.{parity}
use Rattle.bm_grace.specs.PlainState.{DomainState, domain_in, is_processor, side_in}
use Rattle.bm_cache.specs.Tokens.{Token, number_of}
use Rattle.bm_world.specs.LivingState.{LivingState}
use Rattle.bm_closing.specs.declared.crew.Phase.{Phase}
use Rattle.bm_closing.specs.declared.crew.Phase.TheVariants.{Ends, Sweeps}
use Rattle.bm_exec_levels.specs.declared.kept.Kept.{Kept}
use Rattle.bm_run.specs.declared.closers.Closers.{Closers}
use Rattle.bm_run.specs.Closers.{AllDone, Gathered, IsAmong, NoneBegun, OwnAfter, OwnBefore, held_of, number_among, number_in, units_kept, units_waiting}

-- the crew, by what its processors keep and its world
abbrev pub gathered : Closers → Gathered
gathered c =
    record {
      processors = c.processors;
      places = c.places.items;
      world = c.world;
      classes = c.classes.now;
    }

-- ---- numbers

none-of :
    (phase : Phase) (classes : List ℕ) (p : ℕ) (kept : Kept) (world : LivingState)
    → OwnAfter phase classes p kept world → NoneBegun p world
none-of Ends classes p kept world h = h.1
none-of Sweeps classes p kept world h = h.none

-- a number is even where none of the processors has a period in progress
done-in :
    (n : ℕ) (here : DomainState) → IsDriven n here → ((q : ℕ) → q < n → (side_in q here).number ≡ 0)
    → here.number % 2 ≡ 0
done-in n here d h = by here.driver refl
  where
    by : (o : Option ℕ) → here.driver ≡ o → here.number % 2 ≡ 0
    by None e = d.parity_is ∙ ap parity e
    by (Some q) e =
        let few : q < n = subst (λ (o : Option ℕ). IfSome o (λ p. p < n)) e d.few in
        let none : (if is_processor q here.driver then here.number else 0) ≡ 0 = h q few in
        let zero_then : (if eqb q q then here.number else 0) ≡ 0 = ap (λ (o : Option ℕ). if
        is_processor q o
        then here.number else 0) (sym e) ∙ none in
        let same : here.number ≡ 0 = (let y : eqb q q ≡ true = eq-eqb q q refl in rw y at zero_then)
        in
        ap (λ k. k % 2) same

some-same : {A : Type 0} {x y : A} → Some x ≡ Some y → x ≡ y
some-same q = cc

pub all-done :
    (phase : Phase) (g : Gathered) → ((p : ℕ) → p < g.processors → IsAmong (OwnAfter phase) g p)
    → (world : LivingState) → g.world ≡ Some world → (0 < g.processors) → AllDone world
all-done phase g each world is some d =
    let x = each 0 some in
    let same : x.world ≡ world = some-same (sym x.world_is ∙ is) in
    let driven : IsDriven world.side.grace.processors (domain_in d world.side.grace) = subst (λ (w :
    LivingState). IsDriven w.side.grace.processors (domain_in d w.side.grace)) same
    (x.together.driven
    d) in
    let many : world.side.grace.processors ≡ g.processors = ap (λ (w : LivingState).
    w.side.grace.processors) (sym same) ∙ x.together.processors_are in
    done-in world.side.grace.processors (domain_in d world.side.grace) driven (λ q few.
    let y = each q (subst (λ k. q < k) many few) in
    subst (λ (w : LivingState). NoneBegun q w) (some-same (sym y.world_is ∙ is))
    (none-of phase g.classes q y.kept y.world y.own) d)

-- Once each processor has ended its periods, each may sweep, ..
pub sweeps-next :
    (g : Gathered) → ((p : ℕ) → p < g.processors → IsAmong (OwnAfter Ends) g p) → (p : ℕ)
    → p < g.processors → IsAmong (OwnBefore Sweeps) g p
sweeps-next g each p lt =
    let x = each p lt in
    let own = x.own in
    record {
      world = x.world;
      world_is = x.world_is;
      together = x.together;
      there = x.there;
      kept = x.kept;
      log = x.log;
      keeps = x.keeps;
      rests = x.rests;
      unused = x.unused;
      own = (own.0, own.1, all-done Ends g each x.world x.world_is (omega (arith, lt)));
    }

-- .. and behind each phase no number is odd.
pub all-even :
    (phase : Phase) (g : Gathered) → ((p : ℕ) → p < g.processors → IsAmong (OwnAfter phase) g p)
    → (d : Domain) → number_among g.processors g.world d % 2 ≡ 0
all-even phase g each d = by g.processors refl
  where
    by : (n : ℕ) → g.processors ≡ n → number_among n g.world d % 2 ≡ 0
    by zero e = refl
    by (suc n) e =
        let some : 0 < g.processors = omega (arith, e) in
        let x = each 0 some in
        ap (λ (w : Option LivingState). number_in w d % 2) x.world_is
        ∙ all-done phase g each x.world x.world_is some d

-- ---- units

none-kept :
    (g : Gathered) (p c : ℕ) → IsAmong (OwnAfter Sweeps) g p
    → units_kept (slice_get g.places p) c ≡ []
none-kept g p c x =
    ap (λ (o : Option (Option Kept)). units_kept o c) x.keeps
    ∙ ap (λ (us : List Token). map number_of us) (x.own.lists c)

none-waiting :
    (g : Gathered) (p c : ℕ) → IsAmong (OwnAfter Sweeps) g p → 0 < times c g.classes
    → units_waiting g.world p c ≡ []
none-waiting g p c x lt =
    ap (λ (o : Option LivingState). units_waiting o p c) x.world_is ∙ ap concat (x.own.boxes c lt)

both-none : (a b : List ℕ) → a ≡ [] → b ≡ [] → a ++ b ≡ []
both-none a b e f = rw (e, f) refl

held-none :
    (cs : List ℕ) (g : Gathered) (p : ℕ) → ((c : ℕ) → 0 < times c cs → 0 < times c g.classes)
    → IsAmong (OwnAfter Sweeps) g p → held_of cs g p ≡ []
held-none [] g p among x = refl
held-none (c ∷ cs) g p among x =
    let own : 0 < times c (c ∷ cs) = (let y : eqb c c ≡ true = eq-eqb c c refl in
    rw y (omega arith)) in
    both-none (units_kept (slice_get g.places p) c) _ (none-kept g p c x)
    (both-none (units_waiting g.world p c) (held_of cs g p) (none-waiting g p c x (among c own))
    (held-none cs g p (λ k lt. among k (more k lt)) x))
  where
    more : (k : ℕ) → 0 < times k cs → 0 < times k (c ∷ cs)
    more k lt = omega (arith, lt)

-- A processor that has swept holds nothing.
pub holds-none : (g : Gathered) (p : ℕ) → IsAmong (OwnAfter Sweeps) g p → held_of g.classes g p ≡ []
holds-none g p x = held-none g.classes g p (λ c lt. lt) x
