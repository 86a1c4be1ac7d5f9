-- The units that caches begin with.
use Rattle.std.proofs.Common.{◌≡◌, ℕ, suc, zero, ◌+◌, ◌-◌, true, List, [], ◌∷◌, ◌++◌, length, get_or, map, refl, sym, ap, subst, ◌∙◌, append_assoc, append-nil, Option, Some, None, arith, length-set}
use Rattle.std.proofs.Math.ListN.{set}
use Rattle.std.proofs.lemmas.List.{length-append, get_or-append_right, map-append}
use Rattle.std.specs.List.{All}
use Rattle.bm_page.specs.declared.units.Stocked.{Stocked}
use Rattle.bm_page.specs.UnitState.{UnitState}
use Rattle.std.proofs.lemmas.List.Elements.{All-append}
use Rattle.bm_page.specs.Stock.{Stock, stocked_at, next_unit, given, fetched}
use Rattle.bm_page.specs.Out.{AreOut, IsOut, IsFromStock}
use Rattle.bm_page.proofs.FetchLemmas.{fetched-zero, fetched-none, fetched-next}
use Rattle.bm_page.proofs.StockLemmas.{out_inside}
use Rattle.bm_cache.specs.Each.{Sits}
use Rattle.bm_cache.specs.Opening.{FillsSit}
use Rattle.bm_law_scenario.specs.Fills.{prefill}
use Rattle.bm_run.specs.Filling.{Filling, behind, filling, units_in, IsUnborn, NeverLived}

pub filling-step : (fs : List (ℕ × List UnitState)) (c : ℕ) (cs : List ℕ) (pool : Stock) → behind fs (filling (c ∷ cs) pool) ≡ behind (fs ++ (c, (fetched c (prefill c) pool).units) ∷ []) (filling cs (fetched c (prefill c) pool).pool)
filling-step fs c cs pool =
    let rest = filling cs (fetched c (prefill c) pool).pool in
    ap (λ x. let r : Filling = record { fills = x; pool = rest.pool } in r) (sym (append_assoc fs ((c, (fetched c (prefill c) pool).units) ∷ []) rest.fills))

-- no life begins by a write of one that never lived
set-new : (units : List Stocked) (n : ℕ) (s : Stocked) → NeverLived s.life s.seal → ((m : ℕ) → NeverLived (stocked_at units m).life (stocked_at units m).seal) → (m : ℕ) → NeverLived (stocked_at (set units n s) m).life (stocked_at (set units n s) m).seal
set-new [] n s z h m = h m
set-new (u ∷ us) zero s z h zero = z
set-new (u ∷ us) zero s z h (suc m) = h (suc m)
set-new (u ∷ us) (suc n) s z h zero = h 0
set-new (u ∷ us) (suc n) s z h (suc m) = set-new us n s z (λ k. h (suc k)) m

unborn-given : (c n : ℕ) (pool : Stock) → IsUnborn pool.units → IsUnborn (given c n pool).units
unfolding given
unborn-given c n pool h = record {
  size = let s = h.size in omega (arith, length-set pool.units n (record (stocked_at pool.units n) { out = true }), s);
  each = set-new pool.units n (record (stocked_at pool.units n) { out = true }) (h.each n) h.each;
}

unborn-next : (c m : ℕ) (pool : Stock) (o : Option ℕ) → next_unit c pool ≡ o → IsUnborn pool.units → ((n : ℕ) → IsUnborn (fetched c m (given c n pool)).pool.units) → IsUnborn (fetched c (suc m) pool).pool.units
unborn-next c m pool None e h f = rw (fetched-none c (suc m) pool e) h
unborn-next c m pool (Some n) e h f = rw (fetched-next c m n pool e) (f n)

pub unborn-fetched : (c want : ℕ) (pool : Stock) → IsUnborn pool.units → IsUnborn (fetched c want pool).pool.units
unborn-fetched c zero pool h = rw (fetched-zero c 0 pool refl) h
unborn-fetched c (suc m) pool h = unborn-next c m pool (next_unit c pool) refl h (λ n. unborn-fetched c m (given c n pool) (unborn-given c n pool h))

pub units-more : (fs : List (ℕ × List UnitState)) (c : ℕ) (us : List UnitState) → units_in (fs ++ (c, us) ∷ []) ≡ units_in fs ++ us
units-more [] c us = append-nil us
units-more (f ∷ fs) c us = ap (λ x. f.1 ++ x) (units-more fs c us) ∙ sym (append_assoc f.1 (units_in fs) us)

pub sits-more : (fs : List (ℕ × List UnitState)) (c : ℕ) (us : List UnitState) → FillsSit fs → All (Sits c) us → FillsSit (fs ++ (c, us) ∷ [])
sits-more [] c us h a = (a, tt)
sits-more (f ∷ fs) c us h a = (h.0, sits-more fs c us h.1 a)

all-right : (P : UnitState → Type 0) (xs ys : List UnitState) → All P (xs ++ ys) → All P ys
all-right P xs ys h i d lt =
    let e = get_or-append_right xs ys (length xs) (length xs + i) d refl (omega arith) in
    let k : (length xs + i) - length xs ≡ i = omega arith in
    let q : get_or (xs ++ ys) (length xs + i) d ≡ get_or ys i d = e ∙ ap (λ j. get_or ys j d) k in
    subst P q (h (length xs + i) d (omega (arith, length-append xs ys)))

pub sits-fetched : (c : ℕ) (pool pool' : Stock) (held us : List UnitState) → All (IsFromStock c pool) us → IsUnborn pool.units → AreOut pool' (held ++ us) → IsUnborn pool'.units → All (Sits c) us
sits-fetched c pool pool' held us each h out h' i d lt =
    let u = get_or us i d in
    let s = each i d lt in
    let o = all-right (IsOut pool') held us out.each i d lt in
    let inside = out_inside pool'.units u.number o.out in
    let z = (h.each u.number).0 in
    let size = h'.size in
    record {
      class = s.of_class;
      numbered = record { number = omega (arith, inside, size); life = omega (arith, s.life, z) };
    }

pub unlived-fetched : (c : ℕ) (pool : Stock) (held us : List UnitState) → All (λ (u : UnitState). NeverLived u.life u.seal) held → All (IsFromStock c pool) us → IsUnborn pool.units → All (λ (u : UnitState). NeverLived u.life u.seal) (held ++ us)
unlived-fetched c pool held us a each h = All-append (λ (u : UnitState). NeverLived u.life u.seal) held us a (λ i d lt. let new = h.each (get_or us i d).number in ((each i d lt).life ∙ new.0, (each i d lt).seal ∙ new.1))

-- a list that grew by one, seen through a function
pub map-more : {A B : Type 0} (f : A → B) (xs ys : List A) (x : A) (z : B) → ys ≡ xs ++ x ∷ [] → f x ≡ z → map f ys ≡ map f xs ++ z ∷ []
map-more f xs ys x z e h = ap (map f) e ∙ (map-append f xs (x ∷ []) ∙ ap (λ y. map f xs ++ y ∷ []) h)

-- the units so far, with those of the next class
pub record Filled_so_far (classes rest : List ℕ) (first pool : Stock) (fs : List (ℕ × List UnitState)) : Type 0 where
  pub so_far : filling classes first ≡ behind fs (filling rest pool)
  pub sits : FillsSit fs
  pub unlived : All (λ (u : UnitState). NeverLived u.life u.seal) (units_in fs)
  pub out : AreOut pool (units_in fs)
  pub unborn : IsUnborn pool.units

pub filled-more : (classes rest : List ℕ) (c : ℕ) (first pool now : Stock) (fs : List (ℕ × List UnitState)) → Filled_so_far classes (c ∷ rest) first pool fs → now ≡ (fetched c (prefill c) pool).pool →
    All (IsFromStock c pool) (fetched c (prefill c) pool).units → AreOut now (units_in fs ++ (fetched c (prefill c) pool).units) → Filled_so_far classes rest first now (fs ++ (c, (fetched c (prefill c) pool).units) ∷ [])
filled-more classes rest c first pool now fs v p each out =
    let us = (fetched c (prefill c) pool).units in
    let born : IsUnborn now.units = subst (λ (s : Stock). IsUnborn s.units) (sym p) (unborn-fetched c (prefill c) pool v.unborn) in
    let more : units_in (fs ++ (c, us) ∷ []) ≡ units_in fs ++ us = units-more fs c us in
    record {
      so_far = v.so_far ∙ (filling-step fs c rest pool ∙ ap (λ (s : Stock). behind (fs ++ (c, us) ∷ []) (filling rest s)) (sym p));
      sits = sits-more fs c us v.sits (sits-fetched c pool now (units_in fs) us each v.unborn out born);
      unlived = subst (All (λ (u : UnitState). NeverLived u.life u.seal)) (sym more) (unlived-fetched c pool (units_in fs) us v.unlived each v.unborn);
      out = subst (AreOut now) (sym more) out;
      unborn = born;
    }
