-- Whose references there are to the objects that live, after a turn of one processor.
use Rattle.std.specs.Prelude.{◌≢◌, ◌-◌, ◌≤◌, Bool, eqb, if◌then◌else◌, nat_lt, slice_get}
use Rattle.std.proofs.Common.{◌≡◌, ◌⊎◌, ◌<◌, ◌+◌, ℕ, zero, suc, true, false, List, Option, None, Some, refl, sym, ap, subst, ◌∙◌, inl, inr, arith, eq-eqb}
use Rattle.std.proofs.Math.Path.{fun_ext}
use Rattle.std.proofs.lemmas.Bool.Decides.{Decides-eqb, eqb_tells, nat_tests}
use Rattle.bm_lang.specs.declared.scenario.Parts.{Parts}
use Rattle.bm_lang.specs.declared.scenario.TypeDeclaration.{TypeDeclaration}
use Rattle.bm_lang.specs.declared.scenario.TypeId.{TypeId}
use Rattle.bm_law_scenario.specs.Held.{Held, Names, Nothing, Null, Object, Soft}
use Rattle.bm_exec.specs.Living.{Adds, Holds, IsHeld, Living, Lives, Referring, count_in, refers}
use Rattle.bm_run.specs.Between.{AddUp, owns, sum_below}
use Rattle.bm_run.specs.Turns.{held_by, owned_by}
use Rattle.bm_run.specs.declared.turns.Begun.{Begun}
use Rattle.bm_run.proofs.Sums.{sum-changed, two-below}

some-none : {A : Type 0} (x : A) → Some x ≡ None → ⊥
some-none x e = cc

some-is : {A : Type 0} (x y : A) → Some x ≡ Some y → x ≡ y
some-is x y e = cc

-- an object with so many references
abbrev With : (count : ℕ) → Living → Living
With count l = record l { count = count }

-- ---- references beside those of others

-- so many references less; no object where none is left
abbrev pub fewer : (k : ℕ) → Option Living → Option Living
fewer zero o = o
fewer (suc k) None = None
fewer (suc k) (Some l) = if nat_lt (suc k) l.count then Some (record l { count = l.count - suc k }) else None

adds-count : (k : ℕ) (o a : Option Living) → Adds k o a → count_in a ≡ count_in o + k
adds-count zero o a h = (let same = ap count_in h in omega (arith, same))
adds-count (suc k) None a h = (let same = ap count_in h.1 in let all = h.2 in omega (arith, same, all))
adds-count (suc k) (Some l) a h = (let same = ap count_in h.1 in omega (arith, same))

-- what others have a reference to is the same object with another count
adds-same : (k : ℕ) (l : Living) (a : Option Living) → Adds k (Some l) a → a ≡ Some (With (count_in a) l)
adds-same zero l a h = h ∙ ap (λ n. Some (With n l)) (sym (ap count_in h))
adds-same (suc k) l a h = h.1 ∙ ap (λ n. Some (With n l)) (sym (ap count_in h.1))

below-said : (k n : ℕ) (b : Bool) → nat_lt k n ≡ b → (k < n) ⊎ (n ≤ k)
below-said k n true e = inl (grind (arith, nat_tests))
below-said k n false e = inr (grind (arith, nat_tests))

fewer-adds : (k : ℕ) (a : Option Living) → k ≤ count_in a → Adds k (fewer k a) a
fewer-adds zero a le = refl
fewer-adds (suc k) None le = absurd (omega (arith, le))
fewer-adds (suc k) (Some l) le = by (nat_lt (suc k) l.count) refl
  where
    by : (b : Bool) → nat_lt (suc k) l.count ≡ b → Adds (suc k) (if b then Some (record l { count = l.count - suc k }) else None) (Some l)
    by true e =
        let lt : suc k < l.count = grind (arith, nat_tests) in
        let back : l.count ≡ (l.count - suc k) + suc k = omega (arith, lt) in
        (omega (arith, lt), ap (λ n. Some (With n l)) back)
    by false e = (let most : l.count ≤ suc k = grind (arith, nat_tests) in (l, refl, omega (arith, le, most)))

fewer-count : (k : ℕ) (a : Option Living) → count_in (fewer k a) ≡ count_in a - k
fewer-count zero a = omega arith
fewer-count (suc k) None = omega arith
fewer-count (suc k) (Some l) = by (nat_lt (suc k) l.count) refl
  where
    by : (b : Bool) → nat_lt (suc k) l.count ≡ b → count_in (if b then Some (record l { count = l.count - suc k }) else None) ≡ l.count - suc k
    by true e = refl
    by false e = (let most : l.count ≤ suc k = grind (arith, nat_tests) in omega (arith, most))

true-false : true ≡ false → ⊥
true-false e = cc

-- some name refers to a unit
referring-some : (u k : ℕ) (x : List ℕ) (names : Names) → refers u (names x) ≡ true → Referring u k names → (j : ℕ) × (k ≡ suc j)
referring-some u zero x names e r = absurd (true-false (sym e ∙ r x))
referring-some u (suc j) x names e r = (j, refl)

-- what refers to a unit is a reference to it
refers-is : (u : ℕ) (v : Held) → refers u v ≡ true → (t : TypeId) × (n : ℕ) × (v ≡ Object t u n)
refers-is u Nothing e = absurd (cc)
refers-is u Null e = absurd (cc)
refers-is u (Soft t g w life) e = absurd (cc)
refers-is u (Object t w n) e = (t, n, ap (λ k. Object t k n) ((Decides-eqb w u).0 e))

-- a processor's own references
pub own-adds : (s : Parts) (base lives : Lives) (b : Option Begun) → owned_by s base lives b → (u : ℕ) → Adds (owns base lives u) (base u) (lives u)
own-adds s base lives None h u =
    let same : lives u ≡ base u = ap (λ (f : Lives). f u) h in
    let none : 0 ≡ owns base lives u = (let e = ap count_in same in omega (arith, e)) in
    subst (λ k. Adds k (base u) (lives u)) none same
own-adds s base lives (Some b) h u =
    let r = h.reached u in
    let all = adds-count r.own (base u) (lives u) r.adds in
    let own : r.own ≡ owns base lives u = omega (arith, all) in
    subst (λ k. Adds k (base u) (lives u)) own r.adds

-- those that aren't a processor's own, once there are these
abbrev pub others_of : (lives now base : Lives) → Lives
others_of lives now base = λ u. fewer (owns base lives u) (now u)

-- those of each processor, after a turn of processor p
abbrev pub bases_after : (p : ℕ) (lives now : Lives) (bases : ℕ → Lives) → ℕ → Lives
bases_after p lives now bases q = if eqb q p then bases q else others_of lives now (bases q)

-- Processor p took a turn, before and after which the others had the references of `bases p`.
module _ (s : Parts) (n p : ℕ) (bases : ℕ → Lives) (lives now : Lives) (turn : p < n) (up : AddUp n bases lives) (b b' : Option Begun) (before : owned_by s (bases p) lives b) (after : owned_by s (bases p) now b') where
  abbrev bases' : ℕ → Lives
  bases' = bases_after p lives now bases

  pub base-own : bases' p ≡ bases p
  base-own = elim (eqb_tells p p) [
    | inl y ↦ rw y.0 refl
    | inr y ↦ absurd (y.1 refl)
  ]

  pub base-other : (q : ℕ) → q ≢ p → bases' q ≡ others_of lives now (bases q)
  base-other q ne = elim (eqb_tells q p) [
    | inl y ↦ absurd (ne y.1)
    | inr y ↦ rw y.0 refl
  ]

  was : (u : ℕ) → count_in (lives u) ≡ count_in (bases p u) + owns (bases p) lives u
  was u = adds-count (owns (bases p) lives u) (bases p u) (lives u) (own-adds s (bases p) lives b before u)

  is : (u : ℕ) → count_in (now u) ≡ count_in (bases p u) + owns (bases p) now u
  is u = adds-count (owns (bases p) now u) (bases p u) (now u) (own-adds s (bases p) now b' after u)

  -- what another one has p doesn't have
  enough : (q u : ℕ) → q < n → q ≢ p → owns (bases q) lives u ≤ count_in (bases p u)
  enough q u lt ne =
      let two = two-below n p q (λ r. owns (bases r) lives u) turn lt ne in
      let all = up.sums u in
      let old = was u in
      omega (arith, two, all, old)

  enough-now : (q u : ℕ) → q < n → q ≢ p → owns (bases q) lives u ≤ count_in (now u)
  enough-now q u lt ne =
      let most = enough q u lt ne in
      let new = is u in
      omega (arith, most, new)

  module _ (q : ℕ) (lt : q < n) (ne : q ≢ p) (names : Names) (h : Holds s.types (bases q) lives names) where
    own-is : (u : ℕ) → (h.reached u).own ≡ owns (bases q) lives u
    own-is u = (let all = adds-count (h.reached u).own (bases q u) (lives u) (h.reached u).adds in omega (arith, all))

    -- p leaves what another one's name holds, which others than p have a reference to
    left-alone : (x : List ℕ) (t : TypeId) (u k : ℕ) → names x ≡ Object t u k → (l : Living) × (bases p u ≡ Some l)
    left-alone x t u k e =
        let r = referring-some u (h.reached u).own x names (ap (refers u) e ∙ eq-eqb u u refl) (h.reached u).held in
        let own = own-is u in
        let one = r.1 in
        let most = enough q u lt ne in
        of-base (bases p u) refl (omega (arith, own, one, most))
      where
        of-base : (o : Option Living) → bases p u ≡ o → 0 < count_in (bases p u) → (l : Living) × (bases p u ≡ Some l)
        of-base None f some = (let none = ap count_in f in absurd (omega (arith, none, some)))
        of-base (Some l) f some = (l, f)

    module _ (x : List ℕ) (t : TypeId) (u k : ℕ) (e : names x ≡ Object t u k) where
      abbrev held : IsHeld s.types lives t u k
      held = h.living x t u k e

      abbrev object : Living
      object = record { class = held.class; life = k; home = held.alive.home; type = held.alive.type; count = held.alive.count; values = held.alive.values }

      still : now u ≡ Some (With (count_in (now u)) object)
      still =
          let l = left-alone x t u k e in
          let F : Option Living → Type 0 = λ o. Adds (owns (bases p) lives u) o (lives u) in
          let G : Option Living → Type 0 = λ o. Adds (owns (bases p) now u) o (now u) in
          let old = adds-same (owns (bases p) lives u) l.0 (lives u) (subst F l.1 (own-adds s (bases p) lives b before u)) in
          let new = adds-same (owns (bases p) now u) l.0 (now u) (subst G l.1 (own-adds s (bases p) now b' after u)) in
          let same : With (count_in (lives u)) l.0 ≡ object = some-is _ _ (sym old ∙ held.alive.is) in
          new ∙ ap (λ m. Some (With (count_in (now u)) m)) same

      -- where objects of its type aren't counted there is no other reference
      alone : held.declared.counted ≡ false → count_in (now u) ≡ 1
      alone uncounted =
          let one : count_in (lives u) ≡ 1 = ap count_in held.alive.is ∙ held.single uncounted in
          let r = referring-some u (h.reached u).own x names (ap (refers u) e ∙ eq-eqb u u refl) (h.reached u).held in
          let own = own-is u in
          let some = r.1 in
          let most = enough q u lt ne in
          let old = was u in
          let base : count_in (bases p u) ≡ 1 = omega (arith, one, own, some, most, old) in
          of-begun b' after base
        where
          of-begun : (z : Option Begun) → owned_by s (bases p) now z → count_in (bases p u) ≡ 1 → count_in (now u) ≡ 1
          of-begun None same base = ap (λ (f : Lives). count_in (f u)) same ∙ base
          of-begun (Some z) hold base = of-own (hold.reached u).own refl
            where
              of-own : (j : ℕ) → (hold.reached u).own ≡ j → count_in (now u) ≡ 1
              of-own zero none = (let all = adds-count (hold.reached u).own (bases p u) (now u) (hold.reached u).adds in omega (arith, all, none, base))
              of-own (suc j) more =
                  let some = subst (λ i. Referring u i (held_by z)) more (hold.reached u).held in
                  let name = refers-is u (held_by z some.0) some.1 in
                  let its = hold.living some.0 name.0 u name.1 name.2 in
                  let object-is = some-is _ _ (sym still ∙ its.alive.is) in
                  let types-same : t.0 ≡ name.0.0 = sym held.typed ∙ (ap (λ (l : Living). l.type) object-is ∙ its.typed) in
                  let declared : held.declared ≡ its.declared = some-is held.declared its.declared (sym held.of_class.found ∙ (ap (slice_get s.types) types-same ∙ its.of_class.found)) in
                  ap count_in its.alive.is ∙ its.single (ap (λ (d : TypeDeclaration). d.counted) (sym declared) ∙ uncounted)

      held-now : IsHeld s.types now t u k
      held-now = record {
        class = held.class;
        declared = held.declared;
        of_class = held.of_class;
        alive = record { home = held.alive.home; type = held.alive.type; count = count_in (now u); values = held.alive.values; is = still };
        typed = held.typed;
        single = alone;
        fields = held.fields;
        few = held.few;
      }

    pub holds-others : Holds s.types (others_of lives now (bases q)) now names
    holds-others = record {
      living = held-now;
      reached = λ u. record {
        own = (h.reached u).own;
        held = (h.reached u).held;
        adds = subst (λ k. Adds k (others_of lives now (bases q) u) (now u)) (sym (own-is u)) (fewer-adds (owns (bases q) lives u) (now u) (enough-now q u lt ne));
      };
    }

  none-own : (q : ℕ) → lives ≡ bases q → now ≡ others_of lives now (bases q)
  none-own q e = fun_ext (λ u. ap (λ k. fewer k (now u)) (none u))
    where
      none : (u : ℕ) → 0 ≡ owns (bases q) lives u
      none u = (let same = ap (λ (f : Lives). count_in (f u)) e in omega (arith, same))

  owned-others : (q : ℕ) → q < n → q ≢ p → (z : Option Begun) → owned_by s (bases q) lives z → owned_by s (others_of lives now (bases q)) now z
  owned-others q lt ne None h = none-own q h
  owned-others q lt ne (Some z) h = holds-others q lt ne (held_by z) h

  -- each other one owns what it owned
  pub owned-after : (q : ℕ) → q < n → q ≢ p → (z : Option Begun) → owned_by s (bases q) lives z → owned_by s (bases' q) now z
  owned-after q lt ne z h = subst (λ (x : Lives). owned_by s x now z) (sym (base-other q ne)) (owned-others q lt ne z h)

  -- and the references add up again
  pub add-up-after : AddUp n bases' now
  add-up-after = record { some = some-after; sums = sums-after }
    where
      some-others : (u : ℕ) (l : Living) → bases p u ≡ Some l → 0 < l.count
      some-others u l e = of-own (owns (bases p) lives u) (subst (λ o. Adds (owns (bases p) lives u) o (lives u)) e (own-adds s (bases p) lives b before u))
        where
          of-own : (k : ℕ) → Adds k (Some l) (lives u) → 0 < l.count
          of-own zero h = up.some u l h
          of-own (suc k) h = h.0

      some-after : (u : ℕ) (l : Living) → now u ≡ Some l → 0 < l.count
      some-after u l e = of-base (bases p u) refl (owns (bases p) now u) (own-adds s (bases p) now b' after u)
        where
          of-base : (o : Option Living) → bases p u ≡ o → (k : ℕ) → Adds k (bases p u) (now u) → 0 < l.count
          of-base None f zero h = absurd (some-none l (sym e ∙ (h ∙ f)))
          of-base None f (suc k) h = (let a = subst (λ o. Adds (suc k) o (now u)) f h in let same = ap (λ (z : Living). z.count) (some-is l a.0 (sym e ∙ a.1)) in let all = a.2 in omega (arith, same, all))
          of-base (Some m) f k h =
              let all = adds-count k (bases p u) (now u) h in
              let base = ap count_in f in
              let mine = ap count_in e in
              let some = some-others u m f in
              omega (arith, all, base, mine, some)

      sums-after : (u : ℕ) → sum_below n (λ r. owns (bases' r) now u) ≡ count_in (now u)
      sums-after u =
          let f : ℕ → ℕ = λ r. owns (bases r) lives u in
          let g : ℕ → ℕ = λ r. owns (bases' r) now u in
          let others = sum-changed n p f g turn (λ r lr ne. other r lr ne) in
          let own : g p ≡ owns (bases p) now u = ap (λ (z : Lives). owns z now u) base-own in
          let all = up.sums u in
          let old = was u in
          let new = is u in
          omega (arith, others, own, all, old, new)
        where
          other : (r : ℕ) → r < n → r ≢ p → owns (bases' r) now u ≡ owns (bases r) lives u
          other r lr ne =
              let base = ap (λ (z : Lives). count_in (z u)) (base-other r ne) in
              let left = fewer-count (owns (bases r) lives u) (now u) in
              let most = enough-now r u lr ne in
              omega (arith, base, left, most)
