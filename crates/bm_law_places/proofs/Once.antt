-- Where each unit is in exactly one place, no unit stands twice in the lists and hands of a processor.
use Rattle.std.specs.Prelude.{◌≡◌, ◌≢◌, ◌<◌, ◌≤◌, ◌+◌, ℕ, zero, suc}
use Rattle.std.proofs.Common.{refl, sym, ◌∙◌, ap, subst, arith, inl, inr}
use Rattle.std.proofs.lemmas.Bool.{cases_eq}
use Rattle.bm_law.specs.Stands.{Once, in_row, stands, sum_to, times}
use Rattle.bm_law.proofs.Stands.{times-seven}
use Rattle.bm_law_places.specs.Place.{Place, Stock, Inbox, Cache, Hand, Living, Ending, times_at}
use Rattle.bm_law_places.specs.Placed.{AllPlaced, InOnePlace, IsOf}
use Rattle.bm_law_places.specs.World.{World}
use Rattle.bm_law_places.proofs.Apart.{is-there}
use Rattle.bm_law_places.proofs.Same.{place_tells}

sum-none : (N : ℕ) (f : ℕ → ℕ) → ((k : ℕ) → f k ≡ 0) → sum_to N f ≡ 0
sum-none zero f h = refl
sum-none (suc N) f h = let a = h N in let b = sum-none N f h in omega (arith, a, b)

past : (N i : ℕ) (f : ℕ → ℕ) → ((k : ℕ) → k ≢ i → f k ≡ 0) → N ≤ i → sum_to N f ≡ 0
past zero i f h le = refl
past (suc N) i f h le = let a = h N (λ e. omega (arith, e, le)) in let b = past N i f h (omega (arith, le)) in omega (arith, a, b)

-- where only one of the numbers isn't 0, their sum is at most that one
sum-one : (N i : ℕ) (f : ℕ → ℕ) → ((k : ℕ) → k ≢ i → f k ≡ 0) → sum_to N f ≤ f i
sum-one zero i f h = omega arith
sum-one (suc N) i f h =
    elim (cases_eq N i) [
      | inl same ↦ (let a : sum_to N f ≡ 0 = past N i f h (omega (arith, same)) in let b = ap f same in omega (arith, a, b))
      | inr other ↦ (let a = h N other in let b = sum-one N i f h in omega (arith, a, b))
    ]

both : (a b m n : ℕ) → a ≤ m → b ≤ n → m + n ≤ 1 → a + b ≤ 1
both a b m n p q r = omega (arith, p, q, r)

none-most : (a : ℕ) → a ≡ 0 → a ≤ 0
none-most a e = omega (arith, e)

one-most : (a b n : ℕ) → a ≤ b → b ≡ n → a ≤ n
one-most a b n p q = omega (arith, p, q)

cache-none : (u p c : ℕ) (w : World) (h : InOnePlace u w) → Cache p c ≢ h.place → in_row u ((w.lists p).rows c) ≡ 0
cache-none u p c w h ne = sym (times-seven u ((w.lists p).rows c)) ∙ h.only (Cache p c) ne

most-one : (u : ℕ) (a : Place) (w : World) → InOnePlace u w → times_at u a w ≤ 1
most-one u a w h =
    elim (place_tells a h.place) [
      | inl y ↦ (let e = ap (λ (x : Place). times_at u x w) y.1 ∙ h.here in omega (arith, e))
      | inr y ↦ (let e = h.only a y.1 in omega (arith, e))
    ]

cache-most : (u p c : ℕ) (w : World) → InOnePlace u w → in_row u ((w.lists p).rows c) ≤ 1
cache-most u p c w h = subst (λ (n : ℕ). n ≤ 1) (times-seven u ((w.lists p).rows c)) (most-one u (Cache p c) w h)

at-most : (a b n : ℕ) → a ≤ b → b ≤ n → a ≤ n
at-most a b n p q = omega (arith, p, q)

pub once-each : (p : ℕ) (w : World) → AllPlaced w → Once (w.lists p)
unfolding stands
once-each p w all u = go (all u) (all u).place refl
  where
    rows : ℕ
    rows = sum_to 11 (λ c. in_row u ((w.lists p).rows c))

    hands : ℕ
    hands = sum_to 4 (λ l. times u ((w.lists p).sides l).hand)

    no-rows : (h : InOnePlace u w) → ((c : ℕ) → Cache p c ≢ h.place) → rows ≤ 0
    no-rows h ne = none-most rows (sum-none 11 (λ c. in_row u ((w.lists p).rows c)) (λ c. cache-none u p c w h (ne c)))

    no-hands : (h : InOnePlace u w) → ((l : ℕ) → Hand p l ≢ h.place) → hands ≤ 0
    no-hands h ne = none-most hands (sum-none 4 (λ l. times u ((w.lists p).sides l).hand) (λ l. h.only (Hand p l) (ne l)))

    go : (h : InOnePlace u w) (a : Place) → h.place ≡ a → rows + hands ≤ 1
    go h Stock is = both rows hands 0 0 (no-rows h (λ c e. cc)) (no-hands h (λ l e. cc)) (omega arith)
    go h (Inbox q c) is = both rows hands 0 0 (no-rows h (λ k e. cc)) (no-hands h (λ l e. cc)) (omega arith)
    go h (Cache q c) is =
        both rows hands 1 0
        (at-most rows _ 1 (sum-one 11 c (λ k. in_row u ((w.lists p).rows k)) (λ k ne. cache-none u p k w h (λ e. ne (cc)))) (cache-most u p c w h))
        (no-hands h (λ l e. cc))
        (omega arith)
    go h (Hand q j) is =
        both rows hands 0 1
        (no-rows h (λ k e. cc))
        (at-most hands _ 1 (sum-one 4 j (λ l. times u ((w.lists p).sides l).hand) (λ k ne. h.only (Hand p k) (λ e. ne (cc)))) (most-one u (Hand p j) w h))
        (omega arith)
    go h Living is = both rows hands 0 0 (no-rows h (λ c e. cc)) (no-hands h (λ l e. cc)) (omega arith)
    go h (Ending q j) is = both rows hands 0 0 (no-rows h (λ c e. cc)) (no-hands h (λ l e. cc)) (omega arith)

-- ---- where a unit isn't

no-sum : (a b : ℕ) → a ≡ 0 → b ≡ 0 → a + b ≡ 0
no-sum a b p q = omega (arith, p, q)

-- a unit that another place names doesn't stand in the lists and hands of a processor
pub stands-none : (p u : ℕ) (a : Place) (w : World) → InOnePlace u w → 0 < times_at u a w → (IsOf p a → ⊥) → stands u (w.lists p) ≡ 0
unfolding stands
stands-none p u a w h lt out =
    let there : a ≡ h.place = is-there u a w h lt in
    no-sum _ _
    (sum-none 11 (λ c. in_row u ((w.lists p).rows c)) (λ c. cache-none u p c w h (λ e. out (subst (IsOf p) (e ∙ sym there) refl))))
    (sum-none 4 (λ l. times u ((w.lists p).sides l).hand) (λ l. h.only (Hand p l) (λ e. out (subst (IsOf p) (e ∙ sym there) refl))))
