-- Units that stand in no row.
use Rattle.std.proofs.Common.{◌≡◌, ◌<◌, ◌≤◌, ℕ, ◌+◌, List, [], ◌∷◌, length, map, refl, ◌∙◌, ap, arith, eqb, cond, true, eq-eqb, inl, inr}
use Rattle.std.proofs.lemmas.List.{get_or_past}
use Rattle.std.proofs.lemmas.Bool.{cases_lt}
use Rattle.bm_law.specs.State.{Row, State, seen, seen_row, empty_row, with_row}
use Rattle.bm_law.proofs.Seen.{seen-row}
use Rattle.bm_cache.specs.Lent.{with_first}
use Rattle.bm_law.specs.Stands.{stands, times, in_row, Once}
use Rattle.bm_law.proofs.Stands.{sum-term, once-with-hand, stands-row}
use Rattle.bm_cache_lists.specs.Housed.{row_at}
use Rattle.bm_cache.specs.Tokens.{Token, number_of}
use Rattle.bm_cache.specs.Shown.{shown}
use Rattle.bm_cache.specs.declared.caches.Caches.{Caches}
use Rattle.bm_cache.proofs.Shown.{at-row}

module _ {R : Type 0} (c : Caches R) where
  past : (n i : ℕ) → 11 ≤ i → in_row n (seen_row number_of (row_at c.rows i)) ≡ 0
  past n i h = ap (λ (r : Row Token). in_row n (seen_row number_of r)) (get_or_past c.rows i (empty_row 0) (let l : length c.rows ≤ i = omega (arith, h, c.rows_whole) in l))

  here : (n i : ℕ) → i < 11 → in_row n (seen_row number_of (row_at c.rows i)) ≡ in_row n ((seen number_of (shown c)).rows i)
  here n i h = ap (λ (r : Row Token). in_row n (seen_row number_of r)) (at-row c i i refl (let l : i ≤ 10 = omega (arith, h) in l))

  -- in a row at most as often as in all
  row-term : (n i : ℕ) → i < 11 → in_row n ((seen number_of (shown c)).rows i) ≤ stands n (seen number_of (shown c))
  unfolding stands
  row-term n i h = omega (arith, sum-term 11 i (λ k. in_row n ((seen number_of (shown c)).rows k)) h)

  pub row-stands : (n i : ℕ) → in_row n (seen_row number_of (row_at c.rows i)) ≤ stands n (seen number_of (shown c))
  row-stands n i = elim (cases_lt i 11) [ inl h ↦ omega (arith, here n i h, row-term n i h) | inr h ↦ omega (arith, past n i h) ]

  -- units from outside
  pub fresh-rows : (us : List Token) → ((n : ℕ) → stands n (seen number_of (shown c)) + times n (map number_of us) ≤ 1) → (n i : ℕ) → in_row n (seen_row number_of (row_at c.rows i)) + times n (map number_of us) ≤ 1
  fresh-rows us h n i = omega (arith, h n, row-stands n i)

  -- the unit that came into a hand first
  pub fresh-hand : (l : ℕ) (u : Token) (rest : List Token) → l < 4 → Once (seen number_of (shown c)) → ((shown c).sides l).hand ≡ u ∷ rest → (i : ℕ) → in_row u.number (seen_row number_of (row_at c.rows i)) ≡ 0
  fresh-hand l u rest k o e i =
      let t : times u.number (map number_of ((shown c).sides l).hand) ≡ times u.number (u.number ∷ map number_of rest) = ap (λ (us : List Token). times u.number (map number_of us)) e in
      let v : eqb u.number u.number ≡ true = eq-eqb u.number u.number refl in
      let w : ◌≡◌ {A = ℕ} (cond (eqb u.number u.number) 1 0) 1 = rw v refl in
      elim (cases_lt i 11) [
        | inl h ↦ omega (arith, here u.number i h, once-with-hand (seen number_of (shown c)) i l u.number h k o, t, w)
        | inr h ↦ past u.number i h
      ]

  -- units that were lent from First
  pub fresh-lent : (i : ℕ) (us : List Token) (s : State Token) → i < 11 → shown c ≡ with_first i [] s → Once (seen number_of s) → (s.rows i).deferred.first ≡ us → (n : ℕ) → stands n (seen number_of (shown c)) + times n (map number_of us) ≤ 1
  fresh-lent i us s h e o q n =
      let r : Row Token = record (s.rows i) { deferred = record (s.rows i).deferred { first = [] } } in
      let x : seen number_of (shown c) ≡ with_row i (seen_row number_of r) (seen number_of s) = ap (λ (t : State Token). seen number_of t) e ∙ seen-row number_of i r (seen_row number_of r) s refl in
      let a = stands-row n i (seen_row number_of r) (seen number_of s) h in
      let b : stands n (seen number_of (shown c)) ≡ stands n (with_row i (seen_row number_of r) (seen number_of s)) = ap (stands n) x in
      let f : times n (map number_of (s.rows i).deferred.first) ≡ times n (map number_of us) = ap (λ (ts : List Token). times n (map number_of ts)) q in
      let d : in_row n ((seen number_of s).rows i) ≡ in_row n (seen_row number_of r) + times n (map number_of (s.rows i).deferred.first) = omega arith in
      omega (arith, a, b, d, f, o n)
