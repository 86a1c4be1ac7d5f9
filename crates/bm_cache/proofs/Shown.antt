-- How the shown state follows a write to the caches and hands.
use Rattle.std.proofs.Common.{◌≡◌, ◌<◌, ◌≤◌, ℕ, List, length, get_or, set, refl, ◌∙◌, ap, subst, arith}
use Rattle.bm_law.specs.State.{Row, Side, State, state_of, with_row, with_side, on_row, on_side}
use Rattle.bm_law.proofs.Writes as writes
use Rattle.std.proofs.lemmas.List.{get_or_default}
use Rattle.bm_law.specs.State.{empty_row}
use Rattle.bm_cache_lists.specs.Housed.{row_at}
use Rattle.bm_cache.specs.Tokens.{Token}
use Rattle.bm_cache.specs.Shown.{shown}
use Rattle.bm_cache.specs.declared.caches.Caches.{Caches}

rows_here : {R : Type 0} (c : Caches R) (j : ℕ) → j ≤ 10 → j < length c.rows
rows_here c j h = omega (arith, h, c.rows_whole)

sides_here : {R : Type 0} (c : Caches R) (j : ℕ) → j ≤ 3 → j < length c.sides.items
sides_here c j h = omega (arith, h, c.sides_whole, c.sides.ok.0)

pub below_eleven : (i j : ℕ) → j ≡ i → j ≤ 10 → i < 11
below_eleven i j q h = omega (arith, q, h)

pub below_four : (i j : ℕ) → j ≡ i → j ≤ 3 → i < 4
below_four i j q h = omega (arith, q, h)

module _ {R : Type 0} where
  -- a cache, or a hand, that is read at an index
  read-at-row : (c : Caches R) (i j : ℕ) (r : Row Token) → j ≡ i → j ≤ 10 → r ≡ get_or c.rows j r → r ≡ (shown c).rows i
  unfolding shown
  read-at-row c i j r q h e =
      let P : ℕ → Type 0 = λ k. r ≡ (state_of c.processor c.rows c.sides.items).rows k in
      subst P q (writes.read-row c.processor c.rows c.sides.items j r (rows_here c j h) e)

  pub at-side : (c : Caches R) (i j : ℕ) (s : Side Token) → j ≡ i → j ≤ 3 → s ≡ get_or c.sides.items j s → s ≡ (shown c).sides i
  unfolding shown
  at-side c i j s q h e =
      let P : ℕ → Type 0 = λ k. s ≡ (state_of c.processor c.rows c.sides.items).sides k in
      subst P q (writes.read-side c.processor c.rows c.sides.items j s (sides_here c j h) e)

  -- one cache and one hand are written
  pub wrote-both-of : (c d : Caches R) (i j l m : ℕ) (f : Row Token → Row Token) (g : Side Token → Side Token) (r r' : Row Token) (s s' : Side Token) → j ≡ i → j ≤ 10 → m ≡ l → m ≤ 3 → r ≡ get_or c.rows j r → r' ≡ f r → s ≡ get_or c.sides.items m s → s' ≡ g s → d.rows ≡ set c.rows j r' → d.sides.items ≡ set c.sides.items m s' → d.processor ≡ c.processor → shown d ≡ on_row i f (on_side l g (shown c))
  unfolding shown
  wrote-both-of c d i j l m f g r r' s s' q h p k e a t b w v z =
      let x : State Token = state_of c.processor c.rows c.sides.items in
      let y : shown d ≡ state_of c.processor (set c.rows j r') (set c.sides.items m s') =
      ap (λ n. state_of n d.rows d.sides.items) z ∙ ap (λ (n : List (Row Token)). state_of c.processor n d.sides.items) w ∙ ap (λ (n : List (Side Token)). state_of c.processor (set c.rows j r') n) v in
      let u : shown d ≡ with_row j r' (with_side m s' x) = y ∙ writes.wrote-both c.processor c.rows c.sides.items j m r' s' (rows_here c j h) (sides_here c m k) in
      let fr : r' ≡ f (x.rows i) = a ∙ ap f (read-at-row c i j r q h e) in
      let gs : s' ≡ g (x.sides l) = b ∙ ap g (at-side c l m s p k t) in
      u ∙ ap (λ n. with_row n r' (with_side m s' x)) q ∙ ap (λ n. with_row i r' (with_side n s' x)) p ∙ ap (λ n. with_row i n (with_side l s' x)) fr ∙ ap (λ n. with_row i (f (x.rows i)) (with_side l n x)) gs

  -- one cache is written
  pub wrote-row-of : (c d : Caches R) (i j : ℕ) (f : Row Token → Row Token) (r r' : Row Token) → j ≡ i → j ≤ 10 → r ≡ get_or c.rows j r → r' ≡ f r → d.rows ≡ set c.rows j r' → d.sides.items ≡ c.sides.items → d.processor ≡ c.processor → shown d ≡ on_row i f (shown c)
  unfolding shown
  wrote-row-of c d i j f r r' q h e a w v z =
      let x : State Token = state_of c.processor c.rows c.sides.items in
      let y : shown d ≡ state_of c.processor (set c.rows j r') c.sides.items =
      ap (λ n. state_of n d.rows d.sides.items) z ∙ ap (λ (n : List (Row Token)). state_of c.processor n d.sides.items) w ∙ ap (λ (n : List (Side Token)). state_of c.processor (set c.rows j r') n) v in
      let u : shown d ≡ with_row j r' x = y ∙ writes.wrote-row c.processor c.rows c.sides.items j r' (rows_here c j h) in
      let fr : r' ≡ f (x.rows i) = a ∙ ap f (read-at-row c i j r q h e) in
      u ∙ ap (λ n. with_row n r' x) q ∙ ap (λ n. with_row i n x) fr

  -- one hand is written
  pub wrote-side : (c d : Caches R) (l m : ℕ) (g : Side Token → Side Token) (s s' : Side Token) → m ≡ l → m ≤ 3 → s ≡ get_or c.sides.items m s → s' ≡ g s → d.rows ≡ c.rows → d.sides.items ≡ set c.sides.items m s' → d.processor ≡ c.processor → shown d ≡ on_side l g (shown c)
  unfolding shown
  wrote-side c d l m g s s' p k t b w v z =
      let x : State Token = state_of c.processor c.rows c.sides.items in
      let y : shown d ≡ state_of c.processor c.rows (set c.sides.items m s') =
      ap (λ n. state_of n d.rows d.sides.items) z ∙ ap (λ (n : List (Row Token)). state_of c.processor n d.sides.items) w ∙ ap (λ (n : List (Side Token)). state_of c.processor c.rows n) v in
      let u : shown d ≡ with_side m s' x = y ∙ writes.wrote-side c.processor c.rows c.sides.items m s' (sides_here c m k) in
      let gs : s' ≡ g (x.sides l) = b ∙ ap g (at-side c l m s p k t) in
      u ∙ ap (λ n. with_side n s' x) p ∙ ap (λ n. with_side l n x) gs

  -- nothing of the lists and hands is written
  pub wrote-none : (c d : Caches R) → d.rows ≡ c.rows → d.sides.items ≡ c.sides.items → d.processor ≡ c.processor → shown d ≡ shown c
  unfolding shown
  wrote-none c d w v z =
      ap (λ n. state_of n d.rows d.sides.items) z ∙ ap (λ (n : List (Row Token)). state_of c.processor n d.sides.items) w ∙ ap (λ (n : List (Side Token)). state_of c.processor c.rows n) v

  -- what was there is written again
  pub wrote-same-of : (c d : Caches R) (i j : ℕ) (r r' : Row Token) → j ≡ i → j ≤ 10 → r ≡ get_or c.rows j r → r' ≡ r → d.rows ≡ set c.rows j r' → d.sides.items ≡ c.sides.items → d.processor ≡ c.processor → shown d ≡ shown c
  wrote-same-of c d i j r r' q h e a w v z =
      wrote-row-of c d i j (λ x. x) r r' q h e a w v z ∙ writes.same-row i ((shown c).rows i) (shown c) refl

  -- the same of rows that a call reads and writes by their index
  row-read : (c : Caches R) (j : ℕ) → j ≤ 10 → row_at c.rows j ≡ get_or c.rows j (row_at c.rows j)
  row-read c j h = get_or_default c.rows j (empty_row 0) (row_at c.rows j) (rows_here c j h)

  pub at-row : (c : Caches R) (i j : ℕ) → j ≡ i → j ≤ 10 → row_at c.rows j ≡ (shown c).rows i
  at-row c i j q h = read-at-row c i j (row_at c.rows j) q h (row-read c j h)

  pub wrote-both : (c d : Caches R) (i j l m : ℕ) (f : Row Token → Row Token) (g : Side Token → Side Token) (s s' : Side Token) → j ≡ i → j ≤ 10 → m ≡ l → m ≤ 3 → d.rows ≡ set c.rows j (f (row_at c.rows j)) → s ≡ get_or c.sides.items m s → s' ≡ g s → d.sides.items ≡ set c.sides.items m s' → d.processor ≡ c.processor → shown d ≡ on_row i f (on_side l g (shown c))
  wrote-both c d i j l m f g s s' q h p k w t b v z = wrote-both-of c d i j l m f g (row_at c.rows j) (f (row_at c.rows j)) s s' q h p k (row-read c j h) refl t b w v z

  pub wrote-row : (c d : Caches R) (i j : ℕ) (f : Row Token → Row Token) → j ≡ i → j ≤ 10 → d.rows ≡ set c.rows j (f (row_at c.rows j)) → d.sides.items ≡ c.sides.items → d.processor ≡ c.processor → shown d ≡ on_row i f (shown c)
  wrote-row c d i j f q h w v z = wrote-row-of c d i j f (row_at c.rows j) (f (row_at c.rows j)) q h (row-read c j h) refl w v z

  pub wrote-same : (c d : Caches R) (i j : ℕ) (r : Row Token) → j ≡ i → j ≤ 10 → r ≡ row_at c.rows j → d.rows ≡ set c.rows j r → d.sides.items ≡ c.sides.items → d.processor ≡ c.processor → shown d ≡ shown c
  wrote-same c d i j r q h a w v z = wrote-same-of c d i j (row_at c.rows j) r q h (row-read c j h) a w v z
