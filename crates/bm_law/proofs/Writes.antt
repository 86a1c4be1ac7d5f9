-- A write to a list of caches or sides, and a read, as the state sees them.
use Rattle.std.proofs.Common.{◌≡◌, ◌<◌, ℕ, List, length, get_or, set, refl, ◌∙◌, ap, eqb, cond, inl, inr}
use Rattle.std.proofs.lemmas.List.{get_or-set_same, get_or-set_other, get_or_read}
use Rattle.std.proofs.lemmas.Bool.Decides.{eqb_tells}
use Rattle.std.proofs.Math.Path.{fun_ext}
use Rattle.bm_law.specs.State.{Row, Side, State, empty_row, idle_side, state_of, with_row, with_side}

pub get-set : {X : Type 0} (xs : List X) (i : ℕ) (x d : X) → i < length xs → ◌≡◌ {A = ℕ → X} (λ k. get_or (set xs i x) k d) (λ k. cond (eqb k i) x (get_or xs k d))
get-set xs i x d h =
    fun_ext (λ k. elim (eqb_tells k i) [
      | inl y ↦ rw (y.0, y.1) (get_or-set_same xs i x d h)
      | inr y ↦ rw y.0 (get_or-set_other xs i k x d y.1)
    ])

module _ {A : Type 0} where
  -- one cache is written, one side, or both
  pub wrote-row : (p : ℕ) (rows : List (Row A)) (sides : List (Side A)) (c : ℕ) (r : Row A) → c < length rows → state_of p (set rows c r) sides ≡ with_row c r (state_of p rows sides)
  wrote-row p rows sides c r h =
      ap (λ (x : ℕ → Row A). let s : State A = record { rows = x; sides = λ k. get_or sides k idle_side } in s) (get-set rows c r (empty_row p) h)

  pub wrote-side : (p : ℕ) (rows : List (Row A)) (sides : List (Side A)) (l : ℕ) (h : Side A) → l < length sides → state_of p rows (set sides l h) ≡ with_side l h (state_of p rows sides)
  wrote-side p rows sides l h n =
      ap (λ (x : ℕ → Side A). let s : State A = record { rows = λ k. get_or rows k (empty_row p); sides = x } in s) (get-set sides l h idle_side n)

  pub wrote-both : (p : ℕ) (rows : List (Row A)) (sides : List (Side A)) (c l : ℕ) (r : Row A) (h : Side A) → c < length rows → l < length sides → state_of p (set rows c r) (set sides l h) ≡ with_row c r (with_side l h (state_of p rows sides))
  wrote-both p rows sides c l r h m n = wrote-row p rows (set sides l h) c r m ∙ ap (with_row c r) (wrote-side p rows sides l h n)

  -- one is read
  pub read-row : (p : ℕ) (rows : List (Row A)) (sides : List (Side A)) (c : ℕ) (r : Row A) → c < length rows → r ≡ get_or rows c r → r ≡ (state_of p rows sides).rows c
  read-row p rows sides c r h e = get_or_read rows c r h e (empty_row p)

  pub read-side : (p : ℕ) (rows : List (Row A)) (sides : List (Side A)) (l : ℕ) (h : Side A) → l < length sides → h ≡ get_or sides l h → h ≡ (state_of p rows sides).sides l
  read-side p rows sides l h n e = get_or_read sides l h n e idle_side

  -- a write of what is there changes nothing
  pub same-row : (c : ℕ) (r : Row A) (s : State A) → r ≡ s.rows c → with_row c r s ≡ s
  same-row c r s e =
      let rows : ◌≡◌ {A = ℕ → Row A} (λ k. cond (eqb k c) r (s.rows k)) s.rows =
      fun_ext (λ k. elim (eqb_tells k c) [
        | inl y ↦ rw (y.0, y.1) e
        | inr y ↦ rw y.0 refl
      ]) in
      ap (λ (x : ℕ → Row A). let t : State A = record { rows = x; sides = s.sides } in t) rows
