-- What is under way at a level is the last call of that level.
use Rattle.std.proofs.Common.{ℕ, None, Some, Option, sym, subst, inl, inr}
use Rattle.std.specs.Prelude.{◌&&◌, eqb, if◌then◌else◌}
use Rattle.std.proofs.lemmas.Bool.Decides.{eqb_tells}
use Rattle.bm_law_order.specs.Polls.{for_processor}
use Rattle.bm_law_objects.specs.Gathered.{AreLast, IsLast, on_level}

module _ {A B : Type 0} (call : B → Option A) where
  -- where a level has no new call, but may have something else under way
  none-new : (p l q k : ℕ) (x : B) (way : ℕ → ℕ → B) (last : ℕ → ℕ → Option A) → AreLast call way last → IsLast (call x) (last p l) → IsLast (call (if eqb q p && eqb k l then x else way q k)) (for_processor p (on_level l None (last p)) last q k)
  none-new p l q k x way last h new = elim (eqb_tells q p) [
    | inl y ↦ rw y.0 (elim (eqb_tells k l) [
      | inl z ↦ rw z.0 (subst (λ m. IsLast (call x) (last p m)) (sym z.1) new)
      | inr z ↦ rw z.0 (subst (λ m. IsLast (call (way q k)) (last m k)) y.1 (h q k))
    ])
    | inr y ↦ rw y.0 (h q k)
  ]

  some-new : (p l q k : ℕ) (x : B) (c : A) (way : ℕ → ℕ → B) (last : ℕ → ℕ → Option A) → AreLast call way last → IsLast (call x) (Some c) → IsLast (call (if eqb q p && eqb k l then x else way q k)) (for_processor p (on_level l (Some c) (last p)) last q k)
  some-new p l q k x c way last h new = elim (eqb_tells q p) [
    | inl y ↦ rw y.0 (elim (eqb_tells k l) [
      | inl z ↦ rw z.0 new
      | inr z ↦ rw z.0 (subst (λ m. IsLast (call (way q k)) (last m k)) y.1 (h q k))
    ])
    | inr y ↦ rw y.0 (h q k)
  ]

  abbrev Newer : Option A → Option A → B → Type 0
  Newer None last x = IsLast (call x) last
  Newer (Some c) last x = IsLast (call x) (Some c)

  pub under-point : (p l : ℕ) (x : B) (new : Option A) (way : ℕ → ℕ → B) (last : ℕ → ℕ → Option A) → AreLast call way last → Newer new (last p l) x → AreLast call (λ q k. if eqb q p && eqb k l then x else way q k) (for_processor p (on_level l new (last p)) last)
  under-point p l x None way last h new q k = none-new p l q k x way last h new
  under-point p l x (Some c) way last h new q k = some-new p l q k x c way last h new

  pub under-same : (p l : ℕ) (way : ℕ → ℕ → B) (last : ℕ → ℕ → Option A) → AreLast call way last → AreLast call way (for_processor p (on_level l None (last p)) last)
  under-same p l way last h q k = elim (eqb_tells q p) [ inl y ↦ rw y.0 (subst (λ m. IsLast (call (way q k)) (last m k)) y.1 (h q k)) | inr y ↦ rw y.0 (h q k) ]
