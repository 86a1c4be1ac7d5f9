-- References that are made are dropped, or are there: over an order.
use Rattle.std.proofs.Common.{◌≡◌, ℕ, ◌+◌, ◌-◌, ◌<◌, [], ◌∷◌, Option, Some, None, refl, sym, ◌∙◌, ap, subst, arith, inl, inr}
use Rattle.std.proofs.lemmas.Bool.Decides.{eqb_tells}
use Rattle.bm_journal.specs.declared.entry.Entry.{Entry}
use Rattle.bm_journal.specs.declared.entry.Entry.TheVariants as entry
use Rattle.bm_law_order.specs.Lives.{Dropping, IsReply, Life, Lives, LivesFit, answered_last, answered_still, counted, lives_after}
use Rattle.bm_law_order.specs.Shared.{Shared}
use Rattle.bm_law_order.specs.Orders.{AllFit, AllShared, Order, over, shared_over}
use Rattle.bm_law_laid.specs.References.{count_of, dropped_of, references, references_dropped, references_dropped_over, references_made, references_made_over}
use Rattle.bm_law_laid.proofs.Parts.{lives-fit, lives-over}

-- an entry makes and drops so many
abbrev Balanced : (u p l : ℕ) → Entry → Lives → Type 0
Balanced u p l e lives = references_made u e + references u lives ≡ references_dropped u p l e lives + references u (lives_after p l e lives)

unit-of : (p l k : ℕ) (d : Dropping) (lives : Lives) (r : IsReply p l k lives) → lives.dropping p l ≡ Some d → d.unit ≡ r.unit
unit-of p l k d lives r e = ap unit_or (sym e ∙ r.under)
  where
    unit_or : Option Dropping → ℕ
    unit_or None = 0
    unit_or (Some x) = x.unit

still-one : (u p l k : ℕ) (o : Option Dropping) (lives : Lives) → lives.dropping p l ≡ o → IsReply p l k lives → 1 < k → 0 + references u lives ≡ dropped_of u o + references u (answered_still p l o lives)
still-one u p l k None lives e r more = refl
still-one u p l k (Some d) lives e r more = elim (eqb_tells u d.unit) [
  | inl y ↦
      (let held : lives.holds d.unit ≡ Some r.has.held = ap lives.holds (unit-of p l k d lives r e) ∙ r.has.holds in
      let here : references u lives ≡ r.has.held.count = ap (λ v. count_of (lives.holds v)) y.1 ∙ ap count_of held in
      let now : count_of (counted (λ n. n - 1) (lives.holds d.unit)) ≡ r.has.held.count - 1 = ap (λ (x : Option Life). count_of (counted (λ n. n - 1) x)) held in
      let c = r.has.count in
      rw y.0 (omega (arith, here, now, c, more)))
  | inr y ↦ rw y.0 refl
]

last-one : (u p l : ℕ) (o : Option Dropping) (lives : Lives) → lives.dropping p l ≡ o → IsReply p l 1 lives → 0 + references u lives ≡ dropped_of u o + references u (answered_last p l o lives)
last-one u p l None lives e r = refl
last-one u p l (Some d) lives e r = elim (eqb_tells u d.unit) [
  | inl y ↦
      (let held : lives.holds d.unit ≡ Some r.has.held = ap lives.holds (unit-of p l 1 d lives r e) ∙ r.has.holds in
      let here : references u lives ≡ r.has.held.count = ap (λ v. count_of (lives.holds v)) y.1 ∙ ap count_of held in
      let c = r.has.count in
      rw y.0 (omega (arith, here, c)))
  | inr y ↦ rw y.0 refl
]

balanced : (u p l : ℕ) (e : Entry) (lives : Lives) → LivesFit p l e lives → Balanced u p l e lives
balanced u p l (entry.Given v life) lives f = elim (eqb_tells u v) [
  | inl y ↦ (let none : references u lives ≡ 0 = ap (λ k. count_of (lives.holds k)) y.1 ∙ ap count_of f.none in rw y.0 (omega (arith, none)))
  | inr y ↦ rw y.0 refl
]
balanced u p l (entry.GivenAfter v life stamp seen) lives f = elim (eqb_tells u v) [
  | inl y ↦ (let none : references u lives ≡ 0 = ap (λ k. count_of (lives.holds k)) y.1 ∙ ap count_of f.none in rw y.0 (omega (arith, none)))
  | inr y ↦ rw y.0 refl
]
balanced u p l (entry.Acquire v life k) lives f = elim (eqb_tells u v) [
  | inl y ↦
      (let here : references u lives ≡ f.held.count = ap (λ w. count_of (lives.holds w)) y.1 ∙ ap count_of f.holds in
      let now : count_of (counted (λ n. n + 1) (lives.holds v)) ≡ f.held.count + 1 = ap (λ (x : Option Life). count_of (counted (λ n. n + 1) x)) f.holds in
      rw y.0 (omega (arith, here, now)))
  | inr y ↦ rw y.0 refl
]
balanced u p l (entry.Still k) lives f = still-one u p l k (lives.dropping p l) lives refl f.0 f.1
balanced u p l entry.Last lives f = last-one u p l (lives.dropping p l) lives refl f
balanced u p l _ lives f = refl

pub references-balance : (u : ℕ) (o : Order) (lives : Lives) → AllFit lives_after LivesFit o lives → references_made_over u o + references u lives ≡ references_dropped_over u o lives + references u (over lives_after o lives)
references-balance u [] lives h = refl
references-balance u (e ∷ o) lives h =
    let one = balanced u e.processor e.level e.entry lives h.0 in
    let more = references-balance u o (lives_after e.processor e.level e.entry lives) h.1 in
    omega (arith, one, more)

pub shared-references : (u : ℕ) (o : Order) (s : Shared) → AllShared o s → references_made_over u o + references u s.lives ≡ references_dropped_over u o s.lives + references u (shared_over o s).lives
shared-references u o s h = subst (λ (x : Lives). references_made_over u o + references u s.lives ≡ references_dropped_over u o s.lives + references u x) (sym (lives-over o s)) (references-balance u o s.lives (lives-fit o s h))
