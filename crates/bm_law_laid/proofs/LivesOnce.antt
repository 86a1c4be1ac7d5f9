-- The lives that a unit is given, over an order: each once.
use Rattle.std.proofs.Common.{◌≡◌, ℕ, ◌+◌, [], ◌∷◌, ◌++◌, length, length-append, Option, Some, None, refl, sym, ◌∙◌, ap, subst, arith, inl, inr}
use Rattle.std.proofs.lemmas.Bool.Decides.{eqb_tells}
use Rattle.bm_journal.specs.declared.entry.Entry.{Entry}
use Rattle.bm_journal.specs.declared.entry.Entry.TheVariants as entry
use Rattle.bm_law_order.specs.Lives.{Dropping, Lives, LivesFit, answered_last, answered_still, lives_after}
use Rattle.bm_law_order.specs.Shared.{Shared}
use Rattle.bm_law_order.specs.Orders.{AllFit, AllShared, Event, Order, over, shared_over}
use Rattle.bm_law_laid.specs.Once.{Any, Once, named_by}
use Rattle.bm_law_laid.specs.LivesGiven.{AreGiven, life_given}
use Rattle.bm_law_laid.proofs.Onces.{once-more, once-none}
use Rattle.bm_law_laid.proofs.Parts.{lives-fit, lives-over}

-- An entry gives the unit a life, or none.
data Gives (u : ℕ) (e : Entry) (n m : ℕ) : Type 0 where
  One : life_given u e ≡ m ∷ [] → m ≡ n + 1 → Gives u e n m
  Same : life_given u e ≡ [] → m ≡ n → Gives u e n m

still-begun : (u p l : ℕ) (o : Option Dropping) (lives : Lives) → (answered_still p l o lives).begun u ≡ lives.begun u
still-begun u p l None lives = refl
still-begun u p l (Some d) lives = refl

last-begun : (u p l : ℕ) (o : Option Dropping) (lives : Lives) → (answered_last p l o lives).begun u ≡ lives.begun u
last-begun u p l None lives = refl
last-begun u p l (Some d) lives = refl

gives : (u p l : ℕ) (e : Entry) (lives : Lives) → LivesFit p l e lives → Gives u e (lives.begun u) ((lives_after p l e lives).begun u)
gives u p l (entry.Given v life) lives f = elim (eqb_tells u v) [
  | inl y ↦ One (rw y.0 (ap (λ n. n ∷ []) (f.next_is ∙ ap (λ k. lives.begun k + 1) (sym y.1)))) (rw y.0 refl)
  | inr y ↦ Same (rw y.0 refl) (rw y.0 refl)
]
gives u p l (entry.GivenAfter v life stamp seen) lives f = elim (eqb_tells u v) [
  | inl y ↦ One (rw y.0 (ap (λ n. n ∷ []) (f.next_is ∙ ap (λ k. lives.begun k + 1) (sym y.1)))) (rw y.0 refl)
  | inr y ↦ Same (rw y.0 refl) (rw y.0 refl)
]
gives u p l (entry.Still k) lives f = Same refl (still-begun u p l (lives.dropping p l) lives)
gives u p l entry.Last lives f = Same refl (last-begun u p l (lives.dropping p l) lives)
gives u p l _ lives f = Same refl refl

given-by : (u : ℕ) (e : Event) (n m to : ℕ) (o : Order) → Gives u e.entry n m → AreGiven u m to o → AreGiven u n to (e ∷ o)
given-by u e n m to o (One b k) a = record {
  grows = omega (arith, a.grows, k);
  given = subst (λ xs. Once Any n to (xs ++ named_by (life_given u) o)) (sym b) (once-more Any n m to (named_by (life_given u) o) k tt a.grows a.given);
}
given-by u e n m to o (Same b k) a = record {
  grows = omega (arith, a.grows, k);
  given = subst (λ xs. Once Any n to (xs ++ named_by (life_given u) o)) (sym b) (subst (λ z. Once Any z to (named_by (life_given u) o)) k a.given);
}

pub lives-once : (u : ℕ) (o : Order) (lives : Lives) → AllFit lives_after LivesFit o lives → AreGiven u (lives.begun u) ((over lives_after o lives).begun u) o
lives-once u [] lives h = record { grows = omega arith; given = once-none Any (lives.begun u) }
lives-once u (e ∷ o) lives h = given-by u e _ _ _ o (gives u e.processor e.level e.entry lives h.0) (lives-once u o (lives_after e.processor e.level e.entry lives) h.1)

pub shared-lives : (u : ℕ) (o : Order) (s : Shared) → AllShared o s → AreGiven u (s.lives.begun u) ((shared_over o s).lives.begun u) o
shared-lives u o s h = subst (λ (x : Lives). AreGiven u (s.lives.begun u) (x.begun u) o) (sym (lives-over o s)) (lives-once u o s.lives (lives-fit o s h))

-- ---- how many there are

counted-by : (u : ℕ) (e : Event) (n m to : ℕ) (o : Order) → Gives u e.entry n m → length (named_by (life_given u) o) + m ≡ to → length (named_by (life_given u) (e ∷ o)) + n ≡ to
counted-by u e n m to o (One b k) a =
    let b1 : length (life_given u e.entry) ≡ 1 = ap length b in
    let b2 = length-append (life_given u e.entry) (named_by (life_given u) o) in
    omega (arith, a, b1, b2, k)
counted-by u e n m to o (Same b k) a =
    let b1 : length (life_given u e.entry) ≡ 0 = ap length b in
    let b2 = length-append (life_given u e.entry) (named_by (life_given u) o) in
    omega (arith, a, b1, b2, k)

pub lives-counted : (u : ℕ) (o : Order) (lives : Lives) → AllFit lives_after LivesFit o lives → length (named_by (life_given u) o) + lives.begun u ≡ (over lives_after o lives).begun u
lives-counted u [] lives h = omega arith
lives-counted u (e ∷ o) lives h = counted-by u e _ _ _ o (gives u e.processor e.level e.entry lives h.0) (lives-counted u o (lives_after e.processor e.level e.entry lives) h.1)
