-- The lives of a unit that end, over an order: each once.
use Rattle.std.proofs.Common.{◌≡◌, ℕ, ◌+◌, ◌-◌, List, [], ◌∷◌, ◌++◌, length, length-append, Option, Some, None, refl, sym, ◌∙◌, ap, subst, arith, inl, inr}
use Rattle.std.specs.Prelude.{eqb, if◌then◌else◌}
use Rattle.std.proofs.lemmas.Bool.Decides.{eqb_tells}
use Rattle.bm_journal.specs.declared.entry.Entry.{Entry}
use Rattle.bm_journal.specs.declared.entry.Entry.TheVariants as entry
use Rattle.bm_law_order.specs.Lives.{Dropping, IsReply, Life, Lives, LivesFit, answered_last, answered_still, counted, given_life, lives_after}
use Rattle.bm_law_order.specs.Shared.{Shared}
use Rattle.bm_law_order.specs.Orders.{AllFit, AllShared, Order, over, shared_over}
use Rattle.bm_law_laid.specs.Once.{Any, Once}
use Rattle.bm_law_laid.specs.LivesEnded.{AreEnded, HasBegun, OneBegun, ended_of, ended_so_far, life_ended, life_of_drop, lives_ended_over}
use Rattle.bm_law_laid.proofs.Onces.{once-more, once-none}
use Rattle.bm_law_laid.proofs.Parts.{lives-fit, lives-over}

-- An entry ends the unit's life, or none of its lives; and it has begun what it has.
data Turn (u : ℕ) (es : List ℕ) (n : ℕ) (now : Lives) : Type 0 where
  Ends : es ≡ ended_so_far u now ∷ [] → ended_so_far u now ≡ n + 1 → HasBegun u now → Turn u es n now
  Same : es ≡ [] → ended_so_far u now ≡ n → HasBegun u now → Turn u es n now

-- as many lives, whatever the count
recounted : (u v : ℕ) (f : ℕ → ℕ) (b : ℕ) (holds : ℕ → Option Life) → OneBegun b (holds u) → (ended_of b (if eqb u v then counted f (holds v) else holds u) ≡ ended_of b (holds u)) × OneBegun b (if eqb u v then counted f (holds v) else holds u)
recounted u v f b holds h = elim (eqb_tells u v) [
  | inl y ↦ rw y.0 (subst (λ k. (ended_of b (counted f (holds k)) ≡ ended_of b (holds u)) × OneBegun b (counted f (holds k))) y.1 (shape (holds u) h))
  | inr y ↦ rw y.0 (refl, h)
]
  where
    shape : (o : Option Life) → OneBegun b o → (ended_of b (counted f o) ≡ ended_of b o) × OneBegun b (counted f o)
    shape None h = (refl, h)
    shape (Some x) h = (refl, h)

gives : (p u v : ℕ) (lives : Lives) → lives.holds v ≡ None → HasBegun u lives → Turn u [] (ended_so_far u lives) (given_life p v lives)
gives p u v lives none h = elim (eqb_tells u v) [
  | inl y ↦
      (let bare : lives.holds u ≡ None = subst (λ k. lives.holds k ≡ None) (sym y.1) none in
      Same refl (rw y.0 (omega arith ∙ sym (ap (ended_of (lives.begun u)) bare))) (rw y.0 (omega arith)))
  | inr y ↦ Same refl (rw y.0 refl) (rw y.0 h)
]

stills : (u p l : ℕ) (o : Option Dropping) (lives : Lives) → HasBegun u lives → Turn u [] (ended_so_far u lives) (answered_still p l o lives)
stills u p l None lives h = Same refl refl h
stills u p l (Some d) lives h = let r = recounted u d.unit (λ k. k - 1) (lives.begun u) lives.holds h in Same refl r.0 r.1

lasts : (u p l : ℕ) (o : Option Dropping) (lives : Lives) → lives.dropping p l ≡ o → IsReply p l 1 lives → HasBegun u lives → Turn u (life_of_drop u o) (ended_so_far u lives) (answered_last p l o lives)
lasts u p l None lives e r h = Same refl refl h
lasts u p l (Some d) lives e r h =
    let unit : d.unit ≡ r.unit = ap unit_or (sym e ∙ r.under) in
    let life : d.life ≡ r.life = ap life_or (sym e ∙ r.under) in
    elim (eqb_tells u d.unit) [
      | inl y ↦
          (let held : lives.holds u ≡ Some r.has.held = subst (λ k. lives.holds k ≡ Some r.has.held) (sym unit ∙ sym y.1) r.has.holds in
          let last : d.life ≡ lives.begun u = life ∙ (r.has.now_is ∙ ap lives.begun (sym unit ∙ sym y.1)) in
          let more = subst (OneBegun (lives.begun u)) held h in
          Ends (rw y.0 (ap (λ k. k ∷ []) last)) (rw y.0 (omega (arith, more) ∙ sym (ap (λ o. ended_of (lives.begun u) o + 1) held))) (rw y.0 tt))
      | inr y ↦ Same (rw y.0 refl) (rw y.0 refl) (rw y.0 h)
    ]
  where
    unit_or : Option Dropping → ℕ
    unit_or None = 0
    unit_or (Some x) = x.unit

    life_or : Option Dropping → ℕ
    life_or None = 0
    life_or (Some x) = x.life

turn : (u p l : ℕ) (e : Entry) (lives : Lives) → LivesFit p l e lives → HasBegun u lives → Turn u (life_ended u p l e lives) (ended_so_far u lives) (lives_after p l e lives)
turn u p l (entry.Given v life) lives f h = gives p u v lives f.none h
turn u p l (entry.GivenAfter v life stamp seen) lives f h = gives p u v lives f.none h
turn u p l (entry.Acquire v life k) lives f h = let r = recounted u v (λ n. n + 1) (lives.begun u) lives.holds h in Same refl r.0 r.1
turn u p l (entry.Still k) lives f h = stills u p l (lives.dropping p l) lives h
turn u p l entry.Last lives f h = lasts u p l (lives.dropping p l) lives refl f h
turn u p l _ lives f h = Same refl refl h

begun-still : (u n : ℕ) (es : List ℕ) (now : Lives) → Turn u es n now → HasBegun u now
begun-still u n es now (Ends e k h) = h
begun-still u n es now (Same e k h) = h

ends-by : (u n to : ℕ) (es xs : List ℕ) (now : Lives) → Turn u es n now → AreEnded u (ended_so_far u now) to xs → AreEnded u n to (es ++ xs)
ends-by u n to es xs now (Ends e k h) a = record {
  grows = omega (arith, a.grows, k);
  each = subst (λ ys. Once Any n to (ys ++ xs)) (sym e) (once-more Any n (ended_so_far u now) to xs k tt a.grows a.each);
}
ends-by u n to es xs now (Same e k h) a = record {
  grows = omega (arith, a.grows, k);
  each = subst (λ ys. Once Any n to (ys ++ xs)) (sym e) (subst (λ z. Once Any z to xs) k a.each);
}

pub ends-once : (u : ℕ) (o : Order) (lives : Lives) → AllFit lives_after LivesFit o lives → HasBegun u lives → AreEnded u (ended_so_far u lives) (ended_so_far u (over lives_after o lives)) (lives_ended_over u o lives)
ends-once u [] lives h b = record { grows = omega arith; each = once-none Any (ended_so_far u lives) }
ends-once u (e ∷ o) lives h b =
    let now : Lives = lives_after e.processor e.level e.entry lives in
    let t = turn u e.processor e.level e.entry lives h.0 b in
    ends-by u (ended_so_far u lives) (ended_so_far u (over lives_after o now)) (life_ended u e.processor e.level e.entry lives) (lives_ended_over u o now) now t
    (ends-once u o now h.1 (begun-still u (ended_so_far u lives) (life_ended u e.processor e.level e.entry lives) now t))

pub shared-ends : (u : ℕ) (o : Order) (s : Shared) → AllShared o s → HasBegun u s.lives → AreEnded u (ended_so_far u s.lives) (ended_so_far u (shared_over o s).lives) (lives_ended_over u o s.lives)
shared-ends u o s h b = subst (λ (x : Lives). AreEnded u (ended_so_far u s.lives) (ended_so_far u x) (lives_ended_over u o s.lives)) (sym (lives-over o s)) (ends-once u o s.lives (lives-fit o s h) b)

-- ---- how many there are

counted-by : (u n to : ℕ) (es xs : List ℕ) (now : Lives) → Turn u es n now → length xs + ended_so_far u now ≡ to → length (es ++ xs) + n ≡ to
counted-by u n to es xs now (Ends e k h) a =
    let one : length es ≡ 1 = ap length e in
    let both = length-append es xs in
    omega (arith, a, one, both, k)
counted-by u n to es xs now (Same e k h) a =
    let none : length es ≡ 0 = ap length e in
    let both = length-append es xs in
    omega (arith, a, none, both, k)

pub ends-counted : (u : ℕ) (o : Order) (lives : Lives) → AllFit lives_after LivesFit o lives → HasBegun u lives → length (lives_ended_over u o lives) + ended_so_far u lives ≡ ended_so_far u (over lives_after o lives)
ends-counted u [] lives h b = omega arith
ends-counted u (e ∷ o) lives h b =
    let now : Lives = lives_after e.processor e.level e.entry lives in
    let t = turn u e.processor e.level e.entry lives h.0 b in
    counted-by u (ended_so_far u lives) (ended_so_far u (over lives_after o now)) (life_ended u e.processor e.level e.entry lives) (lives_ended_over u o now) now t
    (ends-counted u o now h.1 (begun-still u (ended_so_far u lives) (life_ended u e.processor e.level e.entry lives) now t))
