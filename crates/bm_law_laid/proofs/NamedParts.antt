-- What logs name is what an order of them names, as often.
use Rattle.std.proofs.Common.{◌≡◌, ◌≢◌, ℕ, ◌+◌, List, [], ◌∷◌, ◌++◌, length, get_or, refl, sym, ◌∙◌, ap, arith, inl, inr, length-append}
use Rattle.std.proofs.lemmas.Bool.Decides.{eqb_tells}
use Rattle.bm_journal.specs.declared.entry.Entry.{Entry}
use Rattle.bm_law.specs.Lists.{Log}
use Rattle.bm_law.specs.Stands.{sum_to}
use Rattle.bm_law.proofs.Stands.{sum-same, sum-update, sum-zero}
use Rattle.bm_law_lives.specs.Together.{named, named_in, times}
use Rattle.bm_law_order.specs.Orders.{Event, Order, part_of}
use Rattle.bm_law_laid.specs.Once.{named_by}
use Rattle.bm_law_laid.specs.OrderOf.{AllBelow, IsOrderOf}
use Rattle.bm_law_laid.proofs.Onces.{times-append}
use Rattle.bm_law_laid.proofs.Sums.{sum-logs}

-- a count of what is named, that adds up
module _ {A : Type 0} (names : Entry → List A) (count : List A → ℕ) (none : count [] ≡ 0) (both : (xs ys : List A) → count (xs ++ ys) ≡ count xs + count ys) where
  -- what an order has a processor's log name
  abbrev named_at : ℕ → Order → ℕ
  named_at p o = count (named_in names (part_of p o))

  part-here : (n : ℕ) (e : Event) (o : Order) → e.processor ≡ n → named_at n (e ∷ o) ≡ count (names e.entry) + named_at n o
  part-here n e o q = elim (eqb_tells e.processor n) [ inl y ↦ rw y.0 (both (names e.entry) (named_in names (part_of n o))) | inr y ↦ absurd (y.1 q) ]

  part-there : (n : ℕ) (e : Event) (o : Order) → n ≢ e.processor → named_at n (e ∷ o) ≡ named_at n o
  part-there n e o ne = elim (eqb_tells e.processor n) [ inl y ↦ absurd (ne (sym y.1)) | inr y ↦ rw y.0 refl ]

  order-sum : (n : ℕ) (o : Order) → AllBelow n o → sum_to n (λ p. named_at p o) ≡ count (named_by names o)
  order-sum n [] h = sum-same n (λ p. 0) (λ p. count []) (λ p lt. none) ∙ (sum-zero n ∙ sym none)
  order-sum n (e ∷ o) h =
      let more = sum-update n e.processor (λ p. named_at p o) (λ p. named_at p (e ∷ o)) h.0 (λ p ne. part-there p e o ne) in
      let here = part-here e.processor e o refl in
      let rest = order-sum n o h.1 in
      let c = both (names e.entry) (named_by names o) in
      omega (arith, more, here, rest, c)

  pub counted-parts : (logs : List Log) (o : Order) → IsOrderOf logs o → count (named names logs) ≡ count (named_by names o)
  counted-parts logs o is =
      let of-logs = sum-logs (λ log. count (named_in names log)) (λ ls. count (named names ls)) none (λ log ls. both (named_in names log) (named names ls)) logs in
      let same = sum-same (length logs) (λ p. count (named_in names (get_or logs p []))) (λ p. named_at p o) (λ p lt. ap (λ log. count (named_in names log)) (is.parts p lt)) in
      let of-order = order-sum (length logs) o is.below in
      omega (arith, of-logs, same, of-order)

pub named-parts : (names : Entry → List ℕ) (logs : List Log) (o : Order) → IsOrderOf logs o → (x : ℕ) → times x (named names logs) ≡ times x (named_by names o)
named-parts names logs o is x = counted-parts names (times x) refl (times-append x) logs o is

pub named-count : (names : Entry → List ℕ) (logs : List Log) (o : Order) → IsOrderOf logs o → length (named names logs) ≡ length (named_by names o)
named-count names logs o is = counted-parts names length refl (λ xs ys. length-append xs ys) logs o is
