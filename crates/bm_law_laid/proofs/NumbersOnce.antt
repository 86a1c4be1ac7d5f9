-- The numbers of periods, over an order: each once.
use Rattle.std.proofs.Common.{◌≡◌, ◌⊎◌, ℕ, ◌+◌, ◌%◌, ◌≤◌, ◌*◌, [], ◌∷◌, ◌++◌, length, length-append, None, refl, sym, ap, subst, arith, inl, inr}
use Rattle.bm_journal.specs.declared.ids.Domain.{Domain}
use Rattle.bm_journal.specs.declared.ids.Domain.TheVariants.{Plain, Tracing}
use Rattle.bm_journal.specs.declared.entry.Entry.{Entry}
use Rattle.bm_journal.specs.declared.entry.Entry.TheVariants as entry
use Rattle.bm_law.specs.Begun.{for_domain}
use Rattle.bm_law_lives.specs.GraceLaw.{begun_number, ended_number}
use Rattle.bm_law_order.specs.ByDomain.{of, with_of}
use Rattle.bm_law_order.specs.Numbers.{Course, Numbers, NumbersFit, ended, numbers_after}
use Rattle.bm_law_order.specs.Shared.{Shared}
use Rattle.bm_law_order.specs.Orders.{AllFit, AllShared, Event, Order, over, shared_over}
use Rattle.bm_law_laid.specs.Once.{Even, Odd, Once, named_by}
use Rattle.bm_law_laid.specs.PeriodNumbers.{AreNumbered}
use Rattle.bm_law_laid.proofs.Onces.{once-more, once-none, once-skip}
use Rattle.bm_law_laid.proofs.Parts.{numbers-fit, numbers-over}

-- An entry begins a period of the domain, or ends one, or leaves its number.
data Turns (d : Domain) (e : Entry) (n m : ℕ) : Type 0 where
  Begins : begun_number d e ≡ m ∷ [] → ended_number d e ≡ [] → n % 2 ≡ 0 → m ≡ n + 1 → Turns d e n m
  Ends : begun_number d e ≡ [] → ended_number d e ≡ m ∷ [] → n % 2 ≡ 1 → m ≡ n + 1 → Turns d e n m
  Stays : begun_number d e ≡ [] → ended_number d e ≡ [] → m ≡ n → Turns d e n m

-- a period that ends is of this domain or of the other one
finish-case : (d e : Domain) (k : ℕ) (ns : Numbers) → k ≡ (of e ns).number + 1 → (of e ns).number % 2 ≡ 1 → ((for_domain d e (k ∷ []) [] ≡ (of d (with_of e (ended (of e ns)) ns)).number ∷ []) × ((of d ns).number % 2 ≡ 1) × ((of d (with_of e (ended (of e ns)) ns)).number ≡ (of d ns).number + 1)) ⊎ ((for_domain d e (k ∷ []) [] ≡ []) × ((of d (with_of e (ended (of e ns)) ns)).number ≡ (of d ns).number))
finish-case Plain Plain k ns e h = inl (ap (λ n. n ∷ []) e, h, refl)
finish-case Plain Tracing k ns e h = inr (refl, refl)
finish-case Tracing Plain k ns e h = inr (refl, refl)
finish-case Tracing Tracing k ns e h = inl (ap (λ n. n ∷ []) e, h, refl)

turned : (d : Domain) (p l : ℕ) (e : Entry) (ns : Numbers) → NumbersFit p l e ns → Turns d e (of d ns).number (of d (numbers_after p l e ns)).number
turned Plain p l (entry.Begin Plain n) ns f = Begins (ap (λ k. k ∷ []) f.number) refl f.even refl
turned Plain p l (entry.Begin Tracing n) ns f = Stays refl refl refl
turned Tracing p l (entry.Begin Plain n) ns f = Stays refl refl refl
turned Tracing p l (entry.Begin Tracing n) ns f = Begins (ap (λ k. k ∷ []) f.number) refl f.even refl
turned d p l (entry.Finish period) ns f = elim (finish-case d period.domain period.number ns f.number f.odd) [ inl x ↦ Ends refl x.0 x.1 x.2 | inr x ↦ Stays refl x.0 x.1 ]
turned d p l _ ns f = Stays refl refl refl

grows-by : (d : Domain) (e : Entry) (n m : ℕ) → Turns d e n m → n ≤ m
grows-by d e n m (Begins b f h k) = omega (arith, k)
grows-by d e n m (Ends b f h k) = omega (arith, k)
grows-by d e n m (Stays b f k) = omega (arith, k)

pub number-grows : (d : Domain) (p l : ℕ) (e : Entry) (ns : Numbers) → NumbersFit p l e ns → (of d ns).number ≤ (of d (numbers_after p l e ns)).number
number-grows d p l e ns f = grows-by d e _ _ (turned d p l e ns f)

numbered-by : (d : Domain) (e : Event) (n m to : ℕ) (o : Order) → Turns d e.entry n m → AreNumbered d m to o → AreNumbered d n to (e ∷ o)
numbered-by d e n m to o (Begins b f h k) a = record {
  grows = omega (arith, a.grows, k);
  begun = subst (λ xs. Once Odd n to (xs ++ named_by (begun_number d) o)) (sym b) (once-more Odd n m to (named_by (begun_number d) o) k (omega (arith, h, k)) a.grows a.begun);
  ended = subst (λ xs. Once Even n to (xs ++ named_by (ended_number d) o)) (sym f) (once-skip Even n m to (named_by (ended_number d) o) k (λ q. omega (arith, h, k, q)) a.ended);
}
numbered-by d e n m to o (Ends b f h k) a = record {
  grows = omega (arith, a.grows, k);
  begun = subst (λ xs. Once Odd n to (xs ++ named_by (begun_number d) o)) (sym b) (once-skip Odd n m to (named_by (begun_number d) o) k (λ q. omega (arith, h, k, q)) a.begun);
  ended = subst (λ xs. Once Even n to (xs ++ named_by (ended_number d) o)) (sym f) (once-more Even n m to (named_by (ended_number d) o) k (omega (arith, h, k)) a.grows a.ended);
}
numbered-by d e n m to o (Stays b f k) a = record {
  grows = omega (arith, a.grows, k);
  begun = subst (λ xs. Once Odd n to (xs ++ named_by (begun_number d) o)) (sym b) (subst (λ z. Once Odd z to (named_by (begun_number d) o)) k a.begun);
  ended = subst (λ xs. Once Even n to (xs ++ named_by (ended_number d) o)) (sym f) (subst (λ z. Once Even z to (named_by (ended_number d) o)) k a.ended);
}

pub numbers-once : (d : Domain) (o : Order) (ns : Numbers) → AllFit numbers_after NumbersFit o ns → AreNumbered d (of d ns).number (of d (over numbers_after o ns)).number o
numbers-once d [] ns h = record { grows = omega arith; begun = once-none Odd (of d ns).number; ended = once-none Even (of d ns).number }
numbers-once d (e ∷ o) ns h = numbered-by d e _ _ _ o (turned d e.processor e.level e.entry ns h.0) (numbers-once d o (numbers_after e.processor e.level e.entry ns) h.1)

pub shared-numbers : (d : Domain) (o : Order) (s : Shared) → AllShared o s → AreNumbered d (of d s.numbers).number (of d (shared_over o s).numbers).number o
shared-numbers d o s h = subst (λ (ns : Numbers). AreNumbered d (of d s.numbers).number (of d ns).number o) (sym (numbers-over o s)) (numbers-once d o s.numbers (numbers-fit o s h))

-- ---- how many there are

pub record AreCounted (d : Domain) (from to : ℕ) (o : Order) : Type 0 where
  pub begun : 2 * length (named_by (begun_number d) o) + (from + from % 2) ≡ to + to % 2
  pub ended : 2 * length (named_by (ended_number d) o) + (from + to % 2) ≡ to + from % 2

counted-by : (d : Domain) (e : Event) (n m to : ℕ) (o : Order) → Turns d e.entry n m → AreCounted d m to o → AreCounted d n to (e ∷ o)
counted-by d e n m to o (Begins b f h k) a =
    let x = a.begun in
    let y = a.ended in
    let b1 : length (begun_number d e.entry) ≡ 1 = ap length b in
    let f1 : length (ended_number d e.entry) ≡ 0 = ap length f in
    let b2 = length-append (begun_number d e.entry) (named_by (begun_number d) o) in
    let f2 = length-append (ended_number d e.entry) (named_by (ended_number d) o) in
    record { begun = omega (arith, x, b1, b2, h, k); ended = omega (arith, y, f1, f2, h, k) }
counted-by d e n m to o (Ends b f h k) a =
    let x = a.begun in
    let y = a.ended in
    let b1 : length (begun_number d e.entry) ≡ 0 = ap length b in
    let f1 : length (ended_number d e.entry) ≡ 1 = ap length f in
    let b2 = length-append (begun_number d e.entry) (named_by (begun_number d) o) in
    let f2 = length-append (ended_number d e.entry) (named_by (ended_number d) o) in
    record { begun = omega (arith, x, b1, b2, h, k); ended = omega (arith, y, f1, f2, h, k) }
counted-by d e n m to o (Stays b f k) a =
    let x = a.begun in
    let y = a.ended in
    let b1 : length (begun_number d e.entry) ≡ 0 = ap length b in
    let f1 : length (ended_number d e.entry) ≡ 0 = ap length f in
    let b2 = length-append (begun_number d e.entry) (named_by (begun_number d) o) in
    let f2 = length-append (ended_number d e.entry) (named_by (ended_number d) o) in
    record { begun = omega (arith, x, b1, b2, k); ended = omega (arith, y, f1, f2, k) }

pub numbers-counted : (d : Domain) (o : Order) (ns : Numbers) → AllFit numbers_after NumbersFit o ns → AreCounted d (of d ns).number (of d (over numbers_after o ns)).number o
numbers-counted d [] ns h = record { begun = omega arith; ended = omega arith }
numbers-counted d (e ∷ o) ns h = counted-by d e _ _ _ o (turned d e.processor e.level e.entry ns h.0) (numbers-counted d o (numbers_after e.processor e.level e.entry ns) h.1)

-- ---- no period in progress

-- then the number is even
pub record Rests (here : Course) : Type 0 where
  pub even : here.driver ≡ None → here.number % 2 ≡ 0

rests-end : (d e : Domain) (ns : Numbers) → (of e ns).number % 2 ≡ 1 → Rests (of d ns) → Rests (of d (with_of e (ended (of e ns)) ns))
rests-end Plain Plain ns odd h = record { even = λ q. omega (arith, odd) }
rests-end Plain Tracing ns odd h = record { even = h.even }
rests-end Tracing Plain ns odd h = record { even = h.even }
rests-end Tracing Tracing ns odd h = record { even = λ q. omega (arith, odd) }

rests-after : (d : Domain) (p l : ℕ) (e : Entry) (ns : Numbers) → NumbersFit p l e ns → Rests (of d ns) → Rests (of d (numbers_after p l e ns))
rests-after Plain p l (entry.Begin Plain n) ns f h = record { even = λ q. absurd (cc) }
rests-after Plain p l (entry.Begin Tracing n) ns f h = record { even = h.even }
rests-after Tracing p l (entry.Begin Plain n) ns f h = record { even = h.even }
rests-after Tracing p l (entry.Begin Tracing n) ns f h = record { even = λ q. absurd (cc) }
rests-after d p l (entry.Finish period) ns f h = rests-end d period.domain ns f.odd h
rests-after d p l _ ns f h = h

pub rests-over : (d : Domain) (o : Order) (ns : Numbers) → AllFit numbers_after NumbersFit o ns → Rests (of d ns) → Rests (of d (over numbers_after o ns))
rests-over d [] ns f h = h
rests-over d (e ∷ o) ns f h = rests-over d o (numbers_after e.processor e.level e.entry ns) f.1 (rests-after d e.processor e.level e.entry ns f.0 h)
