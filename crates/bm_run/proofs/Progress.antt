-- Which periods a processor has in progress where an order leads from the outset: those that its own log tells.
use Rattle.std.specs.Prelude.{◌≢◌, ◌+◌, ◌%◌, eqb, if◌then◌else◌}
use Rattle.std.proofs.Common.{◌≡◌, ℕ, zero, suc, Bool, [], ◌∷◌, Option, None, Some, refl, sym, ◌∙◌, ap, subst, arith, inl, inr, eq-eqb, ne_eqb}
use Rattle.std.proofs.lemmas.Bool.{cases_Bool}
use Rattle.std.proofs.lemmas.Bool.Decides.{eqb_tells}
use Rattle.bm_journal.specs.declared.ids.Domain.{Domain}
use Rattle.bm_journal.specs.declared.ids.Domain.TheVariants.{Plain, Tracing}
use Rattle.bm_journal.specs.declared.entry.Entry.{Entry}
use Rattle.bm_journal.specs.declared.entry.Entry.TheVariants as entry
use Rattle.bm_law.specs.Begun.{begun_after, begun_by, for_domain}
use Rattle.bm_law_scenario.specs.Closing.{in_progress}
use Rattle.bm_law_order.specs.ByDomain.{of, with_of}
use Rattle.bm_law_order.specs.Numbers.{Course, Numbers, NumbersFit, ended, first_numbers, numbers_after}
use Rattle.bm_law_order.specs.Orders.{AllFit, Leads, Order, over, part_of}
use Rattle.bm_law_order.specs.Shared.{Shared, fresh}
use Rattle.bm_law_order.specs.Story.{plainly}
use Rattle.bm_law_laid.proofs.Parts.{numbers-fit, numbers-over}
use Rattle.bm_grace.specs.Known.{side}
use Rattle.bm_grace.specs.PlainState.{is_processor, side_in}
use Rattle.bm_world.specs.LivingState.{LivingState, known_living}
use Rattle.bm_world.specs.ToldLiving.{told_living}
use Rattle.bm_run.proofs.StampsBound.{odd-after}

-- while a period is in progress the number is odd
abbrev Odd : Course → Type 0
Odd here = here.driver ≢ None → here.number % 2 ≡ 1

-- the number with which the period began that a processor has in progress
abbrev begun_with : ℕ → Option ℕ → ℕ → Option ℕ
begun_with p None number = None
begun_with p (Some q) number = if eqb q p then Some number else None

abbrev begun_in : ℕ → Course → Option ℕ
begun_in p here = begun_with p here.driver here.number

-- the processor has none where the number is even, or where another one has it
even-none : (p : ℕ) (driver : Option ℕ) (number : ℕ) → (driver ≢ None → number % 2 ≡ 1) → number % 2 ≡ 0 → begun_with p driver number ≡ None
even-none p None number h e = refl
even-none p (Some q) number h e = absurd (let odd = h (λ z. absurd (cc)) in omega (arith, odd, e))

others-none : (p q : ℕ) (here : Course) → q ≢ p → here.driver ≡ Some q → begun_in p here ≡ None
others-none p q here ne e = ap (λ o. begun_with p o here.number) e ∙ ap (λ (b : Bool). if b then Some here.number else None) (ne_eqb q p ne)

-- ---- an entry of the processor

ends : (p : ℕ) (d e : Domain) (ns : Numbers) → for_domain d e None (begun_in p (of d ns)) ≡ begun_in p (of d (with_of e (ended (of e ns)) ns))
ends p Plain Plain ns = refl
ends p Plain Tracing ns = refl
ends p Tracing Plain ns = refl
ends p Tracing Tracing ns = refl

own-begin : (p m k : ℕ) → m ≡ k → Some m ≡ (if eqb p p then Some k else None)
own-begin p m k e = rw (eq-eqb p p refl) (ap (λ z. Some z) e)

own-step : (p l : ℕ) (d : Domain) (e : Entry) (ns : Numbers) → NumbersFit p l e ns → begun_after d (begun_in p (of d ns)) e ≡ begun_in p (of d (numbers_after p l e ns))
own-step p l Plain (entry.Begin Plain n) ns f = own-begin p n (ns.plain.number + 1) f.number
own-step p l Plain (entry.Begin Tracing n) ns f = refl
own-step p l Tracing (entry.Begin Plain n) ns f = refl
own-step p l Tracing (entry.Begin Tracing n) ns f = own-begin p n (ns.tracing.number + 1) f.number
own-step p l d (entry.Finish period) ns f = ends p d period.domain ns
own-step p l d _ ns f = refl

own-as : (p q l : ℕ) (d : Domain) (e : Entry) (ns : Numbers) → q ≡ p → NumbersFit q l e ns → begun_after d (begun_in p (of d ns)) e ≡ begun_in p (of d (numbers_after q l e ns))
own-as p q l d e ns same f = subst (λ k. begun_after d (begun_in p (of d ns)) e ≡ begun_in p (of d (numbers_after k l e ns))) (sym same) (own-step p l d e ns (subst (λ k. NumbersFit k l e ns) same f))

-- ---- an entry of another one

other-begin : (p q k : ℕ) → q ≢ p → None ≡ (if eqb q p then Some k else None)
other-begin p q k ne = rw (ne_eqb q p ne) refl

other-ends : (p q : ℕ) (d e : Domain) (ns : Numbers) → q ≢ p → (of e ns).driver ≡ Some q → begun_in p (of d ns) ≡ begun_in p (of d (with_of e (ended (of e ns)) ns))
other-ends p q Plain Plain ns ne f = others-none p q ns.plain ne f
other-ends p q Plain Tracing ns ne f = refl
other-ends p q Tracing Plain ns ne f = refl
other-ends p q Tracing Tracing ns ne f = others-none p q ns.tracing ne f

other-step : (p q l : ℕ) (d : Domain) (e : Entry) (ns : Numbers) → q ≢ p → NumbersFit q l e ns → ((d : Domain) → Odd (of d ns)) → begun_in p (of d ns) ≡ begun_in p (of d (numbers_after q l e ns))
other-step p q l Plain (entry.Begin Plain n) ns ne f odd = even-none p ns.plain.driver ns.plain.number (odd Plain) f.even ∙ other-begin p q (ns.plain.number + 1) ne
other-step p q l Plain (entry.Begin Tracing n) ns ne f odd = refl
other-step p q l Tracing (entry.Begin Plain n) ns ne f odd = refl
other-step p q l Tracing (entry.Begin Tracing n) ns ne f odd = even-none p ns.tracing.driver ns.tracing.number (odd Tracing) f.even ∙ other-begin p q (ns.tracing.number + 1) ne
other-step p q l d (entry.Finish period) ns ne f odd = other-ends p q d period.domain ns ne f.driver
other-step p q l d _ ns ne f odd = refl

-- ---- along an order

-- what is in progress then, the processor's own log tells
record Tells (p : ℕ) (d : Domain) (o : Order) (ns : Numbers) : Type 0 where
  odd : (d : Domain) → Odd (of d (over numbers_after o ns))
  begun : in_progress d (begun_in p (of d ns)) (part_of p o) ≡ begun_in p (of d (over numbers_after o ns))

along : (p : ℕ) (d : Domain) (o : Order) (ns : Numbers) → AllFit numbers_after NumbersFit o ns → ((d : Domain) → Odd (of d ns)) → Tells p d o ns
along p d [] ns f odd = record { odd = odd; begun = refl }
along p d (e ∷ o) ns f odd =
    let now = numbers_after e.processor e.level e.entry ns in
    let rest = along p d o now f.1 (odd-after e.processor e.level e.entry ns f.0 odd) in
    record {
      odd = rest.odd;
      begun = elim (eqb_tells e.processor p) [
        | inl y ↦ rw y.0 (ap (λ b. in_progress d b (part_of p o)) (own-as p e.processor e.level d e.entry ns y.1 f.0) ∙ rest.begun)
        | inr y ↦ rw y.0 (ap (λ b. in_progress d b (part_of p o)) (other-step p e.processor e.level d e.entry ns y.1 f.0 odd) ∙ rest.begun)
      ];
    }

first-odd : (d : Domain) → Odd (of d first_numbers)
first-odd Plain k = absurd (k refl)
first-odd Tracing k = absurd (k refl)

first-none : (p : ℕ) (d : Domain) → begun_in p (of d first_numbers) ≡ None
first-none p Plain = refl
first-none p Tracing = refl

-- ---- what the processor's side knows of it

known-begun : (p : ℕ) (driver : Option ℕ) (number : ℕ) → (driver ≢ None → number % 2 ≡ 1) → begun_by (if is_processor p driver then number else 0) ≡ begun_with p driver number
known-begun p None number h = refl
known-begun p (Some q) number h = elim (cases_Bool (eqb q p)) [
  | inl y ↦ rw y (own number (h (λ z. absurd (cc))))
  | inr y ↦ rw y refl
]
  where
    own : (number : ℕ) → number % 2 ≡ 1 → begun_by number ≡ Some number
    own zero odd = absurd (omega (arith, odd))
    own (suc number) odd = refl

-- Where an order leads from the outset to what a world tells, the side of each processor knows what its log tells.
pub order-progress : (n pages p : ℕ) (o : Order) (world : LivingState) → world.side.grace.processor ≡ p → Leads o (fresh n pages) (plainly (told_living world)) → (d : Domain) → begun_by (side d (known_living world)).number ≡ in_progress d None (part_of p o)
order-progress n pages p o world own l d = known d (there d)
  where
    there : (d : Domain) → Odd (of d (told_living world).numbers) × (in_progress d None (part_of p o) ≡ begun_in p (of d (told_living world).numbers))
    there d =
        let now : over numbers_after o first_numbers ≡ (told_living world).numbers = sym (numbers-over o (fresh n pages)) ∙ ap (λ (s : Shared). s.numbers) l.now_is in
        let all = along p d o first_numbers (numbers-fit o (fresh n pages) l.fit) first-odd in
        subst (λ (ns : Numbers). Odd (of d ns) × (in_progress d None (part_of p o) ≡ begun_in p (of d ns))) now (all.odd d, ap (λ b. in_progress d b (part_of p o)) (sym (first-none p d)) ∙ all.begun)

    known : (d : Domain) → Odd (of d (told_living world).numbers) × (in_progress d None (part_of p o) ≡ begun_in p (of d (told_living world).numbers)) → begun_by (side d (known_living world)).number ≡ in_progress d None (part_of p o)
    known Plain h = ap (λ k. begun_by (side_in k world.side.grace.plain).number) own ∙ (known-begun p world.side.grace.plain.driver world.side.grace.plain.number h.0 ∙ sym h.1)
    known Tracing h = ap (λ k. begun_by (side_in k world.side.grace.tracing).number) own ∙ (known-begun p world.side.grace.tracing.driver world.side.grace.tracing.number h.0 ∙ sym h.1)
