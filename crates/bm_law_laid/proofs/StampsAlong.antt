-- Stamps and the numbers that are seen, along an order.
use Rattle.std.proofs.Common.{◌≡◌, ℕ, ◌+◌, ◌*◌, ◌%◌, ◌≤◌, List, [], ◌∷◌, ◌++◌, length, subst, arith, inl, inr}
use Rattle.std.proofs.lemmas.Bool.Decides.{eqb_tells}
use Rattle.bm_journal.specs.declared.ids.Domain.{Domain}
use Rattle.bm_journal.specs.declared.ids.Domain.TheVariants.{Plain, Tracing}
use Rattle.bm_journal.specs.declared.entry.Entry.{Entry}
use Rattle.bm_journal.specs.declared.entry.Entry.TheVariants as entry
use Rattle.bm_law.specs.Begun.{for_domain}
use Rattle.bm_law.specs.Lists.{Log}
use Rattle.bm_law_lives.specs.Together.{Each, EachLog, named}
use Rattle.bm_law_lives.specs.GraceLaw.{begun_number}
use Rattle.bm_law_lives.specs.StampLaw.{SeenFit, StampFits, StampsFit, named_number, seen_number, waits_for}
use Rattle.bm_law_order.specs.ByDomain.{of, with_of}
use Rattle.bm_law_order.specs.Numbers.{Numbers, NumbersFit, ended, first_numbers, next, numbers_after}
use Rattle.bm_law_order.specs.Shared.{fresh}
use Rattle.bm_law_order.specs.Orders.{AllFit, IsLaid, Order, over, part_of}
use Rattle.bm_law_laid.specs.Once.{named_by}
use Rattle.bm_law_laid.specs.OrderOf.{IsOrderOf}
use Rattle.bm_law_laid.proofs.Each.{each-both, each-log, each-weaker}
use Rattle.bm_law_laid.proofs.Parts.{numbers-fit}
use Rattle.bm_law_laid.proofs.NumbersOnce.{number-grows, numbers-counted, numbers-once}
use Rattle.bm_law_laid.proofs.OverLogs.{each-named, start-number}
use Rattle.bm_law_laid.proofs.NamedParts.{named-count}

-- ---- stamps

-- a stamp waits for each number that isn't above the one that it is taken at
waits-so : (q n x : ℕ) → x ≡ next n → q ≤ n → waits_for q ≤ x
waits-so q n x e le = elim (eqb_tells (q % 2) 0) [
  | inl y ↦ rw y.0 (omega (arith, e, le))
  | inr y ↦ let odd = y.1 in rw y.0 (omega (arith, e, le, odd))
]

stamp-so : (n x : ℕ) (before : List ℕ) → x ≡ next n → Each (λ q. q ≤ n) before → (x % 2 ≡ 0) × Each (λ q. waits_for q ≤ x) before
stamp-so n x before e h = (omega (arith, e), each-weaker (λ q. q ≤ n) (λ q. waits_for q ≤ x) (λ q le. waits-so q n x e le) before h)

stamp-own : (d : Domain) (p l : ℕ) (e : Entry) (ns : Numbers) (before : List ℕ) → NumbersFit p l e ns → Each (λ q. q ≤ (of d ns).number) before → StampFits d before e
stamp-own Plain p l (entry.Stamp c Plain x) ns before f h = stamp-so ns.plain.number x before f h
stamp-own Plain p l (entry.Stamp c Tracing x) ns before f h = tt
stamp-own Tracing p l (entry.Stamp c Plain x) ns before f h = tt
stamp-own Tracing p l (entry.Stamp c Tracing x) ns before f h = stamp-so ns.tracing.number x before f h
stamp-own d p l _ ns before f h = tt

-- no number that an entry names is above the one after it
end-below : (d e : Domain) (k : ℕ) (ns : Numbers) → k ≡ (of e ns).number + 1 → Each (λ q. q ≤ (of d (with_of e (ended (of e ns)) ns)).number) (for_domain d e (k ∷ []) [])
end-below Plain Plain k ns q = (omega (arith, q), tt)
end-below Plain Tracing k ns q = tt
end-below Tracing Plain k ns q = tt
end-below Tracing Tracing k ns q = (omega (arith, q), tt)

named-below : (d : Domain) (p l : ℕ) (e : Entry) (ns : Numbers) → NumbersFit p l e ns → Each (λ q. q ≤ (of d (numbers_after p l e ns)).number) (named_number d e)
named-below Plain p l (entry.Begin Plain n) ns f = (let q = f.number in omega (arith, q), tt)
named-below Plain p l (entry.Begin Tracing n) ns f = tt
named-below Tracing p l (entry.Begin Plain n) ns f = tt
named-below Tracing p l (entry.Begin Tracing n) ns f = (let q = f.number in omega (arith, q), tt)
named-below d p l (entry.Finish period) ns f = end-below d period.domain period.number ns f.number
named-below Plain p l (entry.Pass c Plain n) ns f = (omega (arith, f), tt)
named-below Plain p l (entry.Pass c Tracing n) ns f = tt
named-below Tracing p l (entry.Pass c Plain n) ns f = tt
named-below Tracing p l (entry.Pass c Tracing n) ns f = (omega (arith, f), tt)
named-below d p l _ ns f = tt

stamps-along : (d : Domain) (p : ℕ) (o : Order) (ns : Numbers) (before : List ℕ) → AllFit numbers_after NumbersFit o ns → Each (λ q. q ≤ (of d ns).number) before → StampsFit d before (part_of p o)
stamps-along d p [] ns before f h = tt
stamps-along d p (e ∷ o) ns before f h =
    let now : Numbers = numbers_after e.processor e.level e.entry ns in
    let grows = number-grows d e.processor e.level e.entry ns f.0 in
    let still : Each (λ q. q ≤ (of d now).number) before = each-weaker (λ q. q ≤ (of d ns).number) (λ q. q ≤ (of d now).number) (λ q le. omega (arith, le, grows)) before h in
    elim (eqb_tells e.processor p) [
      | inl y ↦
          rw y.0 (
            stamp-own d e.processor e.level e.entry ns before f.0 h,
            stamps-along d p o now (named_number d e.entry ++ before) f.1 (each-both (λ q. q ≤ (of d now).number) (named_number d e.entry) before (named-below d e.processor e.level e.entry ns f.0) still),
          )
      | inr y ↦ rw y.0 (stamps-along d p o now before f.1 still)
    ]

pub logs-stamps : (d : Domain) (processors pages : ℕ) (logs : List Log) (o : Order) → IsOrderOf logs o → IsLaid processors pages o → EachLog (λ p log. StampsFit d [] log) logs
logs-stamps d processors pages logs o is laid = each-log (λ p log. StampsFit d [] log) logs (λ p lt.
    subst (StampsFit d []) (is.parts p lt) (stamps-along d p o first_numbers [] (numbers-fit o (fresh processors pages) laid) tt))

-- ---- numbers that are seen

seen-so : (d : Domain) (p l to : ℕ) (e : Entry) (ns : Numbers) → NumbersFit p l e ns → (of d ns).number ≤ to → Each (λ n. n ≤ to) (seen_number d e)
seen-so Plain p l to (entry.Pass c Plain n) ns f le = (omega (arith, f, le), tt)
seen-so Plain p l to (entry.Pass c Tracing n) ns f le = tt
seen-so Tracing p l to (entry.Pass c Plain n) ns f le = tt
seen-so Tracing p l to (entry.Pass c Tracing n) ns f le = (omega (arith, f, le), tt)
seen-so d p l to _ ns f le = tt

seen-along : (d : Domain) (o : Order) (ns : Numbers) → AllFit numbers_after NumbersFit o ns → Each (λ n. n ≤ (of d (over numbers_after o ns)).number) (named_by (seen_number d) o)
seen-along d [] ns f = tt
seen-along d (e ∷ o) ns f =
    let now : Numbers = numbers_after e.processor e.level e.entry ns in
    let to : ℕ = (of d (over numbers_after o now)).number in
    each-both (λ n. n ≤ to) (seen_number d e.entry) (named_by (seen_number d) o) (seen-so d e.processor e.level to e.entry ns f.0 (numbers-once d (e ∷ o) ns f).grows) (seen-along d o now f.1)

pub logs-seen : (d : Domain) (processors pages : ℕ) (logs : List Log) (o : Order) → IsOrderOf logs o → IsLaid processors pages o → SeenFit d logs
logs-seen d processors pages logs o is laid =
    let fit = numbers-fit o (fresh processors pages) laid in
    let to : ℕ = (of d (over numbers_after o first_numbers)).number in
    let counts = (numbers-counted d o first_numbers fit).begun in
    let many = named-count (begun_number d) logs o is in
    let bound : ℕ = 2 * length (named (begun_number d) logs) in
    let start = start-number d in
    let above : to ≤ bound = omega (arith, counts, many, start) in
    each-named (λ n. n ≤ bound) (seen_number d) logs o is (each-weaker (λ n. n ≤ to) (λ n. n ≤ bound) (λ n le. omega (arith, le, above)) (named_by (seen_number d) o) (seen-along d o first_numbers fit))
