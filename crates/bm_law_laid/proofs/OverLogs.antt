-- The laws of a journal's logs that follow where an order of them is laid.
use Rattle.std.proofs.Common.{◌≡◌, ℕ, suc, ◌+◌, ◌*◌, ◌%◌, ◌<◌, ◌≤◌, List, [], ◌∷◌, ◌++◌, length, None, get_or, refl, sym, ◌∙◌, ap, subst, arith, inl, inr}
use Rattle.std.proofs.lemmas.Bool.Decides.{eqb_tells}
use Rattle.bm_journal.specs.declared.ids.Domain.{Domain}
use Rattle.bm_journal.specs.declared.ids.Domain.TheVariants.{Plain, Tracing}
use Rattle.bm_journal.specs.declared.entry.Entry.{Entry}
use Rattle.bm_journal.specs.declared.entry.Entry.TheVariants as entry
use Rattle.bm_law.specs.Lists.{Log}
use Rattle.bm_law_lives.specs.Together.{AreOnce, Each, beside, named, named_in, times}
use Rattle.bm_law_lives.specs.GraceLaw.{AllEnded, NumbersFit, begun_number, ended_number}
use Rattle.bm_law_lives.specs.Lives.{given_object, lives_given}
use Rattle.bm_law_lives.specs.Returns.{receiver, returned_units, taken_units}
use Rattle.bm_law_order.specs.ByDomain.{of}
use Rattle.bm_law_order.specs.Numbers.{Numbers, first_numbers, numbers_after}
use Rattle.bm_law_order.specs.Lives.{LivesFit, first_lives, lives_after}
use Rattle.bm_law_order.specs.Parcels.{Boxes, BoxesFit, boxes_after}
use Rattle.bm_law_order.specs.Shared.{fresh}
use Rattle.bm_law_order.specs.Orders.{AllFit, IsLaid, Order, over, part_of, shared_over}
use Rattle.bm_law_laid.specs.Once.{Any, Even, Odd, Once, named_by}
use Rattle.bm_law_laid.specs.LivesGiven.{life_given}
use Rattle.bm_law_laid.specs.UnitsOut.{times_out}
use Rattle.bm_law_laid.specs.OrderOf.{IsOrderOf}
use Rattle.bm_law_laid.proofs.Each.{each-below, each-both, each-front, each-rest}
use Rattle.bm_law_laid.proofs.Onces.{beside-append}
use Rattle.bm_law_laid.proofs.Parts.{boxes-fit, lives-fit, numbers-fit, numbers-over}
use Rattle.bm_law_laid.proofs.NumbersOnce.{Rests, numbers-counted, numbers-once, rests-over}
use Rattle.bm_law_laid.proofs.LivesOnce.{lives-counted, lives-once}
use Rattle.bm_law_laid.proofs.ReturnsBalance.{shared-returns}
use Rattle.bm_law_laid.proofs.Settled.{none-out, settled-fresh}
use Rattle.bm_law_laid.proofs.NamedParts.{named-count, named-parts}

-- what an order names once, its logs do
once-named : (names : Entry → List ℕ) (f : ℕ → ℕ) (P : ℕ → Type 0) (to : ℕ) (logs : List Log) (o : Order) → IsOrderOf logs o → Once P 0 to (named_by names o) → ((k : ℕ) → k < length (named_by names o) → P (f k) × (0 < f k) × (f k ≤ to)) → AreOnce f (named names logs)
once-named names f P to logs o is once within =
    let many = named-count names logs o is in
    each-below (λ k. times (f k) (named names logs) ≡ 1) (length (named names logs)) (λ k lt.
    let w = within k (omega (arith, lt, many)) in
    named-parts names logs o is (f k) ∙ once.once (f k) w.0 w.1 w.2)

pub start-number : (d : Domain) → (of d first_numbers).number ≡ 0
start-number Plain = refl
start-number Tracing = refl

pub logs-numbers : (d : Domain) (processors pages : ℕ) (logs : List Log) (o : Order) → IsOrderOf logs o → IsLaid processors pages o → NumbersFit d logs
logs-numbers d processors pages logs o is laid =
    let fit = numbers-fit o (fresh processors pages) laid in
    let to : ℕ = (of d (over numbers_after o first_numbers)).number in
    let start = start-number d in
    let all = numbers-once d o first_numbers fit in
    let counts = numbers-counted d o first_numbers fit in
    let begun : 2 * length (named_by (begun_number d) o) ≡ to + to % 2 = (let x = counts.begun in omega (arith, x, start)) in
    let ended : 2 * length (named_by (ended_number d) o) + to % 2 ≡ to = (let x = counts.ended in omega (arith, x, start)) in
    let b = named-count (begun_number d) logs o is in
    let e = named-count (ended_number d) logs o is in
    record {
      begun = once-named (begun_number d) (λ k. 2 * k + 1) Odd to logs o is (subst (λ n. Once Odd n to (named_by (begun_number d) o)) start all.begun) (λ k lt. (omega arith, omega arith, omega (arith, begun, lt)));
      ended = once-named (ended_number d) (λ k. 2 * k + 2) Even to logs o is (subst (λ n. Once Even n to (named_by (ended_number d) o)) start all.ended) (λ k lt. (omega arith, omega arith, omega (arith, ended, lt)));
      in_turn = omega (arith, b, e, begun, ended);
    }

-- where no period is in progress at last, each has ended
first-rests : (d : Domain) → Rests (of d first_numbers)
first-rests Plain = record { even = λ q. refl }
first-rests Tracing = record { even = λ q. refl }

pub logs-ended : (d : Domain) (processors pages : ℕ) (logs : List Log) (o : Order) → IsOrderOf logs o → IsLaid processors pages o → (of d (shared_over o (fresh processors pages)).numbers).driver ≡ None → AllEnded d logs
logs-ended d processors pages logs o is laid none =
    let fit = numbers-fit o (fresh processors pages) laid in
    let start = start-number d in
    let counts = numbers-counted d o first_numbers fit in
    let begun = counts.begun in
    let ended = counts.ended in
    let b = named-count (begun_number d) logs o is in
    let e = named-count (ended_number d) logs o is in
    let rest : (of d (over numbers_after o first_numbers)).driver ≡ None = subst (λ (ns : Numbers). (of d ns).driver ≡ None) (numbers-over o (fresh processors pages)) none in
    let even = (rests-over d o first_numbers fit (first-rests d)).even rest in
    omega (arith, begun, ended, b, e, even, start)

-- ---- lives

given-in : (u : ℕ) (log : Log) → beside u (named_in given_object log) ≡ named_in (life_given u) log
given-in u [] = refl
given-in u (e ∷ log) = beside-append u (given_object e.1) (named_in given_object log) ∙ ap (λ z. life_given u e.1 ++ z) (given-in u log)

-- the lives that logs give are what their entries name
pub given-of : (u : ℕ) (logs : List Log) → lives_given u logs ≡ named (life_given u) logs
given-of u [] = refl
given-of u (log ∷ logs) = beside-append u (named_in given_object log) (named given_object logs) ∙ (ap (λ z. z ++ lives_given u logs) (given-in u log) ∙ ap (λ z. named_in (life_given u) log ++ z) (given-of u logs))

pub fitting-lives : (u : ℕ) (logs : List Log) (o : Order) → IsOrderOf logs o → AllFit lives_after LivesFit o first_lives → AreOnce (λ k. k + 1) (lives_given u logs)
fitting-lives u logs o is fit =
    let to : ℕ = (over lives_after o first_lives).begun u in
    let all = lives-once u o first_lives fit in
    let counts = lives-counted u o first_lives fit in
    subst (AreOnce (λ k. k + 1)) (sym (given-of u logs)) (once-named (life_given u) (λ k. k + 1) Any to logs o is all.given (λ k lt. (tt, omega arith, omega (arith, counts, lt))))

pub logs-lives : (u processors pages : ℕ) (logs : List Log) (o : Order) → IsOrderOf logs o → IsLaid processors pages o → AreOnce (λ k. k + 1) (lives_given u logs)
logs-lives u processors pages logs o is laid = fitting-lives u logs o is (lives-fit o (fresh processors pages) laid)

-- ---- pages

pub logs-returns : (u processors pages : ℕ) (logs : List Log) (o : Order) → IsOrderOf logs o → IsLaid processors pages o → times u (named taken_units logs) ≡ times u (named returned_units logs) + times_out u (shared_over o (fresh processors pages)).pool
logs-returns u processors pages logs o is laid =
    let all = shared-returns u o (fresh processors pages) (settled-fresh pages) laid in
    let none = none-out pages u in
    let t = named-parts taken_units logs o is u in
    let r = named-parts returned_units logs o is u in
    omega (arith, all, none, t, r)

-- ---- receivers

module _ (P : ℕ → Type 0) (names : Entry → List ℕ) where
  each-part : (p : ℕ) (o : Order) → Each P (named_by names o) → Each P (named_in names (part_of p o))
  each-part p [] h = tt
  each-part p (e ∷ o) h =
      let rest = each-part p o (each-rest P (names e.entry) (named_by names o) h) in
      elim (eqb_tells e.processor p) [
        | inl y ↦ rw y.0 (each-both P (names e.entry) (named_in names (part_of p o)) (each-front P (names e.entry) (named_by names o) h) rest)
        | inr y ↦ rw y.0 rest
      ]

  each-of-logs : (logs : List Log) → ((p : ℕ) → p < length logs → Each P (named_in names (get_or logs p []))) → Each P (named names logs)
  each-of-logs [] h = tt
  each-of-logs (log ∷ logs) h = each-both P (named_in names log) (named names logs) (h 0 (omega arith)) (each-of-logs logs (λ p lt. h (suc p) (omega (arith, lt))))

  pub each-named : (logs : List Log) (o : Order) → IsOrderOf logs o → Each P (named_by names o) → Each P (named names logs)
  each-named logs o is h = each-of-logs logs (λ p lt. subst (λ log. Each P (named_in names log)) (is.parts p lt) (each-part p o h))

receives : (n p l : ℕ) (e : Entry) (boxes : Boxes) → BoxesFit n p l e boxes → Each (λ q. q < n) (receiver e)
receives n p l (entry.Send c to us) boxes f = (f.there, tt)
receives n p l _ boxes f = tt

order-receivers : (n : ℕ) (o : Order) (boxes : Boxes) → AllFit boxes_after (BoxesFit n) o boxes → Each (λ q. q < n) (named_by receiver o)
order-receivers n [] boxes h = tt
order-receivers n (e ∷ o) boxes h = each-both (λ q. q < n) (receiver e.entry) (named_by receiver o) (receives n e.processor e.level e.entry boxes h.0) (order-receivers n o (boxes_after e.processor e.level e.entry boxes) h.1)

pub logs-receivers : (processors pages : ℕ) (logs : List Log) (o : Order) → IsOrderOf logs o → IsLaid processors pages o → Each (λ p. p < processors) (named receiver logs)
logs-receivers processors pages logs o is laid = each-named (λ q. q < processors) receiver logs o is (order-receivers processors o (λ p c. []) (boxes-fit o (fresh processors pages) laid))
