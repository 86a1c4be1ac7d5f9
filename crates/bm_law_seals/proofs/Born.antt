-- A unit that lives has begun a life, so no drop names life 0; and the lives that logs give are those that an order begins.
use Rattle.std.specs.Prelude.{◌≡◌, ◌<◌, ◌+◌, ◌-◌, eqb, ℕ, suc, if◌then◌else◌, List, [], ◌∷◌, ◌++◌, Option, Some, None, get_or, length}
use Rattle.std.proofs.Common.{◌∙◌, ap, arith, inl, inr, refl, subst, sym}
use Rattle.std.proofs.lemmas.Bool.Decides.{eqb_tells}
use Rattle.bm_journal.specs.declared.entry.Entry.{Entry}
use Rattle.bm_journal.specs.declared.entry.Entry.TheVariants as entry
use Rattle.bm_law.specs.Lists.{Log}
use Rattle.bm_law.specs.Spans.{own_entries}
use Rattle.bm_law_laid.specs.LivesEnded.{HasBegun, OneBegun}
use Rattle.bm_law_laid.specs.LivesGiven.{life_given}
use Rattle.bm_law_laid.specs.OrderOf.{IsOrderOf}
use Rattle.bm_law_laid.proofs.LivesOnce.{lives-counted}
use Rattle.bm_law_laid.proofs.NamedParts.{named-count}
use Rattle.bm_law_laid.proofs.OverLogs.{given-of}
use Rattle.bm_law_lives.specs.Lives.{lives_given}
use Rattle.bm_law_lives.specs.Together.{named}
use Rattle.bm_law_lives.specs.StampLaw.{delayed_parts, part_behind, parts_behind}
use Rattle.bm_law_order.specs.Lives.{Dropping, Life, Lives, LivesFit, answered_last, answered_still, counted, first_lives, given_life, lives_after}
use Rattle.bm_law_order.specs.Orders.{AllFit, Order, over, part_of}

-- ---- one entry

gives : (p u v : ℕ) (lives : Lives) → HasBegun u lives → HasBegun u (given_life p v lives)
gives p u v lives h = elim (eqb_tells u v) [ inl y ↦ rw y.0 (omega arith) | inr y ↦ rw y.0 h ]

recounted : (f : ℕ → ℕ) (b : ℕ) (o : Option Life) → OneBegun b o → OneBegun b (counted f o)
recounted f b None h = tt
recounted f b (Some x) h = h

recounts : (u v : ℕ) (f : ℕ → ℕ) (lives : Lives) → HasBegun u lives → OneBegun (lives.begun u) (if eqb u v then counted f (lives.holds v) else lives.holds u)
recounts u v f lives h = elim (eqb_tells u v) [
  | inl y ↦ rw y.0 (subst (λ k. OneBegun (lives.begun u) (counted f (lives.holds k))) y.1 (recounted f (lives.begun u) (lives.holds u) h))
  | inr y ↦ rw y.0 h
]

stills : (u p l : ℕ) (o : Option Dropping) (lives : Lives) → HasBegun u lives → HasBegun u (answered_still p l o lives)
stills u p l None lives h = h
stills u p l (Some d) lives h = recounts u d.unit (λ k. k - 1) lives h

lasts : (u p l : ℕ) (o : Option Dropping) (lives : Lives) → HasBegun u lives → HasBegun u (answered_last p l o lives)
lasts u p l None lives h = h
lasts u p l (Some d) lives h = elim (eqb_tells u d.unit) [ inl y ↦ rw y.0 tt | inr y ↦ rw y.0 h ]

pub born-on : (u p l : ℕ) (e : Entry) (lives : Lives) → HasBegun u lives → HasBegun u (lives_after p l e lives)
born-on u p l (entry.Given v life) lives h = gives p u v lives h
born-on u p l (entry.GivenAfter v life x n) lives h = gives p u v lives h
born-on u p l (entry.Acquire v life k) lives h = recounts u v (λ n. n + 1) lives h
born-on u p l (entry.Still k) lives h = stills u p l (lives.dropping p l) lives h
born-on u p l entry.Last lives h = lasts u p l (lives.dropping p l) lives h
born-on u p l _ lives h = h

-- ---- an order

-- a drop of the unit names a life above 0
abbrev DropsBorn : ℕ → Entry → Type 0
DropsBorn u (entry.Drop v life) = u ≡ v → 0 < life
DropsBorn u _ = Unit {0}

abbrev AllBorn : ℕ → Log → Type 0
AllBorn u [] = Unit {0}
AllBorn u (e ∷ es) = DropsBorn u e.1 × AllBorn u es

drop-born : (u p l : ℕ) (e : Entry) (lives : Lives) → HasBegun u lives → LivesFit p l e lives → DropsBorn u e
drop-born u p l (entry.Drop v life) lives h f = λ same.
    let held : lives.holds u ≡ Some f.has.held = ap lives.holds same ∙ f.has.holds in
    let lt : 0 < lives.begun u = subst (OneBegun (lives.begun u)) held h in
    let now : life ≡ lives.begun u = f.has.now_is ∙ ap lives.begun (sym same) in
    omega (arith, lt, now)
drop-born u p l _ lives h f = tt

part-born : (u p : ℕ) (o : Order) (lives : Lives) → HasBegun u lives → AllFit lives_after LivesFit o lives → AllBorn u (part_of p o)
part-born u p [] lives h f = tt
part-born u p (e ∷ o) lives h f =
    let rest = part-born u p o (lives_after e.processor e.level e.entry lives) (born-on u e.processor e.level e.entry lives h) f.1 in
    elim (eqb_tells e.processor p) [
      | inl y ↦ rw y.0 (drop-born u e.processor e.level e.entry lives h f.0, rest)
      | inr y ↦ rw y.0 rest
    ]

-- ---- logs

none-here : (u : ℕ) (e : Entry) (own : List Entry) (part : Log) → DropsBorn u e → part_behind u 0 e own part ≡ []
none-here u (entry.Drop v j) own part h = elim (eqb_tells u v) [
  | inr y ↦ rw y.0 refl
  | inl y ↦ elim (eqb_tells 0 j) [
    | inl z ↦ (let lt = h y.1 in let e = z.1 in absurd (omega (arith, lt, e)))
    | inr z ↦ rw y.0 (rw z.0 refl)
  ]
]
none-here u _ own part h = refl

none-in : (u : ℕ) (log : Log) → AllBorn u log → parts_behind u 0 log ≡ []
none-in u [] h = refl
none-in u (e ∷ es) h = ap (λ z. z ++ parts_behind u 0 es) (none-here u e.1 (own_entries e.0 es) es h.0) ∙ none-in u es h.1

none-of : (u : ℕ) (logs : List Log) → ((p : ℕ) → p < length logs → parts_behind u 0 (get_or logs p []) ≡ []) → delayed_parts u 0 logs ≡ []
none-of u [] h = refl
none-of u (log ∷ logs) h = ap (λ z. z ++ delayed_parts u 0 logs) (h 0 (omega arith)) ∙ none-of u logs (λ p lt. h (suc p) (omega (arith, lt)))

-- no part stands behind a drop of life 0
pub first-none : (u : ℕ) (logs : List Log) (o : Order) (lives : Lives) → HasBegun u lives → AllFit lives_after LivesFit o lives → ((p : ℕ) → p < length logs → part_of p o ≡ get_or logs p []) → delayed_parts u 0 logs ≡ []
first-none u logs o lives h f is = none-of u logs (λ p lt. none-in u (get_or logs p []) (subst (AllBorn u) (is p lt) (part-born u p o lives h f)))

-- ---- lives that are given

-- as many lives are given as the order begins
pub all-given : (u : ℕ) (logs : List Log) (o : Order) → IsOrderOf logs o → AllFit lives_after LivesFit o first_lives → (over lives_after o first_lives).begun u ≡ length (lives_given u logs)
all-given u logs o is f =
    let many = named-count (life_given u) logs o is in
    let counts = lives-counted u o first_lives f in
    let same : length (lives_given u logs) ≡ length (named (life_given u) logs) = ap length (given-of u logs) in
    omega (arith, many, counts, same)
