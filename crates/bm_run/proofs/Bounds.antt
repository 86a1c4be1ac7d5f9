-- What the limits of a scenario say, and what the handlers that it plans are.
use Rattle.std.proofs.Common.{◌≡◌, ◌≤◌, ◌<◌, ℕ, suc, zero, ◌+◌, ◌*◌, Bool, true, false, ◌||◌, ◌==◌, if◌then◌else◌, List, [], ◌∷◌, length, filter, map, refl, sym, Option, Some, None, slice_get, sum_by, arith, nat_lt, All, ap, ◌∙◌, eq-eqb, inl, inr}
use Rattle.std.specs.List.{list_any}
use Rattle.std.specs.Option.{IsSomeAnd}
use Rattle.std.proofs.lemmas.Bool.{cases_eq}
use Rattle.std.proofs.lemmas.Bool.Decides.{nat_tests}
use Rattle.std.proofs.lemmas.List.Sums.{sum_by-cons}
use Rattle.std.proofs.lemmas.List.Elements.{All-filter}
use Rattle.bm_lang.specs.declared.bounds.Limit.{Limit}
use Rattle.bm_lang.specs.declared.bounds.Limit.TheVariants as limit
use Rattle.bm_lang.specs.declared.scenario.AtLine.{AtLine}
use Rattle.bm_lang.specs.declared.scenario.Parts.{Parts}
use Rattle.bm_lang.specs.declared.scenario.Script.{Script}
use Rattle.bm_lang.specs.declared.scenario.ScriptKind.{ScriptKind}
use Rattle.bm_lang.specs.declared.scenario.ScriptKind.TheVariants as kind
use Rattle.bm_lang.specs.Limits.{cost_on, first_limit, script_cost, some_below, statements_of, turns_length}
use Rattle.bm_lang.specs.Fine.{HasConditions}
use Rattle.bm_lang.specs.Names.{runs_as}
use Rattle.bm_lang.specs.Spelling.{script_form}
use Rattle.bm_due.specs.Due.{planned_for}
use Rattle.bm_exec_levels.specs.Ready.{IsHandlerLine, left_cost}

-- ---- the limits

passed : (b : Bool) (l : Limit) (o : Option Limit) → (if b then Some l else o) ≡ None → (b ≡ false) × (o ≡ None)
passed true l o h = absurd cc
passed false l o h = (refl, h)

neither : (a b : Bool) → (a || b) ≡ false → (a ≡ false) × (b ≡ false)
neither true b h = absurd cc
neither false b h = (refl, h)

at-most : (n k : ℕ) → nat_lt n k ≡ false → k ≤ n
at-most n k h = grind (arith, nat_tests, h)

-- what passes for no number below n doesn't pass for one of them
each-below : (n p : ℕ) (f : ℕ → Bool) → p < n → some_below n f ≡ false → f p ≡ false
each-below zero p f lt h = absurd (omega (arith, lt))
each-below (suc n) p f lt h =
    let parts = neither (f n) (some_below n f) h in
    elim (cases_eq p n) [
      | inl same ↦ ap f same ∙ parts.0
      | inr other ↦ each-below n p f (omega (arith, lt, other)) parts.1
    ]

-- What the limits allow processor p.
pub record Within (s : Parts) (p : ℕ) : Type 0 where
  pub processors : s.processors ≤ 8
  pub pages : s.pages ≤ 256
  pub ats : length s.ats ≤ 1000
  pub statements : statements_of s p ≤ 20000

pub within : (s : Parts) (p : ℕ) → p < s.processors → first_limit s ≡ None → Within s p
within s p lt h =
    let a = passed (nat_lt 8 s.processors) limit.Processors _ h in
    let b = passed (nat_lt 256 s.pages) limit.Pages _ a.1 in
    let c = passed (nat_lt 32 (length s.types)) limit.Types _ b.1 in
    let d = passed (list_any (λ t. nat_lt 8 (length t.fields)) s.types) limit.Fields _ c.1 in
    let e = passed (nat_lt 64 (length s.maps)) limit.Maps _ d.1 in
    let f = passed (nat_lt 256 (length s.scripts)) limit.Scripts _ e.1 in
    let g = passed (nat_lt 1000 (length s.ats)) limit.Handlers _ f.1 in
    let i = passed (nat_lt 100000 (turns_length s.turns)) limit.Turns _ g.1 in
    let j = passed (some_below s.processors (λ p. nat_lt 20000 (statements_of s p))) limit.Statements None i.1 in
    record {
      processors = at-most 8 s.processors a.0;
      pages = at-most 256 s.pages b.0;
      ats = at-most 1000 (length s.ats) g.0;
      statements = at-most 20000 (statements_of s p) (each-below s.processors p (λ q. nat_lt 20000 (statements_of s q)) lt j.0);
    }

-- ---- planned handlers

length-kept : (p : AtLine → Bool) (xs : List AtLine) → length (filter p xs) ≤ length xs
length-kept p [] = omega arith
length-kept p (x ∷ xs) = one (p x) (length-kept p xs)
  where
    one : (b : Bool) → length (filter p xs) ≤ length xs → length (if b then x ∷ filter p xs else filter p xs) ≤ suc (length xs)
    one true h = omega (arith, h)
    one false h = omega (arith, h)

-- at most a thousand handlers are planned for a processor
pub few-planned : (s : Parts) (p : ℕ) → Within s p → length (planned_for p s) ≤ 1000
few-planned s p w = let k = length-kept (λ (line : AtLine). line.processor == p) s.ats in let a = w.ats in omega (arith, k, a)

same-line : (p q c : ℕ) → (q == p) ≡ true → cost_on p q c ≡ c
same-line p q c e = let same : q ≡ p = grind (arith, nat_tests, e) in rw (eq-eqb p q (sym same)) refl

cost-more : (s : Parts) (x : AtLine) (kept : List AtLine) (b : Bool) (cost rest : ℕ) → (b ≡ true → cost ≡ script_cost (slice_get s.scripts x.script.0)) → left_cost s kept ≤ 3 * rest → left_cost s (if b then x ∷ kept else kept) ≤ 3 * (cost + rest)
cost-more s x kept true cost rest e h =
    let c = sum_by-cons (λ (line : AtLine). 3 * script_cost (slice_get s.scripts line.script.0)) x kept in
    let k = e refl in
    omega (arith, c, k, h)
cost-more s x kept false cost rest e h = omega (arith, h)

-- what the handlers of processor p may ask for is at most three times what their lines cost
pub cost-kept : (s : Parts) (p : ℕ) (xs : List AtLine) → left_cost s (filter (λ (line : AtLine). line.processor == p) xs) ≤ 3 * sum_by (λ (a : AtLine). cost_on p a.processor (script_cost (slice_get s.scripts a.script.0))) xs
cost-kept s p [] = omega arith
cost-kept s p (x ∷ xs) =
    let on : AtLine → ℕ = λ a. cost_on p a.processor (script_cost (slice_get s.scripts a.script.0)) in
    let kept = filter (λ (line : AtLine). line.processor == p) xs in
    let c = sum_by-cons on x xs in
    let h = cost-more s x kept (x.processor == p) (on x) (sum_by on xs) (same-line p x.processor (script_cost (slice_get s.scripts x.script.0))) (cost-kept s p xs) in
    rw c h

pub asks-few : (s : Parts) (p : ℕ) → Within s p → left_cost s (planned_for p s) ≤ 60000
asks-few s p w =
    let k = cost-kept s p s.ats in
    let a = w.statements in
    omega (arith, k, a)

-- the script that a handler's line names
found : (xs : List Script) (i : ℕ) → IsSomeAnd (slice_get (map script_form xs) i) (λ x. runs_as true x.kind ≡ true) → (x : Script) × (slice_get xs i ≡ Some x) × (x.kind ≡ kind.Handler)
found [] i h = absurd h
found (x ∷ xs) zero h = (x, refl, handles x.kind h)
  where
    handles : (k : ScriptKind) → runs_as true k ≡ true → k ≡ kind.Handler
    handles kind.Handler e = refl
    handles kind.Plain e = absurd cc
    handles kind.Sleepable e = absurd cc
found (x ∷ xs) (suc i) h = found xs i h

pub handler-lines : (s : Parts) (p : ℕ) → HasConditions s → All (IsHandlerLine s) (planned_for p s)
handler-lines s p f = All-filter _ (IsHandlerLine s) s.ats (λ k d lt.
    let it = found s.scripts _ (f.ats k d lt).script in
    record { script = it.0; found = it.1; handles = it.2 })
