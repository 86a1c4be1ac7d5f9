-- Once a processor has ended no handler is due on it: each further entry is of ordinary code, and it stays so.
use Rattle.std.proofs.Common.{◌≡◌, ◌∙◌, ℕ, ◌+◌, true, List, [], ◌∷◌, ◌++◌, Some, None, map, refl, sym, ap, subst}
use Rattle.bm_lang.specs.declared.scenario.AtLine.{AtLine}
use Rattle.bm_law.specs.Alone.{AllAt}
use Rattle.bm_law.specs.Lists.{Log}
use Rattle.bm_due.specs.Due.{due_handler}
use Rattle.bm_due.specs.Standing.{Begins, Ends, Kind, Returns, Standing, Stays, Steps, after_kind, at_first, due_in, kind_of, level_of, standing_after}
use Rattle.bm_due.specs.Told.{told_of}
use Rattle.bm_due.proofs.Standings.{after-append, begun-tells, returned-tells, split-first, stayed-tells, stepped-tells, stopped-tells}
use Rattle.bm_plan.specs.Position.{Position, StandsAt}

same-state : {s t : Standing} → Some s ≡ Some t → t ≡ s
same-state e = cc

none-some : {A : Type 0} (a : A) → None ≡ Some a → ⊥
none-some a e = absurd (cc)

empty-not : (line : AtLine) (lines : List AtLine) → [] ≡ line ∷ lines → ⊥
empty-not line lines e = absurd (cc)

-- no handler is due
none-due : (s : Standing) → s.ended ≡ true → due_in s ≡ None
none-due s e = ap (λ b. due_handler b (s.steps + 1) (level_of s.running) s.left) e

-- a processor that has ended, and on which no handler runs, is here, and has these handlers left
record Rests (left : List AtLine) (t : Standing) : Type 0 where
  running : t.running ≡ []
  ended : t.ended ≡ true
  left_is : t.left ≡ left

-- one more entry
one : (names : List (List ℕ)) (l : ℕ) (k : Kind) (s t : Standing) → s.running ≡ [] → s.ended ≡ true → after_kind names l k s ≡ Some t → (l ≡ 0) × Rests s.left t
one names l (Begins name) s t r e h = (let x = begun-tells names l name (due_in s) s t h in absurd (none-some x.0 (sym (none-due s e) ∙ x.1)))
one names l (Returns name) s t r e h = (let x = returned-tells names l name s.running s t h in absurd (empty-not x.0 x.1 (sym r ∙ x.2)))
one names l Ends s t r e h =
    let x = stopped-tells l s.running s t h in
    (x.0, record { running = ap (λ (z : Standing). z.running) x.3 ∙ r; ended = ap (λ (z : Standing). z.ended) x.3; left_is = ap (λ (z : Standing). z.left) x.3 })
one names l Steps s t r e h =
    let x = stepped-tells l s t h in
    (x.0 ∙ ap level_of r, record { running = ap (λ (z : Standing). z.running) x.2 ∙ r; ended = ap (λ (z : Standing). z.ended) x.2 ∙ e; left_is = ap (λ (z : Standing). z.left) x.2 })
one names l Stays s t r e h =
    let x = stayed-tells l s t h in
    (x.0 ∙ ap level_of r, record { running = ap (λ (z : Standing). z.running) x.2 ∙ r; ended = ap (λ (z : Standing). z.ended) x.2 ∙ e; left_is = ap (λ (z : Standing). z.left) x.2 })

on : (names : List (List ℕ)) (added : Log) (s t : Standing) → s.running ≡ [] → s.ended ≡ true → standing_after names added (Some s) ≡ Some t → AllAt 0 added × Rests s.left t
on names [] s t r e h = (let same = same-state h in (tt, record { running = ap (λ (z : Standing). z.running) same ∙ r; ended = ap (λ (z : Standing). z.ended) same ∙ e; left_is = ap (λ (z : Standing). z.left) same }))
on names (x ∷ es) s t r e h =
    let u = split-first names es (after_kind names x.0 (kind_of x.1) s) t h in
    let first = one names x.0 (kind_of x.1) s u.0 r e u.1 in
    let rest = on names es u.0 t first.1.running first.1.ended (ap (standing_after names es) (sym u.1) ∙ h) in
    ((first.0, rest.0), record { running = rest.1.running; ended = rest.1.ended; left_is = rest.1.left_is ∙ first.1.left_is })

-- By its standing: what was added is of ordinary code, no handler runs then either, and those are left that were.
pub all-at : (names : List (List ℕ)) (lines : List AtLine) (before added : Log) (s t : Standing) → standing_after names before (Some (at_first lines)) ≡ Some s → s.running ≡ [] → s.ended ≡ true → standing_after names (before ++ added) (Some (at_first lines)) ≡ Some t →
    AllAt 0 added × (t.running ≡ []) × (t.ended ≡ true) × (t.left ≡ s.left)
all-at names lines before added s t h r e k =
    let x = on names added s t r e (ap (standing_after names added) (sym h) ∙ (sym (after-append names before added (Some (at_first lines))) ∙ k)) in
    (x.0, x.1.running, x.1.ended, x.1.left_is)

nobody : (xs : List AtLine) → map told_of xs ≡ [] → xs ≡ []
nobody [] e = refl
nobody (line ∷ lines) e = absurd (cc)

-- By its position.
pub ended-stands : (x y : Position) (before added : Log) → y.names ≡ x.names → y.lines ≡ x.lines → x.running ≡ [] → x.plan.ended ≡ true → StandsAt x before → StandsAt y (before ++ added) →
    AllAt 0 added × (y.running ≡ []) × (y.plan.ended ≡ true) × (y.plan.left ≡ x.plan.left)
ended-stands x y before added names lines none ended h k =
    let there : standing_after x.names (before ++ added) (Some (at_first x.lines)) ≡ Some k.standing =
    subst (λ (z : List AtLine). standing_after x.names (before ++ added) (Some (at_first z)) ≡ Some k.standing) lines (subst (λ (z : List (List ℕ)). standing_after z (before ++ added) (Some (at_first y.lines)) ≡ Some k.standing) names k.reaches.stands) in
    let r = all-at x.names x.lines before added h.standing k.standing h.reaches.stands (nobody h.standing.running (h.reaches.running ∙ none)) (h.reaches.ended ∙ ended) there in
    (r.0, sym k.reaches.running ∙ ap (map told_of) r.1, sym k.reaches.ended ∙ r.2, sym k.reaches.left ∙ (r.3 ∙ h.reaches.left))
