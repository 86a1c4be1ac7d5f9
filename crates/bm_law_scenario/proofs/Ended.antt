-- Where handlers stand in a whole log, they stand in what is before its end, and none is behind it.
use Rattle.std.proofs.Common.{◌≡◌, ◌≢◌, ◌⊎◌, inl, inr, ℕ, true, false, not, List, [], ◌∷◌, ◌++◌, Option, Some, None, refl, sym, ap, subst, ◌∙◌, ne_eqb, map}
use Rattle.std.proofs.lemmas.Bool.{and_from, not_from_false}
use Rattle.std.proofs.lemmas.Bool.Decides.{eqb_tells}
use Rattle.bm_journal.specs.declared.entry.Entry.{Entry}
use Rattle.bm_journal.specs.declared.entry.Entry.TheVariants as entry
use Rattle.bm_lang.specs.declared.scenario.AtLine.{AtLine}
use Rattle.bm_lang.specs.declared.scenario.Parts.{Parts}
use Rattle.bm_lang.specs.declared.scenario.Script.{Script}
use Rattle.bm_law.specs.Alone.{AllAt}
use Rattle.bm_law.specs.Lists.{Log}
use Rattle.bm_law.specs.Spans.{own_entries}
use Rattle.bm_due.specs.Due.{planned_for}
use Rattle.bm_due.specs.Standing.{HandlersStand, Standing, after_kind, at_first, due_in, is_nobody, is_ordinary, kind_of, level_of, standing_after}
use Rattle.bm_due.proofs.Standings.{after-append, begun-tells, returned-tells, split-first, stopped-tells}
use Rattle.bm_law_scenario.specs.Handlers.{is_within}
use Rattle.bm_law_scenario.proofs.Levels.{by-entry, nobody}

-- ---- behind the end

-- the processor has ended, and no handler runs
record Over (a : Standing) : Type 0 where
  running : a.running ≡ []
  ended : a.ended ≡ true

over-due : (a : Standing) → Over a → due_in a ≡ None
over-due a h = rw h.ended refl

-- an entry that begins no handler and ends none
same-end : (names : List (List ℕ)) (k : ℕ) (e : Entry) (a b : Standing) → is_within e ≡ true → after_kind names k (kind_of e) a ≡ Some b → Over a → Over b
same-end names k e a b w q h = let c = by-entry names k e a b w q in record { running = c.same ∙ h.running; ended = c.over h.ended }

one-over : (names : List (List ℕ)) (k : ℕ) (e : Entry) (a b : Standing) → after_kind names k (kind_of e) a ≡ Some b → Over a → (k ≡ 0) × Over b
one-over names k (entry.Handler name) a b q h =
    let w = begun-tells names k name (due_in a) a b q in
    let no : None ≡ Some w.0 = sym (over-due a h) ∙ w.1 in
    absurd (cc)
one-over names k (entry.Back name) a b q h =
    let w = returned-tells names k name a.running a b q in
    let no : [] ≡ w.0 ∷ w.1 = sym h.running ∙ w.2 in
    absurd (cc)
one-over names k e a b q h = ((by-entry names k e a b refl q).level ∙ ap level_of h.running, same-end names k e a b refl q h)

over-at : (names : List (List ℕ)) (log : Log) (a t : Standing) → standing_after names log (Some a) ≡ Some t → Over a → AllAt 0 log
over-at names [] a t q h = tt
over-at names (e ∷ es) a t q h =
    let w : (m : Standing) × (after_kind names e.0 (kind_of e.1) a ≡ Some m) = split-first names es _ t q in
    let r : (e.0 ≡ 0) × Over w.0 = one-over names e.0 e.1 a w.0 w.1 h in
    (r.0, over-at names es w.0 t (sym (ap (standing_after names es) w.1) ∙ q) r.1)

-- ---- before the end

-- a handler runs, or has just gone back
abbrev Busy : Standing → Type 0
Busy a = (a.running ≢ []) ⊎ (a.resumes ≡ true)

busy-above : (names : List (List ℕ)) (k : ℕ) (e : Entry) (a b : Standing) → k ≢ 0 → after_kind names k (kind_of e) a ≡ Some b → Busy b
busy-above names k (entry.Handler name) a b up q =
    let w = begun-tells names k name (due_in a) a b q in
    let runs : b.running ≡ w.0 ∷ a.running = ap (λ (z : Standing). z.running) w.4 in
    inl (λ n. cons-none (sym runs ∙ n))
  where
    cons-none : {x : AtLine} {xs : List AtLine} → x ∷ xs ≡ [] → ⊥
    cons-none f = cc
busy-above names k (entry.Back name) a b up q =
    let w = returned-tells names k name a.running a b q in
    inr (ap (λ (z : Standing). z.resumes) w.6)
busy-above names k e a b up q =
    let c = by-entry names k e a b refl q in
    inl (λ n. up (c.level ∙ ap level_of (sym c.same ∙ n)))

-- what a log of a head and more has at level 0
first-own : (e : Entry) (es : Log) (own : List Entry) (first : Entry) → own_entries 0 ((0, e) ∷ es) ≡ first ∷ own → e ≡ first
first-own e es own first q = cc

other-own : (k : ℕ) (e : Entry) (es : Log) → k ≢ 0 → own_entries 0 ((k, e) ∷ es) ≡ own_entries 0 es
other-own k e es n = rw (ne_eqb k 0 n) refl

not-busy : (a : Standing) → a.running ≡ [] → a.resumes ≡ false → Busy a → ⊥
not-busy a r f (inl n) = n r
not-busy a r f (inr t) = false-true (sym f ∙ t)
  where
    false-true : false ≡ true → ⊥
    false-true q = cc

none-busy : (names : List (List ℕ)) (log : Log) (rest : List Entry) (a t : Standing) → standing_after names log (Some a) ≡ Some t → own_entries 0 log ≡ entry.Ended ∷ rest → Busy a → ⊥
none-busy names [] rest a t q o h = cc
none-busy names (e ∷ es) rest a t q o h =
    let w : (m : Standing) × (after_kind names e.0 (kind_of e.1) a ≡ Some m) = split-first names es _ t q in
    elim (eqb_tells e.0 0) [
      | inl y ↦
          let same : e.1 ≡ entry.Ended = first-own e.1 es rest entry.Ended (subst (λ k. own_entries 0 ((k, e.1) ∷ es) ≡ entry.Ended ∷ rest) y.1 o) in
          let stop = stopped-tells e.0 a.running a w.0 (sym (ap (λ x. after_kind names e.0 (kind_of x) a) same) ∙ w.1) in
          not-busy a stop.1 stop.2 h
      | inr y ↦ none-busy names es rest w.0 t (sym (ap (standing_after names es) w.1) ∙ q) (sym (other-own e.0 e.1 es y.1) ∙ o) (busy-above names e.0 e.1 a w.0 y.1 w.1)
    ]

-- the first entry is the end, where no handler runs and none has just gone back
record Stops (names : List (List ℕ)) (log : Log) (a : Standing) : Type 0 where
  running : a.running ≡ []
  resumes : a.resumes ≡ false
  at : AllAt 0 log

stops : (names : List (List ℕ)) (log : Log) (rest : List Entry) (a t : Standing) → standing_after names log (Some a) ≡ Some t → own_entries 0 log ≡ entry.Ended ∷ rest → Stops names log a
stops names [] rest a t q o = absurd (none o)
  where
    none : {x : Entry} {xs : List Entry} → [] ≡ x ∷ xs → ⊥
    none f = cc
stops names (e ∷ es) rest a t q o =
    let w : (m : Standing) × (after_kind names e.0 (kind_of e.1) a ≡ Some m) = split-first names es _ t q in
    let go : standing_after names es (Some w.0) ≡ Some t = sym (ap (standing_after names es) w.1) ∙ q in
    elim (eqb_tells e.0 0) [
      | inl y ↦
          let same : e.1 ≡ entry.Ended = first-own e.1 es rest entry.Ended (subst (λ k. own_entries 0 ((k, e.1) ∷ es) ≡ entry.Ended ∷ rest) y.1 o) in
          let stop = stopped-tells e.0 a.running a w.0 (sym (ap (λ x. after_kind names e.0 (kind_of x) a) same) ∙ w.1) in
          let over : Over w.0 = record { running = ap (λ (z : Standing). z.running) stop.3 ∙ stop.1; ended = ap (λ (z : Standing). z.ended) stop.3 } in
          record { running = stop.1; resumes = stop.2; at = (y.1, over-at names es w.0 t go over) }
      | inr y ↦ absurd (none-busy names es rest w.0 t go (sym (other-own e.0 e.1 es y.1) ∙ o) (busy-above names e.0 e.1 a w.0 y.1 w.1))
    ]

pub before-end : (s : Parts) (p : ℕ) (front closing : Log) (rest : List Entry) → HandlersStand s p (front ++ closing) → own_entries 0 closing ≡ entry.Ended ∷ rest → HandlersStand s p front × AllAt 0 closing
before-end s p front closing rest h o =
    let names : List (List ℕ) = map (λ (x : Script). x.name) s.scripts in
    let first : Option Standing = Some (at_first (planned_for p s)) in
    let t = nobody (standing_after names (front ++ closing) first) h in
    let two : standing_after names closing (standing_after names front first) ≡ Some t.0 = sym (after-append names front closing first) ∙ t.1 in
    let m : (a : Standing) × (standing_after names front first ≡ Some a) = split-first names closing (standing_after names front first) t.0 two in
    let k : Stops names closing m.0 = stops names closing rest m.0 t.0 (sym (ap (standing_after names closing) m.1) ∙ two) o in
    (ap is_ordinary m.1 ∙ and_from (is_nobody m.0.running) (not m.0.resumes) (ap is_nobody k.running) (not_from_false m.0.resumes k.resumes), k.at)
