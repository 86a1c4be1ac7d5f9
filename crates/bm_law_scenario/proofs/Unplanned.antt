-- Where no handler is planned: none stands in the log, and a log of ordinary code that begins and ends none stands.
use Rattle.std.proofs.Common.{◌≡◌, ℕ, ◌+◌, Bool, true, false, cond, not, ◌&&◌, ◌==◌, List, [], ◌∷◌, ◌++◌, Some, None, refl, sym, ap, subst, ◌∙◌, append_assoc, append-nil, map}
use Rattle.std.proofs.lemmas.Bool.{and_from, and_parts, not_from_false}
use Rattle.bm_journal.specs.declared.entry.Entry.{Entry}
use Rattle.bm_journal.specs.declared.entry.Entry.TheVariants as entry
use Rattle.bm_journal.specs.declared.total.Total.TheVariants as total
use Rattle.bm_journal.specs.Totals.{counts_of, share_of}
use Rattle.bm_lang.specs.declared.scenario.Parts.{Parts}
use Rattle.bm_lang.specs.declared.scenario.Script.{Script}
use Rattle.bm_law.specs.Alone.{AllAt, at_level}
use Rattle.bm_law.specs.Lists.{Log}
use Rattle.bm_law.specs.Spans.{own_entries}
use Rattle.bm_law.proofs.Alone.{at-own}
use Rattle.bm_due.specs.Due.{due_handler, planned_for}
use Rattle.bm_due.specs.Standing.{HandlersStand, Standing, Stays, Steps, after_kind, at_first, due_in, is_nobody, is_ordinary, kind_of, level_of, standing_after, step_or_not, stopped}
use Rattle.bm_due.proofs.Standings.{begun-tells, returned-tells, split-first, stayed-is, stepped-is, stopped-is}
use Rattle.bm_law_scenario.specs.Handlers.{HandlersDone, all_within, is_within}
use Rattle.bm_law_scenario.proofs.GoneBack.{done-grow, done-none}
use Rattle.bm_law_scenario.proofs.Levels.{by-entry, nobody}

-- ordinary code runs, and no handler is left
record Bare (a : Standing) : Type 0 where
  running : a.running ≡ []
  left : a.left ≡ []

none-due : (ended : Bool) (n l : ℕ) → due_handler ended n l [] ≡ None
none-due true n l = refl
none-due false n l = refl

bare-due : (a : Standing) → Bare a → due_in a ≡ None
bare-due a h = ap (λ xs. due_handler a.ended (a.steps + 1) (level_of a.running) xs) h.left ∙ none-due a.ended (a.steps + 1) (level_of a.running)

-- ---- what stands is ordinary

one-at : (names : List (List ℕ)) (k : ℕ) (e : Entry) (a b : Standing) → after_kind names k (kind_of e) a ≡ Some b → Bare a → (k ≡ 0) × Bare b
one-at names k (entry.Handler name) a b q h =
    let w = begun-tells names k name (due_in a) a b q in
    let no : None ≡ Some w.0 = sym (bare-due a h) ∙ w.1 in
    absurd (cc)
one-at names k (entry.Back name) a b q h =
    let w = returned-tells names k name a.running a b q in
    let no : [] ≡ w.0 ∷ w.1 = sym h.running ∙ w.2 in
    absurd (cc)
one-at names k e a b q h =
    let w = by-entry names k e a b refl q in
    (w.level ∙ ap level_of h.running, record { running = w.same ∙ h.running; left = w.left ∙ h.left })

all-at : (names : List (List ℕ)) (log : Log) (a t : Standing) → standing_after names log (Some a) ≡ Some t → Bare a → AllAt 0 log
all-at names [] a t q h = tt
all-at names (e ∷ es) a t q h =
    let w : (m : Standing) × (after_kind names e.0 (kind_of e.1) a ≡ Some m) = split-first names es _ t q in
    let r : (e.0 ≡ 0) × Bare w.0 = one-at names e.0 e.1 a w.0 w.1 h in
    (r.0, all-at names es w.0 t (sym (ap (standing_after names es) w.1) ∙ q) r.1)

pub unplanned-at : (s : Parts) (p : ℕ) (log : Log) → planned_for p s ≡ [] → HandlersStand s p log → AllAt 0 log
unplanned-at s p log e h =
    let names : List (List ℕ) = map (λ (x : Script). x.name) s.scripts in
    let t = nobody (standing_after names log (Some (at_first (planned_for p s)))) h in
    all-at names log (at_first (planned_for p s)) t.0 t.1 (record { running = refl; left = e })

-- ---- ordinary code stands

record Goes (names : List (List ℕ)) (e : Entry) (a : Standing) : Type 0 where
  next : Standing
  goes : after_kind names 0 (kind_of e) a ≡ Some next
  bare : Bare next
  calm : next.resumes ≡ false

goes-steps : (names : List (List ℕ)) (n : ℕ) (a : Standing) → Bare a → a.resumes ≡ false → (b : Standing) × (after_kind names 0 (step_or_not n) a ≡ Some b) × Bare b × (b.resumes ≡ false)
goes-steps names n a h r = elim (n == 0) as (λ t. (b : Standing) × (after_kind names 0 (cond t Stays Steps) a ≡ Some b) × Bare b × (b.resumes ≡ false)) [
  | true ↦ (a, stayed-is 0 a (sym (ap level_of h.running)) r, h, r)
  | false ↦ (record a { steps = a.steps + 1; resumes = false }, stepped-is 0 a (sym (ap level_of h.running)) (bare-due a h), record { running = h.running; left = h.left }, refl)
]

goes-on : (names : List (List ℕ)) (e : Entry) (a : Standing) → is_within e ≡ true → Bare a → a.resumes ≡ false → Goes names e a
goes-on names (entry.Handler name) a w h r = absurd (cc)
goes-on names (entry.Back name) a w h r = absurd (cc)
goes-on names entry.Ended a w h r = record {
  next = record a { ended = true };
  goes = ap (λ xs. stopped 0 xs a) h.running ∙ stopped-is 0 a refl r;
  bare = record { running = h.running; left = h.left };
  calm = r;
}
goes-on names e a w h r =
    let g = goes-steps names (share_of total.Steps (counts_of e)) a h r in
    record { next = g.0; goes = g.1; bare = g.2; calm = g.3 }

stands-from : (names : List (List ℕ)) (es : List Entry) (a : Standing) → all_within es ≡ true → Bare a → a.resumes ≡ false → is_ordinary (standing_after names (at_level 0 es) (Some a)) ≡ true
stands-from names [] a w h r = and_from (is_nobody a.running) (not a.resumes) (ap is_nobody h.running) (not_from_false a.resumes r)
stands-from names (e ∷ es) a w h r =
    let p = and_parts (is_within e) (all_within es) w in
    let g = goes-on names e a p.0 h r in
    ap (λ o. is_ordinary (standing_after names (at_level 0 es) o)) g.goes ∙ stands-from names es g.next p.1 g.bare g.calm

pub unplanned-stands : (s : Parts) (p : ℕ) (log : Log) → planned_for p s ≡ [] → AllAt 0 log → all_within (own_entries 0 log) ≡ true → HandlersStand s p log
unplanned-stands s p log e a w =
    let names : List (List ℕ) = map (λ (x : Script). x.name) s.scripts in
    subst (HandlersStand s p) (sym (at-own 0 log a)) (stands-from names (own_entries 0 log) (at_first (planned_for p s)) w (record { running = refl; left = e }) refl)

-- ---- no handler goes back

-- all entries of a stretch neither begin a handler nor end one
abbrev pub log_within : Log → Bool
log_within [] = true
log_within (e ∷ es) = is_within e.1 && log_within es

level-within : (l : ℕ) (es : List Entry) → log_within (at_level l es) ≡ all_within es
level-within l [] = refl
level-within l (e ∷ es) = ap (λ b. is_within e && b) (level-within l es)

no-back : (e : Entry) (name : List ℕ) → is_within e ≡ true → e ≡ entry.Back name → ⊥
no-back e name w q = false-true (sym (ap is_within q) ∙ w)
  where
    false-true : false ≡ true → ⊥
    false-true f = cc

-- such entries keep what the handlers have left
pub done-stretch : (s : Parts) (p : ℕ) (es log : Log) → log_within es ≡ true → HandlersDone s p log → HandlersDone s p (log ++ es)
done-stretch s p [] log w h = subst (HandlersDone s p) (sym (append-nil log)) h
done-stretch s p (e ∷ es) log w h =
    let both = and_parts (is_within e.1) (log_within es) w in
    subst (HandlersDone s p) (append_assoc log (e ∷ []) es) (done-stretch s p es (log ++ e ∷ []) both.1 (done-grow s p log e.0 e.1 (λ name q. no-back e.1 name both.0 q) h))

pub done-ordinary : (s : Parts) (p : ℕ) (log : Log) → AllAt 0 log → all_within (own_entries 0 log) ≡ true → HandlersDone s p log
done-ordinary s p log a w = subst (HandlersDone s p) (sym (at-own 0 log a)) (done-stretch s p (at_level 0 (own_entries 0 log)) [] (level-within 0 (own_entries 0 log) ∙ w) (done-none s p))
