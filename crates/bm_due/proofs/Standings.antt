-- What entries make of where a processor is.
use Rattle.std.proofs.Common.{◌≡◌, ◌↔◌, ◌∙◌, ℕ, ◌+◌, Bool, true, false, cond, not, ◌&&◌, eqb, List, [], ◌∷◌, ◌++◌, Option, Some, None, refl, sym, ap}
use Rattle.std.specs.List.{slice_get}
use Rattle.std.specs.Prelude.{is_none}
use Rattle.std.proofs.lemmas.Bool.{and_from, and_parts, eq-eqb, eqb-true, not_from_false, not-true, cond-true}
use Rattle.std.proofs.lemmas.Slice.Eq.{bytes_eq-Decides}
use Rattle.bm_journal.specs.declared.entry.Entry.{Entry}
use Rattle.bm_journal.specs.declared.entry.Entry.TheVariants as entry
use Rattle.bm_lang.specs.declared.scenario.AtLine.{AtLine}
use Rattle.bm_law.specs.Lists.{Log}
use Rattle.bm_due.specs.Standing.{Steps, Stays, Standing, after_kind, begun, due_in, is_called, is_name, kind_of, left_in, level_of, returned, standing_after, stayed, stepped, stopped}

-- a log that can't stand can't go on
pub after-none : (names : List (List ℕ)) (log : Log) → standing_after names log None ≡ None
after-none names [] = refl
after-none names (e ∷ es) = refl

-- a log goes on where its first part ended
pub after-append : (names : List (List ℕ)) (one two : Log) (s : Option Standing) → standing_after names (one ++ two) s ≡ standing_after names two (standing_after names one s)
after-append names [] two s = refl
after-append names (e ∷ es) two None = sym (after-none names two)
after-append names (e ∷ es) two (Some s) = after-append names es two (after_kind names e.0 (kind_of e.1) s)

-- a log that goes on has a state
pub split-first : (names : List (List ℕ)) (es : Log) (o : Option Standing) (t : Standing) → standing_after names es o ≡ Some t → (s : Standing) × (o ≡ Some s)
split-first names es None t e = let q : None ≡ Some t = sym (after-none names es) ∙ e in absurd cc
split-first names es (Some s) t e = (s, refl)

-- ---- one entry

called : (names : List (List ℕ)) (l : ℕ) (name : List ℕ) (line : AtLine) → l ≡ line.level → slice_get names line.script.0 ≡ Some name → is_called names l name line ≡ true
called names l name line e h =
    and_from _ _ (eq-eqb l line.level e) (rw h ((bytes_eq-Decides name name).1 refl))

pub stayed-is : (l : ℕ) (s : Standing) → l ≡ level_of s.running → s.resumes ≡ false → stayed l s ≡ Some s
stayed-is l s e h = cond-true _ _ _ (and_from _ _ (eq-eqb l _ e) (not_from_false _ h))

pub stepped-is : (l : ℕ) (s : Standing) → l ≡ level_of s.running → due_in s ≡ None → stepped l s ≡ Some (record s { steps = s.steps + 1; resumes = false })
stepped-is l s e h = cond-true _ _ _ (and_from _ _ (eq-eqb l _ e) (ap is_none h))

pub begun-is : (names : List (List ℕ)) (l : ℕ) (name : List ℕ) (line : AtLine) (s : Standing) → l ≡ line.level → due_in s ≡ Some line → slice_get names line.script.0 ≡ Some name → begun names l name (due_in s) s ≡ Some (record s { running = line ∷ s.running; left = left_in s; resumes = false })
begun-is names l name line s e d h = ap (λ o. begun names l name o s) d ∙ cond-true _ _ _ (called names l name line e h)

pub returned-is : (names : List (List ℕ)) (l : ℕ) (name : List ℕ) (line : AtLine) (lines : List AtLine) (s : Standing) → l ≡ line.level → s.resumes ≡ false → slice_get names line.script.0 ≡ Some name → returned names l name (line ∷ lines) s ≡ Some (record s { running = lines; resumes = true })
returned-is names l name line lines s e r h = cond-true _ _ _ (and_from _ _ (called names l name line e h) (not_from_false _ r))

-- ---- what an entry that stands tells

-- a state that a test lets pass
gate : (b : Bool) (x : Option Standing) (t : Standing) → cond b x None ≡ Some t → (b ≡ true) × (x ≡ Some t)
gate true x t e = (refl, e)
gate false x t e = absurd cc

same-state : {s t : Standing} → Some s ≡ Some t → t ≡ s
same-state e = cc

is-none : (o : Option AtLine) → is_none o ≡ true → o ≡ None
is-none None e = refl
is-none (Some line) e = absurd cc

is-named : (name : List ℕ) (o : Option (List ℕ)) → is_name name o ≡ true → o ≡ Some name
is-named name None e = absurd cc
is-named name (Some other) e = ap (λ (z : List ℕ). Some z) (sym ((bytes_eq-Decides name other).0 e))

pub stayed-tells : (l : ℕ) (s t : Standing) → stayed l s ≡ Some t → (l ≡ level_of s.running) × (s.resumes ≡ false) × (t ≡ s)
stayed-tells l s t e =
    let g : (_ ≡ true) × (Some s ≡ Some t) = gate (eqb l (level_of s.running) && not s.resumes) (Some s) t e in
    let p : (eqb l (level_of s.running) ≡ true) × (not s.resumes ≡ true) = and_parts _ _ g.0 in
    (eqb-true _ _ p.0, not-true _ p.1, same-state g.1)

pub stepped-tells : (l : ℕ) (s t : Standing) → stepped l s ≡ Some t → (l ≡ level_of s.running) × (due_in s ≡ None) × (t ≡ record s { steps = s.steps + 1; resumes = false })
stepped-tells l s t e =
    let g : (_ ≡ true) × (Some (record s { steps = s.steps + 1; resumes = false }) ≡ Some t) = gate (eqb l (level_of s.running) && is_none (due_in s)) _ t e in
    let p : (eqb l (level_of s.running) ≡ true) × (is_none (due_in s) ≡ true) = and_parts _ _ g.0 in
    (eqb-true _ _ p.0, is-none _ p.1, same-state g.1)

pub begun-tells : (names : List (List ℕ)) (l : ℕ) (name : List ℕ) (o : Option AtLine) (s t : Standing) → begun names l name o s ≡ Some t → (line : AtLine) × (o ≡ Some line) × (l ≡ line.level) × (slice_get names line.script.0 ≡ Some name) × (t ≡ record s { running = line ∷ s.running; left = left_in s; resumes = false })
begun-tells names l name None s t e = absurd cc
begun-tells names l name (Some line) s t e =
    let g : (is_called names l name line ≡ true) × (Some (record s { running = line ∷ s.running; left = left_in s; resumes = false }) ≡ Some t) = gate (is_called names l name line) _ t e in
    let p : (eqb l line.level ≡ true) × (is_name name (slice_get names line.script.0) ≡ true) = and_parts _ _ g.0 in
    (line, refl, eqb-true _ _ p.0, is-named name _ p.1, same-state g.1)

pub returned-tells : (names : List (List ℕ)) (l : ℕ) (name : List ℕ) (running : List AtLine) (s t : Standing) → returned names l name running s ≡ Some t → (line : AtLine) × (lines : List AtLine) × (running ≡ line ∷ lines) × (l ≡ line.level) × (slice_get names line.script.0 ≡ Some name) × (s.resumes ≡ false) × (t ≡ record s { running = lines; resumes = true })
returned-tells names l name [] s t e = absurd cc
returned-tells names l name (line ∷ lines) s t e =
    let g : (_ ≡ true) × (Some (record s { running = lines; resumes = true }) ≡ Some t) = gate (is_called names l name line && not s.resumes) _ t e in
    let q : (is_called names l name line ≡ true) × (not s.resumes ≡ true) = and_parts _ _ g.0 in
    let p : (eqb l line.level ≡ true) × (is_name name (slice_get names line.script.0) ≡ true) = and_parts _ _ q.0 in
    (line, lines, refl, eqb-true _ _ p.0, is-named name _ p.1, not-true _ q.1, same-state g.1)

pub stopped-tells : (l : ℕ) (running : List AtLine) (s t : Standing) → stopped l running s ≡ Some t → (l ≡ 0) × (running ≡ []) × (s.resumes ≡ false) × (t ≡ record s { ended = true })
stopped-tells l [] s t e =
    let g : (_ ≡ true) × (Some (record s { ended = true }) ≡ Some t) = gate (eqb l 0 && not s.resumes) _ t e in
    let p : (eqb l 0 ≡ true) × (not s.resumes ≡ true) = and_parts _ _ g.0 in
    (eqb-true _ _ p.0, refl, not-true _ p.1, same-state g.1)
stopped-tells l (line ∷ lines) s t e = absurd cc

pub stopped-is : (l : ℕ) (s : Standing) → l ≡ 0 → s.resumes ≡ false → stopped l [] s ≡ Some (record s { ended = true })
stopped-is l s e r = cond-true _ _ _ (and_from _ _ (eq-eqb l 0 e) (not_from_false _ r))

-- ---- one entry, both ways

pub steps-entry : (names : List (List ℕ)) (l : ℕ) (e : Entry) (s t : Standing) → kind_of e ≡ Steps → (standing_after names ((l, e) ∷ []) (Some s) ≡ Some t) ↔ ((l ≡ level_of s.running) × (due_in s ≡ None) × (t ≡ record s { steps = s.steps + 1; resumes = false }))
steps-entry names l e s t k =
    let f : after_kind names l (kind_of e) s ≡ stepped l s = ap (λ z. after_kind names l z s) k in
    ((λ h. stepped-tells l s t (sym f ∙ h)), (λ h. f ∙ stepped-is l s h.0 h.1 ∙ ap (λ (z : Standing). Some z) (sym h.2)))

pub stays-entry : (names : List (List ℕ)) (l : ℕ) (e : Entry) (s t : Standing) → kind_of e ≡ Stays → (standing_after names ((l, e) ∷ []) (Some s) ≡ Some t) ↔ ((l ≡ level_of s.running) × (s.resumes ≡ false) × (t ≡ s))
stays-entry names l e s t k =
    let f : after_kind names l (kind_of e) s ≡ stayed l s = ap (λ z. after_kind names l z s) k in
    ((λ h. stayed-tells l s t (sym f ∙ h)), (λ h. f ∙ stayed-is l s h.0 h.1 ∙ ap (λ (z : Standing). Some z) (sym h.2)))

pub begins-entry : (names : List (List ℕ)) (l : ℕ) (name : List ℕ) (s t : Standing) → (standing_after names ((l, entry.Handler name) ∷ []) (Some s) ≡ Some t) ↔ ((line : AtLine) × (due_in s ≡ Some line) × (l ≡ line.level) × (slice_get names line.script.0 ≡ Some name) × (t ≡ record s { running = line ∷ s.running; left = left_in s; resumes = false }))
begins-entry names l name s t =
    ((λ h. begun-tells names l name (due_in s) s t h), (λ h. begun-is names l name h.0 s h.2 h.1 h.3 ∙ ap (λ (z : Standing). Some z) (sym h.4)))

pub returns-entry : (names : List (List ℕ)) (l : ℕ) (name : List ℕ) (s t : Standing) → (standing_after names ((l, entry.Back name) ∷ []) (Some s) ≡ Some t) ↔ ((line : AtLine) × (lines : List AtLine) × (s.running ≡ line ∷ lines) × (l ≡ line.level) × (slice_get names line.script.0 ≡ Some name) × (s.resumes ≡ false) × (t ≡ record s { running = lines; resumes = true }))
returns-entry names l name s t =
    ((λ h. returned-tells names l name s.running s t h), (λ h. ap (λ (r : List AtLine). returned names l name r s) h.2 ∙ returned-is names l name h.0 h.1 s h.3 h.5 h.4 ∙ ap (λ (z : Standing). Some z) (sym h.6)))

pub ends-entry : (names : List (List ℕ)) (l : ℕ) (s t : Standing) → (standing_after names ((l, entry.Ended) ∷ []) (Some s) ≡ Some t) ↔ ((l ≡ 0) × (s.running ≡ []) × (s.resumes ≡ false) × (t ≡ record s { ended = true }))
ends-entry names l s t =
    ((λ h. stopped-tells l s.running s t h), (λ h. ap (λ (r : List AtLine). stopped l r s) h.1 ∙ stopped-is l s h.0 h.2 ∙ ap (λ (z : Standing). Some z) (sym h.3)))
