-- In a log where handlers stand where they are due, and those that have gone back left their phrases, the entries of each level
-- above ordinary code are whole handlers.
use Rattle.std.proofs.Common.{◌≡◌, ◌≢◌, ◌<◌, inl, inr, ℕ, ◌+◌, Bool, true, false, cond, ◌&&◌, ◌==◌, eqb, if◌then◌else◌, List, [], ◌∷◌, ◌++◌, Option, Some, None, refl, sym, ap, subst, ◌∙◌, append_assoc, append-nil, arith, ne_eqb, eq-eqb, map}
use Rattle.std.proofs.lemmas.Bool.Decides.{eqb_tells}
use Rattle.bm_journal.specs.declared.entry.Entry.{Entry}
use Rattle.bm_journal.specs.declared.entry.Entry.TheVariants as entry
use Rattle.bm_journal.specs.declared.total.Total.TheVariants as total
use Rattle.bm_journal.specs.Totals.{counts_of, share_of}
use Rattle.bm_lang.specs.declared.scenario.AtLine.{AtLine}
use Rattle.bm_lang.specs.declared.scenario.Parts.{Parts}
use Rattle.bm_lang.specs.declared.scenario.Script.{Script}
use Rattle.bm_law.specs.Lists.{Log}
use Rattle.bm_law.specs.Spans.{own_entries}
use Rattle.bm_law.proofs.Spans.{own-append}
use Rattle.bm_due.specs.Due.{planned_for}
use Rattle.bm_due.specs.Standing.{HandlersStand, Standing, Stays, Steps, after_kind, at_first, due_in, is_nobody, is_ordinary, kind_of, level_of, standing_after, step_or_not}
use Rattle.bm_due.proofs.Selected.{due-above}
use Rattle.bm_due.proofs.Standings.{begun-tells, returned-tells, split-first, stayed-tells, stepped-tells, stopped-tells}
use Rattle.bm_law_scenario.specs.Handlers.{AreHandlers, HandlersDone, all_within, is_within, more, none}
use Rattle.bm_law_scenario.proofs.GoneBack.{done-front, within-append}

-- ---- the handlers that run

-- a handler of level l runs
abbrev has_level : ℕ → List AtLine → Bool
has_level l [] = false
has_level l (x ∷ xs) = if (x.level == l) then true else has_level l xs

-- each is above what it interrupts
abbrev Tower : List AtLine → Type 0
Tower [] = Unit {0}
Tower (x ∷ xs) = (level_of xs < x.level) × Tower xs

below : (l : ℕ) (xs : List AtLine) → Tower xs → level_of xs < l → has_level l xs ≡ false
below l [] t h = refl
below l (x ∷ xs) t h = rw (ne_eqb x.level l (λ q. omega (arith, h, q))) (below l xs t.1 (omega (arith, t.0, h)))

here : (l : ℕ) (x : AtLine) (xs : List AtLine) → l ≡ x.level → has_level l (x ∷ xs) ≡ true
here l x xs q = rw (eq-eqb x.level l (sym q)) refl

elsewhere : (l : ℕ) (x : AtLine) (xs : List AtLine) → l ≢ x.level → has_level l (x ∷ xs) ≡ has_level l xs
elsewhere l x xs q = rw (ne_eqb x.level l (λ e. q (sym e))) refl

-- the code that runs isn't of a level of which no handler runs
top-apart : (l : ℕ) (xs : List AtLine) → 0 < l → has_level l xs ≡ false → level_of xs ≢ l
top-apart l [] h f q = omega (arith, h, q)
top-apart l (x ∷ xs) h f q = true-false (sym (here l x xs (sym q)) ∙ f)
  where
    true-false : true ≡ false → ⊥
    true-false e = cc

-- ---- how far level l has come

-- a handler of level l runs, behind whole ones
record Runs (s : Parts) (l : ℕ) (done : Log) : Type 0 where
  front : Log
  name : List ℕ
  part : Log
  done_is : done ≡ front ++ (l, entry.Handler name) ∷ part
  before : AreHandlers s (own_entries l front)
  within : all_within (own_entries l part) ≡ true

abbrev Come : Parts → ℕ → Bool → Log → Type 0
Come s l true done = Runs s l done
Come s l false done = AreHandlers s (own_entries l done)

pub are-append : (s : Parts) (v w : List Entry) → AreHandlers s v → AreHandlers s w → AreHandlers s (v ++ w)
are-append s _ w none k = k
are-append s _ w (more {own = own} {rest = rest} name n p h) k = subst (AreHandlers s) (sym (append_assoc (entry.Handler name ∷ own) (entry.Back name ∷ rest) w)) (more name n p (are-append s rest w h k))

-- an entry of another level
other-own : (l k : ℕ) (e : Entry) → k ≢ l → own_entries l ((k, e) ∷ []) ≡ []
other-own l k e q = rw (ne_eqb k l q) refl

one-own : (l : ℕ) (e : Entry) → own_entries l ((l, e) ∷ []) ≡ e ∷ []
one-own l e = rw (eq-eqb l l refl) refl

none-within : (es : List Entry) → es ≡ [] → all_within es ≡ true
none-within es q = ap all_within q

one-within : (l k : ℕ) (e : Entry) → is_within e ≡ true → all_within (own_entries l ((k, e) ∷ [])) ≡ true
one-within l k e h = elim (eqb k l) as (λ b. all_within (cond b (e ∷ []) []) ≡ true) [ true ↦ rw h refl | false ↦ refl ]

runs-grow : (s : Parts) (l : ℕ) (done : Log) (x : ℕ × Entry) → all_within (own_entries l (x ∷ [])) ≡ true → Runs s l done → Runs s l (done ++ x ∷ [])
runs-grow s l done x h r = record {
  front = r.front;
  name = r.name;
  part = r.part ++ x ∷ [];
  done_is = ap (λ z. z ++ x ∷ []) r.done_is ∙ append_assoc r.front ((l, entry.Handler r.name) ∷ r.part) (x ∷ []);
  before = r.before;
  within = subst (λ es. all_within es ≡ true) (sym (own-append l r.part (x ∷ []))) (within-append (own_entries l r.part) (own_entries l (x ∷ [])) r.within h);
}

-- nothing of level l was added
come-apart : (s : Parts) (l : ℕ) (b : Bool) (done : Log) (x : ℕ × Entry) → own_entries l (x ∷ []) ≡ [] → Come s l b done → Come s l b (done ++ x ∷ [])
come-apart s l true done x q c = runs-grow s l done x (none-within (own_entries l (x ∷ [])) q) c
come-apart s l false done x q c =
    let same : own_entries l done ≡ own_entries l (done ++ x ∷ []) = sym (own-append l done (x ∷ []) ∙ ap (λ z. own_entries l done ++ z) q ∙ append-nil (own_entries l done)) in
    subst (AreHandlers s) same c

-- an entry of the code that runs
come-code : (s : Parts) (l k : ℕ) (b : Bool) (xs : List AtLine) (done : Log) (e : Entry) → 0 < l → has_level l xs ≡ b → k ≡ level_of xs → is_within e ≡ true → Come s l b done → Come s l b (done ++ (k, e) ∷ [])
come-code s l k true xs done e h f q w c = runs-grow s l done (k, e) (one-within l k e w) c
come-code s l k false xs done e h f q w c = come-apart s l false done (k, e) (other-own l k e (λ z. top-apart l xs h f (sym q ∙ z))) c

-- a handler begins
come-begin : (s : Parts) (l : ℕ) (line : AtLine) (xs : List AtLine) (done : Log) (name : List ℕ) → Tower xs → level_of xs < line.level → Come s l (has_level l xs) done → Come s l (has_level l (line ∷ xs)) (done ++ (line.level, entry.Handler name) ∷ [])
come-begin s l line xs done name t up c = elim (eqb_tells l line.level) [
  | inl y ↦
      let e : l ≡ line.level = y.1 in
      let before : AreHandlers s (own_entries l done) = subst (λ b. Come s l b done) (below l xs t (subst (λ z. level_of xs < z) (sym e) up)) c in
      let runs : Runs s l (done ++ (l, entry.Handler name) ∷ []) = record { front = done; name = name; part = []; done_is = refl; before = before; within = refl } in
      subst (λ b. Come s l b (done ++ (line.level, entry.Handler name) ∷ [])) (sym (here l line xs e)) (subst (λ z. Runs s l (done ++ (z, entry.Handler name) ∷ [])) e runs)
  | inr y ↦
      let apart : own_entries l ((line.level, entry.Handler name) ∷ []) ≡ [] = other-own l line.level (entry.Handler name) (λ q. y.1 (sym q)) in
      subst (λ b. Come s l b (done ++ (line.level, entry.Handler name) ∷ [])) (sym (elsewhere l line xs y.1)) (come-apart s l (has_level l xs) done (line.level, entry.Handler name) apart c)
]

-- the handler that runs goes back
whole : (s : Parts) (processor : ℕ) (l : ℕ) (done : Log) (name : List ℕ) → HandlersDone s processor (done ++ (l, entry.Back name) ∷ []) → Runs s l done → AreHandlers s (own_entries l (done ++ (l, entry.Back name) ∷ []))
whole s processor l done name h r =
    let p = h (record { level = l; name = r.name; back = name; front = r.front; part = r.part; rest = []; log_is = ap (λ z. z ++ (l, entry.Back name) ∷ []) r.done_is; within = r.within }) in
    let begin : own_entries l ((l, entry.Handler r.name) ∷ r.part) ≡ entry.Handler r.name ∷ own_entries l r.part = rw (eq-eqb l l refl) refl in
    let parts : own_entries l (done ++ (l, entry.Back name) ∷ []) ≡ (own_entries l r.front ++ (entry.Handler r.name ∷ own_entries l r.part)) ++ entry.Back r.name ∷ [] =
    own-append l done ((l, entry.Back name) ∷ []) ∙ ap (λ z. z ++ own_entries l ((l, entry.Back name) ∷ [])) (ap (own_entries l) r.done_is ∙ own-append l r.front ((l, entry.Handler r.name) ∷ r.part) ∙ ap (λ z. own_entries l r.front ++ z) begin)
    ∙ ap (λ z. (own_entries l r.front ++ (entry.Handler r.name ∷ own_entries l r.part)) ++ z) (one-own l (entry.Back name) ∙ ap (λ n. entry.Back n ∷ []) p.0) in
    let last : AreHandlers s ((entry.Handler r.name ∷ own_entries l r.part) ++ entry.Back r.name ∷ []) = more r.name _ p.1 none in
    subst (AreHandlers s) (sym (parts ∙ append_assoc (own_entries l r.front) (entry.Handler r.name ∷ own_entries l r.part) (entry.Back r.name ∷ []))) (are-append s (own_entries l r.front) _ r.before last)

come-back : (s : Parts) (processor : ℕ) (l : ℕ) (line : AtLine) (xs : List AtLine) (done : Log) (name : List ℕ) → Tower (line ∷ xs) → HandlersDone s processor (done ++ (line.level, entry.Back name) ∷ []) → Come s l (has_level l (line ∷ xs)) done → Come s l (has_level l xs) (done ++ (line.level, entry.Back name) ∷ [])
come-back s processor l line xs done name t h c = elim (eqb_tells l line.level) [
  | inl y ↦
      let e : l ≡ line.level = y.1 in
      let runs : Runs s l done = subst (λ b. Come s l b done) (here l line xs e) c in
      let h' : HandlersDone s processor (done ++ (l, entry.Back name) ∷ []) = subst (λ z. HandlersDone s processor (done ++ (z, entry.Back name) ∷ [])) (sym e) h in
      let off : has_level l xs ≡ false = below l xs t.1 (subst (λ z. level_of xs < z) (sym e) t.0) in
      subst (λ b. Come s l b (done ++ (line.level, entry.Back name) ∷ [])) (sym off) (subst (λ z. AreHandlers s (own_entries l (done ++ (z, entry.Back name) ∷ []))) e (whole s processor l done name h' runs))
  | inr y ↦
      let apart : own_entries l ((line.level, entry.Back name) ∷ []) ≡ [] = other-own l line.level (entry.Back name) (λ q. y.1 (sym q)) in
      come-apart s l (has_level l xs) done (line.level, entry.Back name) apart (subst (λ b. Come s l b done) (elsewhere l line xs y.1) c)
]

-- ---- one entry

-- the code that runs leaves an entry that neither begins a handler nor ends one, and runs on
pub record Code (k : ℕ) (a b : Standing) : Type 0 where
  pub level : k ≡ level_of a.running
  pub same : b.running ≡ a.running
  pub left : b.left ≡ a.left
  pub over : a.ended ≡ true → b.ended ≡ true

by-steps : (names : List (List ℕ)) (k n : ℕ) (a b : Standing) → after_kind names k (step_or_not n) a ≡ Some b → Code k a b
by-steps names k n a b = elim (n == 0) as (λ t. after_kind names k (cond t Stays Steps) a ≡ Some b → Code k a b) [
  | true ↦ λ h. (let w = stayed-tells k a b h in record { level = w.0; same = ap (λ (z : Standing). z.running) w.2; left = ap (λ (z : Standing). z.left) w.2; over = λ q. ap (λ (z : Standing). z.ended) w.2 ∙ q })
  | false ↦ λ h. (let w = stepped-tells k a b h in record { level = w.0; same = ap (λ (z : Standing). z.running) w.2; left = ap (λ (z : Standing). z.left) w.2; over = λ q. ap (λ (z : Standing). z.ended) w.2 ∙ q })
]

pub by-entry : (names : List (List ℕ)) (k : ℕ) (e : Entry) (a b : Standing) → is_within e ≡ true → after_kind names k (kind_of e) a ≡ Some b → Code k a b
by-entry names k (entry.Handler name) a b w h = absurd (cc)
by-entry names k (entry.Back name) a b w h = absurd (cc)
by-entry names k entry.Ended a b w h =
    let t = stopped-tells k a.running a b h in
    record { level = t.0 ∙ ap level_of (sym t.1); same = ap (λ (z : Standing). z.running) t.3; left = ap (λ (z : Standing). z.left) t.3; over = λ q. ap (λ (z : Standing). z.ended) t.3 }
by-entry names k e a b w h = by-steps names k (share_of total.Steps (counts_of e)) a b h

-- where level l is, and each handler above what it interrupts
record At (s : Parts) (l : ℕ) (a : Standing) (done : Log) : Type 0 where
  tower : Tower a.running
  come : Come s l (has_level l a.running) done

moved : (s : Parts) (l : ℕ) (a b : Standing) (xs : List AtLine) (done : Log) → b.running ≡ xs → Tower xs → Come s l (has_level l xs) done → At s l b done
moved s l a b xs done e t c = record { tower = subst Tower (sym e) t; come = subst (λ ys. Come s l (has_level l ys) done) (sym e) c }

one-entry : (s : Parts) (processor : ℕ) (names : List (List ℕ)) (l k : ℕ) (e : Entry) (a b : Standing) (done : Log) → 0 < l → HandlersDone s processor (done ++ (k, e) ∷ []) → after_kind names k (kind_of e) a ≡ Some b → At s l a done → At s l b (done ++ (k, e) ∷ [])
one-entry s processor names l k (entry.Handler name) a b done p h q at =
    let w = begun-tells names k name (due_in a) a b q in
    let up : level_of a.running < w.0.level = due-above a.ended (a.steps + 1) (level_of a.running) a.left w.0 w.1 in
    subst (λ z. At s l b (done ++ (z, entry.Handler name) ∷ [])) (sym w.2) (moved s l a b (w.0 ∷ a.running) (done ++ (w.0.level, entry.Handler name) ∷ []) (ap (λ (z : Standing). z.running) w.4) (up, at.tower) (come-begin s l w.0 a.running done name at.tower up at.come))
one-entry s processor names l k (entry.Back name) a b done p h q at =
    let w = returned-tells names k name a.running a b q in
    let t : Tower (w.0 ∷ w.1) = subst Tower w.2 at.tower in
    let c : Come s l (has_level l (w.0 ∷ w.1)) done = subst (λ ys. Come s l (has_level l ys) done) w.2 at.come in
    let h' : HandlersDone s processor (done ++ (w.0.level, entry.Back name) ∷ []) = subst (λ z. HandlersDone s processor (done ++ (z, entry.Back name) ∷ [])) w.3 h in
    subst (λ z. At s l b (done ++ (z, entry.Back name) ∷ [])) (sym w.3) (moved s l a b w.1 (done ++ (w.0.level, entry.Back name) ∷ []) (ap (λ (z : Standing). z.running) w.6) t.1 (come-back s processor l w.0 w.1 done name t h' c))
one-entry s processor names l k e a b done p h q at =
    let w = by-entry names k e a b refl q in
    moved s l a b a.running (done ++ (k, e) ∷ []) w.same at.tower (come-code s l k (has_level l a.running) a.running done e p refl w.level refl at.come)

all-entries : (s : Parts) (processor : ℕ) (names : List (List ℕ)) (l : ℕ) (rest done : Log) (a t : Standing) → 0 < l → HandlersDone s processor (done ++ rest) → standing_after names rest (Some a) ≡ Some t → At s l a done → At s l t (done ++ rest)
all-entries s processor names l [] done a t p h q at =
    let same : a ≡ t = cc in
    subst (λ z. At s l t z) (sym (append-nil done)) (subst (λ (x : Standing). At s l x done) same at)
all-entries s processor names l (e ∷ es) done a t p h q at =
    let w : (m : Standing) × (after_kind names e.0 (kind_of e.1) a ≡ Some m) = split-first names es _ t q in
    let assoc : (done ++ e ∷ []) ++ es ≡ done ++ e ∷ es = append_assoc done (e ∷ []) es in
    let h' : HandlersDone s processor ((done ++ e ∷ []) ++ es) = subst (HandlersDone s processor) (sym assoc) h in
    let at' : At s l w.0 (done ++ e ∷ []) = one-entry s processor names l e.0 e.1 a w.0 done p (done-front s processor (done ++ e ∷ []) es h') w.1 at in
    subst (At s l t) assoc (all-entries s processor names l es (done ++ e ∷ []) w.0 t p h' (sym (ap (standing_after names es) w.1) ∙ q) at')

-- ---- the whole log

-- a log that stands leaves a state in which no handler runs
pub nobody : (o : Option Standing) → is_ordinary o ≡ true → (t : Standing) × (o ≡ Some t) × (t.running ≡ [])
nobody None e = absurd cc
nobody (Some t) e = (t, refl, empty t.running (first (is_nobody t.running) _ e))
  where
    empty : (xs : List AtLine) → is_nobody xs ≡ true → xs ≡ []
    empty [] q = refl
    empty (x ∷ xs) q = absurd cc

    first : (a b : Bool) → (a && b) ≡ true → a ≡ true
    first true b q = refl
    first false b q = q

pub levels : (s : Parts) (p : ℕ) (log : Log) → HandlersStand s p log → HandlersDone s p log → (l : ℕ) → 0 < l → AreHandlers s (own_entries l log)
levels s p log stand done l up =
    let names : List (List ℕ) = map (λ (x : Script). x.name) s.scripts in
    let t = nobody (standing_after names log (Some (at_first (planned_for p s)))) stand in
    let at : At s l t.0 log = all-entries s p names l log [] (at_first (planned_for p s)) t.0 up done t.1 (record { tower = tt; come = none }) in
    subst (λ xs. Come s l (has_level l xs) log) t.2 at.come
