-- A log in which the handlers stand where they are due is one that code leaves which asks.
use Rattle.std.proofs.Common.{◌≡◌, ◌≢◌, ◌∙◌, ℕ, Bool, true, false, List, [], ◌∷◌, ◌++◌, Option, Some, None, eqb, inl, inr, refl, sym, ap, subst, append_assoc}
use Rattle.std.specs.List.{slice_get}
use Rattle.std.proofs.lemmas.Bool.{cases_Bool, cond-true, cond-false}
use Rattle.bm_journal.specs.declared.entry.Entry.{Entry}
use Rattle.bm_journal.specs.declared.entry.Entry.TheVariants as entry
use Rattle.bm_journal.specs.declared.total.Total.TheVariants as total
use Rattle.bm_journal.specs.Totals.{counts_of, share_of}
use Rattle.bm_lang.specs.declared.scenario.AtLine.{AtLine}
use Rattle.bm_law.specs.Lists.{Log}
use Rattle.bm_due.specs.Standing.{Ends, Standing, Stays, Steps, after_kind, kind_of, level_of, standing_after, step_or_not}
use Rattle.bm_due.specs.Asking.{Asks, NoneEnds, Progress, Runs, done, handler, next_due, nothing, once_begun, once_stepped, stays, steps}
use Rattle.bm_due.proofs.Standings.{begun-tells, returned-tells, split-first, stayed-tells, stepped-tells}
use Rattle.bm_due.proofs.Askings.{standing}

-- ---- what an entry is

data View (e : Entry) : Type 0 where
  is_handler : (name : List ℕ) → e ≡ entry.Handler name → View e
  is_back : (name : List ℕ) → e ≡ entry.Back name → View e
  is_end : kind_of e ≡ Ends → View e
  is_step : kind_of e ≡ Steps → View e
  is_stay : kind_of e ≡ Stays → View e

by-number : (e : Entry) (n : ℕ) → kind_of e ≡ step_or_not n → View e
by-number e n h = elim (cases_Bool (eqb n 0)) [
  | inl t ↦ is_stay (h ∙ cond-true (eqb n 0) Stays Steps t)
  | inr f ↦ is_step (h ∙ cond-false (eqb n 0) Stays Steps f)
]

view : (e : Entry) → View e
view (entry.Handler name) = is_handler name refl
view (entry.Back name) = is_back name refl
view entry.Ended = is_end refl
view e = by-number e (share_of total.Steps (counts_of e)) refl

-- ---- what is left of a log

-- code that is about to take a step: it asks, takes the step, and goes on
record Resumes (names : List (List ℕ)) (ended : Bool) (l : ℕ) (a : Progress) (log : Log) (b : Progress) : Type 0 where
  pub handlers : Log
  pub m : Progress
  pub e : Entry
  pub rest : Log
  pub log_is : log ≡ handlers ++ (l, e) ∷ rest
  pub kind : kind_of e ≡ Steps
  pub asks : Asks names ended l a handlers m
  pub runs : Runs names ended l (once_stepped m) rest b

-- code of level l, which may be about to take a step
abbrev Goes : List (List ℕ) → Bool → Bool → ℕ → Progress → Log → Progress → Type 0
Goes names ended false l a log b = Runs names ended l a log b
Goes names ended true l a log b = Resumes names ended l a log b

-- the rest of a handler, and what stands behind it
record Nested (names : List (List ℕ)) (ended resumes : Bool) (line : AtLine) (a : Progress) (log : Log) (Behind : Progress → Log → Type 0) : Type 0 where
  pub body : Log
  pub m : Progress
  pub name : List ℕ
  pub rest : Log
  pub log_is : log ≡ body ++ (line.level, entry.Back name) ∷ rest
  pub named : slice_get names line.script.0 ≡ Some name
  pub goes : Goes names ended resumes line.level a body m
  pub behind : Behind m rest

-- the rest of all code that runs, the innermost first
abbrev Rest : List (List ℕ) → Bool → List AtLine → Bool → Progress → Log → Progress → Type 0
Rest names ended [] resumes a log b = Goes names ended resumes 0 a log b
Rest names ended (line ∷ lines) resumes a log b = Nested names ended resumes line a log (λ m rest. Rest names ended lines true m rest b)

-- more entries of the innermost code
front : (names : List (List ℕ)) (ended : Bool) (running : List AtLine) (r q : Bool) (a c : Progress) (pre : Log) → ((log : Log) (b : Progress) → Goes names ended r (level_of running) a log b → Goes names ended q (level_of running) c (pre ++ log) b) → (log : Log) (b : Progress) → Rest names ended running r a log b → Rest names ended running q c (pre ++ log) b
front names ended [] r q a c pre f log b w = f log b w
front names ended (line ∷ lines) r q a c pre f log b w = record {
  body = pre ++ w.body;
  m = w.m;
  name = w.name;
  rest = w.rest;
  log_is = rw (w.log_is, append_assoc) refl;
  named = w.named;
  goes = f w.body w.m w.goes;
  behind = w.behind;
}

-- how far a processor has come
abbrev pub progress_of : Standing → Progress
progress_of s = record { steps = s.steps; left = s.left }

-- ---- one entry

-- what follows the entry, once it is known what the entry made
follows : (names : List (List ℕ)) (es : Log) (o : Option Standing) (s t u : Standing) → o ≡ Some s → s ≡ u → standing_after names es o ≡ Some t → standing_after names es (Some u) ≡ Some t
follows names es o s t u e q h = ap (λ z. standing_after names es (Some z)) (sym q) ∙ ap (standing_after names es) (sym e) ∙ h

stay-front : (names : List (List ℕ)) (ended : Bool) (l : ℕ) (e : Entry) (es : Log) (running : List AtLine) (resumes : Bool) (a b : Progress) → kind_of e ≡ Stays → l ≡ level_of running → resumes ≡ false → Rest names ended running resumes a es b → Rest names ended running resumes a ((l, e) ∷ es) b
stay-front names ended l e es running true a b k h r w = absurd cc
stay-front names ended l e es running false a b k h r w =
    front names ended running false false a a ((l, e) ∷ []) (λ log c q. subst (λ j. Runs names ended (level_of running) a ((j, e) ∷ log) c) (sym h) (stays e k q)) es b w

at-stay : (names : List (List ℕ)) (ended : Bool) (l : ℕ) (e : Entry) (es : Log) (running : List AtLine) (resumes : Bool) (a : Progress) (t : Standing) → kind_of e ≡ Stays → standing_after names ((l, e) ∷ es) (Some (standing ended resumes running a)) ≡ Some t → ((run : List AtLine) (r : Bool) (c : Progress) → standing_after names es (Some (standing ended r run c)) ≡ Some t → Rest names ended run r c es (progress_of t)) → Rest names ended running resumes a ((l, e) ∷ es) (progress_of t)
at-stay names ended l e es running resumes a t k h ih =
    let s : Standing = standing ended resumes running a in
    let w : (m : Standing) × (after_kind names l (kind_of e) s ≡ Some m) = split-first names es _ t h in
    let q : (l ≡ level_of running) × (resumes ≡ false) × (w.0 ≡ s) = stayed-tells l s w.0 (ap (λ z. after_kind names l z s) (sym k) ∙ w.1) in
    let g : Rest names ended running resumes a es (progress_of t) = ih running resumes a (follows names es _ w.0 t s w.1 q.2 h) in
    stay-front names ended l e es running resumes a (progress_of t) k q.0 q.1 g

-- before the step nothing more is due
step-goes : (names : List (List ℕ)) (ended : Bool) (l k : ℕ) (e : Entry) (resumes : Bool) (a : Progress) → kind_of e ≡ Steps → l ≡ k → next_due ended k a ≡ None → (log : Log) (b : Progress) → Goes names ended false k (once_stepped a) log b → Goes names ended resumes k a (((l, e) ∷ []) ++ log) b
step-goes names ended l k e true a s h d log b q = record { handlers = []; m = a; e = e; rest = log; log_is = ap (λ j. (j, e) ∷ log) h; kind = s; asks = nothing d; runs = q }
step-goes names ended l k e false a s h d log b q = subst (λ j. Runs names ended k a ((j, e) ∷ log) b) (sym h) (steps e s (nothing d) q)

at-step : (names : List (List ℕ)) (ended : Bool) (l : ℕ) (e : Entry) (es : Log) (running : List AtLine) (resumes : Bool) (a : Progress) (t : Standing) → kind_of e ≡ Steps → standing_after names ((l, e) ∷ es) (Some (standing ended resumes running a)) ≡ Some t → ((run : List AtLine) (r : Bool) (c : Progress) → standing_after names es (Some (standing ended r run c)) ≡ Some t → Rest names ended run r c es (progress_of t)) → Rest names ended running resumes a ((l, e) ∷ es) (progress_of t)
at-step names ended l e es running resumes a t k h ih =
    let s : Standing = standing ended resumes running a in
    let w : (m : Standing) × (after_kind names l (kind_of e) s ≡ Some m) = split-first names es _ t h in
    let u : Standing = standing ended false running (once_stepped a) in
    let q : (l ≡ level_of running) × (next_due ended (level_of running) a ≡ None) × (w.0 ≡ u) = stepped-tells l s w.0 (ap (λ z. after_kind names l z s) (sym k) ∙ w.1) in
    let g : Rest names ended running false (once_stepped a) es (progress_of t) = ih running false (once_stepped a) (follows names es _ w.0 t u w.1 q.2 h) in
    front names ended running false resumes (once_stepped a) a ((l, e) ∷ []) (step-goes names ended l (level_of running) e resumes a k q.0 q.1) es (progress_of t) g

-- entries between two lists
join-back : (xs : Log) (y : ℕ × Entry) (rest : Log) → (xs ++ y ∷ []) ++ rest ≡ xs ++ y ∷ rest
join-back [] y rest = refl
join-back (x ∷ xs) y rest = ap (λ (z : Log). x ∷ z) (join-back xs y rest)

regroup : (xs : Log) (y : ℕ × Entry) (more rest : Log) → (xs ++ y ∷ []) ++ (more ++ rest) ≡ (xs ++ y ∷ more) ++ rest
regroup [] y more rest = refl
regroup (x ∷ xs) y more rest = ap (λ (z : Log). x ∷ z) (regroup xs y more rest)

-- a handler before what its interrupted code goes on with
handler-goes : (names : List (List ℕ)) (ended : Bool) (k : ℕ) (line : AtLine) (name : List ℕ) (body : Log) (resumes : Bool) (a m : Progress) → next_due ended k a ≡ Some line → slice_get names line.script.0 ≡ Some name → Runs names ended line.level (once_begun ended k a) body m → (log : Log) (b : Progress) → Goes names ended true k m log b → Goes names ended resumes k a (((line.level, entry.Handler name) ∷ body ++ (line.level, entry.Back name) ∷ []) ++ log) b
handler-goes names ended k line name body true a m d n r log b q = record {
  handlers = (line.level, entry.Handler name) ∷ body ++ (line.level, entry.Back name) ∷ q.handlers;
  m = q.m;
  e = q.e;
  rest = q.rest;
  log_is = ap (λ (z : Log). ((line.level, entry.Handler name) ∷ body ++ (line.level, entry.Back name) ∷ []) ++ z) q.log_is ∙ regroup ((line.level, entry.Handler name) ∷ body) (line.level, entry.Back name) q.handlers ((k, q.e) ∷ q.rest);
  kind = q.kind;
  asks = handler line name d n r q.asks;
  runs = q.runs;
}
handler-goes names ended k line name body false a m d n r log b q =
    let same : ((line.level, entry.Handler name) ∷ body ++ (line.level, entry.Back name) ∷ []) ++ log ≡ ((line.level, entry.Handler name) ∷ body ++ (line.level, entry.Back name) ∷ q.handlers) ++ (k, q.e) ∷ q.rest =
    ap (λ (z : Log). ((line.level, entry.Handler name) ∷ body ++ (line.level, entry.Back name) ∷ []) ++ z) q.log_is ∙ regroup ((line.level, entry.Handler name) ∷ body) (line.level, entry.Back name) q.handlers ((k, q.e) ∷ q.rest) in
    subst (λ (z : Log). Runs names ended k a z b) (sym same) (steps q.e q.kind (handler line name d n r q.asks) q.runs)

same-name : {x y : List ℕ} {o : Option (List ℕ)} → o ≡ Some x → o ≡ Some y → x ≡ y
same-name e f = cc

at-handler : (names : List (List ℕ)) (ended : Bool) (l : ℕ) (name : List ℕ) (es : Log) (running : List AtLine) (resumes : Bool) (a : Progress) (t : Standing) → standing_after names ((l, entry.Handler name) ∷ es) (Some (standing ended resumes running a)) ≡ Some t → ((run : List AtLine) (r : Bool) (c : Progress) → standing_after names es (Some (standing ended r run c)) ≡ Some t → Rest names ended run r c es (progress_of t)) → Rest names ended running resumes a ((l, entry.Handler name) ∷ es) (progress_of t)
at-handler names ended l name es running resumes a t h ih =
    let s : Standing = standing ended resumes running a in
    let w : (m : Standing) × (_ ≡ Some m) = split-first names es _ t h in
    let q : (line : AtLine) × (next_due ended (level_of running) a ≡ Some line) × (l ≡ line.level) × (slice_get names line.script.0 ≡ Some name) × (w.0 ≡ standing ended false (line ∷ running) (once_begun ended (level_of running) a)) = begun-tells names l name _ s w.0 w.1 in
    let c : Progress = once_begun ended (level_of running) a in
    let g : Rest names ended (q.0 ∷ running) false c es (progress_of t) = ih (q.0 ∷ running) false c (follows names es _ w.0 t (standing ended false (q.0 ∷ running) c) w.1 q.4 h) in
    let n : g.name ≡ name = same-name g.named q.3 in
    let log : es ≡ g.body ++ (q.0.level, entry.Back name) ∷ g.rest = g.log_is ∙ ap (λ (z : List ℕ). g.body ++ (q.0.level, entry.Back z) ∷ g.rest) n in
    let all : ((q.0.level, entry.Handler name) ∷ g.body ++ (q.0.level, entry.Back name) ∷ []) ++ g.rest ≡ (l, entry.Handler name) ∷ es =
    join-back ((q.0.level, entry.Handler name) ∷ g.body) (q.0.level, entry.Back name) g.rest ∙ ap (λ (z : Log). (q.0.level, entry.Handler name) ∷ z) (sym log) ∙ ap (λ j. (j, entry.Handler name) ∷ es) (sym q.2) in
    subst (λ (z : Log). Rest names ended running resumes a z (progress_of t)) all
    (front names ended running true resumes g.m a ((q.0.level, entry.Handler name) ∷ g.body ++ (q.0.level, entry.Back name) ∷ []) (handler-goes names ended (level_of running) q.0 name g.body resumes a g.m q.1 q.3 g.goes) g.rest (progress_of t) g.behind)

back-front : (names : List (List ℕ)) (ended : Bool) (l : ℕ) (name : List ℕ) (es : Log) (line : AtLine) (lines : List AtLine) (resumes : Bool) (a b : Progress) → l ≡ line.level → slice_get names line.script.0 ≡ Some name → resumes ≡ false → Rest names ended lines true a es b → Rest names ended (line ∷ lines) resumes a ((l, entry.Back name) ∷ es) b
back-front names ended l name es line lines true a b h n r w = absurd cc
back-front names ended l name es line lines false a b h n r w = record { body = []; m = a; name = name; rest = es; log_is = ap (λ j. (j, entry.Back name) ∷ es) h; named = n; goes = done; behind = w }

at-back : (names : List (List ℕ)) (ended : Bool) (l : ℕ) (name : List ℕ) (es : Log) (running : List AtLine) (resumes : Bool) (a : Progress) (t : Standing) → standing_after names ((l, entry.Back name) ∷ es) (Some (standing ended resumes running a)) ≡ Some t → ((run : List AtLine) (r : Bool) (c : Progress) → standing_after names es (Some (standing ended r run c)) ≡ Some t → Rest names ended run r c es (progress_of t)) → Rest names ended running resumes a ((l, entry.Back name) ∷ es) (progress_of t)
at-back names ended l name es [] resumes a t h ih = let w : (m : Standing) × (None ≡ Some m) = split-first names es None t h in let f : None ≡ Some w.0 = w.1 in absurd cc
at-back names ended l name es (line ∷ lines) resumes a t h ih =
    let s : Standing = standing ended resumes (line ∷ lines) a in
    let w : (m : Standing) × (_ ≡ Some m) = split-first names es _ t h in
    let q : (x : AtLine) × (xs : List AtLine) × (line ∷ lines ≡ x ∷ xs) × (l ≡ x.level) × (slice_get names x.script.0 ≡ Some name) × (resumes ≡ false) × (w.0 ≡ standing ended true xs a) = returned-tells names l name (line ∷ lines) s w.0 w.1 in
    let head : q.0 ≡ line = (let f : line ∷ lines ≡ q.0 ∷ q.1 = q.2 in cc) in
    let tail : q.1 ≡ lines = (let f : line ∷ lines ≡ q.0 ∷ q.1 = q.2 in cc) in
    let g : Rest names ended lines true a es (progress_of t) = ih lines true a (follows names es _ w.0 t (standing ended true lines a) w.1 (q.6 ∙ ap (λ (z : List AtLine). standing ended true z a) tail) h) in
    back-front names ended l name es line lines resumes a (progress_of t) (q.3 ∙ ap (λ (z : AtLine). z.level) head) (subst (λ (z : AtLine). slice_get names z.script.0 ≡ Some name) head q.4) q.5 g

-- ---- a whole log

some-state : {s t : Standing} → Some s ≡ Some t → t ≡ s
some-state e = cc

at-end : (names : List (List ℕ)) (ended : Bool) (running : List AtLine) (resumes : Bool) (a : Progress) (t : Standing) → t ≡ standing ended resumes running a → t.running ≡ [] → t.resumes ≡ false → Rest names ended running resumes a [] (progress_of t)
at-end names ended (line ∷ lines) resumes a t e r q = let f : [] ≡ line ∷ lines = sym r ∙ ap (λ (z : Standing). z.running) e in absurd cc
at-end names ended [] true a t e r q = let f : false ≡ true = sym q ∙ ap (λ (z : Standing). z.resumes) e in absurd cc
at-end names ended [] false a t e r q = subst (λ (z : Progress). Runs names ended 0 a [] z) (sym (ap progress_of e)) done

one-entry : (names : List (List ℕ)) (ended : Bool) (l : ℕ) (e : Entry) (es : Log) (running : List AtLine) (resumes : Bool) (a : Progress) (t : Standing) → View e → kind_of e ≢ Ends → standing_after names ((l, e) ∷ es) (Some (standing ended resumes running a)) ≡ Some t → ((run : List AtLine) (r : Bool) (c : Progress) → standing_after names es (Some (standing ended r run c)) ≡ Some t → Rest names ended run r c es (progress_of t)) → Rest names ended running resumes a ((l, e) ∷ es) (progress_of t)
one-entry names ended l e es running resumes a t (is_handler name q) no_end h ih =
    subst (λ (z : Entry). Rest names ended running resumes a ((l, z) ∷ es) (progress_of t)) (sym q) (at-handler names ended l name es running resumes a t (subst (λ (z : Entry). standing_after names ((l, z) ∷ es) (Some (standing ended resumes running a)) ≡ Some t) q h) ih)
one-entry names ended l e es running resumes a t (is_back name q) no_end h ih =
    subst (λ (z : Entry). Rest names ended running resumes a ((l, z) ∷ es) (progress_of t)) (sym q) (at-back names ended l name es running resumes a t (subst (λ (z : Entry). standing_after names ((l, z) ∷ es) (Some (standing ended resumes running a)) ≡ Some t) q h) ih)
one-entry names ended l e es running resumes a t (is_end k) no_end h ih = absurd (no_end k)
one-entry names ended l e es running resumes a t (is_step k) no_end h ih = at-step names ended l e es running resumes a t k h ih
one-entry names ended l e es running resumes a t (is_stay k) no_end h ih = at-stay names ended l e es running resumes a t k h ih

rest-of : (names : List (List ℕ)) (ended : Bool) (log : Log) (running : List AtLine) (resumes : Bool) (a : Progress) (t : Standing) → NoneEnds log → standing_after names log (Some (standing ended resumes running a)) ≡ Some t → t.running ≡ [] → t.resumes ≡ false → Rest names ended running resumes a log (progress_of t)
rest-of names ended [] running resumes a t no_end h r q = at-end names ended running resumes a t (some-state h) r q
rest-of names ended (e ∷ es) running resumes a t no_end h r q =
    one-entry names ended e.0 e.1 es running resumes a t (view e.1) no_end.0 h (λ run z c g. rest-of names ended es run z c t no_end.1 g r q)

pub made : (names : List (List ℕ)) (ended : Bool) (a : Progress) (log : Log) (t : Standing) → NoneEnds log → standing_after names log (Some (standing ended false [] a)) ≡ Some t → t.running ≡ [] → t.resumes ≡ false → Runs names ended 0 a log (progress_of t)
made names ended a log t no_end h r q = rest-of names ended log [] false a t no_end h r q
