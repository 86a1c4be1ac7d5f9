-- What entries make of a position.
use Rattle.std.proofs.Common.{◌≡◌, ◌∙◌, ℕ, ◌+◌, Bool, true, false, List, [], ◌∷◌, ◌++◌, Option, Some, None, map, refl, sym, ap, arith}
use Rattle.std.specs.List.{slice_get}
use Rattle.std.proofs.lemmas.Bool.{and_from, not_from_false}
use Rattle.bm_journal.specs.declared.entry.Entry.{Entry}
use Rattle.bm_journal.specs.declared.entry.Entry.TheVariants as entry
use Rattle.bm_journal.specs.declared.total.Total.TheVariants as total
use Rattle.bm_journal.specs.Totals.{total_in}
use Rattle.bm_lang.specs.declared.scenario.AtLine.{AtLine}
use Rattle.bm_law.specs.Lists.{Log}
use Rattle.bm_cache.specs.Steps.{steps_in}
use Rattle.bm_due.specs.Due.{due_handler, left_after}
use Rattle.bm_due.specs.Plan.{due_of, plan_after}
use Rattle.bm_due.specs.Standing.{Standing, Stays, Steps, at_first, due_in, handlers_stand, is_nobody, is_ordinary, kind_of, left_in, level_of, standing_after}
use Rattle.bm_due.specs.Told.{told_of}
use Rattle.bm_due.specs.declared.planned.Due.{Due}
use Rattle.bm_due.proofs.Counting.{steps-counted}
use Rattle.bm_due.proofs.Standings.{after-append, begins-entry, ends-entry, returns-entry, stays-entry, steps-entry}
use Rattle.bm_plan.specs.Position.{AboutTo, AskedAt, Position, Reaches, StandsAt, level_in, outset, within}
use Rattle.bm_plan.proofs.Numbers.{steps-total}

-- ---- where the log leads

level-same : (running : List AtLine) → level_of running ≡ level_in (map told_of running)
level-same [] = refl
level-same (line ∷ lines) = refl

-- the code's level
pub level-is : (p : Position) (log : Log) (s : Standing) → Reaches p log s → level_of s.running ≡ level_in p.running
level-is p log s r = level-same s.running ∙ ap level_in r.running

-- the steps so far
pub steps-are : (p : Position) (log : Log) (s : Standing) → Reaches p log s → s.steps ≡ steps_in log
steps-are p log s r =
    let taken : s.steps ≡ 0 + total_in total.Steps log = steps-counted p.names log (at_first p.lines) s r.stands in
    let same : steps_in log ≡ total_in total.Steps log = steps-total log in
    omega arith

-- the same question
same-due : (a b : Bool) (m n k l : ℕ) (xs ys : List AtLine) → a ≡ b → m ≡ n → k ≡ l → xs ≡ ys → due_handler a (m + 1) k xs ≡ due_handler b (n + 1) l ys
same-due a b m n k l xs ys e f g h =
    ap (λ z. due_handler z (m + 1) k xs) e ∙ ap (λ z. due_handler b (z + 1) k xs) f ∙ ap (λ z. due_handler b (n + 1) z xs) g ∙ ap (due_handler b (n + 1) l) h

same-left : (a b : Bool) (m n k l : ℕ) (xs ys : List AtLine) → a ≡ b → m ≡ n → k ≡ l → xs ≡ ys → left_after a (m + 1) k xs ≡ left_after b (n + 1) l ys
same-left a b m n k l xs ys e f g h =
    ap (λ z. left_after z (m + 1) k xs) e ∙ ap (λ z. left_after b (z + 1) k xs) f ∙ ap (λ z. left_after b (n + 1) z xs) g ∙ ap (left_after b (n + 1) l) h

-- what is due here
pub due-is : (p : Position) (log : Log) (s : Standing) → Reaches p log s → due_in s ≡ due_of (steps_in log + 1) (level_in p.running) p.plan
due-is p log s r = same-due s.ended p.plan.ended s.steps (steps_in log) (level_of s.running) (level_in p.running) s.left p.plan.left r.ended (steps-are p log s r) (level-is p log s r) r.left

left-is : (p : Position) (log : Log) (s : Standing) → Reaches p log s → left_in s ≡ left_after p.plan.ended (steps_in log + 1) (level_in p.running) p.plan.left
left-is p log s r = same-left s.ended p.plan.ended s.steps (steps_in log) (level_of s.running) (level_in p.running) s.left p.plan.left r.ended (steps-are p log s r) (level-is p log s r) r.left

-- one more entry
one-more : (names : List (List ℕ)) (log : Log) (l : ℕ) (e : Entry) (o : Option Standing) (s t : Standing) → standing_after names log o ≡ Some s → standing_after names ((l, e) ∷ []) (Some s) ≡ Some t → standing_after names (log ++ (l, e) ∷ []) o ≡ Some t
one-more names log l e o s t h k = after-append names log ((l, e) ∷ []) o ∙ ap (standing_after names ((l, e) ∷ [])) h ∙ k

-- ---- entry by entry

pub at-outset : (names : List (List ℕ)) (lines : List AtLine) → StandsAt (outset names lines) []
at-outset names lines = record { standing = at_first lines; reaches = record { stands = refl; running = refl; left = refl; ended = refl }; no_return = refl }

pub asks-none : (p : Position) (log : Log) → AboutTo p log → due_of (steps_in log + 1) (level_in p.running) p.plan ≡ None → AskedAt p log
asks-none p log a d = record { standing = a.standing; reaches = a.reaches; none_due = due-is p log a.standing a.reaches ∙ d }

pub asked-none : (p : Position) (log : Log) → AskedAt p log → AboutTo p log × (due_of (steps_in log + 1) (level_in p.running) p.plan ≡ None)
asked-none p log a = (record { standing = a.standing; reaches = a.reaches }, sym (due-is p log a.standing a.reaches) ∙ a.none_due)

pub begins-here : (p : Position) (log : Log) (line : AtLine) (name : List ℕ) → AboutTo p log → due_of (steps_in log + 1) (level_in p.running) p.plan ≡ Some line → slice_get p.names line.script.0 ≡ Some name → StandsAt (within (told_of line) (plan_after (steps_in log + 1) (level_in p.running) p.plan) p) (log ++ (line.level, entry.Handler name) ∷ [])
begins-here p log line name a d n =
    let s : Standing = a.standing in
    let t : Standing = record s { running = line ∷ s.running; left = left_in s; resumes = false } in
    let here : standing_after p.names ((line.level, entry.Handler name) ∷ []) (Some s) ≡ Some t = (begins-entry p.names line.level name s t).1 (line, due-is p log s a.reaches ∙ d, refl, n, refl) in
    record {
      standing = t;
      reaches = record {
        stands = one-more p.names log line.level (entry.Handler name) (Some (at_first p.lines)) s t a.reaches.stands here;
        running = ap (λ (z : List Due). told_of line ∷ z) a.reaches.running;
        left = left-is p log s a.reaches;
        ended = a.reaches.ended;
      };
      no_return = refl;
    }

pub steps-here : (p : Position) (log : Log) (e : Entry) → kind_of e ≡ Steps → AskedAt p log → StandsAt p (log ++ (level_in p.running, e) ∷ [])
steps-here p log e k a =
    let s : Standing = a.standing in
    let t : Standing = record s { steps = s.steps + 1; resumes = false } in
    let here : standing_after p.names ((level_in p.running, e) ∷ []) (Some s) ≡ Some t = (steps-entry p.names (level_in p.running) e s t k).1 (sym (level-is p log s a.reaches), a.none_due, refl) in
    record {
      standing = t;
      reaches = record {
        stands = one-more p.names log (level_in p.running) e (Some (at_first p.lines)) s t a.reaches.stands here;
        running = a.reaches.running;
        left = a.reaches.left;
        ended = a.reaches.ended;
      };
      no_return = refl;
    }

pub stays-here : (p : Position) (log : Log) (e : Entry) → kind_of e ≡ Stays → StandsAt p log → StandsAt p (log ++ (level_in p.running, e) ∷ [])
stays-here p log e k a =
    let s : Standing = a.standing in
    let here : standing_after p.names ((level_in p.running, e) ∷ []) (Some s) ≡ Some s = (stays-entry p.names (level_in p.running) e s s k).1 (sym (level-is p log s a.reaches), a.no_return, refl) in
    record {
      standing = s;
      reaches = record {
        stands = one-more p.names log (level_in p.running) e (Some (at_first p.lines)) s s a.reaches.stands here;
        running = a.reaches.running;
        left = a.reaches.left;
        ended = a.reaches.ended;
      };
      no_return = a.no_return;
    }

-- the innermost handler
record Innermost (xs : List AtLine) (due : Due) (dues : List Due) : Type 0 where
  pub line : AtLine
  pub lines : List AtLine
  pub all : xs ≡ line ∷ lines
  pub told : told_of line ≡ due
  pub others : map told_of lines ≡ dues

innermost : (xs : List AtLine) (due : Due) (dues : List Due) → map told_of xs ≡ due ∷ dues → Innermost xs due dues
innermost [] due dues e = absurd cc
innermost (line ∷ lines) due dues e = record { line = line; lines = lines; all = refl; told = cc; others = cc }

nobody : (xs : List AtLine) → map told_of xs ≡ [] → xs ≡ []
nobody [] e = refl
nobody (line ∷ lines) e = absurd cc

pub returns-here : (p : Position) (log : Log) (due : Due) (dues : List Due) (name : List ℕ) → p.running ≡ due ∷ dues → slice_get p.names due.script.0 ≡ Some name → StandsAt p log → AboutTo (record p { running = dues }) (log ++ (due.level, entry.Back name) ∷ [])
returns-here p log due dues name h n a =
    let s : Standing = a.standing in
    let i : Innermost s.running due dues = innermost s.running due dues (a.reaches.running ∙ h) in
    let t : Standing = record s { running = i.lines; resumes = true } in
    let here : standing_after p.names ((due.level, entry.Back name) ∷ []) (Some s) ≡ Some t =
    (returns-entry p.names due.level name s t).1 (i.line, i.lines, i.all, sym (ap (λ (z : Due). z.level) i.told), ap (λ (z : Due). slice_get p.names z.script.0) i.told ∙ n, a.no_return, refl) in
    record {
      standing = t;
      reaches = record {
        stands = one-more p.names log due.level (entry.Back name) (Some (at_first p.lines)) s t a.reaches.stands here;
        running = i.others;
        left = a.reaches.left;
        ended = a.reaches.ended;
      };
    }

pub ends-here : (p : Position) (log : Log) → p.running ≡ [] → StandsAt p log → StandsAt (record p { plan = record p.plan { ended = true } }) (log ++ (0, entry.Ended) ∷ [])
ends-here p log h a =
    let s : Standing = a.standing in
    let t : Standing = record s { ended = true } in
    let here : standing_after p.names ((0, entry.Ended) ∷ []) (Some s) ≡ Some t = (ends-entry p.names 0 s t).1 (refl, nobody s.running (a.reaches.running ∙ h), a.no_return, refl) in
    record {
      standing = t;
      reaches = record {
        stands = one-more p.names log 0 entry.Ended (Some (at_first p.lines)) s t a.reaches.stands here;
        running = a.reaches.running;
        left = a.reaches.left;
        ended = refl;
      };
      no_return = a.no_return;
    }

pub whole : (p : Position) (log : Log) → p.running ≡ [] → StandsAt p log → handlers_stand p.names p.lines log ≡ true
whole p log h a =
    ap is_ordinary a.reaches.stands
    ∙ and_from _ _ (ap is_nobody (nobody a.standing.running (a.reaches.running ∙ h))) (not_from_false _ a.no_return)
