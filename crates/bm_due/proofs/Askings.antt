-- Code that asks leaves a log in which the handlers stand where they are due.
use Rattle.std.proofs.Common.{◌≡◌, ◌∙◌, ℕ, ◌+◌, ◌<◌, ◌≤◌, Bool, true, false, List, [], ◌∷◌, ◌++◌, Some, None, refl, sym, ap, subst, arith, append_assoc}
use Rattle.bm_journal.specs.declared.entry.Entry.{Entry}
use Rattle.bm_journal.specs.declared.entry.Entry.TheVariants as entry
use Rattle.bm_lang.specs.declared.scenario.AtLine.{AtLine}
use Rattle.bm_law.specs.Lists.{Log}
use Rattle.std.specs.List.{slice_get}
use Rattle.bm_due.specs.Due.{due_handler, left_after}
use Rattle.bm_due.specs.Standing.{due_in, left_in, Steps, Stays, Standing, after_kind, at_first, handlers_stand, is_ordinary, kind_of, level_of, standing_after}
use Rattle.bm_due.specs.Asking.{Asks, Progress, Runs, done, handler, next_due, nothing, once_begun, stays, steps}
use Rattle.bm_law.specs.Spans.{AllFrom}
use Rattle.bm_due.proofs.Selected.{due-above}
use Rattle.bm_due.proofs.Standings.{after-append, begun-is, returned-is, stayed-is, stepped-is}

-- where a processor is that has come so far, while these handlers run
abbrev pub standing : Bool → Bool → List AtLine → Progress → Standing
standing ended resumes running a = record { steps = a.steps; running = running; left = a.left; ended = ended; resumes = resumes }

-- it may resume or not
pub record Reaches (names : List (List ℕ)) (ended : Bool) (l : ℕ) (log : Log) (running : List AtLine) (s : Standing) (b : Progress) : Type 0 where
  pub resumes : Bool
  pub stands : standing_after names log (Some s) ≡ Some (standing ended resumes running b)
  pub none : next_due ended l b ≡ None

-- an entry that is no step, and a step, before others
stay-then : (names : List (List ℕ)) (l : ℕ) (e : Entry) (log : Log) (s : Standing) → kind_of e ≡ Stays → l ≡ level_of s.running → s.resumes ≡ false → standing_after names ((l, e) ∷ log) (Some s) ≡ standing_after names log (Some s)
stay-then names l e log s k h r = ap (λ z. standing_after names log (after_kind names l z s)) k ∙ ap (standing_after names log) (stayed-is l s h r)

step-then : (names : List (List ℕ)) (l : ℕ) (e : Entry) (log : Log) (s : Standing) → kind_of e ≡ Steps → l ≡ level_of s.running → due_in s ≡ None → standing_after names ((l, e) ∷ log) (Some s) ≡ standing_after names log (Some (record s { steps = s.steps + 1; resumes = false }))
step-then names l e log s k h d = ap (λ z. standing_after names log (after_kind names l z s)) k ∙ ap (standing_after names log) (stepped-is l s h d)

begin-then : (names : List (List ℕ)) (line : AtLine) (name : List ℕ) (log : Log) (s : Standing) → due_in s ≡ Some line → slice_get names line.script.0 ≡ Some name → standing_after names ((line.level, entry.Handler name) ∷ log) (Some s) ≡ standing_after names log (Some (record s { running = line ∷ s.running; left = left_in s; resumes = false }))
begin-then names line name log s d h = ap (standing_after names log) (begun-is names line.level name line s refl d h)

return-then : (names : List (List ℕ)) (line : AtLine) (name : List ℕ) (log : Log) (ended : Bool) (running : List AtLine) (b : Progress) → slice_get names line.script.0 ≡ Some name → standing_after names ((line.level, entry.Back name) ∷ log) (Some (standing ended false (line ∷ running) b)) ≡ standing_after names log (Some (standing ended true running b))
return-then names line name log ended running b h = ap (standing_after names log) (returned-is names line.level name line running (standing ended false (line ∷ running) b) refl refl h)

-- the parts of a log, one after the other
append-then : (names : List (List ℕ)) (one two : Log) (s t : Standing) → standing_after names one (Some s) ≡ Some t → standing_after names (one ++ two) (Some s) ≡ standing_after names two (Some t)
append-then names one two s t e = after-append names one two (Some s) ∙ ap (standing_after names two) e

-- what is left is by the level of the code that is interrupted
left-same : (names : List (List ℕ)) (body : Log) (ended : Bool) (line : AtLine) (running : List AtLine) (a : Progress) (l : ℕ) → l ≡ level_of running → standing_after names body (Some (standing ended false (line ∷ running) (record a { left = left_after ended (a.steps + 1) (level_of running) a.left }))) ≡ standing_after names body (Some (standing ended false (line ∷ running) (once_begun ended l a)))
left-same names body ended line running a l h = ap (λ k. standing_after names body (Some (standing ended false (line ∷ running) (record a { left = left_after ended (a.steps + 1) k a.left })))) (sym h)

mutual
  pub runs-stand : {names : List (List ℕ)} {ended : Bool} {l : ℕ} {a : Progress} {log : Log} {b : Progress} → Runs names ended l a log b → (running : List AtLine) → l ≡ level_of running → standing_after names log (Some (standing ended false running a)) ≡ Some (standing ended false running b)
  runs-stand done running h = refl
  runs-stand {names} {ended} {l = l} (stays {a = a} {log = log} e k r) running h = stay-then names l e log (standing ended false running a) k h refl ∙ runs-stand r running h
  runs-stand {names} {ended} {l = l} (steps {a = a} {m = m} {b = b} {handlers = handlers} {log = log} e k q r) running h =
      let u : Reaches names ended l handlers running (standing ended false running a) m = asks-stand q running false h in
      append-then names handlers ((l, e) ∷ log) (standing ended false running a) (standing ended u.resumes running m) u.stands
      ∙ step-then names l e log (standing ended u.resumes running m) k h (subst (λ k. due_handler ended (m.steps + 1) k m.left ≡ None) h u.none)
      ∙ runs-stand r running h

  pub asks-stand : {names : List (List ℕ)} {ended : Bool} {l : ℕ} {a : Progress} {log : Log} {b : Progress} → Asks names ended l a log b → (running : List AtLine) (resumes : Bool) → l ≡ level_of running → Reaches names ended l log running (standing ended resumes running a) b
  asks-stand (nothing d) running resumes h = record { resumes = resumes; stands = refl; none = d }
  asks-stand {names} {ended} {l = l} (handler {a = a} {m = m} {b = b} {body = body} {more = more} line name d n r q) running resumes h =
      let v : Reaches names ended l more running (standing ended true running m) b = asks-stand q running true h in
      let e : due_handler ended (a.steps + 1) (level_of running) a.left ≡ Some line = subst (λ k. due_handler ended (a.steps + 1) k a.left ≡ Some line) h d in
      record {
        resumes = v.resumes;
        stands =
            append-then names ((line.level, entry.Handler name) ∷ body) ((line.level, entry.Back name) ∷ more) (standing ended resumes running a) (standing ended false (line ∷ running) m)
            (begin-then names line name body (standing ended resumes running a) e n ∙ left-same names body ended line running a l h ∙ runs-stand r (line ∷ running) refl)
            ∙ return-then names line name more ended running m n
            ∙ v.stands;
        none = v.none;
      }

pub runs-ordinary : (names : List (List ℕ)) (lines : List AtLine) (log : Log) (a : Progress) → Runs names false 0 (record { steps = 0; left = lines }) log a → handlers_stand names lines log ≡ true
runs-ordinary names lines log a r = ap is_ordinary (runs-stand r [] refl)

pub ends-ordinary : (names : List (List ℕ)) (lines : List AtLine) (log closing : Log) (a b : Progress) → Runs names false 0 (record { steps = 0; left = lines }) log a → Runs names true 0 a closing b → handlers_stand names lines (log ++ (0, entry.Ended) ∷ closing) ≡ true
ends-ordinary names lines log closing a b r q =
    ap is_ordinary
    (append-then names log ((0, entry.Ended) ∷ closing) (at_first lines) (standing false false [] a) (runs-stand r [] refl)
    ∙ runs-stand q [] refl)

-- ---- stretches, and their levels

-- what follows a stretch
pub runs-join : {names : List (List ℕ)} {ended : Bool} {l : ℕ} {a : Progress} {one : Log} {b : Progress} → Runs names ended l a one b → (two : Log) (c : Progress) → Runs names ended l b two c → Runs names ended l a (one ++ two) c
runs-join done two c q = q
runs-join (stays e k r) two c q = stays e k (runs-join r two c q)
runs-join (steps e k h r) two c q = rw append_assoc (steps e k h (runs-join r two c q))

from-append : (l : ℕ) (one two : Log) → AllFrom l one → AllFrom l two → AllFrom l (one ++ two)
from-append l [] two f g = g
from-append l (e ∷ es) two f g = (f.0, from-append l es two f.1 g)

from-less : (k l : ℕ) (log : Log) → k ≤ l → AllFrom l log → AllFrom k log
from-less k l [] h f = tt
from-less k l (e ∷ es) h f = (let u : l ≤ e.0 = f.0 in omega arith, from-less k l es h f.1)

mutual
  pub runs-from : {names : List (List ℕ)} {ended : Bool} {l : ℕ} {a : Progress} {log : Log} {b : Progress} → Runs names ended l a log b → AllFrom l log
  runs-from done = tt
  runs-from (stays e k r) = (omega arith, runs-from r)
  runs-from {l = l} (steps {handlers = handlers} {log = log} e k h r) = from-append l handlers ((l, e) ∷ log) (from-less l (l + 1) handlers (omega arith) (asks-above h)) (omega arith, runs-from r)

  pub asks-above : {names : List (List ℕ)} {ended : Bool} {l : ℕ} {a : Progress} {log : Log} {b : Progress} → Asks names ended l a log b → AllFrom (l + 1) log
  asks-above (nothing d) = tt
  asks-above {ended = ended} {l = l} (handler {a = a} {body = body} {more = more} line name d n r q) =
      let up : l < line.level = due-above ended (a.steps + 1) l a.left line d in
      from-append (l + 1) ((line.level, entry.Handler name) ∷ body) ((line.level, entry.Back name) ∷ more)
      (omega arith, from-less (l + 1) line.level body (omega arith) (runs-from r))
      (omega arith, asks-above q)
