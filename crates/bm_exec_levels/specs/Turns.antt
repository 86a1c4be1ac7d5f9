-- How code goes on behind one more entry of its log.
use Rattle.std.specs.Prelude.{◌≡◌, ℕ, true, List, [], ◌∷◌, ◌++◌, Option, Some, None, IfSome}
use Rattle.std.proofs.Common.{cond, refl, sym, ap, ◌∙◌, subst, arith}
use Rattle.bm_journal.specs.declared.entry.Entry.{Entry}
use Rattle.bm_journal.specs.declared.entry.Entry.TheVariants as entry
use Rattle.bm_journal.specs.Recording.{Appends}
use Rattle.bm_lang.specs.declared.scenario.Parts.{Parts}
use Rattle.bm_law.specs.Lists.{Log}
use Rattle.bm_law.specs.Phrases.{given}
use Rattle.bm_cache.specs.Steps.{is_free, is_reply, is_step}
use Rattle.bm_due.specs.Plan.{Plan}
use Rattle.bm_due.specs.Standing.{Kind, Begins, Returns, Ends, Steps, Stays, kind_of}
use Rattle.bm_due.specs.declared.planned.Due.{Due}
use Rattle.bm_due.proofs.Counting.{finish-stays, steps_of}
use Rattle.bm_plan.proofs.Numbers.{step-kind}
use Rattle.bm_plan.specs.Position.{AskedAt, Position, StandsAt, level_in}
use Rattle.bm_plan.proofs.Positions.{steps-here, stays-here}
use Rattle.bm_exec_levels.specs.Here.{Asked, Running, Stands, position_of}

-- what is told of a log is told of it with one more entry
pub told-more :
    (P Q : Log → Type 0) (before now : Option Log) (l : ℕ) (e : Entry)
    → ((es : Log) → P es → Q (es ++ (l, e) ∷ [])) → Appends before l e now → IfSome before P
    → IfSome now Q
told-more P Q before None l e f a h = tt
told-more P Q before (Some es) l e f a h =
    let was : P a.log = (let F : Option Log → Type 0 = λ o. IfSome o P in subst F a.told h) in
    let F : Log → Type 0 = λ x. Q x in
    subst F (sym a.more) (f a.log was)

-- an entry that is a step, or none
steps-only : (k : Kind) → steps_of k ≡ 1 → k ≡ Steps
steps-only Steps h = refl
steps-only (Begins name) h = absurd (omega (arith, h))
steps-only (Returns name) h = absurd (omega (arith, h))
steps-only Ends h = absurd (omega (arith, h))
steps-only Stays h = absurd (omega (arith, h))

pub a-step : (e : Entry) → is_step e ≡ true → kind_of e ≡ Steps
a-step e h = steps-only (kind_of e) (step-kind e ∙ ap (λ b. cond b 1 0) h)

pub a-reply : (e : Entry) → is_reply e ≡ true → kind_of e ≡ Stays
a-reply entry.Empty h = refl
a-reply (entry.Busy a) h = refl
a-reply (entry.Work c) h = refl
a-reply (entry.Begin d n) h = refl
a-reply (entry.Finish p) h = finish-stays p
a-reply e h = cc

pub a-given : (u life : ℕ) (seal : Option (ℕ × ℕ)) → kind_of (given u life seal) ≡ Stays
a-given u life None = refl
a-given u life (Some seal) = refl

pub a-free : (u home : ℕ) (e : Entry) → is_free u home e ≡ true → kind_of e ≡ Stays
a-free u home (entry.Free v to) h = refl
a-free u home (entry.Delay v to) h = refl
a-free u home e h = cc

-- a step that was asked for
pub stands-step :
    (l p : ℕ) (s : Parts) (plan : Plan) (running : List Due) (before now : Option Log) (e : Entry)
    → is_step e ≡ true → Appends before l e now → Asked l p s plan running before
    → Stands l p s plan running now
stands-step l p s plan running before now e i a k =
    let x : Position = position_of p s plan running in
    let F : ℕ → Type 0 = λ n. Appends before n e now in
    record {
      at =
          told-more (AskedAt x) (StandsAt x) before now (level_in x.running) e
          (λ es h. steps-here x es e (a-step e i) h) (subst F (sym k.level) a) k.at;
      level = k.level;
      deep = k.deep;
    }

-- an entry that is no step
pub stands-say :
    (l p : ℕ) (s : Parts) (plan : Plan) (running : List Due) (before now : Option Log) (e : Entry)
    → kind_of e ≡ Stays → Appends before l e now → Stands l p s plan running before
    → Stands l p s plan running now
stands-say l p s plan running before now e i a k =
    let x : Position = position_of p s plan running in
    let F : ℕ → Type 0 = λ n. Appends before n e now in
    record {
      at =
          told-more (StandsAt x) (StandsAt x) before now (level_in x.running) e
          (λ es h. stays-here x es e i h) (subst F (sym k.level) a) k.at;
      level = k.level;
      deep = k.deep;
    }

-- the log is as it was
pub running-same :
    (P : Position → Log → Type 0) (l p : ℕ) (s : Parts) (plan : Plan) (running : List Due)
    (before now : Option Log) → now ≡ before → Running P l p s plan running before
    → Running P l p s plan running now
running-same P l p s plan running before now e k =
    (let F : Option Log → Type 0 = λ o. Running P l p s plan running o in subst F (sym e) k)
