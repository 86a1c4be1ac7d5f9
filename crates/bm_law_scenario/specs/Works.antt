-- Where deferred work stands in a script. (In kernel/bpf/memalloc.c irq_work_raise asks for it, and bpf_mem_refill runs
-- behind the code that asked. That it runs directly after the statement, for the least class first, and once more for each
-- class after a script, is this project's own.)
use Rattle.std.specs.Prelude.{◌≡◌, ℕ, zero, suc, List, [], ◌∷◌, Option, Some, None, find}
use Rattle.bm_law.specs.State.{State}
use Rattle.bm_law_work.specs.Parts.{Part, Nothing, Then}
use Rattle.bm_law_work.specs.WorkPhrases.{Work}

-- the first of these classes whose flag is up
abbrev pub lowest_raised : List ℕ → State ℕ → Option ℕ
lowest_raised classes s = find (λ c. (s.rows c).raised) classes

-- the work of a class whose flag is up, and then the rest
abbrev pub NextWork : Option ℕ → Part → Part
NextWork None rest s part = ⊥
NextWork (Some c) rest s part = Then (Work 0 c) rest s part

-- so many works, each of the lowest class whose flag is up there; behind them no flag is up
abbrev pub WorksBy : List ℕ → ℕ → Part
WorksBy classes zero s part = (lowest_raised classes s ≡ None) × Nothing s part
WorksBy classes (suc n) s part = NextWork (lowest_raised classes s) (WorksBy classes n) s part

-- works until no flag is up
abbrev pub UntilDown : List ℕ → Part
UntilDown classes s part = (n : ℕ) × WorksBy classes n s part

-- the work of each class, whether its flag is up or not
abbrev pub WorkEach : List ℕ → Part
WorkEach [] = Nothing
WorkEach (c ∷ cs) = Then (Work 0 c) (WorkEach cs)

-- behind a script: the work of each class, and then works until no flag is up
abbrev pub WorkBehind : List ℕ → Part
WorkBehind classes = Then (WorkEach classes) (UntilDown classes)
