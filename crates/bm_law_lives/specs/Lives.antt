-- The lives of units. A life begins where its unit is given. Without reference counts it ends by its one drop, which is
-- answered `last`; behind that stands the unit's free, plain or delayed. The unit's home is the processor that gave this life.
-- (bpf_mem_cache_alloc, bpf_mem_cache_free and bpf_mem_cache_free_rcu in kernel/bpf/memalloc.c: unit_alloc writes its cache in
-- front of the object, and unit_free and unit_free_rcu take it from there as the target. That lives are counted is this
-- project's own.)
use Rattle.std.specs.Prelude.{◌≡◌, ◌≤◌, ℕ, ◌+◌, ◌==◌, Bool, false, true, ◌&&◌, if◌then◌else◌, List, [], ◌∷◌, ◌++◌, length, replicate}
use Rattle.bm_journal.specs.declared.entry.Entry.{Entry}
use Rattle.bm_journal.specs.declared.entry.Entry.TheVariants as entry
use Rattle.bm_law.specs.Lists.{Log}
use Rattle.bm_law.specs.Spans.{own_entries}
use Rattle.bm_law_lives.specs.Together.{times, beside, EachBelow, AreOnce, named_in, named, EachLog}

-- ---- lives that begin

-- the unit and the life that an entry gives
abbrev pub given_object : Entry → List (ℕ × ℕ)
given_object (entry.Given u life) = (u, life) ∷ []
given_object (entry.GivenAfter u life stamp seen) = (u, life) ∷ []
given_object _ = []

-- the lives of a unit that the logs give
abbrev pub lives_given : ℕ → List Log → List ℕ
lives_given u logs = beside u (named given_object logs)

-- the processors whose logs give this life of a unit, each as often as it does, where the first log is that of processor p
abbrev pub givers_from : ℕ → ℕ → ℕ → List Log → List ℕ
givers_from p u life [] = []
givers_from p u life (log ∷ logs) =
    replicate (times life (beside u (named_in given_object log))) p
    ++ givers_from (p + 1) u life logs

abbrev pub givers : ℕ → ℕ → List Log → List ℕ
givers u life logs = givers_from 0 u life logs

-- ---- lives that end

abbrev pub is_last : Entry → Bool
is_last entry.Last = true
is_last _ = false

-- a free of this unit begins, plain or delayed
abbrev pub is_free_of : ℕ → Entry → Bool
is_free_of u (entry.Free v home) = u == v
is_free_of u (entry.Delay v home) = u == v
is_free_of u _ = false

-- behind a drop of this unit its level has the reply `last` and the unit's free
abbrev pub ends_life : ℕ → List Entry → Bool
ends_life u (reply ∷ free ∷ own) = is_last reply && is_free_of u free
ends_life u _ = false

-- the unit and the life that an entry drops, where what its level has behind it ends the life
abbrev pub ended_object : Entry → List Entry → List (ℕ × ℕ)
ended_object (entry.Drop u life) own = if ends_life u own then (u, life) ∷ [] else []
ended_object _ own = []

abbrev pub objects_ended : Log → List (ℕ × ℕ)
objects_ended [] = []
objects_ended (e ∷ es) = ended_object e.1 (own_entries e.0 es) ++ objects_ended es

-- the same of all logs, and the lives of a unit that end in them
abbrev pub all_ended : List Log → List (ℕ × ℕ)
all_ended [] = []
all_ended (log ∷ logs) = objects_ended log ++ all_ended logs

abbrev pub lives_ended : ℕ → List Log → List ℕ
lives_ended u logs = beside u (all_ended logs)

-- ---- homes

-- the free of this unit begins, and the home that it names is the one processor that gave the life
abbrev pub NamesHome : ℕ → List ℕ → Entry → Type 0
NamesHome u homes (entry.Free v home) = (v ≡ u) × (homes ≡ home ∷ [])
NamesHome u homes (entry.Delay v home) = (v ≡ u) × (homes ≡ home ∷ [])
NamesHome u homes _ = ⊥

-- What the level has behind the reply `last` is nothing yet, or begins so.
abbrev pub FreeFits : ℕ → List ℕ → List Entry → Type 0
FreeFits u homes [] = Unit {0}
FreeFits u homes (free ∷ own) = NamesHome u homes free

abbrev pub ReplyFits : ℕ → List ℕ → Entry → List Entry → Type 0
ReplyFits u homes entry.Last own = FreeFits u homes own
ReplyFits u homes _ own = Unit {0}

-- the same of what the level has behind the drop
abbrev pub RestFits : ℕ → List ℕ → List Entry → Type 0
RestFits u homes [] = Unit {0}
RestFits u homes (reply ∷ own) = ReplyFits u homes reply own

abbrev pub DropFits : List Log → Entry → List Entry → Type 0
DropFits logs (entry.Drop u life) own = RestFits u (givers u life logs) own
DropFits logs _ own = Unit {0}

-- each drop of a log
abbrev pub DropsFit : List Log → Log → Type 0
DropsFit logs [] = Unit {0}
DropsFit logs (e ∷ es) = DropFits logs e.1 (own_entries e.0 es) × DropsFit logs es

-- ---- the law

-- At any time the lives of a unit that were given are 1, 2, .., each once; each of them has ended once at most; and each
-- free goes to the home.
pub record LivesLaw (logs : List Log) : Type 0 where
  pub given : (u : ℕ) → AreOnce (λ k. k + 1) (lives_given u logs)
  pub ended :
      (u : ℕ)
      → EachBelow (length (lives_given u logs)) (λ k. times (k + 1) (lives_ended u logs) ≤ 1)
  pub homes : EachLog (λ p log. DropsFit logs log) logs

-- Where the journal is whole, each life that was given has ended.
pub record WholeLives (logs : List Log) : Type 0 where
  pub law : LivesLaw logs
  pub each_ended : (u : ℕ) → length (lives_ended u logs) ≡ length (lives_given u logs)
