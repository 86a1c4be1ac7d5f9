-- When a poll has nothing to do. (This project's own.)
use Rattle.std.specs.Prelude.{◌≡◌, ◌⊎◌, ◌<◌, ◌≤◌, ℕ, ◌+◌, ◌%◌, IfSome, Option, Some, List, [], ◌∷◌, ◌++◌, length}
use Rattle.bm_journal.specs.declared.ids.Domain.{Domain}
use Rattle.bm_journal.specs.declared.ids.Domain.TheVariants.{Plain}
use Rattle.bm_journal.specs.declared.period.Period.{Period}
use Rattle.bm_journal.specs.declared.entry.Entry.{Entry}
use Rattle.bm_journal.specs.declared.entry.Entry.TheVariants as entry
use Rattle.bm_law.specs.State.{opening}
use Rattle.bm_law.specs.Lists.{Log, after, stamp_of}
use Rattle.bm_law.specs.Spans.{AllFrom}
use Rattle.bm_law_order.specs.Act.{Act}
use Rattle.bm_law_order.specs.Act as act
use Rattle.bm_cache.specs.Shown.{shown}
use Rattle.bm_cache.specs.declared.caches.Caches.{Caches}
use Rattle.bm_grace.specs.Answers.{ArePassed}
use Rattle.bm_grace.specs.Known.{Known, side}

-- a look found a word that doesn't pass
abbrev pub Fails : List ℕ → List ℕ → Type 0
Fails first later = ¬ ArePassed (length later) first later

-- the words of a period were looked at in vain, and it goes on; or it ended then
abbrev pub LooksOrEnds :
    {H : Type 0} → (H → Known) → (List Act → List Entry → H → Type 0) → Domain → List Act
    → List Entry → H → Type 0
LooksOrEnds known owes d done es h =
    (owes (done ++ act.Looks d (side d (known h)).later ∷ []) es h
    × Fails (side d (known h)).first (side d (known h)).later)
    ⊎ ((ws : List ℕ) × (p : Period) × (p.domain ≡ d) × ((side d (known h)).number ≡ 0)
    × owes ((done ++ act.Looks d ws ∷ []) ++ act.Finishes p ∷ []) (es ++ entry.Finish p ∷ []) h)

-- a number that a poll for a stamp begins no period at
abbrev pub IsIdle : ℕ → ℕ → Type 0
IsIdle x n = (n % 2 ≡ 1) ⊎ (x ≤ n)

-- Where polls have to be for a batch, they are for the one of this class, or of some class, that waits for this stamp.
abbrev pub PollsFor : {R : Type 0} → Type 0 → ℕ → Domain → ℕ → Caches R → Type 0
PollsFor minds i d x c = minds → stamp_of d ((shown c).rows i).deferred ≡ Some x

abbrev pub PollsForSome : {R : Type 0} → Type 0 → Domain → ℕ → Caches R → Type 0
PollsForSome minds d x c = minds → (i : ℕ) × (stamp_of d ((shown c).rows i).deferred ≡ Some x)

-- The caches are those of one of so many processors, and by the lists that its log leaves the batch of this class has this stamp.
pub record HasStamp {R : Type 0} (log : R → Option Log) (processors i : ℕ) (d : Domain) (x : ℕ)
    (c : Caches R) : Type 0 where
  pub processor : c.processor < processors
  pub told :
      IfSome (log c.recorder)
      (λ es. stamp_of d ((after (opening c.processor) es).rows i).deferred ≡ Some x)

-- ---- a batch that goes away

-- The last entry of level l in a log is this one: after it only entries of higher levels come.
pub record EndsWith (l : ℕ) (e : Entry) (log : Log) : Type 0 where
  pub front : Log
  pub rest : Log
  pub above : AllFrom (l + 1) rest
  pub log_is : log ≡ front ++ (l, e) ∷ rest

-- the same of the log of caches, where it is told
abbrev pub LastIs : {R : Type 0} → (R → Option Log) → ℕ → Entry → Caches R → Type 0
LastIs log l e c = IfSome (log c.recorder) (EndsWith l e)

-- By the log of processor p a batch of the first stage goes away from level l with this stamp and this number: nothing is in hand, the
-- batch has taken the stamp, and the last entry of the level is the pass of the class that saw the number.
pub record GoesFrom (p l i stamp seen : ℕ) (log : Log) : Type 0 where
  pub hand : ((after (opening p) log).sides l).hand ≡ []
  pub stamped : ((after (opening p) log).rows i).deferred.plain ≡ Some stamp
  pub taken : 0 < stamp
  pub passed : EndsWith l (entry.Pass i Plain seen) log

-- So it is by the log of these caches, which are those of one of so many processors.
pub record MayGo {R : Type 0} (log : R → Option Log) (processors l i stamp seen : ℕ)
    (c : Caches R) : Type 0 where
  pub processor : c.processor < processors
  pub told : IfSome (log c.recorder) (GoesFrom c.processor l i stamp seen)
