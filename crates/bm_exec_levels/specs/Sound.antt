-- What ordinary code needs and leaves of its processor.
use Rattle.std.specs.Prelude.{◌≡◌, ◌≤◌, ◌+◌, ◌*◌, ℕ, false, length}
use Rattle.bm_journal.specs.declared.ids.Domain.{Domain}
use Rattle.bm_grace.specs.Known.{side}
use Rattle.bm_law.specs.Lists.{is_unstamped}
use Rattle.bm_cache.specs.Shown.{shown}
use Rattle.bm_work.specs.Dated.{Dated}
use Rattle.bm_plan.specs.Position.{StandsAt}
use Rattle.bm_exec_levels.specs.AtProcessor.{FineAt, IsAt, tests_of}
use Rattle.bm_exec_levels.specs.Ready.{known_of, left_of}
use Rattle.bm_exec_levels.specs.declared.processor.Processor.{Processor}
use Rattle.bm_exec_levels.specs.declared.program.Program.{Program}
use Rattle.bm_grace.specs.declared.grace.Knows.{Ghosts as Knows}

module _ {W : Type 0} (knows : Knows W) where
  -- Ordinary code runs on it, and is there in its log. A call of level 0 may begin on its caches, each batch that has a stamp is
  -- of units that have been the side's since then, and each plain batch has its stamp. For each time that it may still be asked
  -- for works, 24 periods of either domain may begin, and 12 more for each handler that hasn't run: a work begins at most one, at
  -- most eleven classes have one behind a script, and as many again and one more are done, and so many for each handler that runs
  -- meanwhile.
  pub record Sound (p : Program) (m : Processor W) : Type 0 where
    pub at : IsAt knows StandsAt 0 p m
    pub fine : FineAt knows 0 m
    pub dated : Dated (tests_of knows m) (shown m.caches)
    pub stamped : (c : ℕ) → is_unstamped ((shown m.caches).rows c).deferred.plain ≡ false
    pub begins :
        (d : Domain)
        → 24 * 4194304 + 12 * length (left_of m)
        ≤ (side d (known_of knows m)).begins + 24 * m.settled
