-- A log and a world, tied since a time when the log was this one and the world that one.
use Rattle.std.specs.Prelude.{◌≡◌, ℕ, List, ◌++◌, Option, None, Some}
use Rattle.bm_journal.specs.declared.entry.Entry.{Entry}
use Rattle.bm_law.specs.Lists.{Log}
use Rattle.bm_law_order.specs.Act.{Act}
use Rattle.bm_law_order.specs.Chunk.{Chunk}
use Rattle.bm_law_order.specs.Orders.{Leads, by}
use Rattle.bm_law_order.specs.Shared.{Shared}
use Rattle.bm_law_order.specs.Story.{AllJudged, Steady, Story, at_level, deeds, lines, plainly}

-- The log has grown by the lines of a story, each chunk of which is judged so, and by these entries of level l; and the world came
-- to be this one by the deeds of the story and by these acts. Where there are none of either, all that was done is recorded.
pub record Tied {W : Type 0} (judge : ℕ → Log → Chunk → Type 0) (does : List Act → W → W → Type 0)
    (since : Log) (start : W) (l : ℕ) (done : List Act) (es : List Entry) (log : Log) (w : W) :
    Type 0 where
  pub story : Story
  pub judged : AllJudged judge since story
  pub log_is : log ≡ since ++ (lines story ++ at_level l es)
  pub done_is : does (deeds story ++ done) start w

-- no chunk is judged by the log before it
abbrev pub whatever : ℕ → Log → Chunk → Type 0
whatever l log c = Unit {0}

-- the same, where the log is recorded
abbrev pub TiedBy :
    {W : Type 0} → (ℕ → Log → Chunk → Type 0) → (List Act → W → W → Type 0) → Log → W → ℕ → List Act
    → List Entry → Option Log → W → Type 0
TiedBy judge does since start l done es None w = Unit {0}
TiedBy judge does since start l done es (Some log) w = Tied judge does since start l done es log w

-- The log has grown by entries of processor p that lead from one state to another, which is steady.
pub record HasLed (p : ℕ) (since : Log) (start : Shared) (log : Log) (now : Shared) : Type 0 where
  pub added : Log
  pub log_is : log ≡ since ++ added
  pub leads : Leads (by p added) (plainly start) (plainly now)
  pub steady : Steady now
