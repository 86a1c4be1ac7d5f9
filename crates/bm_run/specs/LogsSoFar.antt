-- What is so of the logs of a run while its order is made. (This project's own: the order and the logs are.)
use Rattle.std.specs.Prelude.{◌≡◌, ◌≢◌, ◌<◌, ◌++◌, ℕ, List, [], ◌∷◌, get_or, length, set}
use Rattle.bm_law.specs.Lists.{Log}
use Rattle.bm_law.specs.State.{State, opening, seen}
use Rattle.bm_law.specs.Lists.{after}
use Rattle.bm_cache.specs.Tokens.{Token, number_of}
use Rattle.bm_law_laid.specs.OrderOf.{IsOrderOf}
use Rattle.bm_law_order.specs.Orders.{AllFit, Order, by}
use Rattle.bm_law_order.specs.Seals.{nobody_waits, waiting_after}
use Rattle.bm_law_places.specs.World.{AllFound, outset}
use Rattle.bm_law_seals.specs.Answered.{AreAnswered}
use Rattle.bm_law_seals.specs.Batches.{BatchFits}
use Rattle.bm_world.specs.LivingState.{LivingState}
use Rattle.bm_world.specs.Told.{IsSideOf}
use Rattle.bm_run.specs.LeftAlone.{IsLeftAlone, IsUnswept}
use Rattle.bm_run.specs.SoFar.{SealedSoFar, SoFar, at_turn}

-- No drop of a stretch is left without its answers, whatever comes after it.
abbrev pub AnswersAll : Log → Type 0
AnswersAll log = (rest : Log) → AreAnswered rest → AreAnswered (log ++ rest)

-- These are the logs of so many processors so far, and this is their order, which leads to this world, the side of one of them: each
-- entry finds what it needs there and in the lists and hands of its processor; and no drop of a log is without its answers.
pub record LogsSoFar (processors pages : ℕ) (order : Order) (logs : List Log)
    (world : LivingState) : Type 0 where
  pub many : length logs ≡ processors
  pub order_of : IsOrderOf logs order
  pub so_far : SoFar processors pages order world
  pub found : AllFound order (outset processors pages)
  pub answers : (p : ℕ) → AnswersAll (get_or logs p [])
  pub turn : ℕ
  pub side : IsSideOf turn world.side

-- no entry of an order sweeps
abbrev pub OrderUnswept : Order → Type 0
OrderUnswept [] = Unit {0}
OrderUnswept (e ∷ o) = IsUnswept e.entry × OrderUnswept o

-- Before the closing: units wait for what the world tells and were given with what they had waited for, batches went away as they
-- have to, and nothing was swept.
pub record WaitsSoFar (order : Order) (world : LivingState) : Type 0 where
  pub sealed : SealedSoFar order world
  pub batches : AllFit waiting_after BatchFits order nobody_waits
  pub unswept : OrderUnswept order

-- A stretch of one processor's log was added, by which the world came to be another one: so it is with its entries, and each other
-- processor was left alone, whose lists these are.
pub record Stretched (processors pages p : ℕ) (order : Order) (logs : List Log) (added : Log)
    (world now : LivingState) : Type 0 where
  pub so_far :
      LogsSoFar processors pages (order ++ by p added) (set logs p (get_or logs p [] ++ added)) now
  pub alone :
      (q : ℕ) → q < processors → q ≢ p → (lists : State Token)
      → seen number_of lists ≡ after (opening q) (get_or logs q [])
      → IsLeftAlone lists (at_turn q world) (at_turn q now)
