-- Several processors that have opened, one after the other, out of one stock. (This project's own: in the kernel
-- bpf_mem_alloc_init fills the caches of one processor after the other.)
use Rattle.std.specs.Prelude.{◌≡◌, ◌≤◌, ◌++◌, ℕ, zero, suc, false, true, List, [], All, None, Some, length, slice_get, vec_capacity}
use Rattle.bm_journal.specs.Recording.{Kept as Recorded}
use Rattle.bm_lang.specs.declared.scenario.Parts.{Parts}
use Rattle.bm_page.specs.Stock.{Stock, stocked_at}
use Rattle.bm_page.specs.UnitState.{UnitState}
use Rattle.bm_law_scenario.specs.Fills.{opening_stock}
use Rattle.bm_law_order.specs.Orders.{Order, by}
use Rattle.bm_cache.specs.Opening.{Fills, Opened, fill_log}
use Rattle.bm_due.specs.Due.{planned_for}
use Rattle.bm_world.specs.LivingState.{LivingState}
use Rattle.bm_world.specs.Told.{IsSideOf}
use Rattle.bm_exec_levels.specs.Ready.{BindsAll}
use Rattle.bm_exec_levels.specs.declared.kept.Kept.{Kept}
use Rattle.bm_exec_levels.specs.declared.program.Program.{Program}
use Rattle.bm_run.specs.Asked.{in_its_turn}
use Rattle.bm_run.specs.Filling.{Filling, IsUnborn, NeverLived, filling, units_in}
use Rattle.bm_run.specs.Opened.{IsOpen}
use Rattle.bm_run.specs.SoFar.{SealedSoFar, SoFar, at_turn}

-- what processor p's caches are filled with: units of the stock that the processors before it have left
abbrev pub filling_of : (classes : List ℕ) (pages p : ℕ) → Filling
filling_of classes pages p = filling classes (opening_stock classes pages p)

-- the openings of the processors below n, in ascending order
abbrev pub openings : (classes : List ℕ) (pages n : ℕ) → Order
openings classes pages zero = []
openings classes pages (suc p) =
    openings classes pages p ++ by p (fill_log (filling_of classes pages p).fills)

-- What processor p keeps once its caches were filled so: no work was asked for, its log has no call, it is in no section and holds no lock, none of the handlers that the
-- scenario plans for it has run, and there is the memory that they need.
pub record IsFilled (s : Parts) (p : ℕ) (fs : Fills) (kept : Kept) : Type 0 where
  pub caches : Opened (λ (k : Recorded). k.told) (λ k. k.counted) p fs kept.caches
  pub settled : kept.settled ≡ 0
  pub calls : kept.calls ≡ 0
  pub inside : kept.inside ≡ false
  pub locked : kept.locked ≡ None
  pub planned : kept.handlers.planned ≡ record { left = planned_for p s; ended = false }
  pub scripts : kept.handlers.scripts ≡ length s.scripts
  pub running : kept.running.items ≡ []
  pub room_running : 3 ≤ vec_capacity kept.running
  pub bound : All (BindsAll s.scripts) kept.tables.items
  pub tables : length kept.tables.items ≡ 3
  pub room_tables : 3 ≤ vec_capacity kept.tables

-- units that never lived, and are out of this stock
pub record AreNew (pool : Stock) (units : List UnitState) : Type 0 where
  pub unlived : All (λ (u : UnitState). NeverLived u.life u.seal) units
  pub out : All (λ (u : UnitState). (stocked_at pool.units u.number).out ≡ true) units

-- processor p keeps caches that were filled in its turn
pub record FilledInTurn (s : Parts) (classes : List ℕ) (pool : Stock) (p : ℕ) (kept : Kept) :
    Type 0 where
  pub filled : IsFilled s p (filling_of classes s.pages p).fills kept
  pub units : AreNew pool (units_in (filling_of classes s.pages p).fills)

-- so does each of these processors, from 0 on, and this stock is what they left
pub record AreFilled (s : Parts) (classes : List ℕ) (kept : List Kept) (pool : Stock) : Type 0 where
  pub each : (p : ℕ) (own : Kept) → slice_get kept p ≡ Some own → FilledInTurn s classes pool p own
  pub stock : pool ≡ opening_stock classes s.pages (length kept)
  pub unborn : IsUnborn pool.units

-- All processors of a program have opened, each with units of the stock that those before it have left, and the world is the side of
-- processor 0. The order of their openings is so far as it is between two turns.
pub record AreOpen (p : Program) (classes : List ℕ) (kept : List Kept) (world : LivingState) :
    Type 0 where
  pub many : length kept ≡ p.scenario.now.processors
  pub each : (i : ℕ) (own : Kept) → slice_get kept i ≡ Some own
      → IsOpen p.scenario.now.processors i p (filling_of classes p.scenario.now.pages i)
      (in_its_turn own (at_turn i world))
  pub side : IsSideOf 0 world.side
  pub so_far : SoFar p.scenario.now.processors p.scenario.now.pages
      (openings classes p.scenario.now.pages p.scenario.now.processors) world
  pub sealed : SealedSoFar (openings classes p.scenario.now.pages p.scenario.now.processors) world
