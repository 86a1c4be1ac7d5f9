-- What the log of one processor tells of locks and of the closing, while no other processor holds a lock. (This project's own: journals and
-- turns are. Whoever gets a turn holds no lock, and no turn ends under one.)
use Rattle.std.specs.Prelude.{◌≡◌, ℕ, true, if◌then◌else◌, Option, Some, None, List}
use Rattle.std.specs.Str.{bytes_eq}
use Rattle.bm_law.specs.Lists.{Log}
use Rattle.bm_law_order.specs.Calls.{closes, lock_in}
use Rattle.bm_law_graphs.specs.Shelves.{Shelves}

-- who holds the lock of a list or tree, where a log of processor p holds this one or none, and nobody else holds any
abbrev pub held_by : (p : ℕ) → Option (List ℕ) → (name : List ℕ) → Option ℕ
held_by p None name = None
held_by p (Some graph) name = if bytes_eq graph name then Some p else None

-- What shelves tell of locks is what the log of processor p holds, and no other processor holds any; and where its log begins the closing, as
-- processor 0's, they tell so.
pub record LocksTold (p : ℕ) (log : Log) (s : Shelves) : Type 0 where
  pub holders : (name : List ℕ) → s.holders name ≡ held_by p (lock_in log) name
  pub closing : p ≡ 0 → closes log ≡ true → s.closing ≡ true
