-- Which names the statements of a block bind.
use Rattle.std.specs.Prelude.{ℕ, Bool, true, ◌&&◌, List, Option, Some, None}
use Rattle.bm_lang.specs.declared.scenario.Action.{Action, New, Drop, Acquire, Get, Exchange, If', Repeat, Section, Lock, Unlock, Yield, PushFront, PushBack, PopFront, PopBack, Add, First, Remove, Held-Action-If-2, None', Some'}
use Rattle.bm_lang.specs.declared.scenario.Block.{Block, Block', Row_of-Statement, end_of-Statement, more_of-Statement}

-- the name that a statement binds by itself
abbrev pub bound_by : Action → Option (List ℕ)
bound_by (New x t values) = Some x
bound_by (Acquire y x) = Some y
bound_by (Exchange y slot x) = Some y
bound_by (PopFront x list) = Some x
bound_by (PopBack x list) = Some x
bound_by (First x tree) = Some x
bound_by (Remove y tree x) = Some y
bound_by (Drop x) = None
bound_by (Get x field) = None
bound_by (If' x body otherwise) = None
bound_by (Repeat n body) = None
bound_by (Section body) = None
bound_by (Lock graph) = None
bound_by Unlock = None
bound_by Yield = None
bound_by (PushFront list x) = None
bound_by (PushBack list x) = None
bound_by (Add tree x) = None

-- a name passes the test, if there is one
abbrev pub passes : (List ℕ → Bool) → Option (List ℕ) → Bool
passes p None = true
passes p (Some x) = p x

-- each name that a statement binds passes the test, and each that one in its blocks binds; and so it is said of a block
abbrev mutual
  pub binds_by : (List ℕ → Bool) → Action → Bool
  binds_by p (If' x body otherwise) = binds_among p body && binds_else p otherwise
  binds_by p (Repeat n body) = binds_among p body
  binds_by p (Section body) = binds_among p body
  binds_by p a = passes p (bound_by a)

  pub binds_else : (List ℕ → Bool) → Held-Action-If-2 → Bool
  binds_else p None' = true
  binds_else p (Some' body) = binds_among p body

  pub binds_among : (List ℕ → Bool) → Block → Bool
  binds_among p (Block' shape row end_line) = binds_in p row

  pub binds_in : (List ℕ → Bool) → {m : _} → Row_of-Statement m → Bool
  binds_in p end_of-Statement = true
  binds_in p (more_of-Statement line action rest) = binds_by p action && binds_in p rest
