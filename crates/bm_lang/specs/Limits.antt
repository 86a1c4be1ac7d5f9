-- The limits of a scenario, and the first that is exceeded. They are this project's own.
use Rattle.std.specs.Prelude.{ℕ, zero, suc, ◌+◌, ◌*◌, max, Bool, false, ◌==◌, ◌||◌, List, length, nat_lt, if◌then◌else◌, Option, Some, None, slice_get, sum_by, codes}
use Rattle.std.specs.List.{list_any}
use Rattle.bm_lang.specs.declared.bounds.Limit.{Limit}
use Rattle.bm_lang.specs.declared.bounds.Limit.TheVariants as limit
use Rattle.bm_lang.specs.declared.scenario.Action.{Action, New, Drop, Acquire, Get, Exchange, If', Repeat, Section, Lock, Unlock, Yield, PushFront, PushBack, PopFront, PopBack, Add, First, Remove, Held-Action-If-2, None', Some'}
use Rattle.bm_lang.specs.declared.scenario.Block.{Block, Block', Row_of-Statement, end_of-Statement, more_of-Statement}
use Rattle.bm_lang.specs.declared.scenario.Parts.{Parts}
use Rattle.bm_lang.specs.declared.scenario.Script.{Script}

-- the word for a limit
abbrev pub limit_text : Limit → List ℕ
limit_text limit.Input = codes "input"
limit_text limit.Processors = codes "processors"
limit_text limit.Pages = codes "pages"
limit_text limit.Types = codes "types"
limit_text limit.Fields = codes "fields"
limit_text limit.Maps = codes "maps"
limit_text limit.Scripts = codes "scripts"
limit_text limit.Handlers = codes "handlers"
limit_text limit.Turns = codes "turns"
limit_text limit.Statements = codes "statements"

-- How many statements run at most: a simple one is 1, an `if` 1 and its greater branch, a section 1 and its block, a
-- `repeat` 1 and for each time 1 and its block.
abbrev mutual
  pub action_cost : Action → ℕ
  action_cost (If' x body otherwise) = 1 + max (block_cost body) (else_cost otherwise)
  action_cost (Repeat n body) = 1 + n * (1 + block_cost body)
  action_cost (Section body) = 1 + block_cost body
  action_cost (New x t values) = 1
  action_cost (Drop x) = 1
  action_cost (Acquire y x) = 1
  action_cost (Get x f) = 1
  action_cost (Exchange y s x) = 1
  action_cost (Lock g) = 1
  action_cost Unlock = 1
  action_cost Yield = 1
  action_cost (PushFront q x) = 1
  action_cost (PushBack q x) = 1
  action_cost (PopFront x q) = 1
  action_cost (PopBack x q) = 1
  action_cost (Add t x) = 1
  action_cost (First x t) = 1
  action_cost (Remove y t x) = 1

  pub else_cost : Held-Action-If-2 → ℕ
  else_cost None' = 0
  else_cost (Some' body) = block_cost body

  pub block_cost : Block → ℕ
  block_cost (Block' shape row end_line) = row_cost row

  pub row_cost : {m : _} → Row_of-Statement m → ℕ
  row_cost end_of-Statement = 0
  row_cost (more_of-Statement line action rest) = action_cost action + row_cost rest

-- a line that runs a script costs 10 and the script's block
abbrev pub script_cost : Option Script → ℕ
script_cost (Some s) = 10 + block_cost s.body
script_cost None = 10

abbrev pub cost_on : ℕ → ℕ → ℕ → ℕ
cost_on processor at cost = if processor == at then cost else 0

-- the statements of a processor: those of its `run` lines and of its `at` lines
abbrev pub statements_of : Parts → ℕ → ℕ
statements_of s p =
    sum_by (λ r. cost_on p r.processor (script_cost (slice_get s.scripts r.script.0))) s.runs
    + sum_by (λ a. cost_on p a.processor (script_cost (slice_get s.scripts a.script.0))) s.ats

-- whether a test passes for some number below n
abbrev pub some_below : ℕ → (ℕ → Bool) → Bool
some_below zero f = false
some_below (suc n) f = f n || some_below n f

abbrev pub turns_length : Option (List ℕ) → ℕ
turns_length None = 0
turns_length (Some turns) = length turns

-- The first limit after that of the input that is exceeded, in the order of the table.
abbrev pub first_limit : Parts → Option Limit
first_limit s =
    if nat_lt 8 s.processors then Some limit.Processors
    else (if nat_lt 256 s.pages then Some limit.Pages
    else (if nat_lt 32 (length s.types) then Some limit.Types
    else (if list_any (λ t. nat_lt 8 (length t.fields)) s.types then Some limit.Fields
    else (if nat_lt 64 (length s.maps) then Some limit.Maps
    else (if nat_lt 256 (length s.scripts) then Some limit.Scripts
    else (if nat_lt 1000 (length s.ats) then Some limit.Handlers
    else (if nat_lt 100000 (turns_length s.turns) then Some limit.Turns
    else
    (if some_below s.processors (λ p. nat_lt 20000 (statements_of s p))
    then Some limit.Statements
    else None))))))))
