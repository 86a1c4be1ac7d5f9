-- Calls that are made under one lock stand beside each other in the history. (Documentation/bpf/graph_ds_impl.rst: a list or tree is called
-- under its lock, so nobody else calls it meanwhile. Positions are this project's own.)
use Rattle.std.specs.Prelude.{◌≡◌, ◌<◌, ℕ, ◌+◌, if◌then◌else◌, Option, Some, None, List, [], ◌∷◌, get_or, length}
use Rattle.std.specs.Str.{bytes_eq}
use Rattle.bm_journal.specs.declared.entry.Entry.{Entry}
use Rattle.bm_journal.specs.declared.entry.Entry.TheVariants as entry
use Rattle.bm_law.specs.Lists.{Log}
use Rattle.bm_law_lives.specs.Together.{Each}
use Rattle.bm_law_graphs.specs.Calls.{GraphCall, graph_call}

-- What a log has under the lock of a list or tree so far: the lock isn't held; it is, and no call was made under it yet; or it is, and the
-- position after that of the last call is this.
pub data Under : Type 0 where
  Free : Under
  Taken : Under
  Next : ℕ → Under

-- after a call at this position
abbrev pub called_under : ℕ → Under → Under
called_under position Free = Free
called_under position _ = Next (position + 1)

abbrev pub under_call : (name : List ℕ) → Option GraphCall → Under → Under
under_call name None u = u
under_call name (Some x) u = if bytes_eq x.graph name then called_under x.position u else u

abbrev pub under_after : (name : List ℕ) → Under → ℕ × Entry → Under
under_after name u (l, entry.Lock n) = if bytes_eq n name then Taken else u
under_after name u (l, entry.Unlock n) = if bytes_eq n name then Free else u
under_after name u (l, e) = under_call name (graph_call [] (λ v. 0) e) u

-- the position of a call on this list or tree, if it is one
abbrev pub position_on : (name : List ℕ) → Option GraphCall → List ℕ
position_on name None = []
position_on name (Some x) = if bytes_eq x.graph name then x.position ∷ [] else []

-- a call follows the one before it under the same lock
abbrev pub Follows : Under → ℕ → Type 0
Follows (Next n) position = position ≡ n
Follows _ position = Unit {0}

abbrev pub Consecutive : (name : List ℕ) → Under → Log → Type 0
Consecutive name u [] = Unit {0}
Consecutive name u (e ∷ log) =
    Each (Follows u) (position_on name (graph_call [] (λ v. 0) e.1))
    × Consecutive name (under_after name u e) log

-- In each log the calls on a list or tree between a lock and its unlock have consecutive positions.
abbrev pub LocksLaw : List Log → Type 0
LocksLaw logs = (name : List ℕ) (p : ℕ) → p < length logs → Consecutive name Free (get_or logs p [])
