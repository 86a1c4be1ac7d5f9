-- What the calls of a script and its other statements write. (unit_alloc, unit_free and unit_free_rcu in kernel/bpf/memalloc.c touch one cache, and none of them sends
-- units to another processor or waits for a grace period.)
use Rattle.bm_journal.specs.declared.entry.Entry.{Entry}
use Rattle.bm_journal.specs.declared.entry.Entry.TheVariants as entry

-- An entry that a call may write. None of them begins or ends a section, a handler or a period, and none is of deferred work
-- alone.
abbrev pub IsOfCall : Entry → Type 0
IsOfCall (entry.New name values) = Unit {0}
IsOfCall (entry.Given u life) = Unit {0}
IsOfCall (entry.GivenAfter u life stamp seen) = Unit {0}
IsOfCall entry.Empty = Unit {0}
IsOfCall (entry.Busy a) = Unit {0}
IsOfCall (entry.Drop u life) = Unit {0}
IsOfCall (entry.Still k) = Unit {0}
IsOfCall entry.Last = Unit {0}
IsOfCall (entry.Acquire u life k) = Unit {0}
IsOfCall (entry.Get u life place value) = Unit {0}
IsOfCall (entry.Xchg name put was by) = Unit {0}
IsOfCall (entry.Lock name) = Unit {0}
IsOfCall (entry.Unlock name) = Unit {0}
IsOfCall (entry.PushFront name u life position) = Unit {0}
IsOfCall (entry.PushBack name u life position) = Unit {0}
IsOfCall (entry.Add name u life position) = Unit {0}
IsOfCall (entry.PushFrontAlready name u life owner position) = Unit {0}
IsOfCall (entry.PushBackAlready name u life owner position) = Unit {0}
IsOfCall (entry.AddAlready name u life owner position) = Unit {0}
IsOfCall (entry.PopFront name item position) = Unit {0}
IsOfCall (entry.PopBack name item position) = Unit {0}
IsOfCall (entry.First name item position) = Unit {0}
IsOfCall (entry.Remove name u life position) = Unit {0}
IsOfCall (entry.Free u home) = Unit {0}
IsOfCall (entry.Delay u home) = Unit {0}
IsOfCall (entry.Enter c a) = Unit {0}
IsOfCall (entry.Pop c u) = Unit {0}
IsOfCall (entry.PopNone c) = Unit {0}
IsOfCall (entry.Push c u) = Unit {0}
IsOfCall (entry.Count c k) = Unit {0}
IsOfCall (entry.Look c k) = Unit {0}
IsOfCall (entry.Put c u) = Unit {0}
IsOfCall (entry.Lost c) = Unit {0}
IsOfCall (entry.Delayed c u) = Unit {0}
IsOfCall (entry.LookDelayed c k) = Unit {0}
IsOfCall (entry.PutDelayed c u) = Unit {0}
IsOfCall (entry.LostDelayed c) = Unit {0}
IsOfCall (entry.Leave c a) = Unit {0}
IsOfCall (entry.Raise c) = Unit {0}
IsOfCall _ = ⊥

-- An entry that a statement may write: of a call, the begin or the end of a section, or a yield.
abbrev pub IsOfStatement : Entry → Type 0
IsOfStatement (entry.In d w) = Unit {0}
IsOfStatement (entry.Out d w) = Unit {0}
IsOfStatement entry.Yield = Unit {0}
IsOfStatement e = IsOfCall e

-- An entry that a handler may write: of a statement, or its begin and its end.
abbrev pub IsOfHandler : Entry → Type 0
IsOfHandler (entry.Handler name) = Unit {0}
IsOfHandler (entry.Back name) = Unit {0}
IsOfHandler e = IsOfStatement e
