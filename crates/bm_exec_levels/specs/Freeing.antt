-- The free of a unit, plain or with delay. (bpf_mem_free and bpf_mem_free_rcu of kernel/bpf/memalloc.c.)
use Rattle.std.specs.Prelude.{ℕ, Bool, true, false, if◌then◌else◌, List}
use Rattle.bm_journal.specs.declared.entry.Entry.{Entry}
use Rattle.bm_journal.specs.declared.entry.Entry.TheVariants as entry
use Rattle.bm_cache.specs.Answers.{RestDelayed, RestFreed}

-- its first entry
abbrev pub free_entry : (delayed : Bool) → (u home : ℕ) → Entry
free_entry delayed u home = if delayed then entry.Delay u home else entry.Free u home

-- .. and the rest, with whether a plain batch of the class is in progress
abbrev pub FreeRest : (delayed : Bool) → (fell c u : ℕ) → (in_progress : Bool) → List Entry → Type 0
FreeRest false fell c u in_progress = RestFreed fell c u
FreeRest true fell c u in_progress = RestDelayed fell c u in_progress
