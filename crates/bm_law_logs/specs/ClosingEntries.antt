-- What the closing of a processor writes once the maps are emptied. (free_mem_alloc and drain_mem_cache in kernel/bpf/memalloc.c empty the lists of a
-- cache after the last grace periods.)
use Rattle.bm_journal.specs.declared.entry.Entry.{Entry}
use Rattle.bm_journal.specs.declared.entry.Entry.TheVariants as entry

-- An entry that it may write then: of periods, and of sweeps. No other entry is one.
abbrev pub IsOfClosing : Entry → Type 0
IsOfClosing (entry.Begin domain n) = Unit {0}
IsOfClosing (entry.Finish period) = Unit {0}
IsOfClosing (entry.Sweep c us) = Unit {0}
IsOfClosing (entry.Stamp c domain n) = Unit {0}
IsOfClosing (entry.Pass c domain n) = Unit {0}
IsOfClosing (entry.Return c us) = Unit {0}
IsOfClosing _ = ⊥
