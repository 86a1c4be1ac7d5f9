-- What the work of a class writes. (bpf_mem_refill and what it calls in kernel/bpf/memalloc.c touch the lists of one cache.)
use Rattle.std.specs.Prelude.{◌≡◌, ℕ}
use Rattle.bm_journal.specs.declared.ids.Domain.TheVariants.{Plain}
use Rattle.bm_journal.specs.declared.entry.Entry.{Entry}
use Rattle.bm_journal.specs.declared.entry.Entry.TheVariants as entry

-- An entry that the work of class c may write: one on the cache of its class, what comes from the stock, or a period that
-- begins or ends. No other entry is one.
abbrev pub IsOfWork : ℕ → Entry → Type 0
IsOfWork c (entry.Work d) = d ≡ c
IsOfWork c (entry.Receive d us) = d ≡ c
IsOfWork c (entry.Read d n) = d ≡ c
IsOfWork c (entry.Ready d u) = d ≡ c
IsOfWork c (entry.Second d u) = d ≡ c
IsOfWork c (entry.Fetch d want us) = d ≡ c
IsOfWork c (entry.Enter d n) = d ≡ c
IsOfWork c (entry.Push d u) = d ≡ c
IsOfWork c (entry.Pop d u) = d ≡ c
IsOfWork c (entry.PopNone d) = d ≡ c
IsOfWork c (entry.Count d n) = d ≡ c
IsOfWork c (entry.Leave d n) = d ≡ c
IsOfWork c (entry.TakeExtra d us) = d ≡ c
IsOfWork c (entry.Send d to us) = d ≡ c
IsOfWork c (entry.TakeDelayed d us) = d ≡ c
IsOfWork c (entry.Batch d us) = d ≡ c
IsOfWork c (entry.Stamp d domain n) = d ≡ c
IsOfWork c (entry.Pass d domain n) = d ≡ c
IsOfWork c (entry.BeginSecond d us) = d ≡ c
IsOfWork c (entry.Return d us) = d ≡ c
IsOfWork c (entry.Begin domain n) = Unit {0}
IsOfWork c (entry.Finish period) = Unit {0}
IsOfWork c _ = ⊥

-- No tracing batch begins, takes its stamp or ends by the entry.
abbrev pub KeepsBatch : Entry → Type 0
KeepsBatch (entry.Stamp c d x) = d ≡ Plain
KeepsBatch (entry.BeginSecond c us) = ⊥
KeepsBatch (entry.Return c us) = ⊥
KeepsBatch (entry.Sweep c us) = ⊥
KeepsBatch _ = Unit {0}
