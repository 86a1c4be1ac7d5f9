-- The section words of all processors, as entries name them. (rcu_read_lock and rcu_read_unlock of kernel/rcu/tree_plugin.h,
-- rcu_read_lock_trace and rcu_read_unlock_trace of include/linux/rcupdate_trace.h count nesting; words that count sections are
-- this project's own.)
use Rattle.std.specs.Prelude.{◌≡◌, ℕ, ◌+◌, ◌%◌, List, replicate, slice_index, slice_set}
use Rattle.bm_journal.specs.declared.ids.Domain.{Domain}
use Rattle.bm_journal.specs.declared.entry.Entry.{Entry}
use Rattle.bm_journal.specs.declared.entry.Entry.TheVariants as entry
use Rattle.bm_law_order.specs.ByDomain.{ByDomain, both, of, with_of}

-- by domain the words of the eight processors that there may be
abbrev pub Words : Type 0
Words = ByDomain (List ℕ)

abbrev pub first_words : Words
first_words = both (replicate 8 0)

abbrev pub with_word : (p : ℕ) → Domain → ℕ → Words → Words
with_word p d w words = with_of d (slice_set (of d words) p w) words

-- what an entry of level l of processor p makes of them
abbrev pub words_after : (p l : ℕ) → Entry → Words → Words
words_after p l (entry.In d w) words = with_word p d w words
words_after p l (entry.Out d w) words = with_word p d w words
words_after p l _ words = words

-- The next word of processor p: odd inside a section, even outside.
pub record IsNextWord (p odd w : ℕ) (words : List ℕ) : Type 0 where
  pub next_is : w ≡ slice_index words p + 1
  pub parity : w % 2 ≡ odd

-- what such an entry needs of them
abbrev pub WordsFit : (p l : ℕ) → Entry → Words → Type 0
WordsFit p l (entry.In d w) words = IsNextWord p 1 w (of d words)
WordsFit p l (entry.Out d w) words = IsNextWord p 0 w (of d words)
WordsFit p l _ words = Unit {0}
