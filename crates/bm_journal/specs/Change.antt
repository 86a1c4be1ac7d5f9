-- What the code reads off an entry, to count by.
use Rattle.std.specs.Prelude.{ℕ, ◌-◌, ◌==◌, if◌then◌else◌}
use Rattle.bm_journal.specs.declared.counts.Lengths.{Lengths}
use Rattle.bm_journal.specs.declared.counts.Counts.{Counts}
use Rattle.bm_journal.specs.declared.change.Stack.{Stack}
use Rattle.bm_journal.specs.declared.change.Stack.TheVariants as stack
use Rattle.bm_journal.specs.declared.change.Shift.{Shift}
use Rattle.bm_journal.specs.declared.change.Shift.TheVariants as shift
use Rattle.bm_journal.specs.declared.change.Hold.{Hold}
use Rattle.bm_journal.specs.declared.change.Hold.TheVariants as hold
use Rattle.bm_journal.specs.declared.change.Change.{Change}
use Rattle.bm_journal.specs.declared.change.Change.TheVariants as change
use Rattle.bm_journal.specs.UnitCount.{unit_count}
use Rattle.bm_journal.specs.Counts.{more, no_lengths, lists, hand, hand_of}

-- the length of this list
abbrev pub length_of : Stack → Lengths → ℕ
length_of stack.Free x = x.free
length_of stack.Extra x = x.extra
length_of stack.ExtraDelayed x = x.extra_delayed
length_of stack.Delayed x = x.delayed
length_of stack.First x = x.first
length_of stack.Ready x = x.ready
length_of stack.Second x = x.second

-- the same lists, but for this one's length
abbrev pub with_length : Stack → ℕ → Lengths → Lengths
with_length stack.Free n x = record x { free = n }
with_length stack.Extra n x = record x { extra = n }
with_length stack.ExtraDelayed n x = record x { extra_delayed = n }
with_length stack.Delayed n x = record x { delayed = n }
with_length stack.First n x = record x { first = n }
with_length stack.Ready n x = record x { ready = n }
with_length stack.Second n x = record x { second = n }

-- the lists after a change
abbrev pub shifted : Shift → Lengths → Lengths
shifted (shift.Pushed s) x = with_length s (more (length_of s x) 1) x
shifted (shift.Popped s) x = with_length s (length_of s x - 1) x
shifted (shift.Came s us) x = with_length s (more (length_of s x) (unit_count us.now)) x
shifted (shift.Emptied s) x = with_length s 0 x
shifted (shift.Moved s t us) x =
    with_length t (more (length_of t (with_length s 0 x)) (unit_count us.now)) (with_length s 0 x)
shifted (shift.Swept us) x = record no_lengths { second = unit_count us.now }

-- the units in hand after a change
abbrev pub held : Hold → ℕ → ℕ
held hold.One n = more n 1
held (hold.Many us) n = more n (unit_count us.now)
held hold.Gone n = n - 1

-- the counts after a change at this level
abbrev pub changed : ℕ → Change → Counts → Counts
changed l change.Nothing k = k
changed l (change.Lists c s) k = lists c (shifted s) k
changed l (change.Hand h) k = hand l (held h) k
changed l (change.Both c s h) k = hand l (held h) (lists c (shifted s) k)
changed l (change.Sent c) k =
    if hand_of k l == 0 then lists c (λ x. record x { first = 0 }) k else hand l (λ n. 0) k
