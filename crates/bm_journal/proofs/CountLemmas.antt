-- The counts of one class and of one level, where others change.
use Rattle.std.proofs.Common.{◌≡◌, ◌≢◌, ℕ, ◌<◌, length, refl, Bool, true, false, get_or-set_same, get_or-set_other, length-set, slice_set, if◌then◌else◌, ◌==◌}
use Rattle.bm_journal.specs.declared.counts.Lengths.{Lengths}
use Rattle.bm_journal.specs.declared.counts.Counts.{Counts}
use Rattle.bm_journal.specs.declared.entry.Entry.{Entry}
use Rattle.bm_journal.specs.declared.entry.Entry.TheVariants as entry
use Rattle.bm_journal.specs.Counts.{no_lengths, lengths_of, hand_of, lists, hand, counts_after}

-- the class that changes, and another
pub lengths_of-lists_same : (class : ℕ) (change : Lengths → Lengths) (counts : Counts) → class < length counts.classes → lengths_of (lists class change counts) class ≡ change (lengths_of counts class)
lengths_of-lists_same class change counts lt = get_or-set_same counts.classes class (change (lengths_of counts class)) no_lengths lt

pub lengths_of-lists_other : (class other : ℕ) (change : Lengths → Lengths) (counts : Counts) → other ≢ class → lengths_of (lists class change counts) other ≡ lengths_of counts other
lengths_of-lists_other class other change counts ne = get_or-set_other counts.classes class other (change (lengths_of counts class)) no_lengths ne

-- the level whose hand changes, and another
pub hand_of-hand_same : (level : ℕ) (change : ℕ → ℕ) (counts : Counts) → level < length counts.hands → hand_of (hand level change counts) level ≡ change (hand_of counts level)
hand_of-hand_same level change counts lt = get_or-set_same counts.hands level (change (hand_of counts level)) 0 lt

pub hand_of-hand_other : (level other : ℕ) (change : ℕ → ℕ) (counts : Counts) → other ≢ level → hand_of (hand level change counts) other ≡ hand_of counts other
hand_of-hand_other level other change counts ne = get_or-set_other counts.hands level other (change (hand_of counts level)) 0 ne

-- there are as many classes and levels as before
pub record SameShape (before after : Counts) : Type 0 where
  pub classes : length after.classes ≡ length before.classes
  pub levels : length after.hands ≡ length before.hands

same_lists : (class : ℕ) (x : Lengths) (counts : Counts) → SameShape counts (record counts { classes = slice_set counts.classes class x })
same_lists class x counts = record { classes = length-set counts.classes class x; levels = refl }

same_hand : (level n : ℕ) (counts : Counts) → SameShape counts (record counts { hands = slice_set counts.hands level n })
same_hand level n counts = record { classes = refl; levels = length-set counts.hands level n }

same_both : (level class n : ℕ) (x : Lengths) (counts : Counts) → SameShape counts (record { classes = slice_set counts.classes class x; hands = slice_set counts.hands level n })
same_both level class n x counts = record { classes = length-set counts.classes class x; levels = length-set counts.hands level n }

same_choice : (first : Bool) (counts a b : Counts) → SameShape counts a → SameShape counts b → SameShape counts (if first then a else b)
same_choice true counts a b sa sb = sa
same_choice false counts a b sa sb = sb

-- no entry adds or takes away a class or a level
pub shape_after : (l : ℕ) (e : Entry) (k : Counts) → SameShape k (counts_after l e k)
shape_after l (entry.Fill c us) k = same_lists c _ k
shape_after l (entry.Fetch c want us) k = same_hand l _ k
shape_after l (entry.Pop c u) k = same_both l c _ _ k
shape_after l (entry.Ready c u) k = same_both l c _ _ k
shape_after l (entry.Second c u) k = same_both l c _ _ k
shape_after l (entry.Push c u) k = same_both l c _ _ k
shape_after l (entry.Delayed c u) k = same_both l c _ _ k
shape_after l (entry.Put c u) k = same_both l c _ _ k
shape_after l (entry.PutDelayed c u) k = same_both l c _ _ k
shape_after l (entry.Given u life) k = same_hand l _ k
shape_after l (entry.GivenAfter u life s seen) k = same_hand l _ k
shape_after l (entry.Free u h) k = same_hand l _ k
shape_after l (entry.Delay u h) k = same_hand l _ k
shape_after l (entry.TakeExtra c us) k = same_both l c _ _ k
shape_after l (entry.TakeDelayed c us) k = same_lists c _ k
shape_after l (entry.Batch c us) k = same_lists c _ k
shape_after l (entry.BeginSecond c us) k = same_lists c _ k
shape_after l (entry.Receive c us) k = same_lists c _ k
shape_after l (entry.Return c us) k = same_lists c _ k
shape_after l (entry.Sweep c us) k = same_lists c _ k
shape_after l (entry.Send c p us) k = same_choice (hand_of k l == 0) k (lists c (λ x. record x { first = 0 }) k) (hand l (λ n. 0) k) (same_lists c _ k) (same_hand l _ k)
shape_after l _ k = record { classes = refl; levels = refl }
