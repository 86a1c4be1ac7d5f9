-- What a recorder counts beside its log: how many units stand in each list and hand. (This project's own.)
use Rattle.std.specs.Prelude.{◌≡◌, ◌<◌, ℕ, ◌+◌, ◌^◌, length, List}
use Rattle.bm_journal.specs.declared.counts.Counts.{Counts}
use Rattle.bm_journal.specs.declared.counts.Lengths.{Lengths}
use Rattle.bm_journal.specs.declared.entry.Entry.{Entry}
use Rattle.bm_journal.specs.declared.entry.Entry.TheVariants as entry
use Rattle.bm_journal.specs.Counts.{lengths_of, hand_of}
use Rattle.bm_journal.specs.UnitCount.{unit_count}
use Rattle.bm_law.specs.State.{Row, State, seven_lists}
use Rattle.bm_law.specs.Stands.{class_named}

-- the lengths of a cache's lists
abbrev pub lengths_in : {A : Type 0} → Row A → Lengths
lengths_in r =
    record {
      free = length r.free;
      extra = length r.extra;
      extra_delayed = length r.extra_delayed;
      delayed = length r.delayed;
      first = length r.deferred.first;
      ready = length r.deferred.ready;
      second = length r.deferred.second;
    }

-- the counts are those of the state
pub record Tells {A : Type 0} (counts : Counts) (s : State A) : Type 0 where
  pub classes : length counts.classes ≡ 11
  pub hands : length counts.hands ≡ 4
  pub lists : (c : ℕ) → c < 11 → lengths_of counts c ≡ lengths_in (s.rows c)
  pub hand : (l : ℕ) → l < 4 → hand_of counts l ≡ length (s.sides l).hand

-- An entry names as many units as it moves, and a single unit that it moves is there.
abbrev pub Sized : {A : Type 0} → ℕ → Entry → List A → State A → Type 0
Sized l (entry.Fill c us) units s = unit_count us ≡ length units
Sized l (entry.Free u home) units s = length units ≡ 1
Sized l (entry.Delay u home) units s = length units ≡ 1
Sized l (entry.Pop c u) units s = 0 < length (s.rows c).free
Sized l (entry.Push c u) units s = 0 < length (s.sides l).hand
Sized l (entry.Delayed c u) units s = 0 < length (s.sides l).hand
Sized l (entry.Put c u) units s = 0 < length (s.sides l).hand
Sized l (entry.PutDelayed c u) units s = 0 < length (s.sides l).hand
Sized l (entry.Receive c us) units s = unit_count us ≡ length units
Sized l (entry.Ready c u) units s = 0 < length (s.rows c).deferred.ready
Sized l (entry.Second c u) units s = 0 < length (s.rows c).deferred.second
Sized l (entry.Fetch c want us) units s = unit_count us ≡ length units
Sized l (entry.TakeExtra c us) units s = unit_count us ≡ length (s.rows c).extra
Sized l (entry.TakeDelayed c us) units s = unit_count us ≡ length (s.rows c).extra_delayed
Sized l (entry.Batch c us) units s = unit_count us ≡ length (s.rows c).delayed
Sized l (entry.BeginSecond c us) units s = unit_count us ≡ length (s.rows c).deferred.ready
Sized l (entry.Sweep c us) units s = unit_count us ≡ length (seven_lists (s.rows c)) + length units
Sized l _ units s = Unit {0}

-- The units of the entry's class, those in hand at its level and those that come in are fewer than a counter can count.
abbrev pub Countable : {A : Type 0} → ℕ → Entry → List A → State A → Type 0
Countable l e units s =
    length (seven_lists (s.rows (class_named e))) + length (s.sides l).hand + length units < 2 ^ 64
