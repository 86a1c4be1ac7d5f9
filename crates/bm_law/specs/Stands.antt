-- How often a unit stands in the lists and hands of a processor. (This project's own.)
use Rattle.std.specs.Prelude.{◌<◌, ◌≤◌, ℕ, ◌+◌, List, [], ◌∷◌, zero, suc, take, if◌then◌else◌, eqb}
use Rattle.bm_journal.specs.declared.entry.Entry.{Entry}
use Rattle.bm_journal.specs.declared.entry.Entry.TheVariants as entry
use Rattle.bm_law.specs.State.{Row, State}
use Rattle.bm_law.specs.Lists.{sends}

-- the sum of f over the numbers below n
abbrev pub sum_to : ℕ → (ℕ → ℕ) → ℕ
sum_to zero f = 0
sum_to (suc k) f = f k + sum_to k f

-- how often n stands in a list
abbrev pub times : ℕ → List ℕ → ℕ
times n [] = 0
times n (x ∷ xs) = (if eqb n x then 1 else 0) + times n xs

-- how often unit n stands in the lists of one class
abbrev pub in_row : ℕ → Row ℕ → ℕ
in_row n r =
    times n r.free
    + (times n r.extra
    + (times n r.delayed
    + (times n r.extra_delayed
    + (times n r.deferred.first
    + (times n r.deferred.ready + times n r.deferred.second)))))

-- how often unit n stands in the lists of the eleven classes and the hands of the four levels
unfoldable pub stands : ℕ → State ℕ → ℕ
stands n s = sum_to 11 (λ c. in_row n (s.rows c)) + sum_to 4 (λ l. times n (s.sides l).hand)

-- no unit stands twice
abbrev pub Once : State ℕ → Type 0
Once s = (n : ℕ) → stands n s ≤ 1

-- all numbers of a list are below N
abbrev pub AllUnder : ℕ → List ℕ → Type 0
AllUnder N [] = Unit {0}
AllUnder N (x ∷ xs) = (x < N) × AllUnder N xs

-- the class that a step names; 0 where none is named
abbrev pub class_named : Entry → ℕ
class_named (entry.Fill c us) = c
class_named (entry.Work c) = c
class_named (entry.Enter c a) = c
class_named (entry.Pop c u) = c
class_named (entry.PopNone c) = c
class_named (entry.Count c k) = c
class_named (entry.Leave c a) = c
class_named (entry.Raise c) = c
class_named (entry.Push c u) = c
class_named (entry.Delayed c u) = c
class_named (entry.Look c k) = c
class_named (entry.Put c u) = c
class_named (entry.Lost c) = c
class_named (entry.LookDelayed c k) = c
class_named (entry.PutDelayed c u) = c
class_named (entry.LostDelayed c) = c
class_named (entry.Receive c us) = c
class_named (entry.Read c k) = c
class_named (entry.Ready c u) = c
class_named (entry.Second c u) = c
class_named (entry.Fetch c want us) = c
class_named (entry.TakeExtra c us) = c
class_named (entry.Send c p us) = c
class_named (entry.TakeDelayed c us) = c
class_named (entry.Batch c us) = c
class_named (entry.Stamp c d x) = c
class_named (entry.Pass c d n) = c
class_named (entry.BeginSecond c us) = c
class_named (entry.Return c us) = c
class_named (entry.Sweep c us) = c
class_named _ = 0

-- the level is one of the four, and the class one of the eleven
pub record Known (l : ℕ) (e : Entry) : Type 0 where
  pub level : l < 4
  pub class : class_named e < 11

-- the units that come in with an entry, of those from outside, and the units that go out
abbrev pub comes_in : {A : Type 0} → Entry → List A → List A
comes_in (entry.Fill c us) units = units
comes_in (entry.Free u home) units = units
comes_in (entry.Delay u home) units = units
comes_in (entry.Receive c us) units = units
comes_in (entry.Fetch c want us) units = units
comes_in (entry.Sweep c us) units = units
comes_in _ units = []

abbrev pub goes_out : {A : Type 0} → ℕ → Entry → State A → List A
goes_out l (entry.Given u life) s = take 1 (s.sides l).hand
goes_out l (entry.GivenAfter u life stamp seen) s = take 1 (s.sides l).hand
goes_out l (entry.Send c p us) s = sends (s.sides l).hand (s.rows c).deferred.first
goes_out l (entry.Return c us) s = (s.rows c).deferred.second
goes_out l _ s = []
