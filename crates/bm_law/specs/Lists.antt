-- The lists that a log leaves: a fold over its entries, defined where each entry names what is there.
-- (This project's own: journals are.)
use Rattle.std.specs.Prelude.{◌≡◌, ◌<◌, ℕ, ◌+◌, Bool, true, false, ◌&&◌, nat_eq, nat_lt, is_some, is_none, IsTrue, if◌then◌else◌, Option, Some, None, List, [], ◌∷◌, length, take, drop}
use Rattle.std.specs.Str.{bytes_eq}
use Rattle.bm_journal.specs.declared.ids.Domain.{Domain}
use Rattle.bm_journal.specs.declared.ids.Domain.TheVariants.{Plain, Tracing}
use Rattle.bm_journal.specs.declared.entry.Entry.{Entry}
use Rattle.bm_journal.specs.declared.entry.Entry.TheVariants as entry
use Rattle.bm_journal.specs.EntryText.{unit_list}
use Rattle.bm_law.specs.declared.mark.Mark.{Mark}
use Rattle.bm_law.specs.declared.mark.Mark.TheVariants as mark
use Rattle.bm_law.specs.State.{State, Deferred, opening, seven_lists}
use Rattle.bm_law.specs.Effect.{effect}

-- the entries of one processor in order, each with its level
abbrev pub Log : Type 0
Log = List (ℕ × Entry)

-- the stamp of the batch of this domain
abbrev pub stamp_of : {A : Type 0} → Domain → Deferred A → Option ℕ
stamp_of Plain d = d.plain
stamp_of Tracing d = d.tracing

-- what a send takes: all of the hand, or all of First where the hand is empty
abbrev pub sends : {A : Type 0} → List A → List A → List A
sends [] first = first
sends (u ∷ us) first = u ∷ us

-- the free count goes down by one after a pop of its class at the same level, and up by one after a push
abbrev pub CountsTo : Mark → ℕ → ℕ → ℕ → Type 0
CountsTo (mark.Took d) c before k = (d ≡ c) × (k + 1 ≡ before)
CountsTo (mark.Gave d) c before k = (d ≡ c) × (k ≡ before + 1)
CountsTo _ c before k = ⊥

-- the last look at Extra, or at ExtraDelayed, saw this class with less than n
abbrev pub SawLess : Mark → ℕ → ℕ → Type 0
SawLess (mark.Saw d k) c n = (d ≡ c) × (k < n)
SawLess _ c n = ⊥

abbrev pub SawLessDelayed : Mark → ℕ → ℕ → Type 0
SawLessDelayed (mark.SawDelayed d k) c n = (d ≡ c) × (k < n)
SawLessDelayed _ c n = ⊥

-- An entry of level l names what is there: the unit on top, the units of the whole list, or the number that it says.
-- A put finds what its look saw, and a lost one finds more; a batch begins where none is in progress, and takes its
-- stamp once. Units from outside are no matter of the lists. The inbox's units follow those of the seven lists in a
-- sweep.
abbrev pub Names : ℕ → Entry → State ℕ → Type 0
Names l (entry.Given u life) s = take 1 (s.sides l).hand ≡ u ∷ []
Names l (entry.GivenAfter u life stamp seen) s = take 1 (s.sides l).hand ≡ u ∷ []
Names l (entry.Enter c a) s = a ≡ (s.rows c).active + 1
Names l (entry.Leave c a) s = (s.rows c).active ≡ a + 1
Names l (entry.Pop c u) s = take 1 (s.rows c).free ≡ u ∷ []
Names l (entry.PopNone c) s = (s.rows c).free ≡ []
Names l (entry.Push c u) s = take 1 (s.sides l).hand ≡ u ∷ []
Names l (entry.Count c k) s = CountsTo (s.sides l).mark c (s.rows c).count k
Names l (entry.Delayed c u) s = take 1 (s.sides l).hand ≡ u ∷ []
Names l (entry.Look c k) s = k ≡ length (s.rows c).extra
Names l (entry.Put c u) s =
    (take 1 (s.sides l).hand ≡ u ∷ []) × ((s.sides l).mark ≡ mark.Saw c (length (s.rows c).extra))
Names l (entry.Lost c) s = SawLess (s.sides l).mark c (length (s.rows c).extra)
Names l (entry.LookDelayed c k) s = k ≡ length (s.rows c).extra_delayed
Names l (entry.PutDelayed c u) s =
    (take 1 (s.sides l).hand ≡ u ∷ [])
    × ((s.sides l).mark ≡ mark.SawDelayed c (length (s.rows c).extra_delayed))
Names l (entry.LostDelayed c) s =
    SawLessDelayed (s.sides l).mark c (length (s.rows c).extra_delayed)
Names l (entry.Read c k) s = k ≡ (s.rows c).count
Names l (entry.Ready c u) s = take 1 (s.rows c).deferred.ready ≡ u ∷ []
Names l (entry.Second c u) s = take 1 (s.rows c).deferred.second ≡ u ∷ []
Names l (entry.TakeExtra c us) s = unit_list us ≡ (s.rows c).extra
Names l (entry.Send c p us) s =
    (p ≡ (s.rows c).target) × (unit_list us ≡ sends (s.sides l).hand (s.rows c).deferred.first)
Names l (entry.TakeDelayed c us) s = unit_list us ≡ (s.rows c).extra_delayed
Names l (entry.Batch c us) s =
    (unit_list us ≡ (s.rows c).delayed) × ((s.rows c).deferred.plain ≡ None)
Names l (entry.Stamp c d x) s = stamp_of d (s.rows c).deferred ≡ Some 0
Names l (entry.BeginSecond c us) s =
    (unit_list us ≡ (s.rows c).deferred.ready) × ((s.rows c).deferred.tracing ≡ None)
Names l (entry.Return c us) s =
    (unit_list us ≡ (s.rows c).deferred.second) × IsTrue (is_some (s.rows c).deferred.tracing)
Names l (entry.Sweep c us) s =
    take (length (seven_lists (s.rows c))) (unit_list us) ≡ seven_lists (s.rows c)
Names l _ s = Unit {0}

-- the units that an entry brings from outside
abbrev pub brought : Entry → State ℕ → List ℕ
brought (entry.Fill c us) s = unit_list us
brought (entry.Free u home) s = u ∷ []
brought (entry.Delay u home) s = u ∷ []
brought (entry.Receive c us) s = unit_list us
brought (entry.Fetch c want us) s = unit_list us
brought (entry.Sweep c us) s = drop (length (seven_lists (s.rows c))) (unit_list us)
brought _ s = []

-- the state after one entry of a log, and after all of them
abbrev pub next : State ℕ → ℕ × Entry → State ℕ
next s e = effect e.0 e.1 (brought e.1 s) s

abbrev pub after : State ℕ → Log → State ℕ
after s [] = s
after s (e ∷ es) = after (next s e) es

-- each entry names what is there
abbrev pub AllName : State ℕ → Log → Type 0
AllName s [] = Unit {0}
AllName s (e ∷ es) = Names e.0 e.1 s × AllName (next s e) es

-- the log of processor p names what is there, and leaves these lists
pub record Leaves (p : ℕ) (log : Log) (s : State ℕ) : Type 0 where
  pub named : AllName (opening p) log
  pub lists : after (opening p) log ≡ s

-- The same as a test, so that the lists of a worked log can be computed.
abbrev pub counts_to : Mark → ℕ → ℕ → ℕ → Bool
counts_to (mark.Took d) c before k = nat_eq d c && nat_eq (k + 1) before
counts_to (mark.Gave d) c before k = nat_eq d c && nat_eq k (before + 1)
counts_to _ c before k = false

-- the last look at Extra, or at ExtraDelayed, saw this class with n
abbrev pub saw : Mark → ℕ → ℕ → Bool
saw (mark.Saw d k) c n = nat_eq d c && nat_eq k n
saw _ c n = false

abbrev pub saw_delayed : Mark → ℕ → ℕ → Bool
saw_delayed (mark.SawDelayed d k) c n = nat_eq d c && nat_eq k n
saw_delayed _ c n = false

abbrev pub saw_less : Mark → ℕ → ℕ → Bool
saw_less (mark.Saw d k) c n = nat_eq d c && nat_lt k n
saw_less _ c n = false

abbrev pub saw_less_delayed : Mark → ℕ → ℕ → Bool
saw_less_delayed (mark.SawDelayed d k) c n = nat_eq d c && nat_lt k n
saw_less_delayed _ c n = false

abbrev pub is_unstamped : Option ℕ → Bool
is_unstamped (Some x) = nat_eq x 0
is_unstamped None = false

abbrev pub names : ℕ → Entry → State ℕ → Bool
names l (entry.Given u life) s = bytes_eq (take 1 (s.sides l).hand) (u ∷ [])
names l (entry.GivenAfter u life stamp seen) s = bytes_eq (take 1 (s.sides l).hand) (u ∷ [])
names l (entry.Enter c a) s = nat_eq a ((s.rows c).active + 1)
names l (entry.Leave c a) s = nat_eq (s.rows c).active (a + 1)
names l (entry.Pop c u) s = bytes_eq (take 1 (s.rows c).free) (u ∷ [])
names l (entry.PopNone c) s = bytes_eq (s.rows c).free []
names l (entry.Push c u) s = bytes_eq (take 1 (s.sides l).hand) (u ∷ [])
names l (entry.Count c k) s = counts_to (s.sides l).mark c (s.rows c).count k
names l (entry.Delayed c u) s = bytes_eq (take 1 (s.sides l).hand) (u ∷ [])
names l (entry.Look c k) s = nat_eq k (length (s.rows c).extra)
names l (entry.Put c u) s =
    bytes_eq (take 1 (s.sides l).hand) (u ∷ []) && saw (s.sides l).mark c (length (s.rows c).extra)
names l (entry.Lost c) s = saw_less (s.sides l).mark c (length (s.rows c).extra)
names l (entry.LookDelayed c k) s = nat_eq k (length (s.rows c).extra_delayed)
names l (entry.PutDelayed c u) s =
    bytes_eq (take 1 (s.sides l).hand) (u ∷ [])
    && saw_delayed (s.sides l).mark c (length (s.rows c).extra_delayed)
names l (entry.LostDelayed c) s =
    saw_less_delayed (s.sides l).mark c (length (s.rows c).extra_delayed)
names l (entry.Read c k) s = nat_eq k (s.rows c).count
names l (entry.Ready c u) s = bytes_eq (take 1 (s.rows c).deferred.ready) (u ∷ [])
names l (entry.Second c u) s = bytes_eq (take 1 (s.rows c).deferred.second) (u ∷ [])
names l (entry.TakeExtra c us) s = bytes_eq (unit_list us) (s.rows c).extra
names l (entry.Send c p us) s =
    nat_eq p (s.rows c).target
    && bytes_eq (unit_list us) (sends (s.sides l).hand (s.rows c).deferred.first)
names l (entry.TakeDelayed c us) s = bytes_eq (unit_list us) (s.rows c).extra_delayed
names l (entry.Batch c us) s =
    bytes_eq (unit_list us) (s.rows c).delayed && is_none (s.rows c).deferred.plain
names l (entry.Stamp c d x) s = is_unstamped (stamp_of d (s.rows c).deferred)
names l (entry.BeginSecond c us) s =
    bytes_eq (unit_list us) (s.rows c).deferred.ready && is_none (s.rows c).deferred.tracing
names l (entry.Return c us) s =
    bytes_eq (unit_list us) (s.rows c).deferred.second && is_some (s.rows c).deferred.tracing
names l (entry.Sweep c us) s =
    bytes_eq (take (length (seven_lists (s.rows c))) (unit_list us)) (seven_lists (s.rows c))
names l _ s = true

abbrev pub lists_from : State ℕ → Log → Option (State ℕ)
lists_from s [] = Some s
lists_from s (e ∷ es) = if names e.0 e.1 s then lists_from (next s e) es else None

-- the lists that the log of processor p leaves, where each entry names what is there
abbrev pub lists_of : ℕ → Log → Option (State ℕ)
lists_of p log = lists_from (opening p) log
