-- Worked logs, each of one processor with one page of units of 16 bytes, class 0, and no deferred work.
use Rattle.std.specs.Prelude.{◌≡◌, ℕ, Option, Some, None, List, [], ◌∷◌, ◌++◌, codes}
use Rattle.bm_journal.specs.declared.ids.Domain.TheVariants.{Plain, Tracing}
use Rattle.bm_journal.specs.declared.units.Units.TheVariants.{Whole}
use Rattle.bm_journal.specs.declared.entry.Entry.{Entry}
use Rattle.bm_journal.specs.declared.entry.Entry.TheVariants as entry
use Rattle.bm_law.specs.State.{State, seven_lists}
use Rattle.bm_law.specs.Lists.{Log}

-- Nothing stands in any list or hand, and no active number is raised.
pub record Emptied {A : Type 0} (s : State A) : Type 0 where
  pub lists : (c : ℕ) → seven_lists (s.rows c) ≡ []
  pub hands : (l : ℕ) → (s.sides l).hand ≡ []
  pub active : (c : ℕ) → (s.rows c).active ≡ 0

-- the lists of class 0 from the top: Free, Extra, Delayed and ExtraDelayed
abbrev pub four_lists : Option (State ℕ) → Option (List (List ℕ))
four_lists (Some s) =
    Some ((s.rows 0).free ∷ (s.rows 0).extra ∷ (s.rows 0).delayed ∷ (s.rows 0).extra_delayed ∷ [])
four_lists None = None

-- the end of a log: the section and the script end, and the closing begins
abbrev pub script_ends : Log
script_ends =
    (0, entry.Out Plain 2) ∷ (0, entry.Done (codes "main")) ∷ (0, entry.Ended) ∷ (0, entry.Close)
    ∷ []

-- the closing's sweep of four units, which go back to the stock after a grace period
abbrev pub swept_back : List ℕ → Log
swept_back units =
    (0, entry.Sweep 0 (Whole units)) ∷
    (0, entry.Stamp 0 Tracing 2) ∷
    (0, entry.Begin Tracing 1) ∷ (
      0,
      entry.Finish
          (record { domain = Tracing; number = 2; first = 2 ∷ 0 ∷ []; later = 2 ∷ 0 ∷ [] }),
    )
    ∷
    (0, entry.Pass 0 Tracing 2) ∷
    (0, entry.Return 0 (Whole units)) ∷ []

-- one object made and dropped: up to the drop, and all
abbrev pub made : Log
made =
    (0, entry.Fill 0 (Whole (0 ∷ 1 ∷ 2 ∷ 3 ∷ []))) ∷
    (0, entry.Script (codes "main")) ∷
    (0, entry.In Plain 1) ∷
    (0, entry.New (codes "item") (7 ∷ [])) ∷
    (0, entry.Enter 0 1) ∷
    (0, entry.Pop 0 3) ∷
    (0, entry.Count 0 3) ∷
    (0, entry.Leave 0 0) ∷
    (0, entry.Raise 0) ∷
    (0, entry.Given 3 1) ∷ []

abbrev pub made_and_dropped : Log
made_and_dropped =
    made ++
    (0, entry.Drop 3 1) ∷
    (0, entry.Last) ∷
    (0, entry.Free 3 0) ∷
    (0, entry.Enter 0 1) ∷
    (0, entry.Push 0 3) ∷
    (0, entry.Count 0 4) ∷
    (0, entry.Leave 0 0) ∷
    script_ends ++ swept_back (3 ∷ 2 ∷ 1 ∷ 0 ∷ [])

-- the same where there is no page
abbrev pub without_pages : Log
without_pages =
    (0, entry.Fill 0 (Whole [])) ∷
    (0, entry.Script (codes "main")) ∷
    (0, entry.In Plain 1) ∷
    (0, entry.New (codes "item") (7 ∷ [])) ∷
    (0, entry.Enter 0 1) ∷
    (0, entry.PopNone 0) ∷
    (0, entry.Leave 0 0) ∷
    (0, entry.Raise 0) ∷
    (0, entry.Empty) ∷ script_ends

-- Two objects are put into slots, and a third one is asked for; directly after its unit was taken a handler begins.
abbrev pub two_in_slots : Log
two_in_slots =
    (0, entry.Fill 0 (Whole (0 ∷ 1 ∷ 2 ∷ 3 ∷ []))) ∷
    (0, entry.Script (codes "main")) ∷
    (0, entry.In Plain 1) ∷
    (0, entry.New (codes "item") (1 ∷ [])) ∷
    (0, entry.Enter 0 1) ∷
    (0, entry.Pop 0 3) ∷
    (0, entry.Count 0 3) ∷
    (0, entry.Leave 0 0) ∷
    (0, entry.Raise 0) ∷
    (0, entry.Given 3 1) ∷
    (0, entry.Xchg (codes "s1") (Some (record { unit = 3; life = 1 })) None None) ∷
    (0, entry.New (codes "item") (2 ∷ [])) ∷
    (0, entry.Enter 0 1) ∷
    (0, entry.Pop 0 2) ∷
    (0, entry.Count 0 2) ∷
    (0, entry.Leave 0 0) ∷
    (0, entry.Raise 0) ∷
    (0, entry.Given 2 1) ∷
    (0, entry.Xchg (codes "s2") (Some (record { unit = 2; life = 1 })) None None) ∷
    (0, entry.New (codes "item") (3 ∷ [])) ∷
    (0, entry.Enter 0 1) ∷
    (0, entry.Pop 0 1) ∷ []

-- The handler takes the first object out of its slot.
abbrev pub first_taken : Log
first_taken =
    (1, entry.Handler (codes "h1")) ∷ (
      1,
      entry.Xchg (codes "s1") None (Some (record { unit = 3; life = 1 }))
          (Some (record { processor = 0; serial = 2 })),
    )
    ∷
    (1, entry.Drop 3 1) ∷
    (1, entry.Last) ∷ []

-- A handler of the next level takes the second one.
abbrev pub second_taken : Log
second_taken =
    (2, entry.Handler (codes "h2")) ∷ (
      2,
      entry.Xchg (codes "s2") None (Some (record { unit = 2; life = 1 }))
          (Some (record { processor = 0; serial = 4 })),
    )
    ∷
    (2, entry.Drop 2 1) ∷
    (2, entry.Last) ∷ []

-- Three frees, each within the one below: the handler looks at Extra, and the second handler puts its unit there
-- before the first one puts its own.
abbrev pub first_looked : Log
first_looked =
    two_in_slots ++ first_taken ++ (1, entry.Free 3 0) ∷ (1, entry.Enter 0 2) ∷ (1, entry.Look 0 0)
    ∷ []

abbrev pub second_put : Log
second_put =
    first_looked ++ second_taken ++
    (2, entry.Free 2 0) ∷
    (2, entry.Enter 0 3) ∷
    (2, entry.Look 0 0) ∷
    (2, entry.Put 0 2) ∷
    (2, entry.Leave 0 2) ∷
    (2, entry.Back (codes "h2")) ∷ []

abbrev pub first_put : Log
first_put =
    second_put ++
    (1, entry.Lost 0) ∷
    (1, entry.Look 0 1) ∷
    (1, entry.Put 0 3) ∷
    (1, entry.Leave 0 1) ∷
    (1, entry.Back (codes "h1")) ∷ []

abbrev pub third_given : Log
third_given =
    first_put ++
    (0, entry.Count 0 1) ∷
    (0, entry.Leave 0 0) ∷
    (0, entry.Raise 0) ∷
    (0, entry.Given 1 1) ∷
    (0, entry.Drop 1 1) ∷
    (0, entry.Last) ∷ []

abbrev pub third_freed : Log
third_freed =
    third_given ++
    (0, entry.Free 1 0) ∷
    (0, entry.Enter 0 1) ∷
    (0, entry.Push 0 1) ∷
    (0, entry.Count 0 2) ∷
    (0, entry.Leave 0 0) ∷ []

-- the slots are found empty at the closing
abbrev pub slots_closed : Log
slots_closed =
    (0, entry.Xchg (codes "s1") None None (Some (record { processor = 0; serial = 6 }))) ∷
    (0, entry.Xchg (codes "s2") None None (Some (record { processor = 0; serial = 8 }))) ∷ []

abbrev pub nested_frees : Log
nested_frees = third_freed ++ script_ends ++ slots_closed ++ swept_back (1 ∷ 0 ∷ 3 ∷ 2 ∷ [])

-- the same with delayed frees
abbrev pub second_put_delayed : Log
second_put_delayed =
    two_in_slots ++ first_taken ++
    (1, entry.Delay 3 0) ∷ (1, entry.Enter 0 2) ∷ (1, entry.LookDelayed 0 0) ∷
    second_taken ++
    (2, entry.Delay 2 0) ∷
    (2, entry.Enter 0 3) ∷
    (2, entry.LookDelayed 0 0) ∷
    (2, entry.PutDelayed 0 2) ∷
    (2, entry.Leave 0 2) ∷
    (2, entry.Raise 0) ∷
    (2, entry.Back (codes "h2")) ∷ []

abbrev pub third_delayed : Log
third_delayed =
    second_put_delayed ++
    (1, entry.LostDelayed 0) ∷
    (1, entry.LookDelayed 0 1) ∷
    (1, entry.PutDelayed 0 3) ∷
    (1, entry.Leave 0 1) ∷
    (1, entry.Raise 0) ∷
    (1, entry.Back (codes "h1")) ∷
    (0, entry.Count 0 1) ∷
    (0, entry.Leave 0 0) ∷
    (0, entry.Raise 0) ∷
    (0, entry.Given 1 1) ∷
    (0, entry.Drop 1 1) ∷
    (0, entry.Last) ∷
    (0, entry.Delay 1 0) ∷
    (0, entry.Enter 0 1) ∷
    (0, entry.Delayed 0 1) ∷
    (0, entry.Leave 0 0) ∷
    (0, entry.Raise 0) ∷ []

abbrev pub nested_delayed_frees : Log
nested_delayed_frees =
    third_delayed ++ script_ends ++ slots_closed ++ swept_back (0 ∷ 1 ∷ 3 ∷ 2 ∷ [])

-- An object is asked for by a handler directly after the unit of the outer one was taken.
abbrev pub nested_busy : Log
nested_busy =
    (0, entry.Fill 0 (Whole (0 ∷ 1 ∷ 2 ∷ 3 ∷ []))) ∷
    (0, entry.Script (codes "main")) ∷
    (0, entry.In Plain 1) ∷
    (0, entry.New (codes "item") (7 ∷ [])) ∷
    (0, entry.Enter 0 1) ∷
    (0, entry.Pop 0 3) ∷
    (1, entry.Handler (codes "h")) ∷
    (1, entry.New (codes "item") (9 ∷ [])) ∷
    (1, entry.Enter 0 2) ∷
    (1, entry.Leave 0 1) ∷
    (1, entry.Raise 0) ∷
    (1, entry.Busy 2) ∷
    (1, entry.Back (codes "h")) ∷
    (0, entry.Count 0 3) ∷
    (0, entry.Leave 0 0) ∷
    (0, entry.Raise 0) ∷
    (0, entry.Given 3 1) ∷ []

-- the entries of such a log before its first call, and after its last
abbrev pub script_begins : List Entry
script_begins =
    entry.Fill 0 (Whole (0 ∷ 1 ∷ 2 ∷ 3 ∷ [])) ∷ entry.Script (codes "main") ∷ entry.In Plain 1 ∷ []

abbrev pub script_stops : List Entry
script_stops = entry.Out Plain 2 ∷ entry.Done (codes "main") ∷ entry.Ended ∷ entry.Close ∷ []
