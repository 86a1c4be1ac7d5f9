-- When an allocation answers null. (unit_alloc in kernel/bpf/memalloc.c.)
use Rattle.std.specs.Prelude.{◌≡◌, ◌≢◌, ◌<◌, ℕ, Bool, true, false, ◌&&◌, List, [], ◌∷◌}
use Rattle.bm_journal.specs.declared.entry.Entry.{Entry}
use Rattle.bm_journal.specs.declared.entry.Entry.TheVariants as entry
use Rattle.bm_law.specs.State.{State, opening}
use Rattle.bm_law.specs.Lists.{Log, next}
use Rattle.bm_law.specs.Spans.{own_entries}

-- A pop says `none` exactly where Free of its class is empty before it.
abbrev pub PopFits : Entry → State ℕ → Type 0
PopFits (entry.Pop c u) s = (s.rows c).free ≢ []
PopFits (entry.PopNone c) s = (s.rows c).free ≡ []
PopFits _ s = Unit {0}

abbrev pub PopsFit : State ℕ → Log → Type 0
PopsFit s [] = Unit {0}
PopsFit s (e ∷ es) = PopFits e.1 s × PopsFit (next s e) es

-- what the allocation of a level has come to: none is asked for, it has not begun, its cache has this active number
-- since its raise, it took this unit, or it found Free empty
pub data Asked : Type 0 where
  Nothing : Asked
  Wanted : Asked
  Entered : ℕ → Asked
  Took : ℕ → Asked
  Found_none : Asked

abbrev pub asked_after : Asked → Entry → Asked
asked_after a (entry.New name values) = Wanted
asked_after Wanted (entry.Enter c n) = Entered n
asked_after (Entered n) (entry.Pop c u) = Took u
asked_after (Entered n) (entry.PopNone c) = Found_none
asked_after a (entry.Given u life) = Nothing
asked_after a (entry.GivenAfter u life stamp seen) = Nothing
asked_after a entry.Empty = Nothing
asked_after a (entry.Busy n) = Nothing
asked_after a _ = a

-- The reply `empty` stands exactly after an allocation whose pop was none, `busy` exactly after one whose raise named
-- this number above 1, and a unit is given exactly where it was taken. Nothing else is asked for before the reply.
abbrev pub ReplyFits : Asked → Entry → Type 0
ReplyFits a (entry.New name values) = a ≡ Nothing
ReplyFits a (entry.Given u life) = a ≡ Took u
ReplyFits a (entry.GivenAfter u life stamp seen) = a ≡ Took u
ReplyFits a entry.Empty = a ≡ Found_none
ReplyFits a (entry.Busy n) = (a ≡ Entered n) × (1 < n)
ReplyFits a _ = Unit {0}

abbrev pub RepliesFit : Asked → List Entry → Type 0
RepliesFit a [] = Unit {0}
RepliesFit a (e ∷ es) = ReplyFits a e × RepliesFit (asked_after a e) es

abbrev pub asked_at_end : Asked → List Entry → Asked
asked_at_end a [] = a
asked_at_end a (e ∷ es) = asked_at_end (asked_after a e) es

-- the entry neither asks for an object nor answers
abbrev pub is_apart : Entry → Bool
is_apart (entry.New name values) = false
is_apart (entry.Given u life) = false
is_apart (entry.GivenAfter u life stamp seen) = false
is_apart entry.Empty = false
is_apart (entry.Busy n) = false
is_apart _ = true

abbrev pub all_apart : List Entry → Bool
all_apart [] = true
all_apart (e ∷ es) = is_apart e && all_apart es

-- the law, over the log of processor p: of its pops, and of the replies of each level
pub record NullLaw (p : ℕ) (log : Log) : Type 0 where
  pub pops : PopsFit (opening p) log
  pub replies : (l : ℕ) → RepliesFit Nothing (own_entries l log)
