-- The phrases of single calls: the entries of their own level, in order. (unit_alloc, unit_free and unit_free_rcu in
-- kernel/bpf/memalloc.c; in which cases the flag is raised is this project's own.)
use Rattle.std.specs.Prelude.{◌≡◌, ◌⊎◌, ◌<◌, ℕ, Bool, Option, Some, None, List, [], ◌∷◌, ◌++◌, if◌then◌else◌, nat_lt}
use Rattle.bm_class.specs.Sizes.{size_of_class}
use Rattle.bm_class.specs.Watermarks.{low_of_size, high_of_size}
use Rattle.bm_journal.specs.declared.entry.Entry.{Entry}
use Rattle.bm_journal.specs.declared.entry.Entry.TheVariants as entry

-- the flag is raised where the count seen is below the low mark
abbrev pub raise_below : ℕ → ℕ → List Entry
raise_below c seen = if nat_lt seen (low_of_size (size_of_class c)) then entry.Raise c ∷ [] else []

-- the flag is raised where the count seen is above the high mark
abbrev pub raise_above : ℕ → ℕ → List Entry
raise_above c seen = if nat_lt (high_of_size (size_of_class c)) seen then entry.Raise c ∷ [] else []

-- the flag is raised unless a plain batch is in progress
abbrev pub raise_unless : Bool → ℕ → List Entry
raise_unless in_progress c = if in_progress then [] else entry.Raise c ∷ []

-- the reply that gives a unit; after a delayed free of the life before with the plain stamp and the number seen for it
abbrev pub given : ℕ → ℕ → Option (ℕ × ℕ) → Entry
given u life None = entry.Given u life
given u life (Some seal) = entry.GivenAfter u life seal.0 seal.1

-- An allocation with its reply: it took the top of Free, found Free empty, or found the cache in use. k is the free
-- count after the take, b the active number after the raise, and a the one after it was lowered.
abbrev pub alloc_took : ℕ → ℕ → ℕ → Option (ℕ × ℕ) → ℕ → ℕ → List Entry
alloc_took c u life seal k a =
    entry.Enter c 1 ∷ entry.Pop c u ∷ entry.Count c k ∷ entry.Leave c a ∷ raise_below c k
    ++ given u life seal ∷ []

abbrev pub alloc_empty : ℕ → ℕ → List Entry
alloc_empty c a =
    entry.Enter c 1 ∷ entry.PopNone c ∷ entry.Leave c a ∷ raise_below c 0 ++ entry.Empty ∷ []

abbrev pub alloc_busy : ℕ → ℕ → ℕ → List Entry
alloc_busy c b a = entry.Enter c b ∷ entry.Leave c a ∷ raise_below c 0 ++ entry.Busy b ∷ []

abbrev pub AllocPhrase : ℕ → List Entry → Type 0
AllocPhrase c own =
    ((u life : ℕ) × (seal : Option (ℕ × ℕ)) × (k a : ℕ) × (own ≡ alloc_took c u life seal k a))
    ⊎ (((a : ℕ) × (own ≡ alloc_empty c a))
    ⊎ ((b a : ℕ) × (1 < b) × (own ≡ alloc_busy c b a)))

-- looks at Extra, and at ExtraDelayed, that were overtaken
abbrev pub overtaken : ℕ → List ℕ → List Entry
overtaken c [] = []
overtaken c (k ∷ ks) = entry.Look c k ∷ entry.Lost c ∷ overtaken c ks

abbrev pub overtaken_delayed : ℕ → List ℕ → List Entry
overtaken_delayed c [] = []
overtaken_delayed c (k ∷ ks) = entry.LookDelayed c k ∷ entry.LostDelayed c ∷ overtaken_delayed c ks

-- A plain free: pushed on Free, or put on Extra after so many overtaken looks where the cache was in use.
abbrev pub free_pushed : ℕ → ℕ → ℕ → ℕ → ℕ → List Entry
free_pushed c u home k a =
    entry.Free u home ∷ entry.Enter c 1 ∷ entry.Push c u ∷ entry.Count c k ∷ entry.Leave c a
    ∷ raise_above c k

abbrev pub free_put : ℕ → ℕ → ℕ → ℕ → List ℕ → ℕ → ℕ → List Entry
free_put c u home b lost k a =
    entry.Free u home ∷ entry.Enter c b ∷ overtaken c lost ++ entry.Look c k ∷ entry.Put c u
    ∷ entry.Leave c a ∷ []

abbrev pub FreePhrase : ℕ → ℕ → ℕ → List Entry → Type 0
FreePhrase c u home own =
    ((k a : ℕ) × (own ≡ free_pushed c u home k a))
    ⊎ ((b : ℕ) × (lost : List ℕ) × (k a : ℕ) × (1 < b) × (own ≡ free_put c u home b lost k a))

-- A delayed free, with whether a plain batch is in progress: put on Delayed, or on ExtraDelayed where the cache was in
-- use.
abbrev pub delay_pushed : ℕ → ℕ → ℕ → ℕ → Bool → List Entry
delay_pushed c u home a in_progress =
    entry.Delay u home ∷ entry.Enter c 1 ∷ entry.Delayed c u ∷ entry.Leave c a
    ∷ raise_unless in_progress c

abbrev pub delay_put : ℕ → ℕ → ℕ → ℕ → List ℕ → ℕ → ℕ → Bool → List Entry
delay_put c u home b lost k a in_progress =
    entry.Delay u home ∷ entry.Enter c b ∷ overtaken_delayed c lost ++ entry.LookDelayed c k
    ∷ entry.PutDelayed c u ∷ entry.Leave c a ∷ raise_unless in_progress c

abbrev pub DelayPhrase : ℕ → ℕ → ℕ → Bool → List Entry → Type 0
DelayPhrase c u home in_progress own =
    ((a : ℕ) × (own ≡ delay_pushed c u home a in_progress))
    ⊎ ((b : ℕ) × (lost : List ℕ) × (k a : ℕ) × (1 < b)
    × (own ≡ delay_put c u home b lost k a in_progress))

-- the addition of a unit in hand to Free
abbrev pub added : ℕ → ℕ → ℕ → ℕ → List Entry
added c u k a = entry.Enter c 1 ∷ entry.Push c u ∷ entry.Count c k ∷ entry.Leave c a ∷ []

abbrev pub AddPhrase : ℕ → ℕ → List Entry → Type 0
AddPhrase c u own = (k a : ℕ) × (own ≡ added c u k a)
