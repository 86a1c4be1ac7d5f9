-- What a level asks for, by the entries of its log. A handler asks and is answered while the code that it interrupts waits. (In the kernel
-- bpf_obj_new_impl returns what bpf_mem_alloc gives. That entries say so is this project's own.)
use Rattle.std.specs.Prelude.{◌≡◌, ℕ, List, [], ◌∷◌, Option, None, Some}
use Rattle.bm_journal.specs.declared.entry.Entry.{Entry}
use Rattle.bm_journal.specs.declared.entry.Entry.TheVariants as entry
use Rattle.bm_law.specs.Lists.{Log}
use Rattle.bm_law.specs.Spans.{own_entries}

-- the values of the object that is asked for after an entry of the level, where there is no reply yet
abbrev pub asked_after : Entry → Option (List ℕ) → Option (List ℕ)
asked_after (entry.New name values) asked = Some values
asked_after (entry.Given u life) asked = None
asked_after (entry.GivenAfter u life stamp seen) asked = None
asked_after entry.Empty asked = None
asked_after (entry.Busy active) asked = None
asked_after _ asked = asked

-- .. and after several
abbrev pub asked_over : List Entry → Option (List ℕ) → Option (List ℕ)
asked_over [] asked = asked
asked_over (e ∷ own) asked = asked_over own (asked_after e asked)

-- Behind this log level l asks for an object with these values of its fields.
abbrev pub AsksFor : (l : ℕ) → (values : List ℕ) → Log → Type 0
AsksFor l values log = asked_over (own_entries l log) None ≡ Some values
