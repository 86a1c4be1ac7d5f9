-- The calls of a log, the tag by which one is named, and the lock that a log holds. (This project's own: journals are.)
use Rattle.std.specs.Prelude.{ℕ, ◌+◌, Bool, true, false, ◌||◌, if◌then◌else◌, List, [], ◌∷◌, None, Option, Some}
use Rattle.bm_journal.specs.declared.ids.Tag.{Tag}
use Rattle.bm_journal.specs.declared.entry.Entry.{Entry}
use Rattle.bm_journal.specs.declared.entry.Entry.TheVariants as entry
use Rattle.bm_law.specs.Lists.{Log}

-- a script calls, for an object, a reference, a value, a slot, or a list or tree; a refused call is one too
abbrev pub is_call : Entry → Bool
is_call (entry.New name values) = true
is_call (entry.Drop u life) = true
is_call (entry.Acquire u life k) = true
is_call (entry.Get u life place value) = true
is_call (entry.Xchg name put was by) = true
is_call (entry.PushFront name u life pos) = true
is_call (entry.PushBack name u life pos) = true
is_call (entry.Add name u life pos) = true
is_call (entry.PushFrontAlready name u life owner pos) = true
is_call (entry.PushBackAlready name u life owner pos) = true
is_call (entry.AddAlready name u life owner pos) = true
is_call (entry.PopFront name item pos) = true
is_call (entry.PopBack name item pos) = true
is_call (entry.First name item pos) = true
is_call (entry.Remove name u life pos) = true
is_call _ = false

-- how many calls a log has after an entry, and after several; of all levels together
abbrev pub calls_after : ℕ → ℕ × Entry → ℕ
calls_after n e = if is_call e.1 then n + 1 else n

abbrev pub calls_over : ℕ → Log → ℕ
calls_over n [] = n
calls_over n (e ∷ es) = calls_over (calls_after n e) es

abbrev pub calls_in : Log → ℕ
calls_in log = calls_over 0 log

-- the call of processor p that has n calls of its log before it: serials begin with 1
abbrev pub tag_after : (p n : ℕ) → Tag
tag_after p n = record { processor = p; serial = n + 1 }

-- the list or tree whose lock a log holds at its end, if any
abbrev pub lock_after : Option (List ℕ) → Entry → Option (List ℕ)
lock_after held (entry.Lock name) = Some name
lock_after held (entry.Unlock name) = None
lock_after held _ = held

abbrev pub lock_over : Option (List ℕ) → Log → Option (List ℕ)
lock_over held [] = held
lock_over held (e ∷ es) = lock_over (lock_after held e.1) es

abbrev pub lock_in : Log → Option (List ℕ)
lock_in log = lock_over None log

-- whether a log has the begin of the closing
abbrev pub is_close : Entry → Bool
is_close entry.Close = true
is_close _ = false

abbrev pub closes : Log → Bool
closes [] = false
closes (e ∷ es) = is_close e.1 || closes es
