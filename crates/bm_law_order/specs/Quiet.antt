-- Entries that touch nothing of what processors share. (This project's own: journals are.)
use Rattle.std.specs.Prelude.{Bool, true, false}
use Rattle.bm_journal.specs.declared.entry.Entry.{Entry}
use Rattle.bm_journal.specs.declared.entry.Entry.TheVariants as entry

abbrev pub is_quiet : Entry → Bool
is_quiet (entry.Fill c us) = false
is_quiet (entry.In d w) = false
is_quiet (entry.Out d w) = false
is_quiet (entry.Given u life) = false
is_quiet (entry.GivenAfter u life stamp seen) = false
is_quiet (entry.Drop u life) = false
is_quiet (entry.Still k) = false
is_quiet entry.Last = false
is_quiet (entry.Free u home) = false
is_quiet (entry.Delay u home) = false
is_quiet (entry.Acquire u life k) = false
is_quiet (entry.Get u life place value) = false
is_quiet (entry.Xchg name put was from) = false
is_quiet (entry.Lock name) = false
is_quiet (entry.Unlock name) = false
is_quiet (entry.PushFront name u life place) = false
is_quiet (entry.PushBack name u life place) = false
is_quiet (entry.Add name u life place) = false
is_quiet (entry.PushFrontAlready name u life owner place) = false
is_quiet (entry.PushBackAlready name u life owner place) = false
is_quiet (entry.AddAlready name u life owner place) = false
is_quiet (entry.PopFront name x place) = false
is_quiet (entry.PopBack name x place) = false
is_quiet (entry.First name x place) = false
is_quiet (entry.Remove name u life place) = false
is_quiet (entry.Begin d n) = false
is_quiet (entry.Finish period) = false
is_quiet (entry.Receive c us) = false
is_quiet (entry.Fetch c want us) = false
is_quiet (entry.Send c p us) = false
is_quiet (entry.Stamp c d x) = false
is_quiet (entry.Pass c d n) = false
is_quiet (entry.Return c us) = false
is_quiet (entry.Sweep c us) = false
is_quiet _ = true
