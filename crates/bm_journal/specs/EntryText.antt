-- The words of an entry's line, behind its level. One equation for each form of line; docs/journals.md has the same
-- table with the meaning of each form.
use Rattle.std.specs.Prelude.{ℕ, List, [], ◌∷◌, ◌++◌, Option, Some, None, map, decimal, codes}
use Rattle.bm_class.specs.Sizes.{size_of_class}
use Rattle.bm_journal.specs.declared.ids.Domain.{Domain}
use Rattle.bm_journal.specs.declared.ids.Domain.TheVariants.{Plain, Tracing}
use Rattle.bm_journal.specs.declared.ids.ObjId.{ObjId}
use Rattle.bm_journal.specs.declared.ids.Tag.{Tag}
use Rattle.bm_journal.specs.declared.units.Units.{Units}
use Rattle.bm_journal.specs.declared.units.Units.TheVariants.{Whole, Counted}
use Rattle.bm_journal.specs.declared.entry.Entry.{Entry}
use Rattle.bm_journal.specs.declared.entry.Entry.TheVariants as entry

-- a line's words
abbrev pub Words : Type 0
Words = List (List ℕ)

-- numbers, in decimal digits
abbrev pub numbers : List ℕ → Words
numbers ns = map decimal ns

-- a class, by the size of its units
abbrev pub size : ℕ → List ℕ
size class = decimal (size_of_class class)

-- the units that an entry names; where their number alone is kept none is named, and such a list stands in no journal
abbrev pub unit_list : Units → List ℕ
unit_list (Whole us) = us
unit_list (Counted n) = []

abbrev pub units : Units → Words
units us = numbers (unit_list us)

abbrev pub domain : Domain → List ℕ
domain Plain = codes "plain"
domain Tracing = codes "tracing"

-- an object's unit and life, or `none`
abbrev pub object : Option ObjId → Words
object (Some o) = decimal o.unit ∷ decimal o.life ∷ []
object None = codes "none" ∷ []

-- a call's processor and serial number, or `start`
abbrev pub call : Option Tag → Words
call (Some t) = decimal t.processor ∷ decimal t.serial ∷ []
call None = codes "start" ∷ []

abbrev pub words_of : Entry → Words
-- the opening, scripts and handlers
words_of (entry.Fill c us) = codes "fill" ∷ size c ∷ units us
words_of (entry.Script name) = codes "script" ∷ name ∷ []
words_of (entry.Done name) = codes "done" ∷ name ∷ []
words_of (entry.Handler name) = codes "handler" ∷ name ∷ []
words_of (entry.Back name) = codes "back" ∷ name ∷ []
words_of (entry.In d w) = codes "in" ∷ domain d ∷ decimal w ∷ []
words_of (entry.Out d w) = codes "out" ∷ domain d ∷ decimal w ∷ []
words_of entry.Yield = codes "yield" ∷ []
words_of entry.Ended = codes "ended" ∷ []
words_of entry.Close = codes "close" ∷ []
-- calls and replies
words_of (entry.New name vs) = codes "new" ∷ name ∷ numbers vs
words_of (entry.Given u l) = codes "given" ∷ decimal u ∷ decimal l ∷ []
words_of (entry.GivenAfter u l s n) =
    codes "given" ∷ decimal u ∷ decimal l ∷ codes "after" ∷ decimal s ∷ decimal n ∷ []
words_of entry.Empty = codes "empty" ∷ []
words_of (entry.Busy a) = codes "busy" ∷ decimal a ∷ []
words_of (entry.Drop u l) = codes "drop" ∷ decimal u ∷ decimal l ∷ []
words_of (entry.Still k) = codes "still" ∷ decimal k ∷ []
words_of entry.Last = codes "last" ∷ []
words_of (entry.Free u h) = codes "free" ∷ decimal u ∷ decimal h ∷ []
words_of (entry.Delay u h) = codes "delay" ∷ decimal u ∷ decimal h ∷ []
words_of (entry.Acquire u l k) = codes "acquire" ∷ decimal u ∷ decimal l ∷ decimal k ∷ []
words_of (entry.Get u l f v) = codes "get" ∷ decimal u ∷ decimal l ∷ decimal f ∷ decimal v ∷ []
words_of (entry.Xchg name put was by) =
    codes "xchg" ∷ name ∷ codes "put"
    ∷ (object put ++ codes "was" ∷ (object was ++ codes "by" ∷ call by))
words_of (entry.Lock name) = codes "lock" ∷ name ∷ []
words_of (entry.Unlock name) = codes "unlock" ∷ name ∷ []
words_of (entry.PushFront name u l pos) =
    codes "push_front" ∷ name ∷ decimal u ∷ decimal l ∷ codes "at" ∷ decimal pos ∷ []
words_of (entry.PushBack name u l pos) =
    codes "push_back" ∷ name ∷ decimal u ∷ decimal l ∷ codes "at" ∷ decimal pos ∷ []
words_of (entry.Add name u l pos) =
    codes "add" ∷ name ∷ decimal u ∷ decimal l ∷ codes "at" ∷ decimal pos ∷ []
words_of (entry.PushFrontAlready name u l owner pos) =
    codes "push_front" ∷ name ∷ decimal u ∷ decimal l ∷ codes "already" ∷ owner ∷ codes "at"
    ∷ decimal pos ∷ []
words_of (entry.PushBackAlready name u l owner pos) =
    codes "push_back" ∷ name ∷ decimal u ∷ decimal l ∷ codes "already" ∷ owner ∷ codes "at"
    ∷ decimal pos ∷ []
words_of (entry.AddAlready name u l owner pos) =
    codes "add" ∷ name ∷ decimal u ∷ decimal l ∷ codes "already" ∷ owner ∷ codes "at" ∷ decimal pos
    ∷ []
words_of (entry.PopFront name x pos) =
    codes "pop_front" ∷ name ∷ (object x ++ codes "at" ∷ decimal pos ∷ [])
words_of (entry.PopBack name x pos) =
    codes "pop_back" ∷ name ∷ (object x ++ codes "at" ∷ decimal pos ∷ [])
words_of (entry.First name x pos) =
    codes "first" ∷ name ∷ (object x ++ codes "at" ∷ decimal pos ∷ [])
words_of (entry.Remove name u l pos) =
    codes "remove" ∷ name ∷ decimal u ∷ decimal l ∷ codes "at" ∷ decimal pos ∷ []
-- deferred work and periods
words_of (entry.Work c) = codes "work" ∷ size c ∷ []
words_of (entry.Begin d n) = codes "begin" ∷ domain d ∷ decimal n ∷ []
words_of (entry.Finish p) =
    codes "finish" ∷ domain p.domain ∷ decimal p.number ∷ codes "first"
    ∷ (numbers p.first ++ codes "later" ∷ numbers p.later)
-- steps
words_of (entry.Enter c a) = codes "enter" ∷ size c ∷ decimal a ∷ []
words_of (entry.Pop c u) = codes "pop" ∷ size c ∷ decimal u ∷ []
words_of (entry.PopNone c) = codes "pop" ∷ size c ∷ codes "none" ∷ []
words_of (entry.Count c k) = codes "count" ∷ size c ∷ decimal k ∷ []
words_of (entry.Leave c a) = codes "leave" ∷ size c ∷ decimal a ∷ []
words_of (entry.Raise c) = codes "raise" ∷ size c ∷ []
words_of (entry.Push c u) = codes "push" ∷ size c ∷ decimal u ∷ []
words_of (entry.Delayed c u) = codes "delayed" ∷ size c ∷ decimal u ∷ []
words_of (entry.Look c k) = codes "look" ∷ size c ∷ decimal k ∷ []
words_of (entry.Put c u) = codes "put" ∷ size c ∷ decimal u ∷ []
words_of (entry.Lost c) = codes "lost" ∷ size c ∷ []
words_of (entry.LookDelayed c k) = codes "lookd" ∷ size c ∷ decimal k ∷ []
words_of (entry.PutDelayed c u) = codes "putd" ∷ size c ∷ decimal u ∷ []
words_of (entry.LostDelayed c) = codes "lostd" ∷ size c ∷ []
words_of (entry.Receive c us) = codes "receive" ∷ size c ∷ units us
words_of (entry.Read c k) = codes "read" ∷ size c ∷ decimal k ∷ []
words_of (entry.Ready c u) = codes "ready" ∷ size c ∷ decimal u ∷ []
words_of (entry.Second c u) = codes "second" ∷ size c ∷ decimal u ∷ []
words_of (entry.Fetch c want us) = codes "fetch" ∷ size c ∷ decimal want ∷ units us
words_of (entry.TakeExtra c us) = codes "takex" ∷ size c ∷ units us
words_of (entry.Send c p us) = codes "send" ∷ size c ∷ decimal p ∷ units us
words_of (entry.TakeDelayed c us) = codes "taked" ∷ size c ∷ units us
words_of (entry.Batch c us) = codes "batch" ∷ size c ∷ units us
words_of (entry.Stamp c d s) = codes "stamp" ∷ size c ∷ domain d ∷ decimal s ∷ []
words_of (entry.Pass c d n) = codes "pass" ∷ size c ∷ domain d ∷ decimal n ∷ []
words_of (entry.BeginSecond c us) = codes "begin2" ∷ size c ∷ units us
words_of (entry.Return c us) = codes "return" ∷ size c ∷ units us
words_of (entry.Sweep c us) = codes "sweep" ∷ size c ∷ units us
