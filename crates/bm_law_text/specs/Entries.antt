-- What an entry's words say, read by their form. A form has so many words behind the first; which entry they make is told by the kind.
use Rattle.std.specs.Prelude.{ℕ, ◌+◌, ◌^◌, List, [], ◌∷◌, Option, Some, None, codes, position, take, drop, if◌then◌else◌}
use Rattle.bm_journal.specs.declared.ids.Domain.{Domain}
use Rattle.bm_journal.specs.declared.ids.ObjId.{ObjId}
use Rattle.bm_journal.specs.declared.units.Units.TheVariants.{Whole}
use Rattle.bm_journal.specs.declared.entry.Entry.{Entry}
use Rattle.bm_journal.specs.declared.entry.Entry.TheVariants as entry
use Rattle.bm_journal.specs.EntryText.{Words}
use Rattle.bm_law_text.specs.declared.kind.Kind.{Kind}
use Rattle.bm_law_text.specs.declared.kind.Kind.TheVariants as kind
use Rattle.bm_law_text.specs.Kinds.{kind_of}
use Rattle.bm_law_text.specs.Parts.{after, only_if, word_is, number, name, class, domain, numbers, few, object_id, object, call}

-- ---- the word alone

abbrev pub bare_entry : Kind → Option Entry
bare_entry kind.Yield = Some entry.Yield
bare_entry kind.Ended = Some entry.Ended
bare_entry kind.Close = Some entry.Close
bare_entry kind.Empty = Some entry.Empty
bare_entry kind.Last = Some entry.Last
bare_entry k = None

abbrev pub bare : Kind → Words → Option Entry
bare k [] = bare_entry k
bare k words = None

-- ---- a name

abbrev pub named_entry : Kind → List ℕ → Option Entry
named_entry kind.Script n = Some (entry.Script n)
named_entry kind.Done n = Some (entry.Done n)
named_entry kind.Handler n = Some (entry.Handler n)
named_entry kind.Back n = Some (entry.Back n)
named_entry kind.Lock n = Some (entry.Lock n)
named_entry kind.Unlock n = Some (entry.Unlock n)
named_entry k n = None

abbrev pub named : Kind → Words → Option Entry
named k (n ∷ []) = after (name n) (named_entry k)
named k words = None

-- ---- a domain and a number

abbrev pub of_domain_entry : Kind → Domain → ℕ → Option Entry
of_domain_entry kind.In d n = Some (entry.In d n)
of_domain_entry kind.Out d n = Some (entry.Out d n)
of_domain_entry kind.Begin d n = Some (entry.Begin d n)
of_domain_entry k d n = None

abbrev pub of_domain : Kind → Words → Option Entry
of_domain k (d ∷ n ∷ []) = after (domain d) (λ d. after (number (2 ^ 32) n) (of_domain_entry k d))
of_domain k words = None

-- ---- numbers

abbrev pub one_entry : Kind → ℕ → Option Entry
one_entry kind.Busy a = Some (entry.Busy a)
one_entry kind.Still a = Some (entry.Still a)
one_entry k a = None

abbrev pub one : Kind → Words → Option Entry
one k (a ∷ []) = after (number (2 ^ 32) a) (one_entry k)
one k words = None

-- a unit and its home
abbrev pub freed_entry : Kind → ℕ → ℕ → Option Entry
freed_entry kind.Free u h = Some (entry.Free u h)
freed_entry kind.Delay u h = Some (entry.Delay u h)
freed_entry k u h = None

abbrev pub freed : Kind → Words → Option Entry
freed k (u ∷ h ∷ []) = after (number (2 ^ 16) u) (λ u. after (number (2 ^ 8) h) (freed_entry k u))
freed k words = None

abbrev pub dropped : Words → Option Entry
dropped (u ∷ l ∷ []) = after (object_id u l) (λ o. Some (entry.Drop o.unit o.life))
dropped words = None

abbrev pub given : Words → Option Entry
given (u ∷ l ∷ []) = after (object_id u l) (λ o. Some (entry.Given o.unit o.life))
given (u ∷ l ∷ a ∷ s ∷ n ∷ []) =
    only_if (word_is (codes "after") a)
    (after (object_id u l)
    (λ o. after (number (2 ^ 32) s)
    (λ s. after (number (2 ^ 32) n) (λ n. Some (entry.GivenAfter o.unit o.life s n)))))
given words = None

abbrev pub acquired : Words → Option Entry
acquired (u ∷ l ∷ k ∷ []) =
    after (object_id u l)
    (λ o. after (number (2 ^ 32) k) (λ k. Some (entry.Acquire o.unit o.life k)))
acquired words = None

abbrev pub got : Words → Option Entry
got (u ∷ l ∷ f ∷ v ∷ []) =
    after (object_id u l)
    (λ o. after (number (2 ^ 8) f)
    (λ f. after (number (2 ^ 32) v) (λ v. Some (entry.Get o.unit o.life f v))))
got words = None

-- ---- a name, and what was done there

abbrev pub new : Words → Option Entry
new (n ∷ vs) = after (name n) (λ n. after (few 8 vs) (λ vs. Some (entry.New n vs)))
new words = None

-- the words after this one
abbrev pub past_word : List ℕ → Words → Option Words
past_word text [] = None
past_word text (w ∷ words) = only_if (word_is text w) (Some words)

abbrev pub exchanged : Words → Option Entry
exchanged [] = None
exchanged (n ∷ words) =
    after (name n)
    (λ n. after (past_word (codes "put") words)
    (λ words. after (object words)
    (λ put. after (past_word (codes "was") put.1)
    (λ words. after (object words)
    (λ was. after (past_word (codes "by") was.1)
    (λ words. after (call words)
    (λ by. Some (entry.Xchg n put.0 was.0 by))))))))

-- a position, behind `at`
abbrev pub at_position : List ℕ → List ℕ → Option ℕ
at_position a p = only_if (word_is (codes "at") a) (number (2 ^ 32) p)

abbrev pub pushed_entry : Kind → List ℕ → ObjId → ℕ → Option Entry
pushed_entry kind.PushFront n o p = Some (entry.PushFront n o.unit o.life p)
pushed_entry kind.PushBack n o p = Some (entry.PushBack n o.unit o.life p)
pushed_entry kind.Add n o p = Some (entry.Add n o.unit o.life p)
pushed_entry kind.Remove n o p = Some (entry.Remove n o.unit o.life p)
pushed_entry k n o p = None

abbrev pub refused_entry : Kind → List ℕ → ObjId → List ℕ → ℕ → Option Entry
refused_entry kind.PushFront n o owner p = Some (entry.PushFrontAlready n o.unit o.life owner p)
refused_entry kind.PushBack n o owner p = Some (entry.PushBackAlready n o.unit o.life owner p)
refused_entry kind.Add n o owner p = Some (entry.AddAlready n o.unit o.life owner p)
refused_entry k n o owner p = None

abbrev pub pushed_at : Kind → List ℕ → Option ObjId → Option ℕ → Option Entry
pushed_at k n o p = after (name n) (λ n. after o (λ o. after p (pushed_entry k n o)))

abbrev pub refused_at : Kind → List ℕ → Option ObjId → List ℕ → List ℕ → Option ℕ → Option Entry
refused_at k n o y owner p =
    only_if (word_is (codes "already") y)
    (after (name n)
    (λ n. after o (λ o. after (name owner) (λ owner. after p (refused_entry k n o owner)))))

abbrev pub pushed : Kind → Words → Option Entry
pushed k (n ∷ u ∷ l ∷ a ∷ p ∷ []) = pushed_at k n (object_id u l) (at_position a p)
pushed k (n ∷ u ∷ l ∷ y ∷ owner ∷ a ∷ p ∷ []) =
    refused_at k n (object_id u l) y owner (at_position a p)
pushed k words = None

abbrev pub found_entry : Kind → List ℕ → Option ObjId → ℕ → Option Entry
found_entry kind.PopFront n x p = Some (entry.PopFront n x p)
found_entry kind.PopBack n x p = Some (entry.PopBack n x p)
found_entry kind.First n x p = Some (entry.First n x p)
found_entry k n x p = None

abbrev pub found_none : Kind → List ℕ → List ℕ → Option ℕ → Option Entry
found_none k n x p =
    only_if (word_is (codes "none") x) (after (name n) (λ n. after p (found_entry k n None)))

abbrev pub found_at : Kind → List ℕ → Option ObjId → Option ℕ → Option Entry
found_at k n o p = after (name n) (λ n. after o (λ o. after p (found_entry k n (Some o))))

abbrev pub found : Kind → Words → Option Entry
found k (n ∷ x ∷ a ∷ p ∷ []) = found_none k n x (at_position a p)
found k (n ∷ u ∷ l ∷ a ∷ p ∷ []) = found_at k n (object_id u l) (at_position a p)
found k words = None

-- ---- the end of a period: the words before `later` and those behind it

abbrev pub both_few : Words → Words → Option (List ℕ × List ℕ)
both_few before behind =
    after (few 16 before) (λ first. after (few 16 behind) (λ later. Some (first, later)))

abbrev pub words_at : Words → ℕ → Option (List ℕ × List ℕ)
words_at words place = both_few (take place words) (drop (place + 1) words)

abbrev pub looked_at : Words → Option (List ℕ × List ℕ)
looked_at words = after (position (λ w. word_is (codes "later") w) words) (words_at words)

abbrev pub finished : Words → Option Entry
finished (d ∷ n ∷ f ∷ words) =
    only_if (word_is (codes "first") f)
    (after (domain d)
    (λ d. after (number (2 ^ 32) n)
    (λ n. after (looked_at words)
    (λ ws. Some
    (entry.Finish
    (record { domain = d; number = n; first = ws.0; later = ws.1 }))))))
finished words = None

-- ---- a class, and what was done there

abbrev pub of_class_entry : Kind → ℕ → Option Entry
of_class_entry kind.Work c = Some (entry.Work c)
of_class_entry kind.Raise c = Some (entry.Raise c)
of_class_entry kind.Lost c = Some (entry.Lost c)
of_class_entry kind.LostDelayed c = Some (entry.LostDelayed c)
of_class_entry k c = None

abbrev pub of_class : Kind → Words → Option Entry
of_class k (c ∷ []) = after (class c) (of_class_entry k)
of_class k words = None

abbrev pub class_number_entry : Kind → ℕ → ℕ → Option Entry
class_number_entry kind.Enter c n = Some (entry.Enter c n)
class_number_entry kind.Count c n = Some (entry.Count c n)
class_number_entry kind.Leave c n = Some (entry.Leave c n)
class_number_entry kind.Look c n = Some (entry.Look c n)
class_number_entry kind.LookDelayed c n = Some (entry.LookDelayed c n)
class_number_entry kind.Read c n = Some (entry.Read c n)
class_number_entry k c n = None

abbrev pub class_number : Kind → Words → Option Entry
class_number k (c ∷ n ∷ []) =
    after (class c) (λ c. after (number (2 ^ 32) n) (class_number_entry k c))
class_number k words = None

abbrev pub class_unit_entry : Kind → ℕ → ℕ → Option Entry
class_unit_entry kind.Push c u = Some (entry.Push c u)
class_unit_entry kind.Delayed c u = Some (entry.Delayed c u)
class_unit_entry kind.Put c u = Some (entry.Put c u)
class_unit_entry kind.PutDelayed c u = Some (entry.PutDelayed c u)
class_unit_entry kind.Ready c u = Some (entry.Ready c u)
class_unit_entry kind.Second c u = Some (entry.Second c u)
class_unit_entry kind.Pop c u = Some (entry.Pop c u)
class_unit_entry k c u = None

abbrev pub class_unit : Kind → Words → Option Entry
class_unit k (c ∷ u ∷ []) = after (class c) (λ c. after (number (2 ^ 16) u) (class_unit_entry k c))
class_unit k words = None

abbrev pub popped : Words → Option Entry
popped (c ∷ u ∷ []) =
    if word_is (codes "none") u then after (class c) (λ c. Some (entry.PopNone c))
    else class_unit kind.Pop (c ∷ u ∷ [])
popped words = None

abbrev pub class_units_entry : Kind → ℕ → List ℕ → Option Entry
class_units_entry kind.Fill c us = Some (entry.Fill c (Whole us))
class_units_entry kind.Receive c us = Some (entry.Receive c (Whole us))
class_units_entry kind.TakeExtra c us = Some (entry.TakeExtra c (Whole us))
class_units_entry kind.TakeDelayed c us = Some (entry.TakeDelayed c (Whole us))
class_units_entry kind.Batch c us = Some (entry.Batch c (Whole us))
class_units_entry kind.BeginSecond c us = Some (entry.BeginSecond c (Whole us))
class_units_entry kind.Return c us = Some (entry.Return c (Whole us))
class_units_entry kind.Sweep c us = Some (entry.Sweep c (Whole us))
class_units_entry k c us = None

abbrev pub class_units : Kind → Words → Option Entry
class_units k (c ∷ us) = after (class c) (λ c. after (numbers (2 ^ 16) us) (class_units_entry k c))
class_units k words = None

abbrev pub fetched : Words → Option Entry
fetched (c ∷ n ∷ us) =
    after (class c)
    (λ c. after (number (2 ^ 32) n)
    (λ n. after (numbers (2 ^ 16) us) (λ us. Some (entry.Fetch c n (Whole us)))))
fetched words = None

abbrev pub sent : Words → Option Entry
sent (c ∷ p ∷ us) =
    after (class c)
    (λ c. after (number (2 ^ 8) p)
    (λ p. after (numbers (2 ^ 16) us) (λ us. Some (entry.Send c p (Whole us)))))
sent words = None

abbrev pub class_domain_entry : Kind → ℕ → Domain → ℕ → Option Entry
class_domain_entry kind.Stamp c d n = Some (entry.Stamp c d n)
class_domain_entry kind.Pass c d n = Some (entry.Pass c d n)
class_domain_entry k c d n = None

abbrev pub class_domain : Kind → Words → Option Entry
class_domain k (c ∷ d ∷ n ∷ []) =
    after (class c)
    (λ c. after (domain d) (λ d. after (number (2 ^ 32) n) (class_domain_entry k c d)))
class_domain k words = None

-- ---- the whole: the kind decides the form

abbrev pub entry_as : Kind → Words → Option Entry
entry_as kind.Fill ws = class_units kind.Fill ws
entry_as kind.Script ws = named kind.Script ws
entry_as kind.Done ws = named kind.Done ws
entry_as kind.Handler ws = named kind.Handler ws
entry_as kind.Back ws = named kind.Back ws
entry_as kind.In ws = of_domain kind.In ws
entry_as kind.Out ws = of_domain kind.Out ws
entry_as kind.Yield ws = bare kind.Yield ws
entry_as kind.Ended ws = bare kind.Ended ws
entry_as kind.Close ws = bare kind.Close ws
entry_as kind.New ws = new ws
entry_as kind.Given ws = given ws
entry_as kind.Empty ws = bare kind.Empty ws
entry_as kind.Busy ws = one kind.Busy ws
entry_as kind.Drop ws = dropped ws
entry_as kind.Still ws = one kind.Still ws
entry_as kind.Last ws = bare kind.Last ws
entry_as kind.Free ws = freed kind.Free ws
entry_as kind.Delay ws = freed kind.Delay ws
entry_as kind.Acquire ws = acquired ws
entry_as kind.Get ws = got ws
entry_as kind.Xchg ws = exchanged ws
entry_as kind.Lock ws = named kind.Lock ws
entry_as kind.Unlock ws = named kind.Unlock ws
entry_as kind.PushFront ws = pushed kind.PushFront ws
entry_as kind.PushBack ws = pushed kind.PushBack ws
entry_as kind.Add ws = pushed kind.Add ws
entry_as kind.PopFront ws = found kind.PopFront ws
entry_as kind.PopBack ws = found kind.PopBack ws
entry_as kind.First ws = found kind.First ws
entry_as kind.Remove ws = pushed kind.Remove ws
entry_as kind.Work ws = of_class kind.Work ws
entry_as kind.Begin ws = of_domain kind.Begin ws
entry_as kind.Finish ws = finished ws
entry_as kind.Enter ws = class_number kind.Enter ws
entry_as kind.Pop ws = popped ws
entry_as kind.Count ws = class_number kind.Count ws
entry_as kind.Leave ws = class_number kind.Leave ws
entry_as kind.Raise ws = of_class kind.Raise ws
entry_as kind.Push ws = class_unit kind.Push ws
entry_as kind.Delayed ws = class_unit kind.Delayed ws
entry_as kind.Look ws = class_number kind.Look ws
entry_as kind.Put ws = class_unit kind.Put ws
entry_as kind.Lost ws = of_class kind.Lost ws
entry_as kind.LookDelayed ws = class_number kind.LookDelayed ws
entry_as kind.PutDelayed ws = class_unit kind.PutDelayed ws
entry_as kind.LostDelayed ws = of_class kind.LostDelayed ws
entry_as kind.Receive ws = class_units kind.Receive ws
entry_as kind.Read ws = class_number kind.Read ws
entry_as kind.Ready ws = class_unit kind.Ready ws
entry_as kind.Second ws = class_unit kind.Second ws
entry_as kind.Fetch ws = fetched ws
entry_as kind.TakeExtra ws = class_units kind.TakeExtra ws
entry_as kind.Send ws = sent ws
entry_as kind.TakeDelayed ws = class_units kind.TakeDelayed ws
entry_as kind.Batch ws = class_units kind.Batch ws
entry_as kind.Stamp ws = class_domain kind.Stamp ws
entry_as kind.Pass ws = class_domain kind.Pass ws
entry_as kind.BeginSecond ws = class_units kind.BeginSecond ws
entry_as kind.Return ws = class_units kind.Return ws
entry_as kind.Sweep ws = class_units kind.Sweep ws

-- the entry with these words
abbrev pub entry_of : Words → Option Entry
entry_of [] = None
entry_of (w ∷ ws) = after (kind_of w) (λ k. entry_as k ws)
