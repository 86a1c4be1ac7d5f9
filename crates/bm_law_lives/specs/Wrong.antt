-- Wrong journals, by their logs: each one step away from a worked one.
use Rattle.std.specs.Prelude.{List, [], ◌∷◌, ◌++◌}
use Rattle.bm_journal.specs.declared.ids.Domain.TheVariants.{Plain, Tracing}
use Rattle.bm_journal.specs.declared.units.Units.TheVariants.{Whole}
use Rattle.bm_journal.specs.declared.entry.Entry.{Entry}
use Rattle.bm_journal.specs.declared.entry.Entry.TheVariants as entry
use Rattle.bm_law.specs.Lists.{Log}
use Rattle.bm_law.specs.Ordinary.{ordinary}
use Rattle.bm_law_lives.specs.Worked.{opens, frees, delays, ends, period, batches, sends, seconds, returns, sweeps, first_life, first_stage, second_stage, given_second, second_life, lends, reader_of, borrows, hands_on, lends_and_sweeps}

-- ---- lives

-- One processor frees unit 0 with delay, and gives it again: this stands behind its second stage.
abbrev pub lives_on : List Entry → List Log
lives_on behind = ordinary (first_life ++ first_stage ++ second_stage ++ behind) ∷ []

-- Life 1 is given twice; life 2 is left out; life 1 ends twice; and life 2 doesn't end.
abbrev pub given_twice : List Log
given_twice = lives_on (second_life (entry.GivenAfter 0 1 2 2) 1)

abbrev pub left_out : List Log
left_out = lives_on (second_life (entry.GivenAfter 0 3 2 2) 3)

abbrev pub ended_twice : List Log
ended_twice = lives_on (second_life (entry.GivenAfter 0 2 2 2) 1)

abbrev pub never_ended : List Log
never_ended = lives_on (given_second (entry.GivenAfter 0 2 2 2))

-- Behind `last` stands the free of another unit; and the next call.
abbrev pub other_freed : List Log
other_freed = ordinary (lends ++ entry.Drop 0 1 ∷ entry.Last ∷ entry.Free 256 0 ∷ []) ∷ []

abbrev pub not_freed : List Log
not_freed = ordinary (lends ++ entry.Drop 0 1 ∷ entry.Last ∷ entry.In Plain 3 ∷ []) ∷ []

-- Processor 1 frees what processor 0 gave: it names itself as home. And it frees what nobody gave.
abbrev pub other_home : List Log
other_home = lends_and_sweeps ∷ ordinary (borrows 1 ++ hands_on) ∷ []

abbrev pub never_given : List Log
never_given = ordinary (opens (0 ∷ [])) ∷ ordinary (borrows 0) ∷ []

-- ---- returns

-- Unit 0 isn't returned at the end; it is returned twice; and another unit is.
abbrev pub swept_so : List Entry → List Log
swept_so returned =
    lives_on
    (second_life (entry.GivenAfter 0 2 2 2) 2 ++ sweeps 0 4
    ++ period Tracing 3 (4 ∷ 0 ∷ []) (4 ∷ 0 ∷ []) ++ returned)

abbrev pub never_returned : List Log
never_returned = swept_so (entry.Pass 10 Tracing 4 ∷ [])

abbrev pub returned_twice : List Log
returned_twice = swept_so (returns 0 4 ++ returns 0 4)

abbrev pub other_returned : List Log
other_returned = swept_so (returns 256 4)

-- Processor 1 sends unit 0 to processor 0: it receives the parcel itself; nobody receives it; processor 0 receives it twice; it
-- receives it in another class; its sweep takes another one; and the parcel goes to a processor that isn't there.
abbrev pub received_so : List Entry → List Entry → List Log
received_so home away = ordinary (lends ++ home) ∷ ordinary (borrows 0 ++ hands_on ++ away) ∷ []

abbrev pub received_by_other : List Log
received_by_other =
    received_so []
    (entry.Receive 10 (Whole (0 ∷ [])) ∷ entry.Sweep 10 (Whole (0 ∷ [])) ∷ returns 0 2)

abbrev pub never_received : List Log
never_received = received_so (returns 0 2) []

abbrev pub received_twice : List Log
received_twice =
    received_so
    (entry.Receive 10 (Whole (0 ∷ [])) ∷ entry.Receive 10 (Whole (0 ∷ [])) ∷ returns 0 2) []

abbrev pub other_class_received : List Log
other_class_received = received_so (entry.Receive 9 (Whole (0 ∷ [])) ∷ returns 0 2) []

abbrev pub other_swept : List Log
other_swept = received_so (sweeps 256 2 ++ returns 0 2) []

abbrev pub sent_to_nobody : List Log
sent_to_nobody = ordinary (lends ++ returns 0 2) ∷ ordinary (borrows 0 ++ sends 0 2 2) ∷ []

-- ---- grace periods

-- Processor 1 waits for a plain period, with these entries, while processor 0 is in a section or was in one.
abbrev pub waits_so : List Entry → List Entry → List Log
waits_so other own =
    ordinary (entry.In Plain 1 ∷ entry.Out Plain 2 ∷ other)
    ∷ ordinary (entry.In Plain 1 ∷ entry.Out Plain 2 ∷ own) ∷ []

-- It ends though processor 0 may be in the section still that it was in at the begin; though a word is told that its
-- processor never had, later or at first; with another word of its own than it has, at first or later; and with no word of
-- processor 0.
abbrev pub ends_in_section : List Log
ends_in_section = waits_so [] (period Plain 1 (1 ∷ 2 ∷ []) (1 ∷ 2 ∷ []))

abbrev pub word_never_named : List Log
word_never_named = waits_so [] (period Plain 1 (1 ∷ 2 ∷ []) (3 ∷ 2 ∷ []))

abbrev pub first_never_named : List Log
first_never_named = waits_so [] (period Plain 1 (4 ∷ 2 ∷ []) (2 ∷ 2 ∷ []))

abbrev pub other_own_first : List Log
other_own_first = waits_so [] (period Plain 1 (1 ∷ 0 ∷ []) (2 ∷ 2 ∷ []))

abbrev pub other_own_later : List Log
other_own_later = waits_so [] (period Plain 1 (1 ∷ 2 ∷ []) (2 ∷ 1 ∷ []))

abbrev pub one_word_alone : List Log
one_word_alone = waits_so [] (period Plain 1 (2 ∷ []) (2 ∷ []))

-- A tracing period forgets that processor 1 is in a plain section; it looks at the plain words alone; and it names the words of
-- the domains apart.
abbrev pub section_forgotten : List Log
section_forgotten = reader_of (2 ∷ 0 ∷ 1 ∷ 1 ∷ []) (2 ∷ 0 ∷ 1 ∷ 2 ∷ [])

abbrev pub plain_words_alone : List Log
plain_words_alone = reader_of (2 ∷ 1 ∷ []) (2 ∷ 2 ∷ [])

abbrev pub domains_apart : List Log
domains_apart = reader_of (2 ∷ 1 ∷ 0 ∷ 1 ∷ []) (2 ∷ 2 ∷ 0 ∷ 2 ∷ [])

-- Both begin period 1; processor 0 begins the next one before that has ended; processor 0 ends it; nobody does; processor 1
-- begins the next one within its own; and number 1 is left out.
abbrev pub begun_by_both : List Log
begun_by_both = waits_so (entry.Begin Plain 1 ∷ []) (period Plain 1 (1 ∷ 2 ∷ []) (2 ∷ 2 ∷ []))

abbrev pub begun_beside : List Log
begun_beside = waits_so (entry.Begin Plain 3 ∷ []) (entry.Begin Plain 1 ∷ [])

abbrev pub ended_by_other : List Log
ended_by_other = waits_so (ends Plain 2 (2 ∷ 2 ∷ []) (2 ∷ 2 ∷ []) ∷ []) (entry.Begin Plain 1 ∷ [])

abbrev pub not_ended : List Log
not_ended = waits_so [] (entry.Begin Plain 1 ∷ [])

abbrev pub begun_within : List Log
begun_within =
    waits_so []
    (entry.Begin Plain 1 ∷ entry.Begin Plain 3 ∷ ends Plain 2 (2 ∷ 2 ∷ []) (2 ∷ 2 ∷ [])
    ∷ ends Plain 4 (2 ∷ 2 ∷ []) (2 ∷ 2 ∷ []) ∷ [])

abbrev pub number_left_out : List Log
number_left_out = waits_so [] (period Plain 3 (2 ∷ 2 ∷ []) (2 ∷ 2 ∷ []))

-- A section's word jumps, from 2 to 5; a section begins with an even word; and one ends with an odd word.
abbrev pub word_jumps : List Log
word_jumps = waits_so [] (entry.In Plain 5 ∷ [])

abbrev pub begins_even : List Log
begins_even = waits_so [] (entry.In Plain 3 ∷ entry.In Plain 4 ∷ [])

abbrev pub ends_odd : List Log
ends_odd = waits_so [] (entry.Out Plain 3 ∷ [])

-- ---- stamps

-- One processor, with these entries alone.
abbrev pub alone : List Entry → List Log
alone own = ordinary own ∷ []

-- A batch takes an odd stamp; within a period it takes the stamp of that period, which is one too low; and where a period has
-- ended, its number.
abbrev pub odd_stamp : List Log
odd_stamp = alone (batches 0 3)

abbrev pub stamped_within : List Log
stamped_within = alone (entry.Begin Plain 1 ∷ batches 0 2)

abbrev pub stamped_as_seen : List Log
stamped_as_seen =
    alone (period Tracing 1 (0 ∷ 0 ∷ []) (0 ∷ 0 ∷ []) ++ entry.Pass 10 Tracing 2 ∷ sweeps 0 2)

-- The number 4 is seen, and one period was begun.
abbrev pub seen_above : List Log
seen_above = alone (period Plain 1 (0 ∷ []) (0 ∷ []) ++ entry.Pass 10 Plain 4 ∷ [])

-- Life 1 of unit 0 ends by a delayed free, its batch waits for a period, and life 2 is given by this reply.
abbrev pub given_again : Entry → List Log
given_again reply =
    alone
    (delays 0 1 0 ++ batches 0 2 ++ period Plain 1 (0 ∷ []) (0 ∷ []) ++ sends 0 2 0 ++ reply
    ∷ [])

-- It is given without a seal; with another stamp; with another number; where its batch was sent too early; where no number was
-- seen before it was sent; and with a seal though it was freed plainly.
abbrev pub no_seal : List Log
no_seal = given_again (entry.Given 0 2)

abbrev pub other_stamp : List Log
other_stamp = given_again (entry.GivenAfter 0 2 4 4)

abbrev pub other_number : List Log
other_number = given_again (entry.GivenAfter 0 2 2 4)

abbrev pub sent_too_early : List Log
sent_too_early =
    alone
    (delays 0 1 0 ++ batches 0 2 ++ entry.Begin Plain 1 ∷ sends 0 1 0
    ++ entry.GivenAfter 0 2 2 1 ∷ [])

abbrev pub sent_unseen : List Log
sent_unseen =
    alone
    (delays 0 1 0 ++ batches 0 2 ++ period Plain 1 (0 ∷ []) (0 ∷ [])
    ++ entry.Send 10 0 (Whole (0 ∷ [])) ∷ entry.GivenAfter 0 2 2 2 ∷ [])

abbrev pub sealed_though_plain : List Log
sealed_though_plain = alone (frees 0 1 0 ++ entry.GivenAfter 0 2 2 2 ∷ [])

-- Unit 0 becomes a tracing batch, which takes its stamp, and these entries stand behind.
abbrev pub waits_in_second : List Entry → List Log
waits_in_second behind = alone (entry.Receive 10 (Whole (0 ∷ [])) ∷ seconds 0 2 ++ behind)

-- It returns before a number is seen; where the number seen is below the stamp; where the number of the other domain was seen;
-- another unit returns, which wasn't in the batch; and it comes to Second again and returns without a stamp.
abbrev pub returned_before_pass : List Log
returned_before_pass =
    waits_in_second
    (period Tracing 1 (0 ∷ 0 ∷ []) (0 ∷ 0 ∷ []) ++ entry.Return 10 (Whole (0 ∷ [])) ∷ [])

abbrev pub returned_too_early : List Log
returned_too_early = waits_in_second (entry.Begin Tracing 1 ∷ returns 0 1)

abbrev pub other_domain_seen : List Log
other_domain_seen =
    waits_in_second
    (period Plain 1 (0 ∷ []) (0 ∷ []) ++ entry.Pass 10 Plain 2
    ∷ entry.Return 10 (Whole (0 ∷ [])) ∷ [])

abbrev pub other_batch : List Log
other_batch = waits_in_second (period Tracing 1 (0 ∷ 0 ∷ []) (0 ∷ 0 ∷ []) ++ returns 256 2)

abbrev pub not_stamped : List Log
not_stamped =
    waits_in_second
    (period Tracing 1 (0 ∷ 0 ∷ []) (0 ∷ 0 ∷ []) ++ returns 0 2
    ++ entry.Receive 10 (Whole (0 ∷ [])) ∷ entry.BeginSecond 10 (Whole (0 ∷ []))
    ∷ returns 0 2)
