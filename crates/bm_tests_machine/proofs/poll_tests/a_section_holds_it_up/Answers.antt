use Rattle.std.proofs.Common.{◌≡◌, ◌%◌, ◌+◌, ℕ, [], refl, ◌∙◌, ap}
use Rattle.bm_journal.specs.declared.ids.Domain.TheVariants.{Plain}
use Rattle.bm_grace.specs.Known.{Known, side}
use Rattle.bm_cache.specs.Span.{Face}
use Rattle.bm_work.specs.DeskTests.{tests_by}
use Rattle.bm_work.proofs.Sides.{stands-side}
use Rattle.bm_work.proofs.Tests.{ages-onward}
use Rattle.bm_tests_machine.proofs.poll_tests.a_section_holds_it_up.Goals as goal

pub stamp_and_poll-requires-clause-stands : goal.stamp_and_poll-requires-clause-stands
stamp_and_poll-requires-clause-stands g c =
    let e = c.desk_over-desk.ensures in
    record { sound = tt; fine = e.fine; dated = e.dated }

pub leave-requires : goal.leave-requires
leave-requires g c =
    let known = g.S.Knows.known in
    record {
      inside = ap (λ (w : ℕ). w % 2) (c.stamp_and_poll.ensures.stays.words Plain) ∙ (ap (λ s. (side Plain (known s)).word % 2) c.desk_over-desk.ensures.side ∙ (ap (λ (k : Known). (side Plain k).word % 2) c.enter.ensures.known ∙ ap (λ (w : ℕ). (w + 1) % 2) c.requires.outside));
    }

pub poll-requires-clause-stands : goal.poll-requires-clause-stands
poll-requires-clause-stands g c =
    let known = g.S.Knows.known in
    let rights = g.S.Knows.rights in
    let h = c.stamp_and_poll.new.host in
    let left = c.leave.ensures in
    let same : (known c.leave.new.self).grace.processors ≡ (known h.side).grace.processors = ap (λ (k : Known). k.grace.processors) left.known in
    stands-side _ _ (λ m. Unit {0}) (λ m. tests_by (rights m.side)) (λ m. record { level = 0; processors = (known m.side).grace.processors; through = 0 }) (λ m. m.caches) h (record { caches = h.caches; side = c.leave.new.self }) refl (ap (λ n. let f : Face = record { level = 0; processors = n; through = 0 } in f) same) tt (ages-onward (rights h.side) (rights c.leave.new.self) [] left.rights) c.stamp_and_poll.ensures.stands

pub stamp_and_poll-requires-clause-apart : goal.stamp_and_poll-requires-clause-apart
stamp_and_poll-requires-clause-apart g c h w s = s

pub stamp_and_poll-requires-clause-free : goal.stamp_and_poll-requires-clause-free
stamp_and_poll-requires-clause-free g c m = m

pub poll-requires-clause-batch : goal.poll-requires-clause-batch
poll-requires-clause-batch g c m = absurd m
