use Rattle.std.proofs.Common.{◌≡◌, ◌≤◌, ap, sym, ◌∙◌, refl, arith, subst}
use Rattle.bm_journal.specs.declared.ids.Domain.{Domain}
use Rattle.bm_grace.specs.Known.{Sides, side}
use Rattle.bm_work.specs.DeskTests.{tests_by}
use Rattle.bm_work.proofs.Came.{takes-reusable}
use Rattle.bm_tests_machine.proofs.Opened.{rests-opened, same-begins}
use Rattle.bm_tests_machine.proofs.desks.desk_with.Goals as goal

pub returns-clause-rests : goal.returns-clause-rests
returns-clause-rests g c =
    let f = c.fetched-units.ensures in
    let us = c.fetched-units.result.items in
    let w = c.fetched-units.new.side in
    let two : (g.S.Knows.known w).grace.processors ≡ 2 = ap (λ (s : Sides). s.processors) f.known ∙ c.requires.processors in
    let begins : (d : Domain) → 4 ≤ (side d (g.S.Knows.known w)).begins = λ d. subst (λ n. 4 ≤ n) (sym (same-begins (g.S.Knows.known c.args.lent) (g.S.Knows.known w) d f.known)) (c.requires.begins d) in
    rests-opened g.R.Recorder.log g.R.Recorder.counts (λ m. Unit {0}) (λ m. tests_by (g.S.Knows.rights m.kept.side)) (λ m. record { level = 0; processors = (g.S.Knows.known m.kept.side).grace.processors; through = 0 }) (λ m. m.kept.caches) (λ m. g.S.Knows.known m.kept.side) c.args.class 4 us _ tt refl (omega (arith, two)) (omega (arith, two)) c.opened-caches.ensures.opened (takes-reusable c.args.class us (g.S.Knows.rights c.args.lent) (g.S.Knows.rights w) f.takes) begins
