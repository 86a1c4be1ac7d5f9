use Rattle.std.proofs.Common.{◌<◌, ℕ, refl, sym, ap, subst}
use Rattle.bm_cache.specs.Tokens.{Token}
use Rattle.bm_tests_machine.specs.Holding.{tests_beside}
use Rattle.bm_cache.specs.Shown.{shown}
use Rattle.bm_cache.proofs.Absent.{none-there, proper-other}
use Rattle.bm_tests_machine.proofs.Held.{tests-more, holding-more, fine-other}
use Rattle.bm_tests_machine.proofs.cache_fixtures.take_one.Goals as goal

pub returns-in-Unit-clause-sound : goal.returns-in-Unit-clause-sound
returns-in-Unit-clause-sound g c =
    let w = c.in-Unit.ensures.gone in
    let a = c.in-Unit.ensures.answer in
    let o : c.in-Unit.unit.home < 1 = (let F : ℕ → Type 0 = λ n. n < 1 in subst F (sym (ap (λ (u : Token). u.home) a.7)) c.requires.fine.aimed.processor) in
    holding-more 1 c.alloc.new.host.kept.units.items _ c.in-Unit.unit c.put_in.ensures c.in-Unit.ensures.sound w.2 o w.0

pub returns-in-Unit-clause-fine : goal.returns-in-Unit-clause-fine
returns-in-Unit-clause-fine g c =
    let w = c.in-Unit.ensures.gone in
    fine-other g.R.Recorder.log g.R.Recorder.counts 1 0 0 (tests_beside c.alloc.new.host.kept.units.items) (tests_beside c.put_in.new.units.items) c.alloc.new.host.kept.caches refl
    (proper-other c.in-Unit.unit.number (tests_beside c.alloc.new.host.kept.units.items) (tests_beside c.put_in.new.units.items) (tests-more c.alloc.new.host.kept.units.items c.put_in.new.units.items c.in-Unit.unit c.put_in.ensures) (shown c.alloc.new.host.kept.caches) (none-there c.in-Unit.unit.number c.alloc.new.host.kept.caches w.1)) c.in-Unit.ensures.fine
