use Rattle.std.proofs.Common.{◌∙◌, ap, length}
use Rattle.bm_world.specs.LivingState.{LivingState, known_living}
use Rattle.bm_tests_world.proofs.Begun.{begun-life, kept-life, lives-beside}
use Rattle.bm_tests_world.proofs.slot_tests.two_slots_hold_two_objects.Goals as goal

pub loop-case-init : goal.loop-case-init
loop-case-init g c =
    let first = c.begin_life-first.ensures in
    let second = c.begin_life-second.ensures in
    let one = c.begin_life-first.result in
    let between = known_living c.fetch_one-other.new.world in
    let now = known_living c.begin_life-second.new.self in
    let begun = begun-life 0 c.fields.result c.fetch_one-unit.result (known_living c.fetch_one-unit.new.world) (known_living c.begin_life-first.new.self) one first.object first.known in
    let kept = kept-life _ _ one _ c.fetch_one-other.ensures.slots begun in
    let made = ap length c.living_side-world.ensures.contents ∙ c.two_slots.ensures in
    let opened = ap (λ (w : LivingState). length w.contents) first.state ∙ (ap length c.fetch_one-unit.ensures.contents ∙ made) in record {
      slots = ap (λ (w : LivingState). length w.contents) second.state ∙ (ap length c.fetch_one-other.ensures.contents ∙ opened);
      first = (_, lives-beside 0 c.fields-2.result c.fetch_one-other.result between now one _ second.none second.known kept);
      second = (_, begun-life 0 c.fields-2.result c.fetch_one-other.result between now c.begin_life-second.result second.object second.known);
    }
