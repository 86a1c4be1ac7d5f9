use Rattle.std.proofs.Common.{◌≡◌, ℕ, ◌∙◌, None, ap, subst}
use Rattle.std.specs.Prelude.{not}
use Rattle.std.proofs.lemmas.Bool.{and_parts}
use Rattle.bm_post.specs.HasRoom.{has_room}
use Rattle.bm_world.specs.WaitingState.{WaitingState, is_waiting, rights_now, wait_of}
use Rattle.bm_tests_world.proofs.waiting_tests.a_unit_waits_for_a_period.Goals as goal

pub seal_if_passed-requires-clause-due : goal.seal_if_passed-requires-clause-due
seal_if_passed-requires-clause-due g c =
    let u = c.fetch_one-unit.result in
    let room = and_parts (has_room u.number u.life) (not (is_waiting (wait_of c.fetch_one-unit.new.world.waits u.number))) c.fetch_one-unit.ensures.settled in
    let waits = subst (λ (k : ℕ). (rights_now c.wait_for.new.self).due k u.life None ≡ has_room k u.life) c.number.ensures (c.wait_for.ensures.due u.life None) in
    c.pass_period.ensures.ages.due u.number u.life None ∙ (ap (λ (s : WaitingState). (rights_now s).due u.number u.life None) c.stamp-stamp.ensures.state ∙ (waits ∙ room.0))
