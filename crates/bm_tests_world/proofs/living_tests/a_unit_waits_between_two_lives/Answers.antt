use Rattle.std.proofs.Common.{◌≡◌, ◌∙◌, None, true, ap, refl, subst, sym}
use Rattle.std.specs.Prelude.{is_some}
use Rattle.bm_post.specs.Rights.{Holds}
use Rattle.bm_world.specs.Lives.{count_in}
use Rattle.bm_world.specs.LivingState.{LivingState, known_living, rights_living}
use Rattle.bm_tests_world.proofs.Begun.{begun-alone, begun-here}
use Rattle.bm_tests_world.proofs.OneHeld.{one-held}
use Rattle.bm_tests_world.proofs.living_tests.a_unit_waits_between_two_lives.Goals as goal

pub seal_if_passed-requires-clause-due : goal.seal_if_passed-requires-clause-due
seal_if_passed-requires-clause-due g c =
    let u = c.end_life-ended.result in
    let e = c.end_life-ended.ensures in
    let here : (rights_living c.end_life-ended.new.self).due u.number u.life None ≡ true = subst (λ n. (rights_living c.end_life-ended.new.self).due n u.life None ≡ true) (sym e.number) (e.due refl) in
    c.pass_period.ensures.ages.due u.number u.life None ∙ (ap (λ (s : LivingState). (rights_living s).due u.number u.life None) c.stamp-stamp.ensures.state ∙ here)

pub end_life-ended-requires-clause-lives : goal.end_life-ended-requires-clause-lives
end_life-ended-requires-clause-lives g c =
    let b = c.begin_life-object.ensures in
    ap is_some (begun-here 0 c.fields.result c.fetch_one-unit.result (known_living c.fetch_one-unit.new.world) (known_living c.begin_life-object.new.self) c.begin_life-object.result b.object b.known)

pub end_life-ended-requires-clause-only : goal.end_life-ended-requires-clause-only
end_life-ended-requires-clause-only g c =
    let b = c.begin_life-object.ensures in
    ap count_in (begun-here 0 c.fields.result c.fetch_one-unit.result (known_living c.fetch_one-unit.new.world) (known_living c.begin_life-object.new.self) c.begin_life-object.result b.object b.known)

pub end_life-last-requires-clause-lives : goal.end_life-last-requires-clause-lives
end_life-last-requires-clause-lives g c =
    let b = c.begin_life-second.ensures in
    ap is_some (begun-here 0 c.fields-2.result c.receive_unit-again.result (known_living c.receive_unit-again.new.world) (known_living c.begin_life-second.new.self) c.begin_life-second.result b.object b.known)

pub end_life-last-requires-clause-only : goal.end_life-last-requires-clause-only
end_life-last-requires-clause-only g c =
    let b = c.begin_life-second.ensures in
    ap count_in (begun-here 0 c.fields-2.result c.receive_unit-again.result (known_living c.receive_unit-again.new.world) (known_living c.begin_life-second.new.self) c.begin_life-second.result b.object b.known)

pub put_back-requires-clause-mine : goal.put_back-requires-clause-mine
put_back-requires-clause-mine g c =
    let e = c.end_life-last.ensures in
    subst (Holds (rights_living c.end_life-last.new.self)) (sym c.parcel_of-2.ensures) (one-held _ _ _ c.end_life-last.result e.mine e.number)

pub end_life-ended-requires-clause-alone : goal.end_life-ended-requires-clause-alone
end_life-ended-requires-clause-alone g c =
    let b = c.begin_life-object.ensures in
    begun-alone 0 c.fields.result c.fetch_one-unit.result (known_living c.fetch_one-unit.new.world) (known_living c.begin_life-object.new.self) c.begin_life-object.result b.object b.known b.alone

pub end_life-last-requires-clause-alone : goal.end_life-last-requires-clause-alone
end_life-last-requires-clause-alone g c =
    let b = c.begin_life-second.ensures in
    begun-alone 0 c.fields-2.result c.receive_unit-again.result (known_living c.receive_unit-again.new.world) (known_living c.begin_life-second.new.self) c.begin_life-second.result b.object b.known b.alone
