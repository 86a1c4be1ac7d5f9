use Rattle.std.proofs.Common.{ap, subst, sym}
use Rattle.std.specs.Prelude.{is_some}
use Rattle.bm_post.specs.Rights.{Holds}
use Rattle.bm_world.specs.Lives.{count_in}
use Rattle.bm_world.specs.LivingState.{known_living, rights_living}
use Rattle.bm_tests_world.proofs.Begun.{begun-alone, begun-here}
use Rattle.bm_tests_world.proofs.OneHeld.{one-held}
use Rattle.bm_tests_world.proofs.living_tests.a_unit_lives_twice.Goals as goal

pub put_back-requires-clause-mine : goal.put_back-requires-clause-mine
put_back-requires-clause-mine g c =
    let e = c.end_life-ended.ensures in
    subst (Holds (rights_living c.end_life-ended.new.self)) (sym c.parcel_of.ensures) (one-held _ _ _ c.end_life-ended.result e.mine e.number)

pub end_life-ended-requires-clause-lives : goal.end_life-ended-requires-clause-lives
end_life-ended-requires-clause-lives g c =
    let b = c.begin_life-object.ensures in
    ap is_some (begun-here 0 c.fields.result c.fetch_one-unit.result (known_living c.fetch_one-unit.new.world) (known_living c.begin_life-object.new.self) c.begin_life-object.result b.object b.known)

pub end_life-ended-requires-clause-only : goal.end_life-ended-requires-clause-only
end_life-ended-requires-clause-only g c =
    let b = c.begin_life-object.ensures in
    ap count_in (begun-here 0 c.fields.result c.fetch_one-unit.result (known_living c.fetch_one-unit.new.world) (known_living c.begin_life-object.new.self) c.begin_life-object.result b.object b.known)

pub end_life-last-requires-clause-lives : goal.end_life-last-requires-clause-lives
end_life-last-requires-clause-lives g c =
    let b = c.begin_life-second.ensures in
    ap is_some (begun-here 0 c.fields-2.result c.fetch_one-again.result (known_living c.fetch_one-again.new.world) (known_living c.begin_life-second.new.self) c.begin_life-second.result b.object b.known)

pub end_life-last-requires-clause-only : goal.end_life-last-requires-clause-only
end_life-last-requires-clause-only g c =
    let b = c.begin_life-second.ensures in
    ap count_in (begun-here 0 c.fields-2.result c.fetch_one-again.result (known_living c.fetch_one-again.new.world) (known_living c.begin_life-second.new.self) c.begin_life-second.result b.object b.known)

pub put_back-requires-2-clause-mine : goal.put_back-requires-2-clause-mine
put_back-requires-2-clause-mine g c =
    let e = c.end_life-last.ensures in
    subst (Holds (rights_living c.end_life-last.new.self)) (sym c.parcel_of-2.ensures) (one-held _ _ _ c.end_life-last.result e.mine e.number)

pub end_life-ended-requires-clause-alone : goal.end_life-ended-requires-clause-alone
end_life-ended-requires-clause-alone g c =
    let b = c.begin_life-object.ensures in
    begun-alone 0 c.fields.result c.fetch_one-unit.result (known_living c.fetch_one-unit.new.world) (known_living c.begin_life-object.new.self) c.begin_life-object.result b.object b.known b.alone

pub end_life-last-requires-clause-alone : goal.end_life-last-requires-clause-alone
end_life-last-requires-clause-alone g c =
    let b = c.begin_life-second.ensures in
    begun-alone 0 c.fields-2.result c.fetch_one-again.result (known_living c.fetch_one-again.new.world) (known_living c.begin_life-second.new.self) c.begin_life-second.result b.object b.known b.alone
