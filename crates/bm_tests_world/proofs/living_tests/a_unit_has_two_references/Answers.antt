use Rattle.std.proofs.Common.{ap}
use Rattle.std.specs.Prelude.{is_some}
use Rattle.bm_grace.specs.Known.{Known}
use Rattle.bm_world.specs.LivingState.{known_living}
use Rattle.bm_tests_world.proofs.Begun.{acquired-here, begun-alone, begun-here, begun-life, same-alone}
use Rattle.bm_tests_world.proofs.living_tests.a_unit_has_two_references.Goals as goal

pub references-requires : goal.references-requires
references-requires g c =
    let b = c.begin_life-object.ensures in
    record { lives = ap is_some (begun-here 0 c.fields.result c.fetch_one-unit.result (known_living c.fetch_one-unit.new.world) (known_living c.begin_life-object.new.self) c.begin_life-object.result b.object b.known) }

pub acquire-requires-clause-lives : goal.acquire-requires-clause-lives
acquire-requires-clause-lives g c =
    let b = c.begin_life-object.ensures in
    (_, begun-life 0 c.fields.result c.fetch_one-unit.result (known_living c.fetch_one-unit.new.world) (known_living c.begin_life-object.new.self) c.begin_life-object.result b.object b.known)

pub release_other-requires-clause-lives : goal.release_other-requires-clause-lives
release_other-requires-clause-lives g c =
    let b = c.begin_life-object.ensures in
    let o = c.begin_life-object.result in
    let l = begun-life 0 c.fields.result c.fetch_one-unit.result (known_living c.fetch_one-unit.new.world) (known_living c.begin_life-object.new.self) o b.object b.known in (
      _,
      record {
        is = acquired-here o.unit (known_living c.begin_life-object.new.self) (known_living c.acquire.new.self) _ c.acquire.ensures.known l.is;
        life = l.life;
      },
    )

pub end_life-last-requires-clause-alone : goal.end_life-last-requires-clause-alone
end_life-last-requires-clause-alone g c =
    let b = c.begin_life-object.ensures in
    let o = c.begin_life-object.result in
    let begun = known_living c.begin_life-object.new.self in
    let two = known_living c.acquire.new.self in
    let alone = begun-alone 0 c.fields.result c.fetch_one-unit.result (known_living c.fetch_one-unit.new.world) begun o b.object b.known b.alone in
    let acquired = same-alone o.unit begun two (ap (λ (k : Known). k.objects.graphs) c.acquire.ensures.known) alone in
    same-alone o.unit two (known_living c.release_other.new.self) (ap (λ (k : Known). k.objects.graphs) c.release_other.ensures.known) acquired
