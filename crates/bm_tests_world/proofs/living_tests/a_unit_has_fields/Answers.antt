use Rattle.std.proofs.Common.{◌∙◌, ap}
use Rattle.std.specs.Prelude.{is_some, slice_get}
use Rattle.bm_world.specs.Lives.{count_in, values_in}
use Rattle.bm_world.specs.LivingState.{known_living}
use Rattle.bm_tests_world.proofs.Begun.{begun-alone, begun-here, begun-life}
use Rattle.bm_tests_world.proofs.living_tests.a_unit_has_fields.Goals as goal

pub read-requires-clause-lives : goal.read-requires-clause-lives
read-requires-clause-lives g c =
    let b = c.begin_life-object.ensures in
    (_, begun-life 3 c.fields.result c.fetch_one-unit.result (known_living c.fetch_one-unit.new.world) (known_living c.begin_life-object.new.self) c.begin_life-object.result b.object b.known)

pub read-requires-clause-there : goal.read-requires-clause-there
read-requires-clause-there g c =
    let b = c.begin_life-object.ensures in
    ap (λ l. is_some (slice_get (values_in l) 0)) (begun-here 3 c.fields.result c.fetch_one-unit.result (known_living c.fetch_one-unit.new.world) (known_living c.begin_life-object.new.self) c.begin_life-object.result b.object b.known) ∙ ap (λ vs. is_some (slice_get vs 0)) c.fields.ensures

pub read-requires-2-clause-lives : goal.read-requires-2-clause-lives
read-requires-2-clause-lives g c =
    let b = c.begin_life-object.ensures in
    (_, begun-life 3 c.fields.result c.fetch_one-unit.result (known_living c.fetch_one-unit.new.world) (known_living c.begin_life-object.new.self) c.begin_life-object.result b.object b.known)

pub read-requires-2-clause-there : goal.read-requires-2-clause-there
read-requires-2-clause-there g c =
    let b = c.begin_life-object.ensures in
    ap (λ l. is_some (slice_get (values_in l) 1)) (begun-here 3 c.fields.result c.fetch_one-unit.result (known_living c.fetch_one-unit.new.world) (known_living c.begin_life-object.new.self) c.begin_life-object.result b.object b.known) ∙ ap (λ vs. is_some (slice_get vs 1)) c.fields.ensures

pub end_life-last-requires-clause-only : goal.end_life-last-requires-clause-only
end_life-last-requires-clause-only g c =
    let b = c.begin_life-object.ensures in
    ap count_in (begun-here 3 c.fields.result c.fetch_one-unit.result (known_living c.fetch_one-unit.new.world) (known_living c.begin_life-object.new.self) c.begin_life-object.result b.object b.known)

pub end_life-last-requires-clause-alone : goal.end_life-last-requires-clause-alone
end_life-last-requires-clause-alone g c =
    let b = c.begin_life-object.ensures in
    begun-alone 3 c.fields.result c.fetch_one-unit.result (known_living c.fetch_one-unit.new.world) (known_living c.begin_life-object.new.self) c.begin_life-object.result b.object b.known b.alone
