use Rattle.std.proofs.Common.{ℕ, ◌+◌, ◌-◌, ◌∙◌, None, Some, ap}
use Rattle.bm_grace.specs.Known.{Known}
use Rattle.bm_journal.specs.declared.ids.Tag.{Tag}
use Rattle.bm_world.specs.Lives.{count_in}
use Rattle.bm_world.specs.LivingState.{known_living}
use Rattle.bm_tests_world.proofs.Begun.{acquired-life, begun-alone, begun-here, begun-life, exchanged-here, given-up-count, same-alone}
use Rattle.bm_tests_world.proofs.slot_tests.one_of_two_references_goes_through_a_slot.Goals as goal

abbrev call : (serial : ℕ) → Tag
call serial = record { processor = 0; serial = serial }

pub acquire-requires-clause-lives : goal.acquire-requires-clause-lives
acquire-requires-clause-lives g c =
    let b = c.begin_life-object.ensures in
    (_, begun-life 0 c.fields.result c.fetch_one-unit.result (known_living c.fetch_one-unit.new.world) (known_living c.begin_life-object.new.self) c.begin_life-object.result b.object b.known)

pub exchange-requires-clause-lives : goal.exchange-requires-clause-lives
exchange-requires-clause-lives g c =
    let b = c.begin_life-object.ensures in
    let o = c.begin_life-object.result in
    let begun = known_living c.begin_life-object.new.self in
    let l = begun-life 0 c.fields.result c.fetch_one-unit.result (known_living c.fetch_one-unit.new.world) begun o b.object b.known in
    (_, acquired-life o begun (known_living c.acquire.new.self) _ c.acquire.ensures.known l)

pub release_other-requires-clause-lives : goal.release_other-requires-clause-lives
release_other-requires-clause-lives g c =
    let b = c.begin_life-object.ensures in
    let o = c.begin_life-object.result in
    let begun = known_living c.begin_life-object.new.self in
    let acquired = known_living c.acquire.new.self in
    let put = known_living c.exchange.new.self in
    let l = begun-life 0 c.fields.result c.fetch_one-unit.result (known_living c.fetch_one-unit.new.world) begun o b.object b.known in
    let two = acquired-life o begun acquired _ c.acquire.ensures.known l in
    let in_slot = exchanged-here 0 (Some o) (call 3) acquired put o _ c.exchange.ensures.known two in
    (_, exchanged-here 0 None (call 4) put (known_living c.exchange-2.new.self) o _ c.exchange-2.ensures.known in_slot)

pub end_life-last-requires-clause-only : goal.end_life-last-requires-clause-only
end_life-last-requires-clause-only g c =
    let b = c.begin_life-object.ensures in
    let o = c.begin_life-object.result in
    let before = known_living c.fetch_one-unit.new.world in
    let begun = known_living c.begin_life-object.new.self in
    let acquired = known_living c.acquire.new.self in
    let put = known_living c.exchange.new.self in
    let taken = known_living c.exchange-2.new.self in
    let l = begun-life 0 c.fields.result c.fetch_one-unit.result before begun o b.object b.known in
    let two = acquired-life o begun acquired _ c.acquire.ensures.known l in
    let in_slot = exchanged-here 0 (Some o) (call 3) acquired put o _ c.exchange.ensures.known two in
    let out = exchanged-here 0 None (call 4) put taken o _ c.exchange-2.ensures.known in_slot in
    let one = ap count_in (begun-here 0 c.fields.result c.fetch_one-unit.result before begun o b.object b.known) in
    given-up-count o.unit taken (known_living c.release_other.new.self) _ c.release_other.ensures.known out.is ∙ ap (λ (n : ℕ). n + 1 - 1) one

pub end_life-last-requires-clause-alone : goal.end_life-last-requires-clause-alone
end_life-last-requires-clause-alone g c =
    let b = c.begin_life-object.ensures in
    let o = c.begin_life-object.result in
    let begun = known_living c.begin_life-object.new.self in
    let acquired = known_living c.acquire.new.self in
    let put = known_living c.exchange.new.self in
    let taken = known_living c.exchange-2.new.self in
    let graphs = λ (k : Known). k.objects.graphs in
    let alone = begun-alone 0 c.fields.result c.fetch_one-unit.result (known_living c.fetch_one-unit.new.world) begun o b.object b.known b.alone in
    let two = same-alone o.unit begun acquired (ap graphs c.acquire.ensures.known) alone in
    let in_slot = same-alone o.unit acquired put (ap graphs c.exchange.ensures.known) two in
    let out = same-alone o.unit put taken (ap graphs c.exchange-2.ensures.known) in_slot in
    same-alone o.unit taken (known_living c.release_other.new.self) (ap graphs c.release_other.ensures.known) out
