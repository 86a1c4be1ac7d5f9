use Rattle.std.proofs.Common.{◌≡◌, ◌<◌, List, map, length, Result, Ok, OnOk, IfOk, sym, ap, ◌∙◌, subst, arith}
use Rattle.bm_cache.specs.Shown.{shown}
use Rattle.bm_cache.specs.Tokens.{Token, number_of}
use Rattle.bm_cache.proofs.Outside.{lent-by-hand}
use Rattle.bm_tests_machine.proofs.cache_move_tests.send_hand.Goals as goal

on-ok : {T E : Type 0} (P : Type 0) (r : Result T E) (v : T) → r ≡ Ok v → OnOk r P → P
on-ok {T} {E} P r v e h = let F : Result T E → Type 0 = λ x. OnOk x P in subst F e h

if-ok : {T E : Type 0} (P : T → Type 0) (r : Result T E) (v : T) → r ≡ Ok v → IfOk r P → P v
if-ok {T} {E} P r v e h = let F : Result T E → Type 0 = λ x. IfOk x P in subst F e h

pub sent-requires-clause-lent : goal.sent-requires-clause-lent
sent-requires-clause-lent g c =
    let s = shown c.hand_in.new.self in
    let hand : List Token = (s.sides c.ordinary-level.result).hand in
    let some : 0 < length hand = omega arith in
    let units : c.expect-units.result.items ≡ hand = if-ok _ _ _ c.expect-units.ensures c.hand_out-2.ensures.units in
    let numbers : c.list_numbers-numbers.result.items ≡ map number_of c.expect-units.result.items = c.list_numbers-numbers.ensures in (
      s,
      lent-by-hand g.R.Recorder.log g.R.Recorder.counts c.hand_in.new.self c.hand_out-2.new.self c.ordinary-level.result c.args.class c.list_numbers-numbers.result.items
          (on-ok _ _ _ c.expect-units.ensures c.hand_out-2.ensures.lent)
          (on-ok _ _ _ c.expect-units.ensures c.hand_out-2.ensures.from)
          some (sym (numbers ∙ ap (map number_of) units)),
    )
