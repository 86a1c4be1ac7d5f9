use Rattle.std.proofs.Common.{◌≡◌, ◌+◌, ℕ, List, ◌∷◌, drop, get_or, refl, inl, sym, subst, ◌∙◌}
use Rattle.std.proofs.lemmas.List.{drop_more}
use Rattle.bm_run.specs.Between.{Between}
use Rattle.bm_run.proofs.AllTurns.{between-passed, seat-going}
use Rattle.bm_run.proofs.all_turns.run_named.Goals as goal
use Rattle.bm_run.proofs.all_turns.run_named.Goals.{then-not-has_ended+in_ok-world, else-not-has_ended}

pub turn_of-requires-clause-there : goal.turn_of-requires-clause-there
turn_of-requires-clause-there c =
    let ended = rw c.as_slice.ensures.value at c.has_ended.ensures in
    seat-going c.loop-turn.seats.items (get_or c.args.turns.now c.loop-turn.turn-index 0) (sym ended ∙ c.if-not-has_ended.true)

pub loop-turn-preserved : goal.loop-turn-preserved
loop-turn-preserved c =
    let turns : List ℕ = c.args.turns.now in
    let i = c.loop-turn.turn-index in
    let p = get_or turns i 0 in
    let next : drop i turns ≡ p ∷ drop (i + 1) turns = drop_more turns i 0 c.loop-turn-test.true in
    let before : Between c.args.program.now turns (p ∷ drop (i + 1) turns) c.loop-turn.seats.items c.loop-turn.world =
    subst (λ (z : List ℕ). Between c.args.program.now turns z c.loop-turn.seats.items c.loop-turn.world) next c.loop-turn.invariant in
    let ended = rw c.as_slice.ensures.value at c.has_ended.ensures in
    elim c.if-not-has_ended.branch [
      | then-not-has_ended+in_ok-world w ↦ rw (w.seats-is, w.world-is) (w.in_ok-world.ensures.between turns (p ∷ drop (i + 1) turns) (drop (i + 1) turns) (inl refl) before)
      | else-not-has_ended w ↦ rw (w.seats-is, w.world-is) (between-passed c.args.program.now p turns (drop (i + 1) turns) c.loop-turn.seats.items c.loop-turn.world (sym ended ∙ w.if-not-has_ended.false) before)
    ]
