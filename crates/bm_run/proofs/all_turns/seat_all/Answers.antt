use Rattle.std.proofs.Common.{◌≡◌, List, [], ◌∷◌, append-nil, arith, length, refl, subst, sym}
use Rattle.bm_exec_levels.specs.declared.kept.Kept.{Kept}
use Rattle.bm_run.specs.AllTurns.{AreSeats}
use Rattle.bm_run.proofs.all_turns.seat_all.Goals as goal

none-left : (kept : List Kept) → length kept ≡ 0 → kept ≡ []
none-left [] e = refl
none-left (k ∷ kept) e = absurd (omega (arith, e))

pub returns : goal.returns
returns c =
    let lines = c.args.lines.now in
    let seats = c.loop-own.seats.items in
    let left : List Kept = c.loop-own.rest.items in
    let none : left ≡ [] = none-left left (omega (arith, c.in_default.ensures.cases)) in
    let done = c.loop-own.invariant.so_far [] (subst (λ (ks : List Kept). AreSeats lines c.loop-own.processor ks []) (sym none) tt) in
    subst (AreSeats lines 0 c.args.kept.items) (append-nil seats) done
