use Rattle.std.proofs.Common.{◌≡◌, ℕ, List, [], sym, ap, subst, ◌∙◌}
use Rattle.std.specs.Borrow.{Bor}
use Rattle.bm_law_journal.specs.Lawful.{named_turns}
use Rattle.bm_run.specs.Between.{Between}
use Rattle.bm_run.proofs.Results.{if-ok}
use Rattle.bm_run.proofs.all_turns.run_seats.Goals as goal
use Rattle.bm_run.proofs.all_turns.run_seats.Goals.{in-Some, in-None}

pub returns-clause-between : goal.returns-clause-between
returns-clause-between c =
    let turns : List ℕ = named_turns c.args.program.now.scenario.now.turns in
    let named : c.match-program.turns.now ≡ turns = elim c.match-program.branch [
      | in-Some w ↦ ap (λ (x : Bor (List ℕ)). x.now) w.turns-is ∙ (w.as_slice-turns.ensures ∙ sym (ap named_turns w.in-Some.is))
      | in-None w ↦ ap (λ (x : Bor (List ℕ)). x.now) w.turns-is ∙ sym (ap named_turns w.in-None.is)
    ] in
    let before = subst (λ (z : List ℕ). Between c.args.program.now z [] c.run_named.new.seats.items c.in_ok-world.world) named c.in_ok-world.ensures in
    if-ok c.run_lowest.result _ _ c.run_lowest.ensures.between (λ now h. h turns before)
