use Rattle.std.proofs.Common.{◌≡◌, ◌+◌, ℕ, IfSome, subst, sym}
use Rattle.bm_cache.specs.Steps.{next_number, steps_in}
use Rattle.bm_exec_levels.specs.AtProcessor.{log_of}
use Rattle.bm_exec_levels.proofs.Dues.{begun-here, between-asked}
use Rattle.bm_exec_levels.proofs.handlers.begin_due.Goals as goal

pub returns-clause-begun : goal.returns-clause-begun
returns-clause-begun g c =
    let e = c.begin_due.ensures in
    let F : ℕ → Type 0 = λ n. IfSome (log_of c.args.own.now) (λ es. n ≡ next_number (steps_in es)) in
    begun-here g.W.Knows c.args.level c.args.program.now c.args.own.now c.next_step-step.result c.begin_due.new.self c.begin_due.result c.requires.at (subst F (sym c.next_step-step.ensures) c.requires.fine.placed.number) e.begun e.above e.highest e.takes e.scripts

pub returns-clause-between : goal.returns-clause-between
returns-clause-between g c =
    let e = c.begin_due.ensures in
    between-asked g.W.Knows (c.args.level + 1) c.args.program.now c.args.own.now c.begin_due.new.self c.begin_due.result c.requires.fine e.none e.takes
