use Rattle.bm_law_journal.specs.Lawful.{named_turns}
use Rattle.bm_run.proofs.AllTurnsBegin.{between-begin}
use Rattle.bm_run.proofs.all_turns.run_turns.Goals as goal

pub run_seats-requires-clause-between : goal.run_seats-requires-clause-between
run_seats-requires-clause-between c =
    let s = c.args.program.now.scenario.now in
    let tell = rw c.as_slice.ensures.value at (c.some_failed.ensures.told c.if-some_failed.false) in
    let are = rw c.as_slice-2.ensures at c.in-Ok.ensures in
    between-begin c.args.program.now (named_turns s.turns) c.args.kept.items c.in-Ok.seats.items c.args.world c.requires.fine c.requires.checked.within_limits c.requires.open tell are
