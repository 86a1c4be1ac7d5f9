use Rattle.std.proofs.Common.{subst}
use Rattle.bm_lang.specs.declared.scenario.Parts.{Parts}
use Rattle.bm_run.specs.Turns.{Advanced}
use Rattle.bm_run.proofs.seats.go_on.Goals as goal

pub returns-in-Ended-clause-gone : goal.returns-in-Ended-clause-gone
returns-in-Ended-clause-gone g c =
    let s : Parts = c.args.program.now.scenario.now in
    let e = c.in_ok-take_turn.ensures in
    let left = rw c.in-Ended.is at e.left in
    let k = c.end_scripts.ensures in
    record {
      last = c.take_turn.new.own;
      advanced = subst (λ w. Advanced s w c.args.own.now c.args.remaining.now c.take_turn.new.own c.take_turn.new.remaining) c.requires.works e.advanced;
      turn = rw c.in-Ended.is at e.turn;
      none = left.0;
      no_lines = left.1;
      sound = e.sound;
      said = k.said;
      lists = k.lists;
      same = k.same;
      planned = k.planned;
    }
