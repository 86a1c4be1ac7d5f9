use Rattle.std.proofs.Common.{Some, ap, arith, inr, is_some}
use Rattle.bm_journal.specs.declared.ids.ObjId.{ObjId}
use Rattle.bm_grace.specs.Known.{Known}
use Rattle.bm_law_scenario.specs.Declared.{Declared, declared_in}
use Rattle.bm_exec_levels.specs.Ready.{known_of}
use Rattle.bm_exec_levels.proofs.Stocked.{handed, others-counted}
use Rattle.bm_exec_levels.proofs.calls.give_up.Goals as goal

pub references-requires : goal.references-requires
references-requires g c =
    let o : ObjId = c.args.object in
    let d : Declared = declared_in c.args.program.now.scenario.now in
    let k : Known = known_of g.W.Knows c.args.own.now in
    record { lives = ap is_some (handed d k.objects c.requires.at.ready.stocked o.unit _ c.requires.living.1.is).lives_so }

pub returns-then-references-gt1-clause-disposed : goal.returns-then-references-gt1-clause-disposed
returns-then-references-gt1-clause-disposed g c class alive =
    let o : ObjId = c.args.object in
    let d : Declared = declared_in c.args.program.now.scenario.now in
    let k : Known = known_of g.W.Knows c.args.own.now in
    inr (others-counted d k o.unit _ c.args.counted c.requires.at.ready.stocked alive.is (let a = c.if-references-gt1.true in let b = c.references.ensures.count in omega (arith, a, b)) c.requires.typed, c.give_up_other.ensures.given_up)
