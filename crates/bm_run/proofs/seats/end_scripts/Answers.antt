use Rattle.bm_run.proofs.Sections.{sound-ended}
use Rattle.bm_run.proofs.seats.end_scripts.Goals as goal

pub returns-clause-sound : goal.returns-clause-sound
returns-clause-sound c p s = sound-ended p c.args.own.now c.note.new.own c.end.new.self c.end.ensures.planned c.end.ensures.scripts c.note.ensures.same c.note.ensures.lists c.note.ensures.processor c.note.ensures.said c.note.ensures.fine s
