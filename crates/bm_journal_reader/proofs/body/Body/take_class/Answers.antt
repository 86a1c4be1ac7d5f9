use Rattle.bm_law_text.specs.declared.line.Line.TheVariants as line_as
use Rattle.bm_journal_reader.proofs.BodyTaken.{taken, class-step}
use Rattle.bm_journal_reader.proofs.body.Body.take_class.Goals as goal

pub returns : goal.returns
returns c = λ maps. taken maps (line_as.Class c.args.class c.args.marks) _ _ (class-step maps _ _ _ _ _ _ _ _ c.in-Classes.is c.requires c.in_ok-push.ensures.items)
