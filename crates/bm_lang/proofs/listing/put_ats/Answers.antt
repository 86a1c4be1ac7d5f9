use Rattle.std.proofs.Common.{refl}
use Rattle.std.specs.Prelude.{map}
use Rattle.bm_lang.specs.Spelling.{script_form, spell_at}
use Rattle.bm_lang.proofs.Listed.{one_line_at}
use Rattle.bm_lang.proofs.listing.put_ats.Goals as goal

pub loop-at-preserved : goal.loop-at-preserved
loop-at-preserved c = one_line_at (spell_at (map script_form c.args.scripts.now)) _ _ _ c.args.ats.now c.loop-at.at-index _ c.loop-at-test.true refl c.loop-at.invariant c.in_ok-put_at.ensures
