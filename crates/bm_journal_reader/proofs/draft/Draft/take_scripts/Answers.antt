use Rattle.std.proofs.Common.{sym, ◌∙◌, ap, refl}
use Rattle.std.specs.Prelude.{option_map}
use Rattle.bm_journal_reader.proofs.DraftRead.{scripts-read}
use Rattle.bm_journal_reader.proofs.draft.Draft.take_scripts.Goals as goal

pub returns : goal.returns
returns c =
    let n = c.new.ensures in
    scripts-read _ _ _ _ c.requires.at c.requires.sound refl refl refl refl refl refl c.in-Some.ensures (sym (ap (option_map (λ v. v.items)) c.in-Some-2.is) ∙ c.in_ok-scripts.ensures) n.classes n.logs n.graphs n.totals n.part
