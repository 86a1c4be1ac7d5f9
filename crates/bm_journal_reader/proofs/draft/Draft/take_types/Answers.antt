use Rattle.std.proofs.Common.{sym, ◌∙◌, ap, refl}
use Rattle.std.specs.Prelude.{option_map}
use Rattle.bm_journal_reader.proofs.DraftRead.{types-read}
use Rattle.bm_journal_reader.proofs.draft.Draft.take_types.Goals as goal

pub returns : goal.returns
returns c =
    types-read _ _ _ _ c.requires refl refl refl c.in-Some.ensures (sym (ap (option_map (λ v. v.items)) c.in-Some-2.is) ∙ c.in_ok-types.ensures)
