use Rattle.std.proofs.Common.{sym, ◌∙◌, ap, refl, subst}
use Rattle.std.specs.Prelude.{option_map}
use Rattle.bm_journal_reader.specs.Owning.{Differ}
use Rattle.bm_journal_reader.specs.Pieces.{texts}
use Rattle.bm_law_text.proofs.PartsSound.{names-sound}
use Rattle.bm_journal_reader.proofs.DraftRead.{maps-read, maps-refused}
use Rattle.bm_journal_reader.proofs.draft.Draft.take_maps.Goals as goal

pub returns : goal.returns
returns c =
    let read = sym (ap (option_map (λ v. v.items)) c.in-Some-2.is) ∙ c.in_ok-maps.ensures in
    let same = names-sound (texts c.in-Some.rest.now) c.in-Some-2.maps.items (sym read) in
    maps-read _ _ _ _ c.requires refl refl refl refl c.in-Some.ensures read (sym same.0) (subst (Differ (texts c.in-Some.rest.now)) c.in-Some-3.is c.in_ok-owners.ensures)

pub returns-in_default-3 : goal.returns-in_default-3
returns-in_default-3 c =
    let read = sym (ap (option_map (λ v. v.items)) c.in-Some-2.is) ∙ c.in_ok-maps.ensures in
    let same = names-sound (texts c.in-Some.rest.now) c.in-Some-2.maps.items (sym read) in
    maps-refused c.args.self.now _ _ _ c.requires c.in-Some.ensures read (sym same.0) (subst (Differ (texts c.in-Some.rest.now)) c.in_default-3.is c.in_ok-owners.ensures)
