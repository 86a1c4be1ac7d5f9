use Rattle.std.proofs.Common.{sym, ◌∙◌, refl}
use Rattle.bm_journal_reader.proofs.DraftRead.{behind-reads}
use Rattle.bm_journal_reader.proofs.draft.Draft.take_behind.Goals as goal

pub returns-in_ok-taken-in-Some : goal.returns-in_ok-taken-in-Some
returns-in_ok-taken-in-Some c =
    behind-reads c.in_ok-taken-in-Some.taken c.args.self.now _ _ c.in-Some.line c.requires.at c.requires.sound refl refl refl refl refl refl refl (sym c.in-Some.is ∙ c.in_ok-line.ensures) (c.in_ok-taken-in-Some.ensures c.args.self.now.maps.items)
