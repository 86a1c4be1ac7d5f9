use Rattle.std.proofs.Common.{refl}
use Rattle.bm_journal_reader.proofs.DraftRead.{size-read}
use Rattle.bm_journal_reader.proofs.draft.Draft.take_size.Goals as goal

pub returns : goal.returns
returns c = size-read _ _ _ _ c.requires refl c.in-Some.ensures c.in-Some-size_words.ensures
