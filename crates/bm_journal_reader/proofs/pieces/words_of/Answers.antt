use Rattle.std.proofs.Common.{◌==◌, rules}
use Rattle.std.proofs.lemmas.Bool.Decides.{nat_tests}
use Rattle.std.proofs.lemmas.Iterator.Consumers.{map_from_collect}
use Rattle.std.proofs.lemmas.Iterator.Splits.{YieldsList-from_slice_split}
use Rattle.bm_journal_reader.proofs.pieces.words_of.Goals as goal

pub returns : goal.returns
returns c =
    let read = map_from_collect _ c.collect.ensures.ran (YieldsList-from_slice_split _ (λ b. b == 32) c.args.line.now c.split.ensures.rest c.split.ensures.done c.split.ensures.closure (λ x b q h. search (rules, nat_tests))) in
    rw c.in_ok-words.was at read
