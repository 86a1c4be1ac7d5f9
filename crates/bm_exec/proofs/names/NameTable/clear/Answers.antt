use Rattle.std.proofs.Common.{ap, ◌∙◌, arith}
use Rattle.std.proofs.lemmas.List.{with_items_is}
use Rattle.bm_exec.specs.Seen.{held_of, looked_up, words_of}
use Rattle.bm_exec.proofs.Tables.{none-held}
use Rattle.bm_exec.proofs.names.NameTable.clear.Goals as goal

pub returns-clause-names : goal.returns-clause-names
returns-clause-names c =
    let words = words_of c.args.self.now.names.keys in
    ap (λ hs. (λ x. held_of (looked_up words hs x))) (with_items_is c.args.self.now.holdings c.clear_all.new.holdings (omega arith)) ∙ none-held words c.clear_all.new.holdings c.clear_all.ensures
