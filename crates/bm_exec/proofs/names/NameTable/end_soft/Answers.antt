use Rattle.std.proofs.Common.{ap, ◌∙◌, arith}
use Rattle.std.proofs.lemmas.List.{with_items_is}
use Rattle.bm_exec.specs.Seen.{held_of, looked_up, words_of}
use Rattle.bm_exec.proofs.Tables.{names-ended}
use Rattle.bm_exec.proofs.names.NameTable.end_soft.Goals as goal

pub returns-clause-names : goal.returns-clause-names
returns-clause-names c =
    let words = words_of c.args.self.now.names.keys in
    let now = c.end_each.new.holdings in
    let old = c.as_mut_slice.ensures.value in
    ap (λ hs. (λ x. held_of (looked_up words hs x))) (with_items_is c.args.self.now.holdings now (omega arith)) ∙ names-ended words c.args.self.now.holdings.items now (rw old at c.end_each.ensures.length) (rw old at c.end_each.ensures.each)
