use Rattle.std.proofs.Common.{sym, ap, ◌∙◌}
use Rattle.std.specs.Str.{bytes_eq}
use Rattle.bm_exec.specs.Seen.{held_of, words_of}
use Rattle.bm_exec.proofs.Results.{on-ok}
use Rattle.bm_exec.proofs.Tables.{any-words, absent, nothing-anew}
use Rattle.bm_exec.proofs.names.NameTable.add.Goals as goal

pub returns-then-contains-clause-there : goal.returns-then-contains-clause-there
returns-then-contains-clause-there c = any-words (bytes_eq c.args.name.now) c.args.self.now.names.keys ∙ (sym c.contains.ensures ∙ c.if-contains.true)

pub returns-clause-held : goal.returns-clause-held
returns-clause-held c =
    let t = c.args.self.now in
    let x = c.args.name.now in
    let unknown = any-words (bytes_eq x) t.names.keys ∙ (sym c.contains.ensures ∙ c.if-contains.false) in
    on-ok c.put.result _ _ c.put.ensures.ok (λ e. e ∙ nothing-anew _ x (ap held_of (absent (words_of t.names.keys) t.holdings.items x unknown)))
