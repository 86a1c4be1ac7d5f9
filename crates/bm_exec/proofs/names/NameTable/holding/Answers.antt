use Rattle.std.proofs.Common.{[], sym, ◌∙◌, ap, get_or}
use Rattle.std.proofs.lemmas.List.Quantifiers.{position-Some}
use Rattle.std.specs.Str.{bytes_eq}
use Rattle.bm_exec.specs.Seen.{held_of, words_of}
use Rattle.bm_exec.specs.declared.holding.Holding.TheVariants.{Nothing}
use Rattle.bm_exec.proofs.Tables.{first_at, absent, any-words, place-words}
use Rattle.bm_exec.proofs.names.NameTable.holding.Goals as goal

pub returns-in-Some : goal.returns-in-Some
returns-in-Some c =
    let keys = c.args.self.now.names.keys in
    let f = position-Some (bytes_eq c.args.name.now) (words_of keys) c.in-Some.place [] (place-words (bytes_eq c.args.name.now) keys ∙ sym c.in-Some.ensures.index) in
    ap held_of (c.holding_at.ensures ∙ (ap (λ ss. get_or ss c.in-Some.place Nothing) c.as_slice.ensures.value ∙ sym (first_at (words_of keys) c.args.self.now.holdings.items c.args.name.now c.in-Some.place f.0 f.1 f.2)))

pub returns-in-None : goal.returns-in-None
returns-in-None c =
    let keys = c.args.self.now.names.keys in
    ap held_of (sym (absent _ c.args.self.now.holdings.items c.args.name.now (any-words (bytes_eq c.args.name.now) keys ∙ sym c.in-None.ensures.found)))
