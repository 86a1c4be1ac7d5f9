use Rattle.std.proofs.Common.{◌≡◌, length, sym, ◌∙◌, ap₂, arith}
use Rattle.std.proofs.lemmas.List.Quantifiers.{position-Some}
use Rattle.std.specs.Str.{bytes_eq}
use Rattle.bm_check.specs.Tables.{looked_up, words_of}
use Rattle.bm_check.proofs.TableLemmas.{put_there, put_last, no_key, named}
use Rattle.bm_check.proofs.table.NameTable.put.Goals as goal

pub returns-in-Some-clause-ok : goal.returns-in-Some-clause-ok
returns-in-Some-clause-ok c =
    let t = c.args.self.now in
    let f = position-Some (λ k. bytes_eq c.args.name.now k.now) t.names.keys c.in-Some.place no_key (sym c.in-Some.ensures.index) in
    let long : length t.states.items ≡ length t.names.keys = omega (arith, t.each_state, t.states.ok.0) in
    put_there t.names.keys t.states.items c.args.name.now c.args.state c.in-Some.place long f.0 f.1 f.2 (sym c.in-Some.ensures.found)

pub returns-in_default-clause-ok : goal.returns-in_default-clause-ok
returns-in_default-clause-ok c =
    let t = c.args.self.now in
    let long : length t.states.items ≡ length t.names.keys = omega (arith, t.each_state, t.states.ok.0) in
    let among = sym c.in-None.ensures.found in
    let keys = rw among at c.in_default.ensures.keys in
    ap₂ (λ ks ss. named (words_of ks) (looked_up (words_of ks) ss)) keys c.in_ok-push-in-None.ensures.items
    ∙ put_last t.names.keys c.args.name t.states.items c.args.state long among
