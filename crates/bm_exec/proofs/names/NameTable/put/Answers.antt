use Rattle.std.proofs.Common.{◌≡◌, [], ◌∷◌, length, sym, ap, ap₂, ◌∙◌, arith, length-append}
use Rattle.std.proofs.lemmas.List.Quantifiers.{position-Some}
use Rattle.std.specs.Str.{bytes_eq}
use Rattle.bm_exec.specs.Seen.{held_of, looked_up, words_of}
use Rattle.bm_exec.proofs.Tables.{put_there, put_last, any-words, place-words, last-there, still-there, new-keys, not-both}
use Rattle.bm_exec.proofs.names.NameTable.put.Goals as goal

pub returns-in_err-word-in-None-clause-known : goal.returns-in_err-word-in-None-clause-known
returns-in_err-word-in-None-clause-known c = λ there. not-both _ _ (any-words (bytes_eq c.args.name.now) c.args.self.now.names.keys ∙ sym c.in-None.ensures.found) there

pub returns-in_err-push-in-None-clause-known : goal.returns-in_err-push-in-None-clause-known
returns-in_err-push-in-None-clause-known c = λ there. not-both _ _ (any-words (bytes_eq c.args.name.now) c.args.self.now.names.keys ∙ sym c.in-None.ensures.found) there

pub returns-in-Err-clause-known : goal.returns-in-Err-clause-known
returns-in-Err-clause-known c = λ there. not-both _ _ (any-words (bytes_eq c.args.name.now) c.args.self.now.names.keys ∙ sym c.in-None.ensures.found) there

pub returns-in_default-clause-same : goal.returns-in_default-clause-same
returns-in_default-clause-same c = λ there. not-both _ _ (any-words (bytes_eq c.args.name.now) c.args.self.now.names.keys ∙ sym c.in-None.ensures.found) there

pub returns-then-place-len-clause-ok : goal.returns-then-place-len-clause-ok
returns-then-place-len-clause-ok c =
    let t = c.args.self.now in
    let f = position-Some (bytes_eq c.args.name.now) (words_of t.names.keys) c.in-Some.place [] (place-words (bytes_eq c.args.name.now) t.names.keys ∙ sym c.in-Some.ensures.index) in
    let long : length t.holdings.items ≡ length t.names.keys = omega (arith, t.each_holding, t.holdings.ok.0) in
    put_there t.names.keys t.holdings.items c.args.name.now c.args.holding c.in-Some.place long f.0 f.1 f.2

pub returns-then-place-len-clause-there : goal.returns-then-place-len-clause-there
returns-then-place-len-clause-there c = any-words (bytes_eq c.args.name.now) c.args.self.now.names.keys ∙ sym c.in-Some.ensures.found

pub invariant_of-self-in_default : goal.invariant_of-self-in_default
invariant_of-self-in_default c = (let t = c.args.self.now in let long = ap length (new-keys c.args.self.now.names.keys _ c.in_ok-word-in-None.word c.args.name.now (c.in_ok-word-in-None.ensures.items_if_clones_equal (λ x y e. e)) (sym c.in-None.ensures.found) c.in_default.ensures.keys) ∙ length-append t.names.keys (c.in_ok-word-in-None.word ∷ []) in record { each_holding = omega (arith, long, t.each_holding, c.in_ok-push-in-None.ensures.len) })

pub returns-in_default-clause-ok : goal.returns-in_default-clause-ok
returns-in_default-clause-ok c =
    let t = c.args.self.now in
    let long : length t.holdings.items ≡ length t.names.keys = omega (arith, t.each_holding, t.holdings.ok.0) in
    ap₂ (λ ks hs. (λ y. held_of (looked_up (words_of ks) hs y))) (new-keys c.args.self.now.names.keys _ c.in_ok-word-in-None.word c.args.name.now (c.in_ok-word-in-None.ensures.items_if_clones_equal (λ x y e. e)) (sym c.in-None.ensures.found) c.in_default.ensures.keys) (c.in_ok-push-in-None.ensures.items) ∙ put_last t.names.keys c.in_ok-word-in-None.word c.args.name.now t.holdings.items c.args.holding (c.in_ok-word-in-None.ensures.items_if_clones_equal (λ x y e. e)) long (sym c.in-None.ensures.found)

pub returns-in_default-clause-there : goal.returns-in_default-clause-there
returns-in_default-clause-there c = rw (new-keys c.args.self.now.names.keys _ c.in_ok-word-in-None.word c.args.name.now (c.in_ok-word-in-None.ensures.items_if_clones_equal (λ x y e. e)) (sym c.in-None.ensures.found) c.in_default.ensures.keys) (last-there c.args.self.now.names.keys c.in_ok-word-in-None.word c.args.name.now (c.in_ok-word-in-None.ensures.items_if_clones_equal (λ x y e. e)))

pub returns-in_default-clause-names : goal.returns-in_default-clause-names
returns-in_default-clause-names c = λ x there. rw (new-keys c.args.self.now.names.keys _ c.in_ok-word-in-None.word c.args.name.now (c.in_ok-word-in-None.ensures.items_if_clones_equal (λ x y e. e)) (sym c.in-None.ensures.found) c.in_default.ensures.keys) (still-there c.args.self.now.names.keys c.in_ok-word-in-None.word x there)
