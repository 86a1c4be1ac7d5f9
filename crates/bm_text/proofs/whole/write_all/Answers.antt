-- The bytes of one more write follow those done before.
use Rattle.std.proofs.Common.{◌++◌, rules, take, ap, sym, subst, ◌∙◌}
use Rattle.std.proofs.Math.Seq.{take-add}
use Rattle.std.proofs.lemmas.List.{take_rest}
use Rattle.std.specs.Io.KnownBytes.{Appends}
use Rattle.std.proofs.KnownBytes.{Appends-trans}
use Rattle.bm_text.proofs.whole.write_all.Goals as goal

pub turns-preserved : goal.turns-preserved
turns-preserved g c =
    let before = c.turns.invariant in
    let bytes = c.args.bytes.now in
    let done = c.turns.done in
    let count = c.in-Took.count in
    let joined = ap (λ l. take done bytes ++ take count l) (take_rest bytes done) ∙ sym (take-add done count bytes) in
    record {
      within = search rules;
      appended = subst (Appends _ _) joined (Appends-trans _ _ _ _ _ before.appended c.in-Took.ensures.bytes);
      not_flushed = c.in-Took.ensures.flushed ∙ before.not_flushed;
      faultless = c.in-Took.ensures.cause ∙ before.faultless;
    }
