use Rattle.std.proofs.Common.{sym, ◌∙◌, ap, ap₂, arith, below_more, []}
use Rattle.std.specs.Str.{bytes_eq}
use Rattle.std.proofs.lemmas.List.{get_or_read}
use Rattle.bm_check.proofs.TableLemmas.{none_passes}
use Rattle.bm_check.proofs.setting.is_among.Goals as goal

pub loop-other-preserved : goal.loop-other-preserved
loop-other-preserved c =
    let item = get_or_read c.args.names.now c.loop-other.other-index c.other-item.result c.loop-other-test.true c.other-item.is [] in
    below_more _ _ c.loop-other.invariant (ap (bytes_eq c.args.name.now) (sym item) ∙ (ap₂ bytes_eq (sym c.as_bytes.ensures.value) (sym c.as_bytes-in-loop-other.ensures.value) ∙ (sym c.eq.ensures ∙ c.if-eq.false)))

pub returns : goal.returns
returns c = sym (none_passes (bytes_eq c.args.name.now) c.args.names.now (λ i lt. c.loop-other.invariant i (omega arith)))
