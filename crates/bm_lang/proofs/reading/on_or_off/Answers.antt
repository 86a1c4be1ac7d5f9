use Rattle.std.proofs.Common.{[], refl, ap, ◌∙◌}
use Rattle.bm_lang.specs.declared.fault.BadKind.TheVariants as kind
use Rattle.bm_lang.specs.Tokens as token
use Rattle.bm_lang.specs.Grammar.{OnOrOff}
use Rattle.bm_lang.proofs.Steps.{fails_here, one}
use Rattle.bm_lang.specs.declared.fault.LangFault.TheVariants.{Bad}
use Rattle.bm_lang.specs.Machine.{bad}
use Rattle.bm_lang.specs.Grammar.{refusal}
use Rattle.bm_lang.proofs.Sorts.{no_keyword, other_word, on_needed}
use Rattle.bm_lang.proofs.reading.on_or_off.Goals as goal

pub returns-in-On : goal.returns-in-On
returns-in-On c = let e = rw c.in-Keyword.is at c.take-next.ensures.begins in λ names. let d = rw c.in-On.is at e in one names names OnOrOff _ _ _ _ d refl tt

pub returns-in-Off : goal.returns-in-Off
returns-in-Off c = let e = rw c.in-Keyword.is at c.take-next.ensures.begins in λ names. let d = rw c.in-Off.is at e in one names names OnOrOff _ _ _ _ d refl tt

pub returns-in_default-word : goal.returns-in_default-word
returns-in_default-word c = let e = rw c.in-Keyword.is at c.take-next.ensures.begins in λ names. fails_here _ _ _ names OnOrOff [] kind.Unexpected _ e (rw (other_word c.in-Keyword.word c.in_default-word.not-On c.in_default-word.not-Off) refl) (c.refused.ensures ∙ ap (λ t. Bad (bad c.take-next.result.place (refusal (token.sort t)))) c.in-Keyword.is)

pub returns-in_default : goal.returns-in_default
returns-in_default c = λ names. no_keyword _ _ names OnOrOff c.take-next.result _ c.take-next.ensures.begins c.in_default.not-Keyword (on_needed names) c.refused-in_default.ensures
