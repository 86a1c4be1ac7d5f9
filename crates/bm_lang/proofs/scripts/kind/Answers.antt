use Rattle.std.proofs.Common.{[], ◌∷◌, refl, sym, ap, ◌∙◌}
use Rattle.bm_lang.specs.declared.fault.BadKind.TheVariants as kind
use Rattle.bm_lang.specs.Tokens as token
use Rattle.bm_lang.specs.Known.{knowing}
use Rattle.bm_lang.specs.Grammar.{KindOfScript, Braced}
use Rattle.bm_lang.specs.Spelling.{reserved, script_word}
use Rattle.bm_lang.proofs.Steps.{fails_here, read_shift, read_nothing, script_word_of}
use Rattle.bm_lang.specs.declared.fault.LangFault.TheVariants.{Bad}
use Rattle.bm_lang.specs.Machine.{bad}
use Rattle.bm_lang.specs.Grammar.{refusal}
use Rattle.bm_lang.proofs.Sorts.{no_keyword, word_needed}
use Rattle.bm_lang.proofs.scripts.kind.Goals as goal

pub returns-in-Some : goal.returns-in-Some
returns-in-Some c = let e = rw c.in-Keyword.is at c.take-next.ensures.begins in let k = sym c.script_kind_of.ensures ∙ c.in-Some.is in λ p types maps scripts n. read_shift _ _ _ (KindOfScript n) (Braced 16 ∷ []) [] (Braced 16 ∷ []) _ (reserved (script_word c.in-Some.kind)) [] _ _ _ _ _ e (rw k refl) (ap token.Reserved (script_word_of c.in-Keyword.word c.in-Some.kind k)) tt (read_nothing _ _ _ _ refl) (λ u. u)

pub returns-in-None : goal.returns-in-None
returns-in-None c = let e = rw c.in-Keyword.is at c.take-next.ensures.begins in let k = sym c.script_kind_of.ensures ∙ c.in-None.is in λ p types maps scripts n. fails_here _ _ _ (knowing p types maps scripts) (KindOfScript n) [] kind.Unexpected _ e (rw k refl) (c.refused.ensures ∙ ap (λ t. Bad (bad c.take-next.result.place (refusal (token.sort t)))) c.in-Keyword.is)

pub returns-in_default : goal.returns-in_default
returns-in_default c = λ p types maps scripts n. no_keyword _ _ (knowing p types maps scripts) (KindOfScript n) c.take-next.result _ c.take-next.ensures.begins c.in_default.not-Keyword (word_needed (knowing p types maps scripts) n) c.refused-in_default.ensures
