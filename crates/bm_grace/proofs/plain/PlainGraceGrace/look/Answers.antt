use Rattle.std.proofs.Common.{◌≡◌, ◌*◌, length, take, ap, subst, sym, ◌∙◌}
use Rattle.bm_journal.specs.declared.ids.Domain.TheVariants.{Plain, Tracing}
use Rattle.bm_grace.specs.Calls.{looks}
use Rattle.bm_grace.specs.PlainState.{PlainState, in_turn, period_looked, words_in}
use Rattle.bm_grace.specs.Answers.{Verdict}
use Rattle.bm_grace.specs.AtRest.{IsAtRest}
use Rattle.bm_grace.specs.Kept.{AreAtMost}
use Rattle.bm_grace.proofs.Grown.{plain-looked, tracing-looked}
use Rattle.bm_grace.proofs.Rests.{look-passes}
use Rattle.bm_grace.proofs.plain.PlainGraceGrace.look.Goals as goal

pub invariant_of-self : goal.invariant_of-self
invariant_of-self c =
    let i = c.self.inside in
    let xs = c.words_seen-words.result in
    let words : xs ≡ take i.processors i.plain.words = c.words_seen-words.ensures.words ∙ (ap (λ d. words_in d c.args.self.now) c.in-Plain.is ∙ ap (λ s. words_in Plain s) (sym c.self.view_is)) in
    let count : length xs ≡ i.processors = c.words_seen-words.ensures.length ∙ (ap (λ d. looks d c.args.self.now.processors) c.in-Plain.is ∙ ap (λ (s : PlainState). s.processors) (sym c.self.view_is)) in
    plain-looked i.processors i.processor i.plain i.tracing c.look.new.self xs c.look.ensures.state words count c.self.invariant

pub invariant_of-self-in-Tracing : goal.invariant_of-self-in-Tracing
invariant_of-self-in-Tracing c =
    let i = c.self.inside in
    let xs = c.words_seen-words.result in
    let words : xs ≡ in_turn (take i.processors i.plain.words) (take i.processors i.tracing.words) = c.words_seen-words.ensures.words ∙ (ap (λ d. words_in d c.args.self.now) c.in-Tracing.is ∙ ap (λ s. words_in Tracing s) (sym c.self.view_is)) in
    let count : length xs ≡ 2 * i.processors = c.words_seen-words.ensures.length ∙ (ap (λ d. looks d c.args.self.now.processors) c.in-Tracing.is ∙ ap (λ (s : PlainState). 2 * s.processors) (sym c.self.view_is)) in
    tracing-looked i.processors i.processor i.plain i.tracing c.look-in-Tracing.new.self xs c.look-in-Tracing.ensures.state words count c.self.invariant

pub returns-in-Plain-clause-at_rest : goal.returns-in-Plain-clause-at_rest
returns-in-Plain-clause-at_rest c n rest =
    let g = c.args.self.now in
    let xs = c.words_seen-words.result in
    let here = c.look.new.self in
    let words : xs ≡ words_in Plain g = c.words_seen-words.ensures.words ∙ ap (λ d. words_in d g) c.in-Plain.is in
    let state : here ≡ period_looked xs g.plain = c.look.ensures.state ∙ ap (λ (s : PlainState). period_looked xs s.plain) c.self.view_is in
    let verdict = subst (λ d. Verdict c.look.result d here.first xs) c.in-Plain.is c.look.ensures.answer in
    let grown = subst (λ (s : PlainState). AreAtMost s.plain.first (words_in Plain s)) c.self.view_is c.self.invariant.plain_grown in
    look-passes c.look.result Plain g here xs words state verdict grown n (subst (λ d. IsAtRest g d n) c.in-Plain.is rest)

pub returns-in-Tracing-clause-at_rest : goal.returns-in-Tracing-clause-at_rest
returns-in-Tracing-clause-at_rest c n rest =
    let g = c.args.self.now in
    let xs = c.words_seen-words.result in
    let here = c.look-in-Tracing.new.self in
    let words : xs ≡ words_in Tracing g = c.words_seen-words.ensures.words ∙ ap (λ d. words_in d g) c.in-Tracing.is in
    let state : here ≡ period_looked xs g.tracing = c.look-in-Tracing.ensures.state ∙ ap (λ (s : PlainState). period_looked xs s.tracing) c.self.view_is in
    let verdict = subst (λ d. Verdict c.look-in-Tracing.result d here.first xs) c.in-Tracing.is c.look-in-Tracing.ensures.answer in
    let grown = subst (λ (s : PlainState). AreAtMost s.tracing.first (words_in Tracing s)) c.self.view_is c.self.invariant.tracing_grown in
    look-passes c.look-in-Tracing.result Tracing g here xs words state verdict grown n (subst (λ d. IsAtRest g d n) c.in-Tracing.is rest)
