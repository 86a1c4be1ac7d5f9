use Rattle.std.proofs.Common.{◌≡◌, ◌∙◌, ℕ, Bool, true, [], ◌∷◌, refl, ap, sym, subst}
use Rattle.bm_journal.specs.declared.units.Units.TheVariants.{Whole}
use Rattle.bm_journal.specs.declared.entry.Entry.TheVariants as entry
use Rattle.bm_law.specs.State.{State, seen}
use Rattle.bm_law.specs.Spans.{Records}
use Rattle.bm_cache.specs.Tokens.{number_of}
use Rattle.bm_cache.specs.Shown.{shown}
use Rattle.bm_cache.specs.Span.{Face}
use Rattle.bm_cache.specs.declared.caches.Caches.{Caches}
use Rattle.bm_law_work.specs.Parts.{If, Nothing, Say, When}
use Rattle.bm_law_work.specs.WorkPhrases.{IsBatch, may_batch}
use Rattle.bm_work_lists.proofs.Grown.{grew-say, grew-map}
use Rattle.bm_work_lists.proofs.batch.batch_if_any.Goals as goal

pub returns-clause-phrase : goal.returns-clause-phrase
returns-clause-phrase g c =
    let l = (g.H.Host.face c.args.host.now).level in
    let i = c.args.class in
    let x = g.H.Host.held c.args.host.now in
    let z = g.H.Host.held c.make_batch.new.host in
    let b = c.make_batch.ensures.span in
    let own = entry.Batch i (Whole b.0) ∷ [] in
    let R : ℕ → Caches g.row.R.Denot → Type 0 = λ k d. Records k own (g.R.Recorder.log d.recorder) (g.R.Recorder.log z.recorder) in
    let r : R l x = subst (R l) c.wants_batch.ensures.held (subst (λ k. R k (g.H.Host.held c.wants_batch.new.host)) (ap (λ (f : Face). f.level) c.wants_batch.ensures.goes.face) b.1.records) in
    let s : State ℕ = seen number_of (shown x) in
    let e : may_batch i s ≡ true = sym c.wants_batch.ensures.answer ∙ c.if-not-wants_batch.false in
    grew-map (Say l (IsBatch i)) (When (may_batch i) (Say l (IsBatch i))) s _ _ (λ part p. let F : Bool → Type 0 = λ t. If t (Say l (IsBatch i)) Nothing s part in subst F (sym e) p) (grew-say l (IsBatch i) own s _ _ r (b.0, refl))
