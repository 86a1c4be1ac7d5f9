use Rattle.std.specs.Prelude.{is_none}
use Rattle.std.proofs.Common.{◌≡◌, ◌∙◌, Option, None, Some, true, false, ap, refl, sym}
use Rattle.bm_journal.specs.Recording.{Kept as Recorded}
use Rattle.bm_run.proofs.closers.if_told.Goals as goal

some-told : {A : Type 0} (o : Option A) → is_none o ≡ false → (x : A) × (o ≡ Some x)
some-told None h = absurd cc
some-told (Some x) h = (x, refl)

pub returns-clause-told : goal.returns-clause-told
returns-clause-told c = some-told c.args.kept.caches.recorder.told (ap (λ (r : Recorded). is_none r.told) (sym c.recorder.ensures) ∙ (sym c.failed.ensures ∙ c.if-failed.false))
