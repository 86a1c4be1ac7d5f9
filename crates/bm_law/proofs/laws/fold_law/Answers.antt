use Rattle.bm_law.proofs.Folds.{after-append, AllName-append, AllName-front, AllName-back, Leaves-more}
use Rattle.bm_law.proofs.laws.fold_law.Goals as goal

pub returns-clause-lists : goal.returns-clause-lists
returns-clause-lists c = after-append

pub returns-clause-named : goal.returns-clause-named
returns-clause-named c = λ s a b. (λ h. (AllName-front s a b h, AllName-back s a b h), λ h. AllName-append s a b h.0 h.1)

pub returns-clause-more : goal.returns-clause-more
returns-clause-more c = Leaves-more
