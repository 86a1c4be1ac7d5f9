use Rattle.bm_class.proofs.SizeLemmas.{class_of_size-least, class_of_size-is, class_of_size-some, class_of_size-none}
use Rattle.bm_class.proofs.size_class.size_class_law.Goals as goal

pub returns-clause-least : goal.returns-clause-least
returns-clause-least c = λ n i. (class_of_size-least n i, λ h. class_of_size-is n i h.0 h.1)

pub returns-clause-none : goal.returns-clause-none
returns-clause-none c = λ n. (class_of_size-some n, class_of_size-none n)
