-- What fits all that is shared fits each part, and each part goes its own way.
use Rattle.std.proofs.Common.{◌≡◌, [], ◌∷◌, refl}
use Rattle.bm_law_order.specs.Words.{WordsFit, words_after}
use Rattle.bm_law_order.specs.Numbers.{NumbersFit, numbers_after}
use Rattle.bm_law_order.specs.Lives.{LivesFit, lives_after}
use Rattle.bm_law_order.specs.Pages.{PagesFit, pages_after}
use Rattle.bm_law_order.specs.Parcels.{BoxesFit, boxes_after}
use Rattle.bm_law_order.specs.Shared.{Shared, shared_after}
use Rattle.bm_law_order.specs.Orders.{AllFit, AllShared, Order, over, shared_over}
use Rattle.bm_law_order.proofs.Along.{part-fits, part-over}

pub words-fit : (o : Order) (s : Shared) → AllShared o s → AllFit words_after WordsFit o s.words
words-fit = part-fits (λ s. s.words) words_after (λ p l e s. refl) WordsFit (λ p l e s f. f.words)

pub words-over : (o : Order) (s : Shared) → (shared_over o s).words ≡ over words_after o s.words
words-over = part-over (λ s. s.words) words_after (λ p l e s. refl)

pub numbers-fit : (o : Order) (s : Shared) → AllShared o s → AllFit numbers_after NumbersFit o s.numbers
numbers-fit = part-fits (λ s. s.numbers) numbers_after (λ p l e s. refl) NumbersFit (λ p l e s f. f.numbers)

pub numbers-over : (o : Order) (s : Shared) → (shared_over o s).numbers ≡ over numbers_after o s.numbers
numbers-over = part-over (λ s. s.numbers) numbers_after (λ p l e s. refl)

pub lives-fit : (o : Order) (s : Shared) → AllShared o s → AllFit lives_after LivesFit o s.lives
lives-fit = part-fits (λ s. s.lives) lives_after (λ p l e s. refl) LivesFit (λ p l e s f. f.lives)

pub lives-over : (o : Order) (s : Shared) → (shared_over o s).lives ≡ over lives_after o s.lives
lives-over = part-over (λ s. s.lives) lives_after (λ p l e s. refl)

pub pages-fit : (o : Order) (s : Shared) → AllShared o s → AllFit pages_after PagesFit o s.pool
pages-fit = part-fits (λ s. s.pool) pages_after (λ p l e s. refl) PagesFit (λ p l e s f. f.pages)

pub pages-over : (o : Order) (s : Shared) → (shared_over o s).pool ≡ over pages_after o s.pool
pages-over = part-over (λ s. s.pool) pages_after (λ p l e s. refl)

-- there are always as many processors
pub boxes-fit : (o : Order) (s : Shared) → AllShared o s → AllFit boxes_after (BoxesFit s.processors) o s.boxes
boxes-fit [] s h = tt
boxes-fit (e ∷ o) s h = (h.0.boxes, boxes-fit o (shared_after e.processor e.level e.entry s) h.1)

pub boxes-over : (o : Order) (s : Shared) → (shared_over o s).boxes ≡ over boxes_after o s.boxes
boxes-over = part-over (λ s. s.boxes) boxes_after (λ p l e s. refl)
