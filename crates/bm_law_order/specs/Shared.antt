-- What all processors share, in parts, and what an entry of a log says of it.
use Rattle.std.specs.Prelude.{ℕ, List, []}
use Rattle.bm_journal.specs.declared.ids.Domain.{Domain}
use Rattle.bm_journal.specs.declared.entry.Entry.{Entry}
use Rattle.bm_page.specs.Stock.{Stock}
use Rattle.bm_law_order.specs.Words.{Words, WordsFit, first_words, words_after}
use Rattle.bm_law_order.specs.Numbers.{Numbers, NumbersFit, first_numbers, numbers_after}
use Rattle.bm_law_order.specs.Looks.{Looks, LooksFit, first_looks, looked_at, looks_after}
use Rattle.bm_law_order.specs.Lives.{Lives, LivesFit, first_lives, lives_after}
use Rattle.bm_law_order.specs.Pages.{PagesFit, fresh_pages, pages_after}
use Rattle.bm_law_order.specs.Parcels.{Boxes, BoxesFit, boxes_after}

-- How many processors there are, and what they share. Words, numbers and lives are also what threads share by single steps; the
-- words of periods, the stock and the parcels are told so by one thread alone.
pub record Shared : Type 0 where
  pub processors : ℕ
  pub words : Words
  pub numbers : Numbers
  pub looks : Looks
  pub lives : Lives
  pub pool : Stock
  pub boxes : Boxes

-- the words that a period of a domain would find now
abbrev pub found : Shared → Domain → List ℕ
found s = looked_at s.processors s.words

-- After an entry of level l of processor p each part is what the entry makes of it.
abbrev pub shared_after : (p l : ℕ) → Entry → Shared → Shared
shared_after p l e s = record {
  processors = s.processors;
  words = words_after p l e s.words;
  numbers = numbers_after p l e s.numbers;
  looks = looks_after p l e (found s) s.looks;
  lives = lives_after p l e s.lives;
  pool = pages_after p l e s.pool;
  boxes = boxes_after p l e s.boxes;
}

-- The entry finds in each part what it needs.
pub record Fits (p l : ℕ) (e : Entry) (s : Shared) : Type 0 where
  pub words : WordsFit p l e s.words
  pub numbers : NumbersFit p l e s.numbers
  pub looks : LooksFit p l e (found s) s.looks
  pub lives : LivesFit p l e s.lives
  pub pages : PagesFit p l e s.pool
  pub boxes : BoxesFit s.processors p l e s.boxes

-- At the outset all words and numbers are 0, no unit has lived, all are in stock, and no parcel waits.
abbrev pub fresh : (processors pages : ℕ) → Shared
fresh processors pages = record {
  processors = processors;
  words = first_words;
  numbers = first_numbers;
  looks = first_looks;
  lives = first_lives;
  pool = fresh_pages pages;
  boxes = λ p c. [];
}
