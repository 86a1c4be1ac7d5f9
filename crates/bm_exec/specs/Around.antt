-- The plain section around the code of a script. (This project's own: rcu_read_lock of include/linux/rcupdate.h may be called inside
-- itself, and only the outermost one counts.)
use Rattle.std.specs.Prelude.{◌≡◌, ℕ, ◌+◌, Bool, ◌||◌, is_some, Option, Some, None, [], ◌∷◌}
use Rattle.bm_journal.specs.declared.ids.Domain.TheVariants.{Plain}
use Rattle.bm_journal.specs.declared.entry.Entry.TheVariants as entry
use Rattle.bm_law.specs.Lists.{Log}
use Rattle.bm_law.specs.Spans.{Records}

-- Whether the whole script is in one, and else the word of the one that a statement of its began, while that goes on.
pub record Around : Type 0 where
  pub whole : Bool
  pub begun : Option ℕ

abbrev pub is_inside : Around → Bool
is_inside z = z.whole || is_some z.begun

abbrev pub with_begun : Option ℕ → Around → Around
with_begun o z = record z { begun = o }

-- A section was begun, of this word, and recorded.
pub record Entered (l : ℕ) (z z' : Around) (log log' : Option Log) : Type 0 where
  pub word : ℕ
  pub now_is : z' ≡ with_begun (Some word) z
  pub records : Records l (entry.In Plain word ∷ []) log log'

-- The section that was begun has ended, which was recorded.
pub record HasLeft (l : ℕ) (z z' : Around) (log log' : Option Log) : Type 0 where
  pub word : ℕ
  pub was : z.begun ≡ Some word
  pub now_is : z' ≡ with_begun None z
  pub records : Records l (entry.Out Plain (word + 1) ∷ []) log log'
