-- The words that name a processor's sections in its log. (This project's own: a word for each domain, odd inside a section and
-- even outside, which only the outermost section changes. It stands for the nesting that rcu_read_lock counts in
-- include/linux/rcupdate.h.)
use Rattle.std.specs.Prelude.{◌≡◌, ℕ, zero, suc, ◌+◌, Bool, true, not, ◌&&◌, nat_eq, [], ◌∷◌}
use Rattle.bm_journal.specs.declared.ids.Domain.{Domain}
use Rattle.bm_journal.specs.declared.entry.Entry.{Entry}
use Rattle.bm_journal.specs.declared.entry.Entry.TheVariants as entry
use Rattle.bm_law.specs.Lists.{Log}
use Rattle.bm_law.specs.Begun.{for_domain}

-- the word is even
abbrev pub is_outside : ℕ → Bool
is_outside zero = true
is_outside (suc w) = not (is_outside w)

-- the word of a domain after an entry, where it was w before
abbrev pub word_next : Domain → ℕ → Entry → ℕ
word_next d w (entry.In e n) = for_domain d e n w
word_next d w (entry.Out e n) = for_domain d e n w
word_next d w _ = w

-- after these entries of a log
abbrev pub word_over : Domain → ℕ → Log → ℕ
word_over d w [] = w
word_over d w (e ∷ es) = word_over d (word_next d w e.1) es

-- the last word that a log names; 0 before the first
abbrev pub word_after : Domain → Log → ℕ
word_after d log = word_over d 0 log

-- A section begins where there is none, and ends where there is one; both name the next word.
abbrev pub word_fits : Domain → ℕ → Entry → Bool
word_fits d w (entry.In e n) = for_domain d e (is_outside w && nat_eq n (w + 1)) true
word_fits d w (entry.Out e n) = for_domain d e (not (is_outside w) && nat_eq n (w + 1)) true
word_fits d w _ = true

abbrev pub words_fit : Domain → ℕ → Log → Bool
words_fit d w [] = true
words_fit d w (e ∷ es) = word_fits d w e.1 && words_fit d (word_next d w e.1) es

-- In each domain the log names the words 1, 2, 3 and so on, the odd ones at the begin of a section.
abbrev pub SectionWords : Log → Type 0
SectionWords log = (d : Domain) → words_fit d 0 log ≡ true
