-- The text of a log, one entry more.
use Rattle.std.proofs.Common.{◌≡◌, ℕ, List, [], ◌∷◌, ◌++◌, sym, ap, ◌∙◌, append_assoc, append-nil}
use Rattle.bm_journal.specs.declared.entry.Entry.{Entry}
use Rattle.bm_journal.specs.JournalText.{entry_line, entry_lines}

-- the entry's line stands behind those of the log
pub entry_lines-more : (log : List (ℕ × Entry)) (level : ℕ) (entry : Entry) → entry_lines (log ++ (level, entry) ∷ []) ≡ entry_lines log ++ entry_line level entry
entry_lines-more [] level entry = append-nil (entry_line level entry)
entry_lines-more (x ∷ log) level entry =
    ap (λ l. entry_line x.0 x.1 ++ l) (entry_lines-more log level entry)
    ∙ sym (append_assoc (entry_line x.0 x.1) (entry_lines log) (entry_line level entry))
