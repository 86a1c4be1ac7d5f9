-- Journals are the same where what they are made of is.
use Rattle.std.proofs.Common.{◌≡◌, ℕ, Bool, List, length, subst}
use Rattle.std.proofs.Props.{props}
use Rattle.std.specs.Prelude.{IsTrue}
use Rattle.bm_class.specs.declared.watermarks.Marks.{Marks}
use Rattle.bm_journal.specs.declared.entry.Entry.{Entry}
use Rattle.bm_journal.specs.declared.past.Past.{Past}
use Rattle.bm_journal.specs.declared.journal.Journal.{Journal}
use Rattle.bm_journal.specs.WellFormed.{all_differ, owners_below, are_whole}

is_prop : (b : Bool) → IsProp (IsTrue b)
is_prop b = hlevel props

-- all but the facts
record Made : Type 0 where
  processors : ℕ
  pages : ℕ
  types : List (List ℕ)
  maps : List (List ℕ)
  scripts : List (List ℕ)
  classes : List (ℕ × Marks)
  logs : List (List (ℕ × Entry))
  graphs : List (List ℕ × List Past)
  totals : List ℕ

abbrev of : Journal → Made
of j = record { processors = j.processors; pages = j.pages; types = j.types; maps = j.maps; scripts = j.scripts; classes = j.classes; logs = j.logs; graphs = j.graphs; totals = j.totals }

abbrev make : (m : Made) → IsTrue (all_differ m.maps) → IsTrue (owners_below (length m.maps) m.graphs) → IsTrue (are_whole m.logs) → Journal
make m d o w = record { processors = m.processors; pages = m.pages; types = m.types; maps = m.maps; scripts = m.scripts; classes = m.classes; logs = m.logs; graphs = m.graphs; totals = m.totals; maps_differ = d; owners_named = o; units_whole = w }

pub same-journal : (j k : Journal) → j.processors ≡ k.processors → j.pages ≡ k.pages → j.types ≡ k.types → j.maps ≡ k.maps → j.scripts ≡ k.scripts → j.classes ≡ k.classes → j.logs ≡ k.logs → j.graphs ≡ k.graphs → j.totals ≡ k.totals → j ≡ k
same-journal j k a b c d e f g h l =
    let P : Made → Type 0 = λ m. (d : IsTrue (all_differ m.maps)) (o : IsTrue (owners_below (length m.maps) m.graphs)) (w : IsTrue (are_whole m.logs)) → j ≡ make m d o w in
    let at : P (of j) = λ d o w. λ i. make (of j) (is_prop (all_differ j.maps) j.maps_differ d i) (is_prop (owners_below (length j.maps) j.graphs) j.owners_named o i) (is_prop (are_whole j.logs) j.units_whole w i) in
    let alike : of j ≡ of k = λ i. record { processors = a i; pages = b i; types = c i; maps = d i; scripts = e i; classes = f i; logs = g i; graphs = h i; totals = l i } in
    subst P alike at k.maps_differ k.owners_named k.units_whole
