-- A journal in which a fetch gives fewer units than were wanted though a page was never named.
use Rattle.std.proofs.Common.{◌≡◌, Bool, true, false, List, [], ◌∷◌, length, nat_lt, refl, inl, inr, lit<}
use Rattle.std.specs.Prelude.{◌||◌}
use Rattle.std.proofs.lemmas.Bool.{ltb-true}
use Rattle.bm_class.specs.Sizes.{size_of_class}
use Rattle.bm_journal.specs.declared.entry.Entry.{Entry}
use Rattle.bm_law.specs.Pages.{HasShort, all_given, units_given, wanted}
use Rattle.bm_law_work.proofs.Pages.{any_short, not-named}
use Rattle.bm_law_scenario.specs.Lawful.{LawfulLogs}
use Rattle.bm_law_lives.specs.Short.{all_entries}
use Rattle.bm_law_scenario.specs.WrongShort.{three_pages, third_unnamed}

short-by : (e : Entry) (es : List Entry) (b : Bool) → nat_lt (length (units_given e)) (wanted e) ≡ b → (b || any_short es) ≡ true → (any_short es ≡ true → HasShort es) → HasShort (e ∷ es)
short-by e es true q h more = inl (ltb-true (length (units_given e)) (wanted e) q)
short-by e es false q h more = inr (more h)

has-short : (es : List Entry) → any_short es ≡ true → HasShort es
has-short [] h = cc
has-short (e ∷ es) h = short-by e es (nat_lt (length (units_given e)) (wanted e)) refl h (has-short es)

pub third_unnamed-wrong : ¬ LawfulLogs three_pages third_unnamed
unfolding size_of_class
third_unnamed-wrong l =
    let es = all_entries third_unnamed.logs in
    not-named 2 (all_given es) refl (l.short (has-short es refl) 2 (lit< tt))
