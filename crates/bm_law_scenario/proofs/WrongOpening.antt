-- A journal whose opening brings no unit, where there is a page, is not lawful.
use Rattle.std.proofs.Common.{◌≡◌, ℕ, List, [], ◌∷◌, ◌++◌, refl, ap, subst, ◌∙◌}
use Rattle.bm_class.specs.Sizes.{class_of_size}
use Rattle.bm_journal.specs.declared.units.Units.TheVariants.{Whole}
use Rattle.bm_journal.specs.declared.entry.Entry.{Entry}
use Rattle.bm_journal.specs.declared.entry.Entry.TheVariants as entry
use Rattle.bm_lang.specs.declared.scenario.Block.{Block}
use Rattle.bm_page.specs.Stock.{fetched}
use Rattle.bm_law_scenario.specs.Fills.{fresh_stock, numbers_of, prefill}
use Rattle.bm_law_scenario.proofs.OwnGrammar.{IsLog}
use Rattle.bm_law_scenario.specs.Lawful.{LawfulLogs}
use Rattle.bm_law_scenario.specs.WorkedJournal.{scenario_of, one_object}
use Rattle.bm_law_scenario.specs.WrongJournals.{not_opened, not_opened_log}
use Rattle.bm_law_scenario.proofs.Opening.{first-four}
use Rattle.bm_law_scenario.proofs.SameLogs.{owned-log}
use Rattle.bm_law_scenario.proofs.Told.{entries_of, own-is}

-- a log begins with what a fresh stock gives
opens : (pages : ℕ) (body : Block) (own : List Entry) → IsLog (scenario_of pages body) 0 own → (more : List Entry) × (own ≡ entry.Fill 0 (Whole (numbers_of (fetched 0 (prefill 0) (fresh_stock pages)).units)) ∷ more)
unfolding class_of_size
opens pages body own h =
    let rest : List Entry = h.scripts ++ (entry.Ended ∷ entry.Close ∷ h.sweeps) in
    (h.are_fills.0 ++ rest, h.own_is ∙ ap (λ v. v ++ rest) h.are_fills.1)

no-unit : (v w : List Entry) (units : List ℕ) → units ≡ 0 ∷ 1 ∷ 2 ∷ 3 ∷ [] → entry.Fill 0 (Whole []) ∷ v ≡ entry.Fill 0 (Whole units) ∷ w → ⊥
no-unit v w units e q = cc

pub not_opened-wrong : LawfulLogs one_object not_opened → ⊥
not_opened-wrong h =
    let l = owned-log one_object refl refl 0 refl not_opened_log (h.logs 0 not_opened_log refl) in
    let is : IsLog one_object 0 (entries_of not_opened_log) = subst (IsLog one_object 0) (own-is one_object 0 not_opened_log l) l.is_log in
    let o = opens 1 _ (entries_of not_opened_log) is in
    no-unit _ o.0 _ first-four o.1
