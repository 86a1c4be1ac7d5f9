-- The journal in which a unit is lent is lawful by its heading, its logs one by one and its totals.
use Rattle.std.proofs.Common.{◌≡◌, ◌<◌, ℕ, zero, suc, List, Some, None, arith, refl, subst, slice_get, lit<}
use Rattle.bm_class.specs.Sizes.{class_of_size, size_of_class}
use Rattle.bm_class.specs.Watermarks.{low_of_size, high_of_size, batch_of_size}
use Rattle.bm_law.specs.Lists.{Log}
use Rattle.bm_law.specs.Pages.{NamesPage, all_given}
use Rattle.bm_law_scenario.specs.Lawful.{HeadingOf, LawfulLog, LawfulLogs}
use Rattle.bm_law_lives.specs.Short.{all_entries}
use Rattle.bm_law_journal.specs.WorkedLoan.{journal_seeing, loan, logs_seeing}
use Rattle.bm_law_journal.proofs.BorrowerLog.{borrower-lawful}
use Rattle.bm_law_journal.proofs.LenderLog.{lender-lawful}

heading : (first : List ℕ) → HeadingOf loan (journal_seeing first)
unfolding class_of_size size_of_class low_of_size high_of_size batch_of_size
heading first = record { processors = refl; pages = refl; types = refl; maps = refl; scripts = refl; classes = refl }

some-is : {A : Type 0} {a b : A} → Some a ≡ Some b → a ≡ b
some-is e = cc

none-is : {A : Type 0} {a : A} → None ≡ Some a → ⊥
none-is e = cc

logs-lawful : (first : List ℕ) (p : ℕ) (log : Log) → slice_get (logs_seeing first) p ≡ Some log → LawfulLog loan p log
logs-lawful first zero log e = subst (LawfulLog loan 0) (some-is e) lender-lawful
logs-lawful first (suc zero) log e = subst (LawfulLog loan 1) (some-is e) (borrower-lawful first)
logs-lawful first (suc (suc p)) log e = absurd (none-is e)

-- the one page is named
page-named : (first : List ℕ) (page : ℕ) → page < 1 → NamesPage page (all_given (all_entries (logs_seeing first)))
page-named first zero lt = record { unit = 0; page_is = refl; stands = lit< tt }
page-named first (suc page) lt = absurd (omega (arith, lt))

pub loan-logs : (first : List ℕ) → LawfulLogs loan (journal_seeing first)
loan-logs first = record {
  heading = heading first;
  count = refl;
  logs = logs-lawful first;
  short = λ k. page-named first;
  graphs = refl;
  totals = refl;
}
