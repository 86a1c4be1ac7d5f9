-- What the logs of the journal in which a unit is lent say together.
use Rattle.std.proofs.Common.{◌≡◌, ℕ, zero, suc, None, List, [], ◌∷◌, inl, inr, length, sym, ap, ◌∙◌, lit≤, lit<, refl}
use Rattle.std.specs.Prelude.{get_or}
use Rattle.bm_journal.specs.declared.ids.Domain.TheVariants.{Plain, Tracing}
use Rattle.bm_law.specs.State.{opening}
use Rattle.bm_law_graphs.specs.GraphLaws.{GraphLaws}
use Rattle.bm_law_graphs.specs.History.{calls_on, of_processor, placed}
use Rattle.bm_law_graphs.specs.Locks.{Consecutive, Free}
use Rattle.bm_law_lives.specs.GraceLaw.{DomainLaw, PeriodsFit, WholeGrace, last_words, no_driver}
use Rattle.bm_law_lives.specs.Lives.{LivesLaw, WholeLives, given_object, all_ended}
use Rattle.bm_law_lives.specs.Returns.{ReturnsLaw, returned_units, taken_units}
use Rattle.bm_law_lives.specs.StampLaw.{ReturnsFit, StampLaw}
use Rattle.bm_law_lives.specs.Together.{EachLog, named}
use Rattle.bm_law_lives.proofs.Named.{by-pairs, by-both, same-times}
use Rattle.bm_law_objects.specs.ReferenceLaw.{ReferenceLaw}
use Rattle.bm_law_scenario.specs.WorkedSlots.{desk}
use Rattle.bm_law_journal.specs.Lawful.{history_of}
use Rattle.bm_law_journal.specs.WorkedLoan.{borrower_seeing, found_first, lender, loan_logs, logs_seeing, seen_outside}

loan-law : (first : List ℕ) → LivesLaw (logs_seeing first)
loan-law first = record {
  given = by-pairs _ (named given_object (logs_seeing first)) (λ u e. rw e tt) (search tt);
  ended = by-pairs _ (named given_object (logs_seeing first)) (λ u e. rw e tt) (search (tt, lit≤));
  homes = search tt;
}

pub loan-lives : (first : List ℕ) → WholeLives (logs_seeing first)
loan-lives first = record { law = loan-law first; each_ended = by-both _ (all_ended (logs_seeing first)) (named given_object (logs_seeing first)) (λ u e f. ap length (e ∙ sym f)) (search tt) (search tt) }

pub loan-returns : (first : List ℕ) → ReturnsLaw (logs_seeing first)
loan-returns first = record {
  returned = same-times (named returned_units (logs_seeing first)) (named taken_units (logs_seeing first)) (search tt) (search tt);
  receivers = search (tt, lit<);
  arrive = (λ c u. refl, (λ c u. refl, tt));
}

-- the plain domain, where its one period fits
plain-with : (first : List ℕ) → EachLog (λ p log. PeriodsFit Plain p (last_words Plain (logs_seeing first)) no_driver log) (logs_seeing first) → DomainLaw Plain (logs_seeing first)
plain-with first periods = record { numbers = search lit≤; sections = search tt; periods = periods }

loan-tracing : (first : List ℕ) → DomainLaw Tracing (logs_seeing first)
loan-tracing first = record { numbers = search (tt, lit≤); sections = search tt; periods = search (tt, inl, lit≤) }

grace-with : (first : List ℕ) → DomainLaw Plain (logs_seeing first) → WholeGrace (logs_seeing first)
grace-with first plain = record { law = record { plain = plain; tracing = loan-tracing first }; plain_ended = refl; tracing_ended = refl }

-- a word that was odd is greater later; and words that were even pass
pub loan-grace : WholeGrace loan_logs
loan-grace = grace-with found_first (plain-with found_first (search (tt, inl, inr, lit≤, lit<)))

pub outside-grace : WholeGrace seen_outside.logs
outside-grace = grace-with (2 ∷ 2 ∷ []) (plain-with (2 ∷ 2 ∷ []) (search (tt, inl, lit≤)))

-- what goes back to the stock has waited for its tracing period
lender-waits : ReturnsFit (opening 0) None (λ c. []) lender
lender-waits = (tt, (tt, (tt, (tt, (tt, (tt, (tt, (tt, (tt, (tt, (tt, (tt, (tt, (tt, (tt, (tt, (tt, (tt, (tt, (tt, (tt, (tt, (tt, (tt, (tt, (tt, (tt, (tt, (tt, (tt, (tt, (tt, (tt, (tt, (tt, (tt, (tt, (tt, (tt, (tt, (tt, (tt, (tt, (tt, (tt, (tt, (tt, (tt, (tt, (tt, (tt, (tt, (tt, (tt, (tt, (tt, (tt, (tt, (tt, (tt, (tt, (tt, (tt, (tt, (tt, (tt, (tt, (tt, (tt, (tt, (tt, (tt, (tt, (tt, (tt, (tt, (tt, ((lit≤ tt, (refl, tt)), tt))))))))))))))))))))))))))))))))))))))))))))))))))))))))))))))))))))))))))))))

borrower-waits : (first : List ℕ) → ReturnsFit (opening 1) None (λ c. []) (borrower_seeing first)
borrower-waits first = search tt

pub loan-stamps : (first : List ℕ) → StampLaw (logs_seeing first)
loan-stamps first = record {
  plain_stamps = search tt;
  tracing_stamps = search tt;
  plain_seen = search (tt, lit≤);
  tracing_seen = search (tt, lit≤);
  seals = search (tt, lit≤);
  returns = (lender-waits, (borrower-waits first, tt));
}

-- no reference is acquired, and each one that is given up is the last
pub loan-references : (first : List ℕ) → ReferenceLaw (logs_seeing first)
loan-references first u life k = refl

parts : (first name : List ℕ) (p : ℕ) → of_processor p (placed 0 []) ≡ calls_on (desk ∷ []) name p (get_or (logs_seeing first) p [])
parts first name zero = refl
parts first name (suc zero) = refl
parts first name (suc (suc p)) = refl

locks : (first name : List ℕ) (p : ℕ) → Consecutive name Free (get_or (logs_seeing first) p [])
locks first name zero = search tt
locks first name (suc zero) = search tt
locks first name (suc (suc p)) = tt

pub loan-graphs : (first : List ℕ) → GraphLaws (desk ∷ []) (history_of []) (logs_seeing first)
loan-graphs first = record {
  each = λ name. record { right = refl; parts = parts first name };
  keys = λ name. tt;
  refusals = λ name. tt;
  locks = λ name p lt. locks first name p;
  takes = λ u life. refl;
}
