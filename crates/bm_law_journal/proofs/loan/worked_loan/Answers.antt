use Rattle.std.proofs.Common.{ℕ, List, [], ◌∷◌, Option, sym, subst}
use Rattle.bm_law_graphs.specs.Uncalled.{CallNone}
use Rattle.bm_law_lives.specs.GraceLaw.{WholeGrace}
use Rattle.bm_law_objects.specs.ReadsLaw.{ReadsLaw}
use Rattle.bm_law_objects.specs.SlotChain.{SlotChain}
use Rattle.bm_law_order.specs.Orders.{IsLaid, Order}
use Rattle.bm_law_order.specs.Whole.{whole}
use Rattle.bm_law_journal.specs.Lawful.{Lawful, named_turns}
use Rattle.bm_law_journal.specs.WorkedLoan.{found_first, journal_seeing, loan, loan_journal, loan_logs, logs_seeing, seen_outside}
use Rattle.bm_law_journal.specs.WorkedTurns.{turns}
use Rattle.bm_law_journal.proofs.LoanLaws.{loan-grace, loan-graphs, loan-lives, loan-references, loan-returns, loan-stamps, outside-grace}
use Rattle.bm_law_journal.proofs.LoanLogs.{loan-logs}
use Rattle.bm_law_journal.proofs.LoanOrder.{loan-laid, loan-owned, loan-placed, loan-polled, loan-sealed, loan_order}
use Rattle.bm_law_journal.proofs.WrongLoans.{by_other-refused, freed-refused, in_period-refused, in_section-refused, outside-wrong, sent-refused, turned-wrong, unchanged-refused, unsealed-refused}
use Rattle.bm_law_journal.proofs.loan.worked_loan.Goals as goal

uncalled : CallNone loan_order
uncalled = search tt

lawful-by : (first : List ℕ) → WholeGrace (logs_seeing first) →
    ((slot : List ℕ) → SlotChain slot (logs_seeing first)) → ReadsLaw (logs_seeing first) →
    Lawful loan (journal_seeing first)
lawful-by first grace slots reads = record {
  logs = loan-logs first;
  lives = loan-lives first;
  returns = loan-returns first;
  grace = grace;
  stamps = loan-stamps first;
  references = loan-references first;
  slots = slots;
  reads = reads;
  graphs = loan-graphs first;
}

pub returns-clause-lawful : goal.returns-clause-lawful
returns-clause-lawful c =
    let o = c.whole_law.ensures turns loan_logs in
    let owned = loan-owned found_first in
    lawful-by found_first loan-grace
    (λ slot. c.slots_law.ensures.logs slot loan_logs loan_order o owned)
    (c.reads_law.ensures.logs loan_logs loan_order o owned)

pub returns-clause-laid : goal.returns-clause-laid
returns-clause-laid c = record {
  laid = loan-laid;
  placed = loan-placed;
  polled = loan-polled;
  sealed = loan-sealed;
  owned = loan-owned found_first;
  shelved = c.uncalled_law.ensures.shelved loan_journal.maps loan_order uncalled;
  histories = λ name. sym (c.uncalled_law.ensures.histories loan_journal.maps loan_order uncalled name);
}

-- ---- wrong ones

pub returns-clause-unchanged : goal.returns-clause-unchanged
returns-clause-unchanged c = unchanged-refused

pub returns-clause-in_section : goal.returns-clause-in_section
returns-clause-in_section c = in_section-refused

pub returns-clause-by_other : goal.returns-clause-by_other
returns-clause-by_other c = by_other-refused

pub returns-clause-unsealed : goal.returns-clause-unsealed
returns-clause-unsealed c = unsealed-refused

pub returns-clause-too_early : goal.returns-clause-too_early
returns-clause-too_early c = in_period-refused

pub returns-clause-freed : goal.returns-clause-freed
returns-clause-freed c = freed-refused

pub returns-clause-sent : goal.returns-clause-sent
returns-clause-sent c = sent-refused

pub returns-clause-outside_lawful : goal.returns-clause-outside_lawful
returns-clause-outside_lawful c =
    let outside_order : Order = whole turns seen_outside.logs in
    let o = c.whole_law.ensures turns seen_outside.logs in
    let owned = loan-owned (2 ∷ 2 ∷ []) in
    lawful-by (2 ∷ 2 ∷ []) outside-grace
    (λ slot. c.slots_law.ensures.logs slot seen_outside.logs outside_order o owned)
    (c.reads_law.ensures.logs seen_outside.logs outside_order o owned)

pub returns-clause-outside : goal.returns-clause-outside
returns-clause-outside c h = outside-wrong h.laid

pub returns-clause-turned : goal.returns-clause-turned
returns-clause-turned c s e h = turned-wrong (subst (λ (t : Option (List ℕ)). IsLaid 2 1 (whole (named_turns t) loan_logs)) e h.laid)
