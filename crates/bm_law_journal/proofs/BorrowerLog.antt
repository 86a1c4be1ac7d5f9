-- The log of the processor that a unit is lent to is lawful.
use Rattle.std.proofs.Common.{◌≡◌, ℕ, inl, inr, true, List, [], ◌∷◌, ◌++◌, refl, sym, ap, lit≤}
use Rattle.std.proofs.lemmas.Bool.Decides.{eqb_tells}
use Rattle.bm_class.specs.Sizes.{class_of_size}
use Rattle.bm_journal.specs.declared.ids.Domain.TheVariants.{Plain, Tracing}
use Rattle.bm_journal.specs.declared.units.Units.TheVariants.{Whole}
use Rattle.bm_journal.specs.declared.entry.Entry.{Entry}
use Rattle.bm_journal.specs.declared.entry.Entry.TheVariants as entry
use Rattle.bm_law.specs.State.{State, opening}
use Rattle.bm_law.specs.Lists.{Leaves, Log, after}
use Rattle.bm_law.specs.Null.{Nothing, NullLaw, RepliesFit}
use Rattle.bm_law.specs.Ordinary.{ordinary}
use Rattle.bm_law.specs.Spans.{own_entries}
use Rattle.bm_law.specs.Worked.{Emptied}
use Rattle.bm_law.proofs.Agree.{leaves-lists}
use Rattle.bm_law.proofs.Null.{pops-fit}
use Rattle.bm_law_lives.specs.Worked.{opens}
use Rattle.bm_law_scenario.specs.Grammar.{IsLog}
use Rattle.bm_law_scenario.specs.Held.{no_names}
use Rattle.bm_law_scenario.specs.Lawful.{LawfulLog}
use Rattle.bm_law_scenario.specs.Parcels.{sends_alone}
use Rattle.bm_law_scenario.specs.Runs.{RunsBlock}
use Rattle.bm_law_lives.specs.SectionWords.{SectionWords}
use Rattle.bm_law_scenario.specs.WorkedJournal.{block_of, drops_x, drops_x_unless_null}
use Rattle.bm_law_scenario.specs.WorkedSlots.{takes_x}
use Rattle.bm_law_scenario.specs.Works.{UntilDown}
use Rattle.bm_law_scenario.proofs.Ordinary.{all-ordinary, says, stands, then-of}
use Rattle.bm_law_scenario.proofs.Unplanned.{done-ordinary}
use Rattle.bm_law_journal.specs.WorkedLoan.{borrower_entries, borrower_seeing, drops_to, gives_up, goes_on, loan, sends_seeing, takes_and_drops, waits, yields}
use Rattle.bm_law_journal.proofs.BorrowerWorks.{at_takes, at_waits, batches_it, batching-work, beginning-work, begins_it, one_yield, sending-work, sends_it, takes_begins, takes_it, takes_part, takes_stops, takes_taken, waits_begins, waits_part, waits_stops}
use Rattle.bm_law_journal.proofs.LoanCalls.{d, drop-runs, given_up, given_up-nothing, holding, no-unit, takes-runs}
use Rattle.bm_law_journal.proofs.OutsideBlock.{runs-block}

-- ---- what the log says of itself

abbrev pub last : List ℕ → State ℕ
last first = after (opening 1) (borrower_seeing first)

pub borrower-leaves : (first : List ℕ) → Leaves 1 (borrower_seeing first) (last first)
borrower-leaves first = leaves-lists 1 (borrower_seeing first) (last first) refl

emptied : (first : List ℕ) → Emptied (last first)
emptied first = record {
  lists = λ c. elim (eqb_tells c 10) [ inl y ↦ rw y.1 refl | inr y ↦ rw y.0 refl ];
  hands = λ l. elim (eqb_tells l 0) [ inl y ↦ rw y.1 refl | inr y ↦ rw y.0 refl ];
  active = λ c. elim (eqb_tells c 10) [ inl y ↦ rw y.1 refl | inr y ↦ rw y.0 refl ];
}

replies : (first : List ℕ) → RepliesFit Nothing (own_entries 0 (borrower_seeing first))
replies first = search tt

null : (first : List ℕ) → NullLaw 1 (borrower_seeing first)
null first = record {
  pops = pops-fit (opening 1) (borrower_seeing first) (borrower-leaves first).named;
  replies = λ l. elim (eqb_tells 0 l) [ inl y ↦ rw (← y.1) (replies first) | inr y ↦ rw y.0 tt ];
}

words : (first : List ℕ) → SectionWords (borrower_seeing first)
words first Plain = refl
words first Tracing = refl

-- ---- the first script

abbrev until : State ℕ → Log → Type 0
until = UntilDown (10 ∷ [])

-- the drop, and the work behind it
abbrev drops : List Entry
drops = drops_to 0 ++ batches_it

drops-inner : RunsBlock d 0 true until (block_of (drops_x 20 ∷ []) (lit≤ tt) 20) holding given_up takes_taken (ordinary drops)
drops-inner = runs-block d true until (drops_x 20 ∷ []) (lit≤ tt) 20 _ _ _ _ (
  given_up,
  then-of _ _ _ drops []
      (given_up, then-of _ _ _ (drops_to 0) batches_it (says _ _ _ (inr (drop-runs takes_taken refl))) (refl, batching-work))
      (refl, refl),
)

takes-body : RunsBlock d 0 true until gives_up no_names given_up at_takes (ordinary (takes_and_drops 0))
takes-body = runs-block d true until (takes_x 19 ∷ drops_x_unless_null 20 ∷ []) (lit≤ tt) 21 _ _ _ _ (
  holding,
  then-of _ _ at_takes takes_it drops
      (holding, then-of _ _ _ takes_it [] (says _ _ _ takes-runs) (refl, (0, (refl, refl))))
      (given_up, then-of _ _ _ drops [] (given_up, then-of _ _ _ drops [] drops-inner (refl, (0, (refl, refl)))) (refl, refl)),
)

-- ---- the second one

waits-body : RunsBlock d 0 true until waits no_names no_names at_waits (ordinary one_yield)
waits-body = runs-block d true until (yields 23 ∷ []) (lit≤ tt) 24 _ _ _ _ (
  no_names,
  then-of _ _ at_waits one_yield []
      (no_names, then-of _ _ _ one_yield [] (refl, stands _ _) (refl, (0, (refl, refl))))
      (refl, refl),
)

-- ---- the log

borrower-is : (first : List ℕ) → IsLog loan 1 (borrower_seeing first)
unfolding class_of_size
borrower-is first = record {
  front = ordinary (opens [] ++ (takes_part ++ waits_part first));
  closing = ordinary (entry.Ended ∷ []);
  log_is = refl;
  is_front = then-of _ _ (opening 1) (opens []) (takes_part ++ waits_part first) (says _ _ _ ([], ap (λ units. entry.Fill 10 (Whole units) ∷ []) (sym no-unit), refl)) (
    _,
    refl,
    1,
    then-of _ _ _ takes_part (waits_part first) (then-of _ _ _ takes_begins (takes_and_drops 0 ++ (takes_stops ++ begins_it)) (stands _ _)
        (then-of _ _ _ (takes_and_drops 0) (takes_stops ++ begins_it) (given_up, takes-body, given_up-nothing) (then-of _ _ _ takes_stops begins_it (stands _ _) beginning-work))) (
          _,
          refl,
          3,
          then-of _ _ _ (waits_part first) [] (then-of _ _ _ waits_begins (one_yield ++ (waits_stops ++ sends_it first)) (stands _ _)
              (then-of _ _ _ one_yield (waits_stops ++ sends_it first) (no_names, waits-body, (λ y. tt)) (then-of _ _ _ waits_stops (sends_it first) (stands _ _) (sending-work first))))
              refl,
        ),
  );
  is_closing = then-of _ _ _ (entry.Ended ∷ []) [] (stands _ _)
      (then-of _ _ _ [] [] refl
      (then-of _ _ _ [] [] (then-of _ _ _ [] [] refl refl) ([], then-of _ _ _ [] [] refl refl)));
}

-- two processors may send
not-alone : sends_alone loan ≡ true → ⊥
not-alone e = absurd (cc)

pub borrower-lawful : (first : List ℕ) → LawfulLog loan 1 (borrower_seeing first)
borrower-lawful first = record {
  handlers = refl;
  phrases = done-ordinary _ 1 _ (all-ordinary (borrower_entries 0 goes_on (sends_seeing first 0))) refl;
  is_log = borrower-is first;
  words = words first;
  last = last first;
  lists = borrower-leaves first;
  emptied = emptied first;
  null = null first;
  parcels = λ q. absurd (not-alone q);
}
