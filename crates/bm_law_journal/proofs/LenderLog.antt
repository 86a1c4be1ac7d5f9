-- The log of the processor that lends a unit is lawful.
use Rattle.std.proofs.Common.{Bool, ◌≡◌, ℕ, inl, inr, true, false, List, [], ◌∷◌, ◌++◌, None, refl, sym, ap, lit≤}
use Rattle.std.proofs.lemmas.Bool.Decides.{eqb_tells}
use Rattle.bm_class.specs.Sizes.{class_of_size}
use Rattle.bm_journal.specs.declared.ids.Domain.TheVariants.{Plain, Tracing}
use Rattle.bm_journal.specs.declared.units.Units.TheVariants.{Whole}
use Rattle.bm_journal.specs.declared.entry.Entry.{Entry}
use Rattle.bm_journal.specs.declared.entry.Entry.TheVariants as entry
use Rattle.bm_lang.specs.declared.scenario.Action.{Yield}
use Rattle.bm_law.specs.State.{State, opening}
use Rattle.bm_law.specs.Lists.{Leaves, Log, after}
use Rattle.bm_law.specs.Null.{Nothing, NullLaw, RepliesFit}
use Rattle.bm_law.specs.Ordinary.{ordinary}
use Rattle.bm_law.specs.Spans.{own_entries}
use Rattle.bm_law.specs.SweepPhrases.{SweepPhrase}
use Rattle.bm_law.specs.Worked.{Emptied}
use Rattle.bm_law.proofs.Agree.{leaves-lists}
use Rattle.bm_law.proofs.Null.{pops-fit}
use Rattle.bm_law_lives.specs.Worked.{ends, frees, opens}
use Rattle.bm_law_scenario.specs.Grammar.{IsLog}
use Rattle.bm_law_scenario.specs.Held.{no_names}
use Rattle.bm_law_scenario.specs.Lawful.{LawfulLog}
use Rattle.bm_law_scenario.specs.Parcels.{sends_alone}
use Rattle.bm_law_scenario.specs.Runs.{Enclosed, Followed, Leaving, RunsAction, RunsBlock}
use Rattle.bm_law_lives.specs.SectionWords.{SectionWords}
use Rattle.bm_law_scenario.specs.WorkedJournal.{block_of, drops_x, drops_x_unless_null}
use Rattle.bm_law_scenario.specs.WorkedSlots.{call_of, exchanges, puts_x}
use Rattle.bm_law_scenario.specs.Works.{UntilDown}
use Rattle.bm_law_scenario.proofs.Ordinary.{all-ordinary, says, stands, then-of}
use Rattle.bm_law_scenario.proofs.Unplanned.{done-ordinary}
use Rattle.bm_law_journal.specs.WorkedLoan.{lends_statements, finds_empty, last_words, lender, lender_entries, lends, loan, makes_again, makes_x_of, receives, sealed, sweeps_unit, the_unit, wide_id, works_in_vain, yields}
use Rattle.bm_law_journal.proofs.LoanCalls.{d, drop-wide-runs, first-unit, given_away, given_away-nothing, holding, holding_wide, new-runs, new-wide-runs, puts-runs, wide_given_up, wide_given_up-nothing}
use Rattle.bm_law_journal.proofs.LenderWorks.{again_begins, again_body, again_part, again_stops, asks, asks_again, at_again, at_lends, first-work, last-work, lends_begins, lends_body, lends_part, lends_stops, receiving-work, second-work}
use Rattle.bm_law_journal.proofs.OutsideBlock.{runs-block}

-- ---- what the log says of itself

abbrev pub last : State ℕ
last = after (opening 0) lender

pub lender-leaves : Leaves 0 lender last
lender-leaves = leaves-lists 0 lender last refl

emptied : Emptied last
emptied = record {
  lists = λ c. elim (eqb_tells c 10) [ inl y ↦ rw y.1 refl | inr y ↦ rw y.0 refl ];
  hands = λ l. elim (eqb_tells l 0) [ inl y ↦ rw y.1 refl | inr y ↦ rw y.0 refl ];
  active = λ c. elim (eqb_tells c 10) [ inl y ↦ rw y.1 refl | inr y ↦ rw y.0 refl ];
}

replies : RepliesFit Nothing (own_entries 0 lender)
replies = search tt

null : NullLaw 0 lender
null = record {
  pops = pops-fit (opening 0) lender lender-leaves.named;
  replies = λ l. elim (eqb_tells 0 l) [ inl y ↦ rw (← y.1) replies | inr y ↦ rw y.0 tt ];
}

words : SectionWords lender
words Plain = refl
words Tracing = refl

-- ---- the first script, in a tracing section

abbrev until : State ℕ → Log → Type 0
until = UntilDown (10 ∷ [])

abbrev puts : List Entry
puts = exchanges the_unit None None

-- behind the call and its work; behind the exchange; and behind the section
abbrev lends_worked : State ℕ
lends_worked = after at_lends (ordinary (asks ++ works_in_vain 0))

abbrev lends_put : State ℕ
lends_put = after lends_worked (ordinary puts)

abbrev held_up : List Entry
held_up = entry.In Plain 1 ∷ entry.Yield ∷ entry.Out Plain 2 ∷ []

abbrev lends_inside : State ℕ
lends_inside = after lends_put (ordinary (entry.In Plain 1 ∷ []))

abbrev one_yield : List Entry
one_yield = entry.Yield ∷ []

abbrev leaves_it : List Entry
leaves_it = entry.Out Plain 2 ∷ []

-- the object is put into the slot, and o holds null
puts-inner : RunsBlock d 0 false until (block_of (puts_x 10) (lit≤ tt) 10) holding given_away lends_worked (ordinary puts)
puts-inner = runs-block d false until (puts_x 10) (lit≤ tt) 10 _ _ _ _ (
  given_away,
  then-of _ _ lends_worked puts []
      (given_away, then-of _ _ _ puts [] (says _ _ _ puts-runs) (refl, (0, (refl, refl))))
      (given_away, then-of _ _ _ [] [] (given_away, then-of _ _ _ [] [] (refl, refl) (refl, (0, (refl, refl)))) (refl, refl)),
)

-- it yields, inside and outside
yields-runs : (i : Bool) (s : State ℕ) → UntilDown (10 ∷ []) (after s (ordinary one_yield)) [] →
    Followed (RunsAction d 0 i until Yield) (Leaving until) given_away given_away s (ordinary one_yield)
yields-runs i s none = (given_away, then-of _ _ s one_yield [] (refl, stands _ _) (refl, none))

yields-inner : RunsBlock d 0 true until (block_of (yields 11 ∷ []) (lit≤ tt) 11) given_away given_away lends_inside (ordinary one_yield)
yields-inner = runs-block d true until (yields 11 ∷ []) (lit≤ tt) 11 _ _ _ _
    (given_away, then-of _ _ lends_inside one_yield [] (yields-runs true _ (0, (refl, refl))) (refl, refl))

lends-runs : RunsBlock d 0 false until lends no_names given_away at_lends (ordinary lends_body)
lends-runs = runs-block d false until lends_statements (lit≤ tt) 13 _ _ _ _ (
  holding,
  then-of _ _ at_lends (asks ++ works_in_vain 0) (puts ++ (held_up ++ one_yield))
      (holding, then-of _ _ _ asks (works_in_vain 0) (says _ _ _ new-runs) (refl, first-work)) (
        given_away,
        then-of _ _ _ puts (held_up ++ one_yield)
            (given_away, then-of _ _ _ puts [] puts-inner (refl, (0, (refl, refl)))) (
              given_away,
              then-of _ _ _ held_up one_yield
                  (given_away, then-of _ _ _ held_up [] (1, inside) (refl, (0, (refl, refl))))
                  (given_away, then-of _ _ _ one_yield [] (yields-runs false _ (0, (refl, refl))) (refl, refl)),
            ),
      ),
)
  where
    inside : Enclosed 0 (RunsBlock d 0 true until (block_of (yields 11 ∷ []) (lit≤ tt) 11)) 1 given_away given_away lends_put (ordinary held_up)
    inside =
        then-of _ _ _ (entry.In Plain 1 ∷ []) (one_yield ++ leaves_it) (stands _ _)
        (then-of _ _ _ one_yield leaves_it yields-inner (stands _ _))

-- ---- the second one

abbrev drops : List Entry
drops = frees 0 2 0

abbrev again_worked : State ℕ
again_worked = after at_again (ordinary (asks_again ++ works_in_vain 0))

drops-inner : RunsBlock d 0 true until (block_of (drops_x 16 ∷ []) (lit≤ tt) 16) holding_wide wide_given_up again_worked (ordinary drops)
drops-inner = runs-block d true until (drops_x 16 ∷ []) (lit≤ tt) 16 _ _ _ _ (
  wide_given_up,
  then-of _ _ _ drops []
      (wide_given_up, then-of _ _ _ drops [] (says _ _ _ (inr (drop-wide-runs again_worked refl))) (refl, (0, (refl, refl))))
      (refl, refl),
)

again-runs : RunsBlock d 0 true until makes_again no_names wide_given_up at_again (ordinary again_body)
again-runs = runs-block d true until (makes_x_of wide_id 15 ∷ drops_x_unless_null 16 ∷ []) (lit≤ tt) 17 _ _ _ _ (
  holding_wide,
  then-of _ _ at_again (asks_again ++ works_in_vain 0) drops
      (holding_wide, then-of _ _ _ asks_again (works_in_vain 0) (says _ _ _ new-wide-runs) (refl, second-work))
      (wide_given_up, then-of _ _ _ drops [] (wide_given_up, then-of _ _ _ drops [] drops-inner (refl, (0, (refl, refl)))) (refl, refl)),
)

-- ---- the closing

abbrev sweep_end : Entry
sweep_end = ends Tracing 2 last_words last_words

sweep : SweepPhrase 10 sweeps_unit
sweep = record {
  swept = 0 ∷ [];
  returned = 0 ∷ [];
  stamp = 2;
  poll = entry.Begin Tracing 1 ∷ sweep_end ∷ entry.Pass 10 Tracing 2 ∷ [];
  own_is = refl;
  polls = record {
    ended = [];
    begun = entry.Begin Tracing 1 ∷ sweep_end ∷ [];
    seen = 2;
    own_is = refl;
    may_finish = inl refl;
    may_begin = inr (1, sweep_end ∷ [], refl, inr (sweep_end, refl, (_, refl, refl)));
  };
}

-- ---- the log

lender-is : IsLog loan 0 lender
unfolding class_of_size sweep
lender-is = record {
  front = ordinary (opens (0 ∷ []) ++ (lends_part ++ again_part));
  closing = ordinary (entry.Ended ∷ entry.Close ∷ finds_empty ++ sweeps_unit);
  log_is = refl;
  is_front = then-of _ _ (opening 0) (opens (0 ∷ [])) (lends_part ++ again_part) (says _ _ _ ([], ap (λ units. entry.Fill 10 (Whole units) ∷ []) (sym first-unit), refl)) (
    _,
    refl,
    1,
    then-of _ _ _ lends_part again_part (then-of _ _ _ lends_begins (lends_body ++ (lends_stops ++ receives)) (stands _ _)
        (then-of _ _ _ lends_body (lends_stops ++ receives) (given_away, lends-runs, given_away-nothing) (then-of _ _ _ lends_stops receives (stands _ _) receiving-work))) (
          _,
          refl,
          3,
          then-of _ _ _ again_part [] (then-of _ _ _ again_begins (again_body ++ (again_stops ++ works_in_vain 1)) (stands _ _)
              (then-of _ _ _ again_body (again_stops ++ works_in_vain 1) (wide_given_up, again-runs, wide_given_up-nothing) (then-of _ _ _ again_stops (works_in_vain 1) (stands _ _) last-work)))
              refl,
        ),
  );
  is_closing = then-of _ _ _ (entry.Ended ∷ entry.Close ∷ []) (finds_empty ++ sweeps_unit) (stands _ _)
      (then-of _ _ _ finds_empty sweeps_unit (then-of _ _ _ finds_empty [] (None, call_of 1 1, then-of _ _ _ finds_empty [] (stands _ _) refl) refl)
      (then-of _ _ _ [] sweeps_unit (then-of _ _ _ [] [] refl refl) ([], then-of _ _ _ sweeps_unit [] (says _ _ _ (record { phrase = sweep; taken = refl; waited = lit≤ tt; given = refl })) refl)));
}

-- the other processor sends a parcel, so the parcels are no matter of this log alone
not-alone : sends_alone loan ≡ true → ⊥
not-alone e = absurd (cc)

pub lender-lawful : LawfulLog loan 0 lender
lender-lawful = record {
  handlers = refl;
  phrases = done-ordinary _ 0 _ (all-ordinary (lender_entries [] sealed)) refl;
  is_log = lender-is;
  words = words;
  last = last;
  lists = lender-leaves;
  emptied = emptied;
  null = null;
  parcels = λ q. absurd (not-alone q);
}
