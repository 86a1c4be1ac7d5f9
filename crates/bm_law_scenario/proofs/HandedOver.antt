-- The journal of two processors, one of which hands an object to the other through a slot, is lawful.
use Rattle.std.proofs.Common.{◌≡◌, Bool, ℕ, zero, suc, ◌+◌, inl, inr, cond, true, false, List, [], ◌∷◌, ◌++◌, Some, None, refl, sym, ap, subst, bytes_eq, codes, lit≤, slice_get}
use Rattle.std.proofs.lemmas.Bool.Decides.{eqb_tells}
use Rattle.bm_class.specs.Sizes.{class_of_size, size_of_class}
use Rattle.bm_class.specs.Watermarks.{low_of_size, high_of_size, batch_of_size}
use Rattle.bm_journal.specs.declared.ids.Domain.TheVariants.{Plain, Tracing}
use Rattle.bm_journal.specs.declared.units.Units.TheVariants.{Whole}
use Rattle.bm_journal.specs.declared.entry.Entry.{Entry}
use Rattle.bm_journal.specs.declared.entry.Entry.TheVariants as entry
use Rattle.bm_law.specs.State.{State, opening}
use Rattle.bm_law.specs.Lists.{Leaves, Log, after}
use Rattle.bm_law.specs.Null.{Nothing, NullLaw, RepliesFit}
use Rattle.bm_law.specs.Ordinary.{ordinary}
use Rattle.bm_law.specs.Phrases.{FreePhrase}
use Rattle.bm_law.specs.Spans.{own_entries}
use Rattle.bm_law.specs.SweepPhrases.{SweepPhrase}
use Rattle.bm_law.specs.Worked.{Emptied}
use Rattle.bm_law.proofs.Agree.{leaves-lists}
use Rattle.bm_law.proofs.Null.{pops-fit}
use Rattle.bm_law_work.specs.Parts as part
use Rattle.bm_law_work.proofs.Pages.{short-named}
use Rattle.bm_law_scenario.specs.Calls.{RunsDrop, RunsExchange, batch_in}
use Rattle.bm_law_scenario.specs.Declared.{Declared, declared_in}
use Rattle.bm_law_scenario.specs.Grammar.{IsLog}
use Rattle.bm_law_scenario.specs.Held.{OwnsNothing, no_names, with_name}
use Rattle.bm_law_scenario.specs.Held as held
use Rattle.bm_law_scenario.specs.Lawful.{HeadingOf, LawfulLog, LawfulLogs}
use Rattle.bm_law_scenario.specs.Parcels.{ParcelLaw}
use Rattle.bm_law_scenario.specs.Runs.{Run, RunsBlock}
use Rattle.bm_law_lives.specs.SectionWords.{SectionWords}
use Rattle.bm_law_lives.specs.Short.{all_entries}
use Rattle.bm_law_scenario.specs.Worked.{item}
use Rattle.bm_law_scenario.specs.WorkedJournal.{asks, block_of, drops_x, drops_x_unless_null, item_id, makes_x, one_page, took, types, vector_of, x_name}
use Rattle.bm_law_scenario.specs.WorkedSlots.{begins, call_of, desk_id, dropped, empties, exchanges, given_away, giver, giver_entries, gives, gives_up, handed_over, handed_over_journal, holding, makes_and_puts, o_name, puts_x, puts_x_unless_null, second_page, slots, stops, sweep_period_of, sweeps_by, taker, taker_entries, takes, takes_x, the_object}
use Rattle.bm_law_scenario.proofs.BlockParts.{RunsList, block-parts}
use Rattle.bm_law_scenario.proofs.Opening.{first-four, next-four}
use Rattle.bm_law_scenario.proofs.Ordinary.{all-ordinary, says, stands, then-of}
use Rattle.bm_law_scenario.proofs.Ran.{new-runs, of-item}
use Rattle.bm_law_scenario.proofs.Unplanned.{done-ordinary}

abbrev d : Declared
d = declared_in handed_over

-- ---- what the logs say of themselves

abbrev giver_last : State ℕ
giver_last = after (opening 0) giver

giver-leaves : Leaves 0 giver giver_last
giver-leaves = leaves-lists 0 giver giver_last refl

giver-emptied : Emptied giver_last
giver-emptied = record {
  lists = λ c. elim (eqb_tells c 0) [ inl y ↦ rw y.1 refl | inr y ↦ rw y.0 refl ];
  hands = λ l. elim (eqb_tells l 0) [ inl y ↦ rw y.1 refl | inr y ↦ rw y.0 refl ];
  active = λ c. elim (eqb_tells c 0) [ inl y ↦ rw y.1 refl | inr y ↦ rw y.0 refl ];
}

giver-replies : RepliesFit Nothing (own_entries 0 giver)
giver-replies = (tt, (tt, (tt, (refl, (tt, (tt, (tt, (tt, (tt, (refl, (tt, (tt, (tt, (tt, (tt, (tt, (tt, (tt, (tt, (tt, (tt, (tt, tt))))))))))))))))))))))

giver-null : NullLaw 0 giver
giver-null = record {
  pops = pops-fit (opening 0) giver giver-leaves.named;
  replies = λ l. elim (eqb_tells 0 l) [ inl y ↦ rw (← y.1) giver-replies | inr y ↦ rw y.0 tt ];
}

giver-parcels : ParcelLaw 0 giver
giver-parcels = (tt, (tt, (tt, (tt, (tt, (tt, (tt, (tt, (tt, (tt, (tt, (tt, (tt, (tt, (tt, (tt, (refl, (tt, (tt, (tt, (tt, (tt, λ c. elim (eqb_tells c 0) [ inl y ↦ rw y.1 refl | inr y ↦ rw y.0 refl ]))))))))))))))))))))))

giver-words : SectionWords giver
giver-words Plain = refl
giver-words Tracing = refl

abbrev taker_last : State ℕ
taker_last = after (opening 1) taker

taker-leaves : Leaves 1 taker taker_last
taker-leaves = leaves-lists 1 taker taker_last refl

taker-emptied : Emptied taker_last
taker-emptied = record {
  lists = λ c. elim (eqb_tells c 0) [ inl y ↦ rw y.1 refl | inr y ↦ rw y.0 refl ];
  hands = λ l. elim (eqb_tells l 0) [ inl y ↦ rw y.1 refl | inr y ↦ rw y.0 refl ];
  active = λ c. elim (eqb_tells c 0) [ inl y ↦ rw y.1 refl | inr y ↦ rw y.0 refl ];
}

taker-replies : RepliesFit Nothing (own_entries 0 taker)
taker-replies = (tt, (tt, (tt, (tt, (tt, (tt, (tt, (tt, (tt, (tt, (tt, (tt, (tt, (tt, (tt, (tt, (tt, (tt, (tt, (tt, tt))))))))))))))))))))

taker-null : NullLaw 1 taker
taker-null = record {
  pops = pops-fit (opening 1) taker taker-leaves.named;
  replies = λ l. elim (eqb_tells 0 l) [ inl y ↦ rw (← y.1) taker-replies | inr y ↦ rw y.0 tt ];
}

taker-parcels : ParcelLaw 1 taker
taker-parcels = (tt, (tt, (tt, (tt, (tt, (tt, (tt, (tt, (tt, (tt, (tt, (tt, (tt, (tt, (refl, (tt, (tt, (tt, (tt, (tt, λ c. elim (eqb_tells c 0) [ inl y ↦ rw y.1 refl | inr y ↦ rw y.0 refl ]))))))))))))))))))))

taker-words : SectionWords taker
taker-words Plain = refl
taker-words Tracing = refl

-- ---- the sweeps

unfoldable sweep-of : (begin : ℕ) (units : List ℕ) → SweepPhrase 0 (sweeps_by begin (begin + 1) units)
sweep-of begin units = record {
  swept = units;
  returned = units;
  stamp = begin + 1;
  poll = entry.Begin Tracing begin ∷ entry.Finish (sweep_period_of (begin + 1)) ∷ entry.Pass 0 Tracing (begin + 1) ∷ [];
  own_is = refl;
  polls = record {
    ended = [];
    begun = entry.Begin Tracing begin ∷ entry.Finish (sweep_period_of (begin + 1)) ∷ [];
    seen = begin + 1;
    own_is = refl;
    may_finish = inl refl;
    may_begin = inr (begin, entry.Finish (sweep_period_of (begin + 1)) ∷ [], refl, inr (entry.Finish (sweep_period_of (begin + 1)), refl, (sweep_period_of (begin + 1), refl, refl)));
  };
}

-- ---- the script of processor 0

-- the object is put into the slot, in which nothing is found
pub puts-runs : RunsExchange slots o_name desk_id (Some x_name) holding (exchanges the_object None None) given_away
puts-runs = record {
  declared = _;
  is_slot = record { found = refl; kind = refl };
  put = the_object;
  was = None;
  by = None;
  between = with_name x_name held.Nothing holding;
  puts = (record { unit = 3; life = 1 }, refl, refl, refl);
  part_is = refl;
  after_is = refl;
}

puts-inner : (s : State ℕ) → RunsBlock d 0 true part.Nothing (block_of (puts_x 9) (lit≤ tt) 9) holding given_away s (ordinary (exchanges the_object None None))
puts-inner s =
    let list : RunsList d 0 part.Nothing (puts_x 9) holding given_away s (ordinary (exchanges the_object None None)) = (
      given_away,
      then-of _ _ s (exchanges the_object None None) []
          (given_away, then-of _ _ s (exchanges the_object None None) [] (says _ _ _ puts-runs) (refl, refl))
          (given_away, then-of _ _ _ [] [] (given_away, then-of _ _ _ [] [] (refl, refl) (refl, refl)) (refl, refl)),
    ) in
    subst (λ (run : Run). run holding given_away s (ordinary (exchanges the_object None None))) (sym (block-parts d 0 part.Nothing (vector_of (puts_x 9) (lit≤ tt)) 9)) list

-- the lists at its call
abbrev at_call : State ℕ
at_call = after (opening 0) (ordinary (entry.Fill 0 (Whole one_page) ∷ begins (codes "gives")))

gives-runs : RunsBlock d 0 true part.Nothing gives no_names given_away at_call (ordinary makes_and_puts)
gives-runs =
    let list : RunsList d 0 part.Nothing (makes_x 8 ∷ puts_x_unless_null 9 ∷ []) no_names given_away at_call (ordinary makes_and_puts) = (
      holding,
      then-of _ _ at_call (asks ∷ took 3) (exchanges the_object None None)
          (holding, then-of _ _ _ (asks ∷ took 3) [] (says _ _ _ new-runs) (refl, refl))
          (given_away, then-of _ _ _ (exchanges the_object None None) [] (given_away, then-of _ _ _ (exchanges the_object None None) [] (puts-inner _) (refl, refl)) (refl, refl)),
    ) in
    subst (λ (run : Run). run no_names given_away at_call (ordinary makes_and_puts)) (sym (block-parts d 0 part.Nothing (vector_of (makes_x 8 ∷ puts_x_unless_null 9 ∷ []) (lit≤ tt)) 10)) list

given-nothing : (y : List ℕ) → OwnsNothing (given_away y)
given-nothing y = both (bytes_eq o_name y) (bytes_eq x_name y)
  where
    both : (a b : Bool) → OwnsNothing (cond a held.Null (cond b held.Nothing (cond b (held.Object item_id 3 1) held.Nothing)))
    both true b = tt
    both false true = tt
    both false false = tt

-- ---- the script of processor 1

-- the object is taken out of the slot
takes-runs : RunsExchange slots x_name desk_id None no_names (exchanges None the_object (call_of 0 2)) holding
takes-runs = record {
  declared = _;
  is_slot = record { found = refl; kind = refl };
  put = None;
  was = the_object;
  by = call_of 0 2;
  between = no_names;
  puts = (refl, refl);
  part_is = refl;
  after_is = refl;
}

abbrev freed : List Entry
freed = entry.Free 3 0 ∷ entry.Enter 0 1 ∷ entry.Push 0 3 ∷ entry.Count 0 5 ∷ entry.Leave 0 0 ∷ []

frees : FreePhrase 0 3 0 freed
unfolding size_of_class high_of_size
frees = inl (5, 0, refl)

drop-runs : (s : State ℕ) → batch_in s 0 false → RunsDrop types x_name (batch_in s) holding gives_up dropped
drop-runs s none = record {
  type = item_id;
  unit = 3;
  life = 1;
  held = refl;
  class = 0;
  declared = record item { line = 5 };
  of_class = of-item;
  home = 0;
  batch = false;
  batch_is = none;
  own = freed;
  part_is = refl;
  frees = frees;
  after_is = refl;
}

abbrev at_take : State ℕ
at_take = after (opening 1) (ordinary (entry.Fill 0 (Whole second_page) ∷ begins (codes "takes")))

abbrev at_drop : State ℕ
at_drop = after at_take (ordinary (exchanges None the_object (call_of 0 2)))

drops-inner : RunsBlock d 0 true part.Nothing (block_of (drops_x 13 ∷ []) (lit≤ tt) 13) holding dropped at_drop (ordinary gives_up)
drops-inner =
    let list : RunsList d 0 part.Nothing (drops_x 13 ∷ []) holding dropped at_drop (ordinary gives_up) =
    (dropped, then-of _ _ _ gives_up [] (dropped, then-of _ _ _ gives_up [] (says _ _ _ (inr (drop-runs at_drop refl))) (refl, refl)) (refl, refl)) in
    subst (λ (run : Run). run holding dropped at_drop (ordinary gives_up)) (sym (block-parts d 0 part.Nothing (vector_of (drops_x 13 ∷ []) (lit≤ tt)) 13)) list

abbrev takes_and_gives_up : List Entry
takes_and_gives_up = exchanges None the_object (call_of 0 2) ++ gives_up

takes-body : RunsBlock d 0 true part.Nothing takes no_names dropped at_take (ordinary takes_and_gives_up)
takes-body =
    let list : RunsList d 0 part.Nothing (takes_x 12 ∷ drops_x_unless_null 13 ∷ []) no_names dropped at_take (ordinary takes_and_gives_up) = (
      holding,
      then-of _ _ at_take (exchanges None the_object (call_of 0 2)) gives_up
          (holding, then-of _ _ _ (exchanges None the_object (call_of 0 2)) [] (says _ _ _ takes-runs) (refl, refl))
          (dropped, then-of _ _ _ gives_up [] (dropped, then-of _ _ _ gives_up [] drops-inner (refl, refl)) (refl, refl)),
    ) in
    subst (λ (run : Run). run no_names dropped at_take (ordinary takes_and_gives_up)) (sym (block-parts d 0 part.Nothing (vector_of (takes_x 12 ∷ drops_x_unless_null 13 ∷ []) (lit≤ tt)) 14)) list

dropped-nothing : (y : List ℕ) → OwnsNothing (dropped y)
dropped-nothing y = one (bytes_eq x_name y)
  where
    one : (b : Bool) → OwnsNothing (cond b held.Nothing (cond b (held.Object item_id 3 1) held.Nothing))
    one true = tt
    one false = tt

-- ---- the logs

abbrev giver_script : List Entry
giver_script = begins (codes "gives") ++ (makes_and_puts ++ stops (codes "gives"))

abbrev giver_sweeps : List Entry
giver_sweeps = sweeps_by 1 2 (2 ∷ 1 ∷ 0 ∷ [])

giver-is : IsLog handed_over 0 giver
unfolding class_of_size sweep-of
giver-is = record {
  front = ordinary (entry.Fill 0 (Whole one_page) ∷ giver_script);
  closing = ordinary (entry.Ended ∷ entry.Close ∷ empties ++ giver_sweeps);
  log_is = refl;
  is_front = then-of _ _ (opening 0) (entry.Fill 0 (Whole one_page) ∷ []) giver_script (says _ _ _ ([], ap (λ units. entry.Fill 0 (Whole units) ∷ []) (sym first-four), refl)) (
    _,
    refl,
    1,
    then-of _ _ _ giver_script [] (then-of _ _ _ (begins (codes "gives")) (makes_and_puts ++ stops (codes "gives")) (stands _ _)
        (then-of _ _ _ makes_and_puts (stops (codes "gives")) (given_away, gives-runs, given-nothing) (then-of _ _ _ (stops (codes "gives")) [] (stands _ _) refl)))
        refl,
  );
  is_closing = then-of _ _ _ (entry.Ended ∷ entry.Close ∷ []) (empties ++ giver_sweeps) (stands _ _)
      (then-of _ _ _ empties giver_sweeps (then-of _ _ _ empties [] (None, call_of 1 1, then-of _ _ _ empties [] (stands _ _) refl) refl)
      (then-of _ _ _ [] giver_sweeps (then-of _ _ _ [] [] refl refl) ([], then-of _ _ _ giver_sweeps [] (says _ _ _ (record { phrase = sweep-of 1 (2 ∷ 1 ∷ 0 ∷ []); taken = refl; waited = lit≤ tt; given = refl })) refl)));
}

abbrev taker_script : List Entry
taker_script = begins (codes "takes") ++ (takes_and_gives_up ++ stops (codes "takes"))

abbrev taker_sweeps : List Entry
taker_sweeps = sweeps_by 3 4 (3 ∷ 7 ∷ 6 ∷ 5 ∷ 4 ∷ [])

taker-is : IsLog handed_over 1 taker
unfolding class_of_size sweep-of
taker-is = record {
  front = ordinary (entry.Fill 0 (Whole second_page) ∷ taker_script);
  closing = ordinary (entry.Ended ∷ taker_sweeps);
  log_is = refl;
  is_front = then-of _ _ (opening 1) (entry.Fill 0 (Whole second_page) ∷ []) taker_script (says _ _ _ ([], ap (λ units. entry.Fill 0 (Whole units) ∷ []) (sym next-four), refl)) (
    _,
    refl,
    1,
    then-of _ _ _ taker_script [] (then-of _ _ _ (begins (codes "takes")) (takes_and_gives_up ++ stops (codes "takes")) (stands _ _)
        (then-of _ _ _ takes_and_gives_up (stops (codes "takes")) (dropped, takes-body, dropped-nothing) (then-of _ _ _ (stops (codes "takes")) [] (stands _ _) refl)))
        refl,
  );
  is_closing = then-of _ _ _ (entry.Ended ∷ []) taker_sweeps (stands _ _)
      (then-of _ _ _ [] taker_sweeps refl
      (then-of _ _ _ [] taker_sweeps (then-of _ _ _ [] [] refl refl) ([], then-of _ _ _ taker_sweeps [] (says _ _ _ (record { phrase = sweep-of 3 (3 ∷ 7 ∷ 6 ∷ 5 ∷ 4 ∷ []); taken = refl; waited = lit≤ tt; given = refl })) refl)));
}

giver-lawful : LawfulLog handed_over 0 giver
giver-lawful = record {
  handlers = refl;
  phrases = done-ordinary _ 0 _ (all-ordinary giver_entries) refl;
  is_log = giver-is;
  words = giver-words;
  last = giver_last;
  lists = giver-leaves;
  emptied = giver-emptied;
  null = giver-null;
  parcels = λ q. giver-parcels;
}

taker-lawful : LawfulLog handed_over 1 taker
taker-lawful = record {
  handlers = refl;
  phrases = done-ordinary _ 1 _ (all-ordinary taker_entries) refl;
  is_log = taker-is;
  words = taker-words;
  last = taker_last;
  lists = taker-leaves;
  emptied = taker-emptied;
  null = taker-null;
  parcels = λ q. taker-parcels;
}

-- ---- the journal

heading : HeadingOf handed_over handed_over_journal
unfolding class_of_size size_of_class low_of_size high_of_size batch_of_size
heading = record { processors = refl; pages = refl; types = refl; maps = refl; scripts = refl; classes = refl }

some-is : {A : Type 0} {a b : A} → Some a ≡ Some b → a ≡ b
some-is e = cc

none-is : {A : Type 0} {a : A} → None ≡ Some a → ⊥
none-is e = cc

logs-lawful : (p : ℕ) (log : Log) → slice_get (giver ∷ taker ∷ []) p ≡ Some log → LawfulLog handed_over p log
logs-lawful zero log e = subst (LawfulLog handed_over 0) (some-is e) giver-lawful
logs-lawful (suc zero) log e = subst (LawfulLog handed_over 1) (some-is e) taker-lawful
logs-lawful (suc (suc p)) log e = absurd (none-is e)

pub handed_over-lawful : LawfulLogs handed_over handed_over_journal
handed_over-lawful = record {
  heading = heading;
  count = refl;
  logs = logs-lawful;
  short = short-named 1 (all_entries handed_over_journal.logs) refl;
  graphs = refl;
  totals = refl;
}
