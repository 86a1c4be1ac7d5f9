-- The log of a processor of a run is lawful.
use Rattle.std.specs.List.{list_any}
use Rattle.std.proofs.Common.{◌≡◌, ℕ, true, false, [], ◌∷◌, ◌++◌, map, refl, sym, ap, subst, ◌∙◌, arith}
use Rattle.bm_journal.specs.declared.entry.Entry.TheVariants as entry
use Rattle.bm_lang.specs.declared.scenario.Parts.{Parts}
use Rattle.bm_law.specs.Lists.{Log, after}
use Rattle.bm_law.specs.State.{Side, State, opening, seen, seven_lists}
use Rattle.bm_law.proofs.Alone.{level-from, level-own}
use Rattle.bm_law_work.specs.Parts.{Say, Stand}
use Rattle.bm_law_scenario.specs.Declared.{declared_in}
use Rattle.bm_law_scenario.specs.Closing.{Closing}
use Rattle.bm_law_scenario.specs.Fills.{AreFills}
use Rattle.bm_law_scenario.specs.Grammar.{Front, IsLog, stock_for}
use Rattle.bm_law_scenario.specs.Lawful.{LawfulLog}
use Rattle.bm_law_scenario.specs.Opened.{opened_classes, uses_class}
use Rattle.bm_law_scenario.specs.Parcels.{ParcelLaw, sends_alone}
use Rattle.bm_law_lives.specs.SectionWords.{SectionWords}
use Rattle.bm_cache.specs.Opening.{Fills}
use Rattle.bm_cache.specs.Tokens.{Token, number_of}
use Rattle.bm_run.specs.Between.{IsFinal}
use Rattle.bm_run.specs.Openings.{filling_of}
use Rattle.bm_run.specs.Seated.{opening_log}
use Rattle.bm_run.proofs.GivenClosing.{given-closing}
use Rattle.bm_run.proofs.GivenLaws.{given-rows}
use Rattle.bm_run.proofs.LogLaw.{NullKept, RowsKept, ToldSweeps, are-fills, fill-level, fill_entries, lists-end}
use Rattle.bm_run.proofs.OpenedList.{opened-has, opened-none}

-- ---- the opening

pub opening-said : (s : Parts) (p : ℕ) (t : State ℕ) → Say 0 (AreFills (opened_classes s.types) (stock_for s p)) t (opening_log s p)
opening-said s p t =
    let fs : Fills = (filling_of (opened_classes s.types) s.pages p).fills in
    (fill_entries fs, are-fills (opened_classes s.types) (stock_for s p), subst (λ (l : Log). Stand 0 (fill_entries fs) t l) (sym (fill-level fs)) (record { from = level-from 0 (fill_entries fs); own_is = level-own 0 (fill_entries fs) }))

-- the opening and the scripts of the processor
pub final-front : (s : Parts) (p : ℕ) (final given finishes sweeps : Log) (h : IsFinal s p final given finishes sweeps) → Front s p (opening p) (opening_log s p ++ h.scripts)
final-front s p final given finishes sweeps h = record { one = opening_log s p; two = h.scripts; part_is = refl; is_first = opening-said s p (opening p); is_second = h.are_scripts }

-- ---- the closing

pub final-closing : (s : Parts) (p : ℕ) (final given finishes sweeps : Log) (h : IsFinal s p final given finishes sweeps) → ToldSweeps →
    Closing (declared_in s) p (opened_classes s.types) (opening_log s p ++ h.scripts) (after (opening p) (opening_log s p ++ h.scripts)) ((0, entry.Ended) ∷ (given ++ (finishes ++ sweeps)))
final-closing s p final given finishes sweeps h told =
    let classes = opened_classes s.types in
    let front : Log = opening_log s p ++ h.scripts in
    let F : State ℕ → Type 0 = λ t. Closing (declared_in s) p classes front t ((0, entry.Ended) ∷ (given ++ (finishes ++ sweeps))) in
    subst F (sym h.front_leaves.lists)
    (given-closing (declared_in s) p classes front h.lists given finishes sweeps h.given_is h.closes.finishes_are
    (told classes h.closes.boxes (after (after h.lists given) finishes) sweeps h.closes.sweeps_are))

-- ---- the lists at the end

last-row : (s : Parts) (p : ℕ) (final given finishes sweeps : Log) (h : IsFinal s p final given finishes sweeps) → RowsKept → (c : ℕ) → list_any (uses_class c) s.types ≡ false → seven_lists ((seen number_of h.closes.last).rows c) ≡ []
last-row s p final given finishes sweeps h kept c never =
    let row = h.closes.others c (opened-none s.types c never) ∙ given-rows s p h.lists given h.given_is h.given_at c never in
    let front = ap (λ (t : State ℕ). t.rows c) (sym h.front_leaves.lists) in
    ap seven_lists (row ∙ (front ∙ kept s p (opening_log s p ++ h.scripts) h.front_stands h.front_done (final-front s p final given finishes sweeps h) c never))

pub final-lawful : (s : Parts) (p : ℕ) (final given finishes sweeps : Log) → RowsKept → NullKept → ToldSweeps → IsFinal s p final given finishes sweeps → SectionWords final → (sends_alone s ≡ true → ParcelLaw p final) → LawfulLog s p final
final-lawful s p final given finishes sweeps kept null told h words parcels =
    let last : State Token = h.closes.last in
    let is_log : IsLog s p final = record {
      front = opening_log s p ++ h.scripts;
      closing = (0, entry.Ended) ∷ (given ++ (finishes ++ sweeps));
      log_is = h.final_is;
      is_front = final-front s p final given finishes sweeps h;
      is_closing = final-closing s p final given finishes sweeps h told;
    } in
    record {
      handlers = h.stands;
      phrases = h.done;
      words = words;
      is_log = is_log;
      last = seen number_of last;
      lists = h.closes.leaves;
      emptied = record {
        lists = λ c. lists-end s c last (list_any (uses_class c) s.types) refl (λ used. h.closes.empty c (opened-has s.types c used)) (λ never. last-row s p final given finishes sweeps h kept c never);
        hands = λ l. ap (λ (x : Side Token). map number_of x.hand) (h.closes.ready.sides l (omega arith));
        active = λ c. (let a = h.closes.ready.active c in omega (arith, a));
      };
      null = null s p final (seen number_of last) h.stands h.done is_log h.closes.leaves;
      parcels = parcels;
    }
