-- The order that a run has made is the whole order of its logs.
use Rattle.std.specs.Prelude.{None, get_or, map}
use Rattle.std.specs.List.{range_with_len}
use Rattle.std.proofs.Common.{◌≡◌, ◌<◌, ℕ, Bool, List, [], ◌∷◌, ◌++◌, arith, refl, sym, ◌∙◌, ap, subst, append_assoc}
use Rattle.std.proofs.lemmas.List.{append_cancel_left, append_cancel_right}
use Rattle.std.proofs.lemmas.List.FromFn.{get_or-map-range_with_len, length-map-range_with_len}
use Rattle.bm_journal.specs.declared.ids.Domain.TheVariants.{Plain, Tracing}
use Rattle.bm_journal.specs.declared.entry.Entry.TheVariants as entry
use Rattle.bm_journal.specs.declared.past.Past.{Past}
use Rattle.bm_lang.specs.declared.scenario.Parts.{Parts}
use Rattle.bm_law.specs.Alone.{AllAt}
use Rattle.bm_law.specs.Lists.{Log, after}
use Rattle.bm_law.specs.Spans.{own_entries}
use Rattle.bm_law.specs.State.{opening}
use Rattle.bm_law_order.specs.Orders.{Order}
use Rattle.bm_law_order.specs.Whole.{joined, whole}
use Rattle.bm_law_work.proofs.Each.{AllOf}
use Rattle.bm_law_scenario.specs.CallEntries.{IsOfHandler}
use Rattle.bm_law_scenario.specs.Closing.{in_progress}
use Rattle.bm_law_scenario.specs.Declared.{declared_in}
use Rattle.bm_law_scenario.specs.Grammar.{lines_of, stock_for}
use Rattle.bm_law_scenario.specs.Opened.{opened_classes}
use Rattle.bm_law_scenario.proofs.EachLevel.{above-back, handlers-above}
use Rattle.bm_run.specs.Between.{AllClosed, all_openings}
use Rattle.bm_run.specs.InTurns.{AreLogs, ArePieces, RunParts, made_by, one_by_one, parts_at}
use Rattle.bm_run.specs.Openings.{openings}
use Rattle.bm_run.specs.Seated.{opening_lists, opening_log}
use Rattle.bm_run.proofs.FinalLog.{final-front, opening-said}
use Rattle.bm_run.proofs.GivenLaws.{given-early}
use Rattle.bm_run.proofs.LogLaw.{fill-level, fill_entries}
use Rattle.bm_run.proofs.PiecesKnown.{AreKnown, IsFill, ends-own, front-unended, known-parts, level-at, opening-own, scripts-first, told-first}
use Rattle.bm_run.proofs.WholeInTurns.{made-one-by-one, whole-in-turns}

module _ (s : Parts) (turns : List ℕ) (finals : List Log) (histories : List (List ℕ × List Past)) (h : AllClosed s turns finals histories) where
  abbrev fills : List Log
  fills = map (opening_log s) (range_with_len 0 s.processors)

  -- the parts of all logs
  abbrev pub run_parts : RunParts
  run_parts = record { fills = fills; taken = h.taken; given = h.given; finishes = h.finishes; sweeps = h.sweeps }

  -- the closing order
  abbrev pub closing_order : Order
  closing_order = one_by_one 0 h.finishes ++ one_by_one 0 h.sweeps

  abbrev pub final_order : Order
  final_order = ((all_openings s ++ h.order) ++ one_by_one 0 h.given) ++ closing_order

  fills-at : (p : ℕ) → p < s.processors → get_or fills p [] ≡ opening_log s p
  fills-at p lt = get_or-map-range_with_len (opening_log s) 0 s.processors p p [] lt (omega arith)

  opening-at : (p : ℕ) → AllAt 0 (opening_log s p)
  opening-at p = subst (AllAt 0) (sym (fill-level _)) (level-at (fill_entries _))

  -- what the turns of a processor did is its scripts, and then its end
  turns-are : (p : ℕ) (lt : p < s.processors) → joined (get_or h.taken p []) ≡ (h.logs p lt).scripts ++ (0, entry.Ended) ∷ []
  turns-are p lt =
      let f = h.logs p lt in
      let op : Log = opening_log s p in
      let turned : Log = joined (get_or h.taken p []) in
      let rest : Log = get_or h.given p [] ++ (get_or h.finishes p [] ++ get_or h.sweeps p []) in
      let one : get_or finals p [] ≡ (op ++ turned) ++ rest = h.finals_are p lt in
      let two : get_or finals p [] ≡ ((op ++ f.scripts) ++ (0, entry.Ended) ∷ []) ++ rest = f.final_is ∙ sym (append_assoc (op ++ f.scripts) ((0, entry.Ended) ∷ []) rest) in
      let same = append_cancel_right (op ++ turned) ((op ++ f.scripts) ++ (0, entry.Ended) ∷ []) rest (sym one ∙ two) in
      append_cancel_left op turned (f.scripts ++ (0, entry.Ended) ∷ []) (same ∙ append_assoc op f.scripts ((0, entry.Ended) ∷ []))

  parts-known : (p : ℕ) → p < s.processors → AreKnown (parts_at run_parts p)
  parts-known p lt =
      let f = h.logs p lt in
      let op : Log = opening_log s p in
      let classes = opened_classes s.types in
      record {
        fills_at = subst (AllAt 0) (sym (fills-at p lt)) (opening-at p);
        fills_own = subst (λ (z : Log). AllOf IsFill (own_entries 0 z)) (sym (fills-at p lt)) (opening-own classes (stock_for s p) (opening p) op (opening-said s p (opening p)));
        turns = subst (λ (b : Bool). ArePieces b (get_or h.taken p [])) (h.all_ended p lt) (h.pieces p lt);
        scripts = f.scripts;
        scripts_are = turns-are p lt;
        scripts_first = scripts-first s (lines_of p s.runs) (opening_lists s p) f.scripts f.are_scripts;
        scripts_own = front-unended s p op f.scripts (final-front s p _ _ _ _ f);
        handled = above-back IsOfHandler op f.scripts (handlers-above s p (op ++ f.scripts) f.front_stands f.front_done);
        given_at = f.given_at;
        given_own = given-early (declared_in s) p f.lists (get_or h.given p []) f.given_is;
        finishes_at = f.closes.finishes_at;
        finishes_own = ends-own (in_progress Plain None (op ++ f.scripts)) (in_progress Tracing None (op ++ f.scripts)) (after f.lists (get_or h.given p [])) (get_or h.finishes p []) f.closes.finishes_are;
        sweeps_at = f.closes.sweeps_at;
        sweeps_own = told-first classes f.closes.boxes (after (after f.lists (get_or h.given p [])) (get_or h.finishes p [])) (get_or h.sweeps p []) f.closes.sweeps_are;
      }

  are-logs : AreLogs s.processors run_parts finals
  are-logs = record {
    logs_many = h.so_far.many;
    fills_many = length-map-range_with_len (opening_log s) 0 s.processors;
    taken_many = h.turned.taken_many;
    given_many = h.given_many;
    finishes_many = h.finishes_many;
    sweeps_many = h.sweeps_many;
    logs_are = λ p lt.
        let rest : Log = get_or h.given p [] ++ (get_or h.finishes p [] ++ get_or h.sweeps p []) in
        h.finals_are p lt ∙ (append_assoc (opening_log s p) (joined (get_or h.taken p [])) rest ∙ ap (λ (z : Log). z ++ (joined (get_or h.taken p []) ++ rest)) (sym (fills-at p lt)));
    parts = λ p lt. known-parts (parts_at run_parts p) (parts-known p lt);
  }

  opened-in-order : all_openings s ≡ one_by_one 0 fills
  opened-in-order = made-one-by-one (opening_log s) (openings (opened_classes s.types) s.pages) refl (λ p. refl) s.processors

  pub whole-is : whole turns finals ≡ final_order
  whole-is =
      let G = one_by_one 0 h.given in
      let apart : made_by h.order run_parts ≡ ((one_by_one 0 fills ++ h.order) ++ G) ++ closing_order =
      sym (append_assoc (one_by_one 0 fills) h.order (G ++ closing_order)) ∙ sym (append_assoc (one_by_one 0 fills ++ h.order) G closing_order) in
      whole-in-turns s.processors turns h.ended run_parts finals h.order h.turned are-logs ∙ (apart ∙ ap (λ (z : Order). ((z ++ h.order) ++ G) ++ closing_order) (sym opened-in-order))
