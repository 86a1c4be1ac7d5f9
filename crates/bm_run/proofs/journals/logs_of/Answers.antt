use Rattle.std.proofs.Common.{◌≡◌, ◌≤◌, length, true, map, List, Some, slice_get, ◌∙◌, ap, sym, subst}
use Rattle.bm_lang.specs.declared.scenario.MapDeclaration.{MapDeclaration}
use Rattle.bm_lang.specs.declared.scenario.Parts.{Parts}
use Rattle.bm_lang.specs.declared.scenario.TypeDeclaration.{TypeDeclaration}
use Rattle.bm_class.specs.Sizes.{class_of_size}
use Rattle.bm_lang.specs.Fine.{HasConditions}
use Rattle.bm_check.specs.Scripts.{AllAccepted, IsChecked}
use Rattle.bm_law_scenario.specs.Declared.{Declared, declared_in}
use Rattle.bm_law_scenario.specs.Opened.{object_size}
use Rattle.bm_exec_levels.specs.Ready.{IsProgram}
use Rattle.bm_exec_levels.specs.declared.program.Program.{Program}
use Rattle.bm_world.specs.Contents.{are_apart}
use Rattle.bm_exec.specs.Named.{declared_of}
use Rattle.bm_exec.specs.Runnable.{Classes, can_run_block}
use Rattle.bm_exec_levels.proofs.Phrases.{program-declared}
use Rattle.bm_law_journal.specs.Lawful.{named_turns}
use Rattle.bm_run.specs.Between.{AllClosed}
use Rattle.bm_run.proofs.FineRuns.{all_run, maps_apart, maps_few}
use Rattle.bm_run.proofs.Lines.{few-when}
use Rattle.bm_run.proofs.Nesting.{all-nest}
use Rattle.bm_run.proofs.OpenedList.{opened-ascend, opened-few}
use Rattle.bm_run.proofs.Results.{if-ok}
use Rattle.bm_run.proofs.journals.logs_of.Goals as goal

-- the types and classes of a checked scenario make a program
program-fits : (s : Parts) (p : Program) → HasConditions s → IsChecked s → p.scenario.now ≡ s → p.types.declared.now ≡ p.scenario.now.types → p.types.maps.now ≡ p.scenario.now.maps → map Some p.types.classes.now ≡ map (λ t. class_of_size (object_size t)) s.types → IsProgram p
program-fits s p fine checked same declared maps classes =
    let types : p.types.declared.now ≡ s.types = declared ∙ ap (λ (x : Parts). x.types) same in
    let known : declared_of p.types ≡ declared_in s = program-declared p.types p.scenario.now declared maps ∙ ap declared_in same in
    let each : Classes s.types p.types.classes.now = record { each = classes } in
    record {
      types = declared;
      maps = maps;
      classes = subst (λ (ts : List TypeDeclaration). Classes ts p.types.classes.now) (sym types) each;
      accepted = subst AllAccepted (sym same) checked.accepted;
      fits = rw same (all-nest s fine);
      can = λ i x h.
          let there : slice_get s.scripts i ≡ Some x = subst (λ (y : Parts). slice_get y.scripts i ≡ Some x) same h in
          subst (λ (d : Declared). can_run_block d x.body ≡ true) (sym known) (all_run s fine checked.within_limits i x there);
    }

pub open_all-requires-clause-fits : goal.open_all-requires-clause-fits
open_all-requires-clause-fits c = program-fits c.args.scenario.now _ c.requires.fine c.requires.checked c.parts-parts.ensures.value c.as_slice.ensures c.as_slice-2.ensures c.requires.classes

pub open_all-requires-clause-ascend : goal.open_all-requires-clause-ascend
open_all-requires-clause-ascend c = rw c.requires.opened (opened-ascend c.args.scenario.now.types)

pub run_turns-requires-clause-fits : goal.run_turns-requires-clause-fits
run_turns-requires-clause-fits c = program-fits c.args.scenario.now _ c.requires.fine c.requires.checked c.parts-parts.ensures.value c.as_slice.ensures c.as_slice-2.ensures c.requires.classes

pub run_turns-requires-clause-few : goal.run_turns-requires-clause-few
run_turns-requires-clause-few c = few-when c.when_on.result c.parts-parts.result.now.deferred c.args.opened.now c.when_on.ensures (rw c.requires.opened (opened-few c.args.scenario.now.types))

pub returns-clause-closed : goal.returns-clause-closed
returns-clause-closed c = if-ok c.close_seats.result _ _ c.close_seats.ensures.closed (λ left closed.
    subst (λ (s : Parts). AllClosed s (named_turns s.turns) left.logs.items left.histories.items) c.parts-parts.ensures.value (closed (named_turns c.parts-parts.result.now.turns) c.in_ok-seats.ensures.between))

pub close_seats-requires-clause-apart : goal.close_seats-requires-clause-apart
close_seats-requires-clause-apart c = subst (λ (s : Parts). are_apart (map (λ (m : MapDeclaration). m.name) s.maps) ≡ true) (sym c.parts-parts.ensures.value) (maps_apart c.args.scenario.now c.requires.fine)

pub close_seats-requires-clause-few : goal.close_seats-requires-clause-few
close_seats-requires-clause-few c = subst (λ (s : Parts). length s.maps ≤ 64) (sym c.parts-parts.ensures.value) (maps_few c.args.scenario.now c.requires.checked.within_limits)

pub open_all-requires-clause-apart : goal.open_all-requires-clause-apart
open_all-requires-clause-apart c = maps_apart c.args.scenario.now c.requires.fine
