use Rattle.std.proofs.Common.{◌≡◌, ◌∙◌, ap, List, None, map, subst, sym, true}
use Rattle.bm_lang.specs.declared.scenario.MapDeclaration.{MapDeclaration}
use Rattle.bm_world.specs.Contents.{are_apart}
use Rattle.bm_world.specs.Graphs.{AreBare}
use Rattle.bm_world.specs.LivingState.{LivingState}
use Rattle.bm_page.specs.Stock.{Stock}
use Rattle.bm_lang.specs.declared.scenario.Parts.{Parts}
use Rattle.bm_lang.specs.Fine.{HasConditions}
use Rattle.bm_lang.specs.Limits.{first_limit}
use Rattle.bm_exec_levels.specs.declared.kept.Kept.{Kept}
use Rattle.bm_exec_levels.specs.declared.program.Program.{Program}
use Rattle.bm_run.specs.Opened.{empty_graphs, empty_slots}
use Rattle.bm_run.specs.Openings.{AreFilled, AreOpen}
use Rattle.bm_run.proofs.OpeningLemmas.{bare-empty, living_side, side-is}
use Rattle.bm_run.proofs.OpeningTurns.{all-open}
use Rattle.bm_run.proofs.opening.open_all.Goals as goal

-- nothing is in the lists and trees
pub open_side-requires-clause-bare : goal.open_side-requires-clause-bare
open_side-requires-clause-bare c = subst AreBare (sym (c.in_ok-graphs.ensures ∙ ap empty_graphs c.as_slice-2.ensures)) (bare-empty c.args.program.now.scenario.now.maps)

pub returns-in-Ok-open_side : goal.returns-in-Ok-open_side
returns-in-Ok-open_side c =
    let k = c.in-Ok.ensures in
    let w = c.in-Ok-open_side.ensures in
    let p : Program = c.args.program.now in
    let s : Parts = p.scenario.now in
    let same : c.args.scenario.now ≡ s = sym c.requires.same in
    let pool : Stock = c.open_each.new.pool in
    let world : LivingState = c.in-Ok-open_side.world in
    let kept : List Kept = c.in-Ok.kept.items in
    let filled : AreFilled s c.args.classes.now kept pool = subst (λ (x : Parts). AreFilled x c.args.classes.now kept pool) same k.kept in
    let done : AreOpen p c.args.classes.now kept (living_side s.processors 0 pool world.slots world.begun world.standings s.maps) =
    all-open p c.args.classes.now kept pool world.slots world.begun world.standings c.requires.fits (subst HasConditions same c.requires.fine)
    (subst (λ (x : Parts). first_limit x ≡ None) same c.requires.limits) k.many
    (subst (λ (x : Parts). are_apart (map (λ (m : MapDeclaration). m.name) x.maps) ≡ true) same c.requires.apart) filled w.slots w.begun w.standings in
    subst (AreOpen p c.args.classes.now kept) (sym (side-is s.processors 0 world pool s.maps w.side w.asked (w.contents ∙ (c.in_ok-contents.ensures ∙ ap empty_slots c.as_slice.ensures)) (w.graphs ∙ (c.in_ok-graphs.ensures ∙ ap empty_graphs c.as_slice-2.ensures)))) done
