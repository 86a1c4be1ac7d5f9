use Rattle.std.proofs.Common.{◌≡◌, ◌∙◌, true, map, List, ap, subst, sym, take_all}
use Rattle.bm_lang.specs.declared.scenario.MapDeclaration.{MapDeclaration}
use Rattle.bm_world.specs.Contents.{are_apart, names_in}
use Rattle.bm_world.specs.NamedSlots.{named_of}
use Rattle.bm_run.specs.Opened.{empty_slots}
use Rattle.bm_run.proofs.OpeningLemmas.{names-empty}
use Rattle.bm_run.proofs.opening.empty_slots.Goals as goal

pub create-requires : goal.create-requires
create-requires c =
    let maps : List MapDeclaration = c.args.maps.now in
    let slots : map named_of c.loop-declared.slots.items ≡ empty_slots maps =
    c.loop-declared.invariant ∙ ap empty_slots (take_all c.loop-declared.declared-index maps c.loop-declared-test.false) in
    let names = ap names_in slots ∙ names-empty maps in
    record { apart = subst (λ (ns : List (List _)). are_apart ns ≡ true) (sym names) c.requires.apart }
