use Rattle.std.proofs.Common.{sym, ap, ◌∙◌, subst, arith}
use Rattle.std.proofs.lemmas.List.{with_items_is}
use Rattle.bm_tree.specs.Shape.{Holds}
use Rattle.bm_tree.specs.Colours.{Coloured}
use Rattle.bm_tree.specs.Rows.{item_in}
use Rattle.bm_tree.proofs.Slots.{some_full, none_free, full_within}
use Rattle.bm_tree.proofs.Soundness.{sound_holds, sound_present, sound_split, sound_item, sound_taken, rows_taken}
use Rattle.bm_tree.proofs.tree.RedBlack.take.Goals as goal

pub returns-then-is_none-clause-value : goal.returns-then-is_none-clause-value
returns-then-is_none-clause-value g c =
    let free = none_free c.item_of.result _ (rw c.as_slice.ensures.value at c.item_of.ensures) c.if-is_none.ensures in
    rw (← c.self.view_is) (sym (sound_item _ _ _ _ _ c.args.place c.self.invariant ∙ free))

pub unlink-self-inside-requires-clause-holds : goal.unlink-self-inside-requires-clause-holds
unlink-self-inside-requires-clause-holds g c = rw c.as_mut_slice.ensures.value (sound_holds _ _ _ _ _ c.self.invariant)

pub unlink-self-inside-requires-clause-present : goal.unlink-self-inside-requires-clause-present
unlink-self-inside-requires-clause-present g c =
    let full = some_full c.item_of.result _ (rw c.as_slice.ensures.value at c.item_of.ensures) c.if-is_none.ensures in
    rw c.as_mut_slice.ensures.value (sound_present _ _ _ _ _ c.args.place c.self.invariant full)

pub empty-taken-requires-clause-inside : goal.empty-taken-requires-clause-inside
empty-taken-requires-clause-inside g c =
    let full = some_full c.item_of.result _ (rw c.as_slice.ensures.value at c.item_of.ensures) c.if-is_none.ensures in
    rw c.as_mut_slice-2.ensures.value (full_within c.self.inside.slots.items c.args.place full)

pub invariant_of-self : goal.invariant_of-self
invariant_of-self g c =
    let full = some_full c.item_of.result _ (rw c.as_slice.ensures.value at c.item_of.ensures) c.if-is_none.ensures in
    let s = c.self.invariant in
    let k = sound_split _ _ _ _ _ c.args.place s full in
    let h0 = subst (Holds c.self.inside.links.items c.self.inside.root) k.is s.holds in
    let h1 = c.unlink-self-inside.ensures.order k.us k.vs (rw c.as_mut_slice.ensures.value h0) in
    let s0 = subst (Coloured c.self.inside.links.items) k.is s.coloured in
    let s1 = c.unlink-self-inside.ensures.colours k.us k.vs (rw c.as_mut_slice.ensures.value h0) (rw c.as_mut_slice.ensures.value s0) in
    let found = rw c.as_mut_slice-2.ensures.value at c.empty-taken.ensures.was in
    rw (
      with_items_is c.self.inside.links c.unlink-self-inside.new.links (omega arith),
      with_items_is c.self.inside.slots c.empty-taken.new.slots (omega arith),
      c.empty-taken.ensures.is,
      c.as_mut_slice-2.ensures.value,
    )
    (sound_taken c.self.inside.links.items c.unlink-self-inside.new.links c.self.inside.slots.items c.self.inside.root c.unlink-self-inside.result c.self.inside.free c.self.inside.len c.args.place c.empty-taken.result.0 c.empty-taken.result.1 s k.us k.vs k.is h1 s1 (omega arith) found)

pub returns-clause-value : goal.returns-clause-value
returns-clause-value g c =
    let found = rw c.as_mut_slice-2.ensures.value at c.empty-taken.ensures.was in
    rw (← c.self.view_is) (sym (sound_item _ _ _ _ _ c.args.place c.self.invariant ∙ ap item_in found))

pub returns-clause-taken : goal.returns-clause-taken
returns-clause-taken g c =
    let full = some_full c.item_of.result _ (rw c.as_slice.ensures.value at c.item_of.ensures) c.if-is_none.ensures in
    let s = c.self.invariant in
    let k = sound_split _ _ _ _ _ c.args.place s full in
    let h0 = subst (Holds c.self.inside.links.items c.self.inside.root) k.is s.holds in
    let h1 = c.unlink-self-inside.ensures.order k.us k.vs (rw c.as_mut_slice.ensures.value h0) in
    let found = rw c.as_mut_slice-2.ensures.value at c.empty-taken.ensures.was in
    rw (
      ← c.self.view_is,
      with_items_is c.self.inside.links c.unlink-self-inside.new.links (omega arith),
      with_items_is c.self.inside.slots c.empty-taken.new.slots (omega arith),
      c.empty-taken.ensures.is,
      c.as_mut_slice-2.ensures.value,
    )
    (rows_taken c.self.inside.links.items c.unlink-self-inside.new.links c.self.inside.slots.items c.self.inside.root c.unlink-self-inside.result c.self.inside.free c.self.inside.len c.args.place c.empty-taken.result.0 c.empty-taken.result.1 s k.us k.vs k.is h1 found)
