use Rattle.std.proofs.Common.{◌≡◌, ◌<◌, [], ◌++◌, ◌∷◌, length, set, sym, ap, ◌∙◌, arith}
use Rattle.std.proofs.lemmas.List.{with_items_is}
use Rattle.bm_tree.specs.declared.arena.Slot.TheVariants.{Full}
use Rattle.bm_tree.specs.Links.{none, nil}
use Rattle.bm_tree.specs.Shape.{order_of}
use Rattle.bm_tree.specs.Rows.{rows}
use Rattle.std.proofs.Common.{◌-◌, min, vec_capacity}
use Rattle.std.specs.Prelude.{is_err, true}
use Rattle.bm_tree.proofs.Callers.{no_room_left, no_room_right, err_then}
use Rattle.bm_tree.proofs.Soundness.{sound_full, ready_end, ready_free, ready_sound, ready_rows, sound_free}
use Rattle.bm_tree.proofs.tree.RedBlack.insert.Goals as goal

pub enter-self-inside-requires-clause-holds : goal.enter-self-inside-requires-clause-holds
enter-self-inside-requires-clause-holds g c =
    let ls = c.self.inside.links.items in
    let slots = c.self.inside.slots.items in
    let e_links : c.as_mut_slice.result.now ≡ ls ++ nil ∷ [] = c.as_mut_slice.ensures.value ∙ c.push_reserved.ensures.items ∙ ap (λ z. z ++ nil ∷ []) c.reserve.ensures.items in
    let e_slots : c.as_slice.result.now ≡ slots ++ Full c.args.key c.args.item ∷ [] = c.as_slice.ensures.value ∙ c.push_reserved-then-place.ensures.items ∙ ap (λ z. z ++ Full c.args.key c.args.item ∷ []) c.reserve-then-place.ensures.items in
    let e_place : c.len-last.result ≡ length slots = omega (arith, c.len-last.ensures, ap length c.reserve-then-place.ensures.items) in
    let room : length (rows slots (order_of ls c.self.inside.root)) < none = (rw (← c.self.view_is) at c.requires) in
    let r = ready_end ls slots c.self.inside.root c.self.inside.free c.self.inside.len c.args.key c.args.item c.self.invariant c.if-place.true room in
    rw e_links r.holds

pub enter-self-inside-requires-clause-coloured : goal.enter-self-inside-requires-clause-coloured
enter-self-inside-requires-clause-coloured g c =
    let ls = c.self.inside.links.items in
    let slots = c.self.inside.slots.items in
    let e_links : c.as_mut_slice.result.now ≡ ls ++ nil ∷ [] = c.as_mut_slice.ensures.value ∙ c.push_reserved.ensures.items ∙ ap (λ z. z ++ nil ∷ []) c.reserve.ensures.items in
    let e_slots : c.as_slice.result.now ≡ slots ++ Full c.args.key c.args.item ∷ [] = c.as_slice.ensures.value ∙ c.push_reserved-then-place.ensures.items ∙ ap (λ z. z ++ Full c.args.key c.args.item ∷ []) c.reserve-then-place.ensures.items in
    let e_place : c.len-last.result ≡ length slots = omega (arith, c.len-last.ensures, ap length c.reserve-then-place.ensures.items) in
    let room : length (rows slots (order_of ls c.self.inside.root)) < none = (rw (← c.self.view_is) at c.requires) in
    let r = ready_end ls slots c.self.inside.root c.self.inside.free c.self.inside.len c.args.key c.args.item c.self.invariant c.if-place.true room in
    rw e_links r.coloured

pub enter-self-inside-requires-clause-sorted : goal.enter-self-inside-requires-clause-sorted
enter-self-inside-requires-clause-sorted g c =
    let ls = c.self.inside.links.items in
    let slots = c.self.inside.slots.items in
    let e_links : c.as_mut_slice.result.now ≡ ls ++ nil ∷ [] = c.as_mut_slice.ensures.value ∙ c.push_reserved.ensures.items ∙ ap (λ z. z ++ nil ∷ []) c.reserve.ensures.items in
    let e_slots : c.as_slice.result.now ≡ slots ++ Full c.args.key c.args.item ∷ [] = c.as_slice.ensures.value ∙ c.push_reserved-then-place.ensures.items ∙ ap (λ z. z ++ Full c.args.key c.args.item ∷ []) c.reserve-then-place.ensures.items in
    let e_place : c.len-last.result ≡ length slots = omega (arith, c.len-last.ensures, ap length c.reserve-then-place.ensures.items) in
    let room : length (rows slots (order_of ls c.self.inside.root)) < none = (rw (← c.self.view_is) at c.requires) in
    let r = ready_end ls slots c.self.inside.root c.self.inside.free c.self.inside.len c.args.key c.args.item c.self.invariant c.if-place.true room in
    rw (e_links, e_slots) r.sorted

pub enter-self-inside-requires-clause-fresh : goal.enter-self-inside-requires-clause-fresh
enter-self-inside-requires-clause-fresh g c =
    let ls = c.self.inside.links.items in
    let slots = c.self.inside.slots.items in
    let e_links : c.as_mut_slice.result.now ≡ ls ++ nil ∷ [] = c.as_mut_slice.ensures.value ∙ c.push_reserved.ensures.items ∙ ap (λ z. z ++ nil ∷ []) c.reserve.ensures.items in
    let e_slots : c.as_slice.result.now ≡ slots ++ Full c.args.key c.args.item ∷ [] = c.as_slice.ensures.value ∙ c.push_reserved-then-place.ensures.items ∙ ap (λ z. z ++ Full c.args.key c.args.item ∷ []) c.reserve-then-place.ensures.items in
    let e_place : c.len-last.result ≡ length slots = omega (arith, c.len-last.ensures, ap length c.reserve-then-place.ensures.items) in
    let room : length (rows slots (order_of ls c.self.inside.root)) < none = (rw (← c.self.view_is) at c.requires) in
    let r = ready_end ls slots c.self.inside.root c.self.inside.free c.self.inside.len c.args.key c.args.item c.self.invariant c.if-place.true room in
    rw (e_links, e_place) r.fresh

pub enter-self-inside-requires-clause-inside : goal.enter-self-inside-requires-clause-inside
enter-self-inside-requires-clause-inside g c =
    let ls = c.self.inside.links.items in
    let slots = c.self.inside.slots.items in
    let e_links : c.as_mut_slice.result.now ≡ ls ++ nil ∷ [] = c.as_mut_slice.ensures.value ∙ c.push_reserved.ensures.items ∙ ap (λ z. z ++ nil ∷ []) c.reserve.ensures.items in
    let e_slots : c.as_slice.result.now ≡ slots ++ Full c.args.key c.args.item ∷ [] = c.as_slice.ensures.value ∙ c.push_reserved-then-place.ensures.items ∙ ap (λ z. z ++ Full c.args.key c.args.item ∷ []) c.reserve-then-place.ensures.items in
    let e_place : c.len-last.result ≡ length slots = omega (arith, c.len-last.ensures, ap length c.reserve-then-place.ensures.items) in
    let room : length (rows slots (order_of ls c.self.inside.root)) < none = (rw (← c.self.view_is) at c.requires) in
    let r = ready_end ls slots c.self.inside.root c.self.inside.free c.self.inside.len c.args.key c.args.item c.self.invariant c.if-place.true room in
    rw (e_links, e_place) r.inside

pub enter-self-inside-requires-clause-few : goal.enter-self-inside-requires-clause-few
enter-self-inside-requires-clause-few g c =
    let ls = c.self.inside.links.items in
    let slots = c.self.inside.slots.items in
    let e_links : c.as_mut_slice.result.now ≡ ls ++ nil ∷ [] = c.as_mut_slice.ensures.value ∙ c.push_reserved.ensures.items ∙ ap (λ z. z ++ nil ∷ []) c.reserve.ensures.items in
    let e_slots : c.as_slice.result.now ≡ slots ++ Full c.args.key c.args.item ∷ [] = c.as_slice.ensures.value ∙ c.push_reserved-then-place.ensures.items ∙ ap (λ z. z ++ Full c.args.key c.args.item ∷ []) c.reserve-then-place.ensures.items in
    let e_place : c.len-last.result ≡ length slots = omega (arith, c.len-last.ensures, ap length c.reserve-then-place.ensures.items) in
    let room : length (rows slots (order_of ls c.self.inside.root)) < none = (rw (← c.self.view_is) at c.requires) in
    let r = ready_end ls slots c.self.inside.root c.self.inside.free c.self.inside.len c.args.key c.args.item c.self.invariant c.if-place.true room in
    rw e_links r.few

pub invariant_of-self-then-place : goal.invariant_of-self-then-place
invariant_of-self-then-place g c =
    let ls = c.self.inside.links.items in
    let slots = c.self.inside.slots.items in
    let e_links : c.as_mut_slice.result.now ≡ ls ++ nil ∷ [] = c.as_mut_slice.ensures.value ∙ c.push_reserved.ensures.items ∙ ap (λ z. z ++ nil ∷ []) c.reserve.ensures.items in
    let e_slots : c.as_slice.result.now ≡ slots ++ Full c.args.key c.args.item ∷ [] = c.as_slice.ensures.value ∙ c.push_reserved-then-place.ensures.items ∙ ap (λ z. z ++ Full c.args.key c.args.item ∷ []) c.reserve-then-place.ensures.items in
    let e_place : c.len-last.result ≡ length slots = omega (arith, c.len-last.ensures, ap length c.reserve-then-place.ensures.items) in
    let room : length (rows slots (order_of ls c.self.inside.root)) < none = (rw (← c.self.view_is) at c.requires) in
    let r = ready_end ls slots c.self.inside.root c.self.inside.free c.self.inside.len c.args.key c.args.item c.self.invariant c.if-place.true room in
    let back = with_items_is c.push_reserved.new.self c.enter-self-inside.new.links (omega arith) in
    let slots_now : c.push_reserved-then-place.new.self.items ≡ slots ++ Full c.args.key c.args.item ∷ [] = sym c.as_slice.ensures.value ∙ e_slots in
    let same_length : length c.enter-self-inside.new.links ≡ length (ls ++ nil ∷ []) = omega (arith, ap length e_links) in
    let entered = rw (e_links, e_slots, e_place) at c.enter-self-inside.ensures.order in
    rw (back, slots_now) (ready_sound ls slots c.self.inside.root c.self.inside.free c.self.inside.len c.self.invariant (ls ++ nil ∷ []) c.enter-self-inside.new.links (slots ++ Full c.args.key c.args.item ∷ []) (length slots) c.args.key c.args.item c.self.inside.free c.enter-self-inside.result r entered same_length c.enter-self-inside.ensures.colours)

pub returns-then-place-clause-ok : goal.returns-then-place-clause-ok
returns-then-place-clause-ok g c =
    let ls = c.self.inside.links.items in
    let slots = c.self.inside.slots.items in
    let e_links : c.as_mut_slice.result.now ≡ ls ++ nil ∷ [] = c.as_mut_slice.ensures.value ∙ c.push_reserved.ensures.items ∙ ap (λ z. z ++ nil ∷ []) c.reserve.ensures.items in
    let e_slots : c.as_slice.result.now ≡ slots ++ Full c.args.key c.args.item ∷ [] = c.as_slice.ensures.value ∙ c.push_reserved-then-place.ensures.items ∙ ap (λ z. z ++ Full c.args.key c.args.item ∷ []) c.reserve-then-place.ensures.items in
    let e_place : c.len-last.result ≡ length slots = omega (arith, c.len-last.ensures, ap length c.reserve-then-place.ensures.items) in
    let room : length (rows slots (order_of ls c.self.inside.root)) < none = (rw (← c.self.view_is) at c.requires) in
    let r = ready_end ls slots c.self.inside.root c.self.inside.free c.self.inside.len c.args.key c.args.item c.self.invariant c.if-place.true room in
    let back = with_items_is c.push_reserved.new.self c.enter-self-inside.new.links (omega arith) in
    let slots_now : c.push_reserved-then-place.new.self.items ≡ slots ++ Full c.args.key c.args.item ∷ [] = sym c.as_slice.ensures.value ∙ e_slots in
    let same_length : length c.enter-self-inside.new.links ≡ length (ls ++ nil ∷ []) = omega (arith, ap length e_links) in
    let entered = rw (e_links, e_slots, e_place) at c.enter-self-inside.ensures.order in
    rw (← c.self.view_is, back, slots_now, e_place) (ready_rows ls slots c.self.inside.root c.self.inside.free c.self.inside.len c.self.invariant (ls ++ nil ∷ []) c.enter-self-inside.new.links (slots ++ Full c.args.key c.args.item ∷ []) (length slots) c.args.key c.args.item c.self.inside.free c.enter-self-inside.result r entered)

pub fill-self-inside-requires-clause-inside : goal.fill-self-inside-requires-clause-inside
fill-self-inside-requires-clause-inside g c =
    let f = sound_free c.self.inside.links.items c.self.inside.slots.items c.self.inside.root c.self.inside.free c.self.inside.len c.self.invariant c.if-place.false in
    rw c.as_mut_slice-2.ensures.value f.0

pub fill-self-inside-requires-clause-free : goal.fill-self-inside-requires-clause-free
fill-self-inside-requires-clause-free g c =
    let f = sound_free c.self.inside.links.items c.self.inside.slots.items c.self.inside.root c.self.inside.free c.self.inside.len c.self.invariant c.if-place.false in
    rw c.as_mut_slice-2.ensures.value f.1

pub enter-self-inside-requires-2-clause-holds : goal.enter-self-inside-requires-2-clause-holds
enter-self-inside-requires-2-clause-holds g c =
    let ls = c.self.inside.links.items in
    let slots = c.self.inside.slots.items in
    let e_links : c.as_mut_slice-3.result.now ≡ ls = c.as_mut_slice-3.ensures.value in
    let filled : c.fill-self-inside.new.slots ≡ set slots c.self.inside.free (Full c.args.key c.args.item) =
    c.fill-self-inside.ensures.is ∙ ap (λ z. set z c.self.inside.free (Full c.args.key c.args.item)) c.as_mut_slice-2.ensures.value in
    let kept = with_items_is c.self.inside.slots c.fill-self-inside.new.slots (omega arith) in
    let e_slots : c.as_slice-2.result.now ≡ set slots c.self.inside.free (Full c.args.key c.args.item) = c.as_slice-2.ensures.value ∙ kept ∙ filled in
    let found = rw c.as_mut_slice-2.ensures.value at c.fill-self-inside.ensures.was in
    let r = ready_free ls slots c.self.inside.root c.self.inside.free c.self.inside.len c.args.key c.args.item c.fill-self-inside.result c.self.invariant c.if-place.false found in
    rw e_links r.holds

pub enter-self-inside-requires-2-clause-coloured : goal.enter-self-inside-requires-2-clause-coloured
enter-self-inside-requires-2-clause-coloured g c =
    let ls = c.self.inside.links.items in
    let slots = c.self.inside.slots.items in
    let e_links : c.as_mut_slice-3.result.now ≡ ls = c.as_mut_slice-3.ensures.value in
    let filled : c.fill-self-inside.new.slots ≡ set slots c.self.inside.free (Full c.args.key c.args.item) =
    c.fill-self-inside.ensures.is ∙ ap (λ z. set z c.self.inside.free (Full c.args.key c.args.item)) c.as_mut_slice-2.ensures.value in
    let kept = with_items_is c.self.inside.slots c.fill-self-inside.new.slots (omega arith) in
    let e_slots : c.as_slice-2.result.now ≡ set slots c.self.inside.free (Full c.args.key c.args.item) = c.as_slice-2.ensures.value ∙ kept ∙ filled in
    let found = rw c.as_mut_slice-2.ensures.value at c.fill-self-inside.ensures.was in
    let r = ready_free ls slots c.self.inside.root c.self.inside.free c.self.inside.len c.args.key c.args.item c.fill-self-inside.result c.self.invariant c.if-place.false found in
    rw e_links r.coloured

pub enter-self-inside-requires-2-clause-sorted : goal.enter-self-inside-requires-2-clause-sorted
enter-self-inside-requires-2-clause-sorted g c =
    let ls = c.self.inside.links.items in
    let slots = c.self.inside.slots.items in
    let e_links : c.as_mut_slice-3.result.now ≡ ls = c.as_mut_slice-3.ensures.value in
    let filled : c.fill-self-inside.new.slots ≡ set slots c.self.inside.free (Full c.args.key c.args.item) =
    c.fill-self-inside.ensures.is ∙ ap (λ z. set z c.self.inside.free (Full c.args.key c.args.item)) c.as_mut_slice-2.ensures.value in
    let kept = with_items_is c.self.inside.slots c.fill-self-inside.new.slots (omega arith) in
    let e_slots : c.as_slice-2.result.now ≡ set slots c.self.inside.free (Full c.args.key c.args.item) = c.as_slice-2.ensures.value ∙ kept ∙ filled in
    let found = rw c.as_mut_slice-2.ensures.value at c.fill-self-inside.ensures.was in
    let r = ready_free ls slots c.self.inside.root c.self.inside.free c.self.inside.len c.args.key c.args.item c.fill-self-inside.result c.self.invariant c.if-place.false found in
    rw (e_links, e_slots) r.sorted

pub enter-self-inside-requires-2-clause-fresh : goal.enter-self-inside-requires-2-clause-fresh
enter-self-inside-requires-2-clause-fresh g c =
    let ls = c.self.inside.links.items in
    let slots = c.self.inside.slots.items in
    let e_links : c.as_mut_slice-3.result.now ≡ ls = c.as_mut_slice-3.ensures.value in
    let filled : c.fill-self-inside.new.slots ≡ set slots c.self.inside.free (Full c.args.key c.args.item) =
    c.fill-self-inside.ensures.is ∙ ap (λ z. set z c.self.inside.free (Full c.args.key c.args.item)) c.as_mut_slice-2.ensures.value in
    let kept = with_items_is c.self.inside.slots c.fill-self-inside.new.slots (omega arith) in
    let e_slots : c.as_slice-2.result.now ≡ set slots c.self.inside.free (Full c.args.key c.args.item) = c.as_slice-2.ensures.value ∙ kept ∙ filled in
    let found = rw c.as_mut_slice-2.ensures.value at c.fill-self-inside.ensures.was in
    let r = ready_free ls slots c.self.inside.root c.self.inside.free c.self.inside.len c.args.key c.args.item c.fill-self-inside.result c.self.invariant c.if-place.false found in
    rw e_links r.fresh

pub enter-self-inside-requires-2-clause-inside : goal.enter-self-inside-requires-2-clause-inside
enter-self-inside-requires-2-clause-inside g c =
    let ls = c.self.inside.links.items in
    let slots = c.self.inside.slots.items in
    let e_links : c.as_mut_slice-3.result.now ≡ ls = c.as_mut_slice-3.ensures.value in
    let filled : c.fill-self-inside.new.slots ≡ set slots c.self.inside.free (Full c.args.key c.args.item) =
    c.fill-self-inside.ensures.is ∙ ap (λ z. set z c.self.inside.free (Full c.args.key c.args.item)) c.as_mut_slice-2.ensures.value in
    let kept = with_items_is c.self.inside.slots c.fill-self-inside.new.slots (omega arith) in
    let e_slots : c.as_slice-2.result.now ≡ set slots c.self.inside.free (Full c.args.key c.args.item) = c.as_slice-2.ensures.value ∙ kept ∙ filled in
    let found = rw c.as_mut_slice-2.ensures.value at c.fill-self-inside.ensures.was in
    let r = ready_free ls slots c.self.inside.root c.self.inside.free c.self.inside.len c.args.key c.args.item c.fill-self-inside.result c.self.invariant c.if-place.false found in
    rw e_links r.inside

pub enter-self-inside-requires-2-clause-few : goal.enter-self-inside-requires-2-clause-few
enter-self-inside-requires-2-clause-few g c =
    let ls = c.self.inside.links.items in
    let slots = c.self.inside.slots.items in
    let e_links : c.as_mut_slice-3.result.now ≡ ls = c.as_mut_slice-3.ensures.value in
    let filled : c.fill-self-inside.new.slots ≡ set slots c.self.inside.free (Full c.args.key c.args.item) =
    c.fill-self-inside.ensures.is ∙ ap (λ z. set z c.self.inside.free (Full c.args.key c.args.item)) c.as_mut_slice-2.ensures.value in
    let kept = with_items_is c.self.inside.slots c.fill-self-inside.new.slots (omega arith) in
    let e_slots : c.as_slice-2.result.now ≡ set slots c.self.inside.free (Full c.args.key c.args.item) = c.as_slice-2.ensures.value ∙ kept ∙ filled in
    let found = rw c.as_mut_slice-2.ensures.value at c.fill-self-inside.ensures.was in
    let r = ready_free ls slots c.self.inside.root c.self.inside.free c.self.inside.len c.args.key c.args.item c.fill-self-inside.result c.self.invariant c.if-place.false found in
    rw e_links r.few

pub invariant_of-self-2 : goal.invariant_of-self-2
invariant_of-self-2 g c =
    let ls = c.self.inside.links.items in
    let slots = c.self.inside.slots.items in
    let e_links : c.as_mut_slice-3.result.now ≡ ls = c.as_mut_slice-3.ensures.value in
    let filled : c.fill-self-inside.new.slots ≡ set slots c.self.inside.free (Full c.args.key c.args.item) =
    c.fill-self-inside.ensures.is ∙ ap (λ z. set z c.self.inside.free (Full c.args.key c.args.item)) c.as_mut_slice-2.ensures.value in
    let kept = with_items_is c.self.inside.slots c.fill-self-inside.new.slots (omega arith) in
    let e_slots : c.as_slice-2.result.now ≡ set slots c.self.inside.free (Full c.args.key c.args.item) = c.as_slice-2.ensures.value ∙ kept ∙ filled in
    let found = rw c.as_mut_slice-2.ensures.value at c.fill-self-inside.ensures.was in
    let r = ready_free ls slots c.self.inside.root c.self.inside.free c.self.inside.len c.args.key c.args.item c.fill-self-inside.result c.self.invariant c.if-place.false found in
    let back = with_items_is c.self.inside.links c.enter-self-inside-2.new.links (omega arith) in
    let same_length : length c.enter-self-inside-2.new.links ≡ length ls = omega (arith, ap length e_links) in
    let entered = rw (e_links, e_slots) at c.enter-self-inside-2.ensures.order in
    rw (back, kept, filled) (ready_sound ls slots c.self.inside.root c.self.inside.free c.self.inside.len c.self.invariant ls c.enter-self-inside-2.new.links (set slots c.self.inside.free (Full c.args.key c.args.item)) c.self.inside.free c.args.key c.args.item c.fill-self-inside.result c.enter-self-inside-2.result r entered same_length c.enter-self-inside-2.ensures.colours)

pub returns-clause-ok : goal.returns-clause-ok
returns-clause-ok g c =
    let ls = c.self.inside.links.items in
    let slots = c.self.inside.slots.items in
    let e_links : c.as_mut_slice-3.result.now ≡ ls = c.as_mut_slice-3.ensures.value in
    let filled : c.fill-self-inside.new.slots ≡ set slots c.self.inside.free (Full c.args.key c.args.item) =
    c.fill-self-inside.ensures.is ∙ ap (λ z. set z c.self.inside.free (Full c.args.key c.args.item)) c.as_mut_slice-2.ensures.value in
    let kept = with_items_is c.self.inside.slots c.fill-self-inside.new.slots (omega arith) in
    let e_slots : c.as_slice-2.result.now ≡ set slots c.self.inside.free (Full c.args.key c.args.item) = c.as_slice-2.ensures.value ∙ kept ∙ filled in
    let found = rw c.as_mut_slice-2.ensures.value at c.fill-self-inside.ensures.was in
    let r = ready_free ls slots c.self.inside.root c.self.inside.free c.self.inside.len c.args.key c.args.item c.fill-self-inside.result c.self.invariant c.if-place.false found in
    let back = with_items_is c.self.inside.links c.enter-self-inside-2.new.links (omega arith) in
    let same_length : length c.enter-self-inside-2.new.links ≡ length ls = omega (arith, ap length e_links) in
    let entered = rw (e_links, e_slots) at c.enter-self-inside-2.ensures.order in
    rw (← c.self.view_is, back, kept, filled) (ready_rows ls slots c.self.inside.root c.self.inside.free c.self.inside.len c.self.invariant ls c.enter-self-inside-2.new.links (set slots c.self.inside.free (Full c.args.key c.args.item)) c.self.inside.free c.args.key c.args.item c.fill-self-inside.result c.enter-self-inside-2.result r entered)

pub returns-then-is_err-clause-succeeds : goal.returns-then-is_err-clause-succeeds
returns-then-is_err-clause-succeeds g c = λ spare.
    let full = sound_full c.self.inside.links.items c.self.inside.slots.items c.self.inside.root c.self.inside.free c.self.inside.len c.self.invariant c.if-place.true in
    let room : 0 < min (vec_capacity c.self.inside.links) (vec_capacity c.self.inside.slots) - c.self.inside.len = (rw (← c.self.view_is) at spare) in
    let ok = c.reserve.ensures.succeeds (omega (arith, room, full.0, full.1)) in
    sym c.if-is_err.ensures.negation ∙ ok

pub returns-then-is_err-2-clause-succeeds : goal.returns-then-is_err-2-clause-succeeds
returns-then-is_err-2-clause-succeeds g c = λ spare.
    let full = sound_full c.self.inside.links.items c.self.inside.slots.items c.self.inside.root c.self.inside.free c.self.inside.len c.self.invariant c.if-place.true in
    let room : 0 < min (vec_capacity c.self.inside.links) (vec_capacity c.self.inside.slots) - c.self.inside.len = (rw (← c.self.view_is) at spare) in
    let ok = c.reserve-then-place.ensures.succeeds (omega (arith, room, full.0, full.1)) in
    sym c.if-is_err-2.ensures.negation ∙ ok

pub returns-then-is_err-clause-no_room : goal.returns-then-is_err-clause-no_room
returns-then-is_err-clause-no_room g c =
    let full = sound_full c.self.inside.links.items c.self.inside.slots.items c.self.inside.root c.self.inside.free c.self.inside.len c.self.invariant c.if-place.true in
    let failed : is_err c.reserve.result ≡ true = sym c.is_err.ensures.value ∙ c.if-is_err.true in
    no_room_left _ _ _ (omega (arith, full.1, err_then _ _ failed c.reserve.ensures.full, err_then _ _ failed c.reserve.ensures.err))

pub returns-then-is_err-2-clause-no_room : goal.returns-then-is_err-2-clause-no_room
returns-then-is_err-2-clause-no_room g c =
    let full = sound_full c.self.inside.links.items c.self.inside.slots.items c.self.inside.root c.self.inside.free c.self.inside.len c.self.invariant c.if-place.true in
    let failed : is_err c.reserve-then-place.result ≡ true = sym c.is_err-then-place.ensures.value ∙ c.if-is_err-2.true in
    no_room_right _ _ _ (omega (arith, full.0, err_then _ _ failed c.reserve-then-place.ensures.full, err_then _ _ failed c.reserve-then-place.ensures.err))
