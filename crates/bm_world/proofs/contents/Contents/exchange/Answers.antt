use Rattle.std.proofs.Common.{◌≡◌, ◌∙◌, ◌<◌, ℕ, List, Some, ap, length, map, subst, sym}
use Rattle.std.proofs.lemmas.List.{length-map}
use Rattle.bm_law_order.specs.Slots.{Named, named_in}
use Rattle.bm_world.specs.Contents.{are_apart, names_in}
use Rattle.bm_world.specs.NamedSlots.{named_of}
use Rattle.bm_world.specs.declared.contents.MapSlot.{MapSlot}
use Rattle.bm_world.proofs.NamedLemmas.{named-there, names-stay, told-put, told-set, told-slot}
use Rattle.bm_world.proofs.contents.Contents.exchange.Goals as goal

-- the place is one of the slots'
there : (slots : List MapSlot) (place : ℕ) (told : List Named) → map named_of slots ≡ told → place < length told → place < length slots
there slots place told e lt = subst (λ n. place < n) (ap length (sym e) ∙ length-map slots named_of) lt

pub invariant_of-self : goal.invariant_of-self
invariant_of-self c =
    let xs = c.self.inside.slots.items in
    let lt = there xs c.args.place c.args.self.now c.self.view_is c.requires.there in
    let put = told-set xs c.args.place c.index_mut-slot.result.now c.args.put (Some c.args.tag) lt c.index_mut-slot.ensures.value in
    ap (λ (ns : List Named). are_apart (names_in ns)) put ∙ (ap are_apart (names-stay c.args.place _ (map named_of xs)) ∙ c.self.invariant)

pub returns-clause-slots : goal.returns-clause-slots
returns-clause-slots c =
    let xs = c.self.inside.slots.items in
    let lt = there xs c.args.place c.args.self.now c.self.view_is c.requires.there in
    rw (← c.self.view_is) (told-set xs c.args.place c.index_mut-slot.result.now c.args.put (Some c.args.tag) lt c.index_mut-slot.ensures.value)

pub returns-clause-held : goal.returns-clause-held
returns-clause-held c =
    let xs = c.self.inside.slots.items in
    let lt = there xs c.args.place c.args.self.now c.self.view_is c.requires.there in
    rw (← c.self.view_is) (ap (λ (n : Named). n.slot.held) (sym (told-slot xs c.args.place c.index_mut-slot.result.now lt c.index_mut-slot.ensures.value)))

pub returns-clause-by : goal.returns-clause-by
returns-clause-by c =
    let xs = c.self.inside.slots.items in
    let lt = there xs c.args.place c.args.self.now c.self.view_is c.requires.there in
    rw (← c.self.view_is) (ap (λ (n : Named). n.slot.by) (sym (told-slot xs c.args.place c.index_mut-slot.result.now lt c.index_mut-slot.ensures.value)))

pub returns-clause-named : goal.returns-clause-named
returns-clause-named c = rw (← c.self.view_is) (named-there c.args.place (map named_of c.self.inside.slots.items) c.self.invariant (subst (λ (ns : List Named). c.args.place < length ns) (sym c.self.view_is) c.requires.there))

pub returns-clause-told : goal.returns-clause-told
returns-clause-told c =
    let xs = c.self.inside.slots.items in
    let lt = there xs c.args.place c.args.self.now c.self.view_is c.requires.there in
    let put = told-set xs c.args.place c.index_mut-slot.result.now c.args.put (Some c.args.tag) lt c.index_mut-slot.ensures.value in
    rw (← c.self.view_is) (ap named_in put ∙ told-put c.args.place _ (map named_of xs) c.self.invariant (subst (λ (ns : List Named). c.args.place < length ns) (sym c.self.view_is) c.requires.there))
