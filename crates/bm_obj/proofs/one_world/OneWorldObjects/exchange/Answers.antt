use Rattle.std.proofs.Common.{◌≡◌, ◌<◌, ◌∙◌, Some, length, slice_get, sym, subst, ap, arith}
use Rattle.std.specs.Prelude.{slice_index}
use Rattle.std.proofs.lemmas.Option.{slice_get-get_or}
use Rattle.bm_obj.specs.Known.{Has, MayGo}
use Rattle.bm_obj.specs.Kept.{held_by}
use Rattle.bm_obj.specs.Reference.{Reference}
use Rattle.bm_obj.specs.WorldState.{Word, World, known_of}
use Rattle.bm_obj.proofs.Alive.{finds, if-some, some-if, may-go, word-written}
use Rattle.bm_obj.proofs.Told.{told-exchanged}
use Rattle.bm_obj.proofs.one_world.OneWorldObjects.exchange.Goals as goal

pub invariant_of-self : goal.invariant_of-self
invariant_of-self c =
    let i = c.self.inside in
    let slot = subst (λ (w : World). c.args.slot < length w.slots) (sym c.self.view_is) c.requires.slot in
    let count = c.self.invariant.word_count in
    let inside : c.args.slot < length i.words.items = omega arith in
    let e : slice_get i.words.items c.args.slot ≡ Some c.replace.result = slice_get-get_or i.words.items c.args.slot c.index_mut.result.now inside ∙ ap (λ x. Some x) (sym c.index_mut.ensures.value ∙ sym c.replace.ensures.value) in
    let has = λ (r : Reference) (p : c.args.put ≡ Some r). (let h = subst (λ (w : World). Has r (known_of w)) (sym c.self.view_is) (if-some c.args.put (λ q. Has q (known_of c.args.self.now)) c.requires.has r p) in finds i.places.items i.words.items r h) in
    rw c.replace.ensures.after
    (word-written i.places.items i.words.items i.slots.items i.graphs.types i.defs.items i.acquires c.args.slot c.replace.result (record { old = c.args.put; by = Some c.args.tag }) c.self.invariant e
    (λ r p. (
    let type = subst (λ (w : World). r.def ≡ slice_index w.slots c.args.slot) (sym c.self.view_is) (if-some c.args.put (λ q. q.def ≡ slice_index c.args.self.now.slots c.args.slot) c.requires.of_type r p) in
    let keeps = subst (λ (w : World). MayGo r (known_of w)) (sym c.self.view_is) (if-some c.args.put (λ q. MayGo q (known_of c.args.self.now)) c.requires.keeps r p) in
    record { finds = has r p; type_is = type; keeps = may-go i.places.items i.words.items r (has r p) keeps })))

pub returns-clause-answer : goal.returns-clause-answer
returns-clause-answer c =
    let i = c.self.inside in
    let slot = subst (λ (w : World). c.args.slot < length w.slots) (sym c.self.view_is) c.requires.slot in
    let count = c.self.invariant.word_count in
    let inside : c.args.slot < length i.words.items = omega arith in
    let e : slice_get i.words.items c.args.slot ≡ Some c.replace.result = slice_get-get_or i.words.items c.args.slot c.index_mut.result.now inside ∙ ap (λ x. Some x) (sym c.index_mut.ensures.value ∙ sym c.replace.ensures.value) in
    rw (← c.self.view_is) e

pub returns-clause-of_type : goal.returns-clause-of_type
returns-clause-of_type c =
    let i = c.self.inside in
    let slot = subst (λ (w : World). c.args.slot < length w.slots) (sym c.self.view_is) c.requires.slot in
    let count = c.self.invariant.word_count in
    let inside : c.args.slot < length i.words.items = omega arith in
    let e : slice_get i.words.items c.args.slot ≡ Some c.replace.result = slice_get-get_or i.words.items c.args.slot c.index_mut.result.now inside ∙ ap (λ x. Some x) (sym c.index_mut.ensures.value ∙ sym c.replace.ensures.value) in
    rw (← c.self.view_is) (some-if c.replace.result.old (λ r. r.def ≡ slice_index i.slots.items c.args.slot) (λ r p. c.self.invariant.types c.args.slot r (ap held_by e ∙ p)))

pub returns-clause-known : goal.returns-clause-known
returns-clause-known c =
    let i = c.self.inside in
    let slot = subst (λ (w : World). c.args.slot < length w.slots) (sym c.self.view_is) c.requires.slot in
    let count = c.self.invariant.word_count in
    let inside : c.args.slot < length i.words.items = omega arith in
    let e : slice_get i.words.items c.args.slot ≡ Some c.replace.result = slice_get-get_or i.words.items c.args.slot c.index_mut.result.now inside ∙ ap (λ x. Some x) (sym c.index_mut.ensures.value ∙ sym c.replace.ensures.value) in
    let has = λ (r : Reference) (p : c.args.put ≡ Some r). (let h = subst (λ (w : World). Has r (known_of w)) (sym c.self.view_is) (if-some c.args.put (λ q. Has q (known_of c.args.self.now)) c.requires.has r p) in finds i.places.items i.words.items r h) in
    let w : World = record { places = i.places.items; words = i.words.items; slots = i.slots.items; graphs = i.graphs.types; defs = i.defs.items; processor = i.processor; acquires = i.acquires; waits = i.graphs.waits; last = i.last } in
    let new : Word = record { old = c.args.put; by = Some c.args.tag } in
    rw (← c.self.view_is, c.replace.ensures.after)
    (told-exchanged w c.args.slot c.replace.result new e (λ r p. c.self.invariant.lives c.args.slot r (ap held_by e ∙ p)) (λ n object at. (c.self.invariant.alive n object at).slots) has)
