use Rattle.std.proofs.Common.{◌≡◌, ◌∙◌, Some, length, sym, subst, ap, arith}
use Rattle.bm_class.specs.Sizes.{class_of_size}
use Rattle.bm_obj.specs.TypeSize.{type_size}
use Rattle.bm_obj.specs.Known.{IsMine, type_at}
use Rattle.bm_obj.specs.WorldState.{World, known_of}
use Rattle.bm_obj.proofs.Calls.{kept-made, mine-none, mine-within, none-held}
use Rattle.bm_obj.proofs.Told.{told-made}
use Rattle.bm_obj.proofs.one_world.OneWorldObjects.make.Goals as goal

pub kept_values-requires : goal.kept_values-requires
kept_values-requires c =
    let i = c.self.inside in
    let values = subst (λ (w : World). length c.args.values.now ≡ (type_at w.defs c.args.def).fields) (sym c.self.view_is) c.requires.values in
    let most = c.self.invariant.fields c.args.def in
    omega arith

pub put_object-requires-clause-inside : goal.put_object-requires-clause-inside
put_object-requires-clause-inside c =
    let i = c.self.inside in
    let mine = subst (λ (w : World). IsMine c.args.unit (known_of w)) (sym c.self.view_is) c.requires.mine in
    rw c.begin_life.ensures (mine-within i.places.items c.args.unit.number c.args.unit.life mine)

pub invariant_of-self : goal.invariant_of-self
invariant_of-self c =
    let i = c.self.inside in
    let unit = c.args.unit in
    let mine = subst (λ (w : World). IsMine unit (known_of w)) (sym c.self.view_is) c.requires.mine in
    let class = subst (λ (w : World). class_of_size (type_size (type_at w.defs c.args.def)) ≡ Some unit.class) (sym c.self.view_is) c.requires.class in
    let values = subst (λ (w : World). length c.args.values.now ≡ (type_at w.defs c.args.def).fields) (sym c.self.view_is) c.requires.values in
    let few = c.self.invariant.few in
    rw (c.put_object.ensures, c.begin_life.ensures, c.kept_values.ensures)
    (kept-made i.places.items i.words.items i.slots.items i.graphs.types i.defs.items i.acquires unit c.args.def c.args.values.now mine c.requires.room class values (omega arith) c.self.invariant)

pub returns-clause-known : goal.returns-clause-known
returns-clause-known c =
    let i = c.self.inside in
    let unit = c.args.unit in
    let w : World = record { places = i.places.items; words = i.words.items; slots = i.slots.items; graphs = i.graphs.types; defs = i.defs.items; processor = i.processor; acquires = i.acquires; waits = i.graphs.waits; last = i.last } in
    let mine = subst (λ (w : World). IsMine unit (known_of w)) (sym c.self.view_is) c.requires.mine in
    let none = none-held i.places.items i.words.items i.slots.items i.graphs.types i.defs.items i.acquires unit.number c.self.invariant (mine-none i.places.items unit.number unit.life mine) in
    let places = rw (c.begin_life.ensures, c.kept_values.ensures) at c.put_object.ensures in
    rw (← c.self.view_is, c.new-r.ensures, c.number.ensures, c.life.ensures, c.home.ensures, c.begin_life.ensures) (ap (λ ps. known_of (record w { places = ps })) places ∙ told-made w unit c.args.def c.args.values.now mine none)
