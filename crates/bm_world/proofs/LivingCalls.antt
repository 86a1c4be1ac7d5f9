-- What the world keeps, tells and does where a list or tree is called.
use Rattle.std.proofs.Common.{◌≡◌, ◌≢◌, ◌∙◌, ◌<◌, ℕ, List, [], ◌∷◌, Option, Some, None, Result, Ok, Err, OnErr, ap, arith, inl, inr, length, refl, subst, sym, true}
use Rattle.std.specs.Prelude.{◌&&◌, IfOk, IfSome, eqb, if◌then◌else◌, is_some, not, slice_get}
use Rattle.std.proofs.lemmas.Bool.{cases_eq, eq-eqb, ne_eqb}
use Rattle.std.proofs.lemmas.List.{length-set}
use mathlib.Core.Path.{fun_ext}
use Rattle.bm_journal.specs.declared.ids.ObjId.{ObjId}
use Rattle.bm_journal.specs.declared.ids.Tag.{Tag}
use Rattle.bm_journal.specs.declared.past.PastCall.{PastCall}
use Rattle.bm_journal.specs.declared.past.PastCall.TheVariants as past
use Rattle.bm_page.specs.UnitState.{UnitState}
use Rattle.bm_graph.specs.Calls.{first_call}
use Rattle.bm_graph.specs.Ways.{pop_call, push_call, refused_push}
use Rattle.bm_graph.specs.declared.ways.End.{End}
use Rattle.bm_graph.specs.declared.ways.End.TheVariants as end_
use Rattle.bm_graph.specs.declared.ways.Way.{Way}
use Rattle.bm_graph.specs.declared.ways.Way.TheVariants as way
use Rattle.bm_grace.specs.Known.{Known, Living, Lives}
use Rattle.bm_grace.specs.Rights.{AsBefore}
use Rattle.bm_post.specs.PostState.{PostState, is_mine}
use Rattle.bm_law_order.specs.Act as act
use Rattle.bm_law_order.specs.Acts.{pushed_by}
use Rattle.bm_law_order.specs.Graphs.{Calls, NamedGraph, effect_of, graph_names_in, graphs_after, moved, shelf_of, standing_from}
use Rattle.bm_law_order.specs.Graphs.{Standing as Stood}
use Rattle.bm_law_order.specs.Made.{IsKeyed}
use Rattle.bm_world.specs.Graphs.{key_of}
use Rattle.bm_world.specs.Lives.{HasLife, graph_called, life_of_unit}
use Rattle.bm_world.specs.LivingState.{AreLiving, AreShelved, IsCounted, LivingState, begun_at, known_living, lives_of, living_of, rights_with_living, slots_placed}
use Rattle.bm_world.specs.SideState.{known_of}
use Rattle.bm_world.specs.Slots.{object_at, place_within, stands_as, stands_in, unit_at, unit_of, values_of, with_place}
use Rattle.bm_world.specs.ToldLiving.{LivingDoes, fields_told}
use Rattle.bm_world.specs.declared.slots.Object.{Object}
use Rattle.bm_world.specs.declared.standing.Standing.{Standing}
use Rattle.bm_world.proofs.GraphLemmas.{after-names}
use Rattle.bm_world.proofs.KnownLiving.{IsLiving, is-living}
use Rattle.bm_world.proofs.LivingDid.{does-call, put-alive}
use Rattle.bm_world.proofs.Shelving.{placed-life, placed-living, placed-unit, placed-values, shelved-moved}
use Rattle.bm_world.proofs.SlotLemmas.{Slotted, object-other, object-same, within}

-- ---- an object that moves

counted-placed : (asked : ℕ) (w : Option ℕ) (x : Option Object) → IsCounted asked x → IsCounted asked (with_place w x)
counted-placed asked w None k = tt
counted-placed asked w (Some o) k = k

pub living-placed : (post : PostState) (plain tracing : ℕ) (slots : Slotted) (begun : List ℕ) (standings : List Standing) (asked n : ℕ) (w : Option ℕ) → n < length slots → AreLiving post plain tracing slots begun standings asked → AreLiving post plain tracing (slots_placed n w slots) begun standings asked
living-placed post plain tracing slots begun standings asked n w lt k = record {
  size = length-set slots n (with_place w (object_at slots n)) ∙ k.size;
  counts = k.counts;
  number = λ m v e. k.number m v (was m v e);
  mine = λ m v e. k.mine m v (was m v e);
  life = λ m v e. k.life m v (was m v e);
  unsealed = λ m v e. k.unsealed m v (was m v e);
  home = λ m v e. k.home m v (was m v e);
  counted = λ m. elim (cases_eq m n) [
    | inl same ↦ subst (IsCounted asked) (sym (ap (object_at (slots_placed n w slots)) same ∙ object-same slots n (with_place w (object_at slots n)) lt)) (counted-placed asked w (object_at slots n) (k.counted n))
    | inr other ↦ subst (IsCounted asked) (sym (object-other slots n m (with_place w (object_at slots n)) other)) (k.counted m)
  ];
  few = k.few;
  most = k.most;
  lived = k.lived;
  standing = record { size = k.standing.size; timed = k.standing.timed; living = λ m v e. k.standing.living m v (was m v e) };
}
  where
    was : (m : ℕ) (v : UnitState) → unit_at (slots_placed n w slots) m ≡ Some v → unit_at slots m ≡ Some v
    was m v e = sym (placed-unit slots n w m lt) ∙ e

pub rights-placed : (post : PostState) (plain tracing : ℕ) (slots : Slotted) (begun : List ℕ) (standings : List Standing) (n : ℕ) (w : Option ℕ) → n < length slots → AsBefore (rights_with_living post plain tracing slots begun standings) (rights_with_living post plain tracing (slots_placed n w slots) begun standings)
rights-placed post plain tracing slots begun standings n w lt = record {
  mine = λ m. ap (λ (o : Option UnitState). is_mine post m && not (is_some o)) (placed-unit slots n w m lt);
  settled = λ m life seal. refl;
  due = λ m life seal. refl;
  ripe = λ m life seal. refl;
  since = λ d x m. refl;
}

pub known-placed : (place : ℕ) (call : PastCall) (tag : Tag) (n : ℕ) (w : Option ℕ) (a : LivingState) → n < length a.slots → known_living (record a { slots = slots_placed n w a.slots; graphs = graphs_after place call tag a.graphs }) ≡ graph_called place call tag (known_living a)
known-placed place call tag n w a lt =
    let K : Lives → Known = λ xs. record (known_of a.side) { objects = record { lives = xs; begun = begun_at a.begun; asked = a.asked; slots = a.contents; graphs = graphs_after place call tag a.graphs } } in
    ap K (fun_ext (λ m. placed-living a.slots n w m lt))

-- ---- where objects stand afterwards

-- a unit that stands in a list or tree lives
pub stands-living : (slots : Slotted) (graphs : List NamedGraph) (n : ℕ) (s : Stood) → AreShelved slots graphs → standing_from 0 graphs n ≡ Some s → n < length slots
stands-living slots graphs n s h e = of-object (object_at slots n) refl (h.stands n ∙ e)
  where
    of-object : (x : Option Object) → object_at slots n ≡ x → stands_in x ≡ Some s → n < length slots
    of-object None f g = cc
    of-object (Some o) f g = within slots n o.unit (ap unit_of f)

pub is-some-living : (slots : Slotted) (graphs : List NamedGraph) (n : ℕ) (s : Stood) → AreShelved slots graphs → standing_from 0 graphs n ≡ Some s → is_some (unit_at slots n) ≡ true
is-some-living slots graphs n s h e = of-object (object_at slots n) refl (h.stands n ∙ e)
  where
    of-object : (x : Option Object) → object_at slots n ≡ x → stands_in x ≡ Some s → is_some (unit_at slots n) ≡ true
    of-object None f g = cc
    of-object (Some o) f g = ap (λ x. is_some (unit_of x)) f

moved-to : (graphs now : List NamedGraph) (place : ℕ) (call : PastCall) → standing_from 0 now ≡ moved place (effect_of call) (standing_from 0 graphs) → (m : ℕ) → standing_from 0 now m ≡ moved place (effect_of call) (standing_from 0 graphs) m
moved-to graphs now place call moves m = ap (λ (f : ℕ → Option Stood). f m) moves

put-other : (place m : ℕ) (w : Way) (id : ObjId) (key : ℕ) (f : ℕ → Option Stood) → m ≢ id.unit → moved place (effect_of (push_call w id key)) f m ≡ f m
put-other place m way.Front id key f ne = rw (ne_eqb m id.unit ne) refl
put-other place m way.Back id key f ne = rw (ne_eqb m id.unit ne) refl
put-other place m way.Ordered id key f ne = rw (ne_eqb m id.unit ne) refl

put-there : (place : ℕ) (w : Way) (id : ObjId) (key : ℕ) (f : ℕ → Option Stood) → moved place (effect_of (push_call w id key)) f id.unit ≡ Some (record { life = id.life; place = place })
put-there place way.Front id key f = rw (eq-eqb id.unit id.unit refl) refl
put-there place way.Back id key f = rw (eq-eqb id.unit id.unit refl) refl
put-there place way.Ordered id key f = rw (eq-eqb id.unit id.unit refl) refl

popped-other : (place m : ℕ) (end : End) (id : ObjId) (f : ℕ → Option Stood) → m ≢ id.unit → moved place (effect_of (pop_call end (Some id))) f m ≡ f m
popped-other place m end_.Front id f ne = rw (ne_eqb m id.unit ne) refl
popped-other place m end_.Back id f ne = rw (ne_eqb m id.unit ne) refl

popped-gone : (place : ℕ) (end : End) (id : ObjId) (f : ℕ → Option Stood) → moved place (effect_of (pop_call end (Some id))) f id.unit ≡ None
popped-gone place end_.Front id f = rw (eq-eqb id.unit id.unit refl) refl
popped-gone place end_.Back id f = rw (eq-eqb id.unit id.unit refl) refl

gone-in : (x : Option Object) → stands_in (with_place None x) ≡ None
gone-in None = refl
gone-in (Some o) = refl

-- an object is put in
pub shelved-put : (slots : Slotted) (graphs now : List NamedGraph) (place : ℕ) (w : Way) (id : ObjId) (key : ℕ) → IsLiving slots id.unit id.life → standing_from 0 now ≡ moved place (effect_of (push_call w id key)) (standing_from 0 graphs) → AreShelved slots graphs → AreShelved (slots_placed id.unit (Some place) slots) now
shelved-put slots graphs now place w id key alive moves h =
    shelved-moved slots graphs now id.unit (Some place) alive.within
    (ap (λ x. stands_in (with_place (Some place) x)) alive.is
    ∙ (ap (λ l. let s : Stood = record { life = l; place = place } in Some s) alive.now_is
    ∙ sym (moved-to graphs now place (push_call w id key) moves id.unit ∙ put-there place w id key (standing_from 0 graphs))))
    (λ m ne. moved-to graphs now place (push_call w id key) moves m ∙ put-other place m w id key (standing_from 0 graphs) ne) h

-- .. or taken
pub shelved-popped : (slots : Slotted) (graphs now : List NamedGraph) (place : ℕ) (end : End) (id : ObjId) → id.unit < length slots → standing_from 0 now ≡ moved place (effect_of (pop_call end (Some id))) (standing_from 0 graphs) → AreShelved slots graphs → AreShelved (slots_placed id.unit None slots) now
shelved-popped slots graphs now place end id lt moves h =
    shelved-moved slots graphs now id.unit None lt
    (gone-in (object_at slots id.unit) ∙ sym (moved-to graphs now place (pop_call end (Some id)) moves id.unit ∙ popped-gone place end id (standing_from 0 graphs)))
    (λ m ne. moved-to graphs now place (pop_call end (Some id)) moves m ∙ popped-other place m end id (standing_from 0 graphs) ne) h

pub shelved-removed : (slots : Slotted) (graphs now : List NamedGraph) (place : ℕ) (id : ObjId) → id.unit < length slots → standing_from 0 now ≡ moved place (effect_of (past.Remove id)) (standing_from 0 graphs) → AreShelved slots graphs → AreShelved (slots_placed id.unit None slots) now
shelved-removed slots graphs now place id lt moves h =
    shelved-moved slots graphs now id.unit None lt
    (gone-in (object_at slots id.unit) ∙ sym (moved-to graphs now place (past.Remove id) moves id.unit ∙ here))
    (λ m ne. moved-to graphs now place (past.Remove id) moves m ∙ other m ne) h
  where
    here : (if eqb id.unit id.unit then None else standing_from 0 graphs id.unit) ≡ None
    here = rw (eq-eqb id.unit id.unit refl) refl

    other : (m : ℕ) → m ≢ id.unit → (if eqb m id.unit then None else standing_from 0 graphs m) ≡ standing_from 0 graphs m
    other m ne = rw (ne_eqb m id.unit ne) refl

-- .. or nothing moves
shelved-still : (slots : Slotted) (graphs now : List NamedGraph) (place : ℕ) (call : PastCall) → ((f : ℕ → Option Stood) (m : ℕ) → moved place (effect_of call) f m ≡ f m) → standing_from 0 now ≡ moved place (effect_of call) (standing_from 0 graphs) → AreShelved slots graphs → AreShelved slots now
shelved-still slots graphs now place call still moves h =
    record { stands = λ m. h.stands m ∙ sym (moved-to graphs now place call moves m ∙ still (standing_from 0 graphs) m) }

pub shelved-refused : (slots : Slotted) (graphs now : List NamedGraph) (place : ℕ) (w : Way) (id : ObjId) (key owner : ℕ) → standing_from 0 now ≡ moved place (effect_of (refused_push w id key owner)) (standing_from 0 graphs) → AreShelved slots graphs → AreShelved slots now
shelved-refused slots graphs now place w id key owner moves h = shelved-still slots graphs now place (refused_push w id key owner) (still w) moves h
  where
    still : (w : Way) (f : ℕ → Option Stood) (m : ℕ) → moved place (effect_of (refused_push w id key owner)) f m ≡ f m
    still way.Front f m = refl
    still way.Back f m = refl
    still way.Ordered f m = refl

shelved-first : (slots : Slotted) (graphs now : List NamedGraph) (place : ℕ) (o : Option ObjId) → standing_from 0 now ≡ moved place (effect_of (first_call o)) (standing_from 0 graphs) → AreShelved slots graphs → AreShelved slots now
shelved-first slots graphs now place o moves h = shelved-still slots graphs now place (first_call o) (still o) moves h
  where
    still : (o : Option ObjId) (f : ℕ → Option Stood) (m : ℕ) → moved place (effect_of (first_call o)) f m ≡ f m
    still None f m = refl
    still (Some id) f m = refl

pub shelved-none-popped : (slots : Slotted) (graphs now : List NamedGraph) (place : ℕ) (end : End) → standing_from 0 now ≡ moved place (effect_of (pop_call end None)) (standing_from 0 graphs) → AreShelved slots graphs → AreShelved slots now
shelved-none-popped slots graphs now place end moves h = shelved-still slots graphs now place (pop_call end None) (still end) moves h
  where
    still : (end : End) (f : ℕ → Option Stood) (m : ℕ) → moved place (effect_of (pop_call end None)) f m ≡ f m
    still end_.Front f m = refl
    still end_.Back f m = refl

-- all is kept, whether the first object was named or memory was out
pub shelved-first-or : {E : Type 0} (r : Result (ℕ × Option ObjId) E) (slots : Slotted) (graphs now : List NamedGraph) (place : ℕ) → IfOk r (λ (a : ℕ × Option ObjId). standing_from 0 now ≡ moved place (effect_of (first_call a.1)) (standing_from 0 graphs)) → OnErr r (now ≡ graphs) → AreShelved slots graphs → AreShelved slots now
shelved-first-or (Ok a) slots graphs now place moves err h = shelved-first slots graphs now place a.1 moves h
shelved-first-or (Err e) slots graphs now place moves err h = subst (AreShelved slots) (sym err) h

-- what stands somewhere lives
same-life : (life : ℕ) (w : Option ℕ) (s : Stood) → stands_as life w ≡ Some s → life ≡ s.life
same-life life None s e = cc
same-life life (Some p) s e = ap (λ (o : Option Stood). life-or o) e
  where
    life-or : Option Stood → ℕ
    life-or None = 0
    life-or (Some x) = x.life

pub stands-has : (slots : Slotted) (graphs : List NamedGraph) (n : ℕ) (s : Stood) → AreShelved slots graphs → standing_from 0 graphs n ≡ Some s → (l : Living) × HasLife (lives_of slots) n s.life l
stands-has slots graphs n s h e = of-object (object_at slots n) refl (h.stands n ∙ e)
  where
    of-object : (x : Option Object) → object_at slots n ≡ x → stands_in x ≡ Some s → (l : Living) × HasLife (lives_of slots) n s.life l
    of-object None f g = cc
    of-object (Some o) f g = (life_of_unit o.type_number o.count o.values o.unit, record { is = ap living_of f; life = same-life o.unit.life o.within s g })

pub some-has : (slots : Slotted) (graphs : List NamedGraph) (place : ℕ) (o : Option ObjId) → AreShelved slots graphs → IfSome o (λ id. standing_from 0 graphs id.unit ≡ Some (record { life = id.life; place = place })) → IfSome o (λ id. (l : Living) × HasLife (lives_of slots) id.unit id.life l)
some-has slots graphs place None h e = tt
some-has slots graphs place (Some id) h e = stands-has slots graphs id.unit (record { life = id.life; place = place }) h e

-- ---- what an object says is where it stands

pub stands-at : (slots : Slotted) (graphs : List NamedGraph) (n life : ℕ) (w : Option ℕ) → IsLiving slots n life → AreShelved slots graphs → place_within (object_at slots n) ≡ w → standing_from 0 graphs n ≡ stands_as life w
stands-at slots graphs n life w alive h e =
    let said : place_within (object_at slots n) ≡ alive.object.within = ap place_within alive.is in
    sym (h.stands n) ∙ (ap stands_in alive.is ∙ (ap (λ l. stands_as l alive.object.within) alive.now_is ∙ ap (stands_as life) (sym said ∙ e)))

-- ---- what a call does

pushed-id : (w : Way) (id : ObjId) (key : ℕ) → pushed_by (push_call w id key) ≡ Some id
pushed-id way.Front id key = refl
pushed-id way.Back id key = refl
pushed-id way.Ordered id key = refl

refused-id : (w : Way) (id : ObjId) (key owner : ℕ) → pushed_by (refused_push w id key owner) ≡ Some id
refused-id way.Front id key owner = refl
refused-id way.Back id key owner = refl
refused-id way.Ordered id key owner = refl

popped-id : (end : End) (o : Option ObjId) → pushed_by (pop_call end o) ≡ None
popped-id end_.Front None = refl
popped-id end_.Front (Some id) = refl
popped-id end_.Back None = refl
popped-id end_.Back (Some id) = refl

first-id : (o : Option ObjId) → pushed_by (first_call o) ≡ None
first-id None = refl
first-id (Some id) = refl

first-value : (values : List ℕ) → 0 < length values → slice_get values 0 ≡ Some (key_of values)
first-value [] h = absurd (omega (arith, h))
first-value (v ∷ vs) h = refl

put-keyed : (w : Way) (id : ObjId) (a : LivingState) → (w ≡ way.Ordered → 0 < length (values_of (object_at a.slots id.unit))) → IsKeyed (push_call w id (key_of (values_of (object_at a.slots id.unit)))) (fields_told a)
put-keyed way.Front id a h = tt
put-keyed way.Back id a h = tt
put-keyed way.Ordered id a h = first-value (values_of (object_at a.slots id.unit)) (h refl)

refused-keyed : (w : Way) (id : ObjId) (owner : ℕ) (a : LivingState) → (w ≡ way.Ordered → 0 < length (values_of (object_at a.slots id.unit))) → IsKeyed (refused_push w id (key_of (values_of (object_at a.slots id.unit))) owner) (fields_told a)
refused-keyed way.Front id owner a h = tt
refused-keyed way.Back id owner a h = tt
refused-keyed way.Ordered id owner a h = first-value (values_of (object_at a.slots id.unit)) (h refl)

popped-keyed : (end : End) (o : Option ObjId) (a : LivingState) → IsKeyed (pop_call end o) (fields_told a)
popped-keyed end_.Front None a = tt
popped-keyed end_.Front (Some id) a = tt
popped-keyed end_.Back None a = tt
popped-keyed end_.Back (Some id) a = tt

first-keyed : (o : Option ObjId) (a : LivingState) → IsKeyed (first_call o) (fields_told a)
first-keyed None a = tt
first-keyed (Some id) a = tt

-- units live the last life that they have begun
abbrev pub LivesLast : LivingState → Type 0
LivesLast a = (n : ℕ) (o : Object) → object_at a.slots n ≡ Some o → o.unit.life ≡ begun_at a.begun n

pub does-push : (name : List ℕ) (position place : ℕ) (w : Way) (id : ObjId) (within : Option ℕ) (tag : Tag) (a : LivingState) (key : ℕ) → key ≡ key_of (values_of (object_at a.slots id.unit)) → LivesLast a → (l : Living) → HasLife (lives_of a.slots) id.unit id.life l → (w ≡ way.Ordered → 0 < length (values_of (object_at a.slots id.unit))) → Calls (graph_names_in a.graphs) name position (push_call w id key) tag (shelf_of a.graphs) (shelf_of (graphs_after place (push_call w id key) tag a.graphs)) →
    LivingDoes (act.Calls name position (push_call w id key) tag ∷ []) a (record a { slots = slots_placed id.unit within a.slots; graphs = graphs_after place (push_call w id key) tag a.graphs })
does-push name position place w id within tag a key is last l has keyed called =
    let alive = is-living a.slots id.unit id.life l has in
    does-call name position (push_call w id key) tag a (slots_placed id.unit within a.slots) (graphs_after place (push_call w id key) tag a.graphs)
    (λ m. placed-life a.slots id.unit within m alive.within) (λ m. placed-values a.slots id.unit within m alive.within)
    (rw (pushed-id w id key) (put-alive (Some id) a last (l, has)))
    (rw is (put-keyed w id a keyed)) called (after-names place (push_call w id key) tag a.graphs)

pub does-refuse : (name : List ℕ) (position place : ℕ) (w : Way) (id : ObjId) (owner : ℕ) (tag : Tag) (a : LivingState) (key : ℕ) → key ≡ key_of (values_of (object_at a.slots id.unit)) → LivesLast a → (l : Living) → HasLife (lives_of a.slots) id.unit id.life l → (w ≡ way.Ordered → 0 < length (values_of (object_at a.slots id.unit))) → Calls (graph_names_in a.graphs) name position (refused_push w id key owner) tag (shelf_of a.graphs) (shelf_of (graphs_after place (refused_push w id key owner) tag a.graphs)) →
    LivingDoes (act.Calls name position (refused_push w id key owner) tag ∷ []) a (record a { graphs = graphs_after place (refused_push w id key owner) tag a.graphs })
does-refuse name position place w id owner tag a key is last l has keyed called =
    does-call name position (refused_push w id key owner) tag a a.slots (graphs_after place (refused_push w id key owner) tag a.graphs)
    (λ m. refl) (λ m. refl)
    (rw (refused-id w id key owner) (put-alive (Some id) a last (l, has)))
    (rw is (refused-keyed w id owner a keyed)) called (after-names place (refused_push w id key owner) tag a.graphs)

pub does-pop : (name : List ℕ) (position place : ℕ) (end : End) (id : ObjId) (tag : Tag) (a : LivingState) → id.unit < length a.slots → Calls (graph_names_in a.graphs) name position (pop_call end (Some id)) tag (shelf_of a.graphs) (shelf_of (graphs_after place (pop_call end (Some id)) tag a.graphs)) →
    LivingDoes (act.Calls name position (pop_call end (Some id)) tag ∷ []) a (record a { slots = slots_placed id.unit None a.slots; graphs = graphs_after place (pop_call end (Some id)) tag a.graphs })
does-pop name position place end id tag a lt called =
    does-call name position (pop_call end (Some id)) tag a (slots_placed id.unit None a.slots) (graphs_after place (pop_call end (Some id)) tag a.graphs)
    (λ m. placed-life a.slots id.unit None m lt) (λ m. placed-values a.slots id.unit None m lt)
    (rw (popped-id end (Some id)) tt) (popped-keyed end (Some id) a) called (after-names place (pop_call end (Some id)) tag a.graphs)

pub does-pop-none : (name : List ℕ) (position place : ℕ) (end : End) (tag : Tag) (a : LivingState) → Calls (graph_names_in a.graphs) name position (pop_call end None) tag (shelf_of a.graphs) (shelf_of (graphs_after place (pop_call end None) tag a.graphs)) →
    LivingDoes (act.Calls name position (pop_call end None) tag ∷ []) a (record a { graphs = graphs_after place (pop_call end None) tag a.graphs })
does-pop-none name position place end tag a called =
    does-call name position (pop_call end None) tag a a.slots (graphs_after place (pop_call end None) tag a.graphs)
    (λ m. refl) (λ m. refl) (rw (popped-id end None) tt) (popped-keyed end None a) called (after-names place (pop_call end None) tag a.graphs)

pub does-first : (name : List ℕ) (position place : ℕ) (o : Option ObjId) (tag : Tag) (a : LivingState) → Calls (graph_names_in a.graphs) name position (first_call o) tag (shelf_of a.graphs) (shelf_of (graphs_after place (first_call o) tag a.graphs)) →
    LivingDoes (act.Calls name position (first_call o) tag ∷ []) a (record a { graphs = graphs_after place (first_call o) tag a.graphs })
does-first name position place o tag a called =
    does-call name position (first_call o) tag a a.slots (graphs_after place (first_call o) tag a.graphs)
    (λ m. refl) (λ m. refl) (rw (first-id o) tt) (first-keyed o a) called (after-names place (first_call o) tag a.graphs)

pub does-remove : (name : List ℕ) (position place : ℕ) (id : ObjId) (tag : Tag) (a : LivingState) → id.unit < length a.slots → Calls (graph_names_in a.graphs) name position (past.Remove id) tag (shelf_of a.graphs) (shelf_of (graphs_after place (past.Remove id) tag a.graphs)) →
    LivingDoes (act.Calls name position (past.Remove id) tag ∷ []) a (record a { slots = slots_placed id.unit None a.slots; graphs = graphs_after place (past.Remove id) tag a.graphs })
does-remove name position place id tag a lt called =
    does-call name position (past.Remove id) tag a (slots_placed id.unit None a.slots) (graphs_after place (past.Remove id) tag a.graphs)
    (λ m. placed-life a.slots id.unit None m lt) (λ m. placed-values a.slots id.unit None m lt) tt tt called (after-names place (past.Remove id) tag a.graphs)

-- what isn't some is none
pub none-left : {A : Type 0} (o : Option A) → ((x : A) → o ≡ Some x → ⊥) → o ≡ None
none-left None h = refl
none-left (Some x) h = absurd (h x refl)
