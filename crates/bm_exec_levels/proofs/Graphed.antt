-- What names hold, as objects are put into lists and trees and taken out.
use Rattle.std.proofs.Common.{◌≡◌, ◌≢◌, ◌⊎◌, ◌∙◌, ◌<◌, ◌≤◌, ◌+◌, ◌-◌, ℕ, zero, suc, Bool, true, false, List, [], ◌∷◌, Option, Some, None, ap, ap₂, arith, eq-eqb, inl, inr, length, refl, slice_get, subst, sym}
use Rattle.std.specs.Prelude.{IfSome, eqb, get_or, if◌then◌else◌, map}
use Rattle.std.proofs.lemmas.Bool.{ne_eqb}
use Rattle.std.proofs.lemmas.Bool.Decides.{eqb_tells}
use mathlib.Core.Path.{fun_ext}
use Rattle.bm_journal.specs.declared.ids.ObjId.{ObjId}
use Rattle.bm_journal.specs.declared.ids.Tag.{Tag}
use Rattle.bm_journal.specs.declared.past.PastCall.{PastCall}
use Rattle.bm_lang.specs.declared.scenario.MapDeclaration.{MapDeclaration}
use Rattle.bm_lang.specs.declared.scenario.TypeDeclaration.{TypeDeclaration}
use Rattle.bm_graph.specs.Calls.{first_call}
use Rattle.bm_graph.specs.Ways.{pop_call, push_call, refused_push}
use Rattle.bm_graph.specs.declared.ways.End.{End}
use Rattle.bm_graph.specs.declared.ways.End.TheVariants as end_is
use Rattle.bm_graph.specs.declared.ways.Way.{Way}
use Rattle.bm_graph.specs.declared.ways.Way.TheVariants as way_is
use Rattle.bm_law_order.specs.Graphs.{Effect, EffectFits, Looks, NamedGraph, Puts, Refuses, Standing, Takes, effect_of, graph_after, graph_at, graph_names_in, graphs_after, moved, standing_from}
use Rattle.bm_law_scenario.specs.Calls.{IsCounted}
use Rattle.bm_law_scenario.specs.Declared.{Declared, graph_kind}
use Rattle.bm_grace.specs.Known.{Known, Living, Lives, Objects}
use Rattle.bm_page.specs.UnitState.{UnitState}
use Rattle.bm_world.specs.Lives.{life_begun, life_ended, recounted, with_life, with_references}
use Rattle.bm_graph.specs.Entries.{call_entry}
use Rattle.bm_journal.specs.declared.past.PastCall.TheVariants as past
use Rattle.bm_exec.specs.Guarded.{Guarded, IsShelved, Shelved, shelved_at, without_shelved}
use Rattle.bm_exec_levels.specs.AtPolls.{OwnerIs}
use Rattle.bm_exec_levels.specs.Calling.{is_object_call}
use Rattle.bm_exec.specs.Living.{IsMade, IsToPut, TakesOut, count_in, type_in, without}
use Rattle.bm_exec_levels.specs.Slotted.{AreKinds, AreStocked, AreUnused, IsItem, IsKept, as_item, elsewhere, in_hands, is_of, item_of, items_in, less_times, times_held}
use Rattle.bm_exec_levels.proofs.Stocked.{Handed, IsThere, handed, hands-moved, kept-moved, last-out, no-item, no-slot, put-there}

-- ---- names and kinds stay

pub graph-names : (place : ℕ) (call : PastCall) (tag : Tag) (gs : List NamedGraph) → graph_names_in (graphs_after place call tag gs) ≡ graph_names_in gs
graph-names place call tag [] = refl
graph-names zero call tag (g ∷ gs) = refl
graph-names (suc place) call tag (g ∷ gs) = ap (λ (ns : List (List ℕ)). g.name ∷ ns) (graph-names place call tag gs)

pub graph-kinds : (place : ℕ) (call : PastCall) (tag : Tag) (gs : List NamedGraph) (at : ℕ) → (graph_at at (graphs_after place call tag gs)).is_tree ≡ (graph_at at gs).is_tree
graph-kinds place call tag [] at = refl
graph-kinds zero call tag (g ∷ gs) zero = refl
graph-kinds zero call tag (g ∷ gs) (suc at) = refl
graph-kinds (suc place) call tag (g ∷ gs) zero = refl
graph-kinds (suc place) call tag (g ∷ gs) (suc at) = graph-kinds place call tag gs at

-- those at other places stay as they are
pub other-graph : (place at : ℕ) (call : PastCall) (tag : Tag) (gs : List NamedGraph) → at ≢ place → graph_at at (graphs_after place call tag gs) ≡ graph_at at gs
other-graph place at call tag [] n = refl
other-graph zero zero call tag (g ∷ gs) n = absurd (n refl)
other-graph zero (suc at) call tag (g ∷ gs) n = refl
other-graph (suc place) zero call tag (g ∷ gs) n = refl
other-graph (suc place) (suc at) call tag (g ∷ gs) n = other-graph place at call tag gs (λ q. n (ap suc q))

-- other lists and trees, with the same objects alive
abbrev pub graphed : List NamedGraph → Objects → Objects
graphed gs o = record o { graphs = gs }

abbrev bit-of : (u : ℕ) → Option ObjId → ℕ
bit-of u o = if is_of u o then 1 else 0

-- What an effect puts in, and what it takes out.
abbrev pub put_by : Effect → Option ObjId
put_by (Puts id) = Some id
put_by _ = None

abbrev pub taken_by : Effect → Option ObjId
taken_by (Takes id) = Some id
taken_by _ = None

-- It puts in what was in none, and takes out what was in this one.
abbrev pub Suits : (place : ℕ) → Effect → (ℕ → Option Standing) → Type 0
Suits place (Puts id) within = within id.unit ≡ None
Suits place (Takes id) within = within id.unit ≡ Some (record { life = id.life; place = place })
Suits place _ within = Unit {0}

module _ (d : Declared) (o : Objects) (gs : List NamedGraph) (a : AreStocked d o) (place : ℕ) (m : MapDeclaration) (found : slice_get d.maps place ≡ Some m) (e : Effect) (within : standing_from 0 gs ≡ moved place e (standing_from 0 o.graphs)) (suits : Suits place e (standing_from 0 o.graphs)) (held : IsToPut m.type_id.0 (in_hands o) (put_by e)) where
  now-at : (v : ℕ) → standing_from 0 gs v ≡ moved place e (standing_from 0 o.graphs) v
  now-at v = ap (λ (f : ℕ → Option Standing). f v) within

  apart : (x v : ℕ) → (v ≡ x → ⊥) → eqb x v ≡ false
  apart x v n = ne_eqb x v (λ q. n (sym q))

  -- what an effect makes of one object's place
  items-total : (f : Effect) → Suits place f (standing_from 0 o.graphs) → (v : ℕ) → as_item (moved place f (standing_from 0 o.graphs) v) + bit-of v (taken_by f) ≡ as_item (standing_from 0 o.graphs v) + bit-of v (put_by f)
  items-total (Puts id) s v = elim (eqb_tells v id.unit) [
    | inl z ↦
        let none : as_item (standing_from 0 o.graphs v) ≡ 0 = ap as_item (ap (standing_from 0 o.graphs) z.1 ∙ s) in
        let one : eqb id.unit v ≡ true = eq-eqb id.unit v (sym z.1) in
        rw (z.0, one) (omega (arith, none))
    | inr z ↦ rw (z.0, apart id.unit v z.1) refl
  ]
  items-total (Takes id) s v = elim (eqb_tells v id.unit) [
    | inl z ↦
        let some : as_item (standing_from 0 o.graphs v) ≡ 1 = ap as_item (ap (standing_from 0 o.graphs) z.1 ∙ s) in
        let one : eqb id.unit v ≡ true = eq-eqb id.unit v (sym z.1) in
        rw (z.0, one) (omega (arith, some))
    | inr z ↦ rw (z.0, apart id.unit v z.1) refl
  ]
  items-total _ s v = refl

  total : (v : ℕ) → elsewhere (graphed gs o) v + bit-of v (taken_by e) ≡ elsewhere o v + bit-of v (put_by e)
  total v =
      let items = items-total e suits v in
      let here : as_item (standing_from 0 gs v) ≡ as_item (moved place e (standing_from 0 o.graphs) v) = ap as_item (now-at v) in
      omega (arith, items, here)

  there : (f : Effect) → Suits place f (standing_from 0 o.graphs) → IsThere m.type_id.0 o.lives (taken_by f)
  there (Takes id) s =
      let i = a.items id.unit (record { life = id.life; place = place }) s in
      let q : Some i.graph ≡ Some m = sym i.found ∙ found in
      let same : i.graph ≡ m = cc in
      (i.object, i.lives_so, i.life_is, i.type_is ∙ ap (λ (x : MapDeclaration). x.type_id.0) same)
  there _ s = tt

  -- what names hold then
  pub hands-graphed : TakesOut d.types m.type_id.0 (without (put_by e) (in_hands o)) (in_hands (graphed gs o)) (taken_by e)
  hands-graphed = hands-moved d o (graphed gs o) a refl m.type_id.0 (put_by e) (taken_by e) total held (there e suits)

  -- what is in lists and trees then
  item-now : (f : Effect) → IsToPut m.type_id.0 (in_hands o) (put_by f) → (u : ℕ) (s : Standing) → moved place f (standing_from 0 o.graphs) u ≡ Some s → IsItem d.maps o.lives u s
  item-now (Puts id) h u s q = elim (eqb_tells u id.unit) [
    | inl z ↦
        let g = put-there d o m.type_id.0 id a h in
        let same : (let x : Standing = record { life = id.life; place = place } in x) ≡ s = (let r : Some (let x : Standing = record { life = id.life; place = place } in x) ≡ Some s = rw z.0 at q in cc) in
        subst (λ (x : Standing). IsItem d.maps o.lives u x) same
        (record { graph = m; found = found; object = g.0; lives_so = subst (λ k. o.lives k ≡ Some g.0) (sym z.1) g.1; life_is = g.2; type_is = g.3 })
    | inr z ↦ a.items u s (rw z.0 at q)
  ]
  item-now (Takes id) h u s q = elim (eqb_tells u id.unit) [
    | inl z ↦ absurd (let r : None ≡ Some s = rw z.0 at q in cc)
    | inr z ↦ a.items u s (rw z.0 at q)
  ]
  item-now _ h u s q = a.items u s q

  pub stocked-graphed : graph_names_in gs ≡ graph_names_in o.graphs → ((at : ℕ) → (graph_at at gs).is_tree ≡ (graph_at at o.graphs).is_tree) → AreUnused d.maps gs → AreStocked d (graphed gs o)
  stocked-graphed names kinds unused = record {
    names = a.names;
    graphs = names ∙ a.graphs;
    kinds = λ at x t f k. kinds at ∙ a.kinds at x t f k;
    unused = unused;
    still = a.still;
    kept = kept-moved d o (graphed gs o) a refl m.type_id.0 (put_by e) (taken_by e) total held (there e suits);
    stocked = a.stocked;
    items = λ u s q. item-now e held u s (sym (now-at u) ∙ q);
  }

-- a declared list or tree is there, with its name
named-graph : (place : ℕ) (gs : List NamedGraph) (maps : List MapDeclaration) (m : MapDeclaration) → graph_names_in gs ≡ map (λ (x : MapDeclaration). x.name) maps → slice_get maps place ≡ Some m → (place < length gs) × ((graph_at place gs).name ≡ m.name)
named-graph place gs [] m e f = cc
named-graph place [] (x ∷ xs) m e f = cc
named-graph zero (g ∷ gs) (x ∷ xs) m e f = (let same : x ≡ m = cc in let first : g.name ≡ x.name = cc in (omega arith, first ∙ ap (λ (y : MapDeclaration). y.name) same))
named-graph (suc place) (g ∷ gs) (x ∷ xs) m e f = (let rest : graph_names_in gs ≡ map (λ (y : MapDeclaration). y.name) xs = cc in let h = named-graph place gs xs m rest f in let lt = h.0 in (omega (arith, lt), h.1))

pub graph-there : (d : Declared) (o : Objects) (place : ℕ) (m : MapDeclaration) → AreStocked d o → slice_get d.maps place ≡ Some m → place < length o.graphs
graph-there d o place m a f = (named-graph place o.graphs d.maps m a.graphs f).0

pub graph-name : (d : Declared) (o : Objects) (place : ℕ) (m : MapDeclaration) → AreStocked d o → slice_get d.maps place ≡ Some m → (graph_at place o.graphs).name ≡ m.name
graph-name d o place m a f = (named-graph place o.graphs d.maps m a.graphs f).1

-- A call on the list or tree at a place: what it does to its object fits where that stands before, and is done.
pub record HasMoved (place : ℕ) (call : PastCall) (before now : List NamedGraph) : Type 0 where
  pub fits : EffectFits place (effect_of call) (standing_from 0 before)
  pub within : standing_from 0 now ≡ moved place (effect_of call) (standing_from 0 before)

-- what a call does fits where its object stands, so it suits it
fits-suit : (place : ℕ) (e : Effect) (within : ℕ → Option Standing) → EffectFits place e within → Suits place e within
fits-suit place (Puts id) within h = h
fits-suit place (Takes id) within h = h
fits-suit place (Refuses id owner) within h = tt
fits-suit place Looks within h = tt

-- the places of slots stay unused, where a list or tree is called
unused-called : (maps : List MapDeclaration) (graphs : List NamedGraph) (place : ℕ) (m : MapDeclaration) (is_tree : Bool) (call : PastCall) (tag : Tag) → slice_get maps place ≡ Some m → m.kind ≡ graph_kind is_tree → AreUnused maps graphs → AreUnused maps (graphs_after place call tag graphs)
unused-called maps graphs place m is_tree call tag found kind unused at x f k = elim (eqb_tells at place) [
  | inl z ↦
      let q : Some x ≡ Some m = sym f ∙ (ap (slice_get maps) z.1 ∙ found) in
      let same : x ≡ m = cc in
      absurd (no-slot is_tree x.kind (ap (λ (y : MapDeclaration). y.kind) same ∙ kind) k)
  | inr z ↦ subst (λ (g : NamedGraph). (g.history ≡ []) × (g.nodes ≡ [])) (sym (other-graph place at call tag graphs z.1)) (unused at x f k)
]

pub stocked-called : (d : Declared) (o : Objects) (place : ℕ) (m : MapDeclaration) (is_tree : Bool) (call : PastCall) (tag : Tag) → AreStocked d o → slice_get d.maps place ≡ Some m → m.kind ≡ graph_kind is_tree → HasMoved place call o.graphs (graphs_after place call tag o.graphs) → IsToPut m.type_id.0 (in_hands o) (put_by (effect_of call)) → AreStocked d (graphed (graphs_after place call tag o.graphs) o)
stocked-called d o place m is_tree call tag a found kind h held =
    stocked-graphed d o (graphs_after place call tag o.graphs) a place m found (effect_of call) h.within (fits-suit place (effect_of call) (standing_from 0 o.graphs) h.fits) held (graph-names place call tag o.graphs) (graph-kinds place call tag o.graphs) (unused-called d.maps o.graphs place m is_tree call tag found kind a.unused)

pub hands-called : (d : Declared) (o : Objects) (place : ℕ) (m : MapDeclaration) (call : PastCall) (tag : Tag) → AreStocked d o → slice_get d.maps place ≡ Some m → HasMoved place call o.graphs (graphs_after place call tag o.graphs) → IsToPut m.type_id.0 (in_hands o) (put_by (effect_of call)) → TakesOut d.types m.type_id.0 (without (put_by (effect_of call)) (in_hands o)) (in_hands (graphed (graphs_after place call tag o.graphs) o)) (taken_by (effect_of call))
hands-called d o place m call tag a found h held =
    hands-graphed d o (graphs_after place call tag o.graphs) a place m found (effect_of call) h.within (fits-suit place (effect_of call) (standing_from 0 o.graphs) h.fits) held

-- ---- what calls put in and take out

pub put-pushed : (way : Way) (id : ObjId) (key : ℕ) → put_by (effect_of (push_call way id key)) ≡ Some id
put-pushed way_is.Front id key = refl
put-pushed way_is.Back id key = refl
put-pushed way_is.Ordered id key = refl

pub put-refused : (way : Way) (id : ObjId) (key owner : ℕ) → put_by (effect_of (refused_push way id key owner)) ≡ None
put-refused way_is.Front id key owner = refl
put-refused way_is.Back id key owner = refl
put-refused way_is.Ordered id key owner = refl

pub taken-pushed : (way : Way) (id : ObjId) (key : ℕ) → taken_by (effect_of (push_call way id key)) ≡ None
taken-pushed way_is.Front id key = refl
taken-pushed way_is.Back id key = refl
taken-pushed way_is.Ordered id key = refl

pub taken-refused : (way : Way) (id : ObjId) (key owner : ℕ) → taken_by (effect_of (refused_push way id key owner)) ≡ None
taken-refused way_is.Front id key owner = refl
taken-refused way_is.Back id key owner = refl
taken-refused way_is.Ordered id key owner = refl

pub put-popped : (end : End) (item : Option ObjId) → put_by (effect_of (pop_call end item)) ≡ None
put-popped end_is.Front None = refl
put-popped end_is.Front (Some id) = refl
put-popped end_is.Back None = refl
put-popped end_is.Back (Some id) = refl

pub taken-popped : (end : End) (item : Option ObjId) → taken_by (effect_of (pop_call end item)) ≡ item
taken-popped end_is.Front None = refl
taken-popped end_is.Front (Some id) = refl
taken-popped end_is.Back None = refl
taken-popped end_is.Back (Some id) = refl

pub looks-first : (item : Option ObjId) → effect_of (first_call item) ≡ Looks
looks-first None = refl
looks-first (Some id) = refl

pub effect-pushed : (way : Way) (id : ObjId) (key : ℕ) → effect_of (push_call way id key) ≡ Puts id
effect-pushed way_is.Front id key = refl
effect-pushed way_is.Back id key = refl
effect-pushed way_is.Ordered id key = refl

pub effect-refused : (way : Way) (id : ObjId) (key owner : ℕ) → effect_of (refused_push way id key owner) ≡ Refuses id owner
effect-refused way_is.Front id key owner = refl
effect-refused way_is.Back id key owner = refl
effect-refused way_is.Ordered id key owner = refl

-- .. and where the object has to stand for that
pub fits-popped : (place : ℕ) (end : End) (item : Option ObjId) (within : ℕ → Option Standing) → IfSome item (λ id. within id.unit ≡ Some (record { life = id.life; place = place })) → EffectFits place (effect_of (pop_call end item)) within
fits-popped place end_is.Front None within h = tt
fits-popped place end_is.Front (Some id) within h = h
fits-popped place end_is.Back None within h = tt
fits-popped place end_is.Back (Some id) within h = h

-- what a call that takes nothing to put needs of it
pub none-held : (t : ℕ) (lives : Lives) (put : Option ObjId) → put ≡ None → IsToPut t lives put
none-held t lives put e = subst (IsToPut t lives) (sym e) tt

pub owns-pushed : (names : List (List ℕ)) (way : Way) (id : ObjId) (key : ℕ) (owner : List ℕ) → OwnerIs names (effect_of (push_call way id key)) owner
owns-pushed names way id key owner = subst (λ (e : Effect). OwnerIs names e owner) (sym (effect-pushed way id key)) tt

pub owns-refused : (names : List (List ℕ)) (way : Way) (id : ObjId) (key place : ℕ) (owner : List ℕ) → slice_get names place ≡ Some owner → OwnerIs names (effect_of (refused_push way id key place)) owner
owns-refused names way id key place owner h = subst (λ (e : Effect). OwnerIs names e owner) (sym (effect-refused way id key place)) h

pub owns-popped : (names : List (List ℕ)) (end : End) (item : Option ObjId) (owner : List ℕ) → OwnerIs names (effect_of (pop_call end item)) owner
owns-popped names end_is.Front None owner = tt
owns-popped names end_is.Front (Some id) owner = tt
owns-popped names end_is.Back None owner = tt
owns-popped names end_is.Back (Some id) owner = tt

pub owns-first : (names : List (List ℕ)) (item : Option ObjId) (owner : List ℕ) → OwnerIs names (effect_of (first_call item)) owner
owns-first names item owner = subst (λ (e : Effect). OwnerIs names e owner) (sym (looks-first item)) tt

-- each of them is a call
pub graph-call : (name : List ℕ) (position : ℕ) (owner : List ℕ) (call : PastCall) → is_object_call (call_entry name position owner call) ≡ true
graph-call name position owner (past.PushFront id) = refl
graph-call name position owner (past.PushBack id) = refl
graph-call name position owner (past.Add id key) = refl
graph-call name position owner (past.PushFrontAlready id place) = refl
graph-call name position owner (past.PushBackAlready id place) = refl
graph-call name position owner (past.AddAlready id key place) = refl
graph-call name position owner (past.PopFront id) = refl
graph-call name position owner past.PopFrontNone = refl
graph-call name position owner (past.PopBack id) = refl
graph-call name position owner past.PopBackNone = refl
graph-call name position owner (past.First id) = refl
graph-call name position owner past.FirstNone = refl
graph-call name position owner (past.Remove id) = refl

-- a log names no key
pub no-key : (name : List ℕ) (position : ℕ) (owner : List ℕ) (way : Way) (id : ObjId) (key : ℕ) → call_entry name position owner (push_call way id key) ≡ call_entry name position owner (push_call way id 0)
no-key name position owner way_is.Front id key = refl
no-key name position owner way_is.Back id key = refl
no-key name position owner way_is.Ordered id key = refl

pub no-key-refused : (name : List ℕ) (position : ℕ) (owner : List ℕ) (way : Way) (id : ObjId) (key place : ℕ) → call_entry name position owner (refused_push way id key place) ≡ call_entry name position owner (refused_push way id 0 place)
no-key-refused name position owner way_is.Front id key place = refl
no-key-refused name position owner way_is.Back id key place = refl
no-key-refused name position owner way_is.Ordered id key place = refl

below : {A : Type 0} (xs : List A) (n : ℕ) (x : A) → slice_get xs n ≡ Some x → n < length xs
below [] n x f = absurd (cc)
below (y ∷ ys) zero x f = omega arith
below (y ∷ ys) (suc n) x f = (let h = below ys n x f in omega (arith, h))

-- what is read at an index
pub read-at : {A : Type 0} (xs : List A) (n : ℕ) (x y : A) → x ≡ get_or xs n x → slice_get xs n ≡ Some y → x ≡ y
read-at [] n x y e f = absurd (cc)
read-at (z ∷ zs) zero x y e f = (let same : z ≡ y = cc in e ∙ same)
read-at (z ∷ zs) (suc n) x y e f = read-at zs n x y e f

-- ---- what is known of an object that stands in a list or tree

-- the declared list or tree that has it
pub owner-there : (d : Declared) (o : Objects) (u : ℕ) (s : Standing) → AreStocked d o → standing_from 0 o.graphs u ≡ Some s → s.place < length d.maps
owner-there d o u s a e = (let i = a.items u s e in below d.maps s.place i.graph i.found)

named-at : (maps : List MapDeclaration) (place : ℕ) (m : MapDeclaration) → slice_get maps place ≡ Some m → slice_get (map (λ (x : MapDeclaration). x.name) maps) place ≡ Some m.name
named-at [] place m f = absurd (cc)
named-at (x ∷ xs) zero m f = (let same : x ≡ m = cc in ap (λ (y : MapDeclaration). Some y.name) same)
named-at (x ∷ xs) (suc place) m f = named-at xs place m f

pub owner-named : (d : Declared) (o : Objects) (place : ℕ) (m : MapDeclaration) → AreStocked d o → slice_get d.maps place ≡ Some m → slice_get (graph_names_in o.graphs) place ≡ Some m.name
owner-named d o place m a f = subst (λ (ns : List (List ℕ)). slice_get ns place ≡ Some m.name) (sym a.graphs) (named-at d.maps place m f)

-- it is in it, as an object of the type of that
pub shelved-there : (d : Declared) (o : Objects) (place : ℕ) (m : MapDeclaration) (id : ObjId) (lock : Option ℕ) → AreStocked d o → slice_get d.maps place ≡ Some m → standing_from 0 o.graphs id.unit ≡ Some (record { life = id.life; place = place }) → IsShelved d.types m.type_id.0 place (record { lock = lock; within = items_in o }) id.unit id.life
shelved-there d o place m id lock a found stands =
    let i = a.items id.unit (record { life = id.life; place = place }) stands in
    let l = i.object in
    let same : i.graph ≡ m = (let q : Some i.graph ≡ Some m = sym i.found ∙ found in cc) in
    let type : l.type ≡ m.type_id.0 = i.type_is ∙ ap (λ (x : MapDeclaration). x.type_id.0) same in
    let k = a.kept id.unit l i.lives_so in
    record {
      shelved = record { place = place; class = l.class; life = l.life; type = l.type; values = l.values };
      found = ap (λ s. item_of s (o.lives id.unit)) stands ∙ ap (shelved_at place) i.lives_so;
      place_is = refl;
      life_is = i.life_is;
      type_is = type;
      made = subst (λ t. IsMade d.types l.class t l.values) type k.made;
    }

-- and what is in it stands there
item-split : (s : Option Standing) (l : Option Living) (x : Shelved) → item_of s l ≡ Some x → (w : Standing) × (s ≡ Some w) × (w.place ≡ x.place)
item-split None l x e = absurd (cc)
item-split (Some w) None x e = absurd (cc)
item-split (Some w) (Some l) x e = (w, refl, (let q : Some (let y : Shelved = record { place = w.place; class = l.class; life = l.life; type = l.type; values = l.values } in y) ≡ Some x = e in let r : (let y : Shelved = record { place = w.place; class = l.class; life = l.life; type = l.type; values = l.values } in y) ≡ x = cc in ap (λ (y : Shelved). y.place) r))

pub stands-there : (d : Declared) (o : Objects) (place t u n : ℕ) (lock : Option ℕ) → AreStocked d o → IsShelved d.types t place (record { lock = lock; within = items_in o }) u n → standing_from 0 o.graphs u ≡ Some (record { life = n; place = place })
stands-there d o place t u n lock a h =
    let z = item-split (standing_from 0 o.graphs u) (o.lives u) h.shelved h.found in
    let i = a.items u z.0 z.1 in
    let at : z.0.place ≡ place = z.2 ∙ h.place_is in
    let seen : item_of (Some z.0) (Some i.object) ≡ Some h.shelved = sym (ap₂ item_of z.1 i.lives_so) ∙ h.found in
    let life : i.object.life ≡ h.shelved.life = (let y : Shelved = record { place = z.0.place; class = i.object.class; life = i.object.life; type = i.object.type; values = i.object.values } in let q : Some y ≡ Some h.shelved = seen in let r : y ≡ h.shelved = cc in ap (λ (x : Shelved). x.life) r) in
    z.1 ∙ ap₂ (λ (a b : ℕ). Some (let w : Standing = record { life = a; place = b } in w)) (sym i.life_is ∙ (life ∙ h.life_is)) at

-- an object that a name holds and that is in a list or tree has two references, so its type carries a count of them
pub refused-counted : (d : Declared) (o : Objects) (u : ℕ) (h : Living) (s : Standing) → AreStocked d o → in_hands o u ≡ Some h → standing_from 0 o.graphs u ≡ Some s → IsCounted d.types (type_in (in_hands o u))
refused-counted d o u h s a e stands =
    let typed : type_in (in_hands o u) ≡ g.object.type = ap type_in e ∙ ap (λ (x : Living). x.type) g.is in
    subst (IsCounted d.types) (sym typed) (record { declared = kept.made.declared; found = kept.made.of_class.found; counted = by kept.made.declared.counted refl })
  where
    g : Handed o u h
    g = handed d o a u h e

    kept : IsKept d.types (elsewhere o u) g.object
    kept = a.kept u g.object g.lives_so

    by : (b : Bool) → kept.made.declared.counted ≡ b → kept.made.declared.counted ≡ true
    by true q = q
    by false q =
        let one = kept.single q in
        let item : as_item (standing_from 0 o.graphs u) ≡ 1 = ap as_item stands in
        let below = g.below in
        absurd (omega (arith, one, item, below))

-- ---- what is in lists and trees, where other calls are made

recounted-item : (s : Option Standing) (count : ℕ) (l : Option Living) → item_of s (with_references count l) ≡ item_of s l
recounted-item None count l = refl
recounted-item (Some s) count None = refl
recounted-item (Some s) count (Some l) = refl

-- another life of a unit that is in none
items-aside : (o : Objects) (n : ℕ) (x : Option Living) → standing_from 0 o.graphs n ≡ None → (λ v. item_of (standing_from 0 o.graphs v) (with_life n x o.lives v)) ≡ items_in o
items-aside o n x none = fun_ext at
  where
    at : (v : ℕ) → item_of (standing_from 0 o.graphs v) (with_life n x o.lives v) ≡ items_in o v
    at v = elim (eqb_tells n v) [
      | inl z ↦
          let here : standing_from 0 o.graphs v ≡ None = ap (standing_from 0 o.graphs) (sym z.1) ∙ none in
          ap (λ s. item_of s (with_life n x o.lives v)) here ∙ sym (ap (λ s. item_of s (o.lives v)) here)
      | inr z ↦ rw z.0 refl
    ]

pub items-begun : (d : Declared) (k : Known) (type : ℕ) (values : List ℕ) (u : UnitState) → AreStocked d k.objects → k.objects.lives u.number ≡ None → items_in (life_begun type values u k).objects ≡ items_in k.objects
items-begun d k type values u a none = items-aside k.objects u.number _ (no-item d k.objects a u.number none)

pub items-ended : (d : Declared) (k : Known) (n : ℕ) (h : Living) → AreStocked d k.objects → in_hands k.objects n ≡ Some h → count_in (k.objects.lives n) ≡ 1 → items_in (life_ended n k).objects ≡ items_in k.objects
items-ended d k n h a e only = items-aside k.objects n None (last-out d k n h a e only)

pub items-counted : (o : Objects) (n count asked : ℕ) → items_in (record o { lives = recounted n count o.lives; asked = asked }) ≡ items_in o
items-counted o n count asked = fun_ext at
  where
    at : (v : ℕ) → items_in (record o { lives = recounted n count o.lives; asked = asked }) v ≡ items_in o v
    at v = elim (eqb_tells n v) [
      | inl z ↦ rw z.0 (recounted-item (standing_from 0 o.graphs v) count (o.lives n) ∙ ap (λ k. item_of (standing_from 0 o.graphs v) (o.lives k)) z.1)
      | inr z ↦ rw z.0 refl
    ]

-- ---- what is in them, once one was called

module _ (o : Objects) (gs : List NamedGraph) (place : ℕ) where
  -- an object was put in
  pub items-put : (id : ObjId) (l h : Living) → standing_from 0 gs ≡ moved place (Puts id) (standing_from 0 o.graphs) → o.lives id.unit ≡ Some l → in_hands o id.unit ≡ Some h → shelved_at place (Some h) ≡ shelved_at place (Some l) → items_in (graphed gs o) ≡ (λ v. if eqb id.unit v then shelved_at place (in_hands o id.unit) else items_in o v)
  items-put id l h within alive held same = fun_ext at
    where
      at : (v : ℕ) → item_of (standing_from 0 gs v) (o.lives v) ≡ (if eqb id.unit v then shelved_at place (in_hands o id.unit) else items_in o v)
      at v = elim (eqb_tells v id.unit) [
        | inl z ↦
            let here : standing_from 0 gs v ≡ Some (record { life = id.life; place = place }) = ap (λ (f : ℕ → Option Standing). f v) within ∙ rw z.0 refl in
            let lives : o.lives v ≡ Some l = ap o.lives z.1 ∙ alive in
            let one : eqb id.unit v ≡ true = eq-eqb id.unit v (sym z.1) in
            rw one (ap (λ s. item_of s (o.lives v)) here ∙ (ap (shelved_at place) lives ∙ (sym same ∙ ap (shelved_at place) (sym held))))
        | inr z ↦
            let here : standing_from 0 gs v ≡ standing_from 0 o.graphs v = ap (λ (f : ℕ → Option Standing). f v) within ∙ rw z.0 refl in
            let none : eqb id.unit v ≡ false = ne_eqb id.unit v (λ q. z.1 (sym q)) in
            rw none (ap (λ s. item_of s (o.lives v)) here)
      ]

  -- or taken out
  pub items-taken : (id : ObjId) → standing_from 0 gs ≡ moved place (Takes id) (standing_from 0 o.graphs) → items_in (graphed gs o) ≡ (λ v. if eqb id.unit v then None else items_in o v)
  items-taken id within = fun_ext at
    where
      at : (v : ℕ) → item_of (standing_from 0 gs v) (o.lives v) ≡ (if eqb id.unit v then None else items_in o v)
      at v = elim (eqb_tells v id.unit) [
        | inl z ↦
            let here : standing_from 0 gs v ≡ None = ap (λ (f : ℕ → Option Standing). f v) within ∙ rw z.0 refl in
            let one : eqb id.unit v ≡ true = eq-eqb id.unit v (sym z.1) in
            rw one (ap (λ s. item_of s (o.lives v)) here)
        | inr z ↦
            let here : standing_from 0 gs v ≡ standing_from 0 o.graphs v = ap (λ (f : ℕ → Option Standing). f v) within ∙ rw z.0 refl in
            let none : eqb id.unit v ≡ false = ne_eqb id.unit v (λ q. z.1 (sym q)) in
            rw none (ap (λ s. item_of s (o.lives v)) here)
      ]

  -- or nothing was done to one
  pub items-kept : standing_from 0 gs ≡ standing_from 0 o.graphs → items_in (graphed gs o) ≡ items_in o
  items-kept within = ap (λ (f : ℕ → Option Standing). λ v. item_of (f v) (o.lives v)) within

  -- an end of a list was popped
  pub items-popped : (end : End) (item : Option ObjId) (lock : Option ℕ) → standing_from 0 gs ≡ moved place (effect_of (pop_call end item)) (standing_from 0 o.graphs) → (let g : Guarded = record { lock = lock; within = items_in (graphed gs o) } in g) ≡ without_shelved item (record { lock = lock; within = items_in o })
  items-popped end_is.Front None lock w = ap (λ (f : ℕ → Option Shelved). let g : Guarded = record { lock = lock; within = f } in g) (items-kept w)
  items-popped end_is.Front (Some id) lock w = ap (λ (f : ℕ → Option Shelved). let g : Guarded = record { lock = lock; within = f } in g) (items-taken id w)
  items-popped end_is.Back None lock w = ap (λ (f : ℕ → Option Shelved). let g : Guarded = record { lock = lock; within = f } in g) (items-kept w)
  items-popped end_is.Back (Some id) lock w = ap (λ (f : ℕ → Option Shelved). let g : Guarded = record { lock = lock; within = f } in g) (items-taken id w)

  -- names hold what they held, where nothing moves
  pub hands-kept : standing_from 0 gs ≡ standing_from 0 o.graphs → in_hands (graphed gs o) ≡ in_hands o
  hands-kept within = ap (λ (s : ℕ → Option Standing). λ u. less_times (times_held u o.slots + as_item (s u)) (o.lives u)) within
