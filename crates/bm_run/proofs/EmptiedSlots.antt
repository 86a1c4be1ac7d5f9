-- Once the maps were emptied their slots hold nothing, so that names hold all references.
use Rattle.std.proofs.Common.{◌≡◌, ◌∙◌, ◌<◌, ◌≤◌, ℕ, zero, suc, Bool, true, false, List, [], ◌∷◌, ◌++◌, None, Some, ap, arith, inl, inr, length, map, refl, slice_get, subst, sym}
use Rattle.std.specs.Prelude.{if◌then◌else◌}
use Rattle.std.specs.Str.{bytes_eq}
use Rattle.std.proofs.lemmas.Bool.{cases_lt}
use Rattle.std.proofs.lemmas.Slice.Eq.{bytes_eq-Decides}
use Rattle.bm_journal.specs.declared.entry.Entry.{Entry}
use Rattle.bm_journal.specs.declared.entry.Entry.TheVariants as entry
use Rattle.bm_journal.specs.declared.ids.Tag.{Tag}
use Rattle.bm_lang.specs.declared.scenario.MapDeclaration.{MapDeclaration}
use Rattle.bm_lang.specs.declared.scenario.MapKind.{MapKind}
use Rattle.bm_lang.specs.declared.scenario.MapKind.TheVariants.{Slot as SlotKind}
use Rattle.bm_lang.specs.declared.scenario.MapKind.TheVariants as kind_is
use Rattle.bm_lang.specs.declared.scenario.TypeDeclaration.{TypeDeclaration}
use Rattle.bm_law.specs.Alone.{AllAt, at_level}
use Rattle.bm_law.specs.Lists.{Log, after}
use Rattle.bm_law.specs.State.{State}
use Rattle.bm_law.proofs.Alone.{at-own}
use Rattle.bm_law_order.specs.Calls.{tag_after}
use Rattle.bm_law_order.specs.Graphs.{standing_from}
use Rattle.bm_law_order.specs.Orders.{Order, by, over}
use Rattle.bm_law_order.specs.Slots.{Contents, Named, Slot, named_in}
use Rattle.bm_law_order.proofs.Along.{by-append, over-append}
use Rattle.bm_law_objects.specs.Objects.{Owned, OwnedFit, owned_after, slots_after}
use Rattle.bm_law_scenario.specs.Closing.{EmptiesMap, EmptiesMaps}
use Rattle.bm_law_scenario.specs.Declared.{Declared}
use Rattle.bm_grace.specs.Known.{Objects}
use Rattle.bm_world.specs.Contents.{are_apart, names_in, slot_at}
use Rattle.bm_world.proofs.NamedLemmas.{named-there}
use Rattle.bm_exec_levels.specs.Slotted.{AreStocked, as_item, elsewhere, in_hands, is_of, less_times, times_held}

-- ---- along a log

-- an exchange puts nothing
abbrev pub PutsNone : Entry → Type 0
PutsNone (entry.Xchg name put was by) = put ≡ None
PutsNone _ = Unit {0}

abbrev pub AllPutNone : Log → Type 0
AllPutNone [] = Unit {0}
AllPutNone (e ∷ es) = PutsNone e.1 × AllPutNone es

pub split-puts : (a b : Log) → AllPutNone (a ++ b) → AllPutNone a × AllPutNone b
split-puts [] b h = (tt, h)
split-puts (e ∷ a) b h = let r = split-puts a b h.1 in ((h.0, r.0), r.1)

pub split-at : (a b : Log) → AllAt 0 (a ++ b) → AllAt 0 a × AllAt 0 b
split-at [] b h = (tt, h)
split-at (e ∷ a) b h = let r = split-at a b h.1 in ((h.0, r.0), r.1)

-- what an order leaves of objects
abbrev along : Log → Owned → Owned
along es x = over owned_after (by 0 es) x

pub along-append : (a b : Log) (x : Owned) → along (a ++ b) x ≡ along b (along a x)
along-append a b x = ap (λ (o : Order). over owned_after o x) (by-append 0 a b) ∙ over-append owned_after OwnedFit (by 0 a) (by 0 b) x

either-none : (b : Bool) (x y : Slot) → x.held ≡ None → y.held ≡ None → (if b then x else y).held ≡ None
either-none true x y h k = h
either-none false x y h k = k

still-none : (e : Entry) (t : Tag) (f : Contents) (name : List ℕ) → PutsNone e → (f name).held ≡ None → (slots_after e t f name).held ≡ None
still-none (entry.Xchg n put was from) t f name p h = either-none (bytes_eq n name) (record { held = put; by = Some t }) (f name) p h
still-none _ t f name p h = h

-- a slot that holds nothing goes on so
keeps-none : (es : Log) (x : Owned) (name : List ℕ) → AllPutNone es → (x.objects.slots name).held ≡ None → ((along es x).objects.slots name).held ≡ None
keeps-none [] x name p h = h
keeps-none (e ∷ es) x name p h = keeps-none es (owned_after 0 e.0 e.1 x) name p.1 (still-none e.1 (tag_after 0 (x.objects.calls 0)) x.objects.slots name p.0 h)

itself : (x : List ℕ) → bytes_eq x x ≡ true
itself x = (bytes_eq-Decides x x).1 refl

-- One map after the other was emptied: the slots hold nothing.
pub emptied : (types : List TypeDeclaration) (maps : List MapDeclaration) (t : State ℕ) (es : Log) (x : Owned) → EmptiesMaps types maps t es → AllAt 0 es → AllPutNone es → (i : ℕ) (m : MapDeclaration) → slice_get maps i ≡ Some m → m.kind ≡ SlotKind → ((along es x).objects.slots m.name).held ≡ None
emptied types [] t es x h at puts i m e kind = absurd (cc)
emptied types (d ∷ ds) t es x h at puts i m e kind =
    let F : Log → Type 0 = λ z. ((along z x).objects.slots m.name).held ≡ None in
    let ats = split-at h.one h.two (subst (AllAt 0) h.part_is at) in
    let alls = split-puts h.one h.two (subst AllPutNone h.part_is puts) in
    subst F (sym h.part_is) (subst (λ (y : Owned). (y.objects.slots m.name).held ≡ None) (sym (along-append h.one h.two x)) (by-place (λ k f. emptied types ds (after t h.one) h.two (along h.one x) h.is_second ats.1 alls.1 k m f kind) i e ats alls))
  where
    first : d.kind ≡ SlotKind → (one : Log) (s : State ℕ) → EmptiesMap types d.kind d s one → AllAt 0 one → AllPutNone one → ((along one x).objects.slots d.name).held ≡ None
    first is_slot one s k at puts =
        let j = subst (λ (z : MapKind). EmptiesMap types z d s one) is_slot k in
        let z = j.2 in
        let ats = split-at z.one z.two (subst (AllAt 0) z.part_is at) in
        let alls = split-puts z.one z.two (subst AllPutNone z.part_is puts) in
        let is : z.one ≡ (0, entry.Xchg d.name None j.0 j.1) ∷ [] = at-own 0 z.one ats.0 ∙ ap (at_level 0) z.is_first.own_is in
        let G : Log → Type 0 = λ w. ((along w x).objects.slots d.name).held ≡ None in
        let one-slot : G ((0, entry.Xchg d.name None j.0 j.1) ∷ []) = rw (itself d.name) refl in
        let here : G z.one = subst G (sym is) one-slot in
        subst G (sym z.part_is) (subst (λ (y : Owned). (y.objects.slots d.name).held ≡ None) (sym (along-append z.one z.two x)) (keeps-none z.two (along z.one x) d.name alls.1 here))

    by-place : ((k : ℕ) → slice_get ds k ≡ Some m → ((along h.two (along h.one x)).objects.slots m.name).held ≡ None) → (i : ℕ) → slice_get (d ∷ ds) i ≡ Some m → AllAt 0 h.one × AllAt 0 h.two → AllPutNone h.one × AllPutNone h.two → ((along h.two (along h.one x)).objects.slots m.name).held ≡ None
    by-place more zero e ats alls =
        let same : d ≡ m = cc in
        keeps-none h.two (along h.one x) m.name alls.1 (subst (λ (w : MapDeclaration). ((along h.one x).objects.slots w.name).held ≡ None) same (first (ap (λ (w : MapDeclaration). w.kind) same ∙ kind) h.one t h.is_first ats.0 alls.0))
    by-place more (suc i) e ats alls = more i e

-- ---- in the world

named-of : (ss : List Named) (maps : List MapDeclaration) (place : ℕ) → names_in ss ≡ map (λ (m : MapDeclaration). m.name) maps → place < length ss → (m : MapDeclaration) × (slice_get maps place ≡ Some m) × (m.name ≡ (slot_at place ss).name)
named-of [] maps place e lt = absurd (omega (arith, lt))
named-of (s ∷ ss) [] place e lt = absurd (cc)
named-of (s ∷ ss) (m ∷ ms) zero e lt = (m, refl, (let q : s.name ≡ m.name = cc in sym q))
named-of (s ∷ ss) (m ∷ ms) (suc place) e lt = (let rest : names_in ss ≡ map (λ (m : MapDeclaration). m.name) ms = cc in named-of ss ms place rest (omega (arith, lt)))

beyond : (ss : List Named) (place : ℕ) → length ss ≤ place → (slot_at place ss).slot.held ≡ None
beyond [] place le = refl
beyond (s ∷ ss) zero le = absurd (omega (arith, le))
beyond (s ∷ ss) (suc place) le = beyond ss place (omega (arith, le))

none-times : (u : ℕ) (ss : List Named) → ((place : ℕ) → (slot_at place ss).slot.held ≡ None) → times_held u ss ≡ 0
none-times u [] h = refl
none-times u (s ∷ ss) h = rw (ap (is_of u) (h 0)) (none-times u ss (λ place. h (suc place)))

-- Where the declared slots hold nothing by their names, and nothing is in lists and trees, names hold all references.
pub hands-all : (o : Objects) (d : Declared) → AreStocked d o → are_apart (map (λ (m : MapDeclaration). m.name) d.maps) ≡ true → ((i : ℕ) (m : MapDeclaration) → slice_get d.maps i ≡ Some m → m.kind ≡ SlotKind → (named_in o.slots m.name).held ≡ None) → ((u : ℕ) → standing_from 0 o.graphs u ≡ None) → (u : ℕ) → in_hands o u ≡ o.lives u
hands-all o d stocked apart none bare u =
    let held = none-times u o.slots at-place in
    let items : as_item (standing_from 0 o.graphs u) ≡ 0 = ap as_item (bare u) in
    let all : elsewhere o u ≡ 0 = omega (arith, held, items) in
    ap (λ k. less_times k (o.lives u)) all
  where
    by-kind : (place : ℕ) (m : MapDeclaration) (k : MapKind) → place < length o.slots → slice_get d.maps place ≡ Some m → m.name ≡ (slot_at place o.slots).name → m.kind ≡ k → (slot_at place o.slots).slot.held ≡ None
    by-kind place m kind_is.Slot lt found name e =
        let is = named-there place o.slots (subst (λ (ns : List (List ℕ)). are_apart ns ≡ true) (sym stocked.names) apart) lt in
        ap (λ (s : Slot). s.held) (sym is) ∙ (ap (λ (n : List ℕ). (named_in o.slots n).held) (sym name) ∙ none place m found e)
    by-kind place m kind_is.List lt found name e = stocked.still place m false found e
    by-kind place m kind_is.Tree lt found name e = stocked.still place m true found e

    at-place : (place : ℕ) → (slot_at place o.slots).slot.held ≡ None
    at-place place = elim (cases_lt place (length o.slots)) [
      | inl lt ↦ (let m = named-of o.slots d.maps place stocked.names lt in by-kind place m.0 m.0.kind lt m.1 m.2 refl)
      | inr le ↦ beyond o.slots place le
    ]
