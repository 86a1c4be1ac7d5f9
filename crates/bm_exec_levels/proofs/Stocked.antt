-- What names hold, as objects begin and end, references come and go, and slots are exchanged.
use Rattle.std.proofs.Common.{◌≡◌, ◌≢◌, ◌⊎◌, ◌∙◌, ◌<◌, ◌≤◌, ◌+◌, ◌-◌, ℕ, zero, suc, Bool, true, false, List, [], ◌∷◌, Option, Some, None, ap, arith, inl, inr, length, refl, set, slice_get, subst, sym}
use Rattle.std.specs.Prelude.{eqb, if◌then◌else◌, map, slice_index_or}
use Rattle.std.proofs.lemmas.Bool.Decides.{eqb_tells}
use Rattle.std.proofs.lemmas.List.{get_or-set_other, get_or-set_same}
use mathlib.Core.Path.{fun_ext}
use Rattle.bm_journal.specs.declared.ids.ObjId.{ObjId}
use Rattle.bm_lang.specs.declared.scenario.MapDeclaration.{MapDeclaration}
use Rattle.bm_lang.specs.declared.scenario.MapKind.{MapKind}
use Rattle.bm_lang.specs.declared.scenario.MapKind.TheVariants.{Slot as SlotKind}
use Rattle.bm_lang.specs.declared.scenario.TypeDeclaration.{TypeDeclaration}
use Rattle.bm_graph.specs.declared.ways.Way.{Way}
use Rattle.bm_law_order.specs.Graphs.{NamedGraph, Standing, standing_from}
use Rattle.bm_law_order.specs.Slots.{Named, Slot}
use Rattle.bm_law_scenario.specs.Calls.{IsCounted}
use Rattle.bm_law_scenario.specs.Declared.{Declared, graph_kind}
use Rattle.bm_law_scenario.specs.Opened.{OfClass}
use Rattle.bm_grace.specs.Known.{Known, Living, Lives, Objects}
use Rattle.bm_page.specs.UnitState.{UnitState}
use Rattle.bm_world.specs.Contents.{names_in, put_at, slot_at}
use Rattle.bm_world.specs.Lives.{HasLife, PutLives, life_acquired, life_begun, life_ended, life_given_up, life_of_unit, with_references}
use Rattle.bm_world.proofs.NamedLemmas.{names-stay}
use Rattle.bm_exec.specs.Living.{HasType, IsMade, IsToPut, LivesAs, TakenOut, TakesOut, count_in, less_of, let_go, new_life, one_less, recounted, type_in, values_in, with_life, without}
use Rattle.bm_exec_levels.specs.Slotted.{AreStocked, IsItem, IsKept, IsStocked, as_item, elsewhere, in_hands, is_of, less_times, times_held}

some-is : {A : Type 0} (x y : A) → Some x ≡ Some y → x ≡ y
some-is x y e = cc

-- ---- one less, so many times

-- an object with so many references, if any are left
abbrev pub of_count : ℕ → Living → Option Living
of_count zero l = None
of_count (suc n) l = Some (record l { count = suc n })

one-less-of : (n : ℕ) (l : Living) → one_less (of_count (suc n) l) ≡ of_count n l
one-less-of zero l = refl
one-less-of (suc n) l = refl

less-none : (k : ℕ) → less_times k None ≡ None
less-none zero = refl
less-none (suc k) = ap one_less (less-none k)

of-count-all : (l : Living) (n : ℕ) → n ≡ l.count → 0 < n → of_count n l ≡ Some l
of-count-all l zero e some = absurd (omega (arith, some))
of-count-all l (suc n) e some = ap (λ (k : ℕ). let x : Living = record l { count = k } in Some x) e

pub less-is : (k : ℕ) (l : Living) → 0 < l.count → k ≤ l.count → less_times k (Some l) ≡ of_count (l.count - k) l
less-is zero l some most = sym (of-count-all l (l.count - 0) (omega arith) (omega (arith, some)))
less-is (suc k) l some most =
    let left : l.count - k ≡ suc (l.count - suc k) = omega (arith, most) in
    ap one_less (less-is k l some (omega (arith, most)) ∙ ap (λ n. of_count n l) left) ∙ one-less-of (l.count - suc k) l

count-of : (n : ℕ) (l : Living) → count_in (of_count n l) ≡ n
count-of zero l = refl
count-of (suc n) l = refl

-- ---- which slots hold it

bit : Bool → ℕ
bit true = 1
bit false = 0

abbrev bit-of : (u : ℕ) → Option ObjId → ℕ
bit-of u o = if is_of u o then 1 else 0

times-first : (u : ℕ) (s : Named) (ss : List Named) → times_held u (s ∷ ss) ≡ bit-of u s.slot.held + times_held u ss
times-first u s ss = either (is_of u s.slot.held)
  where
    either : (b : Bool) → (if b then suc (times_held u ss) else times_held u ss) ≡ (if b then 1 else 0) + times_held u ss
    either true = omega arith
    either false = omega arith

-- one slot holds something else
times-put : (u place : ℕ) (slot : Slot) (ss : List Named) → place < length ss → times_held u (put_at place slot ss) + bit-of u (slot_at place ss).slot.held ≡ times_held u ss + bit-of u slot.held
times-put u place slot [] lt = absurd (omega (arith, lt))
times-put u zero slot (s ∷ ss) lt =
    let a = times-first u s ss in
    let b = times-first u (record { name = s.name; slot = slot }) ss in
    omega (arith, a, b)
times-put u (suc place) slot (s ∷ ss) lt =
    let a = times-first u s ss in
    let b = times-first u s (put_at place slot ss) in
    let h = times-put u place slot ss (omega (arith, lt)) in
    omega (arith, a, b, h)

-- a unit that no slot holds
times-none : (u : ℕ) (ss : List Named) → ((place : ℕ) (x : ObjId) → (slot_at place ss).slot.held ≡ Some x → x.unit ≢ u) → times_held u ss ≡ 0
times-none u [] h = refl
times-none u (s ∷ ss) h =
    let rest = times-none u ss (λ place x e. h (suc place) x e) in
    let first : bit-of u s.slot.held ≡ 0 = none s.slot.held (λ x e. h 0 x e) in
    let a = times-first u s ss in
    omega (arith, a, first, rest)
  where
    none : (o : Option ObjId) → ((x : ObjId) → o ≡ Some x → x.unit ≢ u) → bit-of u o ≡ 0
    none None h = refl
    none (Some x) h = elim (eqb_tells x.unit u) [
      | inl y ↦ absurd (h x refl y.1)
      | inr y ↦ rw y.0 refl
    ]

-- one that a slot holds
times-some : (u place : ℕ) (x : ObjId) (ss : List Named) → (slot_at place ss).slot.held ≡ Some x → x.unit ≡ u → 0 < times_held u ss
times-some u place x [] e same = (let h : None ≡ Some x = e in cc)
times-some u zero x (s ∷ ss) e same =
    let a = times-first u s ss in
    let one : bit-of u s.slot.held ≡ 1 = ap (λ (o : Option ObjId). bit-of u o) e ∙ here in
    omega (arith, a, one)
  where
    here : bit-of u (Some x) ≡ 1
    here = elim (eqb_tells x.unit u) [
      | inl y ↦ rw y.0 refl
      | inr y ↦ absurd (y.1 same)
    ]
times-some u (suc place) x (s ∷ ss) e same =
    let a = times-first u s ss in
    let h = times-some u place x ss e same in
    omega (arith, a, h)

-- ---- what names hold

-- Names hold references to unit u: the object that lives there, and how many of the references to it slots, lists and trees have.
pub record Handed (o : Objects) (u : ℕ) (h : Living) : Type 0 where
  pub object : Living
  pub lives_so : o.lives u ≡ Some object
  pub below : elsewhere o u < object.count
  pub is : h ≡ record object { count = object.count - elsewhere o u }

pub handed : (d : Declared) (o : Objects) → AreStocked d o → (u : ℕ) (h : Living) → in_hands o u ≡ Some h → Handed o u h
handed d o a u h e = of (o.lives u) refl e
  where
    t : ℕ
    t = elsewhere o u

    split : (l : Living) (n : ℕ) → o.lives u ≡ Some l → l.count - t ≡ n → of_count n l ≡ Some h → Handed o u h
    split l zero q m f = cc
    split l (suc n) q m f = record { object = l; lives_so = q; below = omega (arith, m); is = sym (some-is _ _ f) ∙ ap (λ (k : ℕ). let x : Living = record l { count = k } in x) (sym m) }

    of : (x : Option Living) → o.lives u ≡ x → less_times t x ≡ Some h → Handed o u h
    of None q f = (let g : None ≡ Some h = sym (less-none t) ∙ f in cc)
    of (Some l) q f = let k = a.kept u l q in split l (l.count - t) q refl (sym (less-is t l k.some k.most) ∙ f)

-- slots hold fewer references to it than there are
pub handed-back : (k : ℕ) (l : Living) → k < l.count → less_times k (Some l) ≡ Some (record l { count = l.count - k })
handed-back k l below = less-is k l (omega (arith, below)) (omega (arith, below)) ∙ of-some (l.count - k) refl
  where
    of-some : (n : ℕ) → l.count - k ≡ n → of_count n l ≡ Some (record l { count = n })
    of-some zero m = absurd (omega (arith, m, below))
    of-some (suc n) m = refl

-- another life of one unit, and what names hold of it then
hands-at : (others : ℕ → ℕ) (lives : Lives) (n : ℕ) (x y : Option Living) → less_times (others n) x ≡ y → (λ u. less_times (others u) (with_life n x lives u)) ≡ with_life n y (λ u. less_times (others u) (lives u))
hands-at others lives n x y e = fun_ext at
  where
    at : (v : ℕ) → less_times (others v) (with_life n x lives v) ≡ with_life n y (λ u. less_times (others u) (lives u)) v
    at v = elim (eqb_tells n v) [
      | inl z ↦ rw z.0 (subst (λ k. less_times (others k) x ≡ y) z.1 e)
      | inr z ↦ rw z.0 refl
    ]

-- no slot, list or tree has what doesn't live
pub no-item : (d : Declared) (o : Objects) → AreStocked d o → (u : ℕ) → o.lives u ≡ None → standing_from 0 o.graphs u ≡ None
no-item d o a u e = of (standing_from 0 o.graphs u) refl
  where
    of : (x : Option Standing) → standing_from 0 o.graphs u ≡ x → x ≡ None
    of None q = refl
    of (Some s) q = (let f : o.lives u ≡ Some (a.items u s q).object = (a.items u s q).lives_so in let g : None ≡ Some (a.items u s q).object = sym e ∙ f in cc)

pub none-held : (d : Declared) (o : Objects) → AreStocked d o → (u : ℕ) → o.lives u ≡ None → elsewhere o u ≡ 0
none-held d o a u e =
    let slots : times_held u o.slots ≡ 0 = times-none u o.slots (λ place x held same. (let s = a.stocked place x held in let f : o.lives u ≡ Some s.object = subst (λ k. o.lives k ≡ Some s.object) same s.lives_so in cc)) in
    let items : as_item (standing_from 0 o.graphs u) ≡ 0 = ap as_item (no-item d o a u e) in
    omega (arith, slots, items)

-- ---- an object begins

pub hands-begun : (d : Declared) (k : Known) (type : ℕ) (values : List ℕ) (u : UnitState) → AreStocked d k.objects → k.objects.lives u.number ≡ None →
    in_hands (life_begun type values u k).objects ≡ with_life u.number (Some (life_of_unit type 1 values (record u { life = u.life + 1 }))) (in_hands k.objects)
hands-begun d k type values u a none =
    let new : Option Living = Some (life_of_unit type 1 values (record u { life = u.life + 1 })) in
    hands-at (elsewhere k.objects) k.objects.lives u.number new new (ap (λ n. less_times n new) (none-held d k.objects a u.number none))

-- of another unit it is as it was
kept-aside : (types : List TypeDeclaration) (others : ℕ → ℕ) (lives : Lives) (n : ℕ) (x : Option Living) → ((u : ℕ) (l : Living) → lives u ≡ Some l → IsKept types (others u) l) → ((l : Living) → x ≡ Some l → IsKept types (others n) l) → (u : ℕ) (l : Living) → with_life n x lives u ≡ Some l → IsKept types (others u) l
kept-aside types others lives n x h new u l e = elim (eqb_tells n u) [
  | inl z ↦ subst (λ k. IsKept types (others k) l) z.1 (new l (rw z.0 at e))
  | inr z ↦ h u l (rw z.0 at e)
]

-- what a slot holds lives as it did, where the unit that changed is as alive as before or is none that a slot holds
stocked-aside : (maps : List MapDeclaration) (lives : Lives) (n place : ℕ) (x : ObjId) (y : Option Living) → ((l : Living) → lives n ≡ Some l → x.unit ≡ n → (m : Living) × (y ≡ Some m) × (m.life ≡ l.life) × (m.type ≡ l.type)) → IsStocked maps lives place x → IsStocked maps (with_life n y lives) place x
stocked-aside maps lives n place x y h s = elim (eqb_tells n x.unit) [
  | inl z ↦
      let m = h s.object (subst (λ k. lives k ≡ Some s.object) (sym z.1) s.lives_so) (sym z.1) in
      record { slot = s.slot; found = s.found; object = m.0; lives_so = rw z.0 m.1; life_is = m.2 ∙ s.life_is; type_is = m.3 ∙ s.type_is }
  | inr z ↦ record { slot = s.slot; found = s.found; object = s.object; lives_so = rw z.0 s.lives_so; life_is = s.life_is; type_is = s.type_is }
]

-- what is in a list or tree too
item-aside : (maps : List MapDeclaration) (lives : Lives) (n u : ℕ) (x : Standing) (y : Option Living) → ((l : Living) → lives n ≡ Some l → u ≡ n → (m : Living) × (y ≡ Some m) × (m.life ≡ l.life) × (m.type ≡ l.type)) → IsItem maps lives u x → IsItem maps (with_life n y lives) u x
item-aside maps lives n u x y h s = elim (eqb_tells n u) [
  | inl z ↦
      let m = h s.object (subst (λ k. lives k ≡ Some s.object) (sym z.1) s.lives_so) (sym z.1) in
      record { graph = s.graph; found = s.found; object = m.0; lives_so = rw z.0 m.1; life_is = m.2 ∙ s.life_is; type_is = m.3 ∙ s.type_is }
  | inr z ↦ record { graph = s.graph; found = s.found; object = s.object; lives_so = rw z.0 s.lives_so; life_is = s.life_is; type_is = s.type_is }
]

pub stocked-begun : (d : Declared) (k : Known) (type : ℕ) (values : List ℕ) (u : UnitState) → AreStocked d k.objects → k.objects.lives u.number ≡ None → IsMade d.types u.class type values → AreStocked d (life_begun type values u k).objects
stocked-begun d k type values u a none made =
    let held = none-held d k.objects a u.number none in
    let new : Living = life_of_unit type 1 values (record u { life = u.life + 1 }) in
    record {
      names = a.names;
      graphs = a.graphs;
      kinds = a.kinds;
      unused = a.unused;
      still = a.still;
      kept = kept-aside d.types (elsewhere k.objects) k.objects.lives u.number (Some new) a.kept
          (λ l e. subst (λ (x : Living). IsKept d.types (elsewhere k.objects u.number) x) (some-is new l e) (record { made = made; some = omega arith; most = omega (arith, held); single = λ f. refl }));
      stocked = λ place x e. stocked-aside d.maps k.objects.lives u.number place x (Some new) (λ l f same. (let g : None ≡ Some l = sym none ∙ f in cc)) (a.stocked place x e);
      items = λ v x e. item-aside d.maps k.objects.lives u.number v x (Some new) (λ l f same. (let g : None ≡ Some l = sym none ∙ f in cc)) (a.items v x e);
    }

-- ---- one more reference

pub hands-acquired : (d : Declared) (k : Known) (n : ℕ) (h : Living) → AreStocked d k.objects → in_hands k.objects n ≡ Some h → in_hands (life_acquired n k).objects ≡ recounted n (count_in (in_hands k.objects n) + 1) (in_hands k.objects)
hands-acquired d k n h a e =
    let g = handed d k.objects a n h e in
    let l = g.object in
    let t = elsewhere k.objects n in
    let below = g.below in
    let more : Option Living = with_references (count_in (k.objects.lives n) + 1) (k.objects.lives n) in
    let was : more ≡ Some (record l { count = l.count + 1 }) = ap (λ (o : Option Living). with_references (count_in o + 1) o) g.lives_so in
    let left : (l.count + 1) - t ≡ (l.count - t) + 1 = omega (arith, below) in
    let now : less_times t more ≡ Some (record l { count = (l.count - t) + 1 }) = ap (less_times t) was ∙ (handed-back t (record l { count = l.count + 1 }) (omega (arith, below)) ∙ ap (λ (c : ℕ). let x : Living = record l { count = c } in Some x) left) in
    let last : with_references (count_in (in_hands k.objects n) + 1) (in_hands k.objects n) ≡ Some (record l { count = (l.count - t) + 1 }) = ap (λ (o : Option Living). with_references (count_in o + 1) o) (e ∙ ap (λ (x : Living). Some x) g.is) in
    hands-at (elsewhere k.objects) k.objects.lives n more (with_references (count_in (in_hands k.objects n) + 1) (in_hands k.objects n)) (now ∙ sym last)

-- types that are declared so are counted or not
one-declared : (types : List TypeDeclaration) (t : ℕ) (x y : TypeDeclaration) → slice_get types t ≡ Some x → slice_get types t ≡ Some y → x ≡ y
one-declared types t x y e f = (let g : Some x ≡ Some y = sym e ∙ f in some-is x y g)

counted-not : (b : Bool) → b ≡ true → b ≡ false → ⊥
counted-not true p q = cc
counted-not false p q = cc

-- the same object with another number of references
recount-kept : (types : List TypeDeclaration) (held count : ℕ) (l : Living) → IsKept types held l → 0 < count → held ≤ count → ((d : TypeDeclaration) → slice_get types l.type ≡ Some d → d.counted ≡ false → count ≡ 1) → IsKept types held (record l { count = count })
recount-kept types held count l k some most single = record { made = k.made; some = some; most = most; single = λ f. single k.made.declared k.made.of_class.found f }

pub stocked-counted : (d : Declared) (o : Objects) (n count asked : ℕ) (l : Living) → AreStocked d o → o.lives n ≡ Some l → 0 < count → elsewhere o n ≤ count → ((t : TypeDeclaration) → slice_get d.types l.type ≡ Some t → t.counted ≡ false → count ≡ 1) → AreStocked d (record o { lives = recounted n count o.lives; asked = asked })
stocked-counted d o n count asked l a e some most single =
    let now : Living = record l { count = count } in
    let is : with_references count (o.lives n) ≡ Some now = ap (with_references count) e in
    record {
      names = a.names;
      graphs = a.graphs;
      kinds = a.kinds;
      unused = a.unused;
      still = a.still;
      kept = kept-aside d.types (elsewhere o) o.lives n (with_references count (o.lives n)) a.kept
          (λ m f. subst (λ (x : Living). IsKept d.types (elsewhere o n) x) (some-is now m (sym is ∙ f)) (recount-kept d.types (elsewhere o n) count l (a.kept n l e) some most single));
      stocked = λ place x h. stocked-aside d.maps o.lives n place x (with_references count (o.lives n)) (λ m f same. (let q : l ≡ m = some-is l m (sym e ∙ f) in (now, is, ap (λ (x : Living). x.life) q, ap (λ (x : Living). x.type) q))) (a.stocked place x h);
      items = λ v x h. item-aside d.maps o.lives n v x (with_references count (o.lives n)) (λ m f same. (let q : l ≡ m = some-is l m (sym e ∙ f) in (now, is, ap (λ (x : Living). x.life) q, ap (λ (x : Living). x.type) q))) (a.items v x h);
    }

-- an object that names hold is of this type
handed-type : (d : Declared) (o : Objects) (n : ℕ) (h : Living) (g : Handed o n h) → type_in (Some h) ≡ g.object.type
handed-type d o n h g = ap (λ (x : Living). x.type) g.is

pub stocked-acquired : (d : Declared) (k : Known) (n : ℕ) (h : Living) → AreStocked d k.objects → in_hands k.objects n ≡ Some h → IsCounted d.types (type_in (in_hands k.objects n)) → AreStocked d (life_acquired n k).objects
stocked-acquired d k n h a e c =
    let g = handed d k.objects a n h e in
    let l = g.object in
    let below = g.below in
    let count : count_in (k.objects.lives n) ≡ l.count = ap count_in g.lives_so in
    let typed : type_in (in_hands k.objects n) ≡ l.type = ap type_in e ∙ handed-type d k.objects n h g in
    stocked-counted d k.objects n (count_in (k.objects.lives n) + 1) (k.objects.asked + 1) l a g.lives_so (omega arith) (omega (arith, count, below))
    (λ t f single. (let same = one-declared d.types l.type t c.declared f (subst (λ i. slice_get d.types i ≡ Some c.declared) typed c.found) in absurd (counted-not t.counted (ap (λ (x : TypeDeclaration). x.counted) same ∙ c.counted) single)))

-- ---- one less

pub hands-given-up : (d : Declared) (k : Known) (n : ℕ) (h : Living) → AreStocked d k.objects → in_hands k.objects n ≡ Some h → 1 < count_in (k.objects.lives n) → in_hands (life_given_up n k).objects ≡ let_go n (in_hands k.objects)
hands-given-up d k n h a e others =
    let g = handed d k.objects a n h e in
    let l = g.object in
    let t = elsewhere k.objects n in
    let below = g.below in
    let count : count_in (k.objects.lives n) ≡ l.count = ap count_in g.lives_so in
    let less : Option Living = with_references (count_in (k.objects.lives n) - 1) (k.objects.lives n) in
    let was : less ≡ Some (record l { count = l.count - 1 }) = ap (λ (o : Option Living). with_references (count_in o - 1) o) g.lives_so in
    let now : less_times t less ≡ of_count ((l.count - 1) - t) l = ap (less_times t) was ∙ less-is t (record l { count = l.count - 1 }) (omega (arith, others, count)) (omega (arith, below)) ∙ same-count l (l.count - 1) ((l.count - 1) - t) in
    let left : l.count - t ≡ suc ((l.count - 1) - t) = omega (arith, below, others, count) in
    let last : one_less (in_hands k.objects n) ≡ of_count ((l.count - 1) - t) l = ap (λ (o : Option Living). one_less (less_times t o)) g.lives_so ∙ (ap one_less (less-is t l (omega (arith, below)) (omega (arith, below)) ∙ ap (λ n. of_count n l) left) ∙ one-less-of ((l.count - 1) - t) l) in
    hands-at (elsewhere k.objects) k.objects.lives n less (one_less (in_hands k.objects n)) (now ∙ sym last)
  where
    same-count : (m : Living) (c j : ℕ) → of_count j (record m { count = c }) ≡ of_count j m
    same-count m c zero = refl
    same-count m c (suc j) = refl

pub stocked-given-up : (d : Declared) (k : Known) (n : ℕ) (h : Living) → AreStocked d k.objects → in_hands k.objects n ≡ Some h → 1 < count_in (k.objects.lives n) → AreStocked d (life_given_up n k).objects
stocked-given-up d k n h a e others =
    let g = handed d k.objects a n h e in
    let l = g.object in
    let below = g.below in
    let count : count_in (k.objects.lives n) ≡ l.count = ap count_in g.lives_so in
    let kept = a.kept n l g.lives_so in
    stocked-counted d k.objects n (count_in (k.objects.lives n) - 1) k.objects.asked l a g.lives_so (omega (arith, others)) (omega (arith, count, below))
    (λ t f single. (let same = one-declared d.types l.type t kept.made.declared f kept.made.of_class.found in let one = kept.single (ap (λ (x : TypeDeclaration). x.counted) (sym same) ∙ single) in absurd (omega (arith, others, count, one))))

-- the type of an object with other references carries a count
pub others-counted : (d : Declared) (k : Known) (n : ℕ) (h : Living) (counted : Bool) → AreStocked d k.objects → in_hands k.objects n ≡ Some h → 1 < count_in (k.objects.lives n) → HasType d.types (type_in (in_hands k.objects n)) counted → counted ≡ true
others-counted d k n h counted a e others typed =
    let g = handed d k.objects a n h e in
    let l = g.object in
    let count : count_in (k.objects.lives n) ≡ l.count = ap count_in g.lives_so in
    let kept = a.kept n l g.lives_so in
    let is : type_in (in_hands k.objects n) ≡ l.type = ap type_in e ∙ handed-type d k.objects n h g in
    let same = one-declared d.types l.type typed.declared kept.made.declared (subst (λ i. slice_get d.types i ≡ Some typed.declared) is typed.found) kept.made.of_class.found in
    either counted (sym (ap (λ (x : TypeDeclaration). x.counted) same) ∙ typed.counted_is) kept.single count others
  where
    either : (b : Bool) {c : Bool} {m j : ℕ} → c ≡ b → (c ≡ false → m ≡ 1) → j ≡ m → 1 < j → b ≡ true
    either true q s r o = refl
    either false q s r o = (let one = s q in absurd (omega (arith, one, r, o)))

-- ---- the last reference

-- no slot, list or tree has an object to which there is one reference, which a name holds
pub last-free : (d : Declared) (k : Known) (n : ℕ) (h : Living) → AreStocked d k.objects → in_hands k.objects n ≡ Some h → count_in (k.objects.lives n) ≡ 1 → elsewhere k.objects n ≡ 0
last-free d k n h a e only =
    let g = handed d k.objects a n h e in
    let below = g.below in
    let count : count_in (k.objects.lives n) ≡ g.object.count = ap count_in g.lives_so in
    omega (arith, below, only, count)

-- .. so names hold all that there is
pub last-held : (d : Declared) (k : Known) (n : ℕ) (h : Living) → AreStocked d k.objects → in_hands k.objects n ≡ Some h → count_in (k.objects.lives n) ≡ 1 → in_hands k.objects n ≡ k.objects.lives n
last-held d k n h a e only = ap (λ t. less_times t (k.objects.lives n)) (last-free d k n h a e only)

pub hands-ended : (d : Declared) (k : Known) (n : ℕ) (h : Living) → AreStocked d k.objects → in_hands k.objects n ≡ Some h → count_in (k.objects.lives n) ≡ 1 → in_hands (life_ended n k).objects ≡ let_go n (in_hands k.objects)
hands-ended d k n h a e only =
    let g = handed d k.objects a n h e in
    let l = g.object in
    let count : l.count ≡ 1 = ap count_in (sym g.lives_so) ∙ only in
    let last : one_less (in_hands k.objects n) ≡ None = ap one_less (last-held d k n h a e only ∙ g.lives_so) ∙ ap (λ c. less_of c l) count in
    hands-at (elsewhere k.objects) k.objects.lives n None (one_less (in_hands k.objects n)) (less-none (elsewhere k.objects n) ∙ sym last)

pub stocked-ended : (d : Declared) (k : Known) (n : ℕ) (h : Living) → AreStocked d k.objects → in_hands k.objects n ≡ Some h → count_in (k.objects.lives n) ≡ 1 → AreStocked d (life_ended n k).objects
stocked-ended d k n h a e only =
    let free = last-free d k n h a e only in
    record {
      names = a.names;
      graphs = a.graphs;
      kinds = a.kinds;
      unused = a.unused;
      still = a.still;
      kept = kept-aside d.types (elsewhere k.objects) k.objects.lives n None a.kept (λ l f. cc);
      stocked = λ place x held. stocked-aside d.maps k.objects.lives n place x None (λ l f same. (let some = times-some n place x k.objects.slots held same in absurd (omega (arith, some, free)))) (a.stocked place x held);
      items = λ v x held. item-aside d.maps k.objects.lives n v x None (λ l f same. (let some : as_item (standing_from 0 k.objects.graphs n) ≡ 1 = ap as_item (subst (λ j. standing_from 0 k.objects.graphs j ≡ Some x) same held) in absurd (omega (arith, some, free)))) (a.items v x held);
    }

-- .. so it is in no list or tree
pub last-out : (d : Declared) (k : Known) (n : ℕ) (h : Living) → AreStocked d k.objects → in_hands k.objects n ≡ Some h → count_in (k.objects.lives n) ≡ 1 → standing_from 0 k.objects.graphs n ≡ None
last-out d k n h a e only = (let free = last-free d k n h a e only in of (standing_from 0 k.objects.graphs n) free)
  where
    of : (x : Option Standing) → times_held n k.objects.slots + as_item x ≡ 0 → x ≡ None
    of None q = refl
    of (Some s) q = absurd (omega (arith, q))

-- ---- references that move between names and slots, lists and trees

-- what names hold without the reference that is put
without-is : (put : Option ObjId) (o : Objects) (v : ℕ) → without put (in_hands o) v ≡ less_times (elsewhere o v + bit-of v put) (o.lives v)
without-is None o v = (let same : elsewhere o v ≡ elsewhere o v + 0 = omega arith in ap (λ n. less_times n (o.lives v)) same)
without-is (Some x) o v = elim (eqb_tells x.unit v) [
  | inl z ↦
      let same : suc (elsewhere o v) ≡ elsewhere o v + 1 = omega arith in
      rw z.0 (ap (λ k. one_less (less_times (elsewhere o k) (o.lives k))) z.1 ∙ ap (λ n. less_times n (o.lives v)) same)
  | inr z ↦ (let same : elsewhere o v ≡ elsewhere o v + 0 = omega arith in rw z.0 (ap (λ n. less_times n (o.lives v)) same))
]

-- there are no more references elsewhere than there are, also with the one that is put
most-put : (d : Declared) (o : Objects) (t : ℕ) (put : Option ObjId) → AreStocked d o → IsToPut t (in_hands o) put → (v : ℕ) (l : Living) → o.lives v ≡ Some l → elsewhere o v + bit-of v put ≤ l.count
most-put d o t None a h v l e = (let k = a.kept v l e in let most = k.most in omega (arith, most))
most-put d o t (Some x) a h v l e = elim (eqb_tells x.unit v) [
  | inl z ↦
      let held : in_hands o v ≡ Some (record { class = h.0; life = x.life; home = h.1.home; type = h.1.type; count = h.1.count; values = h.1.values }) = subst (λ k. in_hands o k ≡ Some (record { class = h.0; life = x.life; home = h.1.home; type = h.1.type; count = h.1.count; values = h.1.values })) z.1 h.1.is in
      let g = handed d o a v _ held in
      let same : g.object ≡ l = some-is g.object l (sym g.lives_so ∙ e) in
      let count = ap (λ (y : Living). y.count) same in
      let below = g.below in
      rw z.0 (omega (arith, below, count))
  | inr z ↦ (let k = a.kept v l e in let most = k.most in rw z.0 (omega (arith, most)))
]

-- What is taken lives, as an object of this type.
abbrev pub IsThere : (t : ℕ) → Lives → Option ObjId → Type 0
IsThere t lives None = Unit {0}
IsThere t lives (Some x) = (l : Living) × (lives x.unit ≡ Some l) × (l.life ≡ x.life) × (l.type ≡ t)

-- A reference that a name holds may be put elsewhere, and one that was elsewhere is taken: the same objects live.
module _ (d : Declared) (o now : Objects) (a : AreStocked d o) (same : now.lives ≡ o.lives) (t : ℕ) (put displaced : Option ObjId) (total : (v : ℕ) → elsewhere now v + bit-of v displaced ≡ elsewhere o v + bit-of v put) (held : IsToPut t (in_hands o) put) (there : IsThere t o.lives displaced) where
  same-at : (v : ℕ) → now.lives v ≡ o.lives v
  same-at v = ap (λ (f : Lives). f v) same

  -- a unit that isn't taken
  aside : (v : ℕ) → bit-of v displaced ≡ 0 → in_hands now v ≡ without put (in_hands o) v
  aside v none =
      let q = total v in
      let count : elsewhere now v ≡ elsewhere o v + bit-of v put = omega (arith, q, none) in
      ap (less_times (elsewhere now v)) (same-at v) ∙ (ap (λ n. less_times n (o.lives v)) count ∙ sym (without-is put o v))

  -- the one that is
  taken : (x : ObjId) → displaced ≡ Some x → (s : (l : Living) × (o.lives x.unit ≡ Some l) × (l.life ≡ x.life) × (l.type ≡ t)) → TakenOut d.types t (without put (in_hands o)) (in_hands now) x
  taken x e s =
      let l = s.0 in
      let v = x.unit in
      let one : bit-of v displaced ≡ 1 = ap (λ (y : Option ObjId). bit-of v y) e ∙ self in
      let q = total v in
      let most = most-put d o t put a held v l s.1 in
      let k = a.kept v l s.1 in
      let n = elsewhere now v in
      let T = elsewhere o v + bit-of v put in
      let some = k.some in
      let below : n < l.count = omega (arith, q, one, most) in
      let between : without put (in_hands o) v ≡ of_count (l.count - T) l = without-is put o v ∙ (ap (less_times T) s.1 ∙ less-is T l some most) in
      let left : l.count - n ≡ (l.count - T) + 1 = omega (arith, q, one, most) in
      let object : Living = record l { count = l.count - n } in
      let after : in_hands now v ≡ Some object = ap (less_times n) (same-at v ∙ s.1) ∙ handed-back n l below in
      record {
        object = object;
        life_is = s.2;
        type_is = s.3;
        made = record { declared = k.made.declared; of_class = subst (λ i. OfClass d.types i l.class k.made.declared) s.3 k.made.of_class; fields = k.made.fields; few = k.made.few };
        count_is = left ∙ ap (λ c. c + 1) (sym (ap count_in between ∙ count-of (l.count - T) l));
        some = λ y f. positive l (l.count - T) y (sym between ∙ f);
        same = λ y f. alike l (l.count - n) (l.count - T) y (sym between ∙ f) left;
        single = λ f. (let only = k.single f in omega (arith, only, below));
        now_is = fun_ext (λ w. at w object after);
      }
    where
      self : bit-of x.unit (Some x) ≡ 1
      self = elim (eqb_tells x.unit x.unit) [
        | inl z ↦ rw z.0 refl
        | inr z ↦ absurd (z.1 refl)
      ]

      positive : (l : Living) (n : ℕ) (y : Living) → of_count n l ≡ Some y → 0 < y.count
      positive l zero y f = cc
      positive l (suc n) y f = (let c : suc n ≡ y.count = ap (λ (z : Living). z.count) (some-is (record l { count = suc n }) y f) in omega (arith, c))

      alike : (l : Living) (c n : ℕ) (y : Living) → of_count n l ≡ Some y → c ≡ n + 1 → record l { count = c } ≡ record y { count = y.count + 1 }
      alike l c zero y f e = cc
      alike l c (suc n) y f e =
          let q : record l { count = suc n } ≡ y = some-is (record l { count = suc n }) y f in
          let more : c ≡ suc n + 1 = e in
          ap (λ (k : ℕ). let z : Living = record l { count = k } in z) more ∙ ap (λ (z : Living). let u : Living = record z { count = z.count + 1 } in u) q

      other : (w : ℕ) → eqb x.unit w ≡ false → bit-of w displaced ≡ 0
      other w f = ap (λ (y : Option ObjId). bit-of w y) e ∙ rw f refl

      at : (w : ℕ) (object : Living) → in_hands now x.unit ≡ Some object → in_hands now w ≡ with_life x.unit (Some object) (without put (in_hands o)) w
      at w object after = elim (eqb_tells x.unit w) [
        | inl z ↦ rw z.0 (ap (in_hands now) (sym z.1) ∙ after)
        | inr z ↦ rw z.0 (aside w (other w z.0))
      ]

  -- what names hold then
  pub hands-moved : TakesOut d.types t (without put (in_hands o)) (in_hands now) displaced
  hands-moved = by displaced refl there
    where
      by : (y : Option ObjId) → displaced ≡ y → IsThere t o.lives y → TakesOut d.types t (without put (in_hands o)) (in_hands now) y
      by None e h = fun_ext (λ v. aside v (ap (λ (y : Option ObjId). bit-of v y) e))
      by (Some x) e h = taken x e h

  -- each object has so many references elsewhere then
  pub kept-moved : (u : ℕ) (l : Living) → now.lives u ≡ Some l → IsKept d.types (elsewhere now u) l
  kept-moved u l e =
      let f : o.lives u ≡ Some l = sym (same-at u) ∙ e in
      let k = a.kept u l f in
      let q = total u in
      let most = most-put d o t put a held u l f in
      record { made = k.made; some = k.some; most = omega (arith, q, most); single = k.single }

-- what is put lives so
pub put-there : (d : Declared) (o : Objects) (t : ℕ) (z : ObjId) → AreStocked d o → IsToPut t (in_hands o) (Some z) → IsThere t o.lives (Some z)
put-there d o t z a h =
    let g = handed d o a z.unit _ h.1.is in
    (g.object, g.lives_so, ap (λ (y : Living). y.life) (sym g.is), ap (λ (y : Living). y.type) (sym g.is) ∙ h.2)

-- ---- an exchange

-- a list or tree is no slot
pub no-slot : (is_tree : Bool) (k : MapKind) → k ≡ graph_kind is_tree → k ≡ SlotKind → ⊥
no-slot true k e f = cc
no-slot false k e f = cc

-- the slots once one was exchanged
abbrev pub exchanged : (place : ℕ) → Slot → Objects → Objects
exchanged place slot o = record o { slots = put_at place slot o.slots }

module _ (d : Declared) (o : Objects) (place : ℕ) (slot : Slot) (a : AreStocked d o) (lt : place < length o.slots) (m : MapDeclaration) (found : slice_get d.maps place ≡ Some m) (held : IsToPut m.type_id.0 (in_hands o) slot.held) where
  -- what the slot held
  abbrev pub displaced : Option ObjId
  displaced = (slot_at place o.slots).slot.held

  total-exchanged : (v : ℕ) → elsewhere (exchanged place slot o) v + bit-of v displaced ≡ elsewhere o v + bit-of v slot.held
  total-exchanged v = (let t = times-put v place slot o.slots lt in omega (arith, t))

  displaced-there : IsThere m.type_id.0 o.lives displaced
  displaced-there = by displaced refl
    where
      by : (y : Option ObjId) → displaced ≡ y → IsThere m.type_id.0 o.lives y
      by None e = tt
      by (Some x) e = (let s = a.stocked place x e in (s.object, s.lives_so, s.life_is, s.type_is ∙ ap (λ (y : MapDeclaration). y.type_id.0) (some-is s.slot m (sym s.found ∙ found))))

  -- what names hold then
  pub hands-exchanged : TakesOut d.types m.type_id.0 (without slot.held (in_hands o)) (in_hands (exchanged place slot o)) displaced
  hands-exchanged = hands-moved d o (exchanged place slot o) a refl m.type_id.0 slot.held displaced total-exchanged held displaced-there

  -- and what slots hold
  pub stocked-exchanged : m.kind ≡ SlotKind → AreStocked d (exchanged place slot o)
  stocked-exchanged kind = record {
    names = names-stay place slot o.slots ∙ a.names;
    graphs = a.graphs;
    kinds = a.kinds;
    unused = a.unused;
    still = λ q x b f k. elim (eqb_tells place q) [
      | inl z ↦ absurd (no-slot b x.kind k (ap (λ (y : MapDeclaration). y.kind) (some-is x m (sym f ∙ (ap (slice_get d.maps) (sym z.1) ∙ found))) ∙ kind))
      | inr z ↦ ap (λ (n : Named). n.slot.held) (get_or-set_other o.slots place q _ _ (λ f. z.1 (sym f))) ∙ a.still q x b f k
    ];
    kept = kept-moved d o (exchanged place slot o) a refl m.type_id.0 slot.held displaced total-exchanged held displaced-there;
    stocked = λ q x e. elim (eqb_tells place q) [
      | inl z ↦ subst (λ j. IsStocked d.maps o.lives j x) z.1 (put-stocked slot.held held x (sym (ap (λ (n : Named). n.slot.held) (get_or-set_same o.slots place _ _ lt)) ∙ subst (λ j. (slot_at j (put_at place slot o.slots)).slot.held ≡ Some x) (sym z.1) e))
      | inr z ↦ a.stocked q x (sym (ap (λ (n : Named). n.slot.held) (get_or-set_other o.slots place q _ _ (λ f. z.1 (sym f)))) ∙ e)
    ];
    items = a.items;
  }
    where
      put-stocked : (y : Option ObjId) → IsToPut m.type_id.0 (in_hands o) y → (x : ObjId) → y ≡ Some x → IsStocked d.maps o.lives place x
      put-stocked None h x e = cc
      put-stocked (Some z) h x e =
          let same : z ≡ x = some-is z x e in
          let g = put-there d o m.type_id.0 z a h in
          subst (λ w. IsStocked d.maps o.lives place w) same (record { slot = m; found = found; object = g.0; lives_so = g.1; life_is = g.2; type_is = g.3 })

-- what is put lives
pub put-lives : (d : Declared) (o : Objects) (t : ℕ) (put : Option ObjId) → AreStocked d o → IsToPut t (in_hands o) put → PutLives o.lives put
put-lives d o t None a h = tt
put-lives d o t (Some x) a h =
    let g = handed d o a x.unit _ h.1.is in
    (g.object, record { is = g.lives_so; life = ap (λ (y : Living). y.life) (sym g.is) })

-- ---- what calls need

-- an object that a name holds lives
pub hand-life : (d : Declared) (o : Objects) (c u n : ℕ) → AreStocked d o → LivesAs (in_hands o) c u n → (l : Living) × HasLife o.lives u n l
hand-life d o c u n a h = (let g = handed d o a u _ h.is in (g.object, record { is = g.lives_so; life = ap (λ (y : Living). y.life) (sym g.is) }))

-- .. and has as many values as slots and names know it by
pub hand-values : (d : Declared) (o : Objects) (u : ℕ) (h : Living) → AreStocked d o → in_hands o u ≡ Some h → values_in (o.lives u) ≡ values_in (in_hands o u)
hand-values d o u h a e = (let g = handed d o a u h e in ap values_in g.lives_so ∙ (ap (λ (y : Living). y.values) (sym g.is) ∙ ap values_in (sym e)))

there-of : (place : ℕ) (slots : List Named) (maps : List MapDeclaration) (m : MapDeclaration) → names_in slots ≡ map (λ (x : MapDeclaration). x.name) maps → slice_get maps place ≡ Some m → (place < length slots) × ((slot_at place slots).name ≡ m.name)
there-of place slots [] m e f = cc
there-of place [] (x ∷ xs) m e f = cc
there-of zero (s ∷ ss) (x ∷ xs) m e f = (let same : x ≡ m = cc in let first : s.name ≡ x.name = cc in (omega arith, first ∙ ap (λ (y : MapDeclaration). y.name) same))
there-of (suc place) (s ∷ ss) (x ∷ xs) m e f = (let rest : names_in ss ≡ map (λ (y : MapDeclaration). y.name) xs = cc in let h = there-of place ss xs m rest f in let lt = h.0 in (omega (arith, lt), h.1))

-- a declared map's slot is there, with its name
pub slot-there : (d : Declared) (o : Objects) (place : ℕ) (m : MapDeclaration) → AreStocked d o → slice_get d.maps place ≡ Some m → place < length o.slots
slot-there d o place m a f = (there-of place o.slots d.maps m a.names f).0

pub slot-name : (d : Declared) (o : Objects) (place : ℕ) (m : MapDeclaration) → AreStocked d o → slice_get d.maps place ≡ Some m → (slot_at place o.slots).name ≡ m.name
slot-name d o place m a f = (there-of place o.slots d.maps m a.names f).1

-- names hold nothing of what doesn't live
pub no-hands : (o : Objects) (u : ℕ) → o.lives u ≡ None → in_hands o u ≡ None
no-hands o u e = ap (less_times (elsewhere o u)) e ∙ less-none (elsewhere o u)
