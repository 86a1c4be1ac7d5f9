-- What the world with the units that live in it knows once a life began or ended, and tells of all other units.
use Rattle.std.proofs.Common.{◌≡◌, ◌≢◌, ◌∙◌, ◌+◌, ℕ, List, Option, None, Some, Bool, refl, sym, ap, subst, inl, inr, set}
use Rattle.std.specs.Prelude.{◌&&◌, ◌-◌, ◌<◌, ◌≤◌, length, not, true, false, is_some, if◌then◌else◌, eqb}
use Rattle.std.proofs.lemmas.Bool.Decides.{eqb_tells}
use Rattle.std.proofs.lemmas.List.{get_or-set_other}
use mathlib.Core.Path.{fun_ext}
use Rattle.bm_page.specs.UnitState.{UnitState}
use Rattle.bm_grace.specs.Known.{Known, Living, Lives}
use Rattle.bm_post.specs.PostState.{PostState, is_mine}
use Rattle.bm_world.specs.Lives.{HasLife, OthersAsBefore, count_in, life_acquired, life_begun, life_ended, life_given_up, life_of_unit, recounted, values_in, with_life, with_references}
use Rattle.bm_world.specs.LivingState.{IsCounted, LivingState, begun_at, known_living, lives_of, living_of, may_live, next_life, rights_living, rights_with_living, slots_counted, standings_after, wait_now, with_acquired, with_begun, with_ended, with_given_up}
use Rattle.bm_world.specs.Standings.{counts_for, has_waited, is_over, is_waiting, standing_at}
use Rattle.bm_world.specs.declared.standing.Standing.{Standing}
use Rattle.bm_world.specs.declared.standing.Standing.TheVariants.{Nothing, Waits}
use Rattle.bm_world.specs.SideState.{known_of}
use Rattle.bm_world.specs.Slots.{count_of, new_object, object_at, unit_at, unit_of, values_of, with_count}
use Rattle.bm_world.specs.declared.slots.Object.{Object}
use Rattle.bm_world.proofs.SlotLemmas.{Slotted, at-other, object-other, object-same, within}

-- the object of one number, after its slot was written
pub lives-set : (slots : Slotted) (n : ℕ) (x : Option Object) → object_at (set slots n x) n ≡ x → lives_of (set slots n x) ≡ with_life n (living_of x) (lives_of slots)
lives-set slots n x e = fun_ext (λ v. elim (eqb_tells n v) [
  | inl y ↦ (let F : ℕ → Type 0 = λ k. living_of (object_at (set slots n x) k) ≡ living_of x in let h : F v = subst F y.1 (ap living_of e) in rw y.0 h)
  | inr y ↦ (let h : object_at (set slots n x) v ≡ object_at slots v = object-other slots n v x (λ q. y.1 (sym q)) in rw y.0 (ap living_of h))
])

-- how many lives of one unit
counts-set : (begun : List ℕ) (n x : ℕ) → begun_at (set begun n x) n ≡ x → begun_at (set begun n x) ≡ (λ v. if eqb n v then x else begun_at begun v)
counts-set begun n x e = fun_ext (λ v. elim (eqb_tells n v) [
  | inl y ↦ (let F : ℕ → Type 0 = λ k. begun_at (set begun n x) k ≡ x in let h : F v = subst F y.1 e in rw y.0 h)
  | inr y ↦ (let h : begun_at (set begun n x) v ≡ begun_at begun v = get_or-set_other begun n v x 0 (λ q. y.1 (sym q)) in rw y.0 h)
])

-- a unit begins a life
pub known-begun : (type : ℕ) (values : List ℕ) (u : UnitState) (w : LivingState) → object_at (set w.slots u.number (Some (new_object type values (next_life u)))) u.number ≡ Some (new_object type values (next_life u)) → begun_at (set w.begun u.number (u.life + 1)) u.number ≡ u.life + 1 → known_living (with_begun type values u w) ≡ life_begun type values u (known_living w)
known-begun type values u w s b =
    let K : Lives → (ℕ → ℕ) → Known = λ xs ys. record (known_of w.side) { objects = record { lives = xs; begun = ys; asked = w.asked + 1; slots = w.contents; graphs = w.graphs } } in
    ap (λ xs. K xs (begun_at (set w.begun u.number (u.life + 1)))) (lives-set w.slots u.number (Some (new_object type values (next_life u))) s)
    ∙ ap (K (with_life u.number (Some (life_of_unit type 1 values (next_life u))) (lives_of w.slots))) (counts-set w.begun u.number (u.life + 1) b)

-- a life ends
pub known-ended : (delayed : Bool) (n : ℕ) (w : LivingState) → object_at (set w.slots n None) n ≡ None → known_living (with_ended delayed n w) ≡ life_ended n (known_living w)
known-ended delayed n w s =
    let K : Lives → Known = λ xs. record (known_of w.side) { objects = record { lives = xs; begun = begun_at w.begun; asked = w.asked; slots = w.contents; graphs = w.graphs } } in
    ap K (lives-set w.slots n None s)

-- an object has another number of references
living-counted : (count : ℕ) (x : Option Object) → living_of (with_count count x) ≡ with_references count (living_of x)
living-counted count None = refl
living-counted count (Some o) = refl

pub count-told : (x : Option Object) → count_in (living_of x) ≡ count_of x
count-told None = refl
count-told (Some o) = refl

pub values-told : (x : Option Object) → values_in (living_of x) ≡ values_of x
values-told None = refl
values-told (Some o) = refl

-- an object that is known to live
pub record IsLiving (slots : Slotted) (n life : ℕ) : Type 0 where
  pub object : Object
  pub is : object_at slots n ≡ Some object
  pub now_is : object.unit.life ≡ life
  pub within : n < length slots

pub is-living : (slots : Slotted) (n life : ℕ) (l : Living) → HasLife (lives_of slots) n life l → IsLiving slots n life
is-living slots n life l h = of-slot (object_at slots n) refl h.is
  where
    of-slot : (x : Option Object) → object_at slots n ≡ x → living_of x ≡ Some l → IsLiving slots n life
    of-slot None e f = cc
    of-slot (Some o) e f = record {
      object = o;
      is = e;
      now_is = (let same : life_of_unit o.type_number o.count o.values o.unit ≡ l = cc in ap (λ (x : Living). x.life) same ∙ h.life);
      within = within slots n o.unit (ap unit_of e);
    }

-- how many references there are to it
pub counted-at : (asked : ℕ) (slots : Slotted) (n life : ℕ) → IsLiving slots n life → IsCounted asked (object_at slots n) → (0 < count_of (object_at slots n)) × (count_of (object_at slots n) ≤ asked)
counted-at asked slots n life h k = of-object (object_at slots n) h.object h.is k
  where
    of-object : (x : Option Object) (o : Object) → x ≡ Some o → IsCounted asked x → (0 < count_of x) × (count_of x ≤ asked)
    of-object None o e k = cc
    of-object (Some x) o e k = k

pub some-counted : (asked : ℕ) (x : Option Object) → is_some (living_of x) ≡ true → IsCounted asked x → 0 < count_of x
some-counted asked None e k = cc
some-counted asked (Some x) e k = k.0

lives-recounted : (slots : Slotted) (n count k : ℕ) → n < length slots → count ≡ k → lives_of (slots_counted n count slots) ≡ recounted n k (lives_of slots)
lives-recounted slots n count k lt e =
    lives-set slots n (with_count count (object_at slots n)) (object-same slots n (with_count count (object_at slots n)) lt)
    ∙ (ap (λ x. with_life n x (lives_of slots)) (living-counted count (object_at slots n)) ∙ ap (λ c. recounted n c (lives_of slots)) e)

pub known-acquired : (n : ℕ) (w : LivingState) → n < length w.slots → known_living (with_acquired n w) ≡ life_acquired n (known_living w)
known-acquired n w lt =
    let K : Lives → Known = λ xs. record (known_of w.side) { objects = record { lives = xs; begun = begun_at w.begun; asked = w.asked + 1; slots = w.contents; graphs = w.graphs } } in
    ap K (lives-recounted w.slots n (count_of (object_at w.slots n) + 1) (count_in (lives_of w.slots n) + 1) lt (ap (λ c. c + 1) (sym (count-told (object_at w.slots n)))))

pub known-given-up : (n : ℕ) (w : LivingState) → n < length w.slots → known_living (with_given_up n w) ≡ life_given_up n (known_living w)
known-given-up n w lt =
    let K : Lives → Known = λ xs. record (known_of w.side) { objects = record { lives = xs; begun = begun_at w.begun; asked = w.asked; slots = w.contents; graphs = w.graphs } } in
    ap K (lives-recounted w.slots n (count_of (object_at w.slots n) - 1) (count_in (lives_of w.slots n) - 1) lt (ap (λ c. c - 1) (sym (count-told (object_at w.slots n)))))

-- ---- all other units

-- rights of the same post, by slots, counts and standings that agree on all units but one
others-as : (post : PostState) (plain tracing : ℕ) (slots slots' : Slotted) (begun begun' : List ℕ) (standings standings' : List Standing) (u : ℕ) → ((n : ℕ) → n ≢ u → unit_at slots' n ≡ unit_at slots n) → ((n : ℕ) → n ≢ u → begun_at begun' n ≡ begun_at begun n) → ((n : ℕ) → n ≢ u → standing_at standings' n ≡ standing_at standings n) → OthersAsBefore u (rights_with_living post plain tracing slots begun standings) (rights_with_living post plain tracing slots' begun' standings')
others-as post plain tracing slots slots' begun begun' standings standings' u e f g = record {
  mine = λ n h. ap (λ (o : Option UnitState). is_mine post n && not (is_some o)) (e n h);
  settled = λ n life seal h. both n life (λ x. has_waited x seal) h;
  due = λ n life seal h. both n life is_waiting h;
  ripe = λ n life seal h. both n life (λ x. is_over plain tracing x seal) h;
  since = λ d x n h. ap (counts_for d x) (g n h);
}
  where
    both : (n life : ℕ) (test : Standing → Bool) → n ≢ u → (may_live begun' n life && test (standing_at standings' n)) ≡ (may_live begun n life && test (standing_at standings n))
    both n life test h =
        let may : may_live begun' n life ≡ may_live begun n life = rw (f n h) refl in
        ap (λ (b : Bool). b && test (standing_at standings' n)) may ∙ ap (λ x. may_live begun n life && test x) (g n h)

pub begun-others : (type : ℕ) (values : List ℕ) (u : UnitState) (w : LivingState) → OthersAsBefore u.number (rights_living w) (rights_living (with_begun type values u w))
begun-others type values u w = others-as w.side.post w.side.grace.plain.number w.side.grace.tracing.number w.slots (set w.slots u.number (Some (new_object type values (next_life u)))) w.begun (set w.begun u.number (u.life + 1)) w.standings (set w.standings u.number Nothing) u.number
    (λ n h. at-other w.slots u.number n (Some (new_object type values (next_life u))) h) (λ n h. get_or-set_other w.begun u.number n (u.life + 1) 0 h) (λ n h. get_or-set_other w.standings u.number n Nothing Nothing h)

pub ended-others : (delayed : Bool) (n : ℕ) (w : LivingState) → OthersAsBefore n (rights_living w) (rights_living (with_ended delayed n w))
ended-others delayed n w = others-as w.side.post w.side.grace.plain.number w.side.grace.tracing.number w.slots (set w.slots n None) w.begun w.begun w.standings (standings_after delayed n w.side.grace w.standings) n (λ m h. at-other w.slots n m None h) (λ m h. refl) (λ m h. as-before delayed m h)
  where
    as-before : (delayed : Bool) (m : ℕ) → m ≢ n → standing_at (standings_after delayed n w.side.grace w.standings) m ≡ standing_at w.standings m
    as-before true m h = get_or-set_other w.standings n m (Waits (wait_now w.side.grace)) Nothing h
    as-before false m h = refl
