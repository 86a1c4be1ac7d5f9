-- An object that has just begun.
use Rattle.std.proofs.Common.{◌≡◌, ◌∙◌, ◌+◌, ◌-◌, List, ℕ, Option, None, Some, true, eqb, eq-eqb, inl, inr, length, refl, subst, sym, ap}
use Rattle.std.proofs.lemmas.Bool.Decides.{eqb_tells}
use Rattle.bm_grace.specs.Known.{Known, Living}
use Rattle.bm_journal.specs.declared.ids.ObjId.{ObjId}
use Rattle.bm_journal.specs.declared.ids.Tag.{Tag}
use Rattle.bm_law_order.specs.Graphs.{NamedGraph, standing_from}
use Rattle.bm_page.specs.UnitState.{UnitState}
use Rattle.bm_world.specs.Lives.{HasLife, count_in, life_acquired, life_begun, life_given_up, life_of_unit, slot_exchanged, with_references}
use Rattle.bm_world.specs.LivingState.{LivingState, lives_of}
use Rattle.bm_world.specs.declared.slots.Object.{Object}

-- it lives, with one reference and its values
pub begun-here : (type : ℕ) (values : List ℕ) (u : UnitState) (k now : Known) (o : ObjId)
    → o ≡ record { unit = u.number; life = u.life + 1 } → now ≡ life_begun type values u k
    → now.objects.lives o.unit ≡ Some (life_of_unit type 1 values (record u { life = u.life + 1 }))
begun-here type values u k now o is known =
    let same : eqb u.number o.unit ≡ true = eq-eqb u.number o.unit (sym (ap (λ (x : ObjId). x.unit) is)) in
    ap (λ (s : Known). s.objects.lives o.unit) known ∙ (rw same refl)

pub begun-life : (type : ℕ) (values : List ℕ) (u : UnitState) (k now : Known) (o : ObjId)
    → o ≡ record { unit = u.number; life = u.life + 1 } → now ≡ life_begun type values u k
    → HasLife now.objects.lives o.unit o.life (life_of_unit type 1 values (record u { life = u.life + 1 }))
begun-life type values u k now o is known = record { is = begun-here type values u k now o is known; life = sym (ap (λ (x : ObjId). x.life) is) }

-- it stands in no list or tree where it stood in none, and they are as they were
pub same-alone : (n : ℕ) (k now : Known) → now.objects.graphs ≡ k.objects.graphs
    → standing_from 0 k.objects.graphs n ≡ None → standing_from 0 now.objects.graphs n ≡ None
same-alone n k now same alone = ap (λ (gs : List NamedGraph). standing_from 0 gs n) same ∙ alone

-- .. and so it is once it has begun
pub begun-alone : (type : ℕ) (values : List ℕ) (u : UnitState) (k now : Known) (o : ObjId)
    → o ≡ record { unit = u.number; life = u.life + 1 } → now ≡ life_begun type values u k
    → standing_from 0 k.objects.graphs u.number ≡ None → standing_from 0 now.objects.graphs o.unit ≡ None
begun-alone type values u k now o is known alone =
    let here : standing_from 0 k.objects.graphs o.unit ≡ None = ap (λ (x : ObjId). standing_from 0 k.objects.graphs x.unit) is ∙ alone in
    same-alone o.unit k now (ap (λ (s : Known). s.objects.graphs) known) here

-- it lives, with one reference more
pub acquired-here : (n : ℕ) (k now : Known) (l : Living) → now ≡ life_acquired n k → k.objects.lives n ≡ Some l
    → now.objects.lives n ≡ Some (record l { count = count_in (k.objects.lives n) + 1 })
acquired-here n k now l known was =
    let same : eqb n n ≡ true = eq-eqb n n refl in
    ap (λ (s : Known). s.objects.lives n) known ∙ ((rw same refl) ∙ ap (with_references (count_in (k.objects.lives n) + 1)) was)

pub acquired-life : (o : ObjId) (k now : Known) (l : Living) → now ≡ life_acquired o.unit k → HasLife k.objects.lives o.unit o.life l
    → HasLife now.objects.lives o.unit o.life (record l { count = count_in (k.objects.lives o.unit) + 1 })
acquired-life o k now l known was = record { is = acquired-here o.unit k now l known was.is; life = was.life }

-- its count, once one of its references was given up
pub given-up-count : (n : ℕ) (k now : Known) (l : Living) → now ≡ life_given_up n k → k.objects.lives n ≡ Some l → count_in (now.objects.lives n) ≡ l.count - 1
given-up-count n k now l known was =
    let same : eqb n n ≡ true = eq-eqb n n refl in
    ap (λ (s : Known). count_in (s.objects.lives n)) known ∙ (rw (same, was) refl)

-- it lives on where a slot's content is exchanged
pub exchanged-here : (place : ℕ) (put : Option ObjId) (tag : Tag) (k now : Known) (o : ObjId) (l : Living)
    → now ≡ slot_exchanged place put tag k → HasLife k.objects.lives o.unit o.life l → HasLife now.objects.lives o.unit o.life l
exchanged-here place put tag k now o l known was = record { is = ap (λ (s : Known). s.objects.lives o.unit) known ∙ was.is; life = was.life }

-- .. and where the slots are as before
pub kept-life : (before now : List (Option Object)) (o : ObjId) (l : Living) → now ≡ before → HasLife (lives_of before) o.unit o.life l → HasLife (lives_of now) o.unit o.life l
kept-life before now o l same was = subst (λ (slots : List (Option Object)). HasLife (lives_of slots) o.unit o.life l) (sym same) was

-- .. and once another unit, which didn't live, has begun a life
pub lives-beside : (type : ℕ) (values : List ℕ) (u : UnitState) (k now : Known) (o : ObjId) (l : Living)
    → k.objects.lives u.number ≡ None → now ≡ life_begun type values u k
    → HasLife k.objects.lives o.unit o.life l → HasLife now.objects.lives o.unit o.life l
lives-beside type values u k now o l none known was = record {
  is = ap (λ (s : Known). s.objects.lives o.unit) known ∙ elim (eqb_tells u.number o.unit) [
    | inl y ↦ (let here : k.objects.lives u.number ≡ k.objects.lives o.unit = ap k.objects.lives y.1 in let is = was.is in cc)
    | inr y ↦ rw y.0 was.is
  ];
  life = was.life;
}

-- two slots, and two objects that live
pub record TwoLive (world : LivingState) (one other : ObjId) : Type 0 where
  pub slots : length world.contents ≡ 2
  pub first : (l : Living) × HasLife (lives_of world.slots) one.unit one.life l
  pub second : (l : Living) × HasLife (lives_of world.slots) other.unit other.life l
