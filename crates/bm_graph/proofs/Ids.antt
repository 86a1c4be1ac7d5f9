-- Ids of items: which of them an item has, and that no two items have one.
use Rattle.std.proofs.Common.{◌≡◌, true, false, cond, List, [], ◌∷◌, ◌++◌, Some, None, refl, sym, ap, ◌∙◌, inl, inr}
use Rattle.std.specs.Prelude.{◌==◌}
use Rattle.std.proofs.lemmas.Bool.{cases_Bool, eqb-true, eq-eqb, and_parts, and_from, or_from}
use Rattle.bm_journal.specs.declared.ids.ObjId.{ObjId}
use Rattle.bm_graph.specs.declared.item.Item.{Item}
use Rattle.bm_graph.specs.Objects.{same_object, has_object}
use Rattle.bm_graph.specs.Contents.{ids, item_of, IdsDiffer}

pub same_object-refl : (a : ObjId) → same_object a a ≡ true
same_object-refl a = and_from (a.unit == a.unit) (a.life == a.life) (eq-eqb a.unit a.unit refl) (eq-eqb a.life a.life refl)

-- ids that the test takes for one are one
pub same_object-true : (a b : ObjId) → same_object a b ≡ true → a ≡ b
same_object-true a b e =
    let parts = and_parts (a.unit == b.unit) (a.life == b.life) e in
    let units : a.unit ≡ b.unit = eqb-true a.unit b.unit parts.0 in
    let lives : a.life ≡ b.life = eqb-true a.life b.life parts.1 in
    ap (λ x. record { unit = x; life = a.life }) units ∙ ap (λ x. record { unit = b.unit; life = x }) lives

-- the test doesn't depend on which of the two comes first
pub same_object-sym : (a b : ObjId) → same_object a b ≡ false → same_object b a ≡ false
same_object-sym a b e = elim (cases_Bool (same_object b a)) [
  | inl same ↦ absurd (both (sym (ap (λ x. same_object x b) (sym (same_object-true b a same)) ∙ same_object-refl b) ∙ e))
  | inr apart ↦ apart
]
  where
    both : true ≡ false → ⊥
    both e = cc

module _ {T : Type 0} where
  some_none : (i : Item T) → Some i ≡ None → ⊥
  some_none i e = cc

  -- where no item has the id, the first one has another, and so have the others
  pub other_first : (i : Item T) (is : List (Item T)) (id : ObjId) → item_of (i ∷ is) id ≡ None → same_object i.id id ≡ false
  other_first i is id e = elim (cases_Bool (same_object i.id id)) [
    | inl same ↦ absurd (some_none i (sym (ap (λ b. cond b (Some i) (item_of is id)) same) ∙ e))
    | inr apart ↦ apart
  ]

  pub other_rest : (i : Item T) (is : List (Item T)) (id : ObjId) → item_of (i ∷ is) id ≡ None → item_of is id ≡ None
  other_rest i is id e = sym (ap (λ b. cond b (Some i) (item_of is id)) (other_first i is id e)) ∙ e

  pub other_both : (i : Item T) (is : List (Item T)) (id : ObjId) → same_object i.id id ≡ false → item_of is id ≡ None → item_of (i ∷ is) id ≡ None
  other_both i is id apart e = ap (λ b. cond b (Some i) (item_of is id)) apart ∙ e

  -- an id that no item has is not among the ids
  pub absent : (is : List (Item T)) (id : ObjId) → item_of is id ≡ None → has_object (ids is) id ≡ false
  absent [] id e = refl
  absent (i ∷ is) id e = or_from (same_object i.id id) (has_object (ids is) id) (other_first i is id e) (absent is id (other_rest i is id e))

  pub item_of-with : (before after : List (Item T)) (item : Item T) (id : ObjId) → item_of (before ++ after) id ≡ None → same_object item.id id ≡ false → item_of (before ++ item ∷ after) id ≡ None
  item_of-with [] after item id e apart = other_both item after id apart e
  item_of-with (b ∷ bs) after item id e apart =
      other_both b (bs ++ item ∷ after) id (other_first b (bs ++ after) id e) (item_of-with bs after item id (other_rest b (bs ++ after) id e) apart)

  pub item_of-without : (before after : List (Item T)) (item : Item T) (id : ObjId) → item_of (before ++ item ∷ after) id ≡ None → item_of (before ++ after) id ≡ None
  item_of-without [] after item id e = other_rest item after id e
  item_of-without (b ∷ bs) after item id e =
      other_both b (bs ++ after) id (other_first b (bs ++ item ∷ after) id e) (item_of-without bs after item id (other_rest b (bs ++ item ∷ after) id e))

  -- one more item, of an id that none had
  pub IdsDiffer-with : (before after : List (Item T)) (item : Item T) → IdsDiffer (before ++ after) → item_of (before ++ after) item.id ≡ None → IdsDiffer (before ++ item ∷ after)
  IdsDiffer-with [] after item d e = (e, d)
  IdsDiffer-with (b ∷ bs) after item d e =
      (item_of-with bs after item b.id d.0 (same_object-sym b.id item.id (other_first b (bs ++ after) item.id e)), IdsDiffer-with bs after item d.1 (other_rest b (bs ++ after) item.id e))

  -- one item less
  pub IdsDiffer-without : (before after : List (Item T)) (item : Item T) → IdsDiffer (before ++ item ∷ after) → IdsDiffer (before ++ after)
  IdsDiffer-without [] after item d = d.1
  IdsDiffer-without (b ∷ bs) after item d = (item_of-without bs after item b.id d.0, IdsDiffer-without bs after item d.1)
