-- The histories of a journal are those of the lists and trees that the world tells: that of a slot's place is empty.
use Rattle.std.proofs.Common.{◌≡◌, ◌∙◌, ℕ, suc, Bool, true, false, not, List, [], ◌∷◌, ap, ap₂, map, inl, inr, length, refl, subst, sym}
use Rattle.std.specs.Prelude.{if◌then◌else◌}
use Rattle.std.specs.List.{list_all}
use Rattle.std.specs.Str.{bytes_eq}
use Rattle.std.proofs.lemmas.Bool.{and_parts, cases_Bool, not-true}
use Rattle.std.proofs.lemmas.Slice.Eq.{bytes_eq-Decides}
use Rattle.bm_journal.specs.declared.past.Past.{Past}
use Rattle.bm_lang.specs.declared.scenario.MapDeclaration.{MapDeclaration}
use Rattle.bm_lang.specs.declared.scenario.MapKind.{MapKind}
use Rattle.bm_lang.specs.declared.scenario.MapKind.TheVariants as kind
use Rattle.bm_law_order.specs.Graphs.{NamedGraph, graph_names_in, history_in}
use Rattle.bm_law_scenario.specs.Lawful.{graph_names, is_graph_kind}
use Rattle.bm_law_journal.specs.Lawful.{history_of}
use Rattle.bm_world.specs.Contents.{are_apart}
use Rattle.bm_world.specs.GraphItems.{history_told}
use Rattle.bm_exec_levels.specs.Slotted.{AreUnused}
use Rattle.bm_run.specs.Histories.{of_graphs}

abbrev Names : List MapDeclaration → List (List ℕ)
Names maps = map (λ (m : MapDeclaration). m.name) maps

-- the same maps without the first
names-behind : (g : NamedGraph) (gs : List NamedGraph) (m : MapDeclaration) (ms : List MapDeclaration) → graph_names_in (g ∷ gs) ≡ Names (m ∷ ms) → (g.name ≡ m.name) × (graph_names_in gs ≡ Names ms)
names-behind g gs m ms e = (let first : g.name ≡ m.name = cc in let rest : graph_names_in gs ≡ Names ms = cc in (first, rest))

unused-behind : (g : NamedGraph) (gs : List NamedGraph) (m : MapDeclaration) (ms : List MapDeclaration) → AreUnused (m ∷ ms) (g ∷ gs) → AreUnused ms gs
unused-behind g gs m ms h place x e k = h (suc place) x e k

-- how many there are
pub as-many : (gs : List NamedGraph) (ms : List MapDeclaration) → graph_names_in gs ≡ Names ms → length (map history_told gs) ≡ length ms
as-many [] [] e = refl
as-many [] (m ∷ ms) e = cc
as-many (g ∷ gs) [] e = cc
as-many (g ∷ gs) (m ∷ ms) e = ap suc (as-many gs ms (names-behind g gs m ms e).1)

-- their names
names-more : (m : MapDeclaration) (ms : List MapDeclaration) (g : NamedGraph) (hs : List (List ℕ × List Past)) (b : Bool) → is_graph_kind m.kind ≡ b → g.name ≡ m.name → map (λ (h : List ℕ × List Past). h.0) (of_graphs ms hs) ≡ graph_names ms → map (λ (h : List ℕ × List Past). h.0) (of_graphs (m ∷ ms) (history_told g ∷ hs)) ≡ graph_names (m ∷ ms)
names-more m ms g hs true k first rest = rw k (ap₂ (λ (n : List ℕ) (ns : List (List ℕ)). n ∷ ns) first rest)
names-more m ms g hs false k first rest = rw k rest

pub kept-names : (ms : List MapDeclaration) (gs : List NamedGraph) → graph_names_in gs ≡ Names ms → map (λ (h : List ℕ × List Past). h.0) (of_graphs ms (map history_told gs)) ≡ graph_names ms
kept-names [] gs e = refl
kept-names (m ∷ ms) [] e = cc
kept-names (m ∷ ms) (g ∷ gs) e = (let both = names-behind g gs m ms e in names-more m ms g (map history_told gs) (is_graph_kind m.kind) refl both.0 (kept-names ms gs both.1))

-- a name that none of them has has no history
swapped : (x y : List ℕ) (b : Bool) → bytes_eq x y ≡ b → bytes_eq y x ≡ false → b ≡ false
swapped x y false e f = refl
swapped x y true e f =
    let same : x ≡ y = (bytes_eq-Decides x y).0 e in
    let there : bytes_eq y x ≡ true = (bytes_eq-Decides y x).1 (sym same) in
    sym there ∙ f

absent-more : (m : MapDeclaration) (ms : List MapDeclaration) (g : NamedGraph) (hs : List (List ℕ × List Past)) (name : List ℕ) (b : Bool) → is_graph_kind m.kind ≡ b → bytes_eq g.name name ≡ false → history_of (of_graphs ms hs) name ≡ [] → history_of (of_graphs (m ∷ ms) (history_told g ∷ hs)) name ≡ []
absent-more m ms g hs name true k other rest = rw (k, other) rest
absent-more m ms g hs name false k other rest = rw k rest

absent : (ms : List MapDeclaration) (gs : List NamedGraph) (name : List ℕ) → list_all (λ n. not (bytes_eq name n)) (graph_names_in gs) ≡ true → history_of (of_graphs ms (map history_told gs)) name ≡ []
absent [] gs name h = refl
absent (m ∷ ms) [] name h = refl
absent (m ∷ ms) (g ∷ gs) name h =
    let parts = and_parts (not (bytes_eq name g.name)) (list_all (λ n. not (bytes_eq name n)) (graph_names_in gs)) h in
    let other : bytes_eq g.name name ≡ false = swapped g.name name (bytes_eq g.name name) refl (not-true (bytes_eq name g.name) parts.0) in
    absent-more m ms g (map history_told gs) name (is_graph_kind m.kind) refl other (absent ms gs name parts.1)

slot-is : (k : MapKind) → is_graph_kind k ≡ false → k ≡ kind.Slot
slot-is kind.Slot e = refl
slot-is kind.List e = cc
slot-is kind.Tree e = cc

-- one map more: a list or tree, or a slot
histories-more : (m : MapDeclaration) (ms : List MapDeclaration) (g : NamedGraph) (gs : List NamedGraph) (name : List ℕ) (b : Bool) → is_graph_kind m.kind ≡ b → (m.kind ≡ kind.Slot → g.history ≡ []) → history_of (of_graphs ms (map history_told gs)) g.name ≡ [] → history_of (of_graphs ms (map history_told gs)) name ≡ history_in gs name →
    history_of (of_graphs (m ∷ ms) (history_told g ∷ map history_told gs)) name ≡ (if bytes_eq g.name name then g.history else history_in gs name)
histories-more m ms g gs name true k empty none rest = rw k (ap (λ (h : List Past). if bytes_eq g.name name then g.history else h) rest)
histories-more m ms g gs name false k empty none rest = rw k (elim (cases_Bool (bytes_eq g.name name)) [
  | inl y ↦
      let same : g.name ≡ name = (bytes_eq-Decides g.name name).0 y in
      rw y (subst (λ n. history_of (of_graphs ms (map history_told gs)) n ≡ []) same none ∙ sym (empty (slot-is m.kind k)))
  | inr n ↦ rw n rest
])

-- The history of each name is the one that the world tells.
pub kept-histories : (ms : List MapDeclaration) (gs : List NamedGraph) (name : List ℕ) → graph_names_in gs ≡ Names ms → are_apart (graph_names_in gs) ≡ true → AreUnused ms gs → history_of (of_graphs ms (map history_told gs)) name ≡ history_in gs name
kept-histories [] [] name e apart unused = refl
kept-histories [] (g ∷ gs) name e apart unused = cc
kept-histories (m ∷ ms) [] name e apart unused = cc
kept-histories (m ∷ ms) (g ∷ gs) name e apart unused =
    let parts = and_parts (list_all (λ n. not (bytes_eq g.name n)) (graph_names_in gs)) (are_apart (graph_names_in gs)) apart in
    let both = names-behind g gs m ms e in
    histories-more m ms g gs name (is_graph_kind m.kind) refl (λ k. (unused 0 m refl k).0) (absent ms gs g.name parts.0) (kept-histories ms gs name both.1 parts.1 (unused-behind g gs m ms unused))
