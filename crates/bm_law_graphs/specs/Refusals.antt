-- Refused pushes and additions, in the histories of all lists and trees. (bpf_list_push_front_impl, bpf_list_push_back_impl and
-- bpf_rbtree_add_impl of kernel/bpf/helpers.c answer -EINVAL where the node is in a list or tree. That a refused call names this one is
-- this project's own.)
use Rattle.std.specs.Prelude.{◌≡◌, ℕ, Bool, true, false, if◌then◌else◌, List, [], ◌∷◌, ◌++◌, get_or}
use Rattle.bm_journal.specs.declared.ids.ObjId.{ObjId}
use Rattle.bm_journal.specs.declared.past.Past.{Past}
use Rattle.bm_graph.specs.Objects.{same_object}
use Rattle.bm_law_objects.specs.Gathered.{OneOf}
use Rattle.bm_law_graphs.specs.Calls.{Effect, Puts, Refuses, Takes, effect_of, place_of}

-- whether an object is in a list or tree after a call on it, where it was in it before or not
abbrev pub stands_after : ObjId → Bool → Effect → Bool
stands_after id was (Puts x) = if same_object x id then true else was
stands_after id was (Takes x) = if same_object x id then false else was
stands_after id was _ = was

abbrev pub stands_from : ObjId → Bool → List Past → Bool
stands_from id was [] = was
stands_from id was (p ∷ ps) = stands_from id (stands_after id was (effect_of p.call)) ps

-- An object is in a list or tree after these calls on it: it was put in, and not taken since.
abbrev pub Stands : ObjId → List Past → Type 0
Stands id history = stands_from id false history ≡ true

-- this entry puts the object in
abbrev pub PutsIn : ObjId → Past → Type 0
PutsIn id p = effect_of p.call ≡ Puts id

-- A refused push onto the list or tree of this place, after these calls on it, names an owner: this very one exactly where the object
-- is in it; and else one on which the object was put.
pub record IsRefused (names : List (List ℕ)) (histories : List ℕ → List Past) (place : ℕ)
    (before : List Past) (id : ObjId) (owner : ℕ) : Type 0 where
  pub own : owner ≡ place → Stands id before
  pub only : Stands id before → owner ≡ place
  pub put : OneOf (PutsIn id) (histories (get_or names owner []))

abbrev pub RefusalFits :
    (names : List (List ℕ)) → (histories : List ℕ → List Past) → (place : ℕ) → List Past → Effect
    → Type 0
RefusalFits names histories place before (Refuses id owner) =
    IsRefused names histories place before id owner
RefusalFits names histories place before _ = Unit {0}

-- each entry of a history is so, after those before it
abbrev pub EachAfter : (List Past → Effect → Type 0) → (before : List Past) → List Past → Type 0
EachAfter P before [] = Unit {0}
EachAfter P before (p ∷ ps) = P before (effect_of p.call) × EachAfter P (before ++ p ∷ []) ps

-- Each refused push of each list and tree names the one in which its object is.
abbrev pub RefusalLaw : (names : List (List ℕ)) → (histories : List ℕ → List Past) → Type 0
RefusalLaw names histories =
    (name : List ℕ)
    → EachAfter (RefusalFits names histories (place_of names name)) [] (histories name)
