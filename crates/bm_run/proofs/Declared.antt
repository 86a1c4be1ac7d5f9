-- What the language's conditions say of types and `run` lines.
use Rattle.std.proofs.Common.{◌≡◌, ℕ, suc, zero, Bool, true, false, ◌&&◌, List, [], ◌∷◌, ◌++◌, map, get_or, refl, IsSome, slice_get}
use Rattle.std.specs.List.{list_all}
use Rattle.std.specs.Option.{IsSomeAnd}
use Rattle.bm_lang.specs.declared.scenario.Parts.{Parts}
use Rattle.bm_lang.specs.declared.scenario.TypeDeclaration.{TypeDeclaration}
use Rattle.bm_lang.specs.Fine.{FineTypes, HasConditions}
use Rattle.bm_lang.specs.Names.{TypeForm, has_size, runs_as}
use Rattle.bm_lang.specs.Spelling.{type_form, script_form}
use Rattle.bm_run.specs.Lines.{AreDeclared}

both : (a b : Bool) → a ≡ true → b ≡ true → (a && b) ≡ true
both true b e f = f
both false b e f = cc

pub all-sized : (before : List TypeForm) (types : List TypeDeclaration) → FineTypes before types → list_all (λ (t : TypeDeclaration). has_size (type_form t)) types ≡ true
all-sized before [] h = refl
all-sized before (t ∷ ts) h = both (has_size (type_form t)) (list_all (λ (x : TypeDeclaration). has_size (type_form x)) ts) h.1.size (all-sized (before ++ type_form t ∷ []) ts h.2)

found : {A B : Type 0} (f : A → B) (xs : List A) (i : ℕ) (P : B → Type 0) → IsSomeAnd (slice_get (map f xs) i) P → IsSome (slice_get xs i)
found f [] i P h = absurd h
found f (x ∷ xs) zero P h = refl
found f (x ∷ xs) (suc i) P h = found f xs i P h

pub all-declared : (s : Parts) → HasConditions s → AreDeclared s s.runs
all-declared s h i d lt = found script_form s.scripts (get_or s.runs i d).script.0 (λ x. runs_as false x.kind ≡ true) (h.runs i d lt).script
