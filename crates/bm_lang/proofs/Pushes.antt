-- Lists that grow at the end.
use Rattle.std.proofs.Common.{◌≡◌, ℕ, false, List, [], ◌∷◌, ◌++◌, refl, sym, ap, ◌∙◌, subst, append_assoc}
use Rattle.std.specs.Prelude.{map}
use Rattle.std.specs.List.{flat_map}
use Rattle.std.proofs.lemmas.List.{append-nil}
pub use Rattle.std.proofs.lemmas.List.Elements.{All-push}
use Rattle.bm_lang.specs.declared.scenario.TypeDeclaration.{TypeDeclaration}
use Rattle.bm_lang.specs.declared.scenario.MapDeclaration.{MapDeclaration}
use Rattle.bm_lang.specs.declared.scenario.Script.{Script}
use Rattle.bm_lang.specs.declared.scenario.Statement.{Statement}
use Rattle.bm_lang.specs.Names.{TypeForm, MapForm, ScriptForm, has_name}
use Rattle.bm_lang.specs.Spelling.{type_form, map_form, script_form}
use Rattle.bm_lang.specs.Built.{FineStatements}
use Rattle.bm_lang.specs.Fine.{Fresh, FineAction, FineTypes, FineMaps, FineScripts}

pub map-push : {X Y : Type 0} (f : X → Y) (xs : List X) (x : X) → map f (xs ++ x ∷ []) ≡ map f xs ++ f x ∷ []
map-push f [] x = refl
map-push f (y ∷ xs) x = ap (λ ys. f y ∷ ys) (map-push f xs x)

pub flat_map-push : {X Y : Type 0} (f : X → List Y) (xs : List X) (x : X) → flat_map f (xs ++ x ∷ []) ≡ flat_map f xs ++ f x
flat_map-push f [] x = append-nil (f x)
flat_map-push f (y ∷ xs) x = ap (λ ys. f y ++ ys) (flat_map-push f xs x) ∙ sym (append_assoc (f y) (flat_map f xs) (f x))

pub fresh-push : (before xs : List (List ℕ)) (n : List ℕ) → Fresh before xs → has_name (before ++ xs) n ≡ false → Fresh before (xs ++ n ∷ [])
fresh-push before [] n f h = (ap (λ ns. has_name ns n) (sym (append-nil before)) ∙ h, tt)
fresh-push before (x ∷ xs) n f h = (f.0, fresh-push (before ++ x ∷ []) xs n f.1 (ap (λ ns. has_name ns n) (append_assoc before (x ∷ []) xs) ∙ h))

pub types-push : (before : List TypeForm) (ts : List TypeDeclaration) (t : TypeDeclaration) → FineTypes before ts → FineTypes (before ++ map type_form ts) (t ∷ []) → FineTypes before (ts ++ t ∷ [])
types-push before [] t f g = let P : List TypeForm → Type 0 = λ b. FineTypes b (t ∷ []) in subst P (append-nil before) g
types-push before (x ∷ ts) t f g = let P : List TypeForm → Type 0 = λ b. FineTypes b (t ∷ []) in (f.0, f.1, types-push (before ++ type_form x ∷ []) ts t f.2 (subst P (sym (append_assoc before (type_form x ∷ []) (map type_form ts))) g))

pub maps-push : (types : List TypeForm) (before : List MapForm) (ms : List MapDeclaration) (m : MapDeclaration) → FineMaps types before ms → FineMaps types (before ++ map map_form ms) (m ∷ []) → FineMaps types before (ms ++ m ∷ [])
maps-push types before [] m f g = let P : List MapForm → Type 0 = λ b. FineMaps types b (m ∷ []) in subst P (append-nil before) g
maps-push types before (x ∷ ms) m f g = let P : List MapForm → Type 0 = λ b. FineMaps types b (m ∷ []) in (f.0, f.1, maps-push types (before ++ map_form x ∷ []) ms m f.2 (subst P (sym (append_assoc before (map_form x ∷ []) (map map_form ms))) g))

pub scripts-push : (types : List TypeForm) (maps : List MapForm) (before : List ScriptForm) (ss : List Script) (s : Script) → FineScripts types maps before ss → FineScripts types maps (before ++ map script_form ss) (s ∷ []) → FineScripts types maps before (ss ++ s ∷ [])
scripts-push types maps before [] s f g = let P : List ScriptForm → Type 0 = λ b. FineScripts types maps b (s ∷ []) in subst P (append-nil before) g
scripts-push types maps before (x ∷ ss) s f g = let P : List ScriptForm → Type 0 = λ b. FineScripts types maps b (s ∷ []) in (f.0, f.1, scripts-push types maps (before ++ script_form x ∷ []) ss s f.2 (subst P (sym (append_assoc before (script_form x ∷ []) (map script_form ss))) g))

pub statements-push : (types : List TypeForm) (maps : List MapForm) (d : ℕ) (ss : List Statement) (s : Statement) → FineStatements types maps d ss → FineAction types maps d s.action → FineStatements types maps d (ss ++ s ∷ [])
statements-push types maps d [] s f g = (g, tt)
statements-push types maps d (x ∷ ss) s f g = (f.0, statements-push types maps d ss s f.1 g)

-- one more at the end of seven parts
pub end-of-seven : {X : Type 0} (h a b c d e f : List X) (x y : X) → h ++ (a ++ (b ++ (c ++ (d ++ (e ++ (f ++ x ∷ y ∷ [])))))) ≡ (h ++ (a ++ (b ++ (c ++ (d ++ (e ++ (f ++ x ∷ []))))))) ++ y ∷ []
end-of-seven h a b c d e f x y = sym (simp append_assoc)
