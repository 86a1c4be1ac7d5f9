-- The names that a table knows.
use Rattle.std.proofs.Common.{◌≡◌, ℕ, true, List, ap, inl, inr}
use Rattle.std.specs.List.{list_any}
use Rattle.std.specs.Str.{bytes_eq}
use Rattle.bm_check.specs.Values as safe
use Rattle.bm_exec.specs.declared.holding.Holding.TheVariants.{Nothing}
use Rattle.bm_exec.specs.declared.names.NameTable.{NameTable}
use Rattle.bm_exec.specs.Seen.{has_name, held_of, names_of, words_of}
use Rattle.bm_exec.specs.Stores.{value_of}
use Rattle.bm_exec.proofs.Tables.{absent, is_or_not}

-- the same keys are the same names
pub same-names : (t u : NameTable) → u.names.keys ≡ t.names.keys → has_name u ≡ has_name t
same-names t u e = ap (λ ks. (λ x. list_any (bytes_eq x) (words_of ks))) e

-- a name that owns is there
pub owning-there : (t : NameTable) (x : List ℕ) → safe.is_owning (value_of (names_of t x)) ≡ true → has_name t x ≡ true
owning-there t x e = elim (is_or_not (has_name t x)) [
  | inl isit ↦ isit
  | inr isnt ↦ absurd (not-owning (absent (words_of t.names.keys) t.holdings.items x isnt) e)
]
  where
    not-owning : {h : _} → h ≡ Nothing → safe.is_owning (value_of (held_of h)) ≡ true → ⊥
    not-owning p q = let r = rw p at q in cc
