-- What a checker's table of names means.
use Rattle.std.specs.Prelude.{◌≡◌, ℕ, true, List, [], ◌∷◌, ◌++◌, map, if◌then◌else◌}
use Rattle.std.specs.List.{list_any}
use Rattle.std.specs.Borrow.{Bor}
use Rattle.std.specs.Str.{bytes_eq}
use Rattle.bm_check.specs.declared.name_state.NameState.{NameState}
use Rattle.bm_check.specs.declared.name_state.NameState.TheVariants.{Unbound}
use Rattle.bm_check.specs.declared.table.NameTable.{NameTable}
use Rattle.bm_check.specs.NameStates.{is_soft}
use Rattle.bm_check.specs.Names.{Names}

-- the state of a name, where the states stand in the order of the names. A name that isn't there, or has no state, is unbound
abbrev pub looked_up : List (List ℕ) → List NameState → List ℕ → NameState
looked_up [] states x = Unbound
looked_up (y ∷ met) [] x = Unbound
looked_up (y ∷ met) (s ∷ states) x = if bytes_eq x y then s else looked_up met states x

abbrev pub words_of : List (Bor (List ℕ)) → List (List ℕ)
words_of keys = map (λ k. k.now) keys

abbrev pub names_with : NameTable → List NameState → Names
names_with t states =
    record { met = words_of t.names.keys; state = looked_up (words_of t.names.keys) states }

abbrev pub names_of : NameTable → Names
names_of t = names_with t t.states.items

-- every name that is a non-owning reference is on a list
abbrev pub AreListed : List (Bor (List ℕ)) → Names → Type 0
AreListed soft n =
    (x : List ℕ) → is_soft (n.state x) ≡ true → list_any (λ k. bytes_eq x k.now) soft ≡ true

-- a name that gets a state is listed where that is such a reference
abbrev pub listed : List (Bor (List ℕ)) → Bor (List ℕ) → NameState → List (Bor (List ℕ))
listed soft x s = if is_soft s then soft ++ x ∷ [] else soft
