-- The states of all names at a place of a script.
use Rattle.std.specs.Prelude.{◌≡◌, ℕ, Bool, false, not, List, [], ◌∷◌, ◌++◌, if◌then◌else◌}
use Rattle.std.specs.List.{list_any}
use Rattle.std.specs.Str.{bytes_eq}
use Rattle.bm_check.specs.declared.name_state.NameState.{NameState}
use Rattle.bm_check.specs.declared.name_state.NameState.TheVariants.{Unbound}
use Rattle.bm_check.specs.NameStates.{owns, soft_spent, agrees, clashes, joined_state, repeated_state}

-- the state of each name, and the names that were bound so far in the text, by their first bindings. All others are unbound
pub record Names : Type 0 where
  pub met : List (List ℕ)
  pub state : List ℕ → NameState

-- a name that wasn't met is unbound
abbrev pub Covered : Names → Type 0
Covered n = (x : List ℕ) → list_any (bytes_eq x) n.met ≡ false → n.state x ≡ Unbound

-- at the start of a script
abbrev pub no_names : Names
no_names = record { met = []; state = λ x. Unbound }

abbrev pub with_name : List (List ℕ) → List ℕ → List (List ℕ)
with_name met x = if list_any (bytes_eq x) met then met else met ++ x ∷ []

-- one name gets a state
abbrev pub put : Names → List ℕ → NameState → Names
put n x s = record { met = with_name n.met x; state = λ y. if bytes_eq x y then s else n.state y }

-- all non-owning references end
abbrev pub soft_ended : Names → Names
soft_ended n = record { met = n.met; state = λ y. soft_spent (n.state y) }

abbrev pub some_name : (List ℕ → Bool) → Names → Bool
some_name p n = list_any p n.met

-- some name has an object that must be given up
abbrev pub owns_some : Names → Bool
owns_some n = some_name (λ x. owns (n.state x)) n

-- the states of an earlier place, behind the text of a later one
abbrev pub back_to : Names → Names → Names
back_to n later = record { met = later.met; state = n.state }

-- the two branches of an `if`, the second of which stands later in the text
abbrev pub branches_clash : Names → Names → Bool
branches_clash first second = some_name (λ x. clashes (first.state x) (second.state x)) second

abbrev pub joined : Names → Names → Names
joined first second =
    record { met = second.met; state = λ x. joined_state (first.state x) (second.state x) }

-- the start and the end of a repeated body
abbrev pub body_changes : Names → Names → Bool
body_changes start end = some_name (λ x. not (agrees (start.state x) (end.state x))) end

abbrev pub repeated : Names → Names → Names
repeated start end =
    record { met = end.met; state = λ x. repeated_state (start.state x) (end.state x) }
