-- What the names of a running script hold, as its table has them.
use Rattle.std.specs.Prelude.{ℕ, Bool, List, [], ◌∷◌, map, if◌then◌else◌}
use Rattle.std.specs.Global.{Vec}
use Rattle.std.specs.List.{list_any}
use Rattle.std.specs.Str.{bytes_eq}
use Rattle.bm_law_scenario.specs.Held as held
use Rattle.bm_exec.specs.declared.holding.Holding.{Holding}
use Rattle.bm_exec.specs.declared.holding.Holding.TheVariants.{Nothing, Null, Object, Soft}
use Rattle.bm_exec.specs.declared.names.NameTable.{NameTable}

abbrev pub held_of : Holding → held.Held
held_of Nothing = held.Nothing
held_of Null = held.Null
held_of (Object t o) = held.Object t o.unit o.life
held_of (Soft t graph o) = held.Soft t graph o.unit o.life

abbrev pub words_of : List (Vec ℕ) → List (List ℕ)
words_of keys = map (λ k. k.items) keys

-- what stands under a name, where the holdings stand in the order of the names; all that the list lacks is nothing
abbrev pub looked_up : List (List ℕ) → List Holding → List ℕ → Holding
looked_up [] holdings x = Nothing
looked_up (w ∷ words) [] x = Nothing
looked_up (w ∷ words) (h ∷ holdings) x = if bytes_eq x w then h else looked_up words holdings x

abbrev pub names_of : NameTable → held.Names
names_of t = λ x. held_of (looked_up (words_of t.names.keys) t.holdings.items x)

-- whether a name is in the table
abbrev pub has_name : NameTable → List ℕ → Bool
has_name t x = list_any (bytes_eq x) (words_of t.names.keys)
