-- What is put into lists and trees is taken out again. (Documentation/bpf/graph_ds_impl.rst: a list or tree owns what was put in until it is
-- taken out.)
use Rattle.std.specs.Prelude.{◌≡◌, ℕ, eqb, if◌then◌else◌, Option, Some, None, List, [], ◌∷◌}
use Rattle.bm_journal.specs.declared.entry.Entry.{Entry}
use Rattle.bm_law.specs.Lists.{Log}
use Rattle.bm_law_lives.specs.Together.{named, times}
use Rattle.bm_law_graphs.specs.Calls.{Effect, GraphCall, Puts, Takes, effect_of, graph_call}
use Rattle.bm_law_graphs.specs.Shelves.{Standing}

-- the life of this unit that is put in, and that is taken out
abbrev pub life_put : (u : ℕ) → Effect → List ℕ
life_put u (Puts id) = if eqb u id.unit then id.life ∷ [] else []
life_put u _ = []

abbrev pub life_taken : (u : ℕ) → Effect → List ℕ
life_taken u (Takes id) = if eqb u id.unit then id.life ∷ [] else []
life_taken u _ = []

-- .. by an entry, if it is such a call
abbrev pub of_call : (Effect → List ℕ) → Option GraphCall → List ℕ
of_call lives None = []
of_call lives (Some x) = lives (effect_of x.call)

abbrev pub put_by : (u : ℕ) → Entry → List ℕ
put_by u e = of_call (life_put u) (graph_call [] (λ v. 0) e)

abbrev pub taken_by : (u : ℕ) → Entry → List ℕ
taken_by u e = of_call (life_taken u) (graph_call [] (λ v. 0) e)

-- Each life of each unit is put into lists and trees as often as it is taken out of them.
abbrev pub TakesLaw : List Log → Type 0
TakesLaw logs =
    (u life : ℕ) → times life (named (put_by u) logs) ≡ times life (named (taken_by u) logs)

-- the life that stands in a list or tree, if one does
abbrev pub life_within : Option Standing → List ℕ
life_within None = []
life_within (Some x) = x.life ∷ []
