-- The histories of lists and trees, of those that a world tells of all maps.
use Rattle.std.specs.Prelude.{ℕ, if◌then◌else◌, List, [], ◌∷◌, ◌++◌}
use Rattle.bm_journal.specs.declared.past.Past.{Past}
use Rattle.bm_lang.specs.declared.scenario.MapDeclaration.{MapDeclaration}
use Rattle.bm_law_scenario.specs.Lawful.{is_graph_kind}

-- the history of a map, if it is a list or tree
abbrev pub of_graph : MapDeclaration → List ℕ × List Past → List (List ℕ × List Past)
of_graph m h = if is_graph_kind m.kind then h ∷ [] else []

-- of some histories, one a map, those of lists and trees
abbrev pub of_graphs : List MapDeclaration → List (List ℕ × List Past) → List (List ℕ × List Past)
of_graphs [] hs = []
of_graphs (m ∷ ms) [] = []
of_graphs (m ∷ ms) (h ∷ hs) = of_graph m h ++ of_graphs ms hs
