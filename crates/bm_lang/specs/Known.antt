-- What is known at the places of a text.
use Rattle.std.specs.Prelude.{ℕ, Bool, List, [], Option}
use Rattle.bm_lang.specs.declared.scenario.Node.{Node}
use Rattle.bm_lang.specs.Names.{Names, TypeForm, MapForm, ScriptForm, no_draft}

abbrev pub form : List ℕ → Bool → Option Node → List (List ℕ) → ℕ → TypeForm
form n c d fs p = record { name = n; counted = c; node = d; fields = fs; pad = p }

-- among the types
abbrev pub drafting : ℕ → List TypeForm → TypeForm → Names
drafting p types draft =
    record { processors = p; types = types; maps = []; scripts = []; draft = draft }

-- behind the types
abbrev pub knowing : ℕ → List TypeForm → List MapForm → List ScriptForm → Names
knowing p types maps scripts =
    record { processors = p; types = types; maps = maps; scripts = scripts; draft = no_draft }
