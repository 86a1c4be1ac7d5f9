-- The scenario that a text is read as.
use Rattle.std.specs.Prelude.{ℕ, List, [], ◌∷◌, ◌++◌, Result, Ok, Err}
use Rattle.bm_lang.specs.declared.fault.BadText.{BadText}
use Rattle.bm_lang.specs.declared.fault.LangFault.{LangFault}
use Rattle.bm_lang.specs.declared.fault.LangFault.TheVariants.{Bad, NoMemory}
use Rattle.bm_lang.specs.declared.scenario.Parts.{Parts}
use Rattle.bm_lang.specs.Tokens.{End, tokens, start}
use Rattle.bm_lang.specs.Spelling.{any, spell_scenario}
use Rattle.bm_lang.specs.Fine.{HasConditions}
use Rattle.bm_lang.specs.Reads.{Spells, Says}

-- the text's tokens spell the scenario, and it meets its conditions
pub record Reads (bytes : List ℕ) (s : Parts) : Type 0 where
  pub spelled : Spells (tokens start bytes) (spell_scenario s ++ any End ∷ []) []
  pub conditions : HasConditions s

-- the same, line numbers apart
pub record ReadsButLines (bytes : List ℕ) (s : Parts) : Type 0 where
  pub said : Says (tokens start bytes) (spell_scenario s ++ any End ∷ []) []
  pub conditions : HasConditions s

-- line numbers apart, some text has the scenario as its reading
abbrev pub IsFine : Parts → Type 0
IsFine s = (bytes : List ℕ) × ReadsButLines bytes s

abbrev pub IfBad : Result Parts LangFault → (BadText → Type 0) → Type 0
IfBad (Ok s) p = Unit {0}
IfBad (Err NoMemory) p = Unit {0}
IfBad (Err (Bad f)) p = p f

-- an answer other than want of memory is Ok
abbrev pub IsOkUnlessMemory : Result Parts LangFault → Type 0
IsOkUnlessMemory (Ok s) = Unit {0}
IsOkUnlessMemory (Err NoMemory) = Unit {0}
IsOkUnlessMemory (Err (Bad f)) = ⊥
