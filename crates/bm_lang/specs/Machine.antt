-- The machine that reads a text by the grammar, token by token, over the symbols that may come.
use Rattle.std.specs.Prelude.{ℕ, List, [], ◌∷◌, ◌++◌, Option, Some, None}
use Rattle.bm_lang.specs.declared.place.Place.{Place}
use Rattle.bm_lang.specs.declared.fault.BadKind.{BadKind}
use Rattle.bm_lang.specs.declared.fault.BadText.{BadText}
use Rattle.bm_lang.specs.Tokens.{Sort, Mark, tokens, start}
use Rattle.bm_lang.specs.Names.{Names, no_names}
use Rattle.bm_lang.specs.Grammar.{Symbol, Step, Refuse, Pass, Shift, next, scenario}

-- What a token does to the symbols that may come: it is for none of them, or these come next, or it can't stand here.
pub data Reply : Type 0 where
  Beyond : Reply
  Goes : (names : Names) (symbols : List Symbol) → Reply
  Stops : (why : BadKind) → Reply

abbrev pub settle : Step → List Symbol → Reply → Reply
settle (Refuse why) later passed = Stops why
settle Pass later passed = passed
settle (Shift names symbols) later passed = Goes names (symbols ++ later)

unfoldable pub read_token : List Symbol → Names → Sort → Reply
read_token [] names t = Beyond
read_token (x ∷ later) names t = settle (next names x t) later (read_token later names t)

abbrev pub bad : Place → BadKind → BadText
bad p why = record { line = p.line; column = p.column; kind = why }

abbrev pub go_on : Place → (Names → List Symbol → Option BadText) → Reply → Option BadText
go_on p f Beyond = None
go_on p f (Goes names symbols) = f names symbols
go_on p f (Stops why) = Some (bad p why)

-- the first token that can't stand at its place, and why
unfoldable pub parse : List Mark → Names → List Symbol → Option BadText
parse [] names symbols = None
parse (m ∷ more) names symbols = go_on m.place (parse more) (read_token symbols names m.sort)

-- the fault of a text
abbrev pub fault_of : List ℕ → Option BadText
fault_of bytes = parse (tokens start bytes) no_names scenario
