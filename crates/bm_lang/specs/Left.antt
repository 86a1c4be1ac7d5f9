-- What is left of a text.
use Rattle.std.specs.Prelude.{List}
use Rattle.bm_lang.specs.declared.reader.Tokens.{Tokens}
use Rattle.bm_lang.specs.Tokens.{Mark, tokens}

-- the tokens that are still to be taken, with their places
abbrev pub left : Tokens → List Mark
left t = tokens t.place t.rest.now
