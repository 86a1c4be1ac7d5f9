-- The kinds of a text's fault.
use Rattle.std.specs.Prelude.{ℕ, List, codes}
use Rattle.bm_lang.specs.declared.fault.BadKind.{BadKind}
use Rattle.bm_lang.specs.declared.fault.BadKind.TheVariants as kind

-- the word for a kind
abbrev pub kind_text : BadKind → List ℕ
kind_text kind.Byte = codes "byte"
kind_text kind.Number = codes "number"
kind_text kind.Name = codes "name"
kind_text kind.End = codes "end"
kind_text kind.Unexpected = codes "unexpected"
kind_text kind.NotYet = codes "not_yet"
kind_text kind.Duplicate = codes "duplicate"
kind_text kind.Unknown = codes "unknown"
kind_text kind.Wrong = codes "wrong"
kind_text kind.Range = codes "range"
kind_text kind.TypeSize = codes "type_size"
kind_text kind.Depth = codes "depth"
