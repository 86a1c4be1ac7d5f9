-- Words that begin no statement of some forms.
use Rattle.bm_lang.specs.declared.keyword.Keyword.{Keyword}
use Rattle.bm_lang.specs.declared.keyword.Keyword.TheVariants as word

-- a word that begins no statement with a block
abbrev pub IsSimple : Keyword → Type 0
IsSimple word.If = ⊥
IsSimple word.Repeat = ⊥
IsSimple word.Section = ⊥
IsSimple w = Unit {0}

-- nor one without the name of a list or a tree
abbrev pub IsOther : Keyword → Type 0
IsOther word.New = ⊥
IsOther word.Drop = ⊥
IsOther word.Acquire = ⊥
IsOther word.Get = ⊥
IsOther word.Xchg = ⊥
IsOther word.Unlock = ⊥
IsOther word.Yield = ⊥
IsOther w = IsSimple w
