-- The shapes of statements.
use Rattle.bm_lang.specs.declared.scenario.Action.{Action, New, Drop, Acquire, Get, Exchange, If', Repeat, Section, Lock, Unlock, Yield, PushFront, PushBack, PopFront, PopBack, Add, First, Remove}

abbrev pub HasNoBlock : Action → Type 0
HasNoBlock (If' x body otherwise) = ⊥
HasNoBlock (Repeat n body) = ⊥
HasNoBlock (Section body) = ⊥
HasNoBlock (New x t values) = Unit {0}
HasNoBlock (Drop x) = Unit {0}
HasNoBlock (Acquire y x) = Unit {0}
HasNoBlock (Get x f) = Unit {0}
HasNoBlock (Exchange y s x) = Unit {0}
HasNoBlock (Lock g) = Unit {0}
HasNoBlock Unlock = Unit {0}
HasNoBlock Yield = Unit {0}
HasNoBlock (PushFront q x) = Unit {0}
HasNoBlock (PushBack q x) = Unit {0}
HasNoBlock (PopFront x q) = Unit {0}
HasNoBlock (PopBack x q) = Unit {0}
HasNoBlock (Add t x) = Unit {0}
HasNoBlock (First x t) = Unit {0}
HasNoBlock (Remove y t x) = Unit {0}

abbrev pub HasGraph : Action → Type 0
HasGraph (If' x body otherwise) = ⊥
HasGraph (Repeat n body) = ⊥
HasGraph (Section body) = ⊥
HasGraph (New x t values) = ⊥
HasGraph (Drop x) = ⊥
HasGraph (Acquire y x) = ⊥
HasGraph (Get x f) = ⊥
HasGraph (Exchange y s x) = ⊥
HasGraph (Lock g) = Unit {0}
HasGraph Unlock = ⊥
HasGraph Yield = ⊥
HasGraph (PushFront q x) = Unit {0}
HasGraph (PushBack q x) = Unit {0}
HasGraph (PopFront x q) = Unit {0}
HasGraph (PopBack x q) = Unit {0}
HasGraph (Add t x) = Unit {0}
HasGraph (First x t) = Unit {0}
HasGraph (Remove y t x) = Unit {0}
