-- What lives are made with, act by act.
use Rattle.std.proofs.Common.{List, [], ◌∷◌, ◌++◌, refl, subst}
use Rattle.bm_law_order.specs.Act.{Act}
use Rattle.bm_law_order.specs.Made.{Fields, MadeLead}

pub made-join : (es fs : List Act) (a b c : Fields) → MadeLead es a b → MadeLead fs b c → MadeLead (es ++ fs) a c
made-join [] fs a b c x y = subst (λ w. MadeLead fs w c) x y
made-join (e ∷ es) fs a b c x y = (x.0, (x.1.0, made-join es fs x.0 b c x.1.1 y))

pub made-same : (a : Fields) → MadeLead [] a a
made-same a = refl
