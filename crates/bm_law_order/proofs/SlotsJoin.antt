-- What slots hold, act by act.
use Rattle.std.proofs.Common.{List, [], ◌∷◌, ◌++◌, refl, subst}
use Rattle.bm_law_order.specs.Act.{Act}
use Rattle.bm_law_order.specs.Slots.{Contents, SlotsLead}

pub slots-join : (es fs : List Act) (a b c : Contents) → SlotsLead es a b → SlotsLead fs b c → SlotsLead (es ++ fs) a c
slots-join [] fs a b c x y = subst (λ w. SlotsLead fs w c) x y
slots-join (e ∷ es) fs a b c x y = (x.0, (x.1.0, slots-join es fs x.0 b c x.1.1 y))

pub slots-same : (a : Contents) → SlotsLead [] a a
slots-same a = refl

-- what some acts and then some others do, each of them does
pub slots-split : (es fs : List Act) (a c : Contents) → SlotsLead (es ++ fs) a c → (b : Contents) × (SlotsLead es a b × SlotsLead fs b c)
slots-split [] fs a c h = (a, (refl, h))
slots-split (e ∷ es) fs a c h = let r = slots-split es fs h.0 c h.1.1 in (r.0, ((h.0, (h.1.0, r.1.0)), r.1.1))
