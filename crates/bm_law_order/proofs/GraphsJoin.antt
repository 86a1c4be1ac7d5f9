-- What lists and trees are, act by act.
use Rattle.std.proofs.Common.{ℕ, List, [], ◌∷◌, ◌++◌, refl, subst}
use Rattle.bm_law_order.specs.Act.{Act}
use Rattle.bm_law_order.specs.Graphs.{GraphsLead, Shelf}

pub graphs-join : (names : List (List ℕ)) (es fs : List Act) (a b c : Shelf) → GraphsLead names es a b → GraphsLead names fs b c → GraphsLead names (es ++ fs) a c
graphs-join names [] fs a b c x y = subst (λ w. GraphsLead names fs w c) x y
graphs-join names (e ∷ es) fs a b c x y = (x.0, (x.1.0, graphs-join names es fs x.0 b c x.1.1 y))

pub graphs-same : (names : List (List ℕ)) (a : Shelf) → GraphsLead names [] a a
graphs-same names a = refl

-- what some acts and then some others do, each of them does
pub graphs-split : (names : List (List ℕ)) (es fs : List Act) (a c : Shelf) → GraphsLead names (es ++ fs) a c → (b : Shelf) × (GraphsLead names es a b × GraphsLead names fs b c)
graphs-split names [] fs a c h = (a, (refl, h))
graphs-split names (e ∷ es) fs a c h = let r = graphs-split names es fs h.0 c h.1.1 in (r.0, ((h.0, (h.1.0, r.1.0)), r.1.1))
