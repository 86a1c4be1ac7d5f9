use Rattle.std.proofs.Common.{ℕ, List, [], ◌∷◌, arith, refl, inl, inr}
use Rattle.std.specs.Prelude.{codes}
use Rattle.bm_journal.specs.declared.entry.Entry.{Entry}
use Rattle.bm_journal.specs.declared.entry.Entry.TheVariants as entry
use Rattle.bm_law_order.specs.Orders.{AllFit, over}
use Rattle.bm_law_order.proofs.Along.{fit-append}
use Rattle.bm_law_objects.specs.Objects.{Asked}
use Rattle.bm_law_graphs.specs.Shelves.{IsShelved, ShelvedFit, nothing_shelved, shelved_after}
use Rattle.bm_law_graphs.specs.Worked.{entries, item, on_tree, one_tree, t, taken_in_order, tree_made}
use Rattle.bm_law_graphs.proofs.worked.worked_orders.Goals as goal

-- what an object with this value is made of
abbrev node_of : ℕ → Asked
node_of value = record { type_name = codes "node"; values = value ∷ [] }

-- one entry after the other
infixr 2 ◌▸◌
◌▸◌ : {A B : Type 0} → A → B → A × B
a ▸ b = (a, b)

made : IsShelved one_tree tree_made
made =
    (tt, tt, tt)
    ▸ (tt, tt, tt)
    ▸ (tt, tt, tt)
    ▸ (tt, tt, tt)
    ▸ (tt, tt, tt)
    ▸ (tt, tt, tt)
    ▸ (tt, tt, tt)
    ▸ ((refl, refl), tt, tt)
    ▸ (tt, record { asked = node_of 5; made_is = refl; has_key = omega arith }, record { declared = omega arith; level = refl; guarded = inl refl; position = refl; right = refl; fits = refl })
    ▸ (tt, record { asked = node_of 5; made_is = refl; has_key = omega arith }, record { declared = omega arith; level = refl; guarded = inl refl; position = refl; right = refl; fits = refl })
    ▸ (tt, record { asked = node_of 3; made_is = refl; has_key = omega arith }, record { declared = omega arith; level = refl; guarded = inl refl; position = refl; right = refl; fits = refl })
    ▸ tt

-- what fits the tree fits after what made it
on-made : (es : List Entry) → AllFit (shelved_after one_tree) (ShelvedFit one_tree) (entries 0 es) (over (shelved_after one_tree) tree_made nothing_shelved) → IsShelved one_tree (on_tree es)
on-made es h = fit-append (shelved_after one_tree) (ShelvedFit one_tree) tree_made (entries 0 es) nothing_shelved made h

pub returns-clause-tree : goal.returns-clause-tree
returns-clause-tree c =
    on-made taken_in_order
    ((tt, tt, record { declared = omega arith; level = refl; guarded = inl refl; position = refl; right = refl; fits = tt })
    ▸ (tt, tt, record { declared = omega arith; level = refl; guarded = inl refl; position = refl; right = refl; fits = refl })
    ▸ ((refl, refl), tt, tt)
    ▸ (tt, tt, tt)
    ▸ (tt, tt, tt)
    ▸ (tt, tt, tt)
    ▸ (tt, tt, tt)
    ▸ (tt, tt, record { declared = omega arith; level = refl; guarded = inr (record { first = refl; closing = refl; free = refl }); position = refl; right = refl; fits = tt })
    ▸ (tt, tt, record { declared = omega arith; level = refl; guarded = inr (record { first = refl; closing = refl; free = refl }); position = refl; right = refl; fits = refl })
    ▸ (tt, tt, tt)
    ▸ (tt, tt, tt)
    ▸ (tt, tt, tt)
    ▸ (tt, tt, record { declared = omega arith; level = refl; guarded = inr (record { first = refl; closing = refl; free = refl }); position = refl; right = refl; fits = tt })
    ▸ (tt, tt, record { declared = omega arith; level = refl; guarded = inr (record { first = refl; closing = refl; free = refl }); position = refl; right = refl; fits = refl })
    ▸ (tt, tt, tt)
    ▸ (tt, tt, tt)
    ▸ (tt, tt, tt)
    ▸ (tt, tt, record { declared = omega arith; level = refl; guarded = inr (record { first = refl; closing = refl; free = refl }); position = refl; right = refl; fits = tt })
    ▸ tt)

pub returns-clause-least : goal.returns-clause-least
returns-clause-least c =
    on-made (entry.Remove t 1 1 3 ∷ entry.First t (item 3) 4 ∷ [])
    ((tt, tt, record { declared = omega arith; level = refl; guarded = inl refl; position = refl; right = refl; fits = refl })
    ▸ (tt, tt, record { declared = omega arith; level = refl; guarded = inl refl; position = refl; right = refl; fits = tt })
    ▸ tt)

pub returns-clause-again : goal.returns-clause-again
returns-clause-again c =
    on-made (entry.AddAlready t 2 1 t 3 ∷ [])
    ((tt, record { asked = node_of 5; made_is = refl; has_key = omega arith }, record { declared = omega arith; level = refl; guarded = inl refl; position = refl; right = refl; fits = refl })
    ▸ tt)
