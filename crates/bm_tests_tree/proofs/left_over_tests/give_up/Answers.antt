use Rattle.bm_graph.proofs.Spending.{all_can}
use Rattle.bm_tests_tree.proofs.left_over_tests.give_up.Goals as goal

-- who drops references can always drop one
pub give_up-requires : goal.give_up-requires
give_up-requires c = all_can (λ _ _ _. Unit {0}) (λ _ _ _ _. Unit {0}) c.in-List.list.items c.args.dropper.now (λ t key item. tt)

pub give_up-requires-in-Tree : goal.give_up-requires-in-Tree
give_up-requires-in-Tree c = all_can (λ _ _ _. Unit {0}) (λ _ _ _ _. Unit {0}) c.in-Tree.tree.items c.args.dropper.now (λ t key item. tt)
