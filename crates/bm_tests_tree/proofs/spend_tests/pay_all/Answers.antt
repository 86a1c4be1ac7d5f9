use Rattle.bm_tree.proofs.Spending.{all_can}
use Rattle.bm_tests_tree.proofs.spend_tests.pay_all.Goals as goal

-- a payer can always pay
pub give_up-requires : goal.give_up-requires
give_up-requires g c = all_can _ _ c.loop-key.tree.rows _ (λ t key item. tt)
