use Rattle.bm_page.proofs.OutLemmas.{are_out-permutation}
use Rattle.bm_tests_world.proofs.pool_tests.all_units_go_out_and_back_in_any_order.Goals as goal

pub put_all_back-requires : goal.put_all_back-requires
put_all_back-requires g c = are_out-permutation c.fetch_more-count.new.pool c.fetch_more-count.new.held.items c.arrange.new.units.items c.arrange.ensures c.fetch_more-count.ensures
