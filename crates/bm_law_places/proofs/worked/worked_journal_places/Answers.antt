use Rattle.std.specs.Prelude.{◌<◌, ℕ, zero, suc, []}
use Rattle.std.proofs.Common.{refl, arith, lit<}
use Rattle.bm_law.specs.Lists.{AllName}
use Rattle.bm_law.specs.State.{opening}
use Rattle.bm_law_laid.specs.OrderOf.{AllBelow}
use Rattle.bm_law_lives.specs.Worked.{both_stages}
use Rattle.bm_law_order.specs.Orders.{AllFit, part_of}
use Rattle.bm_law_order.specs.Whole.{whole}
use Rattle.bm_page.specs.Stock.{any_out, fetched, given, is_stock_of, least_below, next_unit, returned, unit_given}
use Rattle.bm_class.specs.Sizes.{size_of_class}
use Rattle.bm_law_places.specs.World.{SweepsInbox, outset, world_after}
use Rattle.bm_law_places.specs.Place.{Cache, Stock}
use Rattle.bm_law_places.specs.WorkedPlaces.{sweeps_from_stock}
use Rattle.bm_law_places.proofs.Apart.{not-twice}
use Rattle.bm_law_places.proofs.Logs.{parts-name}
use Rattle.bm_law_places.proofs.Standing.{all-placed, found-in-parts}
use Rattle.bm_law_places.proofs.worked.worked_journal_places.Goals as goal

below : AllBelow 1 (whole [] both_stages)
below = (lit< tt, (lit< tt, (lit< tt, (lit< tt, (lit< tt, (lit< tt, (lit< tt, (lit< tt, (lit< tt, (lit< tt, (lit< tt, (lit< tt, (lit< tt, (lit< tt, (lit< tt, (lit< tt, (lit< tt, (lit< tt, (lit< tt, (lit< tt, (lit< tt, (lit< tt, (lit< tt, (lit< tt, (lit< tt, (lit< tt, (lit< tt, (lit< tt, (lit< tt, (lit< tt, (lit< tt, (lit< tt, (lit< tt, (lit< tt, (lit< tt, (lit< tt, (lit< tt, (lit< tt, (lit< tt, (lit< tt, (lit< tt, (lit< tt, (lit< tt, (lit< tt, (lit< tt, (lit< tt, (lit< tt, (lit< tt, (lit< tt, (lit< tt, (lit< tt, (lit< tt, (lit< tt, (lit< tt, (lit< tt, (lit< tt, (lit< tt, (lit< tt, (lit< tt, tt)))))))))))))))))))))))))))))))))))))))))))))))))))))))))))

names : (p : ℕ) → p < 1 → AllName (opening p) (part_of p (whole [] both_stages))
names zero lt = (tt, (tt, (tt, (refl, (refl, ((refl, refl), (refl, (refl, (tt, (tt, (tt, (refl, (refl, (refl, (tt, (refl, (refl, ((refl, refl), (refl, (refl, (tt, (tt, (tt, ((refl, refl), (tt, ((refl, refl), (refl, (tt, (tt, (tt, ((refl, refl), (tt, (refl, (refl, ((refl, refl), (refl, (tt, (tt, (refl, (refl, ((refl, refl), (refl, (refl, (tt, (tt, (tt, (refl, (refl, ((refl, refl), (refl, (tt, (tt, (tt, (refl, (refl, (tt, (tt, (tt, ((refl, refl), tt)))))))))))))))))))))))))))))))))))))))))))))))))))))))))))
names (suc p) lt = absurd (omega (arith, lt))

sweeps : AllFit world_after SweepsInbox (whole [] both_stages) (outset 1 1)
unfolding any_out fetched given is_stock_of least_below next_unit returned size_of_class unit_given
sweeps = (tt, (tt, (tt, (tt, (tt, (tt, (tt, (tt, (tt, (tt, (tt, (tt, (tt, (tt, (tt, (tt, (tt, (tt, (tt, (tt, (tt, (tt, (tt, (tt, (tt, (tt, (tt, (tt, (tt, (tt, (tt, (tt, (tt, (tt, (tt, (tt, (tt, (tt, (tt, (tt, (tt, (tt, (tt, (tt, (tt, (tt, (tt, (tt, (tt, (tt, (tt, (tt, (tt, (refl, (tt, (tt, (tt, (tt, (tt, tt)))))))))))))))))))))))))))))))))))))))))))))))))))))))))))

pub returns-clause-both_stages : goal.returns-clause-both_stages
returns-clause-both_stages c = all-placed 1 1 (whole [] both_stages) (found-in-parts (whole [] both_stages) (outset 1 1) c.worked_journal.ensures (parts-name 1 (whole [] both_stages) below names) sweeps)

pub returns-clause-swept : goal.returns-clause-swept
unfolding any_out fetched given is_stock_of least_below next_unit returned size_of_class unit_given
returns-clause-swept c = not-twice 1 2 256 (whole [] sweeps_from_stock) Stock (Cache 0 10) refl (lit< tt) (lit< tt)
