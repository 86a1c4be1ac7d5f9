-- In the worked journals of one processor and of two each unit is given where an object is asked for.
use Rattle.std.specs.Prelude.{[], codes}
use Rattle.std.proofs.Common.{refl}
use Rattle.bm_law_lives.specs.Worked.{both_stages}
use Rattle.bm_law_objects.specs.Objects.{IsOwned}
use Rattle.bm_law_order.specs.Whole.{whole}
use Rattle.bm_law_journal.specs.WorkedTurns.{lent, turns}

pub both_stages-owned : IsOwned (whole [] both_stages)
both_stages-owned = (tt, (tt, (tt, (tt, (tt, (tt, (tt, (record { asked = record { type_name = codes "block"; values = [] }; is = refl }, (tt, (tt, (tt, (tt, (tt, (tt, (tt, (tt, (tt, (tt, (tt, (tt, (tt, (tt, (tt, (tt, (tt, (tt, (tt, (tt, (tt, (tt, (tt, (tt, (tt, (tt, (tt, (tt, (tt, (tt, (tt, (tt, (tt, (tt, (record { asked = record { type_name = codes "block"; values = [] }; is = refl }, (tt, (tt, (tt, (tt, (tt, (tt, (tt, (tt, (tt, (tt, (tt, (tt, (tt, (tt, (tt, (tt, tt)))))))))))))))))))))))))))))))))))))))))))))))))))))))))))

pub lent-owned : IsOwned (whole turns lent)
lent-owned = (tt, (tt, (tt, (tt, (tt, (tt, (tt, (tt, (record { asked = record { type_name = codes "block"; values = [] }; is = refl }, (tt, (tt, (tt, (tt, (tt, (tt, (tt, (tt, (tt, (tt, (tt, (tt, (tt, (tt, (tt, (tt, (tt, (tt, (tt, (tt, (tt, (tt, (tt, (tt, (tt, (tt, (tt, (tt, (tt, (tt, (tt, (tt, (tt, (tt, (tt, (tt, (tt, (tt, (tt, (record { asked = record { type_name = codes "block"; values = [] }; is = refl }, (tt, (tt, (tt, (tt, (tt, (tt, (tt, (tt, (tt, (tt, (tt, (tt, (tt, (tt, (tt, (tt, tt)))))))))))))))))))))))))))))))))))))))))))))))))))))))))))))))))
