-- What a name holds where non-owning references end.
use Rattle.bm_exec.specs.declared.holding.Holding.{Holding}
use Rattle.bm_exec.specs.declared.holding.Holding.TheVariants.{Nothing, Null, Object, Soft}

abbrev pub without_soft : Holding → Holding
without_soft Nothing = Nothing
without_soft Null = Null
without_soft (Object t o) = Object t o
without_soft (Soft t graph o) = Nothing
