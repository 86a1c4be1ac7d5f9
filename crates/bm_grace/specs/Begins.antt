-- A call that was to begin a period, as an act.
use Rattle.std.specs.Prelude.{ℕ, ◌+◌}
use Rattle.bm_journal.specs.declared.ids.Domain.{Domain}
use Rattle.bm_law_order.specs.Act.{Act, Begins, Misses}
use Rattle.bm_grace.specs.declared.answer.Began.{Began}
use Rattle.bm_grace.specs.declared.answer.Began.TheVariants.{Won, Moved}

-- a period was to begin at an even number
abbrev pub begin_act : Domain → ℕ → Began → Act
begin_act d even Won = Begins d (even + 1)
begin_act d even (Moved number) = Misses d even number
