-- A tracing period that was waited for while all was at rest. (This project's own.)
use Rattle.std.specs.Prelude.{◌≡◌, ℕ, ◌+◌, true, None}
use Rattle.bm_journal.specs.declared.ids.Domain.TheVariants.{Tracing}
use Rattle.bm_grace.specs.Rights.{Rights}
use Rattle.bm_closing.specs.declared.period.Waited.{Waited}

-- The stamp was taken at the even number n; the period began with the next one, and ended with the one after that, which
-- was seen.
pub record WaitedAt (n : ℕ) (w : Waited) : Type 0 where
  pub stamp : w.stamp ≡ n + 2
  pub begun : w.begun ≡ n + 1
  pub domain : w.period.domain ≡ Tracing
  pub number : w.period.number ≡ n + 2
  pub seen : w.seen ≡ n + 2

-- what was mine and waited is ripe
abbrev pub AllRipe : Rights → Rights → Type 0
AllRipe before now =
    (n life : ℕ) → before.mine n ≡ true → before.due n life None ≡ true
    → now.ripe n life None ≡ true
