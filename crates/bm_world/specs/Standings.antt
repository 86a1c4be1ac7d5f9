-- What units wait for, by their numbers. (This project's own. The kernel keeps units that wait in lists apart.)
use Rattle.std.specs.Prelude.{◌≡◌, ◌≤◌, ℕ, ◌^◌, ◌&&◌, eqb, nat_le, Bool, true, false, Option, None, Some, List, [], ◌∷◌, length, slice_index_or, slice_set}
use Rattle.bm_journal.specs.declared.ids.Domain.{Domain}
use Rattle.bm_page.specs.declared.units.Seal.{Seal}
use Rattle.bm_page.specs.UnitState.{UnitState}
use Rattle.bm_grace.specs.Answers.{next}
use Rattle.bm_law_order.specs.Seals as seals
use Rattle.bm_world.specs.Slots.{unit_at}
use Rattle.bm_world.specs.declared.slots.Object.{Object}
use Rattle.bm_world.specs.WaitingState.{passes, stamp_in}
use Rattle.bm_world.specs.declared.standing.Standing.{Standing}
use Rattle.bm_world.specs.declared.standing.Standing.TheVariants.{Nothing, Waits, Sealed}

abbrev pub standing_at : List Standing → ℕ → Standing
standing_at standings n = slice_index_or standings n Nothing

-- what a unit with a seal, or without one, has waited for
abbrev pub standing_of : Option Seal → Standing
standing_of None = Nothing
standing_of (Some seal) = Sealed seal

-- units have gone, each with what it has waited for
abbrev pub left_by : List UnitState → List Standing → List Standing
left_by [] standings = standings
left_by (u ∷ us) standings = left_by us (slice_set standings u.number (standing_of u.seal))

-- units stand in one list as in another
abbrev pub copied : List UnitState → (from to : List Standing) → List Standing
copied [] from to = to
copied (u ∷ us) from to = copied us from (slice_set to u.number (standing_at from u.number))

abbrev pub is_waiting : Standing → Bool
is_waiting (Waits wait) = true
is_waiting _ = false

abbrev pub same_seal : Seal → Seal → Bool
same_seal s t = eqb s.stamp t.stamp && eqb s.seen t.seen

-- a unit that doesn't wait has the seal of what it has waited for
abbrev pub has_waited : Standing → Option Seal → Bool
has_waited Nothing None = true
has_waited (Sealed s) (Some t) = same_seal s t
has_waited _ _ = false

-- A stamp is of use to a unit where it was taken no earlier than the unit began to wait.
abbrev pub counts_for : Domain → ℕ → Standing → Bool
counts_for d x (Waits wait) = nat_le (stamp_in d wait) x
counts_for d x _ = true

-- A wait is over by the seal of its unit, or where there is none by the number of the tracing domain.
abbrev pub is_over : (plain tracing : ℕ) → Standing → Option Seal → Bool
is_over plain tracing (Waits wait) None = nat_le wait.tracing tracing
is_over plain tracing (Waits wait) (Some seal) = passes plain wait seal
is_over plain tracing _ seal = false

-- the same as what processors share has it
abbrev pub told_standing : Standing → seals.Wait
told_standing Nothing = seals.Nothing
told_standing (Waits wait) = seals.Batch
told_standing (Sealed seal) = seals.Over seal.stamp seal.seen

abbrev pub waits_told : List Standing → ℕ → seals.Wait
waits_told standings n = told_standing (standing_at standings n)

-- a unit began to wait no later than now, and one that has waited saw its stamp pass
abbrev pub IsTimed : (plain tracing : ℕ) → Standing → Type 0
IsTimed plain tracing Nothing = Unit {0}
IsTimed plain tracing (Waits wait) = (wait.plain ≤ next plain) × (wait.tracing ≤ next tracing)
IsTimed plain tracing (Sealed seal) = seal.stamp ≤ seal.seen

-- What standings keep true: there is one for each number, each of them is timed, and a unit that lives waits for nothing.
pub record AreStanding (plain tracing : ℕ) (slots : List (Option Object))
    (standings : List Standing) : Type 0 where
  pub size : length standings ≡ 2 ^ 16
  pub timed : (n : ℕ) → IsTimed plain tracing (standing_at standings n)
  pub living :
      (n : ℕ) (unit : UnitState) → unit_at slots n ≡ Some unit → standing_at standings n ≡ Nothing
