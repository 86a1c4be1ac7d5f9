-- The numbers of the rules.
use Rattle.std.specs.Prelude.{ℕ}
use Rattle.bm_check.specs.declared.rule.Rule.{Rule}
use Rattle.bm_check.specs.declared.rule.Rule.TheVariants.{BoundOnce, NotNull, NotSpent, NothingOwned, BranchesAgree, RepeatAgrees, UnderItsLock, OneLock, NotUnderLock, LockInItsBlock, NotInHandler, RightKind}

abbrev pub number_of : Rule → ℕ
number_of BoundOnce = 1
number_of NotNull = 2
number_of NotSpent = 3
number_of NothingOwned = 4
number_of BranchesAgree = 5
number_of RepeatAgrees = 6
number_of UnderItsLock = 7
number_of OneLock = 8
number_of NotUnderLock = 9
number_of LockInItsBlock = 10
number_of NotInHandler = 11
number_of RightKind = 12
