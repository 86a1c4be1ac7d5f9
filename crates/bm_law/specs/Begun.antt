-- Grace periods that a processor has in progress, as entries of its own log tell it. (This project's own. In the kernel one
-- thread begins and ends all periods of a domain: rcu_gp_kthread in kernel/rcu/tree.c.)
use Rattle.std.specs.Prelude.{ℕ, zero, suc, Option, Some, None}
use Rattle.bm_journal.specs.declared.ids.Domain.{Domain}
use Rattle.bm_journal.specs.declared.ids.Domain.TheVariants.{Plain, Tracing}
use Rattle.bm_journal.specs.declared.entry.Entry.{Entry}
use Rattle.bm_journal.specs.declared.entry.Entry.TheVariants as entry

-- this where the domains are the same one, and else that
abbrev pub for_domain : {A : Type 0} → Domain → Domain → A → A → A
for_domain Plain Plain this that = this
for_domain Tracing Tracing this that = this
for_domain _ _ this that = that

-- the number with which the period of this domain that is in progress began, if one is, after an entry
abbrev pub begun_after : Domain → Option ℕ → Entry → Option ℕ
begun_after d begun (entry.Begin e n) = for_domain d e (Some n) begun
begun_after d begun (entry.Finish period) = for_domain d period.domain None begun
begun_after d begun _ = begun

-- the same, by the number that a side has of it, which is 0 where none is in progress
abbrev pub begun_by : ℕ → Option ℕ
begun_by zero = None
begun_by (suc n) = Some (suc n)
