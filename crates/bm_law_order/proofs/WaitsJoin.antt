-- What units wait for, act by act.
use Rattle.std.proofs.Common.{ℕ, List, [], ◌∷◌, ◌++◌, ◌∙◌, refl, subst}
use Rattle.bm_journal.specs.declared.ids.Domain.{Domain}
use Rattle.bm_law_order.specs.Act.{Act}
use Rattle.bm_law_order.specs.Act as act
use Rattle.bm_law_order.specs.Seals.{Wait, WaitLeads}

pub go-join : (es fs : List Act) (a b c : ℕ → Wait) → WaitLeads es a b → WaitLeads fs b c → WaitLeads (es ++ fs) a c
go-join [] fs a b c x y = subst (λ w. WaitLeads fs w c) x y
go-join (e ∷ es) fs a b c x y = (x.0, (x.1.0, go-join es fs x.0 b c x.1.1 y))

pub go-same : (a : ℕ → Wait) → WaitLeads [] a a
go-same a = refl

-- the last one read a number alone
pub go-unread : (es : List Act) (d : Domain) (x n : ℕ) (a b : ℕ → Wait) → WaitLeads (es ++ act.Reads d x n ∷ []) a b → WaitLeads es a b
go-unread [] d x n a b h = h.1.1 ∙ h.1.0
go-unread (e ∷ es) d x n a b h = (h.0, (h.1.0, go-unread es d x n h.0 b h.1.1))
