-- A thing of each of the two domains of grace periods.
use Rattle.bm_journal.specs.declared.ids.Domain.{Domain}
use Rattle.bm_journal.specs.declared.ids.Domain.TheVariants.{Plain, Tracing}

pub record ByDomain (A : Type 0) : Type 0 where
  pub plain : A
  pub tracing : A

abbrev pub both : {A : Type 0} → A → ByDomain A
both a = record { plain = a; tracing = a }

-- that of a domain
abbrev pub of : {A : Type 0} → Domain → ByDomain A → A
of Plain x = x.plain
of Tracing x = x.tracing

-- another one for a domain
abbrev pub with_of : {A : Type 0} → Domain → A → ByDomain A → ByDomain A
with_of Plain a x = record x { plain = a }
with_of Tracing a x = record x { tracing = a }
