use Rattle.std.proofs.Common.{ℕ, refl, inl, inr, arith}
use Rattle.std.proofs.lemmas.Bool.Decides.{eqb_tells}
use Rattle.bm_law.specs.State.{opening}
use Rattle.bm_law.specs.Lists.{AllName}
use Rattle.bm_law.specs.Spans.{own_entries}
use Rattle.bm_law.specs.Null.{Nothing, RepliesFit}
use Rattle.bm_law.specs.Worked.{nested_busy}
use Rattle.bm_law.proofs.Null.{pops-fit}
use Rattle.bm_law.proofs.worked.worked_phrases.Goals as goal

outer : RepliesFit Nothing (own_entries 0 nested_busy)
outer = (tt, (tt, (tt, (refl, (tt, (tt, (tt, (tt, (tt, (refl, tt))))))))))

inner : RepliesFit Nothing (own_entries 1 nested_busy)
inner = (tt, (refl, (tt, (tt, (tt, ((refl, omega arith), (tt, tt)))))))

replies : (l : ℕ) → RepliesFit Nothing (own_entries l nested_busy)
replies l =
    elim (eqb_tells 0 l) [
      | inl y ↦ rw (← y.1) outer
      | inr y ↦ elim (eqb_tells 1 l) [
        | inl z ↦ rw (← z.1) inner
        | inr z ↦ rw (y.0, z.0) tt
      ]
    ]

named : AllName (opening 0) nested_busy
named = (tt, (tt, (tt, (tt, (refl, (refl, (tt, (tt, (refl, (refl, (tt, (tt, (tt, ((refl, refl), (refl, (tt, (refl, tt)))))))))))))))))

pub returns-clause-null : goal.returns-clause-null
returns-clause-null c = record { pops = pops-fit (opening 0) nested_busy named; replies = replies }
