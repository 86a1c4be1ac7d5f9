use Rattle.std.proofs.Common.{◌≡◌, refl, sym, subst}
use Rattle.bm_journal.specs.declared.ids.Domain.TheVariants.{Plain, Tracing}
use Rattle.bm_tests_machine.proofs.closing_tests.ends_periods.Goals as goal

other-domain : Tracing ≡ Plain → ⊥
other-domain e = cc

pub begin-requires-clause-idle : goal.begin-requires-clause-idle
begin-requires-clause-idle g c = g.met.S.Grace.idle_at_rest c.args.lent Plain 0 (c.requires.rest Plain) refl

pub end_period-requires-2-clause-rest : goal.end_period-requires-2-clause-rest
end_period-requires-2-clause-rest g c =
    let begun = c.begin.ensures.rest.other Tracing 0 other-domain (c.requires.rest Tracing) in
    (0, (c.end_period.ensures.rest 0).other Tracing 0 other-domain (subst (λ (x : g.row.S.Denot). g.S.Knows.rest x Tracing 0) (sym c.desk_over-desk.ensures.side) begun))
