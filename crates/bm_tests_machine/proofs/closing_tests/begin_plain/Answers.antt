use Rattle.std.proofs.Common.{◌≡◌, ◌%◌, ℕ, refl, sym, subst}
use Rattle.bm_journal.specs.declared.ids.Domain.TheVariants.{Plain, Tracing}
use Rattle.bm_grace.specs.Known.{Known, side}
use Rattle.bm_closing.specs.AtEnd.{ended_at}
use Rattle.bm_tests_machine.proofs.closing_tests.begin_plain.Goals as goal

tracing-plain : Tracing ≡ Plain → ⊥
tracing-plain e = cc

pub begin-requires-clause-idle : goal.begin-requires-clause-idle
begin-requires-clause-idle g c = g.met.S.Grace.idle_at_rest c.args.lent.now Plain 0 (c.requires.rest Plain) refl

pub returns-clause-rest : goal.returns-clause-rest
returns-clause-rest g c Plain =
    let F : Known → Type 0 = λ k. ended_at (side Plain k).number 1 % 2 ≡ 0 in
    (1, (c.begin.ensures.rest.moves (c.requires.rest Plain), subst F (sym c.in-Won.ensures.known) refl))
returns-clause-rest g c Tracing =
    let F : Known → Type 0 = λ k. ended_at (side Tracing k).number 0 % 2 ≡ 0 in
    let G : ℕ → Type 0 = λ n. ended_at n 0 % 2 ≡ 0 in
    let idle : (side Tracing (g.S.Knows.known c.args.lent.now)).number ≡ 0 = g.met.S.Grace.idle_at_rest c.args.lent.now Tracing 0 (c.requires.rest Tracing) refl in
    (0, (c.begin.ensures.rest.other Tracing 0 tracing-plain (c.requires.rest Tracing), subst F (sym c.in-Won.ensures.known) (subst G (sym idle) refl)))
