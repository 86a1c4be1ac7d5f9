use Rattle.std.proofs.Common.{◌≡◌, ◌+◌, ◌*◌, ◌<◌, ◌∙◌, ℕ, Some, IfSome, ap, arith, length, subst}
use Rattle.bm_law.specs.Lists.{Leaves}
use Rattle.std.specs.Prelude.{◌%◌, ◌^◌}
use Rattle.bm_grace.specs.declared.step.StepKind.TheVariants.{Enter, Leave}
use Rattle.bm_journal.specs.declared.ids.Domain.TheVariants.{Plain}
use Rattle.bm_lang.specs.Limits.{script_cost}
use Rattle.bm_exec_levels.specs.AtProcessor.{CameAt, FineAt, IsAt, lists_of, log_of}
use Rattle.bm_exec_levels.specs.Ready.{left_of, word_of}
use Rattle.bm_plan.specs.Position.{StandsAt}
use Rattle.bm_exec_levels.specs.declared.processor.Processor.{Processor}
use Rattle.bm_exec.specs.Named.{declared_of}
use Rattle.bm_exec_levels.proofs.Phrases.{program-declared, runs-inside, runs-outside}
use Rattle.bm_exec_levels.proofs.PhraseSections.{between-section, even-outside, odd-inside, same-inside, word-ended, word-kept}
use Rattle.bm_exec_levels.proofs.inside.run_inside.Goals as goal

pub returns-then-own-clause-runs : goal.returns-then-own-clause-runs
returns-then-own-clause-runs g c =
    let p = c.args.program.now in
    let m : Processor g.row.W.Denot = c.args.own.now in
    let z : Processor g.row.W.Denot = c.run_code.new.own in
    let ready = c.requires.at.ready in
    let odd = odd-inside m.inside (word_of g.W.Knows Plain m) ready.inside c.if-own.true in
    runs-inside p.scenario.now (declared_of p.types) (program-declared p.types p.scenario.now ready.fits.types ready.fits.maps) c.args.script.now c.requires.found.0 c.requires.found.1 c.requires.handles g.L.Rank.number (word_of g.W.Knows Plain m) (lists_of m) (log_of m) (log_of z) odd c.run_code.ensures.ran

pub returns-else-own-clause-runs : goal.returns-else-own-clause-runs
returns-else-own-clause-runs g c =
    let l = g.L.Rank.number in
    let p = c.args.program.now in
    let m : Processor g.row.W.Denot = c.args.own.now in
    let b : Processor g.row.W.Denot = c.enter_section.new.own in
    let z : Processor g.row.W.Denot = c.run_code-else-own.new.own in
    let d : Processor g.row.W.Denot = c.leave_section.new.own in
    let e = c.enter_section.ensures in
    let f = c.leave_section.ensures in
    let r = c.run_code-else-own.ensures in
    let ready = c.requires.at.ready in
    let even = even-outside m.inside (word_of g.W.Knows Plain m) ready.inside c.if-own.false in
    let kept : word_of g.W.Knows Plain z ≡ word_of g.W.Knows Plain m + 1 = word-kept g.W.Knows (3 * script_cost (Some c.args.script.now)) l p Enter Leave m b z d e.same e.known f.same f.known r.between even in
    let n = c.level-level.ensures.number in
    let P : ℕ → Processor g.row.W.Denot → Type 0 = λ q y. IfSome (log_of y) (λ es. Leaves q es (lists_of y)) in
    let in-b : P m.caches.processor b = subst (λ q. P q b) e.came.processor e.fine.placed.told in
    let in-z : P m.caches.processor z = subst (λ q. P q z) (r.between.came.processor ∙ e.came.processor) r.between.fine.placed.told in
    runs-outside p.scenario.now (declared_of p.types) (program-declared p.types p.scenario.now ready.fits.types ready.fits.maps) c.args.script.now c.requires.found.0 c.requires.found.1 c.requires.handles l (word_of g.W.Knows Plain m) m.caches.processor (lists_of m) (lists_of b) (lists_of z) (word_of g.W.Knows Plain z) (log_of m) (log_of b) (log_of z) (log_of d) even kept c.requires.fine.placed.told in-b in-z (rw n at e.said) r.ran (rw n at f.said)

pub returns-else-own-clause-between : goal.returns-else-own-clause-between
returns-else-own-clause-between g c =
    let l = g.L.Rank.number in
    let p = c.args.program.now in
    let m : Processor g.row.W.Denot = c.args.own.now in
    let b : Processor g.row.W.Denot = c.enter_section.new.own in
    let z : Processor g.row.W.Denot = c.run_code-else-own.new.own in
    let d : Processor g.row.W.Denot = c.leave_section.new.own in
    let e = c.enter_section.ensures in
    let f = c.leave_section.ensures in
    let r = c.run_code-else-own.ensures in
    let ready = c.requires.at.ready in
    let even = even-outside m.inside (word_of g.W.Knows Plain m) ready.inside c.if-own.false in
    let n = c.level-level.ensures.number in
    let i : ℕ = 3 * script_cost (Some c.args.script.now) in
    let kept : word_of g.W.Knows Plain z ≡ word_of g.W.Knows Plain m + 1 = word-kept g.W.Knows i l p Enter Leave m b z d e.same e.known f.same f.known r.between even in
    let ended : word_of g.W.Knows Plain d ≡ word_of g.W.Knows Plain m + 2 = word-ended g.W.Knows i l p Enter Leave m b z d e.same e.known f.same f.known r.between even in
    let words = c.requires.words in
    let fewer = r.between.fewer in
    let left-b : length (left_of b) ≡ length (left_of m) = ap (λ (y : Processor g.row.W.Denot). length (left_of y)) e.same in
    let room : word_of g.W.Knows Plain z + 2 * length (left_of z) + 1 < 2 ^ 28 = omega (arith, kept, words, fewer, left-b) in
    let at-z : IsAt g.W.Knows StandsAt c.level-level.result p z = rw n r.at in
    let now = f.at p at-z room in
    let parity : word_of g.W.Knows Plain d % 2 ≡ word_of g.W.Knows Plain m % 2 = omega (arith, ended) in
    let same : d.inside ≡ m.inside = same-inside d.inside m.inside (word_of g.W.Knows Plain d % 2) now.ready.inside (parity ∙ ready.inside) in
    let came-m : CameAt g.W.Knows l m b = rw n at e.came in
    let came-d : CameAt g.W.Knows l z d = rw n at f.came in
    let fine-d : FineAt g.W.Knows l d = rw n at f.fine in
    between-section g.W.Knows i l p Enter Leave m b z d e.same e.known f.same f.known r.between even came-m came-d fine-d same
