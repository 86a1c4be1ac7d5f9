use Rattle.std.proofs.Common.{◌≡◌, ◌<◌, ◌∙◌, ℕ, subst, sym, Some}
use Rattle.bm_closing.specs.Crews.{StepsBelow}
use Rattle.bm_closing.specs.declared.crew.Phase.TheVariants.{Ends, Sweeps}
use Rattle.bm_run.specs.Closers.{CloseTogether, IsAmong, OwnAfter, TookStep}
use Rattle.bm_run.specs.declared.closers.Closers.{Closers}
use Rattle.bm_run.specs.ClosersCrew.{gathered}
use Rattle.bm_run.proofs.ClosersEnd.{all-emptied, together-by}
use Rattle.bm_run.proofs.Results.{not-err}
use Rattle.bm_run.proofs.closers.close_begun.Goals as goal

pub logs_of-requires : goal.logs_of-requires
logs_of-requires c =
    let e = c.if-is_err.ensures.value in
    let done = c.close_all-closed.ensures in
    let crew = c.close_all-closed.new.crew in
    let count : crew.processors ≡ c.len.result = not-err c.close_all-closed.result _ e done.count in
    let has : (p : ℕ) → p < crew.processors → IsAmong (OwnAfter Sweeps) (gathered crew) p = not-err c.close_all-closed.result _ e done.has in
    all-emptied (gathered crew) has (subst (λ n. 0 < n) (sym (count ∙ c.len.ensures ∙ c.args.places.ok.0)) c.requires.some)

pub returns-clause-closed : goal.returns-clause-closed
returns-clause-closed c =
    let e = c.if-is_err.ensures.value in
    let done = c.close_all-closed.ensures in
    let crew = c.close_all-closed.new.crew in
    let before : Closers = record { alloc = c.args.alloc; processors = c.len.result; places = c.args.places; world = Some c.args.world; classes = c.args.classes } in
    let count : crew.processors ≡ c.len.result = not-err c.close_all-closed.result _ e done.count in
    let has : (p : ℕ) → p < crew.processors → IsAmong (OwnAfter Sweeps) (gathered crew) p = not-err c.close_all-closed.result _ e done.has in
    let goes : (m : Closers) × StepsBelow (λ p x y. TookStep Ends p (gathered x) (gathered y)) c.len.result before m × StepsBelow (λ p x y. TookStep Sweeps p (gathered x) (gathered y)) c.len.result m crew = not-err c.close_all-closed.result _ e done.goes in
    let logs = c.in_ok-logs.logs.items in
    let histories = c.in-Ok.histories.items in
    subst (λ n. CloseTogether (record { processors = n; places = c.args.places.items; world = Some c.args.world; classes = c.args.classes.now }) logs histories) (c.len.ensures ∙ c.args.places.ok.0)
    (together-by before crew logs histories goes count has c.in_ok-logs.ensures.told c.in-Ok.ensures)

-- the world is there again
pub histories_of-requires : goal.histories_of-requires
histories_of-requires c =
    let e = c.if-is_err.ensures.value in
    let done = c.close_all-closed.ensures in
    let crew = c.close_all-closed.new.crew in
    let count : crew.processors ≡ c.len.result = not-err c.close_all-closed.result _ e done.count in
    let has : (p : ℕ) → p < crew.processors → IsAmong (OwnAfter Sweeps) (gathered crew) p = not-err c.close_all-closed.result _ e done.has in
    let x = has 0 (subst (λ n. 0 < n) (sym (count ∙ c.len.ensures ∙ c.args.places.ok.0)) c.requires.some) in
    (x.world, x.world_is)
