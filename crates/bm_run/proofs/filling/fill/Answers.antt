use Rattle.std.proofs.Common.{◌≡◌, ◌+◌, ◌++◌, ◌∷◌, [], ℕ, List, map, drop, ap, sym, subst, ◌∙◌}
use Rattle.std.proofs.lemmas.List.{drop_more}
use Rattle.bm_page.specs.Stock.{Stock, fetched}
use Rattle.bm_page.specs.UnitState.{UnitState}
use Rattle.bm_run.proofs.OpeningResults.{not-err}
use Rattle.bm_law_scenario.specs.Fills.{prefill}
use Rattle.bm_run.specs.Filling.{filling, units_in, IsUnborn}
use Rattle.bm_run.proofs.Fillings.{unborn-fetched, Filled_so_far, filled-more, map-more}
use Rattle.bm_run.proofs.filling.fill.Goals as goal

pub returns-in-Err-clause-unborn : goal.returns-in-Err-clause-unborn
returns-in-Err-clause-unborn c =
    let p = not-err c.fetch.result _ c.if-is_err.ensures.value c.fetch.ensures.pool in
    subst (λ (s : Stock). IsUnborn s.units) (sym p) (unborn-fetched c.class-item.result c.prefill.result c.loop-class.pool c.loop-class.invariant.unborn)

pub loop-class-preserved : goal.loop-class-preserved
loop-class-preserved c =
    let d = c.class-item.result in
    let n = c.loop-class.class-index in
    let classes = c.args.classes.now in
    let pool = c.loop-class.pool in
    let v = c.loop-class.invariant in
    let fs : List (ℕ × List UnitState) = map (λ f. (f.0, f.1.items)) c.loop-class.fills.items in
    let e = c.if-is_err.ensures.value in
    let p = rw c.prefill.ensures at (not-err c.fetch.result _ e c.fetch.ensures.pool) in
    let us = rw c.new-units.ensures.items at (rw c.prefill.ensures at (not-err c.fetch.result _ e c.fetch.ensures.units)) in
    let each = rw c.prefill.ensures at (not-err c.fetch.result _ e c.fetch.ensures.each) in
    let out = rw c.prefill.ensures at (not-err c.fetch.result _ e c.fetch.ensures.out) in
    let rest : drop n classes ≡ d ∷ drop (n + 1) classes = drop_more classes n d c.loop-class-test.true ∙ ap (λ k. k ∷ drop (n + 1) classes) (sym c.class-item.is) in
    let so_far : filling classes c.args.pool.now ≡ _ = v.so_far in
    let w : Filled_so_far classes (d ∷ drop (n + 1) classes) c.args.pool.now pool fs = subst (λ l. Filled_so_far classes l c.args.pool.now pool fs) rest (record { so_far = v.so_far; sits = v.sits; unlived = v.unlived; out = v.out; unborn = v.unborn }) in
    let next = filled-more classes (drop (n + 1) classes) d c.args.pool.now pool c.fetch.new.self fs w p each (out (units_in fs) v.out) in
    let more : map (λ f. (f.0, f.1.items)) c.push.new.self.items ≡ fs ++ (d, (fetched d (prefill d) pool).units) ∷ [] =
    map-more (λ f. (f.0, f.1.items)) c.loop-class.fills.items c.push.new.self.items (d, c.fetch.new.out) (d, (fetched d (prefill d) pool).units) c.in_default.ensures.items (ap (λ l. (d, l)) us) in
    let all = subst (λ l. Filled_so_far classes (drop (n + 1) classes) c.args.pool.now c.fetch.new.self l) (sym more) next in
    record { so_far = all.so_far; sits = all.sits; unlived = all.unlived; out = all.out; unborn = all.unborn }
