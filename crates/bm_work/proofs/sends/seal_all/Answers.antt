use Rattle.std.proofs.Common.{◌≡◌, ◌<◌, ◌+◌, ◌++◌, ◌∙◌, ℕ, suc, List, length, map, take, drop, get_or, slice_set, sym, ap, subst, arith}
use Rattle.bm_cache.specs.Tokens.{Token}
use Rattle.bm_work.specs.Periods.{sealed}
use Rattle.bm_work.proofs.Sealed.{mixed-length, seal-step, there-still}
use Rattle.bm_work.proofs.sends.seal_all.Goals as goal

pub seals-preserved : goal.seals-preserved
seals-preserved c =
    let us : List Token = c.args.units.now.items in
    let x = c.args.seal in
    let i : ℕ = c.seals.at in
    let d = c.index_mut.result.now in
    let n : i < length us = omega (arith, c.seals-test.true, c.len.ensures, c.seals.units.ok.0, ap length c.seals.invariant.0, mixed-length x us i) in
    let m : i + 1 ≡ suc i = omega (arith) in
    let v : c.set_seal.new.self ≡ sealed x (get_or us i d) = c.set_seal.ensures ∙ ap (sealed x) (c.index_mut.ensures.value ∙ ap (λ (z : List Token). get_or z i d) c.seals.invariant.0 ∙ there-still x us i d n) in
    let F : ℕ → Type 0 = λ k. slice_set c.seals.units.items i c.set_seal.new.self ≡ map (sealed x) (take k us) ++ drop k us in
    (subst F (sym m) (ap (λ (z : List Token). slice_set z i c.set_seal.new.self) c.seals.invariant.0 ∙ seal-step x us i c.set_seal.new.self d n v), omega (arith, n))
