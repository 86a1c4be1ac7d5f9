use Rattle.std.proofs.Common.{ap, arith}
use Rattle.bm_cache.specs.Shown.{shown}
use Rattle.bm_cache.specs.declared.counts.Counts.{Counts}
use Rattle.bm_cache.proofs.Asked.{seven-length}
use Rattle.bm_closing.proofs.gathering.units_of.Goals as goal

pub returns : goal.returns
returns g c =
    let n = seven-length ((shown c.args.caches.now).rows c.args.class) in
    let e = c.counts-counts.ensures in
    let a = ap (λ (x : Counts). x.free) e in
    let b = ap (λ (x : Counts). x.extra) e in
    let d = ap (λ (x : Counts). x.delayed) e in
    let f = ap (λ (x : Counts). x.extra_delayed) e in
    let h = ap (λ (x : Counts). x.first) e in
    let i = ap (λ (x : Counts). x.ready) e in
    let j = ap (λ (x : Counts). x.second) e in
    omega (arith, n, a, b, d, f, h, i, j)
