use Rattle.std.proofs.Common.{◌≡◌, ◌<◌, ◌≤◌, ◌+◌, ℕ, map, arith}
use Rattle.std.specs.List.{All}
use Rattle.bm_law.specs.Stands.{stands, times}
use Rattle.bm_law.specs.State.{seen}
use Rattle.bm_cache.specs.Shown.{shown}
use Rattle.bm_cache.specs.Tokens.{Token, number_of}
use Rattle.bm_cache.proofs.Outside.{stands-filled}
use Rattle.bm_work_lists.proofs.Ranges.{apart, three-apart}
use Rattle.bm_tests_machine.proofs.work_tests.set_up.Goals as goal

pub receive-requires-clause-fresh : goal.receive-requires-clause-fresh
receive-requires-clause-fresh g c n =
    let lent : ℕ = c.args.case.ready + c.args.case.second in
    let s : stands n (seen number_of (shown c.opened-caches.result)) ≡ times n (map number_of c.between-free.result.items) = stands-filled c.opened-caches.result c.between-free.result.items n c.opened-caches.ensures.opened.lists in
    let a : All (λ (u : Token). lent ≤ u.number) c.between-free.result.items = λ i u k. (c.between-free.ensures.within i u k).0 in
    let b : All (λ (u : Token). u.number < lent) c.between-second.result.items = λ i u k. (c.between-second.ensures.within i u k).1 in
    omega (arith, s, apart n lent c.between-free.result.items c.between-second.result.items a b (c.between-free.ensures.once n) (c.between-second.ensures.once n))

pub receive-requires-2-clause-fresh : goal.receive-requires-2-clause-fresh
receive-requires-2-clause-fresh g c n =
    let lent : ℕ = c.args.case.ready + c.args.case.second in
    let s : stands n (seen number_of (shown c.opened-caches.result)) ≡ times n (map number_of c.between-free.result.items) = stands-filled c.opened-caches.result c.between-free.result.items n c.opened-caches.ensures.opened.lists in
    let a : All (λ (u : Token). lent ≤ u.number) c.between-free.result.items = λ i u k. (c.between-free.ensures.within i u k).0 in
    let b : All (λ (u : Token). u.number < lent) c.between-second.result.items = λ i u k. (c.between-second.ensures.within i u k).1 in
    let d : All (λ (u : Token). c.args.case.ready ≤ u.number) c.between-second.result.items = λ i u k. (c.between-second.ensures.within i u k).0 in
    let e : All (λ (u : Token). u.number < c.args.case.ready) c.between-ready.result.items = λ i u k. (c.between-ready.ensures.within i u k).1 in
    let m : c.args.case.ready ≤ lent = omega arith in
    omega (arith, s, c.receive.ensures.stands n, c.set_second.ensures.stands n, three-apart n c.args.case.ready lent c.between-free.result.items c.between-second.result.items c.between-ready.result.items m a b d e (c.between-free.ensures.once n) (c.between-second.ensures.once n) (c.between-ready.ensures.once n))
