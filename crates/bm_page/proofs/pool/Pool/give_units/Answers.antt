use Rattle.std.proofs.Common.{◌≡◌, ◌+◌, ◌-◌, ◌++◌, ◌∷◌, [], refl, ap, sym, ◌∙◌, arith, length-append}
use Rattle.bm_page.specs.declared.pool.Walk.{Walk}
use Rattle.bm_page.specs.Stock.{Stock, unit_given}
use Rattle.bm_page.specs.Out.{count_out}
use Rattle.bm_page.proofs.FetchLemmas.{IsFetching-start, IsFetching-next, IsFetching-end, count-end, fetched-none, fetched-zero, length-fetched_next}
use Rattle.bm_page.proofs.WalkLemmas.{IsWalk-start}
use Rattle.bm_page.proofs.OutLemmas.{IsSettled-pool, are_out-fetched, from_stock-fetched, count-fetched}
use Rattle.bm_page.proofs.pool.Pool.give_units.Goals as goal

pub loop-given-init : goal.loop-given-init
loop-given-init c =
    let walk : Walk = record { from = 0; until = c.len.result; fresh = 0 } in
    let pool : Stock = record { classes = c.self.inside.classes.items; units = c.self.inside.units.items } in
    let pages = c.self.invariant.pages in
    record {
      fetching = IsFetching-start c.args.class c.args.want c.args.out.now.items c.args.self.now (c.args.want - 0) (omega arith);
      count = omega arith;
      room = let all : c.args.want - 0 ≡ c.args.want = omega arith in rw all c.requires;
      walk = rw (← c.self.view_is) (IsWalk-start c.args.class pool walk pages refl (omega arith) refl);
    }

pub returns-in-None-clause-count : goal.returns-in-None-clause-count
returns-in-None-clause-count c =
    let invariant = c.loop-given.invariant in
    let end = IsFetching-end c.args.class c.args.want c.args.out.now.items c.args.self.now c.loop-given.out.items c.loop-given.self (c.args.want - c.loop-given.given) invariant.fetching (fetched-none c.args.class (c.args.want - c.loop-given.given) c.loop-given.self c.in-None.ensures.next) in
    count-end c.args.class c.args.want c.args.out.now.items c.args.self.now c.loop-given.out.items c.loop-given.given end.0 invariant.count

pub returns-in-None-clause-units : goal.returns-in-None-clause-units
returns-in-None-clause-units c =
    let invariant = c.loop-given.invariant in
    let end = IsFetching-end c.args.class c.args.want c.args.out.now.items c.args.self.now c.loop-given.out.items c.loop-given.self (c.args.want - c.loop-given.given) invariant.fetching (fetched-none c.args.class (c.args.want - c.loop-given.given) c.loop-given.self c.in-None.ensures.next) in
    end.0

pub returns-in-None-clause-pool : goal.returns-in-None-clause-pool
returns-in-None-clause-pool c =
    let invariant = c.loop-given.invariant in
    let end = IsFetching-end c.args.class c.args.want c.args.out.now.items c.args.self.now c.loop-given.out.items c.loop-given.self (c.args.want - c.loop-given.given) invariant.fetching (fetched-none c.args.class (c.args.want - c.loop-given.given) c.loop-given.self c.in-None.ensures.next) in
    c.in-None.ensures.pool ∙ end.1

pub loop-given-preserved : goal.loop-given-preserved
loop-given-preserved c =
    let invariant = c.loop-given.invariant in
    let unit = c.in-Some.ensures.unit in
    let items : c.push.new.self.items ≡ c.loop-given.out.items ++ unit_given c.args.class c.in-Some.unit.number c.loop-given.self ∷ [] = c.in_default.ensures.items ∙ ap (λ u. c.loop-given.out.items ++ u ∷ []) unit in
    let next = IsFetching-next c.args.class c.args.want c.args.out.now.items c.args.self.now c.loop-given.out.items c.loop-given.self (c.args.want - c.loop-given.given) c.in-Some.unit.number (c.args.want - (c.loop-given.given + 1)) invariant.fetching (omega arith) c.in-Some.ensures.next in
    record {
      fetching = rw (items, c.in-Some.ensures.pool) next;
      count = rw (items, length-append) (omega arith);
      room = let len = c.in_default.ensures.len in let capacity = c.in_default.ensures.capacity in let rest = length-fetched_next c.args.class (c.args.want - c.loop-given.given) (c.args.want - (c.loop-given.given + 1)) c.in-Some.unit.number c.loop-given.self (omega arith) c.in-Some.ensures.next in rw c.in-Some.ensures.pool (omega (arith, rest, len, capacity));
      walk = c.in-Some.ensures.walk;
    }

pub returns-clause-count : goal.returns-clause-count
returns-clause-count c =
    let invariant = c.loop-given.invariant in
    let end = IsFetching-end c.args.class c.args.want c.args.out.now.items c.args.self.now c.loop-given.out.items c.loop-given.self (c.args.want - c.loop-given.given) invariant.fetching (fetched-zero c.args.class (c.args.want - c.loop-given.given) c.loop-given.self (omega arith)) in
    let count = count-end c.args.class c.args.want c.args.out.now.items c.args.self.now c.loop-given.out.items c.loop-given.given end.0 invariant.count in
    omega arith

pub returns-clause-units : goal.returns-clause-units
returns-clause-units c =
    let invariant = c.loop-given.invariant in
    let end = IsFetching-end c.args.class c.args.want c.args.out.now.items c.args.self.now c.loop-given.out.items c.loop-given.self (c.args.want - c.loop-given.given) invariant.fetching (fetched-zero c.args.class (c.args.want - c.loop-given.given) c.loop-given.self (omega arith)) in
    end.0

pub returns-clause-pool : goal.returns-clause-pool
returns-clause-pool c =
    let invariant = c.loop-given.invariant in
    let end = IsFetching-end c.args.class c.args.want c.args.out.now.items c.args.self.now c.loop-given.out.items c.loop-given.self (c.args.want - c.loop-given.given) invariant.fetching (fetched-zero c.args.class (c.args.want - c.loop-given.given) c.loop-given.self (omega arith)) in
    end.1

pub returns-in-None-clause-out : goal.returns-in-None-clause-out
returns-in-None-clause-out c = λ held are.
    let invariant = c.loop-given.invariant in
    let end = IsFetching-end c.args.class c.args.want c.args.out.now.items c.args.self.now c.loop-given.out.items c.loop-given.self (c.args.want - c.loop-given.given) invariant.fetching (fetched-none c.args.class (c.args.want - c.loop-given.given) c.loop-given.self c.in-None.ensures.next) in
    let pool_is = c.in-None.ensures.pool ∙ end.1 in
    let settled = rw c.self.view_is at (IsSettled-pool c.self.inside.classes.items c.self.inside.lows.items c.self.inside.units.items c.self.invariant) in
    rw pool_is (are_out-fetched c.args.class c.args.want c.args.self.now held settled are)

pub returns-clause-out : goal.returns-clause-out
returns-clause-out c = λ held are.
    let invariant = c.loop-given.invariant in
    let end = IsFetching-end c.args.class c.args.want c.args.out.now.items c.args.self.now c.loop-given.out.items c.loop-given.self (c.args.want - c.loop-given.given) invariant.fetching (fetched-zero c.args.class (c.args.want - c.loop-given.given) c.loop-given.self (omega arith)) in
    let settled = rw c.self.view_is at (IsSettled-pool c.self.inside.classes.items c.self.inside.lows.items c.self.inside.units.items c.self.invariant) in
    rw end.1 (are_out-fetched c.args.class c.args.want c.args.self.now held settled are)

pub returns-in-None-clause-each : goal.returns-in-None-clause-each
returns-in-None-clause-each c =
    let settled = rw c.self.view_is at (IsSettled-pool c.self.inside.classes.items c.self.inside.lows.items c.self.inside.units.items c.self.invariant) in
    from_stock-fetched c.args.class c.args.want c.args.self.now settled

pub returns-clause-each : goal.returns-clause-each
returns-clause-each c =
    let settled = rw c.self.view_is at (IsSettled-pool c.self.inside.classes.items c.self.inside.lows.items c.self.inside.units.items c.self.invariant) in
    from_stock-fetched c.args.class c.args.want c.args.self.now settled

pub returns-in-None-clause-more_out : goal.returns-in-None-clause-more_out
returns-in-None-clause-more_out c =
    let invariant = c.loop-given.invariant in
    let end = IsFetching-end c.args.class c.args.want c.args.out.now.items c.args.self.now c.loop-given.out.items c.loop-given.self (c.args.want - c.loop-given.given) invariant.fetching (fetched-none c.args.class (c.args.want - c.loop-given.given) c.loop-given.self c.in-None.ensures.next) in
    let given = count-end c.args.class c.args.want c.args.out.now.items c.args.self.now c.loop-given.out.items c.loop-given.given end.0 invariant.count in
    let settled = rw c.self.view_is at (IsSettled-pool c.self.inside.classes.items c.self.inside.lows.items c.self.inside.units.items c.self.invariant) in
    ap (λ (s : Stock). count_out s.units) (c.in-None.ensures.pool ∙ end.1) ∙ (count-fetched c.args.class c.args.want c.args.self.now settled ∙ ap (λ n. count_out c.args.self.now.units + n) (sym given))

pub returns-clause-more_out : goal.returns-clause-more_out
returns-clause-more_out c =
    let invariant = c.loop-given.invariant in
    let end = IsFetching-end c.args.class c.args.want c.args.out.now.items c.args.self.now c.loop-given.out.items c.loop-given.self (c.args.want - c.loop-given.given) invariant.fetching (fetched-zero c.args.class (c.args.want - c.loop-given.given) c.loop-given.self (omega arith)) in
    let given = count-end c.args.class c.args.want c.args.out.now.items c.args.self.now c.loop-given.out.items c.loop-given.given end.0 invariant.count in
    let all : c.loop-given.given ≡ c.args.want = omega arith in
    let settled = rw c.self.view_is at (IsSettled-pool c.self.inside.classes.items c.self.inside.lows.items c.self.inside.units.items c.self.invariant) in
    ap (λ (s : Stock). count_out s.units) end.1 ∙ (count-fetched c.args.class c.args.want c.args.self.now settled ∙ ap (λ n. count_out c.args.self.now.units + n) (sym given ∙ all))

pub unreachable-requires : goal.unreachable-requires
unreachable-requires c =
    let room = c.loop-given.invariant.room in
    let rest = length-fetched_next c.args.class (c.args.want - c.loop-given.given) (c.args.want - (c.loop-given.given + 1)) c.in-Some.unit.number c.loop-given.self (omega arith) c.in-Some.ensures.next in
    let full = c.in-Err.ensures.full in
    omega (arith, rest, room, full)
