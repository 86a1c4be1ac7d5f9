use Rattle.std.proofs.Common.{◌≡◌, ◌++◌, ◌+◌, [], ◌∷◌, ap, ◌∙◌, List, length, map, sym, subst, arith, append-nil, append_assoc}
use Rattle.std.specs.List.{flat_map}
use Rattle.std.proofs.lemmas.Grind.{flat_map-append}
use Rattle.std.specs.Option.{option_map_or}
use Rattle.std.proofs.lemmas.List.{length-append, map-append}
use Rattle.bm_page.specs.UnitState.{UnitState}
use Rattle.bm_grace.specs.Known.{Known}
use Rattle.bm_law_order.specs.Act as act
use Rattle.bm_law_order.specs.Act.{Act}
use Rattle.bm_post.specs.Rights.{numbers}
use Rattle.bm_closing.proofs.Received.{arrived-few, came-none, so-far-more}
use Rattle.bm_closing.proofs.inbox.receive_all.Goals as goal

pub loop-units-smaller : goal.loop-units-smaller
loop-units-smaller g c =
    let us = flat_map (λ p. p.items) c.loop-units.parcels.items in
    let vs = c.in-Some.units.items in
    let e : flat_map (λ p. p.items) c.push.new.self.items ≡ us ++ vs = ap (flat_map (λ p. p.items)) c.in_default-push.ensures.items ∙ (flat_map-append (λ p. p.items) c.loop-units.parcels.items (c.in-Some.units ∷ []) ∙ ap (λ (z : List UnitState). us ++ z) (append-nil vs)) in
    let q = c.receive.ensures in
    let s = so-far-more c.args.class _ us vs _ (g.P.Knows.rights c.loop-units.post) (g.P.Knows.rights c.receive.new.self) _ (g.P.Knows.known c.loop-units.post) (g.P.Knows.known c.receive.new.self) c.loop-units.invariant.so_far c.in-Some.ensures.some q.lasts (ap (λ (x : Known). x.parcels) q.mails.known) (ap (λ (x : Known). x.grace) q.mails.known) (ap (λ (x : Known). x.objects) q.mails.known) c.in-Some.ensures.oldest_told in
    let few = arrived-few c.args.class (g.P.Knows.rights c.receive.new.self) (us ++ vs) (g.met.P.Post.room c.receive.new.self) s.arrived in
    let a = length-append us vs in
    let n : length (flat_map (λ p. p.items) c.push.new.self.items) ≡ length us + length vs = ap length e ∙ a in
    let some = c.in-Some.ensures.some.some in
    omega (arith, few, a, n, some)

pub loop-units-preserved : goal.loop-units-preserved
loop-units-preserved g c =
    let us = flat_map (λ p. p.items) c.loop-units.parcels.items in
    let vs = c.in-Some.units.items in
    let e : flat_map (λ p. p.items) c.push.new.self.items ≡ us ++ vs = ap (flat_map (λ p. p.items)) c.in_default-push.ensures.items ∙ (flat_map-append (λ p. p.items) c.loop-units.parcels.items (c.in-Some.units ∷ []) ∙ ap (λ (z : List UnitState). us ++ z) (append-nil vs)) in
    let q = c.receive.ensures in
    let s = so-far-more c.args.class _ us vs _ (g.P.Knows.rights c.loop-units.post) (g.P.Knows.rights c.receive.new.self) _ (g.P.Knows.known c.loop-units.post) (g.P.Knows.known c.receive.new.self) c.loop-units.invariant.so_far c.in-Some.ensures.some q.lasts (ap (λ (x : Known). x.parcels) q.mails.known) (ap (λ (x : Known). x.grace) q.mails.known) (ap (λ (x : Known). x.objects) q.mails.known) c.in-Some.ensures.oldest_told in
    let n : length (flat_map (λ p. p.items) c.push.new.self.items) ≡ length us + length vs = ap length e ∙ length-append us vs in
    let k : length c.push.new.self.items ≡ length c.loop-units.parcels.items + 1 = ap length c.in_default-push.ensures.items ∙ length-append c.loop-units.parcels.items (c.in-Some.units ∷ []) in
    let some = c.in-Some.ensures.some.some in
    let before = c.loop-units.invariant.some in
    record {
      so_far = rw e s;
      some = omega (arith, n, k, some, before);
      does =
          let was = c.loop-units.invariant.does in
          let ns = numbers vs in
          let named = map-append (λ p. numbers p.items) c.loop-units.parcels.items (c.in-Some.units ∷ []) in
          let now = ap (map (λ p. numbers p.items)) c.in_default-push.ensures.items ∙ named in
          let more = now ∙ ap (λ z. z ++ ns ∷ []) was.1 ∙ append_assoc _ was.0 (ns ∷ []) in
          let told = subst (λ r. g.P.Knows.does (act.Receives c.args.class (option_map_or (λ units. numbers units.items) r []) ∷ []) c.loop-units.post c.receive.new.self) c.in-Some.is q.does in
          let all = g.P.Knows.does_join (map (act.Receives c.args.class) was.0) (act.Receives c.args.class ns ∷ []) c.args.post.now c.loop-units.post c.receive.new.self was.2 told in
          (was.0 ++ ns ∷ [], more, subst (λ (z : List Act). g.P.Knows.does z c.args.post.now c.receive.new.self) (sym (map-append (act.Receives c.args.class) was.0 (ns ∷ []))) all);
      rest = λ d n h. q.rest d n (c.loop-units.invariant.rest d n h);
    }

pub returns-clause-came : goal.returns-clause-came
returns-clause-came g c =
    let us = flat_map (λ p. p.items) c.loop-units.parcels.items in
    let q = c.receive.ensures in
    c.loop-units.invariant.so_far.then_came us (g.P.Knows.rights c.receive.new.self) (g.P.Knows.known c.receive.new.self) (came-none c.args.class us (g.P.Knows.rights c.loop-units.post) (g.P.Knows.rights c.receive.new.self) (g.P.Knows.known c.loop-units.post) (g.P.Knows.known c.receive.new.self) c.in_default.ensures.none (ap (λ (x : Known). x.parcels) q.mails.known) (ap (λ (x : Known). x.grace) q.mails.known) (ap (λ (x : Known). x.objects) q.mails.known) c.in_default.ensures.none_told)

pub loop-units-init : goal.loop-units-init
loop-units-init g c =
    let before = c.args.parcels.now.items in
    record {
      so_far = record {
        arrived = c.requires.arrived;
        then_came = λ more q m h. h;
        stay = λ n h. h;
        lasts = record { settled = λ n life seal m k h. h; due = λ n life seal m k e h. h; ripe = λ n life seal m k e h. h; since = λ d x n m k h. h };
      };
      some = c.requires.some;
      does = ([], sym (append-nil (map (λ p. numbers p.items) before)), g.P.Knows.does_same c.args.post.now);
      rest = λ d n h. h;
    }

pub returns-clause-does : goal.returns-clause-does
returns-clause-does g c =
    let was = c.loop-units.invariant.does in
    let told = subst (λ r. g.P.Knows.does (act.Receives c.args.class (option_map_or (λ units. numbers units.items) r []) ∷ []) c.loop-units.post c.receive.new.self) c.in_default.is c.receive.ensures.does in
    (was.0, was.1, g.P.Knows.does_join (map (act.Receives c.args.class) was.0) (act.Receives c.args.class [] ∷ []) c.args.post.now c.loop-units.post c.receive.new.self was.2 told)
