use Rattle.std.proofs.Common.{◌≡◌, ◌+◌, ◌-◌, ◌∙◌, ◌∷◌, ◌++◌, [], ℕ, ap, sym, subst, arith}
use Rattle.bm_journal.specs.declared.ids.Domain.TheVariants.{Plain, Tracing}
use Rattle.bm_grace.specs.Answers.{number_in}
use Rattle.bm_grace.specs.Known.{Known, side}
use Rattle.bm_law_order.specs.Act as act
use Rattle.bm_work.specs.Still.{alike-joined}
use Rattle.bm_work.proofs.Alike.{alike-read}
use Rattle.bm_closing.proofs.AtEnds.{alike-told}
use Rattle.bm_closing.proofs.period.wait_period.Goals as goal

pub unreachable-requires : goal.unreachable-requires
unreachable-requires g c =
    let n = c.requires.rest.0 in
    let x = c.stamp-stamp.result in
    let s = c.stamp-stamp.ensures.at_rest n c.requires.rest.1.0 in
    let even = c.requires.rest.1.1 in
    let e : x - 2 ≡ n = omega (arith, s, even) in
    let r = c.begin_tracing.ensures.rest.moves (subst (λ k. g.W.Knows.rest c.stamp-stamp.new.self Tracing k) (sym e) (c.stamp-stamp.ensures.rest Tracing n c.requires.rest.1.0)) in
    let q = (c.end_driven-period.ensures.rest (x - 2 + 1)).moves r in
    let d : number_in c.done.result ≡ x - 2 + 1 + 1 = c.done.ensures.at_rest (x - 2 + 1 + 1) q in
    let f : number_in c.done.result ≡ c.in-NotYet.field-0 = ap number_in c.in-NotYet.is in
    let less = c.in-NotYet.ensures.answer in
    absurd (omega (arith, d, f, less, e, s, even))

pub returns-clause-waited : goal.returns-clause-waited
returns-clause-waited g c n h two =
    let x = c.stamp-stamp.result in
    let s = c.stamp-stamp.ensures.at_rest n h in
    let e : x - 2 ≡ n = omega (arith, s, two) in
    let r = c.begin_tracing.ensures.rest.moves (subst (λ k. g.W.Knows.rest c.stamp-stamp.new.self Tracing k) (sym e) (c.stamp-stamp.ensures.rest Tracing n h)) in
    let q = (c.end_driven-period.ensures.rest (x - 2 + 1)).moves r in
    let d : number_in c.done.result ≡ x - 2 + 1 + 1 = c.done.ensures.at_rest (x - 2 + 1 + 1) q in
    let f : number_in c.done.result ≡ c.in-Passed.number = ap number_in c.in-Passed.is in
    let p = c.end_driven-period.ensures.number in
    let b = c.begin_tracing.ensures.number in
    record {
      stamp = omega (arith, s, two);
      begun = omega (arith, e);
      domain = c.end_driven-period.ensures.domain;
      number = omega (arith, p, b, e);
      seen = omega (arith, d, f, e);
    }

pub returns-clause-rest : goal.returns-clause-rest
returns-clause-rest g c n two =
    let x = c.stamp-stamp.result in
    record {
      moves = λ h.
          let s = c.stamp-stamp.ensures.at_rest n h in
          let e : x - 2 ≡ n = omega (arith, s, two) in
          let k : x - 2 + 1 + 1 ≡ n + 2 = omega (arith, e) in
          let r = c.begin_tracing.ensures.rest.moves (subst (λ k. g.W.Knows.rest c.stamp-stamp.new.self Tracing k) (sym e) (c.stamp-stamp.ensures.rest Tracing n h)) in
          let q = (c.end_driven-period.ensures.rest (x - 2 + 1)).moves r in
          subst (λ j. g.W.Knows.rest c.done.new.self Tracing j) k (c.done.ensures.rest Tracing (x - 2 + 1 + 1) q);
      other = λ d k ne h. c.done.ensures.rest d k ((c.end_driven-period.ensures.rest 0).other d k ne (c.begin_tracing.ensures.rest.other d k ne (c.stamp-stamp.ensures.rest d k h)));
    }

pub returns-clause-plain : goal.returns-clause-plain
returns-clause-plain g c =
    let F : Known → ℕ = λ k. (side Plain k).begins in
    ap F c.done.ensures.known ∙ (c.end_driven-period.ensures.begins Plain ∙ (c.begin_tracing.ensures.plain ∙ ap F c.stamp-stamp.ensures.known.known))

pub returns-clause-begins : goal.returns-clause-begins
returns-clause-begins g c =
    let F : Known → ℕ = λ k. (side Tracing k).begins in
    let d = ap F c.done.ensures.known in
    let e = c.end_driven-period.ensures.begins Tracing in
    let b = c.begin_tracing.ensures.begins in
    let s = ap F c.stamp-stamp.ensures.known.known in
    omega (arith, d, e, b, s)

pub returns-clause-alike : goal.returns-clause-alike
returns-clause-alike g c =
    let K = g.W.Knows.known in
    let a = K c.args.world.now in
    let b = K c.stamp-stamp.new.self in
    let d = K c.begin_tracing.new.world in
    let e = K c.end_driven-period.new.world in
    let f = K c.done.new.self in
    let one = alike-told a b _ c.stamp-stamp.ensures.known.known (alike-read _ _ _ a) in
    let four = alike-told e f _ c.done.ensures.known (alike-read _ _ _ e) in
    alike-joined a b f one (alike-joined b d f c.begin_tracing.ensures.alike (alike-joined d e f c.end_driven-period.ensures.alike four))

pub returns-clause-does : goal.returns-clause-does
returns-clause-does g c =
    let x = c.stamp-stamp.result in
    let a = c.args.world.now in
    let b = c.stamp-stamp.new.self in
    let d = c.begin_tracing.new.world in
    let e = c.end_driven-period.new.world in
    let f = c.done.new.self in
    let two = c.end_driven-period.ensures.does in
    let seen : number_in c.done.result ≡ c.in-Passed.number = ap number_in c.in-Passed.is in
    let last = subst (λ n. g.W.Knows.does (act.Reads Tracing x n ∷ []) e f) seen c.done.ensures.does in
    let begins = act.Begins Tracing (x - 2 + 1) in
    let ends = act.Looks Tracing two.0 ∷ act.Finishes c.end_driven-period.result ∷ [] in
    let reads = act.Reads Tracing x c.in-Passed.number ∷ [] in
    let three = g.W.Knows.does_join ends reads d e f two.1 last in
    let four = g.W.Knows.does_join (begins ∷ []) (ends ++ reads) b d f c.begin_tracing.ensures.does three in
    (two.0, g.W.Knows.does_join (act.Stamps Tracing x ∷ []) (begins ∷ ends ++ reads) a b f c.stamp-stamp.ensures.does four)
