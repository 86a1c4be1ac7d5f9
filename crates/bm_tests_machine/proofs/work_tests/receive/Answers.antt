use Rattle.std.proofs.Common.{◌≡◌, ◌<◌, ◌+◌, ℕ, map, refl, ap, ◌∙◌, sym, subst, arith}
use Rattle.bm_journal.specs.declared.entry.Entry.{Entry}
use Rattle.bm_journal.specs.declared.entry.Entry.TheVariants as entry
use Rattle.bm_journal.specs.declared.units.Units.TheVariants.{Whole}
use Rattle.bm_law.specs.Effect.{effect}
use Rattle.bm_law.specs.Kept.{Ready}
use Rattle.bm_law.specs.Stands.{stands, times}
use Rattle.bm_law.specs.State.{State, seen}
use Rattle.bm_law.proofs.Seen.{seen-effect}
use Rattle.bm_law.proofs.Stands.{stands-effect}
use Rattle.bm_cache.specs.Shown.{shown}
use Rattle.bm_cache.specs.Tokens.{Token, number_of}
use Rattle.bm_cache.proofs.Stretch.{targets-effect}
use Rattle.bm_work_lists.proofs.Ranges.{ready-row}
use Rattle.bm_tests_machine.proofs.work_tests.receive.Goals as goal

pub returns-clause-ready : goal.returns-clause-ready
returns-clause-ready g c =
    let t = c.take_parcel.ensures.step in
    let A : State Token → Type 0 = λ s. Ready 0 s in
    subst A (sym t.after) (ready-row c.args.class _ (shown c.args.caches.now) refl c.requires.ready)

pub returns-clause-aimed : goal.returns-clause-aimed
returns-clause-aimed g c =
    let t = c.take_parcel.ensures.step in
    let us = c.args.units.items in
    let T : State Token → Type 0 = λ s. (k : ℕ) → (s.rows k).target < 1 in
    let N : ℕ → Type 0 = λ n. n < 1 in
    record {
      few = c.requires.aimed.few;
      processor = subst N (sym t.processor) c.requires.aimed.processor;
      targets = subst T (sym t.after) (targets-effect 1 c.ordinary.result (entry.Receive c.args.class (Whole (map number_of us))) us (shown c.args.caches.now) tt c.requires.aimed.targets);
    }

pub returns-clause-stands : goal.returns-clause-stands
returns-clause-stands g c n =
    let t = c.take_parcel.ensures.step in
    let us = c.args.units.items in
    let s = shown c.args.caches.now in
    let e : Entry = entry.Receive c.args.class (Whole (map number_of us)) in
    let l = c.ordinary.result in
    let q : seen number_of (shown c.take_parcel.new.self) ≡ effect l e (map number_of us) (seen number_of s) = ap (seen number_of) t.after ∙ seen-effect number_of l e us s in
    let w : stands n (effect l e (map number_of us) (seen number_of s)) + 0 ≡ stands n (seen number_of s) + times n (map number_of us) = stands-effect n l e (map number_of us) (seen number_of s) (record { level = omega (arith, c.ordinary.ensures); class = omega (arith, c.index-class.ensures.same, c.index-class.ensures.in_range) }) in
    rw q (omega (arith, w))
