use Rattle.std.proofs.Common.{◌≡◌, ◌∙◌, arith, subst, sym, true}
use Rattle.std.specs.Prelude.{is_some}
use Rattle.bm_world.specs.LivingState.{LivingState, lives_of}
use Rattle.bm_world.specs.Slots.{object_at}
use Rattle.bm_world.proofs.KnownLiving.{count-told, some-counted}
use Rattle.bm_world.proofs.living.LivingSideLives.references.Goals as goal

pub returns-clause-count : goal.returns-clause-count
returns-clause-count c =
    let i = c.self.inside in
    rw (← c.self.view_is) (c.references.ensures ∙ sym (count-told (object_at i.slots.slots.items c.args.number)))

pub returns-clause-some : goal.returns-clause-some
returns-clause-some c =
    let i = c.self.inside in
    let lives = subst (λ (s : LivingState). is_some (lives_of s.slots c.args.number) ≡ true) (sym c.self.view_is) c.requires.lives in
    let seen = c.references.ensures in
    let some = some-counted i.asked (object_at i.slots.slots.items c.args.number) lives (c.self.invariant.0.counted c.args.number) in
    omega (arith, seen, some)
