-- A statement without blocks, once its needs are met and it has spent what it spends.
use Rattle.std.proofs.Common.{◌≡◌, ℕ, Option, Some, None, Ok, Err, sym, ap, ap₂, ◌∙◌}
use Rattle.std.specs.Option.{option_or}
use Rattle.bm_lang.specs.declared.scenario.Action.{Action}
use Rattle.bm_check.specs.declared.name_state.HeldLock.{HeldLock}
use Rattle.bm_check.specs.declared.rule.Rule.{Rule}
use Rattle.bm_check.specs.declared.stop.Stop.{Stop}
use Rattle.bm_check.specs.declared.stop.Stop.TheVariants as stop
use Rattle.bm_check.specs.Names.{Names}
use Rattle.bm_check.specs.Answers.{IsBound, IsJudged}
use Rattle.bm_check.specs.Statements.{Row, bound_free, with_binding, broken_by, lock_after}
use Rattle.bm_check.specs.Blocks.{at, Reaches, Broken, after_statement}

binds_by : (r : Row) (n : Names) (o : Option Rule) → r.needs ≡ None → n ≡ r.leaves → bound_free n r.bound ≡ o → broken_by r ≡ o
binds_by r n o met is free = ap (λ (t : Option Rule). option_or t (bound_free r.leaves r.bound)) met ∙ (ap (λ (m : Names). bound_free m r.bound) (sym is) ∙ free)

pub is_bound : (line : ℕ) (l k : HeldLock) (a : Action) (r : Row) (n m : Names) → r.needs ≡ None → n ≡ r.leaves → IsBound (Ok tt) n m line r.bound → k ≡ lock_after l a → after_statement line l a r ≡ Reaches (at m k)
is_bound line l k a r n m met is bound lock =
    rw (binds_by r n None met is bound.0) (ap₂ (λ (o : Names) (h : HeldLock). Reaches (at o h)) (ap (λ (o : Names). with_binding o r.bound) (sym is) ∙ sym bound.1) (sym lock))

pub is_not_bound : (s : Stop) (line : ℕ) (l : HeldLock) (a : Action) (r : Row) (n m : Names) → r.needs ≡ None → n ≡ r.leaves → IsBound (Err s) n m line r.bound → IsJudged (Err s) m (after_statement line l a r)
is_not_bound (stop.Broken at_line rule) line l a r n m met is bound = rw (binds_by r n (Some rule) met is bound.0) (ap (λ (i : ℕ). Broken i rule) (sym bound.1))
is_not_bound stop.NoMemory line l a r n m met is bound = tt
