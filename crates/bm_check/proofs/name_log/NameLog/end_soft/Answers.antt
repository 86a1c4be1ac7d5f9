use Rattle.std.proofs.Common.{◌≡◌, List, ℕ, [], length, Some, slice_get, ◌-◌, sym, ◌∙◌, ap, subst, Bor}
use Rattle.bm_check.specs.Tables.{AreListed}
use Rattle.bm_check.specs.Changes.{names_in}
use Rattle.bm_check.proofs.ChangeLemmas.{last_off, none_soft, popped, no_last}
use Rattle.bm_check.proofs.name_log.NameLog.end_soft.Goals as goal

pub invariant_of-self : goal.invariant_of-self
invariant_of-self c =
    let soft = c.spend_soft.new.self.soft in
    let x = c.in-Some.name.now in
    let same : c.deref.result.now ≡ soft.items = c.deref.ensures.value ∙ sym c.in_ok-spend_soft.ensures.soft in
    let last : slice_get soft.items (length soft.items - 1) ≡ Some x = ap (λ (xs : List (Bor (List ℕ))). slice_get xs (length xs - 1)) (sym same) ∙ sym c.in-Some.ensures.value in
    let is = popped soft.items c.pop.new.self.items c.pop.result soft.len x (sym soft.ok.0) last c.pop.ensures.value c.pop.ensures.items in
    record {
      soft_listed = last_off c.pop.new.self.items x (names_in c.spend_soft.new.self) (subst (λ (xs : List (Bor (List ℕ))). AreListed xs (names_in c.spend_soft.new.self)) is c.spend_soft.new.self.soft_listed) c.in_ok-spend_soft.ensures.spent;
    }

pub returns-clause-ok : goal.returns-clause-ok
returns-clause-ok c =
    let n = names_in c.loop-name.self in
    let empty : c.loop-name.self.soft.items ≡ [] = sym c.deref.ensures.value ∙ no_last c.deref.result.now (sym c.in_default.ensures.value) in
    none_soft n (subst (λ (xs : List (Bor (List ℕ))). AreListed xs n) empty c.loop-name.self.soft_listed) ∙ c.loop-name.invariant.ended
