-- A log that is tied to a world that tells its state has grown by entries that lead there.
use Rattle.std.proofs.Common.{◌≡◌, ℕ, List, [], ◌++◌, sym, ◌∙◌, ap, subst, append-nil}
use Rattle.bm_law.specs.Lists.{Log}
use Rattle.bm_law_order.specs.Act.{Act}
use Rattle.bm_law_order.specs.Acts.{ActsFit, ActsLead, acts_over}
use Rattle.bm_law_order.specs.Chunk.{Chunk}
use Rattle.bm_law_order.specs.Orders.{Leads, by}
use Rattle.bm_law_order.specs.Shared.{Shared}
use Rattle.bm_law_order.specs.Story.{Steady, deeds, lines, plainly}
use Rattle.bm_law_order.specs.Tie.{HasLed, Tied}
use Rattle.bm_law_order.proofs.Stories.{story-reads}

pub tied-leads : (judge : ℕ → Log → Chunk → Type 0) (p l : ℕ) (since log : Log) (start now : Shared) → Tied judge (ActsLead p) since start l [] [] log now → Steady start → HasLed p since start log now
tied-leads judge p l since log start now t h =
    let none : deeds t.story ++ [] ≡ deeds t.story = append-nil (deeds t.story) in
    let fit : ActsFit p (deeds t.story) start = subst (λ (as' : List Act). ActsFit p as' start) none t.done_is.fit in
    let there : acts_over p (deeds t.story) start ≡ now = ap (λ (as' : List Act). acts_over p as' start) (sym none) ∙ t.done_is.now_is in
    let r = story-reads p t.story start fit h in
    record {
      added = lines t.story;
      log_is = t.log_is ∙ ap (λ (z : Log). since ++ z) (append-nil (lines t.story));
      leads = subst (λ (z : Shared). Leads (by p (lines t.story)) (plainly start) (plainly z)) there r.leads;
      steady = subst Steady there r.steady;
    }
