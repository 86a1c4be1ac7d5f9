-- What is taken from the stock is given back, or is out: over an order.
use Rattle.std.proofs.Common.{◌≡◌, ℕ, ◌+◌, List, [], ◌∷◌, reverse, refl, sym, ◌∙◌, ap, subst, arith}
use Rattle.bm_journal.specs.EntryText.{unit_list}
use Rattle.bm_journal.specs.declared.entry.Entry.{Entry}
use Rattle.bm_journal.specs.declared.entry.Entry.TheVariants as entry
use Rattle.bm_law.specs.Pages.{prefill}
use Rattle.bm_page.specs.Stock.{Stock, fetched}
use Rattle.bm_law_lives.specs.Together.{times}
use Rattle.bm_law_lives.specs.Returns.{returned_units, taken_units}
use Rattle.bm_law_order.specs.Pages.{PagesFit, fetches, pages_after}
use Rattle.bm_law_order.specs.Shared.{Shared}
use Rattle.bm_law_order.specs.Orders.{AllFit, AllShared, Order, over, shared_over}
use Rattle.bm_law_laid.specs.Once.{named_by}
use Rattle.bm_law_laid.specs.UnitsOut.{IsSettled, times_out}
use Rattle.bm_law_laid.proofs.Onces.{times-append, times-reverse}
use Rattle.bm_law_laid.proofs.Parts.{pages-fit, pages-over}
use Rattle.bm_law_laid.proofs.Settled.{all-go-back, fetch-gives}

-- an entry takes and gives back so much
record Moves (u : ℕ) (e : Entry) (before now : Stock) : Type 0 where
  settled : IsSettled now
  balanced : times u (taken_units e) + times_out u before ≡ times u (returned_units e) + times_out u now

fetches-so : (u class want : ℕ) (us : List ℕ) (pool : Stock) → IsSettled pool → us ≡ fetches class want pool → times u us + times_out u pool ≡ 0 + times_out u (fetched class want pool).pool
fetches-so u class want us pool settled f =
    let g = fetch-gives u class want pool settled in
    ap (λ xs. times u xs + times_out u pool) f ∙ (g.out ∙ omega arith)

moves : (u p l : ℕ) (e : Entry) (pool : Stock) → IsSettled pool → PagesFit p l e pool → Moves u e pool (pages_after p l e pool)
moves u p l (entry.Fill c us) pool settled f = record { settled = (fetch-gives u c (prefill c) pool settled).settled; balanced = fetches-so u c (prefill c) (unit_list us) pool settled f }
moves u p l (entry.Fetch c want us) pool settled f = record { settled = (fetch-gives u c want pool settled).settled; balanced = fetches-so u c want (unit_list us) pool settled f }
moves u p l (entry.Return c us) pool settled f =
    let back = all-go-back u (reverse (unit_list us)) pool settled f in
    let out = back.out in
    let same = times-reverse u (unit_list us) in
    record { settled = back.settled; balanced = omega (arith, out, same) }
moves u p l _ pool settled f = record { settled = settled; balanced = refl }

pub returns-balance : (u : ℕ) (o : Order) (pool : Stock) → IsSettled pool → AllFit pages_after PagesFit o pool → times u (named_by taken_units o) + times_out u pool ≡ times u (named_by returned_units o) + times_out u (over pages_after o pool)
returns-balance u [] pool settled h = refl
returns-balance u (e ∷ o) pool settled h =
    let now : Stock = pages_after e.processor e.level e.entry pool in
    let one = moves u e.processor e.level e.entry pool settled h.0 in
    let first = one.balanced in
    let more = returns-balance u o now one.settled h.1 in
    let a = times-append u (taken_units e.entry) (named_by taken_units o) in
    let b = times-append u (returned_units e.entry) (named_by returned_units o) in
    omega (arith, first, more, a, b)

pub shared-returns : (u : ℕ) (o : Order) (s : Shared) → IsSettled s.pool → AllShared o s → times u (named_by taken_units o) + times_out u s.pool ≡ times u (named_by returned_units o) + times_out u (shared_over o s).pool
shared-returns u o s settled h = subst (λ (x : Stock). times u (named_by taken_units o) + times_out u s.pool ≡ times u (named_by returned_units o) + times_out u x) (sym (pages-over o s)) (returns-balance u o s.pool settled (pages-fit o s h))
