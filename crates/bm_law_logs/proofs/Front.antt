-- A log of the one processor that there is, before its closing: what its entries find of the inboxes fits the law of parcels.
use Rattle.std.proofs.Common.{◌≡◌, ◌<◌, ℕ, zero, suc, List, [], ◌∷◌, ◌++◌, refl, sym, subst, inl, inr, arith}
use Rattle.std.proofs.lemmas.Bool.Decides.{eqb_tells}
use Rattle.bm_journal.specs.declared.entry.Entry.{Entry}
use Rattle.bm_journal.specs.declared.entry.Entry.TheVariants as entry
use Rattle.bm_law.specs.State.{State}
use Rattle.bm_law.specs.Lists.{Log, next, after}
use Rattle.bm_law.specs.Spans.{own_entries}
use Rattle.bm_law_order.specs.Orders.{AllFit, by, over}
use Rattle.bm_law_order.specs.Parcels.{Boxes, BoxesFit, boxes_after}
use Rattle.bm_law.specs.Inboxes.{inboxes_after}
use Rattle.bm_law_logs.proofs.QuietEntries.{IsQuiet}
use Rattle.bm_law_scenario.specs.Parcels.{ParcelFits, ParcelsFit}
use Rattle.bm_law_scenario.proofs.EachLevel.{AllAbove}
use Rattle.bm_law_logs.proofs.Sends.{AllSendOf, SendsOf, quiet-sends}
use Rattle.bm_law_logs.proofs.Inside.{Inside, after-inside}

-- each entry, of whatever level, sends parcels of these classes alone, and nothing is swept
abbrev pub AllSends : List ℕ → Log → Type 0
AllSends cs [] = Unit {0}
AllSends cs (e ∷ es) = SendsOf cs e.1 × AllSends cs es

above-zero : (n : ℕ) → (n ≡ 0 → ⊥) → 0 < n
above-zero zero f = absurd (f refl)
above-zero (suc n) f = omega arith

-- where those of ordinary code do, and those above are quiet
pub sends-above : (cs : List ℕ) (log : Log) → AllAbove IsQuiet log → AllSendOf cs (own_entries 0 log) → AllSends cs log
sends-above cs [] q w = tt
sends-above cs (e ∷ es) q w = elim (eqb_tells e.0 0) [
  | inl y ↦
      let own : own_entries 0 (e ∷ es) ≡ e.1 ∷ own_entries 0 es = rw y.0 refl in
      let here = subst (AllSendOf cs) own w in
      (here.0, sends-above cs es q.1 here.1)
  | inr y ↦
      let own : own_entries 0 (e ∷ es) ≡ own_entries 0 es = rw y.0 refl in
      (quiet-sends cs e.1 (q.0 (above-zero e.0 y.1)), sends-above cs es q.1 (subst (AllSendOf cs) own w))
]

-- ---- one entry

entry-fits : (cs : List ℕ) (l : ℕ) (e : Entry) (s : State ℕ) (m : Boxes) → SendsOf cs e → BoxesFit 1 0 l e m → ParcelFits 0 e s (m 0)
entry-fits cs l (entry.Send c to us) s m w f = (let h = f.there in omega (arith, h))
entry-fits cs l (entry.Receive c us) s m w f = f
entry-fits cs l (entry.Sweep c us) s m w f = absurd w
entry-fits cs l _ s m w f = tt

-- the one processor's inboxes are those of its log
same-boxes : (l : ℕ) (e : Entry) (m : Boxes) → BoxesFit 1 0 l e m → inboxes_after 0 e (m 0) ≡ boxes_after 0 l e m 0
same-boxes l (entry.Send c zero us) m f = refl
same-boxes l (entry.Send c (suc to) us) m f = absurd (let h = f.there in omega (arith, h))
same-boxes l (entry.Receive c us) m f = refl
same-boxes l (entry.Sweep c us) m f = refl
same-boxes l _ m f = refl

-- ---- a log

pub front-inside : (cs : List ℕ) (log : Log) (m : Boxes) → AllSends cs log → AllFit boxes_after (BoxesFit 1) (by 0 log) m → Inside cs (m 0) → Inside cs (over boxes_after (by 0 log) m 0)
front-inside cs [] m w f z = z
front-inside cs (e ∷ es) m w f z = front-inside cs es (boxes_after 0 e.0 e.1 m) w.1 f.1 (subst (Inside cs) (same-boxes e.0 e.1 m f.0) (after-inside cs e.1 (m 0) w.0 z))

pub front-fits : (cs : List ℕ) (s : State ℕ) (log rest : Log) (m : Boxes) → AllSends cs log → AllFit boxes_after (BoxesFit 1) (by 0 log) m → ParcelsFit 0 (after s log) (over boxes_after (by 0 log) m 0) rest → ParcelsFit 0 s (m 0) (log ++ rest)
front-fits cs s [] rest m w f k = k
front-fits cs s (e ∷ es) rest m w f k =
    let here : Boxes = boxes_after 0 e.0 e.1 m in
    (entry-fits cs e.0 e.1 s m w.0 f.0, subst (λ b. ParcelsFit 0 (next s e) b (es ++ rest)) (sym (same-boxes e.0 e.1 m f.0)) (front-fits cs (next s e) es rest here w.1 f.1 k))
