-- What is sent to each of the processors that there are is all that is sent, where no parcel goes to another one.
use Rattle.std.proofs.Common.{◌≡◌, ◌≢◌, ◌≤◌, ◌<◌, ℕ, zero, suc, ◌+◌, ◌++◌, List, [], ◌∷◌, refl, sym, ◌∙◌, ap, arith, ne_eqb, inl, inr}
use Rattle.std.proofs.lemmas.Bool.Decides.{eqb_tells}
use Rattle.bm_journal.specs.declared.entry.Entry.{Entry}
use Rattle.bm_journal.specs.declared.entry.Entry.TheVariants as entry
use Rattle.bm_journal.specs.EntryText.{unit_list}
use Rattle.bm_law.specs.Lists.{Log}
use Rattle.bm_law.specs.Stands.{times}
use Rattle.bm_law.proofs.Stands.{times-append}
use Rattle.bm_law_lives.specs.Together.{Each, named, named_in}
use Rattle.bm_law_lives.specs.Returns.{receiver, sent_to}
use Rattle.bm_law_logs.specs.UnitsMoved.{sent_units}
use Rattle.bm_law_logs.proofs.Classes.{seconds, seconds-append, seconds-in}

-- how often a unit stands in the parts of n processors, from p on
abbrev pub spread : ℕ → (ℕ → List (ℕ × ℕ)) → ℕ → ℕ → ℕ
spread u F p zero = 0
spread u F p (suc n) = times u (seconds (F p)) + spread u F (p + 1) n

none-more : (y : ℕ) → y ≡ 0 → 0 + y ≡ 0
none-more y h = omega (arith, h)

spread-none : (u p n : ℕ) → spread u (λ q. []) p n ≡ 0
spread-none u p zero = refl
spread-none u p (suc n) = none-more _ (spread-none u (p + 1) n)

both : (x a b y c d : ℕ) → x ≡ a + b → y ≡ c + d → x + y ≡ (a + c) + (b + d)
both x a b y c d h k = omega (arith, h, k)

spread-append : (u : ℕ) (F G : ℕ → List (ℕ × ℕ)) (p n : ℕ) → spread u (λ q. F q ++ G q) p n ≡ spread u F p n + spread u G p n
spread-append u F G p zero = refl
spread-append u F G p (suc n) = both _ _ _ _ _ _ (ap (times u) (seconds-append (F p) (G p)) ∙ times-append u (seconds (F p)) (seconds (G p))) (spread-append u F G (p + 1) n)

-- a send, to one of them
other : (p to : ℕ) → to < p → to ≢ p
other p to h e = omega (arith, h, e)

spread-past : (u c to p n : ℕ) (us : _) → to < p → spread u (λ q. sent_to q (entry.Send c to us)) p n ≡ 0
spread-past u c to p zero us h = refl
spread-past u c to p (suc n) us h = rw (ne_eqb to p (other p to h)) (none-more _ (spread-past u c to (p + 1) n us (omega (arith, h))))

alone : (x y : ℕ) → y ≡ 0 → x + y ≡ x
alone x y h = omega (arith, h)

behind : (y z : ℕ) → y ≡ z → 0 + y ≡ z
behind y z h = omega (arith, h)

spread-send : (u c to p n : ℕ) (us : _) → p ≤ to → to < p + n → spread u (λ q. sent_to q (entry.Send c to us)) p n ≡ times u (unit_list us)
spread-send u c to p zero us h k = absurd (omega (arith, h, k))
spread-send u c to p (suc n) us h k =
    elim (eqb_tells to p) [
      | inl y ↦ rw y.0 (alone _ _ (spread-past u c to (p + 1) n us (omega (arith, y.1))) ∙ ap (times u) (seconds-in c (unit_list us)))
      | inr y ↦ rw y.0 (behind _ _ (spread-send u c to (p + 1) n us (omega (arith, h, y.1)) (omega (arith, k))))
    ]

spread-entry : (u n : ℕ) (e : Entry) → Each (λ to. to < n) (receiver e) → spread u (λ q. sent_to q e) 0 n ≡ times u (sent_units e)
spread-entry u n (entry.Send c to us) h = spread-send u c to 0 n us (omega arith) (omega (arith, h.0))
spread-entry u n _ h = spread-none u 0 n

each-split : {A : Type 0} (P : A → Type 0) (v w : List A) → Each P (v ++ w) → Each P v × Each P w
each-split P [] w h = (tt, h)
each-split P (x ∷ v) w h = let k = each-split P v w h.1 in ((h.0, k.0), k.1)

joined : (x a b y z : ℕ) → x ≡ a + b → a ≡ y → b ≡ z → x ≡ y + z
joined x a b y z h k m = omega (arith, h, k, m)

spread-log : (u n : ℕ) (log : Log) → Each (λ to. to < n) (named_in receiver log) → spread u (λ q. named_in (sent_to q) log) 0 n ≡ times u (named_in sent_units log)
spread-log u n [] h = spread-none u 0 n
spread-log u n (e ∷ es) h =
    let k = each-split (λ to. to < n) (receiver e.1) (named_in receiver es) h in
    joined _ _ _ _ _ (spread-append u (λ q. sent_to q e.1) (λ q. named_in (sent_to q) es) 0 n) (spread-entry u n e.1 k.0) (spread-log u n es k.1) ∙ sym (times-append u (sent_units e.1) (named_in sent_units es))

pub spread-logs : (u n : ℕ) (logs : List Log) → Each (λ to. to < n) (named receiver logs) → spread u (λ q. named (sent_to q) logs) 0 n ≡ times u (named sent_units logs)
spread-logs u n [] h = spread-none u 0 n
spread-logs u n (log ∷ logs) h =
    let k = each-split (λ to. to < n) (named_in receiver log) (named receiver logs) h in
    joined _ _ _ _ _ (spread-append u (λ q. named_in (sent_to q) log) (λ q. named (sent_to q) logs) 0 n) (spread-log u n log k.0) (spread-logs u n logs k.1) ∙ sym (times-append u (named_in sent_units log) (named sent_units logs))
