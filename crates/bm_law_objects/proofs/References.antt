-- The count of references to a life goes up past a number as often as it comes down past it, along an order and in its logs.
use Rattle.std.proofs.Common.{◌≡◌, ℕ, ◌+◌, ◌-◌, ◌<◌, Bool, true, false, List, [], ◌∷◌, None, Some, Option, refl, sym, ◌∙◌, ap, subst, arith, inl, inr}
use Rattle.std.specs.Prelude.{◌&&◌, eqb, nat_lt, if◌then◌else◌}
use Rattle.std.proofs.lemmas.Bool.Decides.{eqb_tells}
use Rattle.bm_journal.specs.declared.ids.ObjId.{ObjId}
use Rattle.bm_journal.specs.declared.entry.Entry.{Entry}
use Rattle.bm_journal.specs.declared.entry.Entry.TheVariants as entry
use Rattle.bm_law.specs.Lists.{Log}
use Rattle.bm_law_lives.specs.Together.{times}
use Rattle.bm_law_order.specs.Lives.{Dropping, IsReply, Life, Lives, LivesFit, answered_last, answered_still, counted, first_lives, given_life, lives_after, maker_of}
use Rattle.bm_law_order.specs.Orders.{AllFit, IsLaid, Order, over, shared_over}
use Rattle.bm_law_order.specs.Shared.{Shared, fresh}
use Rattle.bm_law_laid.proofs.Parts.{lives-fit, lives-over}
use Rattle.bm_law_laid.specs.Once.{named_by}
use Rattle.bm_law_laid.specs.OrderOf.{IsOrderOf}
use Rattle.bm_law_laid.proofs.NamedParts.{named-parts}
use Rattle.bm_law_laid.proofs.Onces.{times-append}
use Rattle.bm_law_objects.specs.Gathered.{AreLast, IsLast, last_call, no_call}
use Rattle.bm_law_objects.specs.ReferenceLaw.{IsCounted, ReferenceLaw, above, acquired_at, count_above, dropped, is_life, still_at, stills_over, under_way}
use Rattle.bm_law_objects.proofs.Gathering.{next, gathered-count}
use Rattle.bm_law_objects.proofs.Replies.{under-point, under-same}

-- ---- what is under way

abbrev DroppedLast : Lives → (ℕ → ℕ → Option ObjId) → Type 0
DroppedLast lives last = AreLast under_way lives.dropping last

last-under : (p l : ℕ) (o : Option Dropping) (lives : Lives) (last : ℕ → ℕ → Option ObjId) → DroppedLast lives last → lives.dropping p l ≡ o → DroppedLast (answered_last p l o lives) (next (last_call dropped) (record { processor = p; level = l; entry = entry.Last }) last)
last-under p l None lives last h e = under-same under_way p l lives.dropping last h
last-under p l (Some d) lives last h e = under-point under_way p l (Some (record d { ended = maker_of (lives.holds d.unit) })) None lives.dropping last h (subst (λ x. IsLast (under_way x) (last p l)) e (h p l))

still-under : (p l k : ℕ) (o : Option Dropping) (lives : Lives) (last : ℕ → ℕ → Option ObjId) → DroppedLast lives last → DroppedLast (answered_still p l o lives) (next (last_call dropped) (record { processor = p; level = l; entry = entry.Still k }) last)
still-under p l k None lives last h = under-same under_way p l lives.dropping last h
still-under p l k (Some d) lives last h = under-point under_way p l None None lives.dropping last h tt

under-entry : (p l : ℕ) (e : Entry) (lives : Lives) (last : ℕ → ℕ → Option ObjId) → DroppedLast lives last → DroppedLast (lives_after p l e lives) (next (last_call dropped) (record { processor = p; level = l; entry = e }) last)
under-entry p l (entry.Drop u life) lives last h = under-point under_way p l (Some (record { unit = u; life = life; ended = None })) (Some (record { unit = u; life = life })) lives.dropping last h refl
under-entry p l (entry.Still k) lives last h = still-under p l k (lives.dropping p l) lives last h
under-entry p l entry.Last lives last h = last-under p l (lives.dropping p l) lives last h refl
under-entry p l (entry.Free u home) lives last h = under-point under_way p l None None lives.dropping last h tt
under-entry p l (entry.Delay u home) lives last h = under-point under_way p l None None lives.dropping last h tt
under-entry p l _ lives last h = under-same under_way p l lives.dropping last h

-- ---- each life has a reference

abbrev AllCounted : Lives → Type 0
AllCounted lives = (u : ℕ) → IsCounted (lives.holds u)

on-unit : (v : ℕ) (x : Option Life) (holds : ℕ → Option Life) → ((u : ℕ) → IsCounted (holds u)) → IsCounted x → (u : ℕ) → IsCounted (if eqb u v then x else holds u)
on-unit v x holds h new u = elim (eqb_tells u v) [ inl y ↦ rw y.0 new | inr y ↦ rw y.0 (h u) ]

more-counted : (x : Option Life) → IsCounted x → IsCounted (counted (λ n. n + 1) x)
more-counted None h = tt
more-counted (Some life) h = omega arith

-- of a life with more than one reference
less-counted : (x : Option Life) (held : Life) (k : ℕ) → x ≡ Some held → held.count ≡ k → 1 < k → IsCounted (counted (λ n. n - 1) x)
less-counted x held k e c lt = subst (λ y. IsCounted (counted (λ n. n - 1) y)) (sym e) (omega (arith, c, lt))

same-object : (o : Option Dropping) (d : Dropping) (u life : ℕ) → o ≡ Some d → o ≡ Some (record { unit = u; life = life; ended = None }) → (d.unit ≡ u) × (d.life ≡ life)
same-object o d u life e f = (ap unit_or (sym e ∙ f), ap life_or (sym e ∙ f))
  where
    unit_or : Option Dropping → ℕ
    unit_or None = 0
    unit_or (Some x) = x.unit

    life_or : Option Dropping → ℕ
    life_or None = 0
    life_or (Some x) = x.life

still-counted : (p l k : ℕ) (o : Option Dropping) (lives : Lives) → lives.dropping p l ≡ o → IsReply p l k lives → 1 < k → AllCounted lives → AllCounted (answered_still p l o lives)
still-counted p l k None lives e r lt h = h
still-counted p l k (Some d) lives e r lt h =
    let same = same-object (lives.dropping p l) d r.unit r.life e r.under in
    on-unit d.unit (counted (λ n. n - 1) (lives.holds d.unit)) lives.holds h (less-counted (lives.holds d.unit) r.has.held k (ap lives.holds same.0 ∙ r.has.holds) r.has.count lt)

last-counted : (p l : ℕ) (o : Option Dropping) (lives : Lives) → AllCounted lives → AllCounted (answered_last p l o lives)
last-counted p l None lives h = h
last-counted p l (Some d) lives h = on-unit d.unit None lives.holds h tt

counted-entry : (p l : ℕ) (e : Entry) (lives : Lives) → LivesFit p l e lives → AllCounted lives → AllCounted (lives_after p l e lives)
counted-entry p l (entry.Given u life) lives f h = on-unit u (Some (record { maker = p; count = 1 })) lives.holds h (omega arith)
counted-entry p l (entry.GivenAfter u life stamp seen) lives f h = on-unit u (Some (record { maker = p; count = 1 })) lives.holds h (omega arith)
counted-entry p l (entry.Acquire u life k) lives f h = on-unit u (counted (λ n. n + 1) (lives.holds u)) lives.holds h (more-counted (lives.holds u) (h u))
counted-entry p l (entry.Still k) lives f h = still-counted p l k (lives.dropping p l) lives refl f.0 f.1 h
counted-entry p l entry.Last lives f h = last-counted p l (lives.dropping p l) lives h
counted-entry p l _ lives f h = h

-- ---- the count goes past a number

abbrev past : (k count : ℕ) → ℕ
past k count = if nat_lt 0 k && nat_lt k count then 1 else 0

past-one : (k : ℕ) → past k 1 ≡ 0
past-one k = grind arith

past-up : (k n : ℕ) → 0 < n → times k (n ∷ []) + past k n ≡ past k (n + 1)
past-up k n h = grind (arith, h)

past-down : (k n : ℕ) → 1 < n → past k n ≡ times (k + 1) (n ∷ []) + past k (n - 1)
past-down k n h = grind (arith, h)

-- ---- an entry

-- acquires that an entry makes at a count, and drops that it answers there
abbrev Balanced : (u life k p l : ℕ) → Entry → Lives → (ℕ → Option ObjId) → Type 0
Balanced u life k p l e lives last = times k (acquired_at u life e) + count_above u life k lives ≡ times (k + 1) (still_at u life last (l, e)) + count_above u life k (lives_after p l e lives)

-- of any life
no-life : (life begun k : ℕ) (x : Option Life) → above k x ≡ 0 → (if eqb life begun then above k x else 0) ≡ 0
no-life life begun k x e = elim (eqb_tells life begun) [ inl y ↦ rw y.0 e | inr y ↦ rw y.0 refl ]

given-one : (u life k p v : ℕ) (lives : Lives) → lives.holds v ≡ None → count_above u life k lives ≡ count_above u life k (given_life p v lives)
given-one u life k p v lives none = elim (eqb_tells u v) [
  | inl y ↦
      (let before : above k (lives.holds u) ≡ 0 = ap (λ w. above k (lives.holds w)) y.1 ∙ ap (above k) none in
      no-life life (lives.begun u) k (lives.holds u) before ∙ rw y.0 (sym (no-life life (lives.begun u + 1) k (Some (record { maker = p; count = 1 })) (past-one k))))
  | inr y ↦ rw y.0 refl
]

acquire-one : (u life k v n j : ℕ) (lives : Lives) (held : Life) → lives.holds v ≡ Some held → held.count ≡ j → n ≡ lives.begun v → IsCounted (lives.holds v) → times k (if eqb u v && eqb life n then j ∷ [] else []) + (if eqb life (lives.begun u) then above k (lives.holds u) else 0) ≡ (if eqb life (lives.begun u) then above k (if eqb u v then counted (λ n. n + 1) (lives.holds v) else lives.holds u) else 0)
acquire-one u life k v n j lives held e c b h = elim (eqb_tells u v) [
  | inl y ↦
      (let begun : lives.begun u ≡ n = ap lives.begun y.1 ∙ sym b in
      let before : above k (lives.holds u) ≡ past k j = ap (λ w. above k (lives.holds w)) y.1 ∙ (ap (above k) e ∙ ap (past k) c) in
      let now : above k (counted (λ n. n + 1) (lives.holds v)) ≡ past k (j + 1) = ap (λ x. above k (counted (λ n. n + 1) x)) e ∙ ap (λ m. past k (m + 1)) c in
      let some : 0 < held.count = subst IsCounted e h in
      let up = past-up k j (omega (arith, some, c)) in
      rw y.0 (rw begun (elim (eqb_tells life n) [ inl z ↦ rw z.0 (rw before (rw now up)) | inr z ↦ rw z.0 refl ])))
  | inr y ↦ rw y.0 (omega arith)
]

-- the count of the life that is dropped
drop-one : (u life k v n j : ℕ) (lives : Lives) (x now : Option Life) → lives.holds v ≡ x → n ≡ lives.begun v → above k x ≡ j + above k now → (if eqb life (lives.begun u) then above k (lives.holds u) else 0) ≡ (if eqb u v && eqb life n then j else 0) + (if eqb life (lives.begun u) then above k (if eqb u v then now else lives.holds u) else 0)
drop-one u life k v n j lives x now e b h = elim (eqb_tells u v) [
  | inl y ↦
      (let begun : lives.begun u ≡ n = ap lives.begun y.1 ∙ sym b in
      let before : above k (lives.holds u) ≡ j + above k now = ap (λ w. above k (lives.holds w)) y.1 ∙ (ap (above k) e ∙ h) in
      rw y.0 (rw begun (elim (eqb_tells life n) [ inl z ↦ rw z.0 before | inr z ↦ rw z.0 refl ])))
  | inr y ↦ rw y.0 (omega arith)
]

none-some : (o : Option Dropping) (d : Dropping) → o ≡ None → o ≡ Some d → ⊥
none-some o d e f = cc

times-if : (b : Bool) (k : ℕ) (xs : List ℕ) → times k (if b then xs else []) ≡ (if b then times k xs else 0)
times-if true k xs = refl
times-if false k xs = refl

still-one : (u life k p l j : ℕ) (o : Option Dropping) (lives : Lives) (last : Option ObjId) → lives.dropping p l ≡ o → IsLast (under_way o) last → IsReply p l j lives → 1 < j → count_above u life k lives ≡ times (k + 1) (if is_life u life last then j ∷ [] else []) + count_above u life k (answered_still p l o lives)
still-one u life k p l j None lives last e under r lt = absurd (none-some (lives.dropping p l) _ e r.under)
still-one u life k p l j (Some d) lives last e under r lt =
    let same = same-object (lives.dropping p l) d r.unit r.life e r.under in
    let held : lives.holds d.unit ≡ Some r.has.held = ap lives.holds same.0 ∙ r.has.holds in
    let begun : d.life ≡ lives.begun d.unit = same.1 ∙ (r.has.now_is ∙ ap lives.begun (sym same.0)) in
    let now : above k (counted (λ n. n - 1) (lives.holds d.unit)) ≡ past k (j - 1) = ap (λ x. above k (counted (λ n. n - 1) x)) held ∙ ap (λ m. past k (m - 1)) r.has.count in
    let before : above k (Some r.has.held) ≡ past k j = ap (past k) r.has.count in
    let down = past-down k j lt in
    let one = drop-one u life k d.unit d.life (times (k + 1) (j ∷ [])) lives (Some r.has.held) (counted (λ n. n - 1) (lives.holds d.unit)) held begun (before ∙ (down ∙ ap (λ m. times (k + 1) (j ∷ []) + m) (sym now))) in
    rw under (one ∙ ap (λ m. m + count_above u life k (answered_still p l (Some d) lives)) (sym (times-if (eqb u d.unit && eqb life d.life) (k + 1) (j ∷ []))))

last-one : (u life k p l : ℕ) (o : Option Dropping) (lives : Lives) → lives.dropping p l ≡ o → IsReply p l 1 lives → count_above u life k lives ≡ count_above u life k (answered_last p l o lives)
last-one u life k p l None lives e r = refl
last-one u life k p l (Some d) lives e r =
    let same = same-object (lives.dropping p l) d r.unit r.life e r.under in
    let held : lives.holds d.unit ≡ Some r.has.held = ap lives.holds same.0 ∙ r.has.holds in
    let none : above k (Some r.has.held) ≡ 0 = ap (past k) r.has.count ∙ past-one k in
    elim (eqb_tells u d.unit) [
      | inl y ↦
          (let before : above k (lives.holds u) ≡ 0 = ap (λ w. above k (lives.holds w)) y.1 ∙ (ap (above k) held ∙ none) in
          no-life life (lives.begun u) k (lives.holds u) before ∙ rw y.0 (sym (no-life life (lives.begun u) k None refl)))
      | inr y ↦ rw y.0 refl
    ]

balanced : (u life k p l : ℕ) (e : Entry) (lives : Lives) (last : ℕ → ℕ → Option ObjId) → LivesFit p l e lives → AllCounted lives → DroppedLast lives last → Balanced u life k p l e lives (last p)
balanced u life k p l (entry.Given v n) lives last f c h = let one = given-one u life k p v lives f.none in omega (arith, one)
balanced u life k p l (entry.GivenAfter v n stamp seen) lives last f c h = let one = given-one u life k p v lives f.none in omega (arith, one)
balanced u life k p l (entry.Acquire v n j) lives last f c h = let one = acquire-one u life k v n j lives f.held f.holds f.count f.now_is (c v) in omega (arith, one)
balanced u life k p l (entry.Still j) lives last f c h = let one = still-one u life k p l j (lives.dropping p l) lives (last p l) refl (h p l) f.0 f.1 in omega (arith, one)
balanced u life k p l entry.Last lives last f c h = let one = last-one u life k p l (lives.dropping p l) lives refl f in omega (arith, one)
balanced u life k p l _ lives last f c h = refl

pub counts-over : (u life k : ℕ) (o : Order) (lives : Lives) (last : ℕ → ℕ → Option ObjId) → AllFit lives_after LivesFit o lives → ((v : ℕ) → IsCounted (lives.holds v)) → AreLast under_way lives.dropping last → times k (named_by (acquired_at u life) o) + count_above u life k lives ≡ times (k + 1) (stills_over u life o last) + count_above u life k (over lives_after o lives)
counts-over u life k [] lives last h c under = refl
counts-over u life k (e ∷ o) lives last h c under =
    let p = e.processor in
    let l = e.level in
    let now : Lives = lives_after p l e.entry lives in
    let latest : ℕ → ℕ → Option ObjId = next (last_call dropped) e last in
    let one = balanced u life k p l e.entry lives last h.0 c under in
    let more = counts-over u life k o now latest h.1 (counted-entry p l e.entry lives h.0 c) (under-entry p l e.entry lives last under) in
    let acquired = times-append k (acquired_at u life e.entry) (named_by (acquired_at u life) o) in
    let stills = times-append (k + 1) (still_at u life (last p) (l, e.entry)) (stills_over u life o latest) in
    omega (arith, one, more, acquired, stills)

none-above : (u life k : ℕ) (lives : Lives) → lives.holds u ≡ None → count_above u life k lives ≡ 0
none-above u life k lives e = no-life life (lives.begun u) k (lives.holds u) (ap (above k) e)

pub logs-counts : (logs : List Log) (o : Order) → IsOrderOf logs o → AllFit lives_after LivesFit o first_lives → ((u : ℕ) → (over lives_after o first_lives).holds u ≡ None) → ReferenceLaw logs
logs-counts logs o is fit ended u life k =
    let last : ℕ → ℕ → Option ObjId = λ p. no_call in
    let along = counts-over u life k o first_lives last fit (λ v. tt) (λ p l. tt) in
    let before = none-above u life k first_lives refl in
    let after = none-above u life k (over lives_after o first_lives) (ended u) in
    let acquired = named-parts (acquired_at u life) logs o is k in
    let stills = gathered-count (last_call dropped) (λ p. still_at u life) (times (k + 1)) refl (times-append (k + 1)) no_call logs o is in
    omega (arith, along, before, after, acquired, stills)

pub laid-counts : (processors pages : ℕ) (logs : List Log) (o : Order) → IsOrderOf logs o → IsLaid processors pages o → ((u : ℕ) → (shared_over o (fresh processors pages)).lives.holds u ≡ None) → ReferenceLaw logs
laid-counts processors pages logs o is laid ended =
    let start : Shared = fresh processors pages in
    logs-counts logs o is (lives-fit o start laid) (λ u. subst (λ (x : Lives). x.holds u ≡ None) (lives-over o start) (ended u))
