-- Along an order no batch of a processor waits for more than the first period that begins afterwards.
use Rattle.std.specs.Prelude.{eqb, if◌then◌else◌}
use Rattle.std.proofs.Common.{◌≡◌, ◌≢◌, ◌⊎◌, ◌≤◌, ◌+◌, ◌%◌, ℕ, List, [], ◌∷◌, None, Some, refl, sym, ◌∙◌, arith, inl, inr}
use Rattle.std.proofs.lemmas.Bool.Decides.{eqb_tells}
use Rattle.bm_journal.specs.declared.ids.Domain.{Domain}
use Rattle.bm_journal.specs.declared.ids.Domain.TheVariants.{Plain, Tracing}
use Rattle.bm_journal.specs.declared.entry.Entry.{Entry}
use Rattle.bm_journal.specs.declared.entry.Entry.TheVariants as entry
use Rattle.bm_law.specs.State.{Deferred, Row, State, opening}
use Rattle.bm_law.specs.Lists.{after, next as lists_after, stamp_of}
use Rattle.bm_law.specs.Effect.{sent}
use Rattle.bm_law_order.specs.ByDomain.{of}
use Rattle.bm_law_order.specs.Numbers.{Numbers, NumbersFit, next, numbers_after}
use Rattle.bm_law_order.specs.Orders.{AllShared, Order, part_of, shared_over}
use Rattle.bm_law_order.specs.Shared.{Shared, fresh, shared_after}

-- a stamp that a batch has is that of a number which the domain had, and so it is while a period is in progress
pub record Bound (lists : State ℕ) (numbers : Numbers) : Type 0 where
  pub odd : (d : Domain) → (of d numbers).driver ≢ None → (of d numbers).number % 2 ≡ 1
  pub stamps : (d : Domain) (c x : ℕ) → stamp_of d (lists.rows c).deferred ≡ Some x → x ≤ next (of d numbers).number

-- ---- stamps

same-stamps : (d : Domain) (a b : Deferred ℕ) → a.plain ≡ b.plain → a.tracing ≡ b.tracing → stamp_of d a ≡ stamp_of d b
same-stamps Plain a b p t = p
same-stamps Tracing a b p t = t

-- the stamp of a class after its row, or another one, has changed
at-row : (d : Domain) (k c v : ℕ) (x : Row ℕ) (rows : ℕ → Row ℕ) (Q : Type 0) → (stamp_of d x.deferred ≡ Some v → Q) → (stamp_of d (rows k).deferred ≡ Some v → Q) → stamp_of d (if eqb k c then x else rows k).deferred ≡ Some v → Q
at-row d k c v x rows Q f g h = elim (eqb_tells k c) [
  | inl y ↦ f (let z : stamp_of d x.deferred ≡ Some v = rw y.0 at h in z)
  | inr y ↦ g (let z : stamp_of d (rows k).deferred ≡ Some v = rw y.0 at h in z)
]

-- .. where the change leaves its stamps
kept-row : (d : Domain) (k c v : ℕ) (x : Row ℕ) (rows : ℕ → Row ℕ) (Q : Type 0) → x.deferred.plain ≡ (rows c).deferred.plain → x.deferred.tracing ≡ (rows c).deferred.tracing → ((c : ℕ) → stamp_of d (rows c).deferred ≡ Some v → Q) → stamp_of d (if eqb k c then x else rows k).deferred ≡ Some v → Q
kept-row d k c v x rows Q p t f h = at-row d k c v x rows Q (λ e. f c (sym (same-stamps d x.deferred (rows c).deferred p t) ∙ e)) (f k) h

-- what an entry's effect makes of stamps: each was there, or is the next one now, or isn't taken yet
abbrev Came : Domain → ℕ → State ℕ → Numbers → Type 0
Came d x s numbers = ((c : ℕ) × (stamp_of d (s.rows c).deferred ≡ Some x)) ⊎ (x ≤ next (of d numbers).number)

zero-came : (d : Domain) (x : ℕ) (s : State ℕ) (numbers : Numbers) → Some 0 ≡ Some x → Came d x s numbers
zero-came d x s numbers e = inr (let z : 0 ≡ x = cc in omega (arith, z))

none-came : (d : Domain) (x : ℕ) (s : State ℕ) (numbers : Numbers) → None ≡ Some x → Came d x s numbers
none-came d x s numbers e = absurd (cc)

stamp-came : (d e : Domain) (c k x v : ℕ) (s : State ℕ) (numbers : Numbers) (l : ℕ) → v ≡ next (of e numbers).number → stamp_of d ((lists_after s (l, entry.Stamp c e v)).rows k).deferred ≡ Some x → Came d x s numbers
stamp-came Plain Plain c k x v s numbers l f h = at-row Plain k c x _ s.rows (Came Plain x s numbers) (λ z. inr (let y : v ≡ x = cc in omega (arith, f, y))) (λ z. inl (k, z)) h
stamp-came Tracing Tracing c k x v s numbers l f h = at-row Tracing k c x _ s.rows (Came Tracing x s numbers) (λ z. inr (let y : v ≡ x = cc in omega (arith, f, y))) (λ z. inl (k, z)) h
stamp-came Plain Tracing c k x v s numbers l f h = at-row Plain k c x _ s.rows (Came Plain x s numbers) (λ z. inl (c, z)) (λ z. inl (k, z)) h
stamp-came Tracing Plain c k x v s numbers l f h = at-row Tracing k c x _ s.rows (Came Tracing x s numbers) (λ z. inl (c, z)) (λ z. inl (k, z)) h

batch-came : (d : Domain) (c k x l : ℕ) (us : _) (s : State ℕ) (numbers : Numbers) → stamp_of d ((lists_after s (l, entry.Batch c us)).rows k).deferred ≡ Some x → Came d x s numbers
batch-came Plain c k x l us s numbers h = at-row Plain k c x _ s.rows (Came Plain x s numbers) (zero-came Plain x s numbers) (λ z. inl (k, z)) h
batch-came Tracing c k x l us s numbers h = at-row Tracing k c x _ s.rows (Came Tracing x s numbers) (λ z. inl (c, z)) (λ z. inl (k, z)) h

second-came : (d : Domain) (c k x l : ℕ) (us : _) (s : State ℕ) (numbers : Numbers) → stamp_of d ((lists_after s (l, entry.BeginSecond c us)).rows k).deferred ≡ Some x → Came d x s numbers
second-came Plain c k x l us s numbers h = at-row Plain k c x _ s.rows (Came Plain x s numbers) (λ z. inl (c, z)) (λ z. inl (k, z)) h
second-came Tracing c k x l us s numbers h = at-row Tracing k c x _ s.rows (Came Tracing x s numbers) (zero-came Tracing x s numbers) (λ z. inl (k, z)) h

sweep-came : (d : Domain) (c k x l : ℕ) (us : _) (s : State ℕ) (numbers : Numbers) → stamp_of d ((lists_after s (l, entry.Sweep c us)).rows k).deferred ≡ Some x → Came d x s numbers
sweep-came Plain c k x l us s numbers h = at-row Plain k c x _ s.rows (Came Plain x s numbers) (λ z. inl (c, z)) (λ z. inl (k, z)) h
sweep-came Tracing c k x l us s numbers h = at-row Tracing k c x _ s.rows (Came Tracing x s numbers) (zero-came Tracing x s numbers) (λ z. inl (k, z)) h

return-came : (d : Domain) (c k x l : ℕ) (us : _) (s : State ℕ) (numbers : Numbers) → stamp_of d ((lists_after s (l, entry.Return c us)).rows k).deferred ≡ Some x → Came d x s numbers
return-came Plain c k x l us s numbers h = at-row Plain k c x _ s.rows (Came Plain x s numbers) (λ z. inl (c, z)) (λ z. inl (k, z)) h
return-came Tracing c k x l us s numbers h = at-row Tracing k c x _ s.rows (Came Tracing x s numbers) (none-came Tracing x s numbers) (λ z. inl (k, z)) h

sent-came : (d : Domain) (c k x l : ℕ) (hand : List ℕ) (s : State ℕ) (numbers : Numbers) → stamp_of d ((sent c l hand s).rows k).deferred ≡ Some x → Came d x s numbers
sent-came Plain c k x l [] s numbers h = at-row Plain k c x _ s.rows (Came Plain x s numbers) (none-came Plain x s numbers) (λ z. inl (k, z)) h
sent-came Tracing c k x l [] s numbers h = at-row Tracing k c x _ s.rows (Came Tracing x s numbers) (λ z. inl (c, z)) (λ z. inl (k, z)) h
sent-came d c k x l (u ∷ us) s numbers h = inl (k, h)

came : (p l : ℕ) (e : Entry) (s : State ℕ) (numbers : Numbers) (d : Domain) (k x : ℕ) → NumbersFit p l e numbers → stamp_of d ((lists_after s (l, e)).rows k).deferred ≡ Some x → Came d x s numbers
came p l (entry.Stamp c e v) s numbers d k x f h = stamp-came d e c k x v s numbers l f h
came p l (entry.Batch c us) s numbers d k x f h = batch-came d c k x l us s numbers h
came p l (entry.BeginSecond c us) s numbers d k x f h = second-came d c k x l us s numbers h
came p l (entry.Sweep c us) s numbers d k x f h = sweep-came d c k x l us s numbers h
came p l (entry.Return c us) s numbers d k x f h = return-came d c k x l us s numbers h
came p l (entry.Send c to us) s numbers d k x f h = sent-came d c k x l (s.sides l).hand s numbers h
came p l (entry.Fill c us) s numbers d k x f h = kept-row d k c x _ s.rows (Came d x s numbers) refl refl (λ j z. inl (j, z)) h
came p l (entry.Enter c a) s numbers d k x f h = kept-row d k c x _ s.rows (Came d x s numbers) refl refl (λ j z. inl (j, z)) h
came p l (entry.Leave c a) s numbers d k x f h = kept-row d k c x _ s.rows (Came d x s numbers) refl refl (λ j z. inl (j, z)) h
came p l (entry.Pop c u) s numbers d k x f h = kept-row d k c x _ s.rows (Came d x s numbers) refl refl (λ j z. inl (j, z)) h
came p l (entry.Push c u) s numbers d k x f h = kept-row d k c x _ s.rows (Came d x s numbers) refl refl (λ j z. inl (j, z)) h
came p l (entry.Count c n) s numbers d k x f h = kept-row d k c x _ s.rows (Came d x s numbers) refl refl (λ j z. inl (j, z)) h
came p l (entry.Raise c) s numbers d k x f h = kept-row d k c x _ s.rows (Came d x s numbers) refl refl (λ j z. inl (j, z)) h
came p l (entry.Work c) s numbers d k x f h = kept-row d k c x _ s.rows (Came d x s numbers) refl refl (λ j z. inl (j, z)) h
came p l (entry.Delayed c u) s numbers d k x f h = kept-row d k c x _ s.rows (Came d x s numbers) refl refl (λ j z. inl (j, z)) h
came p l (entry.Put c u) s numbers d k x f h = kept-row d k c x _ s.rows (Came d x s numbers) refl refl (λ j z. inl (j, z)) h
came p l (entry.PutDelayed c u) s numbers d k x f h = kept-row d k c x _ s.rows (Came d x s numbers) refl refl (λ j z. inl (j, z)) h
came p l (entry.Receive c us) s numbers d k x f h = kept-row d k c x _ s.rows (Came d x s numbers) refl refl (λ j z. inl (j, z)) h
came p l (entry.Ready c u) s numbers d k x f h = kept-row d k c x _ s.rows (Came d x s numbers) refl refl (λ j z. inl (j, z)) h
came p l (entry.Second c u) s numbers d k x f h = kept-row d k c x _ s.rows (Came d x s numbers) refl refl (λ j z. inl (j, z)) h
came p l (entry.TakeExtra c us) s numbers d k x f h = kept-row d k c x _ s.rows (Came d x s numbers) refl refl (λ j z. inl (j, z)) h
came p l (entry.TakeDelayed c us) s numbers d k x f h = kept-row d k c x _ s.rows (Came d x s numbers) refl refl (λ j z. inl (j, z)) h
came p l _ s numbers d k x f h = inl (k, h)

-- ---- numbers

-- of a domain whose number grows by one, or stays
later-next : (m n : ℕ) → (n ≡ m) ⊎ (n ≡ m + 1) → next m ≤ next n
later-next m n (inl e) = omega (arith, e)
later-next m n (inr e) = omega (arith, e)

grown : (p l : ℕ) (e : Entry) (numbers : Numbers) (d : Domain) → ((of d (numbers_after p l e numbers)).number ≡ (of d numbers).number) ⊎ ((of d (numbers_after p l e numbers)).number ≡ (of d numbers).number + 1)
grown p l (entry.Begin Plain n) numbers Plain = inr refl
grown p l (entry.Begin Tracing n) numbers Tracing = inr refl
grown p l (entry.Begin Plain n) numbers Tracing = inl refl
grown p l (entry.Begin Tracing n) numbers Plain = inl refl
grown p l (entry.Finish period) numbers d = go period.domain d
  where
    go : (k j : Domain) → ((of j (numbers_after p l (entry.Finish (record period { domain = k })) numbers)).number ≡ (of j numbers).number) ⊎ ((of j (numbers_after p l (entry.Finish (record period { domain = k })) numbers)).number ≡ (of j numbers).number + 1)
    go Plain Plain = inr refl
    go Tracing Tracing = inr refl
    go Plain Tracing = inl refl
    go Tracing Plain = inl refl
grown p l _ numbers d = inl refl

next-odd : (n m : ℕ) → n % 2 ≡ 0 → m ≡ n + 1 → m % 2 ≡ 1
next-odd n m e f = omega (arith, e, f)

-- an entry leaves the number odd while a period is in progress
pub odd-after : (p l : ℕ) (e : Entry) (numbers : Numbers) → NumbersFit p l e numbers → ((d : Domain) → (of d numbers).driver ≢ None → (of d numbers).number % 2 ≡ 1) → (d : Domain) → (of d (numbers_after p l e numbers)).driver ≢ None → (of d (numbers_after p l e numbers)).number % 2 ≡ 1
odd-after p l (entry.Begin Plain n) numbers f h Plain k = next-odd numbers.plain.number (numbers.plain.number + 1) f.even refl
odd-after p l (entry.Begin Tracing n) numbers f h Tracing k = next-odd numbers.tracing.number (numbers.tracing.number + 1) f.even refl
odd-after p l (entry.Begin Plain n) numbers f h Tracing k = h Tracing k
odd-after p l (entry.Begin Tracing n) numbers f h Plain k = h Plain k
odd-after p l (entry.Finish period) numbers f h d k = go period.domain d k
  where
    go : (j i : Domain) → (of i (numbers_after p l (entry.Finish (record period { domain = j })) numbers)).driver ≢ None → (of i (numbers_after p l (entry.Finish (record period { domain = j })) numbers)).number % 2 ≡ 1
    go Plain Plain k = absurd (k refl)
    go Tracing Tracing k = absurd (k refl)
    go Plain Tracing k = h Tracing k
    go Tracing Plain k = h Plain k
odd-after p l _ numbers f h d k = h d k

-- ---- along an order

-- after an entry of the processor
bound-next : (p l : ℕ) (e : Entry) (s : State ℕ) (numbers : Numbers) → NumbersFit p l e numbers → Bound s numbers → Bound (lists_after s (l, e)) (numbers_after p l e numbers)
bound-next p l e s numbers f b = record {
  odd = odd-after p l e numbers f b.odd;
  stamps = λ d c x h.
      let more = later-next (of d numbers).number (of d (numbers_after p l e numbers)).number (grown p l e numbers d) in
      elim (came p l e s numbers d c x f h) [
        | inl y ↦ (let z = b.stamps d y.0 x y.1 in omega (arith, z, more))
        | inr y ↦ omega (arith, y, more)
      ];
}

-- after one of another processor the lists are what they were, and numbers have only grown
bound-other : (p l : ℕ) (e : Entry) (s : State ℕ) (numbers : Numbers) → NumbersFit p l e numbers → Bound s numbers → Bound s (numbers_after p l e numbers)
bound-other p l e s numbers f b = record {
  odd = odd-after p l e numbers f b.odd;
  stamps = λ d c x h.
      let more = later-next (of d numbers).number (of d (numbers_after p l e numbers)).number (grown p l e numbers d) in
      let z = b.stamps d c x h in
      omega (arith, z, more);
}

bound-over : (q : ℕ) (o : Order) (s : State ℕ) (shared : Shared) → AllShared o shared → Bound s shared.numbers → Bound (after s (part_of q o)) (shared_over o shared).numbers
bound-over q [] s shared f b = b
bound-over q (e ∷ o) s shared f b =
    let now = shared_after e.processor e.level e.entry shared in
    elim (eqb_tells e.processor q) [
      | inl y ↦ rw y.0 (bound-over q o (lists_after s (e.level, e.entry)) now f.1 (bound-next e.processor e.level e.entry s shared.numbers f.0.numbers b))
      | inr y ↦ rw y.0 (bound-over q o s now f.1 (bound-other e.processor e.level e.entry s shared.numbers f.0.numbers b))
    ]

abbrev no_lists : ℕ → State ℕ
no_lists q = opening q

fresh-bound : (n pages q : ℕ) → Bound (no_lists q) (fresh n pages).numbers
fresh-bound n pages q = record { odd = odd; stamps = stamps }
  where
    odd : (d : Domain) → (of d (fresh n pages).numbers).driver ≢ None → (of d (fresh n pages).numbers).number % 2 ≡ 1
    odd Plain k = absurd (k refl)
    odd Tracing k = absurd (k refl)

    stamps : (d : Domain) (c x : ℕ) → stamp_of d ((no_lists q).rows c).deferred ≡ Some x → x ≤ next (of d (fresh n pages).numbers).number
    stamps Plain c x e = absurd (cc)
    stamps Tracing c x e = absurd (cc)

-- so it is of each processor, after an order that is laid from the outset
pub order-bound : (n pages q : ℕ) (o : Order) → AllShared o (fresh n pages) → Bound (after (opening q) (part_of q o)) (shared_over o (fresh n pages)).numbers
order-bound n pages q o f = bound-over q o (opening q) (fresh n pages) f (fresh-bound n pages q)
