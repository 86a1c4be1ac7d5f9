use Rattle.std.proofs.Common.{◌≡◌, ◌+◌, ◌∙◌, ◌<◌, ◌≤◌, ℕ, Some, nat_le, refl, sym, ap, subst, inl, inr, arith, [], ◌∷◌, ◌++◌, List, length}
use Rattle.std.specs.List.{All}
use Rattle.std.proofs.lemmas.List.Elements.{All-head, All-tail, All-cons}
use Rattle.bm_journal.specs.declared.ids.Domain.TheVariants.{Plain}
use Rattle.bm_journal.specs.declared.units.Units.TheVariants.{Whole}
use Rattle.bm_journal.specs.declared.entry.Entry.{Entry}
use Rattle.bm_journal.specs.declared.entry.Entry.TheVariants as entry
use Rattle.bm_law.specs.State.{State, opening}
use Rattle.bm_law.specs.Lists.{after}
use Rattle.bm_law.specs.Phrases.{AddPhrase, added}
use Rattle.bm_law.specs.WorkedDeferred.{at, adds}
use Rattle.bm_law_work.specs.Parts.{If, Nothing, Part, Say, Stand, Then}
use Rattle.bm_law_work.specs.WorkPhrases.{AddAll, Brings, Fetches, IsLastTake, IsOne, IsSend, Moved, empty_take, Passing, Refill, take_of, takes}
use Rattle.bm_law_work.specs.WorkedParts.{brings, fetches, take_to, with_lists}
use Rattle.bm_law_work.proofs.Parts.{ordinary-say, ordinary-stand}
use Rattle.bm_law_work.proofs.Ordinary.{Parted, own-of, parted, said, poll-head}
use Rattle.bm_law_work.proofs.worked.worked_parts.Goals as goal

-- a unit that comes from a list, and is added
brought : (e : Entry) (u k : ℕ) (s : State ℕ) → Brings 0 10 e u s (at 0 (brings e u k))
brought e u k s = record { one = at 0 (e ∷ []); two = _; part_is = refl; is_first = ordinary-say _ (e ∷ []) s _ refl refl; is_second = ordinary-say _ _ _ _ (k + 1, 0, refl) refl }

pub returns-clause-both : goal.returns-clause-both
returns-clause-both c = record {
  one = at 0 (brings (entry.Ready 10 5) 5 0);
  two = _;
  part_is = refl;
  is_first = brought _ 5 0 _;
  is_second =
      record {
        one = at 0 (brings (entry.Second 10 9) 9 1);
        two = _;
        part_is = refl;
        is_first = brought _ 9 1 _;
        is_second =
            record { one = at 0 (brings (entry.Second 10 8) 8 2); two = []; part_is = refl; is_first = brought _ 8 2 _; is_second = refl };
      };
}

-- what a unit from a list leaves to say
record Brought (e : Entry) (u : ℕ) (P : Part) (s : State ℕ) (es : List Entry) : Type 0 where
  pub count : ℕ
  pub active : ℕ
  pub rest : List Entry
  pub whole : es ≡ e ∷ added 10 u count active ++ rest
  pub is_rest : P (after s (at 0 (e ∷ added 10 u count active))) (at 0 rest)

brings-first : (e : Entry) (u : ℕ) (P : Part) (s : State ℕ) (es : List Entry) → Then (Brings 0 10 e u) P s (at 0 es) → Brought e u P s es
brings-first e u P s es h =
    let p : Parted (Brings 0 10 e u) P s es = parted (Brings 0 10 e u) P s es h in
    let q : Parted (Say 0 (IsOne e)) (Say 0 (AddPhrase 10 u)) s p.left = parted (Say 0 (IsOne e)) (Say 0 (AddPhrase 10 u)) s p.left p.is_first in
    let x : q.left ≡ e ∷ [] = said (IsOne e) s q.left q.is_first in
    let y : AddPhrase 10 u q.right = said (AddPhrase 10 u) (after s (at 0 q.left)) q.right q.is_second in
    let l : p.left ≡ e ∷ added 10 u y.0 y.1 = q.whole ∙ ap (λ z. z ++ q.right) x ∙ ap (λ z. e ∷ z) y.2 in
    record { count = y.0; active = y.1; rest = p.right; whole = p.whole ∙ ap (λ z. z ++ p.right) l; is_rest = (let F : List Entry → Type 0 = λ z. P (after s (at 0 z)) (at 0 p.right) in subst F l p.is_second) }

pub returns-clause-early : goal.returns-clause-early
returns-clause-early c h =
    let s : State ℕ = with_lists (5 ∷ []) (9 ∷ 8 ∷ 7 ∷ []) in
    let es : List Entry = brings (entry.Second 10 9) 9 0 ++ brings (entry.Ready 10 5) 5 1 ++ brings (entry.Second 10 8) 8 2 in
    let b : Brought (entry.Ready 10 5) 5 (Refill 0 10 2) s es = brings-first (entry.Ready 10 5) 5 (Refill 0 10 2) s es h in
    absurd (no-second _ _ b.whole)
  where
    no-second : (xs ys : List Entry) → entry.Second 10 9 ∷ xs ≡ entry.Ready 10 5 ∷ ys → ⊥
    no-second xs ys q = absurd (cc)

pub returns-clause-stock : goal.returns-clause-stock
returns-clause-stock c = record {
  one = at 0 (brings (entry.Ready 10 5) 5 0);
  two = at 0 (fetches 2 1 (7 ∷ []));
  part_is = refl;
  is_first = brought _ 5 0 _;
  is_second = (
    7 ∷ [],
    omega arith,
    record {
      one = at 0 (entry.Fetch 10 2 (Whole (7 ∷ [])) ∷ []);
      two = at 0 (adds 10 1 (7 ∷ []));
      part_is = refl;
      is_first = ordinary-say _ (entry.Fetch 10 2 (Whole (7 ∷ [])) ∷ []) _ _ refl refl;
      is_second =
          record { one = at 0 (adds 10 1 (7 ∷ [])); two = []; part_is = refl; is_first = ordinary-say _ _ _ _ (2, 0, refl) refl; is_second = refl };
    },
  );
}

-- where Ready held one unit and Second none, two are fetched behind it, and at most two come
fetches-two : (rest es : List Entry) → (b : Brought (entry.Ready 10 5) 5 (Refill 0 10 2) (with_lists (5 ∷ []) []) es) → (units : List ℕ) × (more : List Entry) × (length units ≤ 2) × (b.rest ≡ entry.Fetch 10 2 (Whole units) ∷ more)
fetches-two rest es b =
    let t : State ℕ = after (with_lists (5 ∷ []) []) (at 0 (entry.Ready 10 5 ∷ added 10 5 b.count b.active)) in
    let f : Fetches 0 10 2 t (at 0 b.rest) = b.is_rest in
    let p : Parted (Say 0 (IsOne (entry.Fetch 10 2 (Whole f.0)))) (AddAll 0 10 f.0) t b.rest = parted _ _ t b.rest f.2 in
    let x : p.left ≡ entry.Fetch 10 2 (Whole f.0) ∷ [] = said (IsOne (entry.Fetch 10 2 (Whole f.0))) t p.left p.is_first in
    (f.0, p.right, f.1, p.whole ∙ ap (λ z. z ++ p.right) x)

pub returns-clause-many : goal.returns-clause-many
returns-clause-many c h =
    let es : List Entry = brings (entry.Ready 10 5) 5 0 ++ fetches 3 1 (7 ∷ []) in
    let b : Brought (entry.Ready 10 5) 5 (Refill 0 10 2) (with_lists (5 ∷ []) []) es = brings-first (entry.Ready 10 5) 5 (Refill 0 10 2) (with_lists (5 ∷ []) []) es h in
    let f = fetches-two [] es b in
    absurd (not-three (7 ∷ []) f.0 (adds 10 1 (7 ∷ [])) f.1 b.count b.active b.rest b.whole f.3)
  where
    not-three : (us vs : List ℕ) (xs ys : List Entry) (k a : ℕ) (rest : List Entry) → brings (entry.Ready 10 5) 5 0 ++ entry.Fetch 10 3 (Whole us) ∷ xs ≡ entry.Ready 10 5 ∷ added 10 5 k a ++ rest → rest ≡ entry.Fetch 10 2 (Whole vs) ∷ ys → ⊥
    not-three us vs xs ys k a rest p q = let z : ◌≡◌ {A = ℕ} 3 2 = cc in absurd (omega (arith, z))

pub returns-clause-beyond : goal.returns-clause-beyond
returns-clause-beyond c h =
    let es : List Entry = brings (entry.Ready 10 5) 5 0 ++ fetches 2 1 (7 ∷ 6 ∷ 4 ∷ []) in
    let b : Brought (entry.Ready 10 5) 5 (Refill 0 10 2) (with_lists (5 ∷ []) []) es = brings-first (entry.Ready 10 5) 5 (Refill 0 10 2) (with_lists (5 ∷ []) []) es h in
    let f = fetches-two [] es b in
    absurd (not-so-many f.0 (adds 10 1 (7 ∷ 6 ∷ 4 ∷ [])) f.1 b.count b.active b.rest b.whole f.3 f.2)
  where
    not-so-many : (vs : List ℕ) (xs ys : List Entry) (k a : ℕ) (rest : List Entry) → brings (entry.Ready 10 5) 5 0 ++ entry.Fetch 10 2 (Whole (7 ∷ 6 ∷ 4 ∷ [])) ∷ xs ≡ entry.Ready 10 5 ∷ added 10 5 k a ++ rest → rest ≡ entry.Fetch 10 2 (Whole vs) ∷ ys → length vs ≤ 2 → ⊥
    not-so-many vs xs ys k a rest p q n =
        let z : 7 ∷ 6 ∷ 4 ∷ [] ≡ vs = cc in
        absurd (omega (arith, n, ap (λ (us : List ℕ). length us) z))

pub returns-clause-none : goal.returns-clause-none
returns-clause-none c h =
    let es : List Entry = brings (entry.Ready 10 5) 5 0 in
    let b : Brought (entry.Ready 10 5) 5 (Refill 0 10 2) (with_lists (5 ∷ []) []) es = brings-first (entry.Ready 10 5) 5 (Refill 0 10 2) (with_lists (5 ∷ []) []) es h in
    let f = fetches-two [] es b in
    absurd (not-over f.0 f.1 b.count b.active b.rest b.whole f.3)
  where
    not-over : (vs : List ℕ) (ys : List Entry) (k a : ℕ) (rest : List Entry) → brings (entry.Ready 10 5) 5 0 ≡ entry.Ready 10 5 ∷ added 10 5 k a ++ rest → rest ≡ entry.Fetch 10 2 (Whole vs) ∷ ys → ⊥
    not-over vs ys k a rest p q = absurd (cc)

pub returns-clause-middle : goal.returns-clause-middle
returns-clause-middle c = record { over = take_to 3 6 ∷ take_to 2 5 ∷ []; above = above; last = take_of 10 (take_to 1 4); is_last = inl (take_to 1 4, omega arith, refl); own_is = refl }
  where
    above : All (λ (x : Moved). 4 < x.count) (take_to 3 6 ∷ take_to 2 5 ∷ [])
    above = All-cons (λ (x : Moved). 4 < x.count) (take_to 3 6) (take_to 2 5 ∷ []) (omega arith) (All-cons (λ (x : Moved). 4 < x.count) (take_to 2 5) [] (omega arith) (λ k d n. absurd (omega (arith, n))))

pub returns-clause-emptied : goal.returns-clause-emptied
returns-clause-emptied c = record { over = take_to 3 6 ∷ []; above = All-cons (λ (x : Moved). 4 < x.count) (take_to 3 6) [] (omega arith) (λ k d n. absurd (omega (arith, n))); last = empty_take 10 0; is_last = inr (0, refl); own_is = refl }

pub returns-clause-sent : goal.returns-clause-sent
returns-clause-sent c = (entry.Pass 1 Plain 4 ∷ [], record { ended = []; begun = []; seen = 4; own_is = refl; may_finish = inl refl; may_begin = inl refl }, record { one = at 0 (entry.Pass 1 Plain 4 ∷ []); two = at 0 (entry.Send 1 0 (Whole (3 ∷ [])) ∷ []); part_is = refl; is_first = ordinary-stand _ _ _ refl; is_second = ordinary-say _ (entry.Send 1 0 (Whole (3 ∷ [])) ∷ []) _ _ (0, 3 ∷ [], refl) refl })

pub returns-clause-waits : goal.returns-clause-waits
returns-clause-waits c = (entry.Pass 1 Plain 3 ∷ [], record { ended = []; begun = []; seen = 3; own_is = refl; may_finish = inl refl; may_begin = inl refl }, record { one = at 0 (entry.Pass 1 Plain 3 ∷ []); two = []; part_is = refl; is_first = ordinary-stand _ _ _ refl; is_second = refl })

-- a poll that sees this number is followed by what follows it
follows : (n : ℕ) (es more : List Entry) → es ≡ entry.Pass 1 Plain n ∷ more → Passing 0 1 Plain (Some 4) (Say 0 (IsSend 1)) (opening 0) (at 0 es) → (s : State ℕ) × If (nat_le 4 n) (Say 0 (IsSend 1)) Nothing s (at 0 more)
follows n es more e h =
    let next : ℕ → Part = λ seen. If (nat_le 4 seen) (Say 0 (IsSend 1)) Nothing in
    let p : Parted (Stand 0 h.0) (next h.1.seen) (opening 0) es = parted (Stand 0 h.0) (next h.1.seen) (opening 0) es h.2 in
    let o : p.left ≡ h.0 = sym (own-of p.left) ∙ p.is_first.own_is in
    let q : (h.1.seen ≡ n) × (p.right ≡ more) = poll-head 1 n Plain h.0 p.right more h.1 (ap (λ z. z ++ p.right) (sym o) ∙ sym p.whole ∙ e) in
    let s : State ℕ = after (opening 0) (at 0 p.left) in
    let F : ℕ → List Entry → Type 0 = λ k z. next k s (at 0 z) in
    (s, subst (λ k. F k more) q.0 (subst (F h.1.seen) q.1 p.is_second))

pub returns-clause-hasty : goal.returns-clause-hasty
returns-clause-hasty c h =
    let f = follows 3 (entry.Pass 1 Plain 3 ∷ entry.Send 1 0 (Whole (3 ∷ [])) ∷ []) (entry.Send 1 0 (Whole (3 ∷ [])) ∷ []) refl h in
    absurd (some-entry (0, entry.Send 1 0 (Whole (3 ∷ []))) f.1)
  where
    some-entry : (e : ℕ × Entry) → e ∷ [] ≡ [] → ⊥
    some-entry e q = absurd (cc)

pub returns-clause-late : goal.returns-clause-late
returns-clause-late c h =
    let f = follows 4 (entry.Pass 1 Plain 4 ∷ []) [] refl h in
    let x : IsSend 1 [] = said (IsSend 1) f.0 [] f.1 in
    absurd (no-entry (entry.Send 1 x.0 (Whole x.1)) x.2)
  where
    no-entry : (e : Entry) → [] ≡ e ∷ [] → ⊥
    no-entry e q = absurd (cc)

pub returns-clause-high : goal.returns-clause-high
returns-clause-high c u = ends u.over u.above u.last u.is_last u.own_is
  where
    one : Moved
    one = take_to 3 6

    two : Moved
    two = take_to 2 5

    short : (last : List Entry) → IsLastTake 10 4 last → take_of 10 two ≡ last → ⊥
    short last (inl x) q = let k : 5 ≡ x.0.count = cc in absurd (omega (arith, k, x.1))
    short last (inr x) q = absurd (cc)

    whole : (last : List Entry) → IsLastTake 10 4 last → take_of 10 one ++ take_of 10 two ≡ last → ⊥
    whole last (inl x) q = absurd (cc)
    whole last (inr x) q = absurd (cc)

    none : (last : List Entry) → IsLastTake 10 4 last → [] ≡ last → ⊥
    none last (inl x) q = absurd (cc)
    none last (inr x) q = absurd (cc)

    ends : (over : List Moved) → All (λ (x : Moved). 4 < x.count) over → (last : List Entry) → IsLastTake 10 4 last → takes 10 (one ∷ two ∷ []) ≡ takes 10 over ++ last → ⊥
    ends [] a last l q = whole last l q
    ends (x ∷ []) a last l q = let r : take_of 10 two ≡ last = cc in short last l r
    ends (x ∷ y ∷ []) a last l q = let r : [] ≡ last = cc in none last l r
    ends (x ∷ y ∷ z ∷ over) a last l q = absurd (cc)

pub returns-clause-past : goal.returns-clause-past
returns-clause-past c u = ends u.over u.above u.last u.is_last u.own_is
  where
    one : Moved
    one = take_to 3 5

    two : Moved
    two = take_to 2 4

    three : Moved
    three = take_to 1 3

    first : (last : List Entry) → IsLastTake 10 4 last → takes 10 (one ∷ two ∷ three ∷ []) ≡ last → ⊥
    first last (inl x) q = absurd (cc)
    first last (inr x) q = absurd (cc)

    second : (last : List Entry) → IsLastTake 10 4 last → takes 10 (two ∷ three ∷ []) ≡ last → ⊥
    second last (inl x) q = absurd (cc)
    second last (inr x) q = absurd (cc)

    ends : (over : List Moved) → All (λ (x : Moved). 4 < x.count) over → (last : List Entry) → IsLastTake 10 4 last → takes 10 (one ∷ two ∷ three ∷ []) ≡ takes 10 over ++ last → ⊥
    ends [] a last l q = first last l q
    ends (x ∷ []) a last l q = let r : takes 10 (two ∷ three ∷ []) ≡ last = cc in second last l r
    ends (x ∷ y ∷ over) a last l q =
        let k : 4 ≡ y.count = cc in
        let m : 4 < y.count = All-head (λ (x : Moved). 4 < x.count) y over (All-tail (λ (x : Moved). 4 < x.count) x (y ∷ over) a) in
        absurd (omega (arith, k, m))
