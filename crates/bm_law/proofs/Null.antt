-- A log that names what is there keeps the null law for its pops, and so do the phrases for their replies.
use Rattle.std.proofs.Common.{◌≡◌, ◌≢◌, ◌<◌, ℕ, inl, inr, Bool, true, false, List, [], ◌∷◌, ◌++◌, Option, Some, None, refl, cond, take}
use Rattle.std.specs.Prelude.{◌&&◌, nat_lt}
use Rattle.bm_class.specs.Sizes.{size_of_class}
use Rattle.bm_class.specs.Watermarks.{low_of_size, high_of_size}
use Rattle.bm_journal.specs.declared.entry.Entry.{Entry}
use Rattle.bm_journal.specs.declared.entry.Entry.TheVariants as entry
use Rattle.bm_law.specs.State.{State}
use Rattle.bm_law.specs.Lists.{Log, Names, next, AllName}
use Rattle.bm_law.specs.Phrases.{raise_above, raise_unless, overtaken, overtaken_delayed, alloc_took, alloc_empty, alloc_busy, AllocPhrase, FreePhrase, DelayPhrase, AddPhrase}
use Rattle.bm_law.specs.Null.{PopFits, PopsFit, Asked, Nothing, Wanted, asked_after, ReplyFits, RepliesFit, asked_at_end, is_apart, all_apart}

not-empty : (xs : List ℕ) (u : ℕ) → take 1 xs ≡ u ∷ [] → xs ≢ []
not-empty [] u h e = cc
not-empty (x ∷ xs) u h e = cc

pop-fits : (l : ℕ) (e : Entry) (s : State ℕ) → Names l e s → PopFits e s
pop-fits l (entry.Pop c u) s h = not-empty (s.rows c).free u h
pop-fits l (entry.PopNone c) s h = h
pop-fits l _ s h = tt

pub pops-fit : (s : State ℕ) (log : Log) → AllName s log → PopsFit s log
pops-fit s [] h = tt
pops-fit s (e ∷ es) h = (pop-fits e.0 e.1 s h.0, pops-fit (next s e) es h.1)

pub replies-append : (a : Asked) (v w : List Entry) → RepliesFit a v → RepliesFit (asked_at_end a v) w → RepliesFit a (v ++ w)
replies-append a [] w h k = k
replies-append a (e ∷ v) w h k = (h.0, replies-append (asked_after a e) v w h.1 k)

pub asked-append : (a : Asked) (v w : List Entry) → asked_at_end a (v ++ w) ≡ asked_at_end (asked_at_end a v) w
asked-append a [] w = refl
asked-append a (e ∷ v) w = asked-append (asked_after a e) v w

-- a phrase that a reply ends answers what was asked
abbrev pub Answers : List Entry → Type 0
Answers own = RepliesFit Wanted own × (asked_at_end Wanted own ≡ Nothing)

given-answers : (c u life k : ℕ) (seal : Option (ℕ × ℕ)) (a : ℕ) → Answers (alloc_took c u life seal k a)
given-answers c u life k None a =
    elim (nat_lt k (low_of_size (size_of_class c))) as (λ b. Answers (entry.Enter c 1 ∷ entry.Pop c u ∷ entry.Count c k ∷ entry.Leave c a ∷ cond b (entry.Raise c ∷ []) [] ++ entry.Given u life ∷ [])) [
      | true ↦ ((tt, (tt, (tt, (tt, (tt, (refl, tt)))))), refl)
      | false ↦ ((tt, (tt, (tt, (tt, (refl, tt))))), refl)
    ]
given-answers c u life k (Some seal) a =
    elim (nat_lt k (low_of_size (size_of_class c))) as (λ b. Answers (entry.Enter c 1 ∷ entry.Pop c u ∷ entry.Count c k ∷ entry.Leave c a ∷ cond b (entry.Raise c ∷ []) [] ++ entry.GivenAfter u life seal.0 seal.1 ∷ [])) [
      | true ↦ ((tt, (tt, (tt, (tt, (tt, (refl, tt)))))), refl)
      | false ↦ ((tt, (tt, (tt, (tt, (refl, tt))))), refl)
    ]

empty-answers : (c a : ℕ) → Answers (alloc_empty c a)
empty-answers c a =
    elim (nat_lt 0 (low_of_size (size_of_class c))) as (λ b. Answers (entry.Enter c 1 ∷ entry.PopNone c ∷ entry.Leave c a ∷ cond b (entry.Raise c ∷ []) [] ++ entry.Empty ∷ [])) [
      | true ↦ ((tt, (tt, (tt, (tt, (refl, tt))))), refl)
      | false ↦ ((tt, (tt, (tt, (refl, tt)))), refl)
    ]

busy-answers : (c b a : ℕ) → 1 < b → Answers (alloc_busy c b a)
busy-answers c b a h =
    elim (nat_lt 0 (low_of_size (size_of_class c))) as (λ t. Answers (entry.Enter c b ∷ entry.Leave c a ∷ cond t (entry.Raise c ∷ []) [] ++ entry.Busy b ∷ [])) [
      | true ↦ ((tt, (tt, (tt, ((refl, h), tt)))), refl)
      | false ↦ ((tt, (tt, ((refl, h), tt))), refl)
    ]

-- an allocation answers what was asked
pub alloc-answers : (c : ℕ) (own : List Entry) → AllocPhrase c own → Answers own
alloc-answers c own (inl y) = rw y.5 (given-answers c y.0 y.1 y.3 y.2 y.4)
alloc-answers c own (inr (inl y)) = rw y.1 (empty-answers c y.0)
alloc-answers c own (inr (inr y)) = rw y.3 (busy-answers c y.0 y.1 y.2)

-- entries that neither ask nor answer
apart-fits : (e : Entry) → is_apart e ≡ true → ReplyFits Nothing e × (asked_after Nothing e ≡ Nothing)
apart-fits (entry.New name values) h = absurd (cc)
apart-fits (entry.Given u life) h = absurd (cc)
apart-fits (entry.GivenAfter u life stamp seen) h = absurd (cc)
apart-fits entry.Empty h = absurd (cc)
apart-fits (entry.Busy a) h = absurd (cc)
apart-fits _ h = (tt, refl)

and-left : (a b : Bool) → (a && b) ≡ true → a ≡ true
and-left true b h = refl
and-left false b h = h

and-right : (a b : Bool) → (a && b) ≡ true → b ≡ true
and-right true b h = h
and-right false b h = absurd (cc)

pub apart-answers : (own : List Entry) → all_apart own ≡ true → RepliesFit Nothing own × (asked_at_end Nothing own ≡ Nothing)
apart-answers [] h = (tt, refl)
apart-answers (e ∷ es) h =
    let k = apart-fits e (and-left (is_apart e) (all_apart es) h) in
    let r = apart-answers es (and-right (is_apart e) (all_apart es) h) in
    rw k.1 ((k.0, r.0), r.1)

apart-append : (v w : List Entry) → all_apart v ≡ true → all_apart w ≡ true → all_apart (v ++ w) ≡ true
apart-append [] w h k = k
apart-append (e ∷ v) w h k = rw (and-left (is_apart e) (all_apart v) h) (apart-append v w (and-right (is_apart e) (all_apart v) h) k)

apart-above : (c k : ℕ) → all_apart (raise_above c k) ≡ true
apart-above c k = elim (nat_lt (high_of_size (size_of_class c)) k) as (λ b. all_apart (cond b (entry.Raise c ∷ []) []) ≡ true) [ true ↦ refl | false ↦ refl ]

apart-unless : (b : Bool) (c : ℕ) → all_apart (raise_unless b c) ≡ true
apart-unless true c = refl
apart-unless false c = refl

apart-overtaken : (c : ℕ) (xs : List ℕ) → all_apart (overtaken c xs) ≡ true
apart-overtaken c [] = refl
apart-overtaken c (k ∷ ks) = apart-overtaken c ks

apart-overtaken_delayed : (c : ℕ) (xs : List ℕ) → all_apart (overtaken_delayed c xs) ≡ true
apart-overtaken_delayed c [] = refl
apart-overtaken_delayed c (k ∷ ks) = apart-overtaken_delayed c ks

-- frees and additions neither ask nor answer
pub apart-free : (c u home : ℕ) (own : List Entry) → FreePhrase c u home own → all_apart own ≡ true
apart-free c u home own (inl y) = rw y.2 (apart-above c y.0)
apart-free c u home own (inr y) = rw y.5 (apart-append (overtaken c y.1) (entry.Look c y.2 ∷ entry.Put c u ∷ entry.Leave c y.3 ∷ []) (apart-overtaken c y.1) refl)

pub apart-delay : (c u home : ℕ) (in_progress : Bool) (own : List Entry) → DelayPhrase c u home in_progress own → all_apart own ≡ true
apart-delay c u home b own (inl y) = rw y.1 (apart-unless b c)
apart-delay c u home b own (inr y) =
    rw y.5 (apart-append (overtaken_delayed c y.1) (entry.LookDelayed c y.2 ∷ entry.PutDelayed c u ∷ entry.Leave c y.3 ∷ raise_unless b c) (apart-overtaken_delayed c y.1) (apart-unless b c))

pub apart-add : (c u : ℕ) (own : List Entry) → AddPhrase c u own → all_apart own ≡ true
apart-add c u own y = rw y.2 refl
