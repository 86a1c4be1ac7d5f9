-- What a desk owes, while its side is called and its caches record entries.
use Rattle.std.proofs.Common.{◌≡◌, ◌+◌, ◌++◌, true, false, ℕ, List, [], ◌∷◌, Option, None, Some, Result, Ok, Err, OnOk, refl, sym, ◌∙◌, ap, subst, inl, inr}
use Rattle.std.specs.Prelude.{IfSome, IsSome}
use Rattle.bm_journal.specs.declared.counts.Counts.{Counts}
use Rattle.bm_journal.specs.declared.ids.Domain.{Domain}
use Rattle.bm_journal.specs.declared.ids.Domain.TheVariants.{Plain, Tracing}
use Rattle.bm_journal.specs.declared.entry.Entry.{Entry}
use Rattle.bm_journal.specs.declared.entry.Entry.TheVariants as entry
use Rattle.bm_journal.specs.Recording.{Appends}
use Rattle.bm_law.specs.Lists.{Leaves, Log, after, stamp_of}
use Rattle.bm_law.specs.State.{Deferred, State, opening, seen, seen_deferred}
use Rattle.bm_law_order.specs.Act.{Act, sealed, units_of}
use Rattle.bm_page.specs.UnitState.{UnitState}
use Rattle.bm_post.specs.Rights.{numbers}
use Rattle.bm_law_order.specs.Act as act
use Rattle.bm_grace.specs.Known.{Known, side}
use Rattle.bm_law_order.specs.Chunk.{Chunk, Shows}
use Rattle.bm_law_order.specs.Chunk as chunk
use Rattle.bm_cache.specs.Shown.{shown}
use Rattle.bm_cache.specs.Span.{Face, Fine}
use Rattle.bm_cache.specs.Steps.{is_reply, is_step}
use Rattle.bm_cache.specs.Tests.{Tests}
use Rattle.bm_cache.specs.Tokens.{Token, number_of}
use Rattle.bm_cache.specs.declared.caches.Caches.{Caches}
use Rattle.bm_work.specs.Goes.{Alike}
use Rattle.bm_work.specs.Rested.{LooksOrEnds, PollsForSome, HasStamp}
use Rattle.bm_work.specs.Works.{Stands}

-- a desk that stands, but for what is sound, and what is sound
pub stands-with : {H R : Type 0} (log : R → Option Log) (counts : R → Counts) (S T : H → Type 0) (tests : H → Tests) (faces : H → Face) (holds : H → Caches R) (h : H) → T h → Stands log counts S tests faces holds h → Stands log counts T tests faces holds h
stands-with log counts S T tests faces holds h t s = record { sound = t; fine = s.fine; dated = s.dated }

-- a call of the side
pub owes-called : {H W : Type 0} (shared : H → W) (with_shared : H → W → H) (known : W → Known) (does : List Act → W → W → Type 0) (Q : List Act → H → Type 0) → ((h : H) (w : W) (done more : List Act) → Alike (known (shared h)) (known w) → does more (shared h) w → Q done h → Q (done ++ more) (with_shared h w)) → (h : H) (v w : W) (k : Known) (more : List Act) → v ≡ shared h → known w ≡ k → Alike (known v) k → does more v w → (done : List Act) → Q done h → Q (done ++ more) (with_shared h w)
owes-called shared with_shared known does Q law h v w k more e n a d done q =
    law h w done more (subst (λ x. Alike (known x) (known w)) e (subst (λ x. Alike (known v) x) (sym n) a)) (subst (λ x. does more x w) e d) q

-- an entry that is no step
pub owes-noted : {H R : Type 0} (F : H → Face) (D : H → Caches R) (W : H → Caches R → H) (log : R → Option Log) (owes : List Act → List Entry → H → Type 0) → ((h : H) (c : Caches R) (done : List Act) (es : List Entry) (e : Entry) → is_reply e ≡ true → c.processor ≡ (D h).processor → Appends (log (D h).recorder) (F h).level e (log c.recorder) → owes done es h → owes done (es ++ e ∷ []) (W h c)) → (h : H) (w z : Caches R) (j : ℕ) (e : Entry) → j ≡ (F h).level → w ≡ D h → is_reply e ≡ true → Appends (log w.recorder) j e (log z.recorder) → z.processor ≡ w.processor → (done : List Act) (es : List Entry) → owes done es h → owes done (es ++ e ∷ []) (W h z)
owes-noted {H} {R} F D W log owes law h w z j e l k i a p done es o =
    let P : ℕ → Caches R → Type 0 = λ n c. Appends (log c.recorder) n e (log z.recorder) in
    law h z done es e i (p ∙ ap (λ (c : Caches R). c.processor) k) (subst (λ n. P n (D h)) l (subst (λ c. P j c) k a)) o

-- the entry of a step, which stands for what was done
pub owes-stepped : {H R : Type 0} (F : H → Face) (D : H → Caches R) (W : H → Caches R → H) (log : R → Option Log) (sound : H → Type 0) (owes : List Act → H → Type 0) → ((h : H) (c : Caches R) (done : List Act) (e : Entry) → is_step e ≡ true → (IsSome (log c.recorder) → Shows done (e ∷ [])) → c.processor ≡ (D h).processor → Appends (log (D h).recorder) (F h).level e (log c.recorder) → owes done h → sound (W h c)) → (h : H) (w z : Caches R) (j : ℕ) (e : Entry) → j ≡ (F h).level → w ≡ D h → is_step e ≡ true → Appends (log w.recorder) j e (log z.recorder) → z.processor ≡ w.processor → (done : List Act) → (IsSome (log z.recorder) → Shows done (e ∷ [])) → owes done h → sound (W h z)
owes-stepped {H} {R} F D W log sound owes law h w z j e l k i a p done s o =
    let P : ℕ → Caches R → Type 0 = λ n c. Appends (log c.recorder) n e (log z.recorder) in
    law h z done e i s (p ∙ ap (λ (c : Caches R). c.processor) k) (subst (λ n. P n (D h)) l (subst (λ c. P j c) k a)) o

pub shows : (x : Chunk) → chunk.is_judged x ≡ false → Shows (chunk.acts_of x) (chunk.entries_of x)
shows x s = record { chunk = x; free = s; acts_are = refl; entries_are = refl }

-- a look, which may end the period, before anything else is owed
pub looked-sound : {H : Type 0} (known : H → Known) (owes : List Act → List Entry → H → Type 0) (sound : H → Type 0) → ((h : H) (done : List Act) (es : List Entry) → Shows done es → owes done es h → sound h) → (d : Domain) (h : H) → LooksOrEnds known owes d [] [] h → sound h
looked-sound known owes sound law d h (inl x) = law h (act.Looks d (side d (known h)).later ∷ []) [] (shows (chunk.Looking d (side d (known h)).later) refl) x.0
looked-sound known owes sound law d h (inr x) =
    law h (act.Looks d x.0 ∷ act.Finishes x.1 ∷ []) (entry.Finish x.1 ∷ []) (let F : Domain → Type 0 = λ e. Shows (act.Looks e x.0 ∷ act.Finishes x.1 ∷ []) (entry.Finish x.1 ∷ []) in subst F x.2 (shows (chunk.Finishing x.0 x.1) refl)) x.4

-- ---- a batch that waits

seen-stamp : {A B : Type 0} (f : A → B) (d : Domain) (r : Deferred A) → stamp_of d (seen_deferred f r) ≡ stamp_of d r
seen-stamp f Plain r = refl
seen-stamp f Tracing r = refl

if-told : (o : Option Log) (P Q : Log → Type 0) → ((es : Log) → P es → Q es) → IfSome o P → IfSome o Q
if-told None P Q f h = tt
if-told (Some es) P Q f h = f es h

-- what the caches have, their log tells
pub has-stamp : {R : Type 0} (log : R → Option Log) (counts : R → Counts) (tests : Tests) (n l : ℕ) (c : Caches R) → Fine log counts tests n l c → (i : ℕ) (d : Domain) (x : ℕ) → stamp_of d ((shown c).rows i).deferred ≡ Some x → HasStamp log n i d x c
has-stamp log counts tests n l c f i d x e = record { processor = f.aimed.processor; told = if-told (log c.recorder) L S same f.placed.told }
  where
    L : Log → Type 0
    L es = Leaves c.processor es (seen number_of (shown c))

    S : Log → Type 0
    S es = stamp_of d ((after (opening c.processor) es).rows i).deferred ≡ Some x

    same : (es : Log) → L es → S es
    same es t = ap (λ (s : State ℕ). stamp_of d (s.rows i).deferred) t.lists ∙ (seen-stamp number_of d ((shown c).rows i).deferred ∙ e)

-- .. also later, where the same stands in the caches
pub some-stamp : {H R : Type 0} (log : R → Option Log) (counts : R → Counts) (S : H → Type 0) (tests : H → Tests) (faces : H → Face) (holds : H → Caches R) (minds : Type 0) (d : Domain) (x : ℕ) (a h : H) → shown (holds h) ≡ shown (holds a) → PollsForSome minds d x (holds a) → Stands log counts S tests faces holds h → minds → (i : ℕ) × HasStamp log (faces h).processors i d x (holds h)
some-stamp log counts S tests faces holds minds d x a h e p s m =
    let w = p m in
    (w.0, has-stamp log counts (tests h) (faces h).processors ((faces h).level + 1) (holds h) s.fine w.0 d x (ap (λ (z : State Token). stamp_of d (z.rows w.0).deferred) e ∙ w.1))

-- of a call that wasn't refused
pub both-ok : {T E : Type 0} (r : Result T E) {A B C : Type 0} → (A → B → C) → OnOk r A → OnOk r B → OnOk r C
both-ok (Ok x) f a b = f a b
both-ok (Err x) f a b = tt

-- the numbers of units with their seals are the units'
pub units-sealed : (us : List UnitState) → units_of (sealed us) ≡ numbers us
units-sealed [] = refl
units-sealed (u ∷ us) = ap (λ (ns : List ℕ). u.number ∷ ns) (units-sealed us)
