-- The test of an entry's names decides them, and the lists that are computed are those that the log leaves.
use Rattle.std.proofs.Common.{◌≡◌, ℕ, ◌+◌, Bool, true, false, [], ◌∷◌, Option, Some, None, refl, ap, cond, length, take}
use Rattle.std.specs.Prelude.{◌&&◌, nat_eq, nat_lt, is_none}
use Rattle.std.specs.Bool.{Decides}
use Rattle.std.proofs.lemmas.Bool.Decides.{Decides-eqb, Decides-ltb}
use Rattle.std.proofs.lemmas.Slice.Eq.{bytes_eq-Decides}
use Rattle.bm_journal.specs.declared.entry.Entry.{Entry}
use Rattle.bm_journal.specs.declared.entry.Entry.TheVariants as entry
use Rattle.bm_journal.specs.EntryText.{unit_list}
use Rattle.bm_law.specs.declared.mark.Mark.{Mark}
use Rattle.bm_law.specs.declared.mark.Mark.TheVariants as mark
use Rattle.bm_law.specs.State.{State, opening, seven_lists}
use Rattle.bm_law.specs.Lists.{Log, stamp_of, sends, CountsTo, SawLess, SawLessDelayed, Names, next, after, AllName, Leaves, counts_to, saw, saw_delayed, saw_less, saw_less_delayed, is_unstamped, names, lists_from, lists_of}

false-true : {X : Type 0} → false ≡ true → X
false-true h = absurd (cc)

both : {P Q : Type 0} (a b : Bool) → Decides a P → Decides b Q → Decides (a && b) (P × Q)
both true b p q = (λ h. (p.0 refl, q.0 h), λ h. q.1 h.1)
both false b p q = (λ h. false-true h, λ h. p.1 h.0)

never : {P : Type 0} → (P → ⊥) → Decides false P
never n = (λ h. false-true h, λ h. absurd (n h))

nothing : Decides false ⊥
nothing = (λ h. false-true h, λ h. absurd h)

class_of : Mark → ℕ
class_of (mark.Saw d k) = d
class_of (mark.SawDelayed d k) = d
class_of _ = 0

length_of : Mark → ℕ
length_of (mark.Saw d k) = k
length_of (mark.SawDelayed d k) = k
length_of _ = 0

two : (d k c n : ℕ) → (P : Type 0) → (d ≡ c → k ≡ n → P) → (P → d ≡ c) → (P → k ≡ n) → Decides (nat_eq d c && nat_eq k n) P
two d k c n P f g h =
    let b = both (nat_eq d c) (nat_eq k n) (Decides-eqb d c) (Decides-eqb k n) in
    (λ e. let x = b.0 e in f x.0 x.1, λ p. b.1 (g p, h p))

saw-tells : (m : Mark) (c n : ℕ) → Decides (saw m c n) (m ≡ mark.Saw c n)
unfolding class_of length_of
saw-tells (mark.Saw d k) c n = two d k c n _ (λ e f. rw (e, f) refl) (λ p. ap class_of p) (λ p. ap length_of p)
saw-tells mark.Quiet c n = never (λ h. cc)
saw-tells (mark.Bound home delayed) c n = never (λ h. cc)
saw-tells (mark.Took d) c n = never (λ h. cc)
saw-tells (mark.Gave d) c n = never (λ h. cc)
saw-tells (mark.SawDelayed d k) c n = never (λ h. cc)

saw_delayed-tells : (m : Mark) (c n : ℕ) → Decides (saw_delayed m c n) (m ≡ mark.SawDelayed c n)
unfolding class_of length_of
saw_delayed-tells (mark.SawDelayed d k) c n = two d k c n _ (λ e f. rw (e, f) refl) (λ p. ap class_of p) (λ p. ap length_of p)
saw_delayed-tells mark.Quiet c n = never (λ h. cc)
saw_delayed-tells (mark.Bound home delayed) c n = never (λ h. cc)
saw_delayed-tells (mark.Took d) c n = never (λ h. cc)
saw_delayed-tells (mark.Gave d) c n = never (λ h. cc)
saw_delayed-tells (mark.Saw d k) c n = never (λ h. cc)

saw_less-tells : (m : Mark) (c n : ℕ) → Decides (saw_less m c n) (SawLess m c n)
saw_less-tells (mark.Saw d k) c n = both (nat_eq d c) (nat_lt k n) (Decides-eqb d c) (Decides-ltb k n)
saw_less-tells _ c n = nothing

saw_less_delayed-tells : (m : Mark) (c n : ℕ) → Decides (saw_less_delayed m c n) (SawLessDelayed m c n)
saw_less_delayed-tells (mark.SawDelayed d k) c n = both (nat_eq d c) (nat_lt k n) (Decides-eqb d c) (Decides-ltb k n)
saw_less_delayed-tells _ c n = nothing

counts_to-tells : (m : Mark) (c b k : ℕ) → Decides (counts_to m c b k) (CountsTo m c b k)
counts_to-tells (mark.Took d) c b k = both (nat_eq d c) (nat_eq (k + 1) b) (Decides-eqb d c) (Decides-eqb (k + 1) b)
counts_to-tells (mark.Gave d) c b k = both (nat_eq d c) (nat_eq k (b + 1)) (Decides-eqb d c) (Decides-eqb k (b + 1))
counts_to-tells _ c b k = nothing

value_of : Option ℕ → ℕ
value_of (Some x) = x
value_of None = 1

unstamped-tells : (o : Option ℕ) → Decides (is_unstamped o) (o ≡ Some 0)
unfolding value_of
unstamped-tells (Some x) = (λ h. ap Some ((Decides-eqb x 0).0 h), λ h. (Decides-eqb x 0).1 (ap value_of h))
unstamped-tells None = never (λ h. cc)

none-tells : (o : Option ℕ) → Decides (is_none o) (o ≡ None)
none-tells (Some x) = never (λ h. cc)
none-tells None = (λ h. refl, λ h. refl)

pub names-tell : (l : ℕ) (e : Entry) (s : State ℕ) → Decides (names l e s) (Names l e s)
names-tell l (entry.Given u life) s = bytes_eq-Decides (take 1 (s.sides l).hand) (u ∷ [])
names-tell l (entry.GivenAfter u life stamp seen) s = bytes_eq-Decides (take 1 (s.sides l).hand) (u ∷ [])
names-tell l (entry.Enter c a) s = Decides-eqb a ((s.rows c).active + 1)
names-tell l (entry.Leave c a) s = Decides-eqb (s.rows c).active (a + 1)
names-tell l (entry.Pop c u) s = bytes_eq-Decides (take 1 (s.rows c).free) (u ∷ [])
names-tell l (entry.PopNone c) s = bytes_eq-Decides (s.rows c).free []
names-tell l (entry.Push c u) s = bytes_eq-Decides (take 1 (s.sides l).hand) (u ∷ [])
names-tell l (entry.Count c k) s = counts_to-tells (s.sides l).mark c (s.rows c).count k
names-tell l (entry.Delayed c u) s = bytes_eq-Decides (take 1 (s.sides l).hand) (u ∷ [])
names-tell l (entry.Look c k) s = Decides-eqb k (length (s.rows c).extra)
names-tell l (entry.Put c u) s = both _ _ (bytes_eq-Decides (take 1 (s.sides l).hand) (u ∷ [])) (saw-tells (s.sides l).mark c (length (s.rows c).extra))
names-tell l (entry.Lost c) s = saw_less-tells (s.sides l).mark c (length (s.rows c).extra)
names-tell l (entry.LookDelayed c k) s = Decides-eqb k (length (s.rows c).extra_delayed)
names-tell l (entry.PutDelayed c u) s = both _ _ (bytes_eq-Decides (take 1 (s.sides l).hand) (u ∷ [])) (saw_delayed-tells (s.sides l).mark c (length (s.rows c).extra_delayed))
names-tell l (entry.LostDelayed c) s = saw_less_delayed-tells (s.sides l).mark c (length (s.rows c).extra_delayed)
names-tell l (entry.Read c k) s = Decides-eqb k (s.rows c).count
names-tell l (entry.Ready c u) s = bytes_eq-Decides (take 1 (s.rows c).deferred.ready) (u ∷ [])
names-tell l (entry.Second c u) s = bytes_eq-Decides (take 1 (s.rows c).deferred.second) (u ∷ [])
names-tell l (entry.TakeExtra c us) s = bytes_eq-Decides (unit_list us) (s.rows c).extra
names-tell l (entry.Send c p us) s = both _ _ (Decides-eqb p (s.rows c).target) (bytes_eq-Decides (unit_list us) (sends (s.sides l).hand (s.rows c).deferred.first))
names-tell l (entry.TakeDelayed c us) s = bytes_eq-Decides (unit_list us) (s.rows c).extra_delayed
names-tell l (entry.Batch c us) s = both _ _ (bytes_eq-Decides (unit_list us) (s.rows c).delayed) (none-tells (s.rows c).deferred.plain)
names-tell l (entry.Stamp c d x) s = unstamped-tells (stamp_of d (s.rows c).deferred)
names-tell l (entry.BeginSecond c us) s = both _ _ (bytes_eq-Decides (unit_list us) (s.rows c).deferred.ready) (none-tells (s.rows c).deferred.tracing)
names-tell l (entry.Return c us) s = both _ _ (bytes_eq-Decides (unit_list us) (s.rows c).deferred.second) (λ h. h, λ h. h)
names-tell l (entry.Sweep c us) s = bytes_eq-Decides (take (length (seven_lists (s.rows c))) (unit_list us)) (seven_lists (s.rows c))
names-tell l _ s = (λ h. tt, λ h. refl)

only : {X : Type 0} (b : Bool) (o : Option X) (t : X) → cond b o None ≡ Some t → (b ≡ true) × (o ≡ Some t)
only true o t h = (refl, h)
only false o t h = absurd (cc)

pub lists-from : (s t : State ℕ) (log : Log) → lists_from s log ≡ Some t → AllName s log × (after s log ≡ t)
lists-from s t [] h = (tt, same s t h)
  where
    same : (s t : State ℕ) → Some s ≡ Some t → s ≡ t
    same s t h = cc
lists-from s t (e ∷ es) h =
    let o = only (names e.0 e.1 s) (lists_from (next s e) es) t h in
    let r = lists-from (next s e) t es o.1 in
    (((names-tell e.0 e.1 s).0 o.0, r.0), r.1)

pub from-lists : (s t : State ℕ) (log : Log) → AllName s log → after s log ≡ t → lists_from s log ≡ Some t
from-lists s t [] n q = ap Some q
from-lists s t (e ∷ es) n q = rw ((names-tell e.0 e.1 s).1 n.0) (from-lists (next s e) t es n.1 q)

-- the lists that are computed, and those that the log leaves
pub leaves-lists : (p : ℕ) (log : Log) (s : State ℕ) → lists_of p log ≡ Some s → Leaves p log s
leaves-lists p log s h = let r = lists-from (opening p) s log h in record { named = r.0; lists = r.1 }

pub lists-leaves : (p : ℕ) (log : Log) (s : State ℕ) → Leaves p log s → lists_of p log ≡ Some s
lists-leaves p log s h = from-lists (opening p) s log h.named h.lists
