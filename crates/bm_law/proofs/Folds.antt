-- How the fold over a log goes on.
use Rattle.std.proofs.Common.{map, ◌≡◌, ℕ, [], ◌∷◌, ◌++◌, Option, Some, None, IfSome, refl, sym, ◌∙◌, ap, subst, List}
use Rattle.bm_journal.specs.declared.entry.Entry.{Entry}
use Rattle.bm_journal.specs.Recording.{Appends}
use Rattle.bm_law.specs.State.{State, opening, seen}
use Rattle.bm_law.specs.Effect.{effect}
use Rattle.bm_law.proofs.Seen.{seen-effect}
use Rattle.bm_law.specs.Lists.{Log, Names, brought, next, after, AllName, Leaves}

pub after-append : (s : State ℕ) (a b : Log) → after s (a ++ b) ≡ after (after s a) b
after-append s [] b = refl
after-append s (e ∷ a) b = after-append (next s e) a b

pub AllName-append : (s : State ℕ) (a b : Log) → AllName s a → AllName (after s a) b → AllName s (a ++ b)
AllName-append s [] b h k = k
AllName-append s (e ∷ a) b h k = (h.0, AllName-append (next s e) a b h.1 k)

pub AllName-front : (s : State ℕ) (a b : Log) → AllName s (a ++ b) → AllName s a
AllName-front s [] b h = tt
AllName-front s (e ∷ a) b h = (h.0, AllName-front (next s e) a b h.1)

pub AllName-back : (s : State ℕ) (a b : Log) → AllName s (a ++ b) → AllName (after s a) b
AllName-back s [] b h = h
AllName-back s (e ∷ a) b h = AllName-back (next s e) a b h.1

-- a log one entry longer
pub Leaves-more : (p : ℕ) (log : Log) (s : State ℕ) (l : ℕ) (e : Entry) → Leaves p log s → Names l e s → Leaves p (log ++ (l, e) ∷ []) (effect l e (brought e s) s)
Leaves-more p log s l e h n =
    let Q : State ℕ → Type 0 = λ t. AllName t ((l, e) ∷ []) in
    record {
      named = AllName-append (opening p) log ((l, e) ∷ []) h.named (subst Q (sym h.lists) (n, tt));
      lists = after-append (opening p) log ((l, e) ∷ []) ∙ ap (λ t. effect l e (brought e t) t) h.lists;
    }

-- the same, where a log is told
pub told-more : (p : ℕ) (before now : Option Log) (s t : State ℕ) (l : ℕ) (e : Entry) → Appends before l e now → IfSome before (λ log. Leaves p log s) → Names l e s → t ≡ effect l e (brought e s) s → IfSome now (λ log. Leaves p log t)
told-more p before None s t l e a h n q = tt
told-more p before (Some log) s t l e a h n q =
    let P : Option Log → Type 0 = λ o. IfSome o (λ log. Leaves p log s) in
    let old : Leaves p a.log s = subst P a.told h in
    rw (a.more, q) (Leaves-more p a.log s l e old n)

-- a log in two parts
pub Leaves-append : (p : ℕ) (a b : Log) (t : State ℕ) → Leaves p (a ++ b) t → Leaves p a (after (opening p) a)
Leaves-append p a b t h = record { named = AllName-front (opening p) a b h.named; lists = refl }

-- the empty log
pub leaves-opening : (p : ℕ) → Leaves p [] (opening p)
leaves-opening p = record { named = tt; lists = refl }

-- a log that is told and empty
pub told-opening : (p : ℕ) (o : Option Log) (s : State ℕ) → IfSome o (λ log. log ≡ []) → s ≡ opening p → IfSome o (λ log. Leaves p log s)
told-opening p None s h e = tt
told-opening p (Some log) s h e = rw (h, e) (leaves-opening p)

-- One step of caches whose units are seen through f, with the entry that it records: where a log was told it is told on.
pub told-step : {A : Type 0} (f : A → ℕ) (p : ℕ) (before now : Option Log) (s t : State A) (l : ℕ) (e : Entry) (us : List A) → Appends before l e now → t ≡ effect l e us s → brought e (seen f s) ≡ map f us → Names l e (seen f s) → IfSome before (λ log. Leaves p log (seen f s)) → IfSome now (λ log. Leaves p log (seen f t))
told-step f p before now s t l e us a q b n h =
    told-more p before now (seen f s) (seen f t) l e a h n (ap (seen f) q ∙ seen-effect f l e us s ∙ ap (λ x. effect l e x (seen f s)) (sym b))
