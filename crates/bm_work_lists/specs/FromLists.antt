-- A refill from Ready and Second alone. (The first two loops of alloc_bulk in kernel/bpf/memalloc.c.)
use Rattle.std.specs.Prelude.{◌≡◌, ℕ, zero, suc, ◌-◌, List, [], ◌∷◌, length, drop}
use Rattle.bm_journal.specs.declared.entry.Entry.TheVariants as entry
use Rattle.bm_law.specs.State.{Deferred}
use Rattle.bm_law_work.specs.Parts.{Part, Nothing, Stand, Then}
use Rattle.bm_law_work.specs.WorkPhrases.{Brings, Fetches}

-- what is left where so many units are taken from the top of Ready, and then from the top of Second
abbrev pub less : {A : Type 0} → ℕ → Deferred A → Deferred A
less n d = record d { ready = drop n d.ready; second = drop (n - length d.ready) d.second }

-- It ends with so many units left to bring, after whatever handlers ran.
abbrev pub Ends : ℕ → ℕ → ℕ → Part
Ends l n left s part = (left ≡ n) × Stand l [] s part

-- It goes on, with n units to bring, as a refill does while there is a unit; where both lists are empty it ends.
abbrev pub FromBy : ℕ → ℕ → ℕ → ℕ → Part → List ℕ → List ℕ → Part
FromBy l c n left rest (u ∷ us) second = Then (Brings l c (entry.Ready c u) u) rest
FromBy l c n left rest [] (u ∷ us) = Then (Brings l c (entry.Second c u) u) rest
FromBy l c n left rest [] [] = Ends l n left

-- A refill of n units from the lists, after which so many are left to bring.
abbrev pub FromLists : ℕ → ℕ → ℕ → ℕ → Part
FromLists l c zero left = λ s part. (left ≡ 0) × Nothing s part
FromLists l c (suc n) left =
    λ s. FromBy l c (suc n) left (FromLists l c n left) (s.rows c).deferred.ready
    (s.rows c).deferred.second s

-- the fetch of those that are left, if any
abbrev pub Fetched : ℕ → ℕ → ℕ → Part
Fetched l c zero = Nothing
Fetched l c (suc n) = Fetches l c (suc n)
