-- With which values lives are made, and what reads of them find. (In the kernel a program writes the fields of what bpf_obj_new_impl gave it.
-- That they are written only where an object is made is this project's own.)
use Rattle.std.specs.Prelude.{◌≡◌, ℕ, eqb, if◌then◌else◌, Some, List, [], ◌∷◌}
use Rattle.std.specs.List.{slice_get}
use Rattle.bm_journal.specs.declared.past.PastCall.{PastCall}
use Rattle.bm_journal.specs.declared.past.PastCall.TheVariants as past
use Rattle.bm_law_order.specs.Act.{Act}
use Rattle.bm_law_order.specs.Act as act

-- by unit the values of the fields with which its life was made; none where it has no life
abbrev pub Fields : Type 0
Fields = ℕ → List ℕ

abbrev pub with_fields : (unit : ℕ) → List ℕ → Fields → Fields
with_fields u values fields v = if eqb v u then values else fields v

-- an object is ordered in a tree by the first value that it was made with
abbrev pub IsKeyed : PastCall → Fields → Type 0
IsKeyed (past.Add id key) fields = slice_get (fields id.unit) 0 ≡ Some key
IsKeyed (past.AddAlready id key owner) fields = slice_get (fields id.unit) 0 ≡ Some key
IsKeyed _ fields = Unit {0}

-- What lives were made with before an act and after it: a read finds a value of its life, at its place, and an addition to a tree has its
-- first one.
abbrev pub MadeBy : Act → (before now : Fields) → Type 0
MadeBy (act.Makes u life type values seal) before now = now ≡ with_fields u values before
MadeBy (act.Ends u life home delayed) before now = now ≡ with_fields u [] before
MadeBy (act.Finds u life place value) before now =
    (slice_get (before u) place ≡ Some value) × (now ≡ before)
MadeBy (act.Calls graph position call tag) before now = IsKeyed call before × (now ≡ before)
MadeBy _ before now = now ≡ before

-- .. and of some acts, in order
abbrev pub MadeLead : List Act → (before now : Fields) → Type 0
MadeLead [] before now = now ≡ before
MadeLead (a ∷ more) before now = (mid : Fields) × (MadeBy a before mid × MadeLead more mid now)
