-- When the page of the one graph may go out, and when no object lives.
use Rattle.std.proofs.Common.{◌≡◌, ℕ, zero, suc, refl, Option, Some, None, slice_get}
use Rattle.std.specs.Prelude.{replicate}
use Rattle.bm_journal.specs.declared.ids.Tag.{Tag}
use Rattle.bm_obj.specs.Table.{object_at, object_in}
use Rattle.bm_obj.specs.WorldState.{claim_in, known_of}
use Rattle.bm_obj.specs.declared.object.UnitPlace.{UnitPlace}
use Rattle.bm_obj.specs.declared.object.UnitPlace.TheVariants.{Free}
use Rattle.bm_obj.specs.declared.waiting.Waiting.{Waiting}
use Rattle.bm_tests_objects.specs.Visits.{MayLeave, in_hands, in_list, others, world_with}

free-of : (k n : ℕ) → object_in (slice_get (replicate k (Free 0)) n) ≡ None
free-of zero n = refl
free-of (suc k) zero = refl
free-of (suc k) (suc n) = free-of k n

no-others : (n : ℕ) → object_in (slice_get others n) ≡ None
unfolding others
no-others n = free-of 255 n

-- Where the side has no claim of the object, and nothing waits, it may.
may-leave : (place : UnitPlace) (last : Option Tag) → (claim_in (object_in (Some place)) ≡ Some 0 → ⊥) → MayLeave (world_with place None last)
may-leave place last unclaimed = (refl, go, refl)
  where
    go : (n : ℕ) → (known_of (world_with place None last)).claims n ≡ Some 0 → ⊥
    go zero e = unclaimed e
    go (suc n) e = (let h = no-others n in let k = rw h at e in absurd (cc))

pub leaves-hands : (last : Option Tag) → MayLeave (world_with in_hands None last)
leaves-hands last = may-leave in_hands last (λ e. absurd (cc))

pub leaves-list : (last : Option Tag) → MayLeave (world_with in_list None last)
leaves-list last = may-leave in_list last (λ e. absurd (cc))

-- Once the object has ended there is none.
pub none-lives : (begun : ℕ) (waits : Option Waiting) (last : Option Tag) (n : ℕ) → object_at (world_with (Free begun) waits last).places n ≡ None
none-lives begun waits last zero = refl
none-lives begun waits last (suc n) = no-others n
