-- What the log of a worked journal says in which two references to one object are given up.
use Rattle.std.specs.Prelude.{◌&&◌, eqb, if◌then◌else◌}
use Rattle.std.proofs.Common.{◌≡◌, ◌∙◌, ◌+◌, ℕ, Bool, true, false, List, [], ◌∷◌, ◌++◌, ap, arith, inl, inr, length, lit≤, refl, sym}
use Rattle.std.proofs.lemmas.Bool.Decides.{eqb_tells}
use Rattle.bm_journal.specs.declared.ids.Domain.TheVariants.{Plain, Tracing}
use Rattle.bm_law.specs.Lists.{Log}
use Rattle.bm_law_scenario.specs.WorkedDrops.{counted_log}
use Rattle.bm_law_lives.specs.Together.{named, times}
use Rattle.bm_law_lives.specs.Lives.{LivesLaw, WholeLives, given_object, all_ended}
use Rattle.bm_law_lives.specs.Returns.{ReturnsLaw, returned_units, taken_units}
use Rattle.bm_law_lives.specs.GraceLaw.{WholeGrace, DomainLaw}
use Rattle.bm_law_lives.specs.StampLaw.{StampLaw}
use Rattle.bm_law_lives.proofs.Named.{by-pairs, by-both, same-times}
use Rattle.bm_law_objects.specs.ReferenceLaw.{ReferenceLaw}

abbrev pub shared : List Log
shared = counted_log ∷ []

shared-law : LivesLaw shared
shared-law = record {
  given = by-pairs _ (named given_object shared) (λ u e. rw e tt) (search tt);
  ended = by-pairs _ (named given_object shared) (λ u e. rw e tt) (search (tt, lit≤));
  homes = search tt;
}

pub shared-lives : WholeLives shared
shared-lives = record { law = shared-law; each_ended = by-both _ (all_ended shared) (named given_object shared) (λ u e f. ap length (e ∙ sym f)) (search tt) (search tt) }

pub shared-returns : ReturnsLaw shared
shared-returns = record {
  returned = same-times (named returned_units shared) (named taken_units shared) (search tt) (search tt);
  receivers = tt;
  arrive = (λ c u. refl, tt);
}

shared-plain : DomainLaw Plain shared
shared-plain = record { numbers = search (tt, lit≤); sections = search tt; periods = search tt }

shared-tracing : DomainLaw Tracing shared
shared-tracing = record { numbers = search (tt, lit≤); sections = search tt; periods = search (tt, inl, lit≤) }

pub shared-grace : WholeGrace shared
shared-grace = record { law = record { plain = shared-plain; tracing = shared-tracing }; plain_ended = refl; tracing_ended = refl }

pub shared-stamps : StampLaw shared
shared-stamps = record {
  plain_stamps = search tt;
  tracing_stamps = search tt;
  plain_seen = search tt;
  tracing_seen = search (tt, lit≤);
  seals = search tt;
  returns = search (tt, lit≤);
}

-- one acquire of that life saw 1, and one drop was answered 2
past-one : (k : ℕ) → times k (1 ∷ []) ≡ times (k + 1) (2 ∷ [])
past-one k =
    elim (eqb_tells k 1) [
      | inl y ↦ rw y.1 refl
      | inr y ↦ elim (eqb_tells (k + 1) 2) [
        | inl z ↦ absurd (y.1 (let e = z.1 in omega (arith, e)))
        | inr z ↦ rw y.0 (rw z.0 refl)
      ]
    ]

by-life : (b : Bool) (k : ℕ) → times k (((if b then 1 ∷ [] else []) ++ []) ++ []) ≡ times (k + 1) (((if b then 2 ∷ [] else []) ++ []) ++ [])
by-life true k = past-one k
by-life false k = refl

pub shared-references : ReferenceLaw shared
shared-references u life k = by-life (eqb u 3 && eqb life 1) k
