use Rattle.std.proofs.Common.{ℕ, List, [], ◌∷◌, arith, refl}
use Rattle.bm_law_order.specs.Lives.{Life}
use Rattle.bm_law_objects.specs.Objects.{Asked}
use Rattle.bm_law_objects.specs.Worked.{job}
use Rattle.bm_law_objects.proofs.worked.worked_orders.Goals as goal

-- a life that this processor made, with so many references
abbrev life : (maker count : ℕ) → Life
life maker count = record { maker = maker; count = count }

abbrev job_of : List ℕ → Asked
job_of values = record { type_name = job; values = values }

-- one entry after the other
infixr 2 ◌▸◌
◌▸◌ : {A B : Type 0} → A → B → A × B
a ▸ b = (a, b)

pub returns-clause-within : goal.returns-clause-within
returns-clause-within c =
    tt
    ▸ tt
    ▸ record { asked = job_of (2 ∷ []); is = refl }
    ▸ record { alive = record { held = life 0 1; holds = refl; now_is = refl }; asked = job_of (2 ∷ []); made_is = refl; value_is = refl }
    ▸ tt
    ▸ tt
    ▸ tt
    ▸ record { asked = job_of (1 ∷ []); is = refl }
    ▸ record { alive = record { held = life 0 1; holds = refl; now_is = refl }; asked = job_of (1 ∷ []); made_is = refl; value_is = refl }
    ▸ tt

pub returns-clause-handed_on : goal.returns-clause-handed_on
returns-clause-handed_on c =
    tt
    ▸ record { asked = job_of (9 ∷ 4 ∷ []); is = refl }
    ▸ tt
    ▸ record { alive = record { held = life 0 2; holds = refl; now_is = refl }; asked = job_of (9 ∷ 4 ∷ []); made_is = refl; value_is = refl }
    ▸ record { was_is = refl; by_is = refl; alive = record { held = life 0 2; holds = refl; now_is = refl } }
    ▸ tt
    ▸ record { asked = job_of (5 ∷ 6 ∷ []); is = refl }
    ▸ record { was_is = refl; by_is = refl; alive = record { held = life 1 1; holds = refl; now_is = refl } }
    ▸ tt
    ▸ tt
    ▸ record { was_is = refl; by_is = refl; alive = tt }
    ▸ record { alive = record { held = life 1 1; holds = refl; now_is = refl }; asked = job_of (5 ∷ 6 ∷ []); made_is = refl; value_is = refl }
    ▸ tt
    ▸ tt
    ▸ tt
    ▸ record { was_is = refl; by_is = refl; alive = tt }
    ▸ tt
    ▸ tt
    ▸ tt
    ▸ tt

pub returns-clause-handed_on_lives : goal.returns-clause-handed_on_lives
returns-clause-handed_on_lives c =
    tt
    ▸ record { none = refl; next_is = refl }
    ▸ record { held = life 0 1; holds = refl; count = refl; now_is = refl }
    ▸ tt
    ▸ tt
    ▸ tt
    ▸ record { none = refl; next_is = refl }
    ▸ tt
    ▸ record { references = 2; has = record { held = life 0 2; holds = refl; count = refl; now_is = refl }; none = refl }
    ▸ (record { unit = 3; life = 1; under = refl; has = record { held = life 0 2; holds = refl; count = refl; now_is = refl } }, omega arith)
    ▸ tt
    ▸ tt
    ▸ record { references = 1; has = record { held = life 1 1; holds = refl; count = refl; now_is = refl }; none = refl }
    ▸ record { unit = 2; life = 1; under = refl; has = record { held = life 1 1; holds = refl; count = refl; now_is = refl } }
    ▸ record { life = 1; under = refl }
    ▸ tt
    ▸ record { references = 1; has = record { held = life 0 1; holds = refl; count = refl; now_is = refl }; none = refl }
    ▸ record { unit = 3; life = 1; under = refl; has = record { held = life 0 1; holds = refl; count = refl; now_is = refl } }
    ▸ record { life = 1; under = refl }
    ▸ tt

pub returns-clause-five : goal.returns-clause-five
returns-clause-five c =
    record { was_is = refl; by_is = refl; alive = tt }
    ▸ record { was_is = refl; by_is = refl; alive = tt }
    ▸ tt
    ▸ record { asked = job_of (1 ∷ []); is = refl }
    ▸ record { was_is = refl; by_is = refl; alive = record { held = life 0 1; holds = refl; now_is = refl } }
    ▸ tt
    ▸ record { asked = job_of (2 ∷ []); is = refl }
    ▸ record { was_is = refl; by_is = refl; alive = record { held = life 0 1; holds = refl; now_is = refl } }
    ▸ tt
    ▸ tt
    ▸ tt
    ▸ record { was_is = refl; by_is = refl; alive = tt }
    ▸ tt
    ▸ tt
    ▸ tt
    ▸ tt

pub returns-clause-five_lives : goal.returns-clause-five_lives
returns-clause-five_lives c =
    tt
    ▸ tt
    ▸ tt
    ▸ record { none = refl; next_is = refl }
    ▸ tt
    ▸ tt
    ▸ record { none = refl; next_is = refl }
    ▸ tt
    ▸ record { references = 1; has = record { held = life 0 1; holds = refl; count = refl; now_is = refl }; none = refl }
    ▸ record { unit = 3; life = 1; under = refl; has = record { held = life 0 1; holds = refl; count = refl; now_is = refl } }
    ▸ record { life = 1; under = refl }
    ▸ tt
    ▸ record { references = 1; has = record { held = life 0 1; holds = refl; count = refl; now_is = refl }; none = refl }
    ▸ record { unit = 2; life = 1; under = refl; has = record { held = life 0 1; holds = refl; count = refl; now_is = refl } }
    ▸ record { life = 1; under = refl }
    ▸ tt

pub returns-clause-slots : goal.returns-clause-slots
returns-clause-slots c =
    tt
    ▸ record { asked = job_of (1 ∷ []); is = refl }
    ▸ record { was_is = refl; by_is = refl; alive = record { held = life 0 1; holds = refl; now_is = refl } }
    ▸ tt
    ▸ record { asked = job_of (2 ∷ []); is = refl }
    ▸ record { was_is = refl; by_is = refl; alive = record { held = life 0 1; holds = refl; now_is = refl } }
    ▸ tt
    ▸ record { was_is = refl; by_is = refl; alive = tt }
    ▸ tt
    ▸ tt
    ▸ tt
    ▸ record { was_is = refl; by_is = refl; alive = tt }
    ▸ tt
    ▸ tt
    ▸ tt
    ▸ record { asked = job_of (3 ∷ []); is = refl }
    ▸ tt
    ▸ tt
    ▸ tt
    ▸ record { was_is = refl; by_is = refl; alive = tt }
    ▸ record { was_is = refl; by_is = refl; alive = tt }
    ▸ tt

pub returns-clause-slots_lives : goal.returns-clause-slots_lives
returns-clause-slots_lives c =
    tt
    ▸ record { none = refl; next_is = refl }
    ▸ tt
    ▸ tt
    ▸ record { none = refl; next_is = refl }
    ▸ tt
    ▸ tt
    ▸ tt
    ▸ record { references = 1; has = record { held = life 0 1; holds = refl; count = refl; now_is = refl }; none = refl }
    ▸ record { unit = 3; life = 1; under = refl; has = record { held = life 0 1; holds = refl; count = refl; now_is = refl } }
    ▸ record { life = 1; under = refl }
    ▸ tt
    ▸ record { references = 1; has = record { held = life 0 1; holds = refl; count = refl; now_is = refl }; none = refl }
    ▸ record { unit = 2; life = 1; under = refl; has = record { held = life 0 1; holds = refl; count = refl; now_is = refl } }
    ▸ record { life = 1; under = refl }
    ▸ record { none = refl; next_is = refl }
    ▸ record { references = 1; has = record { held = life 0 1; holds = refl; count = refl; now_is = refl }; none = refl }
    ▸ record { unit = 1; life = 1; under = refl; has = record { held = life 0 1; holds = refl; count = refl; now_is = refl } }
    ▸ record { life = 1; under = refl }
    ▸ tt
    ▸ tt
    ▸ tt
