-- An object that lives, as its side tells it.
use Rattle.std.proofs.Common.{◌≡◌, ℕ, List, Some, ap, refl, sym, ◌∙◌}
use Rattle.bm_page.specs.UnitState.{UnitState}
use Rattle.bm_grace.specs.Living.{HasLife, life_of_unit}
use Rattle.bm_exec.specs.Living.{Living, Lives, LivesAs}

some-is : {A : Type 0} (x y : A) → Some x ≡ Some y → x ≡ y
some-is x y e = cc

-- a unit that lives has its object's life and class
pub living-now : (lives : Lives) (n life c type count : ℕ) (values : List ℕ) (u : UnitState) → lives n ≡ Some (life_of_unit type count values u) → LivesAs lives c n life → (u.life ≡ life) × (u.class ≡ c)
living-now lives n life c type count values u e alive =
    let same : life_of_unit type count values u ≡ record { class = c; life = life; home = alive.home; type = alive.type; count = alive.count; values = alive.values } = some-is _ _ (sym e ∙ alive.is) in
    (ap (λ (l : Living). l.life) same, ap (λ (l : Living). l.class) same)

-- .. and so it is known to live
pub has-life : (lives : Lives) (c u n : ℕ) → LivesAs lives c u n → (l : Living) × HasLife lives u n l
has-life lives c u n a = (record { class = c; life = n; home = a.home; type = a.type; count = a.count; values = a.values }, record { is = a.is; life = refl })
