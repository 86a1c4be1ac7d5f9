-- What a processor's acts do to the units of others. (This project's own.)
use Rattle.std.specs.Prelude.{◌≡◌, ◌≢◌, ℕ, List, [], ◌∷◌, ◌++◌}
use Rattle.bm_law.specs.Stands.{times}
use Rattle.bm_law_order.specs.Act.{Act, units_of}
use Rattle.bm_law_order.specs.Act as act

-- An act spares unit n: it neither begins nor ends a life of it, and neither sends it nor returns it. So it doesn't change what the unit waits
-- for.
abbrev pub Spares : ℕ → Act → Type 0
Spares n (act.Makes u life type values seal) = n ≢ u
Spares n (act.Ends u life home delayed) = n ≢ u
Spares n (act.Sends c to us) = times n (units_of us) ≡ 0
Spares n (act.Returns us) = times n (units_of us) ≡ 0
Spares n (act.Drains c to us) = times n us ≡ 0
Spares n (act.Releases c to us stamp seen) = times n us ≡ 0
Spares n (act.GivesBack us) = times n us ≡ 0
Spares n _ = Unit {0}

-- .. and so does each of these
abbrev pub AllSpare : ℕ → List Act → Type 0
AllSpare n [] = Unit {0}
AllSpare n (a ∷ more) = Spares n a × AllSpare n more

pub spare-append :
    (n : ℕ) (es fs : List Act) → AllSpare n es → AllSpare n fs → AllSpare n (es ++ fs)
spare-append n [] fs s t = t
spare-append n (e ∷ es) fs s t = (s.0, spare-append n es fs s.1 t)

pub spare-front : (n : ℕ) (es fs : List Act) → AllSpare n (es ++ fs) → AllSpare n es
spare-front n [] fs s = tt
spare-front n (e ∷ es) fs s = (s.0, spare-front n es fs s.1)

pub spare-rest : (n : ℕ) (es fs : List Act) → AllSpare n (es ++ fs) → AllSpare n fs
spare-rest n [] fs s = s
spare-rest n (e ∷ es) fs s = spare-rest n es fs s.1
