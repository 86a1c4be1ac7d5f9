-- Acts of the closing, one after the other.
use Rattle.std.proofs.Common.{◌≡◌, ℕ, List, [], ◌∷◌, ◌++◌, sym, subst}
use Rattle.bm_law_order.specs.Act.{Act}
use Rattle.bm_closing.specs.Closes.{AreClosing, ClosesBy}
use Rattle.bm_closing.specs.Told.{receives_all}

closing-append : (es fs : List Act) → AreClosing es → AreClosing fs → AreClosing (es ++ fs)
closing-append [] fs s t = t
closing-append (e ∷ es) fs s t = (s.0, closing-append es fs s.1 t)

pub closing-received : (c : ℕ) (parcels : List (List ℕ)) → AreClosing (receives_all c parcels)
closing-received c [] = (tt, tt)
closing-received c (p ∷ parcels) = (tt, closing-received c parcels)

pub closes-join : {W : Type 0} (does : List Act → W → W → Type 0) → ((es fs : List Act) (a b c : W) → does es a b → does fs b c → does (es ++ fs) a c) → (a b c : W) → ClosesBy does a b → ClosesBy does b c → ClosesBy does a c
closes-join does join a b c x y = (x.0 ++ y.0, closing-append x.0 y.0 x.1 y.1, join x.0 y.0 a b c x.2 y.2)

-- the sides are named otherwise
pub closes-moved : {W : Type 0} (does : List Act → W → W → Type 0) (a v w x : W) → v ≡ a → x ≡ w → ClosesBy does v w → ClosesBy does a x
closes-moved {W} does a v w x p q h =
    let F : W → W → Type 0 = λ y z. ClosesBy does y z in
    subst (F a) (sym q) (subst (λ y. F y w) p h)
