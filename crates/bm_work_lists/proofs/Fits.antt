-- Units in hand that stay fit for Free.
use Rattle.std.proofs.Common.{◌≡◌, ℕ, ◌++◌, List, [], ◌∷◌, ◌∙◌, subst}
use Rattle.std.specs.List.{All}
use Rattle.std.proofs.lemmas.List.Elements.{All-head, All-tail, All-cons, All-nil}
use Rattle.bm_cache.specs.Tokens.{Token}
use Rattle.bm_cache.specs.Tests.{Tests, Same}
use Rattle.bm_cache.specs.Shown.{shown}
use Rattle.bm_cache.specs.declared.caches.Caches.{Caches}
use Rattle.bm_work_lists.specs.Fit.{Fit}
use Rattle.bm_work_lists.proofs.Steps.{same-join}

-- the two parts of a list
pub all-front : (P : Token → Type 0) (us vs : List Token) → All P (us ++ vs) → All P us
all-front P [] vs h = All-nil P
all-front P (u ∷ us) vs h = All-cons P u us (All-head P u (us ++ vs) h) (all-front P us vs (All-tail P u (us ++ vs) h))

pub all-back : (P : Token → Type 0) (us vs : List Token) → All P (us ++ vs) → All P vs
all-back P [] vs h = h
all-back P (u ∷ us) vs h = all-back P us vs (All-tail P u (us ++ vs) h)

pub same-front : (a b : Tests) (us vs : List Token) → All (Same a b) (us ++ vs) → All (Same a b) us
same-front a b us vs h = all-front (Same a b) us vs h

-- a unit stays fit
pub fit-same : (c : ℕ) (a b : Tests) (u : Token) → Same a b u → Fit a c u → Fit b c u
fit-same c a b u h f = record { class = f.class; reusable = h 0 ∙ f.reusable }

-- the last one in hand
pub fit-last : (c : ℕ) (a b : Tests) (u : Token) (us : List Token) → All (Same a b) (us ++ u ∷ []) → Fit a c u → Fit b c u
fit-last c a b u us h f = fit-same c a b u (All-head (Same a b) u [] (all-back (Same a b) us (u ∷ []) h)) f

-- all of a list
pub fit-all : (c : ℕ) (a b : Tests) (us : List Token) → All (Same a b) us → All (Fit a c) us → All (Fit b c) us
fit-all c a b [] h f = All-nil (Fit b c)
fit-all c a b (u ∷ us) h f = All-cons (Fit b c) u us (fit-same c a b u (All-head (Same a b) u us h) (All-head (Fit a c) u us f)) (fit-all c a b us (All-tail (Same a b) u us h) (All-tail (Fit a c) u us f))

-- the tests of what was in hand first, over one more stretch, while more came in behind
pub lasts-on : {H R : Type 0} (T : H → Tests) (D : H → Caches R) (a b d : H) (l k : ℕ) (us : List Token) → k ≡ l → ((shown (D b)).sides l).hand ≡ ((shown (D a)).sides l).hand ++ us → All (Same (T a) (T b)) ((shown (D a)).sides l).hand → All (Same (T b) (T d)) ((shown (D b)).sides k).hand → All (Same (T a) (T d)) ((shown (D a)).sides l).hand
lasts-on T D a b d l k us e q x y =
    let L : ℕ → Type 0 = λ n. All (Same (T b) (T d)) ((shown (D b)).sides n).hand in
    let M : List Token → Type 0 = λ ws. All (Same (T b) (T d)) ws in
    same-join (T a) (T b) (T d) ((shown (D a)).sides l).hand x (all-front (Same (T b) (T d)) ((shown (D a)).sides l).hand us (subst M q (subst L e y)))
