-- Where a line may not come, no journal has it there.
use Rattle.std.proofs.Common.{◌≡◌, ℕ, suc, Bool, true, false, cond, ◌&&◌, not, ◌==◌, List, [], ◌∷◌, ◌++◌, Option, Some, None, length, take, map, refl, sym, ap, ◌∙◌, arith, length-append}
use Rattle.std.specs.List.{list_all}
use Rattle.std.specs.Prelude.{option_map}
use Rattle.bm_law_text.specs.declared.line.Line.{Line}
use Rattle.bm_law_text.specs.Pieces.{words}
use Rattle.bm_law_text.specs.Fits.{Each}
use Rattle.bm_law_text.proofs.TextBack.{content}
use Rattle.bm_journal_reader.specs.Drafts.{Stage, step}
use Rattle.bm_journal_reader.specs.Faults.{with_feeds, is_done, behind_step, first_bad}

-- from this stage on these lines may come one after the other, and behind them all is read
abbrev pub Follows : List (List ℕ) → Stage → List Line → Type 0
Follows maps stage [] = is_done stage ≡ true
Follows maps stage (l ∷ ls) = (t : Stage) × (step stage (words (content maps l)) ≡ Some t) × Follows maps t ls

abbrev pub no_feed : List ℕ → Bool
no_feed bytes = list_all (λ b. not (b == 10)) bytes

fed : (xs : List (List ℕ)) (c : List ℕ) → with_feeds (c ∷ (xs ++ [] ∷ [])) ≡ (c ++ 10 ∷ []) ∷ with_feeds (xs ++ [] ∷ [])
fed [] c = refl
fed (x ∷ xs) c = refl

heads : {A : Type 0} {x y : A} {xs ys : List A} → x ∷ xs ≡ y ∷ ys → x ≡ y
heads h = cc

tails : {A : Type 0} {x y : A} {xs ys : List A} → x ∷ xs ≡ y ∷ ys → xs ≡ ys
tails h = cc

feed_in : (c : List ℕ) → no_feed (c ++ 10 ∷ []) ≡ false
feed_in [] = refl
feed_in (b ∷ c) = rw (feed_in c) (last (not (b == 10)))
  where
    last : (b : Bool) → (b && false) ≡ false
    last true = refl
    last false = refl

shorter : (a b : List ℕ) → a ++ 10 ∷ [] ≡ b ++ 10 ∷ [] → a ≡ b
shorter [] [] h = refl
shorter [] (y ∷ b) h = absurd (omega (arith, ap length h, length-append b (10 ∷ [])))
shorter (x ∷ a) [] h = absurd (omega (arith, ap length h, length-append a (10 ∷ [])))
shorter (x ∷ a) (y ∷ b) h = (λ i. heads h i ∷ shorter a b (tails h) i)

none_fed : (p : List ℕ) → p ++ 10 ∷ [] ≡ [] → ⊥
none_fed p h = omega (arith, ap length h, length-append p (10 ∷ []))

stepped : (s : Stage) (o : Option Stage) (f : Stage → Option ℕ) (t : Stage) (k : ℕ) → o ≡ Some t → behind_step o f ≡ Some k → (n : ℕ) × (f t ≡ Some n) × (k ≡ suc n)
stepped s None f t k e h = absurd (cc)
stepped s (Some u) f t k e h =
    let same : u ≡ t = cc in
    let case : (o : Option ℕ) → f u ≡ o → option_map (λ n. suc n) o ≡ Some k → (n : ℕ) × (f t ≡ Some n) × (k ≡ suc n) = λ o.
    elim o as (λ o. f u ≡ o → option_map (λ n. suc n) o ≡ Some k → (n : ℕ) × (f t ≡ Some n) × (k ≡ suc n))
    [ None ↦ λ g h. absurd (cc) | Some n ↦ λ g h. (n, ap f (sym same) ∙ g, cc) ]
    in case (f u) refl h

ended : (s : Stage) (p : List ℕ) (k : ℕ) → is_done s ≡ true → p ≡ [] → first_bad s (p ∷ []) ≡ Some k → ⊥
ended s [] k all e bad = let told : first_bad s ([] ∷ []) ≡ None = ap (λ b. cond (b && true) None (Some 0)) all in cc
ended s (b ∷ p) k all e bad = cc

pub refused : (maps : List (List ℕ)) (ps : List (List ℕ)) (ls : List Line) (s : Stage) (k : ℕ) → Each (λ p. no_feed p ≡ true) ps → Follows maps s ls → first_bad s ps ≡ Some k → take (suc k) (with_feeds ps) ≡ take (suc k) (with_feeds (map (content maps) ls ++ [] ∷ [])) → ⊥
refused maps [] ls s k clean follows bad agree = cc
refused maps (p ∷ []) [] s k clean follows bad agree = ended s p k follows (heads agree) bad
refused maps (p ∷ []) (l ∷ ls) s k clean follows bad agree =
    let e : p ≡ content maps l ++ 10 ∷ [] = heads (agree ∙ ap (take (suc k)) (fed (map (content maps) ls) (content maps l))) in
    let no = sym (feed_in (content maps l)) ∙ ap no_feed (sym e) ∙ clean.0 in
    cc
refused maps (p ∷ q ∷ ps) [] s k clean follows bad agree = none_fed p (heads agree)
refused maps (p ∷ q ∷ ps) (l ∷ ls) s k clean follows bad agree =
    let both = agree ∙ ap (take (suc k)) (fed (map (content maps) ls) (content maps l)) in
    let same : p ≡ content maps l = shorter p (content maps l) (heads both) in
    let taken : step s (words p) ≡ Some follows.0 = ap (λ p. step s (words p)) same ∙ follows.1 in
    let more = stepped s (step s (words p)) (λ t. first_bad t (q ∷ ps)) follows.0 k taken bad in
    refused maps (q ∷ ps) ls follows.0 more.0 clean.1 follows.2 more.1 (sym (ap (λ k. take k (with_feeds (q ∷ ps))) more.2) ∙ tails both ∙ ap (λ k. take k (with_feeds (map (content maps) ls ++ [] ∷ []))) more.2)
