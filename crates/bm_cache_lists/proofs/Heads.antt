-- Rows whose lists stand at heads.
use Rattle.std.proofs.Common.{◌≡◌, ◌≢◌, ◌<◌, ℕ, ◌+◌, ◌++◌, Bool, List, [], ◌∷◌, length, set, get_or, refl, sym, ◌∙◌, ap, arith, subst, eqb, cond, append-nil, Option, IfSome, Some, None, reverse, get_or-set_other, get_or-set_same}
use Rattle.std.proofs.lemmas.List.{length-set, set_comm, reverse-reverse, nil_from_length}
use Rattle.bm_law.specs.State.{Row}
use Rattle.bm_law.specs.Stands.{times, in_row}
use Rattle.bm_law.proofs.Stands.{times-append}
use Rattle.bm_cache_lists.specs.Chain.{joined}
use Rattle.bm_law.specs.Places.{list_at}
use Rattle.bm_cache_lists.specs.Stacks.{head_of, with_list, row_of}
use Rattle.bm_journal.specs.declared.change.Stack.{Stack}
use Rattle.bm_journal.specs.declared.change.Stack.TheVariants.{Free, Extra, Delayed, ExtraDelayed, First, Ready, Second}

pub index-under : (k : Stack) → head_of k < 7
index-under Free = omega arith
index-under Extra = omega arith
index-under Delayed = omega arith
index-under ExtraDelayed = omega arith
index-under First = omega arith
index-under Ready = omega arith
index-under Second = omega arith

kind_of : ℕ → Stack
kind_of n = cond (eqb n 0) Free (cond (eqb n 1) Extra (cond (eqb n 2) Delayed (cond (eqb n 3) ExtraDelayed (cond (eqb n 4) First (cond (eqb n 5) Ready Second)))))

stack-back : (k : Stack) → kind_of (head_of k) ≡ k
unfolding kind_of
stack-back Free = refl
stack-back Extra = refl
stack-back Delayed = refl
stack-back ExtraDelayed = refl
stack-back First = refl
stack-back Ready = refl
stack-back Second = refl

pub index-two : (k j : Stack) → k ≢ j → head_of k ≢ head_of j
index-two k j d e = d (sym (stack-back k) ∙ ap kind_of e ∙ stack-back j)

-- eight lists, spelled out
pub eight-is : (ls : List (List ℕ)) → length ls ≡ 8 → ls ≡ get_or ls 0 [] ∷ get_or ls 1 [] ∷ get_or ls 2 [] ∷ get_or ls 3 [] ∷ get_or ls 4 [] ∷ get_or ls 5 [] ∷ get_or ls 6 [] ∷ get_or ls 7 [] ∷ []
eight-is (a ∷ b ∷ c ∷ d ∷ e ∷ f ∷ g ∷ h ∷ []) q = refl
eight-is [] q = absurd (omega (arith, q))
eight-is (a ∷ []) q = absurd (omega (arith, q))
eight-is (a ∷ b ∷ []) q = absurd (omega (arith, q))
eight-is (a ∷ b ∷ c ∷ []) q = absurd (omega (arith, q))
eight-is (a ∷ b ∷ c ∷ d ∷ []) q = absurd (omega (arith, q))
eight-is (a ∷ b ∷ c ∷ d ∷ e ∷ []) q = absurd (omega (arith, q))
eight-is (a ∷ b ∷ c ∷ d ∷ e ∷ f ∷ []) q = absurd (omega (arith, q))
eight-is (a ∷ b ∷ c ∷ d ∷ e ∷ f ∷ g ∷ []) q = absurd (omega (arith, q))
eight-is (a ∷ b ∷ c ∷ d ∷ e ∷ f ∷ g ∷ h ∷ i ∷ ls) q = absurd (omega (arith, q))

module _ (active count : ℕ) (raised : Bool) (target : ℕ) (plain tracing : Option ℕ) where
  pub list_at-row_of : (k : Stack) (ls : List (List ℕ)) → list_at k (row_of ls active count raised target plain tracing) ≡ get_or ls (head_of k) []
  list_at-row_of Free ls = refl
  list_at-row_of Extra ls = refl
  list_at-row_of Delayed ls = refl
  list_at-row_of ExtraDelayed ls = refl
  list_at-row_of First ls = refl
  list_at-row_of Ready ls = refl
  list_at-row_of Second ls = refl

  abbrev written : Stack → List ℕ → List (List ℕ) → Type 0
  written k xs ls = row_of (set ls (head_of k) xs) active count raised target plain tracing ≡ with_list k xs (row_of ls active count raised target plain tracing)

  -- one list is written
  pub row_of-set : (k : Stack) (ls : List (List ℕ)) (xs : List ℕ) → length ls ≡ 8 → row_of (set ls (head_of k) xs) active count raised target plain tracing ≡ with_list k xs (row_of ls active count raised target plain tracing)
  row_of-set Free ls xs e = subst (written Free xs) (sym (eight-is ls e)) refl
  row_of-set Extra ls xs e = subst (written Extra xs) (sym (eight-is ls e)) refl
  row_of-set Delayed ls xs e = subst (written Delayed xs) (sym (eight-is ls e)) refl
  row_of-set ExtraDelayed ls xs e = subst (written ExtraDelayed xs) (sym (eight-is ls e)) refl
  row_of-set First ls xs e = subst (written First xs) (sym (eight-is ls e)) refl
  row_of-set Ready ls xs e = subst (written Ready xs) (sym (eight-is ls e)) refl
  row_of-set Second ls xs e = subst (written Second xs) (sym (eight-is ls e)) refl

  -- the spare one is written
  pub spare-set : (ls : List (List ℕ)) (xs : List ℕ) → length ls ≡ 8 → row_of (set ls 7 xs) active count raised target plain tracing ≡ row_of ls active count raised target plain tracing
  spare-set ls xs e = subst (λ (ms : List (List ℕ)). row_of (set ms 7 xs) active count raised target plain tracing ≡ row_of ms active count raised target plain tracing) (sym (eight-is ls e)) refl

  eight-times : (n : ℕ) (a b c d e f g h : List ℕ) → h ≡ [] → times n (joined (a ∷ b ∷ c ∷ d ∷ e ∷ f ∷ g ∷ h ∷ [])) ≡ times n a + (times n b + (times n c + (times n d + (times n e + (times n f + times n g)))))
  eight-times n a b c d e f g h q =
      let hs : times n (h ++ []) ≡ 0 = rw q refl in
      let p1 = times-append n g (h ++ []) in
      let p2 = times-append n f (g ++ (h ++ [])) in
      let p3 = times-append n e (f ++ (g ++ (h ++ []))) in
      let p4 = times-append n d (e ++ (f ++ (g ++ (h ++ [])))) in
      let p5 = times-append n c (d ++ (e ++ (f ++ (g ++ (h ++ []))))) in
      let p6 = times-append n b (c ++ (d ++ (e ++ (f ++ (g ++ (h ++ [])))))) in
      let p7 = times-append n a (b ++ (c ++ (d ++ (e ++ (f ++ (g ++ (h ++ []))))))) in
      omega (arith, hs, p1, p2, p3, p4, p5, p6, p7)

  -- how often a number stands at the heads, and in the row
  pub times-row : (n : ℕ) (ls : List (List ℕ)) → length ls ≡ 8 → get_or ls 7 [] ≡ [] → times n (joined ls) ≡ in_row n (row_of ls active count raised target plain tracing)
  times-row n ls e s =
      subst (λ (ms : List (List ℕ)). times n (joined ms) ≡ in_row n (row_of ls active count raised target plain tracing)) (sym (eight-is ls e))
      (eight-times n (get_or ls 0 []) (get_or ls 1 []) (get_or ls 2 []) (get_or ls 3 []) (get_or ls 4 []) (get_or ls 5 []) (get_or ls 6 []) (get_or ls 7 []) s)

  seven-other : (k : Stack) → 7 ≢ head_of k
  seven-other k q = omega (arith, index-under k, q)

  -- the top of a list left
  pub pop-gone : (r : Option ℕ) (k : Stack) (i : ℕ) (xs : List ℕ) (ls ms : List (List ℕ)) → i ≡ head_of k → ms ≡ set ls i xs → length ls ≡ 8 → get_or ls 7 [] ≡ [] → IfSome r (λ n. times n (joined ms) ≡ 0) → IfSome r (λ n. in_row n (row_of ms active count raised target plain tracing) ≡ 0)
  pop-gone None k i xs ls ms j q e s h = tt
  pop-gone (Some n) k i xs ls ms j q e s h =
      let a : length ms ≡ 8 = ap length q ∙ length-set ls i xs ∙ e in
      let d : 7 ≢ i = λ (p : 7 ≡ i). seven-other k (p ∙ j) in
      let b : get_or ms 7 [] ≡ [] = ap (λ (xss : List (List ℕ)). get_or xss 7 []) q ∙ get_or-set_other ls i 7 xs [] d ∙ s in
      sym (times-row n ms a b) ∙ h

  -- a list goes on one that is empty
  pub above-empty : (from to : Stack) (ls : List (List ℕ)) → length ls ≡ 8 → get_or ls (head_of to) [] ≡ [] → row_of (set (set ls (head_of to) (get_or ls (head_of from) [])) (head_of from) []) active count raised target plain tracing ≡ with_list from [] (with_list to (get_or ls (head_of from) [] ++ get_or ls (head_of to) []) (row_of ls active count raised target plain tracing))
  above-empty from to ls e z =
      let F = get_or ls (head_of from) [] in
      let a : length (set ls (head_of to) F) ≡ 8 = length-set ls (head_of to) F ∙ e in
      let x : F ≡ F ++ get_or ls (head_of to) [] = sym (append-nil F) ∙ ap (λ (xs : List ℕ). F ++ xs) (sym z) in
      row_of-set from (set ls (head_of to) F) [] a
      ∙ ap (λ (r : Row ℕ). with_list from [] r) (row_of-set to ls F e)
      ∙ ap (λ (xs : List ℕ). with_list from [] (with_list to xs (row_of ls active count raised target plain tracing))) x

  -- a list is turned over onto the spare one, and from there onto another
  pub above-turned : (from to : Stack) (ls : List (List ℕ)) → from ≢ to → length ls ≡ 8 → get_or ls 7 [] ≡ [] → (let m : List (List ℕ) = set (set ls 7 (reverse (get_or ls (head_of from) []) ++ get_or ls 7 [])) (head_of from) [] in row_of (set (set m (head_of to) (reverse (get_or m 7 []) ++ get_or m (head_of to) [])) 7 []) active count raised target plain tracing ≡ with_list from [] (with_list to (get_or ls (head_of from) [] ++ get_or ls (head_of to) []) (row_of ls active count raised target plain tracing)))
  above-turned from to ls d e z =
      let i = head_of from in
      let j = head_of to in
      let two : i ≢ j = index-two from to d in
      let owt : j ≢ i = λ (q : j ≡ i). two (sym q) in
      let F = get_or ls i [] in
      let T = get_or ls j [] in
      let Y : List ℕ = reverse F ++ get_or ls 7 [] in
      let n : List (List ℕ) = set ls 7 Y in
      let m : List (List ℕ) = set n i [] in
      let ln : length n ≡ 8 = length-set ls 7 Y ∙ e in
      let lm : length m ≡ 8 = length-set n i [] ∙ ln in
      let y : Y ≡ reverse F = ap (λ (xs : List ℕ). reverse F ++ xs) z ∙ append-nil (reverse F) in
      let b : 7 < length ls = omega (arith, e) in
      let s7 : get_or m 7 [] ≡ reverse F = get_or-set_other n i 7 [] [] (seven-other from) ∙ get_or-set_same ls 7 Y [] b ∙ y in
      let sj : get_or m j [] ≡ T = get_or-set_other n i j [] [] owt ∙ get_or-set_other ls 7 j Y [] (λ (q : j ≡ 7). seven-other to (sym q)) in
      let X : List ℕ = reverse (get_or m 7 []) ++ get_or m j [] in
      let x : X ≡ F ++ T = ap (λ (xs : List ℕ). reverse xs ++ get_or m j []) s7 ∙ ap (λ (xs : List ℕ). reverse (reverse F) ++ xs) sj ∙ ap (λ (xs : List ℕ). xs ++ T) (reverse-reverse F) in
      let lx : length (set m j X) ≡ 8 = length-set m j X ∙ lm in
      let ly : length (set n j X) ≡ 8 = length-set n j X ∙ ln in
      spare-set (set m j X) [] lx
      ∙ ap (λ (xss : List (List ℕ)). row_of xss active count raised target plain tracing) (set_comm n i j [] X two)
      ∙ row_of-set from (set n j X) [] ly
      ∙ ap (λ (r : Row ℕ). with_list from [] r) (row_of-set to n X ln ∙ ap (λ (r : Row ℕ). with_list to X r) (spare-set ls Y e))
      ∙ ap (λ (xs : List ℕ). with_list from [] (with_list to xs (row_of ls active count raised target plain tracing))) x

  -- what both come to in the row
  put-is : (from to : Stack) (ls : List (List ℕ)) (r r' : Row ℕ) → row_of ls active count raised target plain tracing ≡ r → r' ≡ with_list from [] (with_list to (get_or ls (head_of from) [] ++ get_or ls (head_of to) []) (row_of ls active count raised target plain tracing)) → r' ≡ with_list from [] (with_list to (list_at from r ++ list_at to r) r)
  put-is from to ls r r' w q =
      let s : Row ℕ = row_of ls active count raised target plain tracing in
      let a : get_or ls (head_of from) [] ++ get_or ls (head_of to) [] ≡ list_at from s ++ list_at to s =
      ap (λ (xs : List ℕ). xs ++ get_or ls (head_of to) []) (sym (list_at-row_of from ls)) ∙ ap (λ (xs : List ℕ). list_at from s ++ xs) (sym (list_at-row_of to ls)) in
      subst (λ (t : Row ℕ). r' ≡ with_list from [] (with_list to (list_at from t ++ list_at to t) t)) w (q ∙ ap (λ (xs : List ℕ). with_list from [] (with_list to xs s)) a)

  pub put-empty : (from to : Stack) (i j : ℕ) (ls ms : List (List ℕ)) (r : Row ℕ) → i ≡ head_of from → j ≡ head_of to → length ls ≡ 8 → row_of ls active count raised target plain tracing ≡ r → length (get_or ls j []) ≡ 0 → ms ≡ set (set ls j (get_or ls i [])) i [] → row_of ms active count raised target plain tracing ≡ with_list from [] (with_list to (list_at from r ++ list_at to r) r)
  put-empty from to i j ls ms r p q e w z m =
      let m' : ms ≡ set (set ls (head_of to) (get_or ls (head_of from) [])) (head_of from) [] = m ∙ ap (λ n. set (set ls j (get_or ls n [])) n []) p ∙ ap (λ n. set (set ls n (get_or ls (head_of from) [])) (head_of from) []) q in
      let z' : get_or ls (head_of to) [] ≡ [] = nil_from_length (get_or ls (head_of to) []) (ap (λ n. length (get_or ls n [])) (sym q) ∙ z) in
      put-is from to ls r _ w (ap (λ (xss : List (List ℕ)). row_of xss active count raised target plain tracing) m' ∙ above-empty from to ls e z')

  pub put-turned : (from to : Stack) (i j : ℕ) (ls ks ms : List (List ℕ)) (r : Row ℕ) → i ≡ head_of from → j ≡ head_of to → from ≢ to → length ls ≡ 8 → get_or ls 7 [] ≡ [] → row_of ls active count raised target plain tracing ≡ r → ks ≡ set (set ls 7 (reverse (get_or ls i []) ++ get_or ls 7 [])) i [] → ms ≡ set (set ks j (reverse (get_or ks 7 []) ++ get_or ks j [])) 7 [] → row_of ms active count raised target plain tracing ≡ with_list from [] (with_list to (list_at from r ++ list_at to r) r)
  put-turned from to i j ls ks ms r p q d e s w a b =
      let k : List (List ℕ) = set (set ls 7 (reverse (get_or ls (head_of from) []) ++ get_or ls 7 [])) (head_of from) [] in
      let a' : ks ≡ k = a ∙ ap (λ n. set (set ls 7 (reverse (get_or ls n []) ++ get_or ls 7 [])) n []) p in
      let b' : ms ≡ set (set k (head_of to) (reverse (get_or k 7 []) ++ get_or k (head_of to) [])) 7 [] =
      b ∙ ap (λ (xss : List (List ℕ)). set (set xss j (reverse (get_or xss 7 []) ++ get_or xss j [])) 7 []) a' ∙ ap (λ n. set (set k n (reverse (get_or k 7 []) ++ get_or k n [])) 7 []) q in
      put-is from to ls r _ w (ap (λ (xss : List (List ℕ)). row_of xss active count raised target plain tracing) b' ∙ above-turned from to ls d e s)
