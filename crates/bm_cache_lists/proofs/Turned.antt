-- A list that is moved onto another one by one, and one that is read.
use Rattle.std.proofs.Common.{◌≡◌, ◌≢◌, ◌<◌, ℕ, suc, ◌+◌, ◌-◌, ◌++◌, List, [], ◌∷◌, length, drop, reverse, set, get_or, get_or-set_other, get_or-set_same, set-set, append_assoc, refl, sym, ◌∙◌, ap, arith, subst}
use Rattle.std.proofs.lemmas.List.{reverse-append, length-set, set_comm, set-get_or}
use Rattle.bm_cache_lists.specs.Chain.{Chain, follow}

-- as far as a list has been moved onto another
pub record Turned (from to : ℕ) (before now : List (List ℕ)) : Type 0 where
  pub eight : length now ≡ 8
  pub moved : reverse (get_or now from []) ++ get_or now to [] ≡ reverse (get_or before from []) ++ get_or before to []
  pub others : set (set now to []) from [] ≡ set (set before to []) from []

turn-one : (x : ℕ) (xs ys : List ℕ) → reverse (x ∷ xs) ++ ys ≡ reverse xs ++ (x ∷ ys)
turn-one x xs ys =
    let a : reverse (x ∷ xs) ≡ reverse xs ++ x ∷ [] = reverse-append (x ∷ []) xs in
    ap (λ (zs : List ℕ). zs ++ ys) a ∙ append_assoc (reverse xs) (x ∷ []) ys

pub turned-step : (from to n : ℕ) (before now : List (List ℕ)) → from < 8 → to < 8 → from ≢ to → Turned from to before now → get_or now from [] ≡ n ∷ drop 1 (get_or now from []) → Turned from to before (set (set now from (drop 1 (get_or now from []))) to (n ∷ get_or (set now from (drop 1 (get_or now from []))) to []))
turned-step from to n before now h k d t e =
    let D = drop 1 (get_or now from []) in
    let mid : List (List ℕ) = set now from D in
    let b : from ≢ to = d in
    let b' : to ≢ from = λ q. d (sym q) in
    let lf : from < length now = omega (arith, h, t.eight) in
    let lt : to < length mid = omega (arith, k, t.eight, length-set now from D) in
    let T : List ℕ = get_or mid to [] in
    let T-is : T ≡ get_or now to [] = get_or-set_other now from to D [] b' in
    let nf : get_or (set mid to (n ∷ T)) from [] ≡ D = get_or-set_other mid to from (n ∷ T) [] b ∙ get_or-set_same now from D [] lf in
    let nt : get_or (set mid to (n ∷ T)) to [] ≡ n ∷ T = get_or-set_same mid to (n ∷ T) [] lt in
    record {
      eight = length-set mid to (n ∷ T) ∙ length-set now from D ∙ t.eight;
      moved = ap (λ (xs : List ℕ). reverse xs ++ get_or (set mid to (n ∷ T)) to []) nf ∙ ap (λ (xs : List ℕ). reverse D ++ xs) (nt ∙ ap (λ (xs : List ℕ). n ∷ xs) T-is)
          ∙ sym (turn-one n D (get_or now to [])) ∙ ap (λ (xs : List ℕ). reverse xs ++ get_or now to []) (sym e) ∙ t.moved;
      others = ap (λ (xss : List (List ℕ)). set xss from []) (set-set mid to (n ∷ T) [])
          ∙ ap (λ (xss : List (List ℕ)). set xss from []) (set_comm now from to D [] b)
          ∙ set-set (set now to []) from D [] ∙ t.others;
    }

collapse : (s : List (List ℕ)) (from to : ℕ) (x : List ℕ) → from ≢ to → set (set (set (set s to []) from []) to x) from [] ≡ set (set s to x) from []
collapse s from to x d =
    ap (λ (xss : List (List ℕ)). set xss from []) (set_comm (set s to []) from to [] x d)
    ∙ set-set (set (set s to []) to x) from [] []
    ∙ ap (λ (xss : List (List ℕ)). set xss from []) (set-set s to [] x)

pub turned-all : (from to : ℕ) (before now : List (List ℕ)) → from ≢ to → Turned from to before now → get_or now from [] ≡ [] → set now from (drop 1 (get_or now from [])) ≡ set (set before to (reverse (get_or before from []) ++ get_or before to [])) from []
turned-all from to before now d t e =
    let x = get_or now to [] in
    let x-is : x ≡ reverse (get_or before from []) ++ get_or before to [] = ap (λ (xs : List ℕ). reverse xs ++ x) (sym e) ∙ t.moved in
    let same : set (set now to x) from [] ≡ set now from [] = ap (λ (xss : List (List ℕ)). set xss from []) (set-get_or now to []) in
    ap (λ (xs : List ℕ). set now from (drop 1 xs)) e ∙ sym same ∙ sym (collapse now from to x d)
    ∙ ap (λ (xss : List (List ℕ)). set (set xss to x) from []) t.others ∙ collapse before from to x d
    ∙ ap (λ (xs : List ℕ). set (set before to xs) from []) x-is

pub turned-none : (from to : ℕ) (now : List (List ℕ)) → length now ≡ 8 → Turned from to now now
turned-none from to now e = record { eight = e; moved = refl; others = refl }

-- as far as a list has been read
pub record Read (next : List ℕ) (len i at : ℕ) (done whole : List ℕ) : Type 0 where
  pub chain : Chain next at (follow next (len - i) at)
  pub rest : done ++ follow next (len - i) at ≡ whole

pub read-under : (next : List ℕ) (len i at : ℕ) (done whole : List ℕ) → i < len → Read next len i at done whole → at < length next
read-under next len i at done whole h r =
    let e : len - i ≡ suc (len - (i + 1)) = omega arith in
    let c : Chain next at (follow next (suc (len - (i + 1))) at) = subst (λ (n : ℕ). Chain next at (follow next n at)) e r.chain in
    c.1

pub read-step : (next : List ℕ) (len i at v : ℕ) (done whole : List ℕ) → i < len → v ≡ get_or next at 0 → Read next len i at done whole → Read next len (i + 1) v (done ++ at ∷ []) whole
read-step next len i at v done whole h q r =
    let e : len - i ≡ suc (len - (i + 1)) = omega arith in
    let c : Chain next at (follow next (suc (len - (i + 1))) at) = subst (λ (n : ℕ). Chain next at (follow next n at)) e r.chain in
    let f = subst (λ (n : ℕ). done ++ follow next n at ≡ whole) e r.rest in
    record {
      chain = subst (λ (x : ℕ). Chain next x (follow next (len - (i + 1)) x)) (sym q) c.2;
      rest = ap (λ (x : ℕ). (done ++ at ∷ []) ++ follow next (len - (i + 1)) x) q ∙ append_assoc done (at ∷ []) (follow next (len - (i + 1)) (get_or next at 0)) ∙ f;
    }
