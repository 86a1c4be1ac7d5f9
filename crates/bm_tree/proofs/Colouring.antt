-- The colours where a place comes into the tree, goes out of it, or takes the place of another.
use Rattle.std.proofs.Common.{◌≡◌, ◌≢◌, ℕ, ◌+◌, ◌<◌, ◌≤◌, not, Bool, true, false, List, [], ◌∷◌, ◌++◌, length, set, refl, sym, ap, ◌∙◌, subst, inl, inr, arith, get_or-set_same, get_or-set_other, length-set, length-append}
use Rattle.std.proofs.lemmas.Bool.{cases_eq, eq-eqb, ne_eqb}
use Rattle.std.proofs.lemmas.List.{get_or_append_left}
use Rattle.std.specs.Prelude.{◌==◌}
use Rattle.bm_tree.specs.declared.links.Link.{Link}
use Rattle.bm_tree.specs.Links.{none, nil, link, kid_of, set_up, set_kid, only_kid_of, HasFreeSide}
use Rattle.bm_tree.specs.Shape.{leaf, places, count, Holds}
use Rattle.bm_tree.specs.Paths.{Hole}
use Rattle.bm_tree.specs.Colours.{dark, IsLevel, IsCalm, Coloured, RedAt, ShortAt}
use Rattle.bm_tree.proofs.Trees.{same-eq, same-ne, count-append, Path, top, on_left, on_right, plug, passes, Around, Fits, times-plug, places-plug, count-places}
use Rattle.bm_tree.proofs.Frames.{up_in}
use Rattle.bm_tree.proofs.Rotation.{Turned, turned, Turned-turned}
use Rattle.bm_tree.proofs.Splicing.{Hung, spliced, Hung-spliced, Swapped, swapped, Swapped-swapped, attached}
use Rattle.bm_tree.proofs.Near.{Near}
use Rattle.bm_tree.proofs.Heights.{upd, upd-eq, upd-ne, dark_by, dark-most, dark-none, cases_side, side_is, in_some, set_kid_only, set_kid_kept}

-- a place of the order with one more is that one, or was there
pub in_put : (xs ys : List ℕ) (p q : ℕ) → 1 ≤ count q (xs ++ p ∷ ys) → q ≢ p → 1 ≤ count q (xs ++ ys)
in_put xs ys p q i d = omega (arith, i, count-append q xs (p ∷ ys), count-append q xs ys, same-ne q p d)

pub in_more : (xs ys : List ℕ) (p q : ℕ) → 1 ≤ count q (xs ++ ys) → 1 ≤ count q (xs ++ p ∷ ys)
in_more xs ys p q i = omega (arith, i, count-append q xs (p ∷ ys), count-append q xs ys)

pub in_here : (xs ys : List ℕ) (p : ℕ) → 1 ≤ count p (xs ++ p ∷ ys)
in_here xs ys p = omega (arith, count-append p xs (p ∷ ys), same-eq p p refl)

lifted_kid : (z : Link) (up : ℕ) (right : Bool) → kid_of (set_up z up) right ≡ kid_of z right
lifted_kid z up true = refl
lifted_kid z up false = refl

pub turned_here : (ls : List Link) (order : List ℕ) (x : ℕ) (d : Bool) → Near ls order → 1 ≤ count x order → kid_of (link ls x) (not d) ≢ none → let y = kid_of (link ls x) (not d) in let b = kid_of (link ls y) d in let u = (link ls x).parent in Turned ls (turned ls x y b u d) x y b u d
turned_here ls order x d n ix some_y =
    let y = kid_of (link ls x) (not d) in
    let b = kid_of (link ls y) d in
    let u = (link ls x).parent in
    let down = n.down x (not d) ix some_y in
    let some_x = in_some ls order x n ix in
    let b_x : b ≢ x = λ e. n.far x (not d) ix some_y (sym ((n.down y d down.1 (λ z. some_x (sym e ∙ z))).0) ∙ ap (λ z. (link ls z).parent) e) in
    let u_x : u ≢ x = λ e. let up = n.up x ix (λ z. some_x (sym e ∙ z)) in n.apart x up.1.0 ix (ap (λ z. kid_of (link ls z) up.1.0) (sym e) ∙ up.1.1) in
    Turned-turned ls x y b u d (n.within x ix) (n.within y down.1)
    (λ s. n.within b (n.down y d down.1 s).1) (λ s. n.within u (n.up x ix s).0)
    (λ e. n.apart x (not d) ix (sym e)) b_x (n.apart y d down.1) u_x (λ e. n.far x (not d) ix some_y (sym e))
    (λ s e. n.farther x (not d) d ix some_y (λ z. s (e ∙ z)) (sym e))
    (λ s e. n.farther x (not d) d ix some_y s (sym e))

-- what hangs a red leaf below `u` leaves
pub attached_red : (ls : List Link) (root u p : ℕ) (right : Bool) (xs ys : List ℕ) → Holds ls root (xs ++ ys) → Near ls (xs ++ ys) → Hole ls root u right xs ys → count p (xs ++ ys) ≡ 0 → p < length ls → Coloured ls (xs ++ ys) → RedAt (attached ls p u right) (xs ++ p ∷ ys) p
attached_red ls root u p right xs ys hold n hole fresh lp s =
    let old : List ℕ = xs ++ ys in
    let c = hole.path in
    let ar = hole.around in
    let h = s.height in
    let some_p : p ≢ none = λ e. omega (arith, e, lp, n.room) in
    let not_in : (q : ℕ) → 1 ≤ count q old → q ≢ p = λ q i e. omega (arith, i, fresh, ap (λ z. count z old) e) in
    let order : places (plug c leaf) ≡ xs ++ ys = places-plug c leaf ∙ rw (hole.is_before, hole.is_after) refl in
    let counts : (q : ℕ) → passes q c ≡ count q (xs ++ ys) = λ q. omega (arith, times-plug q c leaf, count-places q (plug c leaf), ap (count q) order) in
    let up_in_old : u ≢ none → 1 ≤ count u old = λ su. omega (arith, up_in ls root u none c ar su, counts u) in
    let free : u ≢ none → kid_of (link ls u) right ≡ none = λ su. free_side ls root u right c ar hole.fits su in
    let p_u : p ≢ u = λ e. not_in u (up_in_old (λ z. some_p (e ∙ z))) (sym e) in
    let vp : Link = record { left = none; right = none; parent = u; red = true } in
    let l1 : List Link = set ls p vp in
    let vu : Link = set_kid (link l1 u) right p in
    let ms = attached ls p u right in
    let at_p : link ms p ≡ vp = get_or-set_other l1 u p vu nil p_u ∙ get_or-set_same ls p vp nil lp in
    let at_u : u ≢ none → link ms u ≡ set_kid (link ls u) right p = λ su.
    get_or-set_same l1 u vu nil (omega (arith, n.within u (up_in_old su), length-set ls p vp)) ∙ ap (λ (z : Link). set_kid z right p) (get_or-set_other ls p u vp nil (λ e. p_u (sym e))) in
    let others : (q : ℕ) → q ≢ p → q ≢ u → link ms q ≡ link ls q = λ q a e. get_or-set_other l1 u q vu nil e ∙ get_or-set_other ls p q vp nil a in
    let g = upd h p 0 in
    let g_p : g p ≡ 0 = upd-eq h p 0 p refl in
    let g_other : (q : ℕ) → q ≢ p → g q ≡ h q = λ q d. upd-ne h p 0 q d in
    let g_none : g none ≡ 0 = g_other none (λ z. some_p (sym z)) ∙ s.ends in
    let dark_old : (q : ℕ) → 1 ≤ count q old → dark ms q ≡ dark ls q = λ q i. elim (cases_eq q u) [
      | inl e ↦ ap (dark ms) e ∙ dark_by _ _ (at_u (λ z. in_some ls old q n i (e ∙ z))) ∙ ap (dark ls) (sym e)
      | inr d ↦ dark_by _ _ (others q (not_in q i) d)
    ] in
    let up_old : (q : ℕ) → 1 ≤ count q old → (link ms q).parent ≡ (link ls q).parent = λ q i. elim (cases_eq q u) [
      | inl e ↦ ap (λ z. (link ms z).parent) e ∙ ap (λ (z : Link). z.parent) (at_u (λ z. in_some ls old q n i (e ∙ z))) ∙ ap (λ z. (link ls z).parent) (sym e)
      | inr d ↦ ap (λ (z : Link). z.parent) (others q (not_in q i) d)
    ] in
    let kid_old : (q : ℕ) (r : Bool) → 1 ≤ count q old → kid_of (link ls q) r ≢ p = λ q r i e. not_in (kid_of (link ls q) r) (n.down q r i (λ z. some_p (sym e ∙ z))).1 e in
    let room2 : length ms ≤ none = omega (arith, n.room, length-set l1 u vu, length-set ls p vp) in
    record {
      height = g;
      ends = g_none;
      level = λ q i. elim (cases_eq q p) [
        | inl e ↦
            let at_here : (r : Bool) → g p ≡ dark ms p + g (kid_of (link ms p) r) = λ r.
            let k : kid_of (link ms p) r ≡ none = ap (λ (z : Link). kid_of z r) at_p ∙ leaf_kid u r in
            omega (arith, g_p, dark_by _ _ at_p, ap g k, g_none) in
            subst (IsLevel ms g) (sym e) at_here
        | inr d ↦
            let iq = in_put xs ys p q i d in
            elim (cases_eq q u) [
              | inl e ↦
                  let su : u ≢ none = λ z. in_some ls old q n iq (e ∙ z) in
                  let at_up : (r : Bool) → g u ≡ dark ms u + g (kid_of (link ms u) r) = λ r. elim (cases_side right r) [
                    | inl c ↦
                        let k : kid_of (link ms u) r ≡ p = ap (kid_of (link ms u)) c ∙ ap (λ (z : Link). kid_of z right) (at_u su) ∙ set_kid_only (link ls u) right p in
                        omega (arith, g_other u (λ z. p_u (sym z)), dark_old u (up_in_old su), ap g k, g_p, s.level u (up_in_old su) right, ap h (free su), s.ends)
                    | inr c ↦
                        let k : kid_of (link ms u) r ≡ kid_of (link ls u) (not right) = ap (kid_of (link ms u)) c ∙ ap (λ (z : Link). kid_of z (not right)) (at_u su) ∙ set_kid_kept (link ls u) right p in
                        omega (arith, g_other u (λ z. p_u (sym z)), dark_old u (up_in_old su), ap g k, g_other (kid_of (link ls u) (not right)) (kid_old u (not right) (up_in_old su)), s.level u (up_in_old su) (not right))
                  ] in
                  subst (IsLevel ms g) (sym e) at_up
              | inr du ↦ λ r.
                  let k : kid_of (link ms q) r ≡ kid_of (link ls q) r = ap (λ (z : Link). kid_of z r) (others q d du) in
                  omega (arith, g_other q d, dark_old q iq, ap g k, g_other (kid_of (link ls q) r) (kid_old q r iq), s.level q iq r)
            ]
      ];
      red = dark_by _ _ at_p;
      calm = λ q i d.
          let iq = in_put xs ys p q i d in
          let p_dark : dark ms (link ls q).parent ≡ dark ls (link ls q).parent = elim (cases_eq (link ls q).parent none) [
            | inl e ↦ ap (dark ms) e ∙ dark-none ms room2 ∙ sym (dark-none ls n.room) ∙ ap (dark ls) (sym e)
            | inr e ↦ dark_old (link ls q).parent (n.up q iq e).0
          ] in
          let was = s.calm q iq in
          (omega (arith, was.0, ap (dark ms) (up_old q iq), p_dark, dark_old q iq), λ z. dark_old q iq ∙ was.1 (sym (up_old q iq) ∙ z));
    }
  where
    leaf_kid : (up : ℕ) (r : Bool) → let z : Link = record { left = none; right = none; parent = up; red = true } in kid_of z r ≡ none
    leaf_kid up true = refl
    leaf_kid up false = refl

    free_side : (ls : List Link) (root up : ℕ) (right : Bool) (c : Path) → Around ls root up none c → Fits right c → up ≢ none → kid_of (link ls up) right ≡ none
    free_side ls root up right top a f su = absurd (su a.0)
    free_side ls root up right (on_left q r c) a f su = rw f (ap (λ z. (link ls z).left) a.0 ∙ a.2)
    free_side ls root up right (on_right l q c) a f su = rw f (ap (λ z. (link ls z).right) a.0 ∙ a.2)

only_side : (z : Link) (r : ℕ) → HasFreeSide z → only_kid_of z ≡ r → (side : Bool) × (kid_of z side ≡ r) × (kid_of z (not side) ≡ none)
only_side z r lone e = elim (cases_eq z.left none) [
  | inl a ↦ (true, sym (rw (eq-eqb z.left none a) refl) ∙ e, a)
  | inr b ↦ (false, sym (rw (ne_eqb z.left none b) refl) ∙ e, elim lone [ inl a ↦ absurd (b a) | inr c ↦ c ])
]

-- where a place with at most one kid goes out: a red one lacks nothing
pub spliced_red : (ls ms : List Link) (x r u : ℕ) (xs ys : List ℕ) → Near ls (xs ++ x ∷ ys) → ((q : ℕ) → count q (xs ++ x ∷ ys) ≤ 1) → Coloured ls (xs ++ x ∷ ys) → HasFreeSide (link ls x) → only_kid_of (link ls x) ≡ r → (link ls x).parent ≡ u → Hung ls ms x r u → dark ls x ≡ 0 → Coloured ms (xs ++ ys)
spliced_red ls ms x r u xs ys n once s lone er eu t red_x =
    let old : List ℕ = xs ++ x ∷ ys in
    let new : List ℕ = xs ++ ys in
    let h = s.height in
    let ix = in_here xs ys x in
    let only = only_side (link ls x) r lone er in
    let some_x = in_some ls old x n ix in
    let h_x : h x ≡ 0 = omega (arith, s.level x ix (not only.0), red_x, ap h only.2, s.ends) in
    let h_r : h r ≡ 0 = omega (arith, s.level x ix only.0, red_x, ap h only.1, h_x) in
    let no_r : r ≡ none = elim (cases_eq r none) [
      | inl e ↦ e
      | inr sr ↦
          let down = n.down x only.0 ix (λ z. sr (sym only.1 ∙ z)) in
          let ir : 1 ≤ count r old = omega (arith, down.1, ap (λ z. count z old) only.1) in
          let r_up : (link ls r).parent ≡ x = ap (λ z. (link ls z).parent) (sym only.1) ∙ down.0 in
          absurd (omega (arith, s.level r ir true, h_r, (s.calm r ir).0, ap (dark ls) r_up, red_x))
    ] in
    let in_old : (q : ℕ) → 1 ≤ count q new → 1 ≤ count q old = λ q i. in_more xs ys x q i in
    let not_x : (q : ℕ) → 1 ≤ count q new → q ≢ x = λ q i e. omega (arith, i, once q, count-append q xs ys, count-append q xs (x ∷ ys), same-eq q x e) in
    let not_r : (q : ℕ) → 1 ≤ count q new → q ≢ r = λ q i e. in_some ls old q n (in_old q i) (e ∙ no_r) in
    let dark_old : (q : ℕ) → 1 ≤ count q new → dark ms q ≡ dark ls q = λ q i. elim (cases_eq q u) [
      | inl e ↦ ap (dark ms) e ∙ dark_by _ _ (t.at_u (λ z. in_some ls old q n (in_old q i) (e ∙ z))) ∙ ap (dark ls) (sym e)
      | inr d ↦ dark_by _ _ (t.others q (not_r q i) d)
    ] in
    let up_old : (q : ℕ) → 1 ≤ count q new → (link ms q).parent ≡ (link ls q).parent = λ q i. elim (cases_eq q u) [
      | inl e ↦ ap (λ z. (link ms z).parent) e ∙ ap (λ (z : Link). z.parent) (t.at_u (λ z. in_some ls old q n (in_old q i) (e ∙ z))) ∙ ap (λ z. (link ls z).parent) (sym e)
      | inr d ↦ ap (λ (z : Link). z.parent) (t.others q (not_r q i) d)
    ] in
    record {
      height = h;
      ends = s.ends;
      level = λ q i right. elim (cases_eq q u) [
        | inl e ↦
            let su : u ≢ none = λ z. in_some ls old q n (in_old q i) (e ∙ z) in
            let up = n.up x ix (λ z. su (sym eu ∙ z)) in
            let side : Bool = not ((link ls u).left == x) in
            let is_x : kid_of (link ls u) side ≡ x = side_is (link ls u) x up.1.0 (ap (λ z. kid_of (link ls z) up.1.0) (sym eu) ∙ up.1.1) in
            let iu : 1 ≤ count u new = omega (arith, i, ap (λ z. count z new) e) in
            let at_u : h u ≡ dark ms u + h (kid_of (link ms u) right) = elim (cases_side side right) [
              | inl c ↦
                  let k : kid_of (link ms u) right ≡ r = ap (kid_of (link ms u)) c ∙ ap (λ (z : Link). kid_of z side) (t.at_u su) ∙ set_kid_only (link ls u) side r in
                  omega (arith, dark_old u iu, ap h k, h_r, s.level u (in_old u iu) side, ap h is_x, h_x)
              | inr c ↦
                  let k : kid_of (link ms u) right ≡ kid_of (link ls u) (not side) = ap (kid_of (link ms u)) c ∙ ap (λ (z : Link). kid_of z (not side)) (t.at_u su) ∙ set_kid_kept (link ls u) side r in
                  omega (arith, dark_old u iu, ap h k, s.level u (in_old u iu) (not side))
            ] in
            subst (λ (z : ℕ). h z ≡ dark ms z + h (kid_of (link ms z) right)) (sym e) at_u
        | inr d ↦ omega (arith, dark_old q i, s.level q (in_old q i) right, ap h (ap (λ (z : Link). kid_of z right) (t.others q (not_r q i) d)))
      ];
      calm = λ q i.
          let was = s.calm q (in_old q i) in
          let p = (link ls q).parent in
          let p_dark : dark ls p ≤ dark ms p = elim (cases_eq p none) [
            | inl e ↦ omega (arith, ap (dark ms) e, dark-none ms (omega (arith, t.lengths, n.room)), dark-most ls p)
            | inr e ↦ elim (cases_eq p x) [
              | inl z ↦ omega (arith, ap (dark ls) z, red_x)
              | inr z ↦ omega (arith, dark_old p (in_put xs ys x p (n.up q (in_old q i) e).0 z))
            ]
          ] in
          (omega (arith, was.0, ap (dark ms) (up_old q i), p_dark, dark_old q i), λ z. dark_old q i ∙ was.1 (sym (up_old q i) ∙ z));
    }

-- where a black place with at most one kid goes out, the ways through its kid lack one black place
pub spliced_black : (ls ms : List Link) (x r u : ℕ) (xs ys : List ℕ) → Near ls (xs ++ x ∷ ys) → ((q : ℕ) → count q (xs ++ x ∷ ys) ≤ 1) → Coloured ls (xs ++ x ∷ ys) → HasFreeSide (link ls x) → only_kid_of (link ls x) ≡ r → (link ls x).parent ≡ u → Hung ls ms x r u → dark ls x ≡ 1 → ShortAt ms (xs ++ ys) r u
spliced_black ls ms x r u xs ys n once s lone er eu t black_x =
    let old : List ℕ = xs ++ x ∷ ys in
    let new : List ℕ = xs ++ ys in
    let h = s.height in
    let ix = in_here xs ys x in
    let only = only_side (link ls x) r lone er in
    let some_x = in_some ls old x n ix in
    let in_old : (q : ℕ) → 1 ≤ count q new → 1 ≤ count q old = λ q i. in_more xs ys x q i in
    let r_in : r ≢ none → (1 ≤ count r old) × ((link ls r).parent ≡ x) = λ sr.
    let down = n.down x only.0 ix (λ z. sr (sym only.1 ∙ z)) in
    (omega (arith, down.1, ap (λ z. count z old) only.1), ap (λ z. (link ls z).parent) (sym only.1) ∙ down.0) in
    let r_x : r ≢ x = λ e. n.apart x only.0 ix (only.1 ∙ e) in
    let r_u : r ≢ none → r ≢ u = λ sr e. n.far x only.0 ix (λ z. sr (sym only.1 ∙ z)) (only.1 ∙ e ∙ sym eu) in
    let dark_old : (q : ℕ) → 1 ≤ count q old → dark ms q ≡ dark ls q = λ q i. elim (cases_eq q r) [
      | inl e ↦ ap (dark ms) e ∙ dark_by _ _ (t.at_r (λ z. in_some ls old q n i (e ∙ z))) ∙ ap (dark ls) (sym e)
      | inr dr ↦ elim (cases_eq q u) [
        | inl e ↦ ap (dark ms) e ∙ dark_by _ _ (t.at_u (λ z. in_some ls old q n i (e ∙ z))) ∙ ap (dark ls) (sym e)
        | inr d ↦ dark_by _ _ (t.others q dr d)
      ]
    ] in
    let up_old : (q : ℕ) → 1 ≤ count q new → q ≢ r → (link ms q).parent ≡ (link ls q).parent = λ q i dr. elim (cases_eq q u) [
      | inl e ↦ ap (λ z. (link ms z).parent) e ∙ ap (λ (z : Link). z.parent) (t.at_u (λ z. in_some ls old q n (in_old q i) (e ∙ z))) ∙ ap (λ z. (link ls z).parent) (sym e)
      | inr d ↦ ap (λ (z : Link). z.parent) (t.others q dr d)
    ] in
    let side : Bool = not ((link ls u).left == x) in
    let up_in : u ≢ none → (1 ≤ count u old) × (kid_of (link ls u) side ≡ x) = λ su.
    let up = n.up x ix (λ z. su (sym eu ∙ z)) in
    (omega (arith, up.0, ap (λ z. count z old) eu), side_is (link ls u) x up.1.0 (ap (λ z. kid_of (link ls z) up.1.0) (sym eu) ∙ up.1.1)) in
    let u_x : u ≢ none → u ≢ x = λ su e. n.apart x side ix (ap (λ z. kid_of (link ls z) side) (sym e) ∙ (up_in su).1) in
    record {
      height = h;
      ends = s.ends;
      level = λ q i du right.
          let kids : kid_of (link ms q) right ≡ kid_of (link ls q) right = elim (cases_eq q r) [
            | inl e ↦ ap (λ z. kid_of (link ms z) right) e ∙ ap (λ (z : Link). kid_of z right) (t.at_r (λ z. in_some ls old q n (in_old q i) (e ∙ z))) ∙ lifted_kid (link ls r) u right ∙ ap (λ z. kid_of (link ls z) right) (sym e)
            | inr dr ↦ ap (λ (z : Link). kid_of z right) (t.others q dr du)
          ] in
          omega (arith, dark_old q (in_old q i), s.level q (in_old q i) right, ap h kids);
      above = λ su. in_put xs ys x u (up_in su).0 (u_x su);
      here = λ sr. (in_put xs ys x r (r_in sr).0 r_x, ap (λ (z : Link). z.parent) (t.at_r sr));
      side = side;
      short = λ su.
          let iu = (up_in su).0 in (
            ap (λ (z : Link). kid_of z side) (t.at_u su) ∙ set_kid_only (link ls u) side r,
            omega (arith, dark_old u iu, s.level u iu side, ap h (up_in su).1, s.level x ix only.0, black_x, ap h only.1),
            omega (arith, dark_old u iu, s.level u iu (not side), ap h (ap (λ (z : Link). kid_of z (not side)) (t.at_u su) ∙ set_kid_kept (link ls u) side r)),
          );
      calm = λ q i dr pr.
          let was = s.calm q (in_old q i) in
          let p = (link ls q).parent in
          let p_dark : dark ms p ≡ dark ls p = elim (cases_eq p none) [
            | inl e ↦ ap (dark ms) e ∙ dark-none ms (omega (arith, t.lengths, n.room)) ∙ sym (dark-none ls n.room) ∙ ap (dark ls) (sym e)
            | inr e ↦ dark_old p (n.up q (in_old q i) e).0
          ] in
          omega (arith, was.0, ap (dark ms) (up_old q i dr), p_dark, dark_old q (in_old q i));
      top = λ q i dr root. dark_old q (in_old q i) ∙ (s.calm q (in_old q i)).1 (sym (up_old q i dr) ∙ root);
    }

-- the place that takes the place of another takes its colour too
pub swapped_coloured : (ls ms : List Link) (x p l r u : ℕ) (xs ys : List ℕ) → Near ls (xs ++ x ∷ ys) → ((q : ℕ) → count q (xs ++ x ∷ ys) ≤ 1) → count p (xs ++ x ∷ ys) ≡ 0 → p ≢ none → Coloured ls (xs ++ x ∷ ys) → (link ls x).left ≡ l → (link ls x).right ≡ r → (link ls x).parent ≡ u → Swapped ls ms x p l r u → Coloured ms (xs ++ p ∷ ys)
swapped_coloured ls ms x p l r u xs ys n once fresh some_p s el er eu t =
    let old : List ℕ = xs ++ x ∷ ys in
    let new : List ℕ = xs ++ p ∷ ys in
    let h = s.height in
    let ix = in_here xs ys x in
    let some_x = in_some ls old x n ix in
    let in_old : (q : ℕ) → 1 ≤ count q new → q ≢ p → 1 ≤ count q old = λ q i d. in_more xs ys x q (in_put xs ys p q i d) in
    let not_x : (q : ℕ) → 1 ≤ count q new → q ≢ p → q ≢ x = λ q i d e. omega (arith, in_put xs ys p q i d, once q, count-append q xs ys, count-append q xs (x ∷ ys), same-eq q x e) in
    let not_p : (q : ℕ) → 1 ≤ count q old → q ≢ p = λ q i e. omega (arith, i, fresh, ap (λ z. count z old) e) in
    let g = upd h p (h x) in
    let g_p : g p ≡ h x = upd-eq h p (h x) p refl in
    let g_other : (q : ℕ) → q ≢ p → g q ≡ h q = λ q d. upd-ne h p (h x) q d in
    let kid_p : (q : ℕ) (right : Bool) → 1 ≤ count q old → kid_of (link ls q) right ≢ p = λ q right i e. not_p (kid_of (link ls q) right) (n.down q right i (λ z. some_p (sym e ∙ z))).1 e in
    let dark_old : (q : ℕ) → 1 ≤ count q old → dark ms q ≡ dark ls q = λ q i.
    let some_q = in_some ls old q n i in
    elim (cases_eq q l) [
      | inl e ↦ ap (dark ms) e ∙ dark_by _ _ (t.at_l (λ z. some_q (e ∙ z))) ∙ ap (dark ls) (sym e)
      | inr dl ↦ elim (cases_eq q r) [
        | inl e ↦ ap (dark ms) e ∙ dark_by _ _ (t.at_r (λ z. some_q (e ∙ z))) ∙ ap (dark ls) (sym e)
        | inr dr ↦ elim (cases_eq q u) [
          | inl e ↦ ap (dark ms) e ∙ dark_by _ _ (t.at_u (λ z. some_q (e ∙ z))) ∙ ap (dark ls) (sym e)
          | inr d ↦ dark_by _ _ (t.others q (not_p q i) dl dr d)
        ]
      ]
    ] in
    let dark_p : dark ms p ≡ dark ls x = dark_by _ _ t.at_n in
    let up_in : u ≢ none → (1 ≤ count u old) × (kid_of (link ls u) (not ((link ls u).left == x)) ≡ x) = λ su.
    let up = n.up x ix (λ z. su (sym eu ∙ z)) in
    (omega (arith, up.0, ap (λ z. count z old) eu), side_is (link ls u) x up.1.0 (ap (λ z. kid_of (link ls z) up.1.0) (sym eu) ∙ up.1.1)) in
    let same_kid : (q : ℕ) → 1 ≤ count q old → q ≢ u → (right : Bool) → kid_of (link ms q) right ≡ kid_of (link ls q) right = λ q i du right.
    let some_q = in_some ls old q n i in
    elim (cases_eq q l) [
      | inl e ↦ ap (λ z. kid_of (link ms z) right) e ∙ ap (λ (z : Link). kid_of z right) (t.at_l (λ z. some_q (e ∙ z))) ∙ lifted_kid (link ls l) p right ∙ ap (λ z. kid_of (link ls z) right) (sym e)
      | inr dl ↦ elim (cases_eq q r) [
        | inl e ↦ ap (λ z. kid_of (link ms z) right) e ∙ ap (λ (z : Link). kid_of z right) (t.at_r (λ z. some_q (e ∙ z))) ∙ lifted_kid (link ls r) p right ∙ ap (λ z. kid_of (link ls z) right) (sym e)
        | inr dr ↦ ap (λ (z : Link). kid_of z right) (t.others q (not_p q i) dl dr du)
      ]
    ] in
    record {
      height = g;
      ends = g_other none (λ z. some_p (sym z)) ∙ s.ends;
      level = λ q i. elim (cases_eq q p) [
        | inl e ↦
            let at_p : (right : Bool) → g p ≡ dark ms p + g (kid_of (link ms p) right) = λ right.
            omega (arith, g_p, dark_p, s.level x ix right, ap g (ap (λ (z : Link). kid_of z right) t.at_n), g_other (kid_of (link ls x) right) (kid_p x right ix)) in
            subst (IsLevel ms g) (sym e) at_p
        | inr d ↦
            let iq = in_old q i d in
            λ right. elim (cases_eq q u) [
              | inl e ↦
                  let su : u ≢ none = λ z. in_some ls old q n iq (e ∙ z) in
                  let up = up_in su in
                  let side : Bool = not ((link ls u).left == x) in
                  let gu : g u ≡ h u = g_other u (λ z. d (e ∙ z)) in
                  let at_u : g u ≡ dark ms u + g (kid_of (link ms u) right) = elim (cases_side side right) [
                    | inl c ↦
                        let k : kid_of (link ms u) right ≡ p = ap (kid_of (link ms u)) c ∙ ap (λ (z : Link). kid_of z side) (t.at_u su) ∙ set_kid_only (link ls u) side p in
                        omega (arith, gu, dark_old u up.0, ap g k, g_p, s.level u up.0 side, ap h up.1)
                    | inr c ↦
                        let k : kid_of (link ms u) right ≡ kid_of (link ls u) (not side) = ap (kid_of (link ms u)) c ∙ ap (λ (z : Link). kid_of z (not side)) (t.at_u su) ∙ set_kid_kept (link ls u) side p in
                        omega (arith, gu, dark_old u up.0, ap g k, g_other (kid_of (link ls u) (not side)) (kid_p u (not side) up.0), s.level u up.0 (not side))
                  ] in
                  subst (λ (z : ℕ). g z ≡ dark ms z + g (kid_of (link ms z) right)) (sym e) at_u
              | inr du ↦ omega (arith, g_other q d, dark_old q iq, s.level q iq right, ap g (same_kid q iq du right), g_other (kid_of (link ls q) right) (kid_p q right iq))
            ]
      ];
      calm = λ q i.
          let around : (v : ℕ) → 1 ≤ count v old → let w = (link ls v).parent in dark ms w ≡ dark ls w = λ v iv. elim (cases_eq (link ls v).parent none) [
            | inl e ↦ ap (dark ms) e ∙ dark-none ms (omega (arith, t.lengths, n.room)) ∙ sym (dark-none ls n.room) ∙ ap (dark ls) (sym e)
            | inr e ↦ dark_old (link ls v).parent (n.up v iv e).0
          ] in
          elim (cases_eq q p) [
            | inl e ↦
                let up_p : (link ms p).parent ≡ (link ls x).parent = ap (λ (z : Link). z.parent) t.at_n in
                let was = s.calm x ix in
                subst (IsCalm ms) (sym e) (omega (arith, was.0, dark_p, ap (dark ms) up_p, around x ix), λ z. dark_p ∙ was.1 (sym up_p ∙ z))
            | inr d ↦
                let iq = in_old q i d in
                let some_q = in_some ls old q n iq in
                let was = s.calm q iq in
                let below : (side : Bool) → q ≡ kid_of (link ls x) side → (link ms q).parent ≡ p → IsCalm ms q = λ side e new_up.
                let old_up : (link ls q).parent ≡ x = ap (λ z. (link ls z).parent) e ∙ (n.down x side ix (λ z. some_q (e ∙ z))).0 in
                (omega (arith, was.0, ap (dark ls) old_up, ap (dark ms) new_up, dark_p, dark_old q iq), λ z. absurd (some_p (sym new_up ∙ z))) in
                elim (cases_eq q l) [
                  | inl e ↦ below false (e ∙ sym el) (ap (λ z. (link ms z).parent) e ∙ ap (λ (z : Link). z.parent) (t.at_l (λ z. some_q (e ∙ z))))
                  | inr dl ↦ elim (cases_eq q r) [
                    | inl e ↦ below true (e ∙ sym er) (ap (λ z. (link ms z).parent) e ∙ ap (λ (z : Link). z.parent) (t.at_r (λ z. some_q (e ∙ z))))
                    | inr dr ↦
                        let same_up : (link ms q).parent ≡ (link ls q).parent = elim (cases_eq q u) [
                          | inl e ↦ ap (λ z. (link ms z).parent) e ∙ ap (λ (z : Link). z.parent) (t.at_u (λ z. some_q (e ∙ z))) ∙ ap (λ z. (link ls z).parent) (sym e)
                          | inr du ↦ ap (λ (z : Link). z.parent) (t.others q (not_p q iq) dl dr du)
                        ] in
                        (omega (arith, was.0, dark_old q iq, ap (dark ms) same_up, around q iq), λ z. dark_old q iq ∙ was.1 (sym same_up ∙ z))
                  ]
                ]
          ];
    }

-- links that are pushed change no colour
pub coloured_push : (ls : List Link) (v : Link) (order : List ℕ) → length ls < none → Near ls order → Coloured ls order → Coloured (ls ++ v ∷ []) order
coloured_push ls v order few n s =
    let ms : List Link = ls ++ v ∷ [] in
    let same : (q : ℕ) → 1 ≤ count q order → link ms q ≡ link ls q = λ q i. get_or_append_left ls (v ∷ []) nil q (n.within q i) in
    record {
      height = s.height;
      ends = s.ends;
      level = λ q i right. omega (arith, s.level q i right, dark_by _ _ (same q i), ap s.height (ap (λ (z : Link). kid_of z right) (same q i)));
      calm = λ q i.
          let was = s.calm q i in
          let p = (link ls q).parent in
          let same_up : (link ms q).parent ≡ p = ap (λ (z : Link). z.parent) (same q i) in
          let here : dark ms q ≡ dark ls q = dark_by _ _ (same q i) in
          let p_dark : dark ms p ≡ dark ls p = elim (cases_eq p none) [
            | inl e ↦ ap (dark ms) e ∙ dark-none ms (omega (arith, few, length-append ls (v ∷ []))) ∙ sym (dark-none ls n.room) ∙ ap (dark ls) (sym e)
            | inr e ↦ dark_by _ _ (same p (n.up q i e).0)
          ] in
          (omega (arith, was.0, here, ap (dark ms) same_up, p_dark), λ z. here ∙ was.1 (sym same_up ∙ z));
    }

pub hung_here : (ls : List Link) (x : ℕ) (order : List ℕ) → Near ls order → 1 ≤ count x order → HasFreeSide (link ls x) → let r = only_kid_of (link ls x) in let u = (link ls x).parent in Hung ls (spliced ls x r u) x r u
hung_here ls x order n ix lone =
    let r = only_kid_of (link ls x) in
    let u = (link ls x).parent in
    let only = only_side (link ls x) r lone refl in
    let down : r ≢ none → 1 ≤ count r order = λ sr. omega (arith, (n.down x only.0 ix (λ z. sr (sym only.1 ∙ z))).1, ap (λ z. count z order) only.1) in
    let apart : r ≢ none → r ≢ u = λ sr e. n.far x only.0 ix (λ z. sr (sym only.1 ∙ z)) (only.1 ∙ e) in
    Hung-spliced ls x r u (λ sr. n.within r (down sr)) (λ su. n.within u (n.up x ix su).0) (λ su e. apart (λ z. su (e ∙ z)) (sym e)) (λ sr e. apart sr (sym e))

pub swapped_here : (ls : List Link) (x p : ℕ) (order : List ℕ) → Near ls order → 1 ≤ count x order → count p order ≡ 0 → p < length ls → let l = (link ls x).left in let r = (link ls x).right in let u = (link ls x).parent in Swapped ls (swapped ls x p l r u) x p l r u
swapped_here ls x p order n ix fresh lp =
    let l = (link ls x).left in
    let r = (link ls x).right in
    let u = (link ls x).parent in
    let some_p : p ≢ none = λ e. omega (arith, e, lp, n.room) in
    let not_p : (q : ℕ) → (q ≢ none → 1 ≤ count q order) → p ≢ q = λ q i e. omega (arith, i (λ z. some_p (e ∙ z)), fresh, ap (λ z. count z order) e) in
    let in_l : l ≢ none → 1 ≤ count l order = λ s. (n.down x false ix s).1 in
    let in_r : r ≢ none → 1 ≤ count r order = λ s. (n.down x true ix s).1 in
    let in_u : u ≢ none → 1 ≤ count u order = λ s. (n.up x ix s).0 in
    Swapped-swapped ls x p l r u lp (λ s. n.within l (in_l s)) (λ s. n.within r (in_r s)) (λ s. n.within u (in_u s))
    (not_p l in_l) (not_p r in_r) (not_p u in_u)
    (λ s. n.differ x false ix s) (λ s e. n.differ x true ix s (sym e))
    (λ s. n.far x false ix s) (λ s e. n.far x false ix (λ z. s (sym e ∙ z)) e)
    (λ s. n.far x true ix s) (λ s e. n.far x true ix (λ z. s (sym e ∙ z)) e)
