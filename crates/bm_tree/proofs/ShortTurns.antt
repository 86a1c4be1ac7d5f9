-- The rotations below a place whose ways down lack one black place.
use Rattle.std.proofs.Common.{◌≡◌, ◌≢◌, ℕ, ◌+◌, ◌≤◌, not, cond, Bool, true, false, List, length, refl, sym, ap, ◌∙◌, subst, inl, inr, arith}
use Rattle.std.proofs.lemmas.Bool.{cases_eq}
use Rattle.std.specs.Prelude.{◌==◌}
use Rattle.bm_tree.specs.declared.links.Link.{Link}
use Rattle.bm_tree.specs.Links.{none, link, kid_of, painted, set_kid}
use Rattle.bm_tree.specs.Shape.{count, Agree}
use Rattle.bm_tree.specs.Colours.{dark, IsLevel, IsCalm, Coloured, ShortAt, RedFar}
use Rattle.bm_tree.proofs.Rotation.{Turned}
use Rattle.bm_tree.proofs.Near.{Near}
use Rattle.bm_tree.proofs.Painting.{SameTree-painted, SameTree-then, SameTree-painted3}
use Rattle.bm_tree.proofs.Heights.{upd, upd-eq, upd-ne, upd2-ne, dark-most, dark-none, red_some, dark-painted_same, dark-painted_other, length-painted, cases_side, kid_agree, side_is, kid_not, in_some, not-not, set_kid_only, Rotated, rotated, turned_dark, turned_up, rot_level}
use Rattle.bm_tree.proofs.RedRed.{low_level}
use Rattle.bm_tree.proofs.Short.{Beside, beside}

-- the place above, after the red sibling came up: it is red, and its new other kid black
pub record RedAbove (ls : List Link) (order : List ℕ) (at up : ℕ) (right : Bool) : Type 0 where
  pub short : ShortAt ls order at up
  pub side : short.side ≡ right
  pub black_at : dark ls at ≡ 1
  pub red_up : dark ls up ≡ 0
  pub black_near : dark ls (kid_of (link ls up) (not right)) ≡ 1

-- the red sibling goes black and comes up, and the place above goes red and down
pub red_sibling : (ls ms : List Link) (order : List ℕ) (at up o b u : ℕ) (right : Bool) → Near ls order → (s : ShortAt ls order at up) → up ≢ none → dark ls at ≡ 1 → s.side ≡ right → kid_of (link ls up) (not right) ≡ o → dark ls o ≡ 0 → Near (painted (painted ls o false) up true) order → kid_of (link ls o) right ≡ b → (link ls up).parent ≡ u → Turned (painted (painted ls o false) up true) ms up o b u right → RedAbove ms order at up right
red_sibling ls ms order at up o b u right n s some black_at e_side eo red_o np eb eu t =
    let h = s.height in
    let l1 = painted ls o false in
    let ps = painted l1 up true in
    let b0 : Beside ls order at up h right (kid_of (link ls up) (not right)) = subst (λ (z : Bool). Beside ls order at up h z (kid_of (link ls up) (not z))) e_side (beside ls order at up n s some) in
    let k : Beside ls order at up h right o = subst (λ (z : ℕ). Beside ls order at up h right z) eo b0 in
    let d_up : dark ps up ≡ 0 = dark-painted_same l1 up true (omega (arith, n.within up k.in_up, length-painted ls o false)) in
    let d_o : dark ps o ≡ 1 = dark-painted_other l1 up true o k.o_not_up ∙ dark-painted_same ls o false (n.within o k.in_o) in
    let d_other : (q : ℕ) → q ≢ o → q ≢ up → dark ps q ≡ dark ls q = λ q a c. dark-painted_other l1 up true q c ∙ dark-painted_other ls o false q a in
    let same : (q : ℕ) → Agree (link ls q) (link ps q) = λ q. (SameTree-then ls l1 ps (SameTree-painted ls o false) (SameTree-painted l1 up true)).links q in
    let kids : (q : ℕ) (r : Bool) → kid_of (link ps q) r ≡ kid_of (link ls q) r = λ q r. kid_agree (link ls q) (link ps q) r (same q) in
    let calm_o = s.calm o k.in_o k.o_at (λ z. k.at_up (sym z ∙ k.o_up)) in
    let black_up : dark ls up ≡ 1 = omega (arith, calm_o, red_o, ap (dark ls) k.o_up, dark-most ls up) in
    let level_o = s.level o k.in_o k.o_not_up in
    let h_b : h b ≡ 1 + h at = omega (arith, level_o right, red_o, k.h_o, ap h eb) in
    let some_b : b ≢ none = λ z. omega (arith, h_b, ap h z, s.ends) in
    let b_down = n.down o right k.in_o (λ z. some_b (sym eb ∙ z)) in
    let b_up : (link ls b).parent ≡ o = ap (λ z. (link ls z).parent) (sym eb) ∙ b_down.0 in
    let in_b : 1 ≤ count b order = omega (arith, b_down.1, ap (λ z. count z order) eb) in
    let b_at : b ≢ at = λ z. k.o_not_up (sym b_up ∙ ap (λ w. (link ls w).parent) z ∙ (s.here (λ w. some_b (z ∙ w))).1) in
    let b_o : b ≢ o = λ z. n.apart o right k.in_o (eb ∙ z) in
    let b_not_up : b ≢ up = kid_b_up eb in
    let black_b : dark ls b ≡ 1 = omega (arith, s.calm b in_b b_at (λ z. k.o_at (sym b_up ∙ z)), ap (dark ls) b_up, red_o, dark-most ls b) in
    let ey : kid_of (link ps up) (not right) ≡ o = kids up (not right) ∙ eo in
    let ebp : kid_of (link ps o) right ≡ b = kids o right ∙ eb in
    let eup : (link ps up).parent ≡ u = (same up).parent ∙ eu in
    let hx = h b in
    let g = upd (upd h up hx) o (h up) in
    let r : Rotated ps ms order up o b u right h g hx = rotated ps ms order up o b u right h hx np k.in_up ey k.some_o ebp eup t in
    let dark_of_place : (q : ℕ) → 1 ≤ count q order → dark ms q ≡ dark ps q = turned_dark ps ms order up o b u right np t in
    let others = rot_level ps ms order up o b u none right h hx np k.in_up ey k.some_o ebp eup t
    (λ q iq c a z r2. omega (arith, s.level q iq c r2, d_other q a c, ap h (kids q r2)))
    (omega (arith, d_o, k.h_up, black_up, h_b))
    (omega (arith, d_o, k.h_up, black_up, level_o (not right), red_o, k.h_o, ap h (kids o (not right)))) in
    let at_now : kid_of (link ms up) right ≡ at = r.low ∙ kids up right ∙ k.is_at in
    let g_at : g at ≡ h at = ap g (sym (kids up right ∙ k.is_at)) ∙ r.g_low ∙ ap h (kids up right ∙ k.is_at) in
    let up_now : dark ms up ≡ 0 = dark_of_place up k.in_up ∙ d_up in
    let short : ShortAt ms order at up = record {
      height = g;
      ends = r.g_none ∙ s.ends;
      level = λ q iq qu. others q iq qu (in_some ls order q n iq);
      above = λ z. k.in_up;
      here = λ z.
          let old = s.here z in
          let at_b : at ≢ b = λ w. b_at (sym w) in
          let at_o : at ≢ o = λ w. k.o_at (sym w) in
          (old.0, turned_up ps ms order up o b u right np t at old.0 k.at_up at_o at_b ∙ (same at).parent ∙ old.1);
      side = right;
      short = λ z. (at_now, omega (arith, r.g_x, h_b, up_now, g_at), omega (arith, r.g_x, up_now, ap g r.inner, r.g_inner));
      calm = λ q iq qa pa. elim (cases_eq q up) [
        | inl e ↦ omega (arith, ap (λ z. dark ms (link ms z).parent) e, ap (dark ms) r.up_x, dark_of_place o k.in_o, d_o)
        | inr qu ↦ elim (cases_eq q o) [
          | inl e ↦ omega (arith, ap (dark ms) e, dark_of_place o k.in_o, d_o)
          | inr qo ↦
              let here : dark ms q ≡ dark ls q = dark_of_place q iq ∙ d_other q qo qu in
              elim (cases_eq q b) [
                | inl e ↦ omega (arith, here, ap (dark ls) e, black_b)
                | inr qb ↦
                    let p = (link ls q).parent in
                    let same_up : (link ms q).parent ≡ p = turned_up ps ms order up o b u right np t q iq qu qo qb ∙ (same q).parent in
                    let old = s.calm q iq qa (λ z. pa (same_up ∙ z)) in
                    let p_dark : dark ms p ≡ dark ps p = elim (cases_eq p none) [
                      | inl e ↦ ap (dark ms) e ∙ dark-none ms (omega (arith, t.lengths, np.room)) ∙ sym (dark-none ps np.room) ∙ ap (dark ps) (sym e)
                      | inr e ↦ dark_of_place p (n.up q iq e).0
                    ] in
                    elim (cases_eq p o) [
                      | inl e ↦ omega (arith, ap (dark ms) same_up, p_dark, ap (dark ps) e, d_o)
                      | inr po ↦ elim (cases_eq p up) [
                        | inl e ↦
                            let up_q = n.up q iq (λ z. some (sym e ∙ z)) in
                            let is_q : kid_of (link ls up) up_q.1.0 ≡ q = ap (λ z. kid_of (link ls z) up_q.1.0) (sym e) ∙ up_q.1.1 in
                            elim (cases_side right up_q.1.0) [
                              | inl c ↦ absurd (qa (sym is_q ∙ ap (kid_of (link ls up)) c ∙ k.is_at))
                              | inr c ↦ absurd (qo (sym is_q ∙ ap (kid_of (link ls up)) c ∙ eo))
                            ]
                        | inr pu ↦ omega (arith, old, here, ap (dark ms) same_up, p_dark, d_other p po pu)
                      ]
                    ]
              ]
        ]
      ];
      top = λ q iq qa root. elim (cases_eq q up) [
        | inl e ↦ absurd (k.some_o (sym r.up_x ∙ ap (λ z. (link ms z).parent) (sym e) ∙ root))
        | inr qu ↦ elim (cases_eq q o) [
          | inl e ↦ ap (dark ms) e ∙ dark_of_place o k.in_o ∙ d_o
          | inr qo ↦ elim (cases_eq q b) [
            | inl e ↦ absurd (some (sym (r.up_b some_b) ∙ ap (λ z. (link ms z).parent) (sym e) ∙ root))
            | inr qb ↦
                let same_up : (link ms q).parent ≡ (link ls q).parent = turned_up ps ms order up o b u right np t q iq qu qo qb ∙ (same q).parent in
                dark_of_place q iq ∙ d_other q qo qu ∙ s.top q iq qa (sym same_up ∙ root)
          ]
        ]
      ];
    } in
    record {
      short = short;
      side = refl;
      black_at = elim (cases_eq at none) [
        | inl e ↦ ap (dark ms) e ∙ dark-none ms (omega (arith, t.lengths, np.room))
        | inr sa ↦ dark_of_place at (s.here sa).0 ∙ d_other at (λ z. k.o_at (sym z)) k.at_up ∙ black_at
      ];
      red_up = up_now;
      black_near = ap (dark ms) r.inner ∙ dark_of_place b in_b ∙ d_other b b_o b_not_up ∙ black_b;
    }
  where
    kid_b_up : kid_of (link ls o) right ≡ b → b ≢ up
    kid_b_up e z =
        let b0 = beside ls order at up n s some in
        let in_up = b0.in_up in
        let down = n.down up (not right) in_up (λ w. red_some ls o n.room red_o (sym eo ∙ w)) in
        let in_o : 1 ≤ count o order = omega (arith, down.1, ap (λ w. count w order) eo) in
        let o_up : (link ls o).parent ≡ up = ap (λ w. (link ls w).parent) (sym eo) ∙ down.0 in
        n.far o right in_o (λ w. some (sym z ∙ sym e ∙ w)) (e ∙ z ∙ sym o_up)

-- the red near kid of the black sibling goes black and comes up, and the sibling goes red and down
pub red_near : (ls ms : List Link) (order : List ℕ) (at up o y b : ℕ) (right : Bool) → Near ls order → (s : ShortAt ls order at up) → up ≢ none → s.side ≡ right → dark ls at ≡ 1 → kid_of (link ls up) (not right) ≡ o → dark ls o ≡ 1 → dark ls (kid_of (link ls o) (not right)) ≡ 1 → kid_of (link ls o) right ≡ y → dark ls y ≡ 0 → Near (painted (painted ls y false) o true) order → kid_of (link ls y) (not right) ≡ b → Turned (painted (painted ls y false) o true) ms o y b up (not right) → RedFar ms order at up right
red_near ls ms order at up o y b right n s some e_side black_at eo black_o black_far ey red_y np eb t =
    let h = s.height in
    let d : Bool = not right in
    let l1 = painted ls y false in
    let ps = painted l1 o true in
    let b0 : Beside ls order at up h right (kid_of (link ls up) (not right)) = subst (λ (z : Bool). Beside ls order at up h z (kid_of (link ls up) (not z))) e_side (beside ls order at up n s some) in
    let k : Beside ls order at up h right o = subst (λ (z : ℕ). Beside ls order at up h right z) eo b0 in
    let some_y : y ≢ none = red_some ls y n.room red_y in
    let y_down = n.down o right k.in_o (λ z. some_y (sym ey ∙ z)) in
    let y_up : (link ls y).parent ≡ o = ap (λ z. (link ls z).parent) (sym ey) ∙ y_down.0 in
    let in_y : 1 ≤ count y order = omega (arith, y_down.1, ap (λ z. count z order) ey) in
    let y_o : y ≢ o = λ z. n.apart o right k.in_o (ey ∙ z) in
    let y_not_up : y ≢ up = λ z. n.far o right k.in_o (λ w. some_y (sym ey ∙ w)) (ey ∙ z ∙ sym k.o_up) in
    let y_at : y ≢ at = λ z. k.o_not_up (sym y_up ∙ ap (λ w. (link ls w).parent) z ∙ (s.here (λ w. some_y (z ∙ w))).1) in
    let d_o : dark ps o ≡ 0 = dark-painted_same l1 o true (omega (arith, n.within o k.in_o, length-painted ls y false)) in
    let d_y : dark ps y ≡ 1 = dark-painted_other l1 o true y y_o ∙ dark-painted_same ls y false (n.within y in_y) in
    let d_other : (q : ℕ) → q ≢ y → q ≢ o → dark ps q ≡ dark ls q = λ q a c. dark-painted_other l1 o true q c ∙ dark-painted_other ls y false q a in
    let same : (q : ℕ) → Agree (link ls q) (link ps q) = λ q. (SameTree-then ls l1 ps (SameTree-painted ls y false) (SameTree-painted l1 o true)).links q in
    let kids : (q : ℕ) (r : Bool) → kid_of (link ps q) r ≡ kid_of (link ls q) r = λ q r. kid_agree (link ls q) (link ps q) r (same q) in
    let level_o = s.level o k.in_o k.o_not_up in
    let level_y = s.level y in_y y_not_up in
    let h_y : h o ≡ 1 + h y = omega (arith, level_o right, black_o, ap h ey) in
    let eyp : kid_of (link ps o) (not d) ≡ y = kids o (not d) ∙ ap (kid_of (link ls o)) (not-not right) ∙ ey in
    let ebp : kid_of (link ps y) d ≡ b = kids y d ∙ eb in
    let eup : (link ps o).parent ≡ up = (same o).parent ∙ k.o_up in
    let hx = h y in
    let g = upd (upd h o hx) y (h o) in
    let r : Rotated ps ms order o y b up d h g hx = rotated ps ms order o y b up d h hx np k.in_o eyp some_y ebp eup t in
    let dark_of_place : (q : ℕ) → 1 ≤ count q order → dark ms q ≡ dark ps q = turned_dark ps ms order o y b up d np t in
    let others = rot_level ps ms order o y b up up d h hx np k.in_o eyp some_y ebp eup t
    (λ q iq c a z r2. omega (arith, s.level q iq z r2, d_other q a c, ap h (kids q r2)))
    (omega (arith, d_y, h_y))
    (omega (arith, d_y, h_y, level_y (not d), red_y, ap h (kids y (not d)))) in
    let level_low = low_level ps ms order o y b up d h g hx r (dark_of_place o k.in_o) (omega (arith, d_o, level_o d, black_o, h_y, ap h (kids o d))) (omega (arith, d_o, level_y d, red_y, ap h eb)) in
    let in_up = k.in_up in
    let up_o : up ≢ o = λ z. k.o_not_up (sym z) in
    let up_y : up ≢ y = λ z. y_not_up (sym z) in
    let g_up : g up ≡ h up = upd2-ne h o hx y (h o) up up_o up_y in
    let g_at : g at ≡ h at = upd2-ne h o hx y (h o) at (λ z. k.o_at (sym z)) (λ z. y_at (sym z)) in
    let code : Bool = not ((link ps up).left == o) in
    let some_o_kid : kid_of (link ps up) (not right) ≢ none = λ z. k.some_o (sym (kids up (not right) ∙ eo) ∙ z) in
    let code_o : kid_of (link ps up) code ≡ o = side_is (link ps up) o (not right) (kids up (not right) ∙ eo) in
    let code_is : code ≡ not right = elim (cases_side (not right) code) [
      | inl c ↦ c
      | inr c ↦ absurd (np.differ up (not right) in_up some_o_kid (kids up (not right) ∙ eo ∙ sym (ap (kid_of (link ps up)) (sym c) ∙ code_o)))
    ] in
    let up_link : link ms up ≡ set_kid (link ps up) (not right) y = t.at_u some ∙ ap (λ z. set_kid (link ps up) z y) code_is in
    let up_far : kid_of (link ms up) (not right) ≡ y = ap (λ z. kid_of z (not right)) up_link ∙ set_kid_only (link ps up) (not right) y in
    let up_near : kid_of (link ms up) right ≡ at = ap (λ z. kid_of z right) up_link ∙ kept_side (link ps up) right y ∙ kids up right ∙ k.is_at in
    let d_up : dark ms up ≡ dark ls up = dark_of_place up in_up ∙ d_other up up_y up_o in
    let some_b_up : b ≢ none → (link ls b).parent ≡ y = λ sb. ap (λ z. (link ls z).parent) (sym eb) ∙ (n.down y d in_y (λ z. sb (sym eb ∙ z))).0 in
    let b_at : b ≢ none → b ≢ at = λ sb z. y_not_up (sym (some_b_up sb) ∙ ap (λ w. (link ls w).parent) z ∙ (s.here (λ w. sb (z ∙ w))).1) in
    let at_dark : dark ms at ≡ 1 = elim (cases_eq at none) [
      | inl e ↦ ap (dark ms) e ∙ dark-none ms (omega (arith, t.lengths, np.room))
      | inr sa ↦ dark_of_place at (s.here sa).0 ∙ d_other at (λ z. y_at (sym z)) (λ z. k.o_at (sym z)) ∙ black_at
    ] in
    let short : ShortAt ms order at up = record {
      height = g;
      ends = r.g_none ∙ s.ends;
      level = λ q iq qu. elim (cases_eq q o) [
        | inl e ↦ subst (IsLevel ms g) (sym e) level_low
        | inr qo ↦ others q iq qo qu
      ];
      above = λ z. in_up;
      here = λ z.
          let old = s.here z in
          (old.0, turned_up ps ms order o y b up d np t at old.0 (λ w. k.o_at (sym w)) (λ w. y_at (sym w)) (λ w. b_at (λ v. z (w ∙ v)) (sym w)) ∙ (same at).parent ∙ old.1);
      side = right;
      short = λ z. (up_near, omega (arith, g_up, d_up, k.h_up, g_at), omega (arith, g_up, d_up, k.h_up, k.h_o, ap g up_far, r.g_y));
      calm = λ q iq qa pa. elim (cases_eq q o) [
        | inl e ↦ omega (arith, ap (λ z. dark ms (link ms z).parent) e, ap (dark ms) r.up_x, dark_of_place y in_y, d_y)
        | inr qo ↦ elim (cases_eq q y) [
          | inl e ↦ omega (arith, ap (dark ms) e, dark_of_place y in_y, d_y)
          | inr qy ↦
              let here : dark ms q ≡ dark ls q = dark_of_place q iq ∙ d_other q qy qo in
              elim (cases_eq q b) [
                | inl e ↦
                    let sb : b ≢ none = λ z. in_some ls order q n iq (e ∙ z) in
                    let old_up : (link ls q).parent ≡ y = ap (λ z. (link ls z).parent) e ∙ some_b_up sb in
                    omega (arith, here, s.calm q iq qa (λ z. y_at (sym old_up ∙ z)), ap (dark ls) old_up, red_y)
                | inr qb ↦
                    let p = (link ls q).parent in
                    let same_up : (link ms q).parent ≡ p = turned_up ps ms order o y b up d np t q iq qo qy qb ∙ (same q).parent in
                    let p_dark : dark ms p ≡ dark ps p = elim (cases_eq p none) [
                      | inl e ↦ ap (dark ms) e ∙ dark-none ms (omega (arith, t.lengths, np.room)) ∙ sym (dark-none ps np.room) ∙ ap (dark ps) (sym e)
                      | inr e ↦ dark_of_place p (n.up q iq e).0
                    ] in
                    elim (cases_eq p y) [
                      | inl e ↦ omega (arith, ap (dark ms) same_up, p_dark, ap (dark ps) e, d_y)
                      | inr py ↦ elim (cases_eq p o) [
                        | inl e ↦
                            let up_q = n.up q iq (λ z. k.some_o (sym e ∙ z)) in
                            let is_q : kid_of (link ls o) up_q.1.0 ≡ q = ap (λ z. kid_of (link ls z) up_q.1.0) (sym e) ∙ up_q.1.1 in
                            elim (cases_side right up_q.1.0) [
                              | inl c ↦ absurd (qy (sym is_q ∙ ap (kid_of (link ls o)) c ∙ ey))
                              | inr c ↦ omega (arith, here, ap (dark ls) (sym is_q ∙ ap (kid_of (link ls o)) c), black_far)
                            ]
                        | inr po ↦ omega (arith, s.calm q iq qa (λ z. pa (same_up ∙ z)), here, ap (dark ms) same_up, p_dark, d_other p py po)
                      ]
                    ]
              ]
        ]
      ];
      top = λ q iq qa root. elim (cases_eq q o) [
        | inl e ↦ absurd (some_y (sym r.up_x ∙ ap (λ z. (link ms z).parent) (sym e) ∙ root))
        | inr qo ↦ elim (cases_eq q y) [
          | inl e ↦ ap (dark ms) e ∙ dark_of_place y in_y ∙ d_y
          | inr qy ↦ elim (cases_eq q b) [
            | inl e ↦
                let sb : b ≢ none = λ z. in_some ls order q n iq (e ∙ z) in
                absurd (k.some_o (sym (r.up_b sb) ∙ ap (λ z. (link ms z).parent) (sym e) ∙ root))
            | inr qb ↦
                let same_up : (link ms q).parent ≡ (link ls q).parent = turned_up ps ms order o y b up d np t q iq qo qy qb ∙ (same q).parent in
                dark_of_place q iq ∙ d_other q qy qo ∙ s.top q iq qa (sym same_up ∙ root)
          ]
        ]
      ];
    } in
    record {
      short = short;
      side = refl;
      black_at = at_dark;
      black_o = ap (dark ms) up_far ∙ dark_of_place y in_y ∙ d_y;
      red_far = ap (λ z. dark ms (kid_of (link ms z) (not right))) up_far ∙ ap (dark ms) r.is_x ∙ dark_of_place o k.in_o ∙ d_o;
    }
  where
    kept_side : (x : Link) (s : Bool) (to : ℕ) → kid_of (set_kid x (not s) to) s ≡ kid_of x s
    kept_side x true to = refl
    kept_side x false to = refl

-- the black sibling comes up in the colour of the place above, which goes black and down, and so does the red far kid
pub short_end : (ls ms : List Link) (order : List ℕ) (at up o y b u : ℕ) (right red : Bool) → Near ls order → (s : ShortAt ls order at up) → up ≢ none → dark ls at ≡ 1 → s.side ≡ right → kid_of (link ls up) (not right) ≡ o → dark ls o ≡ 1 → kid_of (link ls o) (not right) ≡ y → dark ls y ≡ 0 → red ≡ (link ls up).red → Near (painted (painted (painted ls o red) up false) y false) order → kid_of (link ls o) right ≡ b → (link ls up).parent ≡ u → Turned (painted (painted (painted ls o red) up false) y false) ms up o b u right → Coloured ms order
short_end ls ms order at up o y b u right red n s some black_at e_side eo black_o ey red_y e_red np eb eu t =
    let h = s.height in
    let l1 = painted ls o red in
    let l2 = painted l1 up false in
    let ps = painted l2 y false in
    let b0 : Beside ls order at up h right (kid_of (link ls up) (not right)) = subst (λ (z : Bool). Beside ls order at up h z (kid_of (link ls up) (not z))) e_side (beside ls order at up n s some) in
    let k : Beside ls order at up h right o = subst (λ (z : ℕ). Beside ls order at up h right z) eo b0 in
    let some_y : y ≢ none = red_some ls y n.room red_y in
    let y_down = n.down o (not right) k.in_o (λ z. some_y (sym ey ∙ z)) in
    let y_up : (link ls y).parent ≡ o = ap (λ z. (link ls z).parent) (sym ey) ∙ y_down.0 in
    let in_y : 1 ≤ count y order = omega (arith, y_down.1, ap (λ z. count z order) ey) in
    let y_o : y ≢ o = λ z. n.apart o (not right) k.in_o (ey ∙ z) in
    let y_not_up : y ≢ up = λ z. n.far o (not right) k.in_o (λ w. some_y (sym ey ∙ w)) (ey ∙ z ∙ sym k.o_up) in
    let y_at : y ≢ at = λ z. k.o_not_up (sym y_up ∙ ap (λ w. (link ls w).parent) z ∙ (s.here (λ w. some_y (z ∙ w))).1) in
    let len1 : length l1 ≡ length ls = length-painted ls o red in
    let len2 : length l2 ≡ length ls = length-painted l1 up false ∙ len1 in
    let d_y : dark ps y ≡ 1 = dark-painted_same l2 y false (omega (arith, n.within y in_y, len2)) in
    let d_up : dark ps up ≡ 1 = dark-painted_other l2 y false up (λ z. y_not_up (sym z)) ∙ dark-painted_same l1 up false (omega (arith, n.within up k.in_up, len1)) in
    let d_o : dark ps o ≡ dark ls up = dark-painted_other l2 y false o (λ z. y_o (sym z)) ∙ dark-painted_other l1 up false o k.o_not_up ∙ dark-painted_same ls o red (n.within o k.in_o) ∙ ap (λ z. cond {A = ℕ} z 0 1) e_red in
    let d_other : (q : ℕ) → q ≢ o → q ≢ up → q ≢ y → dark ps q ≡ dark ls q = λ q a c e. dark-painted_other l2 y false q e ∙ dark-painted_other l1 up false q c ∙ dark-painted_other ls o red q a in
    let same : (q : ℕ) → Agree (link ls q) (link ps q) = λ q. (SameTree-painted3 ls o up y red false false).links q in
    let kids : (q : ℕ) (r : Bool) → kid_of (link ps q) r ≡ kid_of (link ls q) r = λ q r. kid_agree (link ls q) (link ps q) r (same q) in
    let level_o = s.level o k.in_o k.o_not_up in
    let h_y : h y ≡ h at = omega (arith, level_o (not right), black_o, k.h_o, ap h ey) in
    let h_b : h b ≡ h at = omega (arith, level_o right, black_o, k.h_o, ap h eb) in
    let b_y : b ≢ y = λ z. n.differ o (not right) k.in_o (λ w. some_y (sym ey ∙ w)) (ey ∙ sym z ∙ sym eb ∙ ap (kid_of (link ls o)) (sym (not-not right))) in
    let h1 = upd h y (h y + 1) in
    let h1_y : h1 y ≡ h y + 1 = upd-eq h y (h y + 1) y refl in
    let h1_other : (q : ℕ) → q ≢ y → h1 q ≡ h q = λ q e. upd-ne h y (h y + 1) q e in
    let h1_up : h1 up ≡ h up = h1_other up (λ z. y_not_up (sym z)) in
    let ey2 : kid_of (link ps up) (not right) ≡ o = kids up (not right) ∙ eo in
    let ebp : kid_of (link ps o) right ≡ b = kids o right ∙ eb in
    let eup : (link ps up).parent ≡ u = (same up).parent ∙ eu in
    let far_is : kid_of (link ps o) (not right) ≡ y = kids o (not right) ∙ ey in
    let hx = 1 + h at in
    let g = upd (upd h1 up hx) o (h1 up) in
    let r : Rotated ps ms order up o b u right h1 g hx = rotated ps ms order up o b u right h1 hx np k.in_up ey2 k.some_o ebp eup t in
    let dark_of_place : (q : ℕ) → 1 ≤ count q order → dark ms q ≡ dark ps q = turned_dark ps ms order up o b u right np t in
    let old_level : (q : ℕ) → 1 ≤ count q order → q ≢ up → q ≢ o → q ≢ none → IsLevel ps h1 q = λ q iq qu qo z r2.
    let kid = kid_of (link ls q) r2 in
    let kid_y : kid ≢ y = kid_not ls order q r2 y n iq some_y (λ w. qo (sym w ∙ y_up)) in
    elim (cases_eq q y) [
      | inl e ↦ omega (arith, ap h1 e, h1_y, ap (dark ps) e, d_y, ap h1 (kids q r2), h1_other kid kid_y, s.level q iq qu r2, ap (dark ls) e, red_y, ap h e)
      | inr qy ↦ omega (arith, h1_other q qy, d_other q qo qu qy, ap h1 (kids q r2), h1_other kid kid_y, s.level q iq qu r2)
    ] in
    let others = rot_level ps ms order up o b u none right h1 hx np k.in_up ey2 k.some_o ebp eup t old_level
    (omega (arith, h1_up, d_o, k.h_up))
    (omega (arith, h1_up, d_o, k.h_up, ap h1 far_is, h1_y, h_y)) in
    let at_is : kid_of (link ps up) right ≡ at = kids up right ∙ k.is_at in
    let at_y : at ≢ y = λ z. y_at (sym z) in
    let level_low = low_level ps ms order up o b u right h1 g hx r (dark_of_place up k.in_up) (omega (arith, d_up, ap h1 at_is, h1_other at at_y)) (omega (arith, d_up, h1_other b b_y, h_b)) in
    let up_dark : dark ls up ≤ 1 = dark-most ls up in
    let more : (p : ℕ) → p ≢ o → dark ls p ≤ dark ps p = λ p po. elim (cases_eq p up) [
      | inl e ↦ omega (arith, ap (dark ps) e, d_up, dark-most ls p)
      | inr pu ↦ elim (cases_eq p y) [
        | inl e ↦ omega (arith, ap (dark ps) e, d_y, dark-most ls p)
        | inr py ↦ omega (arith, d_other p po pu py)
      ]
    ] in
    let kept_dark : (q : ℕ) → 1 ≤ count q order → let p = (link ls q).parent in dark ms p ≡ dark ps p = λ q iq.
    let p = (link ls q).parent in
    elim (cases_eq p none) [
      | inl e ↦ ap (dark ms) e ∙ dark-none ms (omega (arith, t.lengths, np.room)) ∙ sym (dark-none ps np.room) ∙ ap (dark ps) (sym e)
      | inr e ↦ dark_of_place p (n.up q iq e).0
    ] in
    record {
      height = g;
      ends = r.g_none ∙ h1_other none (λ z. some_y (sym z)) ∙ s.ends;
      level = λ q iq. elim (cases_eq q up) [
        | inl e ↦ subst (IsLevel ms g) (sym e) level_low
        | inr qu ↦ others q iq qu (in_some ls order q n iq)
      ];
      calm = λ q iq. elim (cases_eq q up) [
        | inl e ↦ subst (IsCalm ms) (sym e) (omega (arith, dark_of_place up k.in_up, d_up), λ z. dark_of_place up k.in_up ∙ d_up)
        | inr qu ↦ elim (cases_eq q o) [
          | inl e ↦
              let o_now : dark ms o ≡ dark ls up = dark_of_place o k.in_o ∙ d_o in
              let up_at : up ≢ at = λ z. k.at_up (sym z) in
              let root_black : u ≡ none → dark ms o ≡ 1 = λ z. o_now ∙ s.top up k.in_up up_at (eu ∙ z) in
              let p_dark : dark ms u ≡ dark ps u = ap (dark ms) (sym eu) ∙ kept_dark up k.in_up ∙ ap (dark ps) eu in
              let u_o : u ≢ o = λ z. k.o_far (sym z ∙ sym eu) in
              let calm_o : 1 ≤ dark ms o + dark ms u = elim (cases_eq u none) [
                | inl z ↦ omega (arith, root_black z)
                | inr su ↦
                    let u_at : (link ls up).parent ≢ at = λ z. elim (cases_eq at none) [
                      | inl w ↦ su (sym eu ∙ z ∙ w)
                      | inr sa ↦ k.at_far sa (sym z)
                    ] in
                    omega (arith, s.calm up k.in_up up_at u_at, ap (dark ls) eu, o_now, p_dark, more u u_o)
              ] in
              subst (IsCalm ms) (sym e) (omega (arith, calm_o, ap (dark ms) r.up_y), λ z. root_black (sym r.up_y ∙ z))
          | inr qo ↦ elim (cases_eq q b) [
            | inl e ↦
                let sb : b ≢ none = λ z. in_some ls order q n iq (e ∙ z) in
                let new_up : (link ms q).parent ≡ up = ap (λ z. (link ms z).parent) e ∙ r.up_b sb in
                (omega (arith, ap (dark ms) new_up, dark_of_place up k.in_up, d_up), λ z. absurd (some (sym new_up ∙ z)))
            | inr qb ↦
                let p = (link ls q).parent in
                let same_up : (link ms q).parent ≡ p = turned_up ps ms order up o b u right np t q iq qu qo qb ∙ (same q).parent in
                let p_dark : dark ms p ≡ dark ps p = kept_dark q iq in
                elim (cases_eq q y) [
                  | inl e ↦
                      let here : dark ms q ≡ 1 = dark_of_place q iq ∙ ap (dark ps) e ∙ d_y in
                      (omega (arith, here), λ z. here)
                  | inr qy ↦
                      let here : dark ms q ≡ dark ls q = dark_of_place q iq ∙ d_other q qo qu qy in
                      let p_o : p ≢ o = λ e.
                      let up_q = n.up q iq (λ z. k.some_o (sym e ∙ z)) in
                      let is_q : kid_of (link ls o) up_q.1.0 ≡ q = ap (λ z. kid_of (link ls z) up_q.1.0) (sym e) ∙ up_q.1.1 in
                      elim (cases_side right up_q.1.0) [
                        | inl c ↦ qb (sym is_q ∙ ap (kid_of (link ls o)) c ∙ eb)
                        | inr c ↦ qy (sym is_q ∙ ap (kid_of (link ls o)) c ∙ ey)
                      ] in
                      let lower = more p p_o in
                      elim (cases_eq q at) [
                        | inl e ↦
                            let now : dark ms q ≡ 1 = here ∙ ap (dark ls) e ∙ black_at in
                            (omega (arith, now), λ z. now)
                        | inr qa ↦
                            let root_black : p ≡ none → dark ms q ≡ 1 = λ z. here ∙ s.top q iq qa z in
                            elim (cases_eq p at) [
                              | inl e ↦ (omega (arith, ap (dark ms) same_up, p_dark, lower, ap (dark ls) e, black_at), λ z. root_black (sym same_up ∙ z))
                              | inr pa ↦ (omega (arith, ap (dark ms) same_up, p_dark, lower, here, s.calm q iq qa pa), λ z. root_black (sym same_up ∙ z))
                            ]
                      ]
                ]
          ]
        ]
      ];
    }
