-- A red place below a red one: how it goes up the tree, and how rotations end it.
use Rattle.std.proofs.Common.{◌≡◌, ◌≢◌, ℕ, ◌+◌, ◌<◌, ◌≤◌, not, Bool, true, false, List, length, refl, sym, ap, ◌∙◌, subst, inl, inr, arith}
use Rattle.std.proofs.lemmas.Bool.{cases_eq}
use Rattle.std.specs.Prelude.{◌==◌}
use Rattle.bm_tree.specs.declared.links.Link.{Link}
use Rattle.bm_tree.specs.Links.{none, link, kid_of, painted, sibling_of, set_kid}
use Rattle.bm_tree.specs.Shape.{count, Agree}
use Rattle.bm_tree.specs.Colours.{dark, IsLevel, IsCalm, Coloured, RedAt, TwoRed}
use Rattle.bm_tree.proofs.Rotation.{Turned}
use Rattle.bm_tree.proofs.Near.{Near}
use Rattle.bm_tree.proofs.Painting.{SameTree-painted, SameTree-then, SameTree-painted3, Agree-painted}
use Rattle.bm_tree.proofs.Heights.{upd, upd-eq, upd-ne, upd2-ne, dark-most, dark-none, red_some, dark-painted_same, dark-painted_other, length-painted, cases_side, kid_agree, level_by, calm_by, sibling_is, side_is, kid_not, in_some, not-not, set_kid_only, set_kid_kept, Rotated, rotated, turned_dark, turned_up, rot_level}

-- black places stay black where one is painted black
pub dark_more : (ls : List Link) (p q : ℕ) → p < length ls → dark ls q ≤ dark (painted ls p false) q
dark_more ls p q l = elim (cases_eq q p) [
  | inl e ↦ omega (arith, ap (dark (painted ls p false)) e, dark-painted_same ls p false l, dark-most ls q)
  | inr d ↦ omega (arith, dark-painted_other ls p false q d)
]

-- a red place below a red one: the black place above both, and its other kid
pub record Family (ls : List Link) (order : List ℕ) (at up top : ℕ) : Type 0 where
  pub in_up : 1 ≤ count up order
  pub in_top : 1 ≤ count top order
  pub some_up : up ≢ none
  pub some_top : top ≢ none
  pub up_at : up ≢ at
  pub top_up : top ≢ up
  pub top_at : top ≢ at
  pub side : Bool
  pub is_up : kid_of (link ls top) side ≡ up
  pub uncle : sibling_of (link ls top) up ≡ kid_of (link ls top) (not side)
  pub black_top : dark ls top ≡ 1

pub family : (ls : List Link) (order : List ℕ) (at up top : ℕ) → Near ls order → RedAt ls order at → 1 ≤ count at order → (link ls at).parent ≡ up → (link ls up).parent ≡ top → dark ls up ≡ 0 → Family ls order at up top
family ls order at up top n s i eu et red_up =
    let some_up : up ≢ none = red_some ls up n.room red_up in
    let above = n.up at i (λ z. some_up (sym eu ∙ z)) in
    let in_up : 1 ≤ count up order = omega (arith, above.0, ap (λ z. count z order) eu) in
    let is_at : kid_of (link ls up) above.1.0 ≡ at = ap (λ z. kid_of (link ls z) above.1.0) (sym eu) ∙ above.1.1 in
    let up_at : up ≢ at = λ e. n.apart up above.1.0 in_up (is_at ∙ sym e) in
    let calm_up = s.calm up in_up up_at in
    let black_top : dark ls top ≡ 1 = omega (arith, calm_up.0, red_up, ap (dark ls) et, dark-most ls top) in
    let some_top : top ≢ none = λ z. omega (arith, calm_up.1 (et ∙ z), red_up) in
    let above_up = n.up up in_up (λ z. some_top (sym et ∙ z)) in
    let in_top : 1 ≤ count top order = omega (arith, above_up.0, ap (λ z. count z order) et) in
    let side : Bool = above_up.1.0 in
    let is_up : kid_of (link ls top) side ≡ up = ap (λ z. kid_of (link ls z) side) (sym et) ∙ above_up.1.1 in
    let top_up : top ≢ up = λ e. n.apart top side in_top (is_up ∙ sym e) in
    let apart_kids : kid_of (link ls top) (not side) ≢ up = λ z. n.differ top side in_top (λ w. some_up (sym is_up ∙ w)) (is_up ∙ sym z) in
    record {
      in_up = in_up;
      in_top = in_top;
      some_up = some_up;
      some_top = some_top;
      up_at = up_at;
      top_up = top_up;
      top_at = λ e. omega (arith, black_top, s.red, ap (dark ls) e);
      side = side;
      is_up = is_up;
      uncle = sibling_is (link ls top) up side is_up apart_kids;
      black_top = black_top;
    }

-- the parent and the uncle go black, and the place above them red
pub red_step : (ls : List Link) (order : List ℕ) (at up top un : ℕ) → Near ls order → RedAt ls order at → 1 ≤ count at order → (link ls at).parent ≡ up → (link ls up).parent ≡ top → dark ls up ≡ 0 → sibling_of (link ls top) up ≡ un → dark ls un ≡ 0 → RedAt (painted (painted (painted ls up false) un false) top true) order top
red_step ls order at up top un n s i eu et red_up e_un red_un =
    let f = family ls order at up top n s i eu et red_up in
    let l1 = painted ls up false in
    let l2 = painted l1 un false in
    let ms = painted l2 top true in
    let h = s.height in
    let t = f.side in
    let is_un : kid_of (link ls top) (not t) ≡ un = sym f.uncle ∙ e_un in
    let some_un : un ≢ none = red_some ls un n.room red_un in
    let un_down = n.down top (not t) f.in_top (λ z. some_un (sym is_un ∙ z)) in
    let in_un : 1 ≤ count un order = omega (arith, un_down.1, ap (λ z. count z order) is_un) in
    let un_up : (link ls un).parent ≡ top = ap (λ z. (link ls z).parent) (sym is_un) ∙ un_down.0 in
    let un_not_up : un ≢ up = λ z. n.differ top t f.in_top (λ w. f.some_up (sym f.is_up ∙ w)) (f.is_up ∙ sym z ∙ sym is_un) in
    let top_un : top ≢ un = λ z. n.apart top (not t) f.in_top (is_un ∙ sym z) in
    let len1 : length l1 ≡ length ls = length-painted ls up false in
    let len2 : length l2 ≡ length ls = length-painted l1 un false ∙ len1 in
    let d_top : dark ms top ≡ 0 = dark-painted_same l2 top true (omega (arith, n.within top f.in_top, len2)) in
    let d_un : dark ms un ≡ 1 = dark-painted_other l2 top true un (λ z. top_un (sym z)) ∙ dark-painted_same l1 un false (omega (arith, n.within un in_un, len1)) in
    let d_up : dark ms up ≡ 1 = dark-painted_other l2 top true up (λ z. f.top_up (sym z)) ∙ dark-painted_other l1 un false up (λ z. un_not_up (sym z)) ∙ dark-painted_same ls up false (n.within up f.in_up) in
    let d_other : (q : ℕ) → q ≢ up → q ≢ un → q ≢ top → dark ms q ≡ dark ls q = λ q a b c. dark-painted_other l2 top true q c ∙ dark-painted_other l1 un false q b ∙ dark-painted_other ls up false q a in
    let g = upd (upd h up (h up + 1)) un (h un + 1) in
    let g_un : g un ≡ h un + 1 = upd-eq (upd h up (h up + 1)) un (h un + 1) un refl in
    let g_up : g up ≡ h up + 1 = upd-ne (upd h up (h up + 1)) un (h un + 1) up (λ z. un_not_up (sym z)) ∙ upd-eq h up (h up + 1) up refl in
    let g_other : (q : ℕ) → q ≢ up → q ≢ un → g q ≡ h q = λ q a b. upd2-ne h up (h up + 1) un (h un + 1) q a b in
    let same : (q : ℕ) → Agree (link ls q) (link ms q) = λ q. (SameTree-painted3 ls up un top false false true).links q in
    let level : (q : ℕ) → 1 ≤ count q order → IsLevel ms g q = λ q iq.
    level_by ls ms g q (same q) (λ right. elim (cases_eq q top) [
      | inl e ↦
          let at_top : g top ≡ dark ms top + g (kid_of (link ls top) right) = elim (cases_side t right) [
            | inl c ↦
                let k : kid_of (link ls top) right ≡ up = ap (kid_of (link ls top)) c ∙ f.is_up in
                omega (arith, g_other top f.top_up top_un, d_top, ap g k, g_up, s.level top f.in_top right, f.black_top, ap h k)
            | inr c ↦
                let k : kid_of (link ls top) right ≡ un = ap (kid_of (link ls top)) c ∙ is_un in
                omega (arith, g_other top f.top_up top_un, d_top, ap g k, g_un, s.level top f.in_top right, f.black_top, ap h k)
          ] in
          subst (λ (z : ℕ). g z ≡ dark ms z + g (kid_of (link ls z) right)) (sym e) at_top
      | inr dt ↦
          let k = kid_of (link ls q) right in
          let not_up : k ≢ up = kid_not ls order q right up n iq f.some_up (λ z. dt (sym z ∙ et)) in
          let not_un : k ≢ un = kid_not ls order q right un n iq some_un (λ z. dt (sym z ∙ un_up)) in
          elim (cases_eq q up) [
            | inl e ↦ omega (arith, ap g e, g_up, ap (dark ms) e, d_up, g_other k not_up not_un, s.level q iq right, ap (dark ls) e, red_up, ap h e)
            | inr du ↦ elim (cases_eq q un) [
              | inl e ↦ omega (arith, ap g e, g_un, ap (dark ms) e, d_un, g_other k not_up not_un, s.level q iq right, ap (dark ls) e, red_un, ap h e)
              | inr dn ↦ omega (arith, g_other q du dn, d_other q du dn dt, g_other k not_up not_un, s.level q iq right)
            ]
          ]
    ]) in
    let calm : (q : ℕ) → 1 ≤ count q order → q ≢ top → IsCalm ms q = λ q iq dt.
    elim (cases_eq q up) [
      | inl e ↦ calm_by ls ms q (same q) (omega (arith, ap (dark ms) e, d_up)) (λ z. ap (dark ms) e ∙ d_up)
      | inr du ↦ elim (cases_eq q un) [
        | inl e ↦ calm_by ls ms q (same q) (omega (arith, ap (dark ms) e, d_un)) (λ z. ap (dark ms) e ∙ d_un)
        | inr dn ↦
            let p = (link ls q).parent in
            elim (cases_eq q at) [
              | inl e ↦
                  let p_up : p ≡ up = ap (λ z. (link ls z).parent) e ∙ eu in
                  calm_by ls ms q (same q) (omega (arith, ap (dark ms) p_up, d_up)) (λ z. absurd (f.some_up (sym p_up ∙ z)))
              | inr da ↦
                  let old = s.calm q iq da in
                  let here = d_other q du dn dt in
                  elim (cases_eq p top) [
                    | inl e ↦
                        let up_q = n.up q iq (λ z. f.some_top (sym e ∙ z)) in
                        let is_q : kid_of (link ls top) up_q.1.0 ≡ q = ap (λ z. kid_of (link ls z) up_q.1.0) (sym e) ∙ up_q.1.1 in
                        elim (cases_side t up_q.1.0) [
                          | inl c ↦ absurd (du (sym is_q ∙ ap (kid_of (link ls top)) c ∙ f.is_up))
                          | inr c ↦ absurd (dn (sym is_q ∙ ap (kid_of (link ls top)) c ∙ is_un))
                        ]
                    | inr dp ↦
                        let more : dark ls p ≤ dark ms p = elim (cases_eq p up) [
                          | inl e ↦ omega (arith, ap (dark ms) e, d_up, dark-most ls p)
                          | inr pu ↦ elim (cases_eq p un) [
                            | inl e ↦ omega (arith, ap (dark ms) e, d_un, dark-most ls p)
                            | inr pn ↦ omega (arith, d_other p pu pn dp)
                          ]
                        ] in
                        calm_by ls ms q (same q) (omega (arith, old.0, here, more)) (λ z. here ∙ old.1 z)
                  ]
            ]
      ]
    ] in
    record { height = g; ends = g_other none (λ z. f.some_up (sym z)) (λ z. some_un (sym z)) ∙ s.ends; level = level; red = d_top; calm = calm }

-- a red root goes black
pub red_root : (ls : List Link) (order : List ℕ) (at : ℕ) → Near ls order → RedAt ls order at → 1 ≤ count at order → (link ls at).parent ≡ none → Coloured (painted ls at false) order
red_root ls order at n s i root =
    let ms = painted ls at false in
    let h = s.height in
    let some = in_some ls order at n i in
    let g = upd h at (h at + 1) in
    let g_at : g at ≡ h at + 1 = upd-eq h at (h at + 1) at refl in
    let d_at : dark ms at ≡ 1 = dark-painted_same ls at false (n.within at i) in
    let same : (q : ℕ) → Agree (link ls q) (link ms q) = λ q. Agree-painted ls at false q in
    record {
      height = g;
      ends = upd-ne h at (h at + 1) none (λ z. some (sym z)) ∙ s.ends;
      level = λ q iq. level_by ls ms g q (same q) (λ right.
          let k = kid_of (link ls q) right in
          let not_at : k ≢ at = kid_not ls order q right at n iq some (λ z. in_some ls order q n iq (sym z ∙ root)) in
          elim (cases_eq q at) [
            | inl e ↦ omega (arith, ap g e, g_at, ap (dark ms) e, d_at, upd-ne h at (h at + 1) k not_at, s.level q iq right, ap (dark ls) e, s.red, ap h e)
            | inr d ↦ omega (arith, upd-ne h at (h at + 1) q d, dark-painted_other ls at false q d, upd-ne h at (h at + 1) k not_at, s.level q iq right)
          ]);
      calm = λ q iq. elim (cases_eq q at) [
        | inl e ↦ calm_by ls ms q (same q) (omega (arith, ap (dark ms) e, d_at)) (λ z. ap (dark ms) e ∙ d_at)
        | inr d ↦
            let old = s.calm q iq d in
            let here = dark-painted_other ls at false q d in
            calm_by ls ms q (same q) (omega (arith, old.0, here, dark_more ls at (link ls q).parent (n.within at i))) (λ z. here ∙ old.1 z)
      ];
    }

-- below a black place a red one is fine
pub red_fine : (ls : List Link) (order : List ℕ) (at : ℕ) → RedAt ls order at → (link ls at).parent ≢ none → dark ls (link ls at).parent ≡ 1 → Coloured ls order
red_fine ls order at s some black = record {
  height = s.height;
  ends = s.ends;
  level = s.level;
  calm = λ q iq. elim (cases_eq q at) [
    | inl e ↦ subst (IsCalm ls) (sym e) (omega (arith, black), λ z. absurd (some z))
    | inr d ↦ s.calm q iq d
  ];
}

-- the level of the place that goes down
pub low_level : (ls ms : List Link) (order : List ℕ) (x y b u : ℕ) (d : Bool) (h g : ℕ → ℕ) (hx : ℕ) → Rotated ls ms order x y b u d h g hx → dark ms x ≡ dark ls x → hx ≡ dark ls x + h (kid_of (link ls x) d) → hx ≡ dark ls x + h b → IsLevel ms g x
low_level ls ms order x y b u d h g hx r dark_x a c right = elim (cases_side d right) [
  | inl s ↦
      let k : kid_of (link ms x) right ≡ kid_of (link ls x) d = ap (kid_of (link ms x)) s ∙ r.low in
      omega (arith, r.g_x, dark_x, ap g k, r.g_low, a)
  | inr s ↦
      let k : kid_of (link ms x) right ≡ b = ap (kid_of (link ms x)) s ∙ r.inner in
      omega (arith, r.g_x, dark_x, ap g k, r.g_inner, c)
]

-- the red `at`, an inner kid, comes up in the place of its red parent `up`
pub line_up : (ls ms : List Link) (order : List ℕ) (at up top b : ℕ) (right : Bool) → Near ls order → RedAt ls order at → 1 ≤ count at order → (link ls at).parent ≡ up → (link ls up).parent ≡ top → dark ls up ≡ 0 → dark ls (sibling_of (link ls top) up) ≡ 1 → not ((link ls top).left == up) ≡ right → kid_of (link ls up) (not right) ≡ at → kid_of (link ls at) right ≡ b → Turned ls ms up at b top right → TwoRed ms order top at up right
line_up ls ms order at up top b right n s i eu et red_up black_un side is_at eb t =
    let f = family ls order at up top n s i eu et red_up in
    let h = s.height in
    let some_at = in_some ls order at n i in
    let hx = h up in
    let g = upd (upd h up hx) at (h up) in
    let r : Rotated ls ms order up at b top right h g hx = rotated ls ms order up at b top right h hx n f.in_up is_at some_at eb et t in
    let dark_of_place : (q : ℕ) → 1 ≤ count q order → dark ms q ≡ dark ls q = turned_dark ls ms order up at b top right n t in
    let level_up = s.level up f.in_up in
    let level_at = s.level at i in
    let up_at : h up ≡ h at = omega (arith, level_up (not right), red_up, ap h is_at) in
    let others = rot_level ls ms order up at b top none right h hx n f.in_up is_at some_at eb et t (λ q iq d1 d2 d3. s.level q iq) (omega (arith, s.red)) (omega (arith, s.red, up_at, level_at (not right))) in
    let is_up : kid_of (link ls top) right ≡ up = subst (λ (z : Bool). kid_of (link ls top) z ≡ up) side (side_is (link ls top) up f.side f.is_up) in
    let top_at : link ms top ≡ set_kid (link ls top) (not ((link ls top).left == up)) at = t.at_u f.some_top in
    let top_now : kid_of (link ms top) right ≡ at = ap (λ (z : Link). kid_of z right) top_at ∙ subst (λ (z : Bool). kid_of (set_kid (link ls top) z at) right ≡ at) (sym side) (set_kid_only (link ls top) right at) in
    let top_other : kid_of (link ms top) (not right) ≡ kid_of (link ls top) (not right) = ap (λ (z : Link). kid_of z (not right)) top_at ∙ subst (λ (z : Bool). kid_of (set_kid (link ls top) z at) (not right) ≡ kid_of (link ls top) (not right)) (sym side) (set_kid_kept (link ls top) right at) in
    let some_top_kid : kid_of (link ls top) right ≢ none = λ z. f.some_up (sym is_up ∙ z) in
    let un_is : sibling_of (link ls top) up ≡ kid_of (link ls top) (not right) = sibling_is (link ls top) up right is_up (λ z. n.differ top right f.in_top some_top_kid (is_up ∙ sym z)) in
    let un = kid_of (link ls top) (not right) in
    let un_dark : dark ls un ≡ 1 = ap (dark ls) (sym un_is) ∙ black_un in
    let un_now : dark ms un ≡ 1 = elim (cases_eq un none) [
      | inl e ↦ ap (dark ms) e ∙ dark-none ms (omega (arith, t.lengths, n.room))
      | inr e ↦ dark_of_place un (n.down top (not right) f.in_top e).1 ∙ un_dark
    ] in
    record {
      height = g;
      ends = r.g_none ∙ s.ends;
      level = λ q iq. elim (cases_eq q up) [
        | inl e ↦ subst (IsLevel ms g) (sym e) (low_level ls ms order up at b top right h g hx r (dark_of_place up f.in_up) (level_up right) (omega (arith, up_at, red_up, s.red, level_at right, ap h eb)))
        | inr d ↦ others q iq d (in_some ls order q n iq)
      ];
      in_top = f.in_top;
      is_mid = top_now;
      is_low = r.is_x;
      black_top = dark_of_place top f.in_top ∙ f.black_top;
      red_mid = dark_of_place at i ∙ s.red;
      red_low = dark_of_place up f.in_up ∙ red_up;
      black_uncle = ap (dark ms) top_other ∙ un_now;
      calm = λ q iq d. elim (cases_eq q at) [
        | inl e ↦ subst (IsCalm ms) (sym e) (omega (arith, ap (dark ms) r.up_y, dark_of_place top f.in_top, f.black_top), λ z. absurd (f.some_top (sym r.up_y ∙ z)))
        | inr da ↦
            let old = s.calm q iq da in
            let here = dark_of_place q iq in
            elim (cases_eq q b) [
              | inl e ↦
                  let some_b : b ≢ none = λ z. in_some ls order q n iq (e ∙ z) in
                  let old_up : (link ls q).parent ≡ at = ap (λ z. (link ls z).parent) (e ∙ sym eb) ∙ (n.down at right i (λ z. some_b (sym eb ∙ z))).0 in
                  let new_up : (link ms q).parent ≡ up = ap (λ z. (link ms z).parent) e ∙ r.up_b some_b in
                  (omega (arith, old.0, ap (dark ls) old_up, s.red, here), λ z. absurd (f.some_up (sym new_up ∙ z)))
              | inr db ↦
                  let same_up : (link ms q).parent ≡ (link ls q).parent = turned_up ls ms order up at b top right n t q iq d da db in
                  let p = (link ls q).parent in
                  let p_dark : dark ms p ≡ dark ls p = elim (cases_eq p none) [
                    | inl e ↦ ap (dark ms) e ∙ dark-none ms (omega (arith, t.lengths, n.room)) ∙ sym (dark-none ls n.room) ∙ ap (dark ls) (sym e)
                    | inr e ↦ dark_of_place p (n.up q iq e).0
                  ] in
                  (omega (arith, old.0, here, p_dark, ap (dark ms) same_up), λ z. here ∙ old.1 (sym same_up ∙ z))
            ]
      ];
    }

-- the middle one of two red places in a line goes black and comes up, and the black one above them goes red
pub red_end : (ls ms : List Link) (order : List ℕ) (top mid low b u : ℕ) (right : Bool) → Near ls order → TwoRed ls order top mid low right → Near (painted (painted ls mid false) top true) order → kid_of (link ls mid) (not right) ≡ b → (link ls top).parent ≡ u → Turned (painted (painted ls mid false) top true) ms top mid b u (not right) → Coloured ms order
red_end ls ms order top mid low b u right n s np eb eu t =
    let l1 = painted ls mid false in
    let ps = painted l1 top true in
    let d : Bool = not right in
    let h = s.height in
    let some_mid : mid ≢ none = red_some ls mid n.room s.red_mid in
    let some_top = in_some ls order top n s.in_top in
    let down = n.down top right s.in_top (λ z. some_mid (sym s.is_mid ∙ z)) in
    let in_mid : 1 ≤ count mid order = omega (arith, down.1, ap (λ z. count z order) s.is_mid) in
    let mid_top : mid ≢ top = λ z. omega (arith, s.black_top, s.red_mid, ap (dark ls) z) in
    let d_top : dark ps top ≡ 0 = dark-painted_same l1 top true (omega (arith, n.within top s.in_top, length-painted ls mid false)) in
    let d_mid : dark ps mid ≡ 1 = dark-painted_other l1 top true mid mid_top ∙ dark-painted_same ls mid false (n.within mid in_mid) in
    let d_other : (q : ℕ) → q ≢ mid → q ≢ top → dark ps q ≡ dark ls q = λ q a c. dark-painted_other l1 top true q c ∙ dark-painted_other ls mid false q a in
    let same : (q : ℕ) → Agree (link ls q) (link ps q) = λ q. (SameTree-then ls l1 ps (SameTree-painted ls mid false) (SameTree-painted l1 top true)).links q in
    let kids : (q : ℕ) (r : Bool) → kid_of (link ps q) r ≡ kid_of (link ls q) r = λ q r. kid_agree (link ls q) (link ps q) r (same q) in
    let ey : kid_of (link ps top) (not d) ≡ mid = kids top (not d) ∙ ap (kid_of (link ls top)) (not-not right) ∙ s.is_mid in
    let ebp : kid_of (link ps mid) d ≡ b = kids mid d ∙ eb in
    let eup : (link ps top).parent ≡ u = (same top).parent ∙ eu in
    let low_is : kid_of (link ps mid) (not d) ≡ low = kids mid (not d) ∙ ap (kid_of (link ls mid)) (not-not right) ∙ s.is_low in
    let hx = h mid in
    let g = upd (upd h top hx) mid (h top) in
    let r : Rotated ps ms order top mid b u d h g hx = rotated ps ms order top mid b u d h hx np s.in_top ey some_mid ebp eup t in
    let dark_of_place : (q : ℕ) → 1 ≤ count q order → dark ms q ≡ dark ps q = turned_dark ps ms order top mid b u d np t in
    let level_top = s.level top s.in_top in
    let level_mid = s.level mid in_mid in
    let top_mid : h top ≡ 1 + h mid = omega (arith, level_top right, s.black_top, ap h s.is_mid) in
    let old_level : (q : ℕ) → 1 ≤ count q order → q ≢ top → q ≢ mid → IsLevel ps h q = λ q iq c a right2. omega (arith, s.level q iq right2, d_other q a c, ap h (kids q right2)) in
    let others = rot_level ps ms order top mid b u none d h hx np s.in_top ey some_mid ebp eup t (λ q iq c a z. old_level q iq c a) (omega (arith, d_mid, top_mid)) (omega (arith, d_mid, top_mid, level_mid right, s.red_mid, ap h s.is_low, ap h low_is)) in
    record {
      height = g;
      ends = r.g_none ∙ s.ends;
      level = λ q iq. elim (cases_eq q top) [
        | inl e ↦ subst (IsLevel ms g) (sym e) (low_level ps ms order top mid b u d h g hx r (dark_of_place top s.in_top) (omega (arith, d_top, top_mid, level_top d, s.black_top, ap h (kids top d))) (omega (arith, d_top, level_mid d, s.red_mid, ap h eb)))
        | inr c ↦ others q iq c (in_some ls order q n iq)
      ];
      calm = λ q iq. elim (cases_eq q top) [
        | inl e ↦ subst (IsCalm ms) (sym e) (omega (arith, ap (dark ms) r.up_x, dark_of_place mid in_mid, d_mid), λ z. absurd (some_mid (sym r.up_x ∙ z)))
        | inr qt ↦ elim (cases_eq q mid) [
          | inl e ↦ subst (IsCalm ms) (sym e) (omega (arith, dark_of_place mid in_mid, d_mid), λ z. dark_of_place mid in_mid ∙ d_mid)
          | inr qm ↦
              let here : dark ms q ≡ dark ls q = dark_of_place q iq ∙ d_other q qm qt in
              elim (cases_eq q b) [
                | inl e ↦
                    let some_b : b ≢ none = λ z. in_some ls order q n iq (e ∙ z) in
                    let old_up : (link ls q).parent ≡ mid = ap (λ z. (link ls z).parent) (e ∙ sym eb) ∙ (n.down mid d in_mid (λ z. some_b (sym eb ∙ z))).0 in
                    let new_up : (link ms q).parent ≡ top = ap (λ z. (link ms z).parent) e ∙ r.up_b some_b in
                    let q_low : q ≢ low = λ z. n.differ mid d in_mid (λ w. some_b (sym eb ∙ w)) (eb ∙ sym e ∙ z ∙ sym s.is_low ∙ ap (kid_of (link ls mid)) (sym (not-not right))) in
                    let old = s.calm q iq q_low in
                    (omega (arith, old.0, ap (dark ls) old_up, s.red_mid, here), λ z. absurd (some_top (sym new_up ∙ z)))
                | inr qb ↦
                    let p = (link ls q).parent in
                    let same_up : (link ms q).parent ≡ p = turned_up ps ms order top mid b u d np t q iq qt qm qb ∙ (same q).parent in
                    let p_dark : dark ms p ≡ dark ps p = elim (cases_eq p none) [
                      | inl e ↦ ap (dark ms) e ∙ dark-none ms (omega (arith, t.lengths, np.room)) ∙ sym (dark-none ps np.room) ∙ ap (dark ps) (sym e)
                      | inr e ↦ dark_of_place p (n.up q iq e).0
                    ] in
                    elim (cases_eq p mid) [
                      | inl e ↦ (omega (arith, ap (dark ms) same_up, p_dark, ap (dark ps) e, d_mid), λ z. absurd (some_mid (sym e ∙ sym same_up ∙ z)))
                      | inr pm ↦
                          let q_low : q ≢ low = λ z. pm (ap (λ w. (link ls w).parent) (z ∙ sym s.is_low) ∙ (n.down mid right in_mid (λ w. red_some ls low n.room s.red_low (sym s.is_low ∙ w))).0) in
                          let old = s.calm q iq q_low in
                          elim (cases_eq p top) [
                            | inl e ↦
                                let up_q = n.up q iq (λ z. some_top (sym e ∙ z)) in
                                let is_q : kid_of (link ls top) up_q.1.0 ≡ q = ap (λ z. kid_of (link ls z) up_q.1.0) (sym e) ∙ up_q.1.1 in
                                elim (cases_side right up_q.1.0) [
                                  | inl c ↦ absurd (qm (sym is_q ∙ ap (kid_of (link ls top)) c ∙ s.is_mid))
                                  | inr c ↦
                                      let is_un : q ≡ kid_of (link ls top) (not right) = sym is_q ∙ ap (kid_of (link ls top)) c in
                                      (omega (arith, here, ap (dark ls) is_un, s.black_uncle), λ z. absurd (some_top (sym e ∙ sym same_up ∙ z)))
                                ]
                            | inr pt ↦ (omega (arith, old.0, here, p_dark, d_other p pm pt, ap (dark ms) same_up), λ z. here ∙ old.1 (sym same_up ∙ z))
                          ]
                    ]
              ]
        ]
      ];
    }

-- where the red one is an outer kid already
pub in_line : (ls : List Link) (order : List ℕ) (at up top : ℕ) (right : Bool) → Near ls order → RedAt ls order at → 1 ≤ count at order → (link ls at).parent ≡ up → (link ls up).parent ≡ top → dark ls up ≡ 0 → dark ls (sibling_of (link ls top) up) ≡ 1 → not ((link ls top).left == up) ≡ right → kid_of (link ls up) (not right) ≢ at → TwoRed ls order top up at right
in_line ls order at up top right n s i eu et red_up black_un side outer =
    let f = family ls order at up top n s i eu et red_up in
    let is_up : kid_of (link ls top) right ≡ up = subst (λ (z : Bool). kid_of (link ls top) z ≡ up) side (side_is (link ls top) up f.side f.is_up) in
    let some_top_kid : kid_of (link ls top) right ≢ none = λ z. f.some_up (sym is_up ∙ z) in
    let un_is : sibling_of (link ls top) up ≡ kid_of (link ls top) (not right) = sibling_is (link ls top) up right is_up (λ z. n.differ top right f.in_top some_top_kid (is_up ∙ sym z)) in
    let up_at = n.up at i (λ z. f.some_up (sym eu ∙ z)) in
    let is_at : kid_of (link ls up) up_at.1.0 ≡ at = ap (λ z. kid_of (link ls z) up_at.1.0) (sym eu) ∙ up_at.1.1 in
    record {
      height = s.height;
      ends = s.ends;
      level = s.level;
      in_top = f.in_top;
      is_mid = is_up;
      is_low = elim (cases_side right up_at.1.0) [
        | inl c ↦ ap (kid_of (link ls up)) (sym c) ∙ is_at
        | inr c ↦ absurd (outer (ap (kid_of (link ls up)) (sym c) ∙ is_at))
      ];
      black_top = f.black_top;
      red_mid = red_up;
      red_low = s.red;
      black_uncle = ap (dark ls) (sym un_is) ∙ black_un;
      calm = s.calm;
    }
