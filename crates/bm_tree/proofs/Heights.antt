-- Heights and colours under a write.
use Rattle.std.proofs.Common.{◌≡◌, ◌≢◌, ◌⊎◌, ℕ, ◌+◌, ◌<◌, ◌≤◌, cond, not, Bool, true, false, List, length, refl, sym, ap, ◌∙◌, subst, inl, inr, arith, get_or-set_same, get_or-set_other, length-set}
use Rattle.std.proofs.lemmas.Bool.{cases_eq, eq-eqb, ne_eqb}
use Rattle.std.specs.Prelude.{◌==◌, eqb}
use Rattle.bm_tree.specs.declared.links.Link.{Link}
use Rattle.bm_tree.specs.Links.{none, nil, link, kid_of, set_kid, set_up, painted, sibling_of}
use Rattle.bm_tree.specs.Shape.{count, Agree}
use Rattle.bm_tree.specs.Colours.{dark_of, dark, IsLevel, IsCalm}
use Rattle.bm_tree.proofs.Rotation.{Turned, link_past}
use Rattle.bm_tree.proofs.Near.{Near}

-- the heights with another one at `x`
unfoldable pub upd : (ℕ → ℕ) → ℕ → ℕ → ℕ → ℕ
upd h x v q = cond (eqb q x) v (h q)

pub upd-eq : (h : ℕ → ℕ) (x v q : ℕ) → q ≡ x → upd h x v q ≡ v
unfolding upd
upd-eq h x v q e = rw (eq-eqb q x e) refl

pub upd-ne : (h : ℕ → ℕ) (x v q : ℕ) → q ≢ x → upd h x v q ≡ h q
unfolding upd
upd-ne h x v q d = rw (ne_eqb q x d) refl

pub upd2-ne : (h : ℕ → ℕ) (x v y w q : ℕ) → q ≢ x → q ≢ y → upd (upd h x v) y w q ≡ h q
upd2-ne h x v y w q dx dy = upd-ne (upd h x v) y w q dy ∙ upd-ne h x v q dx

pub dark_by : (x y : Link) → x ≡ y → dark_of x ≡ dark_of y
dark_by x y e = ap dark_of e

pub dark-most : (ls : List Link) (q : ℕ) → dark ls q ≤ 1
dark-most ls q = bit (link ls q).red
  where
    bit : (b : Bool) → cond b 0 1 ≤ 1
    bit true = omega arith
    bit false = omega arith

pub dark-none : (ls : List Link) → length ls ≤ none → dark ls none ≡ 1
dark-none ls room = dark_by (link ls none) nil (link_past ls none room)

-- a red place is a place
pub red_some : (ls : List Link) (q : ℕ) → length ls ≤ none → dark ls q ≡ 0 → q ≢ none
red_some ls q room e n = omega (arith, e, ap (dark ls) n, dark-none ls room)

pub dark-painted_same : (ls : List Link) (p : ℕ) (red : Bool) → p < length ls → dark (painted ls p red) p ≡ cond {A = ℕ} red 0 1
dark-painted_same ls p red within =
    let v : Link = record { left = (link ls p).left; right = (link ls p).right; parent = (link ls p).parent; red = red } in
    dark_by (link (painted ls p red) p) v (get_or-set_same ls p v nil within)

pub dark-painted_other : (ls : List Link) (p : ℕ) (red : Bool) (q : ℕ) → q ≢ p → dark (painted ls p red) q ≡ dark ls q
dark-painted_other ls p red q d =
    let v : Link = record { left = (link ls p).left; right = (link ls p).right; parent = (link ls p).parent; red = red } in
    dark_by (link (painted ls p red) q) (link ls q) (get_or-set_other ls p q v nil d)

pub length-painted : (ls : List Link) (p : ℕ) (red : Bool) → length (painted ls p red) ≡ length ls
length-painted ls p red = simp length-set

pub cases_side : (t r : Bool) → (r ≡ t) ⊎ (r ≡ not t)
cases_side true true = inl refl
cases_side true false = inr refl
cases_side false true = inr refl
cases_side false false = inl refl

pub kid_agree : (x y : Link) (right : Bool) → Agree x y → kid_of y right ≡ kid_of x right
kid_agree x y true a = a.right
kid_agree x y false a = a.left

pub level_by : (ls ms : List Link) (g : ℕ → ℕ) (q : ℕ) → Agree (link ls q) (link ms q) → ((right : Bool) → g q ≡ dark ms q + g (kid_of (link ls q) right)) → IsLevel ms g q
level_by ls ms g q a f right = f right ∙ ap (λ z. dark ms q + g z) (sym (kid_agree (link ls q) (link ms q) right a))

pub calm_by : (ls ms : List Link) (q : ℕ) → Agree (link ls q) (link ms q) → 1 ≤ dark ms q + dark ms (link ls q).parent → ((link ls q).parent ≡ none → dark ms q ≡ 1) → IsCalm ms q
calm_by ls ms q a e f = (omega (arith, e, ap (dark ms) a.parent), λ n. f (sym a.parent ∙ n))

-- the other kid
pub sibling_is : (x : Link) (p : ℕ) (t : Bool) → kid_of x t ≡ p → kid_of x (not t) ≢ p → sibling_of x p ≡ kid_of x (not t)
sibling_is x p false e d = rw (eq-eqb x.left p e) refl
sibling_is x p true e d = rw (ne_eqb x.left p d) refl

-- the side that the code picks for a kid is its side
pub side_is : (x : Link) (p : ℕ) (t : Bool) → kid_of x t ≡ p → kid_of x (not (x.left == p)) ≡ p
side_is x p t e = elim (cases_eq x.left p) [
  | inl same ↦ rw (eq-eqb x.left p same) same
  | inr other ↦ rw (ne_eqb x.left p other) (right_one t e other)
]
  where
    right_one : (t : Bool) → kid_of x t ≡ p → x.left ≢ p → x.right ≡ p
    right_one true e d = e
    right_one false e d = absurd (d e)

pub kid_not : (ls : List Link) (order : List ℕ) (q : ℕ) (right : Bool) (v : ℕ) → Near ls order → 1 ≤ count q order → v ≢ none → (link ls v).parent ≢ q → kid_of (link ls q) right ≢ v
kid_not ls order q right v n i some other e =
    let up = (n.down q right i (λ z. some (sym e ∙ z))).0 in
    other (ap (λ z. (link ls z).parent) (sym e) ∙ up)

pub set_kid_same : (x : Link) (s : Bool) (to up : ℕ) → kid_of (set_up (set_kid x s to) up) s ≡ to
set_kid_same x true to up = refl
set_kid_same x false to up = refl

pub set_kid_other : (x : Link) (s : Bool) (to up : ℕ) → kid_of (set_up (set_kid x s to) up) (not s) ≡ kid_of x (not s)
set_kid_other x true to up = refl
set_kid_other x false to up = refl

pub set_kid_only : (x : Link) (s : Bool) (to : ℕ) → kid_of (set_kid x s to) s ≡ to
set_kid_only x true to = refl
set_kid_only x false to = refl

pub set_kid_kept : (x : Link) (s : Bool) (to : ℕ) → kid_of (set_kid x s to) (not s) ≡ kid_of x (not s)
set_kid_kept x true to = refl
set_kid_kept x false to = refl

pub set_kid_low : (x : Link) (s : Bool) (to up : ℕ) → kid_of (set_up (set_kid x (not s) to) up) s ≡ kid_of x s
set_kid_low x true to up = refl
set_kid_low x false to up = refl

pub not-not : (s : Bool) → not (not s) ≡ s
not-not true = refl
not-not false = refl

pub in_some : (ls : List Link) (order : List ℕ) (q : ℕ) → Near ls order → 1 ≤ count q order → q ≢ none
in_some ls order q n i e = omega (arith, n.within q i, n.room, e)

-- what a rotation leaves: the colours, and on which side which kid is
pub turned_dark : (ls ms : List Link) (order : List ℕ) (x y b u : ℕ) (d : Bool) → Near ls order → Turned ls ms x y b u d → (q : ℕ) → 1 ≤ count q order → dark ms q ≡ dark ls q
turned_dark ls ms order x y b u d n t q i =
    let some : q ≢ none = in_some ls order q n i in
    elim (cases_eq q x) [
      | inl e ↦ ap (dark ms) e ∙ dark_by _ _ t.at_x ∙ ap (dark ls) (sym e)
      | inr dx ↦ elim (cases_eq q y) [
        | inl e ↦ ap (dark ms) e ∙ dark_by _ _ t.at_y ∙ ap (dark ls) (sym e)
        | inr dy ↦ elim (cases_eq q u) [
          | inl e ↦ ap (dark ms) e ∙ dark_by _ _ (t.at_u (λ z. some (e ∙ z))) ∙ ap (dark ls) (sym e)
          | inr du ↦ elim (cases_eq q b) [
            | inl e ↦ ap (dark ms) e ∙ dark_by _ _ (t.at_b (λ z. some (e ∙ z))) ∙ ap (dark ls) (sym e)
            | inr db ↦ dark_by _ _ (t.others q dx dy db du)
          ]
        ]
      ]
    ]

-- the parent of each place that the rotation does not hang elsewhere
pub turned_up : (ls ms : List Link) (order : List ℕ) (x y b u : ℕ) (d : Bool) → Near ls order → Turned ls ms x y b u d → (q : ℕ) → 1 ≤ count q order → q ≢ x → q ≢ y → q ≢ b → (link ms q).parent ≡ (link ls q).parent
turned_up ls ms order x y b u d n t q i dx dy db =
    let some : q ≢ none = in_some ls order q n i in
    elim (cases_eq q u) [
      | inl e ↦ ap (λ z. (link ms z).parent) e ∙ ap (λ (z : Link). z.parent) (t.at_u (λ z. some (e ∙ z))) ∙ ap (λ z. (link ls z).parent) (sym e)
      | inr du ↦ ap (λ (z : Link). z.parent) (t.others q dx dy db du)
    ]

-- where `x` goes down to the side `d` and gets the height `hx`, and `y` gets that of `x`, the ways down of all others stay as long
pub rot_level : (ls ms : List Link) (order : List ℕ) (x y b u but : ℕ) (d : Bool) (h : ℕ → ℕ) (hx : ℕ) → Near ls order → 1 ≤ count x order → kid_of (link ls x) (not d) ≡ y → y ≢ none → kid_of (link ls y) d ≡ b → (link ls x).parent ≡ u → Turned ls ms x y b u d → ((q : ℕ) → 1 ≤ count q order → q ≢ x → q ≢ y → q ≢ but → IsLevel ls h q) → h x ≡ dark ls y + hx → h x ≡ dark ls y + h (kid_of (link ls y) (not d)) → (q : ℕ) → 1 ≤ count q order → q ≢ x → q ≢ but → IsLevel ms (upd (upd h x hx) y (h x)) q
rot_level ls ms order x y b u but d h hx n ix ey sy eb eu t level low high q i dx dbut =
    let g = upd (upd h x hx) y (h x) in
    let sx : x ≢ none = in_some ls order x n ix in
    let kid_some : kid_of (link ls x) (not d) ≢ none = λ z. sy (sym ey ∙ z) in
    let down = n.down x (not d) ix kid_some in
    let iy : 1 ≤ count y order = omega (arith, down.1, ap (λ z. count z order) ey) in
    let y_up : (link ls y).parent ≡ x = ap (λ z. (link ls z).parent) (sym ey) ∙ down.0 in
    let yx : y ≢ x = λ e. n.apart x (not d) ix (ey ∙ e) in
    let yu : y ≢ u = λ e. n.far x (not d) ix kid_some (ey ∙ e ∙ sym eu) in
    let gx : g x ≡ hx = upd-ne (upd h x hx) y (h x) x (λ e. yx (sym e)) ∙ upd-eq h x hx x refl in
    let gy : g y ≡ h x = upd-eq (upd h x hx) y (h x) y refl in
    let same_dark : dark ms q ≡ dark ls q = turned_dark ls ms order x y b u d n t q i in
    elim (cases_eq q y) [
      | inl e ↦
          let dark_y : dark ms y ≡ dark ls y = turned_dark ls ms order x y b u d n t y iy in
          let at_y : (right : Bool) → g y ≡ dark ms y + g (kid_of (link ms y) right) = λ right. elim (cases_side d right) [
            | inl s ↦
                let k : kid_of (link ms y) right ≡ x = ap (kid_of (link ms y)) s ∙ ap (λ z. kid_of z d) t.at_y ∙ set_kid_same (link ls y) d x u in
                omega (arith, gy, dark_y, low, ap g k, gx)
            | inr s ↦
                let k : kid_of (link ms y) right ≡ kid_of (link ls y) (not d) = ap (kid_of (link ms y)) s ∙ ap (λ z. kid_of z (not d)) t.at_y ∙ set_kid_other (link ls y) d x u in
                let other : kid_of (link ls y) (not d) ≢ y = n.apart y (not d) iy in
                let low_one : kid_of (link ls y) (not d) ≢ x = kid_not ls order y (not d) x n iy sx (λ z. yu (sym z ∙ eu)) in
                omega (arith, gy, dark_y, high, ap g k, upd2-ne h x hx y (h x) (kid_of (link ls y) (not d)) low_one other)
          ] in
          subst (IsLevel ms g) (sym e) at_y
      | inr dy ↦
          let gq : g q ≡ h q = upd2-ne h x hx y (h x) q dx dy in
          elim (cases_eq q u) [
            | inl e ↦
                let su : u ≢ none = λ z. in_some ls order q n i (e ∙ z) in
                let iu : 1 ≤ count u order = omega (arith, i, ap (λ z. count z order) e) in
                let up = n.up x ix (λ z. su (sym eu ∙ z)) in
                let kid_x : kid_of (link ls u) up.1.0 ≡ x = ap (λ z. kid_of (link ls z) up.1.0) (sym eu) ∙ up.1.1 in
                let s : Bool = not ((link ls u).left == x) in
                let is_x : kid_of (link ls u) s ≡ x = side_is (link ls u) x up.1.0 kid_x in
                let dark_u : dark ms u ≡ dark ls u = turned_dark ls ms order x y b u d n t u iu in
                let gu : g u ≡ h u = ap g (sym e) ∙ gq ∙ ap h e in
                let level_u : (r : Bool) → h u ≡ dark ls u + h (kid_of (link ls u) r) = level u iu (λ z. dx (e ∙ z)) (λ z. dy (e ∙ z)) (λ z. dbut (e ∙ z)) in
                let at_u : (right : Bool) → g u ≡ dark ms u + g (kid_of (link ms u) right) = λ right. elim (cases_side s right) [
                  | inl c ↦
                      let k : kid_of (link ms u) right ≡ y = ap (kid_of (link ms u)) c ∙ ap (λ z. kid_of z s) (t.at_u su) ∙ set_kid_only (link ls u) s y in
                      omega (arith, gu, dark_u, level_u s, ap g k, gy, ap h is_x)
                  | inr c ↦
                      let k : kid_of (link ms u) right ≡ kid_of (link ls u) (not s) = ap (kid_of (link ms u)) c ∙ ap (λ z. kid_of z (not s)) (t.at_u su) ∙ set_kid_kept (link ls u) s y in
                      let not_x : kid_of (link ls u) (not s) ≢ x = λ z. n.differ u s iu (λ w. sx (sym is_x ∙ w)) (is_x ∙ sym z) in
                      let not_y : kid_of (link ls u) (not s) ≢ y = kid_not ls order u (not s) y n iu sy (λ z. dx (e ∙ sym z ∙ y_up)) in
                      omega (arith, gu, dark_u, level_u (not s), ap g k, upd2-ne h x hx y (h x) (kid_of (link ls u) (not s)) not_x not_y)
                ] in
                subst (IsLevel ms g) (sym e) at_u
            | inr du ↦
                let kids : (right : Bool) → kid_of (link ms q) right ≡ kid_of (link ls q) right = λ right. elim (cases_eq q b) [
                  | inl e ↦ ap (λ z. kid_of (link ms z) right) e ∙ ap (λ z. kid_of z right) (t.at_b (λ z. in_some ls order q n i (e ∙ z))) ∙ lifted_kid (link ls b) x right ∙ ap (λ z. kid_of (link ls z) right) (sym e)
                  | inr db ↦ ap (λ z. kid_of z right) (t.others q dx dy db du)
                ] in
                λ right.
                let not_x : kid_of (link ls q) right ≢ x = kid_not ls order q right x n i sx (λ z. du (sym z ∙ eu)) in
                let not_y : kid_of (link ls q) right ≢ y = kid_not ls order q right y n i sy (λ z. dx (sym z ∙ y_up)) in
                omega (arith, gq, same_dark, level q i dx dy dbut right, ap g (kids right), upd2-ne h x hx y (h x) (kid_of (link ls q) right) not_x not_y)
          ]
    ]
  where
    lifted_kid : (z : Link) (up : ℕ) (right : Bool) → kid_of (set_up z up) right ≡ kid_of z right
    lifted_kid z up true = refl
    lifted_kid z up false = refl

-- the two places of a rotation, with their kids and heights
pub record Rotated (ls ms : List Link) (order : List ℕ) (x y b u : ℕ) (d : Bool) (h g : ℕ → ℕ) (hx : ℕ) : Type 0 where
  pub in_y : 1 ≤ count y order
  pub some_x : x ≢ none
  pub y_x : y ≢ x
  pub y_u : y ≢ u
  pub y_up : (link ls y).parent ≡ x
  pub g_none : g none ≡ h none
  pub g_x : g x ≡ hx
  pub g_y : g y ≡ h x
  pub low : kid_of (link ms x) d ≡ kid_of (link ls x) d
  pub g_low : g (kid_of (link ls x) d) ≡ h (kid_of (link ls x) d)
  pub inner : kid_of (link ms x) (not d) ≡ b
  pub g_inner : g b ≡ h b
  pub is_x : kid_of (link ms y) d ≡ x
  pub far : kid_of (link ms y) (not d) ≡ kid_of (link ls y) (not d)
  pub far_x : kid_of (link ls y) (not d) ≢ x
  pub far_y : kid_of (link ls y) (not d) ≢ y
  pub up_x : (link ms x).parent ≡ y
  pub up_y : (link ms y).parent ≡ u
  pub up_b : b ≢ none → (link ms b).parent ≡ x

pub rotated : (ls ms : List Link) (order : List ℕ) (x y b u : ℕ) (d : Bool) (h : ℕ → ℕ) (hx : ℕ) → Near ls order → 1 ≤ count x order → kid_of (link ls x) (not d) ≡ y → y ≢ none → kid_of (link ls y) d ≡ b → (link ls x).parent ≡ u → Turned ls ms x y b u d → Rotated ls ms order x y b u d h (upd (upd h x hx) y (h x)) hx
rotated ls ms order x y b u d h hx n ix ey sy eb eu t =
    let g = upd (upd h x hx) y (h x) in
    let sx : x ≢ none = in_some ls order x n ix in
    let kid_some : kid_of (link ls x) (not d) ≢ none = λ z. sy (sym ey ∙ z) in
    let down = n.down x (not d) ix kid_some in
    let iy : 1 ≤ count y order = omega (arith, down.1, ap (λ z. count z order) ey) in
    let y_up : (link ls y).parent ≡ x = ap (λ z. (link ls z).parent) (sym ey) ∙ down.0 in
    let yx : y ≢ x = λ e. n.apart x (not d) ix (ey ∙ e) in
    let yu : y ≢ u = λ e. n.far x (not d) ix kid_some (ey ∙ e ∙ sym eu) in
    let low_y : kid_of (link ls x) d ≢ y = λ z. n.differ x (not d) ix kid_some (ey ∙ sym z ∙ ap (kid_of (link ls x)) (sym (not-not d))) in
    let b_x : b ≢ x = λ z. kid_not ls order y d x n iy sx (λ w. yu (sym w ∙ eu)) (eb ∙ z) in
    let b_y : b ≢ y = λ z. n.apart y d iy (eb ∙ z) in
    record {
      in_y = iy;
      some_x = sx;
      y_x = yx;
      y_u = yu;
      y_up = y_up;
      g_none = upd2-ne h x hx y (h x) none (λ z. sx (sym z)) (λ z. sy (sym z));
      g_x = upd-ne (upd h x hx) y (h x) x (λ e. yx (sym e)) ∙ upd-eq h x hx x refl;
      g_y = upd-eq (upd h x hx) y (h x) y refl;
      low = ap (λ z. kid_of z d) t.at_x ∙ set_kid_low (link ls x) d b y;
      g_low = upd2-ne h x hx y (h x) (kid_of (link ls x) d) (n.apart x d ix) low_y;
      inner = ap (λ z. kid_of z (not d)) t.at_x ∙ set_kid_same (link ls x) (not d) b y;
      g_inner = upd2-ne h x hx y (h x) b b_x b_y;
      is_x = ap (λ z. kid_of z d) t.at_y ∙ set_kid_same (link ls y) d x u;
      far = ap (λ z. kid_of z (not d)) t.at_y ∙ set_kid_other (link ls y) d x u;
      far_x = kid_not ls order y (not d) x n iy sx (λ z. yu (sym z ∙ eu));
      far_y = n.apart y (not d) iy;
      up_x = ap (λ (z : Link). z.parent) t.at_x;
      up_y = ap (λ (z : Link). z.parent) t.at_y;
      up_b = λ s. ap (λ (z : Link). z.parent) (t.at_b s);
    }
