-- The steps that balance, over what the calls of the code say.
use Rattle.std.proofs.Common.{◌≡◌, ◌≢◌, ◌⊎◌, ℕ, ◌≤◌, not, cond, Bool, true, false, List, refl, sym, ap, ◌∙◌, subst, inl, inr, arith}
use Rattle.std.proofs.lemmas.Bool.{cases_eq}
use Rattle.std.specs.Prelude.{◌==◌}
use Rattle.bm_tree.specs.declared.links.Link.{Link}
use Rattle.bm_tree.specs.Links.{none, link, kid_of, painted, sibling_of}
use Rattle.bm_tree.specs.Shape.{count, Holds}
use Rattle.bm_tree.specs.Turning.{Turned, Turns}
use Rattle.bm_tree.specs.Colours.{dark, Coloured, RedAt, ShortAt, TwoRed, RedFar, HasBlackKids}
use Rattle.bm_tree.specs.Balancing.{StopsRed, LinesUp, GoesUp, RotatesUp}
use Rattle.bm_tree.proofs.Near.{Near, near}
use Rattle.bm_tree.proofs.Heights.{dark-most, dark-painted_other, red_some, in_some, not-not, kid_agree}
use Rattle.bm_tree.proofs.Painting.{SameTree-painted, SameTree-then}
use Rattle.bm_tree.proofs.RedRed.{family, line_up, red_end}
use Rattle.bm_tree.proofs.Short.{Beside, beside, black_step, short_red, short_root}
use Rattle.bm_tree.proofs.ShortTurns.{RedAbove, red_sibling, red_near, short_end}

pub red_dark : (ls : List Link) (q : ℕ) → (link ls q).red ≡ true → dark ls q ≡ 0
red_dark ls q e = let f : Bool → ℕ = λ b. cond b 0 1 in ap f e

pub black_dark : (ls : List Link) (q : ℕ) → (link ls q).red ≡ false → dark ls q ≡ 1
black_dark ls q e = let f : Bool → ℕ = λ b. cond b 0 1 in ap f e

pub dark_black : (ls : List Link) (q : ℕ) → dark ls q ≡ 1 → (link ls q).red ≡ false
dark_black ls q e = bit (link ls q).red e
  where
    bit : (b : Bool) → cond {A = ℕ} b 0 1 ≡ 1 → b ≡ false
    bit false e = refl
    bit true e = absurd (omega (arith, e))

-- where the climb of a red place ends below a red parent, the uncle is black
pub uncle_black : (ls : List Link) (order : List ℕ) (at : ℕ) → Near ls order → RedAt ls order at → 1 ≤ count at order → let up = (link ls at).parent in dark ls up ≡ 0 → StopsRed ls at → dark ls (sibling_of (link ls (link ls up).parent) up) ≡ 1
uncle_black ls order at n s i red_up stops =
    let up = (link ls at).parent in
    let f = family ls order at up (link ls up).parent n s i refl refl red_up in
    elim stops [
      | inl black ↦ absurd (omega (arith, black, red_up))
      | inr two ↦ elim two [
        | inl black ↦ black
        | inr same ↦ absurd (n.differ (link ls up).parent f.side f.in_top (λ z. f.some_up (sym f.is_up ∙ z)) (f.is_up ∙ sym same ∙ f.uncle))
      ]
    ]

pub line_up_at : (ls ms : List Link) (root : ℕ) (order : List ℕ) (at up : ℕ) (right : Bool) → Holds ls root order → Turns ls ms root up right → RedAt ls order at → 1 ≤ count at order → (link ls at).parent ≡ up → dark ls up ≡ 0 → let top = (link ls up).parent in dark ls (sibling_of (link ls top) up) ≡ 1 → not ((link ls top).left == up) ≡ right → kid_of (link ls up) (not right) ≡ at → TwoRed ms order top at up right
line_up_at ls ms root order at up right h turns s i eu red_up black_un side is_at =
    let n = near ls root order h in
    let top = (link ls up).parent in
    let f = family ls order at up top n s i eu refl red_up in
    let t = turns order h f.in_up (λ z. in_some ls order at n i (sym is_at ∙ z)) in
    let t2 : Turned ls ms up at (kid_of (link ls at) right) top right = subst (λ (z : ℕ). Turned ls ms up z (kid_of (link ls z) right) top right) is_at t in
    line_up ls ms order at up top _ right n s i eu refl red_up black_un side is_at refl t2

pub red_end_at : (ls ps ms : List Link) (root root2 : ℕ) (order : List ℕ) (top mid mid2 low : ℕ) (right : Bool) → Holds ls root order → Holds ps root2 order → TwoRed ls order top mid low right → mid2 ≡ kid_of (link ls top) right → ps ≡ painted (painted ls mid2 false) top true → Turns ps ms root2 top (not right) → Coloured ms order
red_end_at ls ps ms root root2 order top mid mid2 low right h hp s e_mid e turns =
    let n = near ls root order h in
    let same_mid : mid2 ≡ mid = e_mid ∙ s.is_mid in
    let qs = painted (painted ls mid false) top true in
    let e2 : ps ≡ qs = e ∙ ap (λ z. painted (painted ls z false) top true) same_mid in
    let hq : Holds qs root2 order = subst (λ (z : List Link). Holds z root2 order) e2 hp in
    let turns2 : Turns qs ms root2 top (not right) = subst (λ (z : List Link). Turns z ms root2 top (not right)) e2 turns in
    let nq = near qs root2 order hq in
    let kids : (q : ℕ) (r : Bool) → kid_of (link qs q) r ≡ kid_of (link ls q) r = λ q r. kid_agree (link ls q) (link qs q) r ((SameTree-then ls (painted ls mid false) qs (SameTree-painted ls mid false) (SameTree-painted (painted ls mid false) top true)).links q) in
    let ups : (link qs top).parent ≡ (link ls top).parent = ((SameTree-then ls (painted ls mid false) qs (SameTree-painted ls mid false) (SameTree-painted (painted ls mid false) top true)).links top).parent in
    let y_is : kid_of (link qs top) (not (not right)) ≡ mid = kids top (not (not right)) ∙ ap (kid_of (link ls top)) (not-not right) ∙ s.is_mid in
    let t = turns2 order hq s.in_top (λ z. red_some ls mid n.room s.red_mid (sym y_is ∙ z)) in
    let t2 : Turned qs ms top mid (kid_of (link qs mid) (not right)) (link qs top).parent (not right) = subst (λ (z : ℕ). Turned qs ms top z (kid_of (link qs z) (not right)) (link qs top).parent (not right)) y_is t in
    red_end ls ms order top mid low _ _ right n s nq (sym (kids mid (not right))) (sym ups) t2

pub red_sibling_at : (ls ps ms : List Link) (root root2 : ℕ) (order : List ℕ) (at up o : ℕ) (right : Bool) → Holds ls root order → Holds ps root2 order → (s : ShortAt ls order at up) → up ≢ none → dark ls at ≡ 1 → s.side ≡ right → o ≡ kid_of (link ls up) (not right) → dark ls o ≡ 0 → ps ≡ painted (painted ls o false) up true → Turns ps ms root2 up right → RedAbove ms order at up right
red_sibling_at ls ps ms root root2 order at up o right h hp s some black_at side e_o red_o e turns =
    let n = near ls root order h in
    let qs = painted (painted ls o false) up true in
    let hq : Holds qs root2 order = subst (λ (z : List Link). Holds z root2 order) e hp in
    let turns2 : Turns qs ms root2 up right = subst (λ (z : List Link). Turns z ms root2 up right) e turns in
    let nq = near qs root2 order hq in
    let same = SameTree-then ls (painted ls o false) qs (SameTree-painted ls o false) (SameTree-painted (painted ls o false) up true) in
    let kids : (q : ℕ) (r : Bool) → kid_of (link qs q) r ≡ kid_of (link ls q) r = λ q r. kid_agree (link ls q) (link qs q) r (same.links q) in
    let y_is : kid_of (link qs up) (not right) ≡ o = kids up (not right) ∙ sym e_o in
    let t = turns2 order hq (s.above some) (λ z. red_some ls o n.room red_o (sym y_is ∙ z)) in
    let t2 : Turned qs ms up o (kid_of (link qs o) right) (link qs up).parent right = subst (λ (z : ℕ). Turned qs ms up z (kid_of (link qs z) right) (link qs up).parent right) y_is t in
    red_sibling ls ms order at up o _ _ right n s some black_at side (sym e_o) red_o nq (sym (kids o right)) (sym (same.links up).parent) t2

pub red_near_at : (ls ps ms : List Link) (root root2 : ℕ) (order : List ℕ) (at up o y : ℕ) (right : Bool) → Holds ls root order → Holds ps root2 order → (s : ShortAt ls order at up) → up ≢ none → s.side ≡ right → dark ls at ≡ 1 → kid_of (link ls up) (not right) ≡ o → dark ls o ≡ 1 → dark ls (kid_of (link ls o) (not right)) ≡ 1 → y ≡ kid_of (link ls o) right → dark ls y ≡ 0 → ps ≡ painted (painted ls y false) o true → Turns ps ms root2 o (not right) → RedFar ms order at up right
red_near_at ls ps ms root root2 order at up o y right h hp s some side black_at e_o black_o black_far e_y red_y e turns =
    let n = near ls root order h in
    let d : Bool = not right in
    let b0 : Beside ls order at up s.height right (kid_of (link ls up) (not right)) = subst (λ (z : Bool). Beside ls order at up s.height z (kid_of (link ls up) (not z))) side (beside ls order at up n s some) in
    let k : Beside ls order at up s.height right o = subst (λ (z : ℕ). Beside ls order at up s.height right z) e_o b0 in
    let qs = painted (painted ls y false) o true in
    let hq : Holds qs root2 order = subst (λ (z : List Link). Holds z root2 order) e hp in
    let turns2 : Turns qs ms root2 o d = subst (λ (z : List Link). Turns z ms root2 o d) e turns in
    let nq = near qs root2 order hq in
    let same = SameTree-then ls (painted ls y false) qs (SameTree-painted ls y false) (SameTree-painted (painted ls y false) o true) in
    let kids : (q : ℕ) (r : Bool) → kid_of (link qs q) r ≡ kid_of (link ls q) r = λ q r. kid_agree (link ls q) (link qs q) r (same.links q) in
    let y_is : kid_of (link qs o) (not d) ≡ y = kids o (not d) ∙ ap (kid_of (link ls o)) (not-not right) ∙ sym e_y in
    let t = turns2 order hq k.in_o (λ z. red_some ls y n.room red_y (sym y_is ∙ z)) in
    let t2 : Turned qs ms o y (kid_of (link qs y) d) up d = subst (λ (z : ℕ). Turned qs ms o y (kid_of (link qs y) d) z d) ((same.links o).parent ∙ k.o_up) (subst (λ (z : ℕ). Turned qs ms o z (kid_of (link qs z) d) (link qs o).parent d) y_is t) in
    red_near ls ms order at up o y _ right n s some side black_at e_o black_o black_far (sym e_y) red_y nq (sym (kids y d)) t2

pub short_end_at : (ls ps ms : List Link) (root root2 : ℕ) (order : List ℕ) (at up o y : ℕ) (right red : Bool) → Holds ls root order → Holds ps root2 order → (s : ShortAt ls order at up) → up ≢ none → dark ls at ≡ 1 → s.side ≡ right → o ≡ kid_of (link ls up) (not right) → dark ls o ≡ 1 → y ≡ kid_of (link ls o) (not right) → dark ls y ≡ 0 → red ≡ (link ls up).red → ps ≡ painted (painted (painted ls o red) up false) y false → Turns ps ms root2 up right → Coloured ms order
short_end_at ls ps ms root root2 order at up o y right red h hp s some black_at side e_o black_o e_y red_y e_red e turns =
    let n = near ls root order h in
    let l1 = painted ls o red in
    let l2 = painted l1 up false in
    let qs = painted l2 y false in
    let b0 : Beside ls order at up s.height right (kid_of (link ls up) (not right)) = subst (λ (z : Bool). Beside ls order at up s.height z (kid_of (link ls up) (not z))) side (beside ls order at up n s some) in
    let hq : Holds qs root2 order = subst (λ (z : List Link). Holds z root2 order) e hp in
    let turns2 : Turns qs ms root2 up right = subst (λ (z : List Link). Turns z ms root2 up right) e turns in
    let nq = near qs root2 order hq in
    let same = SameTree-then ls l2 qs (SameTree-then ls l1 l2 (SameTree-painted ls o red) (SameTree-painted l1 up false)) (SameTree-painted l2 y false) in
    let kids : (q : ℕ) (r : Bool) → kid_of (link qs q) r ≡ kid_of (link ls q) r = λ q r. kid_agree (link ls q) (link qs q) r (same.links q) in
    let y_is : kid_of (link qs up) (not right) ≡ o = kids up (not right) ∙ sym e_o in
    let t = turns2 order hq (s.above some) (λ z. b0.some_o (sym e_o ∙ sym y_is ∙ z)) in
    let t2 : Turned qs ms up o (kid_of (link qs o) right) (link qs up).parent right = subst (λ (z : ℕ). Turned qs ms up z (kid_of (link qs z) right) (link qs up).parent right) y_is t in
    short_end ls ms order at up o y _ _ right red n s some black_at side (sym e_o) black_o (sym e_y) red_y e_red nq (sym (kids o right)) (sym (same.links up).parent) t2

-- a black sibling has a red kid, and not the far one
pub near_red : (ls : List Link) (o : ℕ) (right : Bool) → (HasBlackKids ls o → ⊥) → dark ls (kid_of (link ls o) (not right)) ≡ 1 → dark ls (kid_of (link ls o) right) ≡ 0
near_red ls o right some_red far = elim (cases_eq (dark ls (kid_of (link ls o) right)) 0) [
  | inl e ↦ e
  | inr d ↦ absurd (some_red (both right (omega (arith, d, dark-most ls (kid_of (link ls o) right))) far))
]
  where
    both : (r : Bool) → dark ls (kid_of (link ls o) r) ≡ 1 → dark ls (kid_of (link ls o) (not r)) ≡ 1 → HasBlackKids ls o
    both true a b = (b, a)
    both false a b = (a, b)

pub kids_black : (ls : List Link) (o : ℕ) → HasBlackKids ls o → (r : Bool) → dark ls (kid_of (link ls o) r) ≡ 1
kids_black ls o b true = b.1
kids_black ls o b false = b.0

-- where the climb ends below a black sibling, that has a red kid
pub stops_red_kid : (ls : List Link) (order : List ℕ) (at up o : ℕ) → Near ls order → (s : ShortAt ls order at up) → up ≢ none → dark ls at ≡ 1 → (GoesUp ls at up (sibling_of (link ls up) at) → ⊥) → o ≡ kid_of (link ls up) (not s.side) → dark ls o ≡ 1 → HasBlackKids ls o → ⊥
stops_red_kid ls order at up o n s some black_at stops e_o black_o kids =
    let b = beside ls order at up n s some in
    let is : o ≡ sibling_of (link ls up) at = e_o ∙ sym b.sibling in
    let go : GoesUp ls at up o = record {
      black_at = black_at;
      some_up = some;
      within = omega (arith, n.within (kid_of (link ls up) (not s.side)) b.in_o, e_o);
      black_other = black_o;
      black_kids = kids;
    } in
    stops (subst (GoesUp ls at up) is go)

pub code_side : (ls : List Link) (order : List ℕ) (at up : ℕ) → Near ls order → (s : ShortAt ls order at up) → up ≢ none → s.side ≡ not ((link ls up).left == at)
code_side ls order at up n s some = sym (beside ls order at up n s some).code_side

-- the near kid after the red sibling came up: black with black kids, it goes red, and the place above black
pub red_above_end : (ls ms : List Link) (order : List ℕ) (at up o : ℕ) (right : Bool) → Near ls order → (s : RedAbove ls order at up right) → Near (painted ls o true) order → up ≢ none → dark ls at ≡ 1 → o ≡ kid_of (link ls up) (not right) → HasBlackKids ls o → ms ≡ painted (painted ls o true) up false → Coloured ms order
red_above_end ls ms order at up o right n s np some black_at e_o kids e =
    let b0 = beside ls order at up n s.short some in
    let is_o : sibling_of (link ls up) at ≡ o = b0.sibling ∙ ap (λ (z : Bool). kid_of (link ls up) (not z)) s.side ∙ sym e_o in
    let step = black_step ls order at up o n s.short some black_at is_o (ap (dark ls) e_o ∙ s.black_near) (kids_black ls o kids) in
    let o_up : up ≢ o = λ z. b0.o_not_up (sym (z ∙ e_o ∙ ap (λ (w : Bool). kid_of (link ls up) (not w)) (sym s.side))) in
    let red : dark (painted ls o true) up ≡ 0 = dark-painted_other ls o true up o_up ∙ s.red_up in
    subst (λ (z : List Link). Coloured z order) (sym e) (short_red (painted ls o true) order up (link ls up).parent np step red)

-- below a red parent: the two red places in a line, painted and turned
pub insert_end : (ls l2 ps ms : List Link) (root root2 root3 : ℕ) (order : List ℕ) (at up top mid2 : ℕ) (right : Bool) → Holds ls root order → Holds l2 root2 order → Holds ps root3 order → RedAt ls order at → 1 ≤ count at order → StopsRed ls at → (link ls at).parent ≡ up → (link ls up).parent ≡ top → dark ls up ≡ 0 → right ≡ not ((link ls top).left == up) → LinesUp ls l2 root at up right → mid2 ≡ kid_of (link l2 top) right → ps ≡ painted (painted l2 mid2 false) top true → Turns ps ms root3 top (not right) → Coloured ms order
insert_end ls l2 ps ms root root2 root3 order at up top mid2 right h h2 h3 s i stops eu et red_up side lines e_mid e turns =
    let n = near ls root order h in
    let red0 : dark ls (link ls at).parent ≡ 0 = ap (dark ls) eu ∙ red_up in
    let black0 = uncle_black ls order at n s i red0 stops in
    let black : dark ls (sibling_of (link ls (link ls up).parent) up) ≡ 1 = subst (λ (z : ℕ). dark ls (sibling_of (link ls (link ls z).parent) z) ≡ 1) eu black0 in
    let side0 : not ((link ls (link ls up).parent).left == up) ≡ right = ap (λ z. not ((link ls z).left == up)) et ∙ sym side in
    let two = lines order h i s eu red_up black side0 in
    let two2 : TwoRed l2 order top two.0 two.1.0 right = subst (λ (z : ℕ). TwoRed l2 order z two.0 two.1.0 right) et two.1.1 in
    red_end_at l2 ps ms root2 root3 order top two.0 mid2 two.1.0 right h2 h3 two2 e_mid e turns

-- the last rotations of a take
pub rotate_up_end : (ls l2 ps ms : List Link) (root root2 root3 : ℕ) (order : List ℕ) (at up o y : ℕ) (right red : Bool) → Holds l2 root2 order → Holds ps root3 order → RedFar l2 order at up right → up ≢ none → dark l2 at ≡ 1 → o ≡ kid_of (link l2 up) (not right) → y ≡ kid_of (link l2 o) (not right) → red ≡ (link l2 up).red → ps ≡ painted (painted (painted l2 o red) up false) y false → Turns ps ms root3 up right → Coloured ms order
rotate_up_end ls l2 ps ms root root2 root3 order at up o y right red h2 h3 far some black_at e_o e_y e_red e turns =
    short_end_at l2 ps ms root2 root3 order at up o y right red h2 h3 far.short some black_at far.side e_o (ap (dark l2) e_o ∙ far.black_o) e_y
    (ap (dark l2) e_y ∙ ap (λ z. dark l2 (kid_of (link l2 z) (not right))) e_o ∙ far.red_far) e_red e turns

-- a red place, or the root, ends the climb
pub take_root : (ls : List Link) (root : ℕ) (order : List ℕ) (at up : ℕ) → Holds ls root order → ShortAt ls order at up → (dark ls at ≡ 0) ⊎ (up ≡ none) → Coloured (painted ls at false) order
take_root ls root order at up h s e = elim e [
  | inl red ↦ short_red ls order at up (near ls root order h) s red
  | inr top ↦ elim (cases_eq (dark ls at) 0) [
    | inl red ↦ short_red ls order at up (near ls root order h) s red
    | inr d ↦ short_root ls order at up (near ls root order h) s top (omega (arith, d, dark-most ls at))
  ]
]

-- a black sibling with a red kid ends it too
pub take_black : (ls ms : List Link) (root : ℕ) (order : List ℕ) (at up o : ℕ) (right : Bool) → Holds ls root order → ShortAt ls order at up → up ≢ none → dark ls at ≡ 1 → (GoesUp ls at up (sibling_of (link ls up) at) → ⊥) → right ≡ not ((link ls up).left == at) → o ≡ kid_of (link ls up) (not right) → dark ls o ≡ 1 → RotatesUp ls ms root up right → Coloured ms order
take_black ls ms root order at up o right h s some black_at stops e_right e_o black_o rotates =
    let n = near ls root order h in
    let side : s.side ≡ right = code_side ls order at up n s some ∙ sym e_right in
    let o_side : o ≡ kid_of (link ls up) (not s.side) = e_o ∙ ap (λ (z : Bool). kid_of (link ls up) (not z)) (sym side) in
    let red_kid = stops_red_kid ls order at up o n s some black_at stops o_side black_o in
    rotates order at h s some side black_at (ap (dark ls) (sym e_o) ∙ black_o) (subst (λ (z : ℕ). HasBlackKids ls z → ⊥) e_o red_kid)

-- a red sibling comes up
pub take_red : (ls ps ms : List Link) (root root2 : ℕ) (order : List ℕ) (at up o : ℕ) (right : Bool) → Holds ls root order → Holds ps root2 order → ShortAt ls order at up → up ≢ none → dark ls at ≡ 1 → right ≡ not ((link ls up).left == at) → o ≡ kid_of (link ls up) (not right) → dark ls o ≡ 0 → ps ≡ painted (painted ls o false) up true → Turns ps ms root2 up right → RedAbove ms order at up right
take_red ls ps ms root root2 order at up o right h hp s some black_at e_right e_o red_o e turns =
    let side : s.side ≡ right = code_side ls order at up (near ls root order h) s some ∙ sym e_right in
    red_sibling_at ls ps ms root root2 order at up o right h hp s some black_at side e_o red_o e turns

-- after that the near kid has a red kid
pub take_near : (ls ms : List Link) (root : ℕ) (order : List ℕ) (at up o : ℕ) (right : Bool) → Holds ls root order → RedAbove ls order at up right → up ≢ none → o ≡ kid_of (link ls up) (not right) → (HasBlackKids ls o → ⊥) → RotatesUp ls ms root up right → Coloured ms order
take_near ls ms root order at up o right h s some e_o not_both rotates =
    rotates order at h s.short some s.side s.black_at s.black_near (subst (λ (z : ℕ). HasBlackKids ls z → ⊥) e_o not_both)
