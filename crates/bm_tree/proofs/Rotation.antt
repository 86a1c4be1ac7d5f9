-- A rotation keeps the tree's places and their order.
use Rattle.std.proofs.Common.{◌≡◌, ◌≢◌, ℕ, ◌+◌, ◌<◌, ◌≤◌, not, Bool, true, false, List, ◌∷◌, ◌++◌, length, set, refl, sym, ap, ◌∙◌, subst, arith, append_assoc, length-set, get_or-set_same, get_or-set_other}
use Rattle.std.proofs.lemmas.List.{get_or_past}
use Rattle.std.specs.Prelude.{◌==◌}
use Rattle.bm_tree.specs.declared.links.Link.{Link}
use Rattle.bm_tree.specs.Links.{none, nil, link, kid_of, set_kid, set_up, lifted, relinked, new_root}
pub use Rattle.bm_tree.specs.Turning.{Turned}
use Rattle.bm_tree.specs.Shape.{Shape, leaf, node, places, Stands, same, count, Holds, In, Agree}
use Rattle.bm_tree.proofs.Trees.{same-eq, times, Path, plug, before, after, passes, Around, cut, root_in, within, times-plug, places-plug, Stands-plug, count-places}
use Rattle.bm_tree.proofs.Frames.{agree, Stands-frame, Stands-move, Around-move, not_root, not_up, up_in, up_within, around_within, not_up_sym}

-- the four writes of a rotation, with the links that they write
abbrev pub turned : List Link → (x y b u : ℕ) → Bool → List Link
turned ls x y b u right =
    let xs = set ls x (set_up (set_kid (link ls x) (not right) b) y) in
    let ys = set xs y (set_up (set_kid (link ls y) right x) u) in
    relinked (lifted ys b x) u x y

pub Turned-turned : (ls : List Link) (x y b u : ℕ) (right : Bool) → x < length ls → y < length ls → (b ≢ none → b < length ls) → (u ≢ none → u < length ls) → x ≢ y → b ≢ x → b ≢ y → u ≢ x → u ≢ y → (u ≢ none → u ≢ b) → (b ≢ none → u ≢ b) → Turned ls (turned ls x y b u right) x y b u right
Turned-turned ls x y b u right lx ly lb lu xy bx by ux uy ub bu =
    let vx : Link = set_up (set_kid (link ls x) (not right) b) y in
    let vy : Link = set_up (set_kid (link ls y) right x) u in
    let l1 : List Link = set ls x vx in
    let l2 : List Link = set l1 y vy in
    let vb : Link = set_up (link l2 b) x in
    let l3 : List Link = set l2 b vb in
    let vu : Link = set_kid (link l3 u) (not ((link l3 u).left == x)) y in
    let n1 : length l1 ≡ length ls = length-set ls x vx in
    let n2 : length l2 ≡ length ls = length-set l1 y vy ∙ n1 in
    let n3 : length l3 ≡ length ls = length-set l2 b vb ∙ n2 in
    let b2 : link l2 b ≡ link ls b = get_or-set_other l1 y b vy nil by ∙ get_or-set_other ls x b vx nil bx in
    record {
      lengths = length-set l3 u vu ∙ n3;
      at_x = get_or-set_other l3 u x vu nil (λ e. ux (sym e)) ∙ get_or-set_other l2 b x vb nil (λ e. bx (sym e)) ∙ get_or-set_other l1 y x vy nil xy ∙ get_or-set_same ls x vx nil lx;
      at_y = get_or-set_other l3 u y vu nil (λ e. uy (sym e)) ∙ get_or-set_other l2 b y vb nil (λ e. by (sym e)) ∙ get_or-set_same l1 y vy nil (rw n1 ly);
      at_b = λ ne. get_or-set_other l3 u b vu nil (λ e. bu ne (sym e)) ∙ get_or-set_same l2 b vb nil (rw n2 (lb ne)) ∙ ap (λ (z : Link). set_up z x) b2;
      at_u = λ ne.
          let u3 : link l3 u ≡ link ls u = get_or-set_other l2 b u vb nil (ub ne) ∙ get_or-set_other l1 y u vy nil uy ∙ get_or-set_other ls x u vx nil ux in
          get_or-set_same l3 u vu nil (rw n3 (lu ne)) ∙ ap (λ (z : Link). set_kid z (not (z.left == x)) y) u3;
      others = λ q qx qy qb qu. get_or-set_other l3 u q vu nil qu ∙ get_or-set_other l2 b q vb nil qb ∙ get_or-set_other l1 y q vy nil qy ∙ get_or-set_other ls x q vx nil qx;
    }

pub apart : (p q : ℕ) → same p q ≡ 0 → p ≢ q
apart p q z e = omega (arith, z, same-eq p q e)

pub turn_left : (ls ms : List Link) (root x y : ℕ) (c : Path) (a bs cs : Shape) → ((q : ℕ) → passes q c + times q (node a x (node bs y cs)) ≤ 1) → length ls ≤ none → Around ls root (link ls x).parent x c → Stands ls (link ls x).parent x (node a x (node bs y cs)) → Turned ls ms x y (link ls y).left (link ls x).parent false → Stands ms none (new_root root (link ls x).parent y) (plug c (node (node a x bs) y cs))
turn_left ls ms root x y c a bs cs w room ar st t =
    let b = (link ls y).left in
    let u = (link ls x).parent in
    let hy = st.4 in
    let x1 : same x x ≡ 1 = same-eq x x refl in
    let y1 : same y y ≡ 1 = same-eq y y refl in
    let el = t.lengths in
    let nx : x ≢ none = λ e. omega (arith, e, st.1) in
    let far : (q : ℕ) → q < length ls → same q x ≡ 0 → same q y ≡ 0 → q ≢ b → q ≢ u → Agree (link ls q) (link ms q) =
    λ q l sx sy qb qu. agree _ _ (t.others q (apart q x sx) (apart q y sy) qb qu) in
    let out_b : (q : ℕ) → q < length ls → times q bs ≡ 0 → q ≢ b =
    λ q l z. not_root ls y b q bs hy.3 (λ e. omega (arith, e, l)) z in
    let out_u : (q : ℕ) → q < length ls → passes q c ≡ 0 → q ≢ u =
    λ q l z. not_up ls root u x q c ar (λ e. omega (arith, e, l)) z in
    let path : Around ms (new_root root u y) u y c =
    Around-move ls ms root u x y c el room (omega (arith, w u))
    (λ q i d. let l = around_within ls root u x q c ar i in far q l (omega (arith, w q, i)) (omega (arith, w q, i)) (out_b q l (omega (arith, w q, i))) d)
    t.at_u nx (omega (arith, w x, x1)) ar in
    let as_left : Stands ms x (link ls x).left a =
    Stands-frame ls ms x _ a el
    (λ q i. let l = within ls q x _ a st.3 i in far q l (omega (arith, w q, i)) (omega (arith, w q, i)) (out_b q l (omega (arith, w q, i))) (out_u q l (omega (arith, w q, i))))
    st.3 in
    let inner : Stands ms x b bs =
    Stands-move ls ms y x b bs el room (omega (arith, w b))
    (λ q i d. let l = within ls q y _ bs hy.3 i in far q l (omega (arith, w q, i)) (omega (arith, w q, i)) d (out_u q l (omega (arith, w q, i))))
    t.at_b hy.3 in
    let as_right : Stands ms y (link ls y).right cs =
    Stands-frame ls ms y _ cs el
    (λ q i. let l = within ls q y _ cs hy.4 i in far q l (omega (arith, w q, i)) (omega (arith, w q, i)) (out_b q l (omega (arith, w q, i))) (out_u q l (omega (arith, w q, i))))
    hy.4 in
    let x_left : (link ms x).left ≡ (link ls x).left = ap (λ (z : Link). z.left) t.at_x in
    let x_right : (link ms x).right ≡ b = ap (λ (z : Link). z.right) t.at_x in
    let y_left : (link ms y).left ≡ x = ap (λ (z : Link). z.left) t.at_y in
    let y_right : (link ms y).right ≡ (link ls y).right = ap (λ (z : Link). z.right) t.at_y in
    let low : Stands ms y x (node a x bs) = (refl, rw el st.1, ap (λ (z : Link). z.parent) t.at_x, rw x_left as_left, rw x_right inner) in
    Stands-plug ms _ u y c (node (node a x bs) y cs) path
    (refl, rw el hy.1, ap (λ (z : Link). z.parent) t.at_y, rw y_left low, rw y_right as_right)

pub turn_right : (ls ms : List Link) (root x y : ℕ) (c : Path) (a bs cs : Shape) → ((q : ℕ) → passes q c + times q (node (node a y bs) x cs) ≤ 1) → length ls ≤ none → Around ls root (link ls x).parent x c → Stands ls (link ls x).parent x (node (node a y bs) x cs) → Turned ls ms x y (link ls y).right (link ls x).parent true → Stands ms none (new_root root (link ls x).parent y) (plug c (node a y (node bs x cs)))
turn_right ls ms root x y c a bs cs w room ar st t =
    let b = (link ls y).right in
    let u = (link ls x).parent in
    let hy = st.3 in
    let x1 : same x x ≡ 1 = same-eq x x refl in
    let y1 : same y y ≡ 1 = same-eq y y refl in
    let el = t.lengths in
    let nx : x ≢ none = λ e. omega (arith, e, st.1) in
    let far : (q : ℕ) → q < length ls → same q x ≡ 0 → same q y ≡ 0 → q ≢ b → q ≢ u → Agree (link ls q) (link ms q) =
    λ q l sx sy qb qu. agree _ _ (t.others q (apart q x sx) (apart q y sy) qb qu) in
    let out_b : (q : ℕ) → q < length ls → times q bs ≡ 0 → q ≢ b =
    λ q l z. not_root ls y b q bs hy.4 (λ e. omega (arith, e, l)) z in
    let out_u : (q : ℕ) → q < length ls → passes q c ≡ 0 → q ≢ u =
    λ q l z. not_up ls root u x q c ar (λ e. omega (arith, e, l)) z in
    let path : Around ms (new_root root u y) u y c =
    Around-move ls ms root u x y c el room (omega (arith, w u))
    (λ q i d. let l = around_within ls root u x q c ar i in far q l (omega (arith, w q, i)) (omega (arith, w q, i)) (out_b q l (omega (arith, w q, i))) d)
    t.at_u nx (omega (arith, w x, x1)) ar in
    let as_right : Stands ms x (link ls x).right cs =
    Stands-frame ls ms x _ cs el
    (λ q i. let l = within ls q x _ cs st.4 i in far q l (omega (arith, w q, i)) (omega (arith, w q, i)) (out_b q l (omega (arith, w q, i))) (out_u q l (omega (arith, w q, i))))
    st.4 in
    let inner : Stands ms x b bs =
    Stands-move ls ms y x b bs el room (omega (arith, w b))
    (λ q i d. let l = within ls q y _ bs hy.4 i in far q l (omega (arith, w q, i)) (omega (arith, w q, i)) d (out_u q l (omega (arith, w q, i))))
    t.at_b hy.4 in
    let as_left : Stands ms y (link ls y).left a =
    Stands-frame ls ms y _ a el
    (λ q i. let l = within ls q y _ a hy.3 i in far q l (omega (arith, w q, i)) (omega (arith, w q, i)) (out_b q l (omega (arith, w q, i))) (out_u q l (omega (arith, w q, i))))
    hy.3 in
    let x_left : (link ms x).left ≡ b = ap (λ (z : Link). z.left) t.at_x in
    let x_right : (link ms x).right ≡ (link ls x).right = ap (λ (z : Link). z.right) t.at_x in
    let y_left : (link ms y).left ≡ (link ls y).left = ap (λ (z : Link). z.left) t.at_y in
    let y_right : (link ms y).right ≡ x = ap (λ (z : Link). z.right) t.at_y in
    let low : Stands ms y x (node bs x cs) = (refl, rw el st.1, ap (λ (z : Link). z.parent) t.at_x, rw x_left inner, rw x_right as_right) in
    Stands-plug ms _ u y c (node a y (node bs x cs)) path
    (refl, rw el hy.1, ap (λ (z : Link). z.parent) t.at_y, rw y_left as_left, rw y_right low)

-- some tree with these places stands in the links, and `x` hangs below `y`
pub record Stood (ms : List Link) (root : ℕ) (order : List ℕ) (x y : ℕ) (right : Bool) : Type 0 where
  pub raised : kid_of (link ms y) right ≡ x
  pub shape : Shape
  pub stands : Stands ms none root shape
  pub in_order : places shape ≡ order

pub plug-places : (c : Path) (s t : Shape) → places s ≡ places t → places (plug c s) ≡ places (plug c t)
plug-places c s t e = places-plug c s ∙ ap (λ xs. before c ++ (xs ++ after c)) e ∙ sym (places-plug c t)

-- what is known of a cut
pub once_cut : (ls : List Link) (root : ℕ) (order : List ℕ) (h : Holds ls root order) (c : Path) (s : Shape) → plug c s ≡ h.shape → (q : ℕ) → passes q c + times q s ≤ 1
once_cut ls root order h c s e q =
    let n : times q (plug c s) ≡ count q order = ap (times q) e ∙ sym (count-places q h.shape) ∙ ap (count q) h.in_order in
    omega (arith, n, times-plug q c s, h.once q)

left_from : (ls : List Link) (root x : ℕ) (c : Path) (a r : Shape) → ((q : ℕ) → passes q c + times q (node a x r) ≤ 1) → length ls ≤ none → Around ls root (link ls x).parent x c → Stands ls (link ls x).parent x (node a x r) → (link ls x).right ≢ none → Stood (turned ls x (link ls x).right (link ls (link ls x).right).left (link ls x).parent false) (new_root root (link ls x).parent (link ls x).right) (places (plug c (node a x r))) x (link ls x).right false
left_from ls root x c a leaf w room ar st ne = absurd (ne st.4)
left_from ls root x c a (node bs y cs) w room ar st ne =
    let u = (link ls x).parent in
    let b = (link ls y).left in
    let hy = st.4 in
    let x1 : same x x ≡ 1 = same-eq x x refl in
    let y1 : same y y ≡ 1 = same-eq y y refl in
    let xy : x ≢ y = λ e. omega (arith, w x, x1, same-eq x y e) in
    let nx : x ≢ none = λ e. omega (arith, e, st.1) in
    let ny : y ≢ none = λ e. omega (arith, e, hy.1) in
    let xb : x ≢ b = not_root ls y b x bs hy.3 nx (omega (arith, w x, x1)) in
    let yb : y ≢ b = not_root ls y b y bs hy.3 ny (omega (arith, w y, y1)) in
    let xu : x ≢ u = not_up ls root u x x c ar nx (omega (arith, w x, x1)) in
    let yu : y ≢ u = not_up ls root u x y c ar ny (omega (arith, w y, y1)) in
    let bn : b ≢ none → u ≢ b = λ n. not_up_sym ls root u x b c ar n (omega (arith, w b, root_in ls y b bs hy.3 n)) in
    let un : u ≢ none → u ≢ b = λ n. not_root ls y b u bs hy.3 n (omega (arith, w u, up_in ls root u x c ar n)) in
    let t = Turned-turned ls x y b u false st.1 hy.1 (λ n. within ls b y b bs hy.3 (root_in ls y b bs hy.3 n)) (λ n. up_within ls root u x c ar n) xy (λ e. xb (sym e)) (λ e. yb (sym e)) (λ e. xu (sym e)) (λ e. yu (sym e)) un bn in
    let P : ℕ → Type 0 = λ z. Stood (turned ls x z (link ls z).left u false) (new_root root u z) (places (plug c (node a x (node bs y cs)))) x z false in
    subst P (sym hy.0) (record {
      raised = ap (λ (z : Link). z.left) t.at_y;
      shape = plug c (node (node a x bs) y cs);
      stands = turn_left ls _ root x y c a bs cs w room ar st t;
      in_order = plug-places c _ _ (append_assoc (places a) (x ∷ places bs) (y ∷ places cs));
    })

right_from : (ls : List Link) (root x : ℕ) (c : Path) (r a : Shape) → ((q : ℕ) → passes q c + times q (node r x a) ≤ 1) → length ls ≤ none → Around ls root (link ls x).parent x c → Stands ls (link ls x).parent x (node r x a) → (link ls x).left ≢ none → Stood (turned ls x (link ls x).left (link ls (link ls x).left).right (link ls x).parent true) (new_root root (link ls x).parent (link ls x).left) (places (plug c (node r x a))) x (link ls x).left true
right_from ls root x c leaf a w room ar st ne = absurd (ne st.3)
right_from ls root x c (node ds y bs) cs w room ar st ne =
    let u = (link ls x).parent in
    let b = (link ls y).right in
    let hy = st.3 in
    let x1 : same x x ≡ 1 = same-eq x x refl in
    let y1 : same y y ≡ 1 = same-eq y y refl in
    let xy : x ≢ y = λ e. omega (arith, w x, x1, same-eq x y e) in
    let nx : x ≢ none = λ e. omega (arith, e, st.1) in
    let ny : y ≢ none = λ e. omega (arith, e, hy.1) in
    let xb : x ≢ b = not_root ls y b x bs hy.4 nx (omega (arith, w x, x1)) in
    let yb : y ≢ b = not_root ls y b y bs hy.4 ny (omega (arith, w y, y1)) in
    let xu : x ≢ u = not_up ls root u x x c ar nx (omega (arith, w x, x1)) in
    let yu : y ≢ u = not_up ls root u x y c ar ny (omega (arith, w y, y1)) in
    let bn : b ≢ none → u ≢ b = λ n. not_up_sym ls root u x b c ar n (omega (arith, w b, root_in ls y b bs hy.4 n)) in
    let un : u ≢ none → u ≢ b = λ n. not_root ls y b u bs hy.4 n (omega (arith, w u, up_in ls root u x c ar n)) in
    let t = Turned-turned ls x y b u true st.1 hy.1 (λ n. within ls b y b bs hy.4 (root_in ls y b bs hy.4 n)) (λ n. up_within ls root u x c ar n) xy (λ e. xb (sym e)) (λ e. yb (sym e)) (λ e. xu (sym e)) (λ e. yu (sym e)) un bn in
    let P : ℕ → Type 0 = λ z. Stood (turned ls x z (link ls z).right u true) (new_root root u z) (places (plug c (node (node ds y bs) x cs))) x z true in
    subst P (sym hy.0) (record {
      raised = ap (λ (z : Link). z.right) t.at_y;
      shape = plug c (node ds y (node bs x cs));
      stands = turn_right ls _ root x y c ds bs cs w room ar st t;
      in_order = plug-places c _ _ (sym (append_assoc (places ds) (y ∷ places bs) (x ∷ places cs)));
    })

pub Holds-stood : (ls ms : List Link) (root root2 : ℕ) (order : List ℕ) (x y : ℕ) (right : Bool) → Holds ls root order → length ms ≡ length ls → Stood ms root2 order x y right → Holds ms root2 order × (kid_of (link ms y) right ≡ x)
Holds-stood ls ms root root2 order x y right h el s =
    (record { shape = s.shape; stands = s.stands; in_order = s.in_order; once = h.once; fits = rw el h.fits; room = rw el h.room }, s.raised)

pub length-turned : (ls : List Link) (x y b u : ℕ) (right : Bool) → length (turned ls x y b u right) ≡ length ls
length-turned ls x y b u right = simp length-set

-- the kid of the other side comes up
pub Holds-turned : (ls : List Link) (root x : ℕ) (right : Bool) (order : List ℕ) → Holds ls root order → 1 ≤ count x order → kid_of (link ls x) (not right) ≢ none → let y = kid_of (link ls x) (not right) in Holds (turned ls x y (kid_of (link ls y) right) (link ls x).parent right) (new_root root (link ls x).parent y) order × (kid_of (link (turned ls x y (kid_of (link ls y) right) (link ls x).parent right) y) right ≡ x)
Holds-turned ls root x false order h i ne =
    let n : times x h.shape ≡ count x order = sym (count-places x h.shape) ∙ ap (count x) h.in_order in
    let k = cut ls root x h.shape h.stands (omega (arith, n, i)) in
    let y = (link ls x).right in
    let s = left_from ls root x k.path k.l k.r (once_cut ls root order h k.path (node k.l x k.r) k.is_whole) h.room k.around k.stands ne in
    Holds-stood ls _ root _ order x y false h (length-turned ls x y (link ls y).left (link ls x).parent false)
    (record { raised = s.raised; shape = s.shape; stands = s.stands; in_order = s.in_order ∙ ap places k.is_whole ∙ h.in_order })
Holds-turned ls root x true order h i ne =
    let n : times x h.shape ≡ count x order = sym (count-places x h.shape) ∙ ap (count x) h.in_order in
    let k = cut ls root x h.shape h.stands (omega (arith, n, i)) in
    let y = (link ls x).left in
    let s = right_from ls root x k.path k.l k.r (once_cut ls root order h k.path (node k.l x k.r) k.is_whole) h.room k.around k.stands ne in
    Holds-stood ls _ root _ order x y true h (length-turned ls x y (link ls y).right (link ls x).parent true)
    (record { raised = s.raised; shape = s.shape; stands = s.stands; in_order = s.in_order ∙ ap places k.is_whole ∙ h.in_order })

pub link_past : (ls : List Link) (p : ℕ) → length ls ≤ p → link ls p ≡ nil
link_past ls p past = get_or_past ls p nil past

none-kid : (right : Bool) → kid_of nil right ≡ none
none-kid false = refl
none-kid true = refl

pub Holds-rotated : (ls : List Link) (root x : ℕ) (right : Bool) (order : List ℕ) → Holds ls root order → In x order → kid_of (link ls x) (not right) ≢ none → let y = kid_of (link ls x) (not right) in Holds (turned ls x y (kid_of (link ls y) right) (link ls x).parent right) (new_root root (link ls x).parent y) order × (kid_of (link (turned ls x y (kid_of (link ls y) right) (link ls x).parent right) y) right ≡ x)
Holds-rotated ls root x right order h i ne =
    Holds-turned ls root x right order h
    (i (λ e. ne (ap (λ (z : Link). kid_of z (not right)) (link_past ls x (omega (arith, h.room, e))) ∙ none-kid (not right)))) ne
