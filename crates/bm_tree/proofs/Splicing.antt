-- A node that is taken out, put in another's place, or hung in.
use Rattle.std.proofs.Common.{◌≡◌, ◌≢◌, ◌⊎◌, ℕ, ◌+◌, ◌<◌, ◌≤◌, cond, not, Bool, true, false, List, [], ◌∷◌, ◌++◌, length, set, refl, sym, ap, ◌∙◌, subst, inl, inr, arith, append_assoc, length-set, length-append, get_or-set_same, get_or-set_other}
use Rattle.std.proofs.lemmas.Bool.{cases_eq, eq-eqb, ne_eqb}
use Rattle.std.proofs.lemmas.List.{append-nil}
use Rattle.std.specs.Prelude.{◌==◌}
use Rattle.bm_tree.specs.declared.links.Link.{Link}
use Rattle.bm_tree.specs.Links.{none, nil, link, set_kid, set_up, lifted, relinked, new_root}
use Rattle.bm_tree.specs.Shape.{Shape, leaf, node, places, Stands, same, count, Holds, Agree}
use Rattle.bm_tree.specs.Paths.{Path, top, on_left, on_right, plug, before, after, Around, Fits, Hole}
use Rattle.bm_tree.proofs.Trees.{same-eq, same-ne, times, passes, cut, root_in, within, times-plug, places-plug, Stands-plug, count-places, count-append}
use Rattle.bm_tree.proofs.Frames.{agree, Stands-frame, Around-frame, Stands-move, Around-move, not_root, not_up, up_in, up_within, around_within, not_up_sym}
use Rattle.bm_tree.proofs.Rotation.{once_cut}

-- a list has one place only once, so it is cut there in one way
pub split_once : (z : ℕ) (xs us ys vs : List ℕ) → xs ++ z ∷ ys ≡ us ++ z ∷ vs → count z (xs ++ z ∷ ys) ≤ 1 → (xs ≡ us) × (ys ≡ vs)
split_once z [] [] ys vs e one = (refl, tails e)
  where
    tails : z ∷ ys ≡ z ∷ vs → ys ≡ vs
    tails e = cc
split_once z [] (u ∷ us) ys vs e one =
    let t : ys ≡ us ++ z ∷ vs = cc in
    absurd (omega (arith, one, ap (count z) t, count-append z us (z ∷ vs), same-eq z z refl))
split_once z (x ∷ xs) [] ys vs e one =
    let h : x ≡ z = cc in
    absurd (omega (arith, one, same-eq z x (sym h), count-append z xs (z ∷ ys), same-eq z z refl))
split_once z (x ∷ xs) (u ∷ us) ys vs e one =
    let h : x ≡ u = cc in
    let t : xs ++ z ∷ ys ≡ us ++ z ∷ vs = cc in
    let rest = split_once z xs us ys vs t (omega (arith, one)) in
    let first : xs ≡ us = rest.0 in
    (cc, rest.1)

same_split : (n : ℕ) (xs us ys vs : List ℕ) → xs ≡ us → ys ≡ vs → us ++ n ∷ vs ≡ xs ++ n ∷ ys
same_split n xs us ys vs e f = cc

-- `r` hangs below `u` in place of `x`
pub record Hung (ls ms : List Link) (x r u : ℕ) : Type 0 where
  pub lengths : length ms ≡ length ls
  pub at_r : r ≢ none → link ms r ≡ set_up (link ls r) u
  pub at_u : u ≢ none → link ms u ≡ set_kid (link ls u) (not ((link ls u).left == x)) r
  pub others : (q : ℕ) → q ≢ r → q ≢ u → link ms q ≡ link ls q

abbrev pub spliced : List Link → (x r u : ℕ) → List Link
spliced ls x r u = relinked (lifted ls r u) u x r

pub Hung-spliced : (ls : List Link) (x r u : ℕ) → (r ≢ none → r < length ls) → (u ≢ none → u < length ls) → (u ≢ none → u ≢ r) → (r ≢ none → u ≢ r) → Hung ls (spliced ls x r u) x r u
Hung-spliced ls x r u lr lu ur ru =
    let vr : Link = set_up (link ls r) u in
    let l1 : List Link = set ls r vr in
    let vu : Link = set_kid (link l1 u) (not ((link l1 u).left == x)) r in
    let n1 : length l1 ≡ length ls = length-set ls r vr in
    record {
      lengths = length-set l1 u vu ∙ n1;
      at_r = λ ne. get_or-set_other l1 u r vu nil (λ e. ru ne (sym e)) ∙ get_or-set_same ls r vr nil (lr ne);
      at_u = λ ne.
          let u1 : link l1 u ≡ link ls u = get_or-set_other ls r u vr nil (ur ne) in
          get_or-set_same l1 u vu nil (rw n1 (lu ne)) ∙ ap (λ (z : Link). set_kid z (not (z.left == x)) r) u1;
      others = λ q qr qu. get_or-set_other l1 u q vu nil qu ∙ get_or-set_other ls r q vr nil qr;
    }

pub Stands-hung : (ls ms : List Link) (root x r u : ℕ) (c : Path) (t : Shape) → ((q : ℕ) → passes q c + times q t + same q x ≤ 1) → length ls ≤ none → x ≢ none → Around ls root u x c → Stands ls x r t → Hung ls ms x r u → Stands ms none (new_root root u r) (plug c t)
Stands-hung ls ms root x r u c t w room nx ar st h =
    Stands-plug ms _ u r c t
    (Around-move ls ms root u x r c h.lengths room (omega (arith, w u))
    (λ q i d. let l = around_within ls root u x q c ar i in agree _ _ (h.others q (not_root ls x r q t st (λ e. omega (arith, e, l, room)) (omega (arith, w q, i))) d))
    h.at_u nx (omega (arith, w x, same-eq x x refl)) ar)
    (Stands-move ls ms x u r t h.lengths room (omega (arith, w r))
    (λ q i d. let l = within ls q x r t st i in agree _ _ (h.others q d (not_up ls root u x q c ar (λ e. omega (arith, e, l, room)) (omega (arith, w q, i)))))
    h.at_r st)

-- the links after a splice hold what is left
pub Holds-hung : (ls : List Link) (root x : ℕ) (xs ys : List ℕ) (c : Path) (a b t : Shape) (r : ℕ) → Holds ls root (xs ++ x ∷ ys) → ((q : ℕ) → passes q c + times q (node a x b) ≤ 1) → places (plug c (node a x b)) ≡ xs ++ x ∷ ys → Around ls root (link ls x).parent x c → x < length ls → Stands ls x r t → ((q : ℕ) → times q t ≤ times q a + times q b) → places t ≡ places a ++ places b → Holds (spliced ls x r (link ls x).parent) (new_root root (link ls x).parent r) (xs ++ ys)
Holds-hung ls root x xs ys c a b t r h w order ar lx st less both =
    let u = (link ls x).parent in
    let nx : x ≢ none = λ e. omega (arith, e, lx, h.room) in
    let w2 : (q : ℕ) → passes q c + times q t + same q x ≤ 1 = λ q. omega (arith, w q, less q) in
    let un : u ≢ none → u ≢ r = λ n. not_root ls x r u t st n (omega (arith, w2 u, up_in ls root u x c ar n)) in
    let rn : r ≢ none → u ≢ r = λ n. not_up_sym ls root u x r c ar n (omega (arith, w2 r, root_in ls x r t st n)) in
    let hung = Hung-spliced ls x r u (λ n. within ls r x r t st (root_in ls x r t st n)) (λ n. up_within ls root u x c ar n) un rn in
    let cut_here : (before c ++ places a) ++ x ∷ (places b ++ after c) ≡ xs ++ x ∷ ys =
    append_assoc (before c) (places a) (x ∷ (places b ++ after c)) ∙ ap (λ zs. before c ++ zs) (sym (append_assoc (places a) (x ∷ places b) (after c))) ∙ sym (places-plug c (node a x b)) ∙ order in
    let parts = split_once x xs (before c ++ places a) ys (places b ++ after c) (sym cut_here) (h.once x) in
    let joined : before c ++ (places t ++ after c) ≡ xs ++ ys =
    ap (λ zs. before c ++ (zs ++ after c)) both
    ∙ ap (λ zs. before c ++ zs) (append_assoc (places a) (places b) (after c))
    ∙ sym (append_assoc (before c) (places a) (places b ++ after c))
    ∙ sym (rw (parts.0, parts.1) refl) in
    record {
      shape = plug c t;
      stands = Stands-hung ls _ root x r u c t w2 h.room nx ar st hung;
      in_order = places-plug c t ∙ joined;
      once = λ q. omega (arith, h.once q, count-append q xs ys, count-append q xs (x ∷ ys));
      fits = rw hung.lengths (omega (arith, h.fits, length-append xs ys, length-append xs (x ∷ ys)));
      room = rw hung.lengths h.room;
    }

-- a place with at most one kid is taken out
pub Holds-spliced : (ls : List Link) (root x : ℕ) (xs ys : List ℕ) → Holds ls root (xs ++ x ∷ ys) → ((link ls x).left ≡ none) ⊎ ((link ls x).right ≡ none) → let r = cond ((link ls x).left == none) (link ls x).right (link ls x).left in Holds (spliced ls x r (link ls x).parent) (new_root root (link ls x).parent r) (xs ++ ys)
Holds-spliced ls root x xs ys h lone =
    let n : times x h.shape ≡ count x (xs ++ x ∷ ys) = sym (count-places x h.shape) ∙ ap (count x) h.in_order in
    let k = cut ls root x h.shape h.stands (omega (arith, n, count-append x xs (x ∷ ys), same-eq x x refl)) in
    let w = once_cut ls root _ h k.path (node k.l x k.r) k.is_whole in
    let order : places (plug k.path (node k.l x k.r)) ≡ xs ++ x ∷ ys = ap places k.is_whole ∙ h.in_order in
    let P : ℕ → Type 0 = λ r. Holds (spliced ls x r (link ls x).parent) (new_root root (link ls x).parent r) (xs ++ ys) in
    elim (cases_eq (link ls x).left none) [
      | inl e ↦
          let is_right : cond ((link ls x).left == none) (link ls x).right (link ls x).left ≡ (link ls x).right = rw (eq-eqb _ _ e) refl in
          let none_left = empty_tree ls x k.l h.room (rw e at k.stands.3) in
          subst P (sym is_right) (Holds-hung ls root x xs ys k.path k.l k.r k.r (link ls x).right h w order k.around k.stands.1 k.stands.4 (λ q. omega arith) (rw none_left refl))
      | inr d ↦
          let is_left : cond ((link ls x).left == none) (link ls x).right (link ls x).left ≡ (link ls x).left = rw (ne_eqb _ _ d) refl in
          let e : (link ls x).right ≡ none = elim lone [ inl a ↦ absurd (d a) | inr b ↦ b ] in
          let none_right = empty_tree ls x k.r h.room (rw e at k.stands.4) in
          subst P (sym is_left) (Holds-hung ls root x xs ys k.path k.l k.r k.l (link ls x).left h w order k.around k.stands.1 k.stands.3 (λ q. omega arith) (rw none_right (sym (append-nil (places k.l)))))
    ]
  where
    empty_tree : (ls : List Link) (up : ℕ) (s : Shape) → length ls ≤ none → Stands ls up none s → places s ≡ []
    empty_tree ls up leaf room st = refl
    empty_tree ls up (node l p r) room st = absurd (omega (arith, room, st.0, st.1))

-- `n` stands in the place of `x`, above `l` and `r` and below `u`
pub record Swapped (ls ms : List Link) (x n l r u : ℕ) : Type 0 where
  pub lengths : length ms ≡ length ls
  pub at_n : link ms n ≡ link ls x
  pub at_l : l ≢ none → link ms l ≡ set_up (link ls l) n
  pub at_r : r ≢ none → link ms r ≡ set_up (link ls r) n
  pub at_u : u ≢ none → link ms u ≡ set_kid (link ls u) (not ((link ls u).left == x)) n
  pub others : (q : ℕ) → q ≢ n → q ≢ l → q ≢ r → q ≢ u → link ms q ≡ link ls q

abbrev pub swapped : List Link → (x n l r u : ℕ) → List Link
swapped ls x n l r u = relinked (lifted (lifted (set ls n (link ls x)) l n) r n) u x n

pub Swapped-swapped : (ls : List Link) (x n l r u : ℕ) → n < length ls → (l ≢ none → l < length ls) → (r ≢ none → r < length ls) → (u ≢ none → u < length ls) → n ≢ l → n ≢ r → n ≢ u → (l ≢ none → l ≢ r) → (r ≢ none → l ≢ r) → (l ≢ none → l ≢ u) → (u ≢ none → l ≢ u) → (r ≢ none → r ≢ u) → (u ≢ none → r ≢ u) → Swapped ls (swapped ls x n l r u) x n l r u
Swapped-swapped ls x n l r u ln ll lr lu nl nr nu l_r r_l l_u u_l r_u u_r =
    let vn : Link = link ls x in
    let l1 : List Link = set ls n vn in
    let vl : Link = set_up (link l1 l) n in
    let l2 : List Link = set l1 l vl in
    let vr : Link = set_up (link l2 r) n in
    let l3 : List Link = set l2 r vr in
    let vu : Link = set_kid (link l3 u) (not ((link l3 u).left == x)) n in
    let n1 : length l1 ≡ length ls = length-set ls n vn in
    let n2 : length l2 ≡ length ls = length-set l1 l vl ∙ n1 in
    let n3 : length l3 ≡ length ls = length-set l2 r vr ∙ n2 in
    record {
      lengths = length-set l3 u vu ∙ n3;
      at_n = get_or-set_other l3 u n vu nil nu ∙ get_or-set_other l2 r n vr nil nr ∙ get_or-set_other l1 l n vl nil nl ∙ get_or-set_same ls n vn nil ln;
      at_l = λ ne. get_or-set_other l3 u l vu nil (l_u ne) ∙ get_or-set_other l2 r l vr nil (l_r ne) ∙ get_or-set_same l1 l vl nil (rw n1 (ll ne)) ∙ ap (λ (z : Link). set_up z n) (get_or-set_other ls n l vn nil (λ e. nl (sym e)));
      at_r = λ ne.
          let r2 : link l2 r ≡ link ls r = get_or-set_other l1 l r vl nil (λ e. r_l ne (sym e)) ∙ get_or-set_other ls n r vn nil (λ e. nr (sym e)) in
          get_or-set_other l3 u r vu nil (r_u ne) ∙ get_or-set_same l2 r vr nil (rw n2 (lr ne)) ∙ ap (λ (z : Link). set_up z n) r2;
      at_u = λ ne.
          let u3 : link l3 u ≡ link ls u = get_or-set_other l2 r u vr nil (λ e. u_r ne (sym e)) ∙ get_or-set_other l1 l u vl nil (λ e. u_l ne (sym e)) ∙ get_or-set_other ls n u vn nil (λ e. nu (sym e)) in
          get_or-set_same l3 u vu nil (rw n3 (lu ne)) ∙ ap (λ (z : Link). set_kid z (not (z.left == x)) n) u3;
      others = λ q qn ql qr qu. get_or-set_other l3 u q vu nil qu ∙ get_or-set_other l2 r q vr nil qr ∙ get_or-set_other l1 l q vl nil ql ∙ get_or-set_other ls n q vn nil qn;
    }

pub Holds-swapped : (ls : List Link) (root x n : ℕ) (xs ys : List ℕ) → Holds ls root (xs ++ x ∷ ys) → count n (xs ++ x ∷ ys) ≡ 0 → n < length ls → Holds (swapped ls x n (link ls x).left (link ls x).right (link ls x).parent) (new_root root (link ls x).parent n) (xs ++ n ∷ ys)
Holds-swapped ls root x n xs ys h fresh ln =
    let l = (link ls x).left in
    let r = (link ls x).right in
    let u = (link ls x).parent in
    let m : times x h.shape ≡ count x (xs ++ x ∷ ys) = sym (count-places x h.shape) ∙ ap (count x) h.in_order in
    let k = cut ls root x h.shape h.stands (omega (arith, m, count-append x xs (x ∷ ys), same-eq x x refl)) in
    let c = k.path in
    let a = k.l in
    let b = k.r in
    let ar = k.around in
    let st = k.stands in
    let w : (q : ℕ) → passes q c + times q (node a x b) ≤ 1 = once_cut ls root _ h k.path (node k.l x k.r) k.is_whole in
    let order : places (plug c (node a x b)) ≡ xs ++ x ∷ ys = ap places k.is_whole ∙ h.in_order in
    let nowhere : passes n c + times n (node a x b) ≡ 0 = sym (times-plug n c (node a x b)) ∙ sym (count-places n (plug c (node a x b))) ∙ ap (count n) order ∙ fresh in
    let nx : x ≢ none = λ e. omega (arith, e, st.1, h.room) in
    let nn : n ≢ none = λ e. omega (arith, e, ln, h.room) in
    let nl : n ≢ l = not_root ls x l n a st.3 nn (omega (arith, nowhere)) in
    let nr : n ≢ r = not_root ls x r n b st.4 nn (omega (arith, nowhere)) in
    let nu : n ≢ u = not_up ls root u x n c ar nn (omega (arith, nowhere)) in
    let in_a : l ≢ none → 1 ≤ times l a = λ e. root_in ls x l a st.3 e in
    let in_b : r ≢ none → 1 ≤ times r b = λ e. root_in ls x r b st.4 e in
    let in_c : u ≢ none → 1 ≤ passes u c = λ e. up_in ls root u x c ar e in
    let s : Swapped ls (swapped ls x n l r u) x n l r u = Swapped-swapped ls x n l r u ln
    (λ e. within ls l x l a st.3 (in_a e)) (λ e. within ls r x r b st.4 (in_b e)) (λ e. up_within ls root u x c ar e) nl nr nu
    (λ e. not_root ls x r l b st.4 e (omega (arith, w l, in_a e)))
    (λ e d. not_root ls x l r a st.3 e (omega (arith, w r, in_b e)) (sym d))
    (λ e. not_up ls root u x l c ar e (omega (arith, w l, in_a e)))
    (λ e d. not_root ls x l u a st.3 e (omega (arith, w u, in_c e)) (sym d))
    (λ e. not_up ls root u x r c ar e (omega (arith, w r, in_b e)))
    (λ e d. not_root ls x r u b st.4 e (omega (arith, w u, in_c e)) (sym d)) in
    let ms = swapped ls x n l r u in
    let el = s.lengths in
    let not_n : (q : ℕ) → 1 ≤ passes q c + times q (node a x b) → q ≢ n = λ q i e. omega (arith, i, nowhere, ap (λ z. passes z c + times z (node a x b)) e) in
    let path : Around ms (new_root root u n) u n c =
    Around-move ls ms root u x n c el h.room (omega (arith, w u))
    (λ q i d.
    let inside = around_within ls root u x q c ar i in
    let nq : q ≢ none = λ e. omega (arith, e, inside, h.room) in
    agree _ _ (s.others q (not_n q (omega (arith, i))) (not_root ls x l q a st.3 nq (omega (arith, w q, i))) (not_root ls x r q b st.4 nq (omega (arith, w q, i))) d))
    s.at_u nx (omega (arith, w x, same-eq x x refl)) ar in
    let left_tree : Stands ms n l a =
    Stands-move ls ms x n l a el h.room (omega (arith, w l))
    (λ q i d.
    let inside = within ls q x l a st.3 i in
    let nq : q ≢ none = λ e. omega (arith, e, inside, h.room) in
    agree _ _ (s.others q (not_n q (omega (arith, i))) d (not_root ls x r q b st.4 nq (omega (arith, w q, i))) (not_up ls root u x q c ar nq (omega (arith, w q, i)))))
    s.at_l st.3 in
    let right_tree : Stands ms n r b =
    Stands-move ls ms x n r b el h.room (omega (arith, w r))
    (λ q i d.
    let inside = within ls q x r b st.4 i in
    let nq : q ≢ none = λ e. omega (arith, e, inside, h.room) in
    agree _ _ (s.others q (not_n q (omega (arith, i))) (not_root ls x l q a st.3 nq (omega (arith, w q, i))) d (not_up ls root u x q c ar nq (omega (arith, w q, i)))))
    s.at_r st.4 in
    let e_left : (link ms n).left ≡ l = ap (λ (z : Link). z.left) s.at_n in
    let e_right : (link ms n).right ≡ r = ap (λ (z : Link). z.right) s.at_n in
    let cut_here : (before c ++ places a) ++ x ∷ (places b ++ after c) ≡ xs ++ x ∷ ys =
    append_assoc (before c) (places a) (x ∷ (places b ++ after c)) ∙ ap (λ zs. before c ++ zs) (sym (append_assoc (places a) (x ∷ places b) (after c))) ∙ sym (places-plug c (node a x b)) ∙ order in
    let parts = split_once x xs (before c ++ places a) ys (places b ++ after c) (sym cut_here) (h.once x) in
    let joined : before c ++ ((places a ++ n ∷ places b) ++ after c) ≡ xs ++ n ∷ ys =
    ap (λ zs. before c ++ zs) (append_assoc (places a) (n ∷ places b) (after c))
    ∙ sym (append_assoc (before c) (places a) (n ∷ (places b ++ after c)))
    ∙ same_split n xs (before c ++ places a) ys (places b ++ after c) parts.0 parts.1 in
    record {
      shape = plug c (node a n b);
      stands = Stands-plug ms _ u n c (node a n b) path (refl, rw el ln, ap (λ (z : Link). z.parent) s.at_n, rw e_left left_tree, rw e_right right_tree);
      in_order = places-plug c (node a n b) ∙ joined;
      once = λ q. swapped_once q (h.once q);
      fits = rw el (omega (arith, h.fits, length-append xs (n ∷ ys), length-append xs (x ∷ ys)));
      room = rw el h.room;
    }
  where
    swapped_once : (q : ℕ) → count q (xs ++ x ∷ ys) ≤ 1 → count q (xs ++ n ∷ ys) ≤ 1
    swapped_once q one = elim (cases_eq q n) [
      | inl e ↦ omega (arith, fresh, ap (λ z. count z (xs ++ x ∷ ys)) e, count-append q xs (x ∷ ys), count-append q xs (n ∷ ys), same-eq q n e)
      | inr d ↦ omega (arith, one, count-append q xs (x ∷ ys), count-append q xs (n ∷ ys), same-ne q n d)
    ]

-- the links with `n` hung below `u`
abbrev pub attached : List Link → (n u : ℕ) → Bool → List Link
attached ls n u right =
    let xs = set ls n (record { left = none; right = none; parent = u; red = true }) in
    set xs u (set_kid (link xs u) right n)

-- a path whose hole is filled
pub Around-enter : (ls ms : List Link) (root up at2 : ℕ) (right : Bool) (c : Path) → length ms ≡ length ls → length ls ≤ none → passes up c ≤ 1 → ((q : ℕ) → 1 ≤ passes q c → q ≢ up → Agree (link ls q) (link ms q)) → (up ≢ none → link ms up ≡ set_kid (link ls up) right at2) → Fits right c → Around ls root up none c → Around ms (new_root root up at2) up at2 c
Around-enter ls ms root up at2 right top el room once f g side a = (a.0, rw (eq-eqb up none a.0) refl)
Around-enter ls ms root up at2 right (on_left p r c) el room once f g side a =
    let is_up = same-eq up p a.0 in
    let ne_up : up ≢ none = λ e. omega (arith, e, a.0, a.1) in
    let er : new_root root up at2 ≡ root = rw (ne_eqb up none ne_up) refl in
    let e0 : link ms up ≡ set_kid (link ls up) right at2 = g ne_up in
    let e1 : link ms p ≡ set_kid (link ls p) right at2 = rw a.0 at e0 in
    let e : link ms p ≡ set_kid (link ls p) false at2 = rw side at e1 in
    let el_left : (link ms p).left ≡ at2 = ap (λ (z : Link). z.left) e in
    let el_right : (link ms p).right ≡ (link ls p).right = ap (λ (z : Link). z.right) e in
    let el_parent : (link ms p).parent ≡ (link ls p).parent = ap (λ (z : Link). z.parent) e in (
      a.0,
      rw el a.1,
      el_left,
      rw el_right (Stands-frame ls ms p _ r el (λ q t. f q (omega (arith, t)) (λ d. omega (arith, t, once, is_up, ap (λ x. times x r) d))) a.3),
      rw el_parent (subst (λ (x : ℕ). Around ms x (link ls p).parent p c) (sym er) (Around-frame ls ms root _ p c el (λ q t. f q (omega (arith, t)) (λ d. omega (arith, t, once, is_up, ap (λ x. passes x c) d))) a.4)),
    )
Around-enter ls ms root up at2 right (on_right l p c) el room once f g side a =
    let is_up = same-eq up p a.0 in
    let ne_up : up ≢ none = λ e. omega (arith, e, a.0, a.1) in
    let er : new_root root up at2 ≡ root = rw (ne_eqb up none ne_up) refl in
    let e0 : link ms up ≡ set_kid (link ls up) right at2 = g ne_up in
    let e1 : link ms p ≡ set_kid (link ls p) right at2 = rw a.0 at e0 in
    let e : link ms p ≡ set_kid (link ls p) true at2 = rw side at e1 in
    let el_left : (link ms p).left ≡ (link ls p).left = ap (λ (z : Link). z.left) e in
    let el_right : (link ms p).right ≡ at2 = ap (λ (z : Link). z.right) e in
    let el_parent : (link ms p).parent ≡ (link ls p).parent = ap (λ (z : Link). z.parent) e in (
      a.0,
      rw el a.1,
      el_right,
      rw el_left (Stands-frame ls ms p _ l el (λ q t. f q (omega (arith, t)) (λ d. omega (arith, t, once, is_up, ap (λ x. times x l) d))) a.3),
      rw el_parent (subst (λ (x : ℕ). Around ms x (link ls p).parent p c) (sym er) (Around-frame ls ms root _ p c el (λ q t. f q (omega (arith, t)) (λ d. omega (arith, t, once, is_up, ap (λ x. passes x c) d))) a.4)),
    )

pub Holds-attached : (ls : List Link) (root u n : ℕ) (right : Bool) (xs ys : List ℕ) → Holds ls root (xs ++ ys) → Hole ls root u right xs ys → count n (xs ++ ys) ≡ 0 → n < length ls → length (xs ++ ys) < length ls → Holds (attached ls n u right) (new_root root u n) (xs ++ n ∷ ys)
Holds-attached ls root u n right xs ys h hole fresh ln few =
    let c = hole.path in
    let ar = hole.around in
    let order : places (plug c leaf) ≡ xs ++ ys = places-plug c leaf ∙ rw (hole.is_before, hole.is_after) refl in
    let counts : (q : ℕ) → passes q c ≡ count q (xs ++ ys) = λ q.
    omega (arith, times-plug q c leaf, count-places q (plug c leaf), ap (count q) order) in
    let nn : n ≢ none = λ e. omega (arith, e, ln, h.room) in
    let nu : n ≢ u = not_up ls root u none n c ar nn (omega (arith, counts n, fresh)) in
    let vn : Link = record { left = none; right = none; parent = u; red = true } in
    let l1 : List Link = set ls n vn in
    let vu : Link = set_kid (link l1 u) right n in
    let ms = attached ls n u right in
    let n1 : length l1 ≡ length ls = length-set ls n vn in
    let el : length ms ≡ length ls = length-set l1 u vu ∙ n1 in
    let at_n : link ms n ≡ vn = get_or-set_other l1 u n vu nil nu ∙ get_or-set_same ls n vn nil ln in
    let at_u : u ≢ none → link ms u ≡ set_kid (link ls u) right n = λ ne.
    get_or-set_same l1 u vu nil (rw n1 (up_within ls root u none c ar ne)) ∙ ap (λ (z : Link). set_kid z right n) (get_or-set_other ls n u vn nil (λ e. nu (sym e))) in
    let path : Around ms (new_root root u n) u n c =
    Around-enter ls ms root u n right c el h.room (omega (arith, counts u, h.once u))
    (λ q i d. agree _ _ (get_or-set_other l1 u q vu nil d ∙ get_or-set_other ls n q vn nil (λ e. omega (arith, i, counts n, fresh, ap (λ z. passes z c) e))))
    at_u hole.fits ar in
    let e_left : (link ms n).left ≡ none = ap (λ (z : Link). z.left) at_n in
    let e_right : (link ms n).right ≡ none = ap (λ (z : Link). z.right) at_n in
    let e_up : (link ms n).parent ≡ u = ap (λ (z : Link). z.parent) at_n in
    record {
      shape = plug c (node leaf n leaf);
      stands = Stands-plug ms _ u n c (node leaf n leaf) path (refl, rw el ln, e_up, e_left, e_right);
      in_order = places-plug c (node leaf n leaf) ∙ rw (hole.is_before, hole.is_after) refl;
      once = λ q. elim (cases_eq q n) [
        | inl e ↦ omega (arith, fresh, ap (λ z. count z (xs ++ ys)) e, count-append q xs ys, count-append q xs (n ∷ ys), same-eq q n e)
        | inr d ↦ omega (arith, h.once q, count-append q xs ys, count-append q xs (n ∷ ys), same-ne q n d)
      ];
      fits = rw el (omega (arith, few, length-append xs ys, length-append xs (n ∷ ys)));
      room = rw el h.room;
    }
