-- The steps of an unlinking.
use Rattle.std.proofs.Common.{◌≡◌, ◌≢◌, ℕ, ◌+◌, ◌<◌, ◌≤◌, cond, List, [], ◌∷◌, ◌++◌, length, refl, sym, ap, ◌∙◌, inl, inr, arith, append_assoc, length-append}
use Rattle.std.proofs.lemmas.Bool.{cases_eq, eq-eqb, ne_eqb}
use Rattle.std.specs.Prelude.{◌==◌}
use Rattle.bm_tree.specs.declared.links.Link.{Link}
use Rattle.bm_tree.specs.Links.{link}
use Rattle.bm_tree.specs.Shape.{node, places, count, Holds, In, below, Rooted}
use Rattle.bm_tree.specs.Paths.{before, after}
use Rattle.bm_tree.proofs.Trees.{same-eq, same-ne, times, passes, Cut, cut, places-plug, count-places, count-append}
use Rattle.bm_tree.proofs.Frames.{shape_of-is, not_up}
use Rattle.bm_tree.proofs.Rotation.{once_cut}
use Rattle.bm_tree.proofs.Splicing.{split_once}
use Rattle.bm_tree.proofs.Painting.{parent_in}

pub cut_at : (ls : List Link) (root : ℕ) (order : List ℕ) (x : ℕ) (h : Holds ls root order) → 1 ≤ count x order → Cut ls root x h.shape
cut_at ls root order x h i =
    let n : times x h.shape ≡ count x order = sym (count-places x h.shape) ∙ ap (count x) h.in_order in
    cut ls root x h.shape h.stands (omega (arith, n, i))

pub here : (x : ℕ) (xs ys : List ℕ) → 1 ≤ count x (xs ++ x ∷ ys)
here x xs ys = omega (arith, count-append x xs (x ∷ ys), same-eq x x refl)

pub place_within : (ls : List Link) (root : ℕ) (order : List ℕ) (x : ℕ) → Holds ls root order → 1 ≤ count x order → x < length ls
place_within ls root order x h i = let k = cut_at ls root order x h i in k.stands.1

pub parent_left : (ls : List Link) (root x : ℕ) (xs ys : List ℕ) → Holds ls root (xs ++ x ∷ ys) → In (link ls x).parent (xs ++ ys)
parent_left ls root x xs ys h ne =
    let u = (link ls x).parent in
    let i : 1 ≤ count u (xs ++ x ∷ ys) = parent_in ls root (xs ++ x ∷ ys) x h (λ d. here x xs ys) ne in
    let k = cut_at ls root (xs ++ x ∷ ys) x h (here x xs ys) in
    let w : passes x k.path + times x (node k.l x k.r) ≤ 1 = once_cut ls root _ h k.path (node k.l x k.r) k.is_whole x in
    let other : x ≢ u = not_up ls root u x x k.path k.around (λ e. omega (arith, e, k.stands.1, h.room)) (omega (arith, w, same-eq x x refl)) in
    omega (arith, i, count-append u xs ys, count-append u xs (x ∷ ys), same-ne u x (λ e. other (sym e)))

pub right_rooted : (ls : List Link) (root : ℕ) (order : List ℕ) (x : ℕ) → Holds ls root order → 1 ≤ count x order → Rooted ls (link ls x).right
right_rooted ls root order x h i =
    let k = cut_at ls root order x h i in
    let whole : before k.path ++ ((places k.l ++ x ∷ places k.r) ++ after k.path) ≡ order = sym (places-plug k.path (node k.l x k.r)) ∙ ap places k.is_whole ∙ h.in_order in
    record {
      up = x;
      shape = k.r;
      stands = k.stands.4;
      fits = omega (arith, h.fits, ap length whole, length-append (before k.path) ((places k.l ++ x ∷ places k.r) ++ after k.path), length-append (places k.l ++ x ∷ places k.r) (after k.path), length-append (places k.l) (x ∷ places k.r));
      room = h.room;
    }

-- the first place on the right is the next one in order
pub after_right : (ls : List Link) (root x n : ℕ) (xs ys : List ℕ) → Holds ls root (xs ++ x ∷ ys) → (rest : List ℕ) × (places (below ls (link ls x).right) ≡ n ∷ rest) → (rest : List ℕ) × (ys ≡ n ∷ rest)
after_right ls root x n xs ys h first =
    let k = cut_at ls root (xs ++ x ∷ ys) x h (here x xs ys) in
    let r = right_rooted ls root (xs ++ x ∷ ys) x h (here x xs ys) in
    let c = k.path in
    let whole : before c ++ ((places k.l ++ x ∷ places k.r) ++ after c) ≡ xs ++ x ∷ ys = sym (places-plug c (node k.l x k.r)) ∙ ap places k.is_whole ∙ h.in_order in
    let few : length (places k.r) ≤ length ls =
    omega (arith, h.fits, ap length whole, length-append (before c) ((places k.l ++ x ∷ places k.r) ++ after c), length-append (places k.l ++ x ∷ places k.r) (after c), length-append (places k.l) (x ∷ places k.r)) in
    let there : below ls (link ls x).right ≡ k.r = shape_of-is ls x (link ls x).right k.r (length ls) h.room k.stands.4 few in
    let cut_here : (before c ++ places k.l) ++ x ∷ (places k.r ++ after c) ≡ xs ++ x ∷ ys =
    append_assoc (before c) (places k.l) (x ∷ (places k.r ++ after c)) ∙ ap (λ zs. before c ++ zs) (sym (append_assoc (places k.l) (x ∷ places k.r) (after c))) ∙ whole in
    let parts = split_once x xs (before c ++ places k.l) ys (places k.r ++ after c) (sym cut_here) (h.once x) in
    let shown : places k.r ≡ n ∷ first.0 = ap places (sym there) ∙ first.1 in
    (first.0 ++ after c, parts.1 ∙ ap (λ zs. zs ++ after c) shown)

pub above_in : (p x n : ℕ) (xs rest : List ℕ) → In p ((xs ++ x ∷ []) ++ rest) → In (cond (p == x) n p) (xs ++ n ∷ rest)
above_in p x n xs rest i =
    elim (cases_eq p x) [
      | inl e ↦ rw (eq-eqb p x e) (λ ne. here n xs rest)
      | inr d ↦ rw (ne_eqb p x d) (λ ne. omega (arith, i ne, same-ne p x d, count-append p (xs ++ x ∷ []) rest, count-append p xs (x ∷ []), count-append p xs (n ∷ rest)))
    ]
