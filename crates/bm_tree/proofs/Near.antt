-- The places round a place of a tree.
use Rattle.std.proofs.Common.{◌≡◌, ◌≢◌, ℕ, ◌+◌, ◌<◌, ◌≤◌, not, Bool, true, false, List, length, refl, sym, ap, ◌∙◌, arith}
use Rattle.bm_tree.specs.declared.links.Link.{Link}
use Rattle.bm_tree.specs.Links.{none, link, kid_of}
use Rattle.bm_tree.specs.Shape.{Shape, leaf, node, Stands, count, Holds}
use Rattle.bm_tree.proofs.Trees.{same-eq, times, Path, top, on_left, on_right, passes, Around, root_in}
use Rattle.bm_tree.proofs.Frames.{not_root, not_up}
use Rattle.bm_tree.proofs.Rotation.{once_cut}
use Rattle.bm_tree.proofs.Unlinking.{cut_at}
use Rattle.bm_tree.proofs.Painting.{parent_in, kid_in}

-- what holds round each place of the tree
pub record Near (ls : List Link) (order : List ℕ) : Type 0 where
  pub room : length ls ≤ none
  pub within : (q : ℕ) → 1 ≤ count q order → q < length ls
  pub down : (q : ℕ) (right : Bool) → 1 ≤ count q order → kid_of (link ls q) right ≢ none → ((link ls (kid_of (link ls q) right)).parent ≡ q) × (1 ≤ count (kid_of (link ls q) right) order)
  pub up : (q : ℕ) → 1 ≤ count q order → (link ls q).parent ≢ none → (1 ≤ count (link ls q).parent order) × ((right : Bool) × (kid_of (link ls (link ls q).parent) right ≡ q))
  pub differ : (q : ℕ) (right : Bool) → 1 ≤ count q order → kid_of (link ls q) right ≢ none → kid_of (link ls q) right ≢ kid_of (link ls q) (not right)
  pub apart : (q : ℕ) (right : Bool) → 1 ≤ count q order → kid_of (link ls q) right ≢ q
  pub far : (q : ℕ) (right : Bool) → 1 ≤ count q order → kid_of (link ls q) right ≢ none → kid_of (link ls q) right ≢ (link ls q).parent
  pub farther : (q : ℕ) (right side : Bool) → 1 ≤ count q order → kid_of (link ls q) right ≢ none → let b = kid_of (link ls (kid_of (link ls q) right)) side in b ≢ none → b ≢ (link ls q).parent

root_up : (ls : List Link) (up at : ℕ) (s : Shape) → Stands ls up at s → at ≢ none → (link ls at).parent ≡ up
root_up ls up at leaf st ne = absurd (ne st)
root_up ls up at (node l p r) st ne = ap (λ z. (link ls z).parent) st.0 ∙ st.2

hole_kid : (ls : List Link) (root up at : ℕ) (c : Path) → Around ls root up at c → up ≢ none → (right : Bool) × (kid_of (link ls up) right ≡ at)
hole_kid ls root up at top a ne = absurd (ne a.0)
hole_kid ls root up at (on_left p r c) a ne = (false, ap (λ z. (link ls z).left) a.0 ∙ a.2)
hole_kid ls root up at (on_right l p c) a ne = (true, ap (λ z. (link ls z).right) a.0 ∙ a.2)

down_at : (ls : List Link) (root : ℕ) (order : List ℕ) → Holds ls root order → (q : ℕ) (right : Bool) → 1 ≤ count q order → kid_of (link ls q) right ≢ none → (link ls (kid_of (link ls q) right)).parent ≡ q
down_at ls root order h q false i ne = let k = cut_at ls root order q h i in root_up ls q _ k.l k.stands.3 ne
down_at ls root order h q true i ne = let k = cut_at ls root order q h i in root_up ls q _ k.r k.stands.4 ne

up_at : (ls : List Link) (root : ℕ) (order : List ℕ) → Holds ls root order → (q : ℕ) → 1 ≤ count q order → (link ls q).parent ≢ none → (right : Bool) × (kid_of (link ls (link ls q).parent) right ≡ q)
up_at ls root order h q i ne = let k = cut_at ls root order q h i in hole_kid ls root (link ls q).parent q k.path k.around ne

differ_at : (ls : List Link) (root : ℕ) (order : List ℕ) → Holds ls root order → (q : ℕ) (right : Bool) → 1 ≤ count q order → kid_of (link ls q) right ≢ none → kid_of (link ls q) right ≢ kid_of (link ls q) (not right)
differ_at ls root order h q false i ne =
    let k = cut_at ls root order q h i in
    let v = (link ls q).left in
    let w : passes v k.path + times v (node k.l q k.r) ≤ 1 = once_cut ls root _ h k.path (node k.l q k.r) k.is_whole v in
    not_root ls q _ v k.r k.stands.4 ne (omega (arith, w, root_in ls q v k.l k.stands.3 ne))
differ_at ls root order h q true i ne =
    let k = cut_at ls root order q h i in
    let v = (link ls q).right in
    let w : passes v k.path + times v (node k.l q k.r) ≤ 1 = once_cut ls root _ h k.path (node k.l q k.r) k.is_whole v in
    not_root ls q _ v k.l k.stands.3 ne (omega (arith, w, root_in ls q v k.r k.stands.4 ne))

apart_at : (ls : List Link) (root : ℕ) (order : List ℕ) → Holds ls root order → (q : ℕ) (right : Bool) → 1 ≤ count q order → kid_of (link ls q) right ≢ q
apart_at ls root order h q false i e =
    let k = cut_at ls root order q h i in
    let w : passes q k.path + times q (node k.l q k.r) ≤ 1 = once_cut ls root _ h k.path (node k.l q k.r) k.is_whole q in
    not_root ls q _ q k.l k.stands.3 (λ n. omega (arith, n, k.stands.1, h.room)) (omega (arith, w, same-eq q q refl)) (sym e)
apart_at ls root order h q true i e =
    let k = cut_at ls root order q h i in
    let w : passes q k.path + times q (node k.l q k.r) ≤ 1 = once_cut ls root _ h k.path (node k.l q k.r) k.is_whole q in
    not_root ls q _ q k.r k.stands.4 (λ n. omega (arith, n, k.stands.1, h.room)) (omega (arith, w, same-eq q q refl)) (sym e)

far_at : (ls : List Link) (root : ℕ) (order : List ℕ) → Holds ls root order → (q : ℕ) (right : Bool) → 1 ≤ count q order → kid_of (link ls q) right ≢ none → kid_of (link ls q) right ≢ (link ls q).parent
far_at ls root order h q false i ne =
    let k = cut_at ls root order q h i in
    let v = (link ls q).left in
    let w : passes v k.path + times v (node k.l q k.r) ≤ 1 = once_cut ls root _ h k.path (node k.l q k.r) k.is_whole v in
    not_up ls root _ q v k.path k.around ne (omega (arith, w, root_in ls q v k.l k.stands.3 ne))
far_at ls root order h q true i ne =
    let k = cut_at ls root order q h i in
    let v = (link ls q).right in
    let w : passes v k.path + times v (node k.l q k.r) ≤ 1 = once_cut ls root _ h k.path (node k.l q k.r) k.is_whole v in
    not_up ls root _ q v k.path k.around ne (omega (arith, w, root_in ls q v k.r k.stands.4 ne))

kid_within : (ls : List Link) (up at : ℕ) (s : Shape) (side : Bool) → Stands ls up at s → at ≢ none → kid_of (link ls at) side ≢ none → 1 ≤ times (kid_of (link ls at) side) s
kid_within ls up at leaf side st ne some = absurd (ne st)
kid_within ls up at (node l p r) false st ne some =
    let same_kid : (link ls at).left ≡ (link ls p).left = ap (λ z. (link ls z).left) st.0 in
    omega (arith, root_in ls p (link ls p).left l st.3 (λ z. some (same_kid ∙ z)), ap (λ z. times z (node l p r)) same_kid)
kid_within ls up at (node l p r) true st ne some =
    let same_kid : (link ls at).right ≡ (link ls p).right = ap (λ z. (link ls z).right) st.0 in
    omega (arith, root_in ls p (link ls p).right r st.4 (λ z. some (same_kid ∙ z)), ap (λ z. times z (node l p r)) same_kid)

farther_at : (ls : List Link) (root : ℕ) (order : List ℕ) → Holds ls root order → (q : ℕ) (right side : Bool) → 1 ≤ count q order → kid_of (link ls q) right ≢ none → let b = kid_of (link ls (kid_of (link ls q) right)) side in b ≢ none → b ≢ (link ls q).parent
farther_at ls root order h q false side i ne some =
    let k = cut_at ls root order q h i in
    let b = kid_of (link ls (link ls q).left) side in
    let w : passes b k.path + times b (node k.l q k.r) ≤ 1 = once_cut ls root _ h k.path (node k.l q k.r) k.is_whole b in
    not_up ls root _ q b k.path k.around some (omega (arith, w, kid_within ls q _ k.l side k.stands.3 ne some))
farther_at ls root order h q true side i ne some =
    let k = cut_at ls root order q h i in
    let b = kid_of (link ls (link ls q).right) side in
    let w : passes b k.path + times b (node k.l q k.r) ≤ 1 = once_cut ls root _ h k.path (node k.l q k.r) k.is_whole b in
    not_up ls root _ q b k.path k.around some (omega (arith, w, kid_within ls q _ k.r side k.stands.4 ne some))

pub near : (ls : List Link) (root : ℕ) (order : List ℕ) → Holds ls root order → Near ls order
near ls root order h = record {
  room = h.room;
  within = λ q i. (cut_at ls root order q h i).stands.1;
  down = λ q right i ne. (down_at ls root order h q right i ne, kid_in ls root order q right h (λ n. i) ne);
  up = λ q i ne. (parent_in ls root order q h (λ n. i) ne, up_at ls root order h q i ne);
  differ = differ_at ls root order h;
  apart = apart_at ls root order h;
  far = far_at ls root order h;
  farther = farther_at ls root order h;
}
