-- How deep a tree of both rules is.
use Rattle.std.proofs.Common.{◌≡◌, ◌≢◌, ℕ, suc, ◌+◌, ◌*◌, ◌^◌, ◌≤◌, max, true, false, List, ◌∷◌, ◌++◌, length, refl, sym, ap, ◌∙◌, subst, inl, inr, arith, length-append}
use Rattle.std.proofs.lemmas.Bool.{cases_eq}
use Rattle.std.proofs.lemmas.Nat.{pow-add}
use Rattle.bm_tree.specs.declared.links.Link.{Link}
use Rattle.bm_tree.specs.Links.{none, link}
use Rattle.bm_tree.specs.Shape.{Shape, leaf, node, places, Stands, count, Holds}
use Rattle.bm_tree.specs.Colours.{dark, IsLevel, IsCalm, Coloured, depth, IsShallow}
use Rattle.bm_tree.proofs.Trees.{same-eq, times, count-places, root_in}
use Rattle.bm_tree.proofs.Heights.{dark-most, dark-none}

pow_suc : (n : ℕ) → 2 ^ (1 + n) ≡ 2 * 2 ^ n
pow_suc n = pow-add 2 1 n

root_parent : (ls : List Link) (up at : ℕ) (s : Shape) → Stands ls up at s → at ≢ none → (link ls at).parent ≡ up
root_parent ls up at leaf st ne = absurd (ne st)
root_parent ls up at (node l p r) st ne = ap (λ z. (link ls z).parent) st.0 ∙ st.2

-- what both rules say of a subtree
pub record Bounds (ls : List Link) (h : ℕ → ℕ) (at : ℕ) (s : Shape) : Type 0 where
  pub deep : depth s + dark ls at ≤ 2 * h at + 1
  pub many : 2 ^ h at ≤ length (places s) + 1

pub bounds : (ls : List Link) (h : ℕ → ℕ) (up at : ℕ) (s : Shape) → length ls ≤ none → h none ≡ 0 → ((q : ℕ) → 1 ≤ times q s → IsLevel ls h q) → ((q : ℕ) → 1 ≤ times q s → IsCalm ls q) → Stands ls up at s → Bounds ls h at s
bounds ls h up at leaf room ends level calm st = record {
  deep = omega (arith, ap (dark ls) st, dark-none ls room);
  many = subst (λ (z : ℕ). 2 ^ z ≤ 1) (sym (ap h st ∙ ends)) (omega arith);
}
bounds ls h up at (node l p r) room ends level calm st =
    let here : 1 ≤ times p (node l p r) = omega (arith, same-eq p p refl) in
    let a : ℕ = (link ls p).left in
    let b : ℕ = (link ls p).right in
    let x = bounds ls h p a l room ends (λ q i. level q (omega (arith, i))) (λ q i. calm q (omega (arith, i))) st.3 in
    let y = bounds ls h p b r room ends (λ q i. level q (omega (arith, i))) (λ q i. calm q (omega (arith, i))) st.4 in
    let h_a : h p ≡ dark ls p + h a = level p here false in
    let h_b : h p ≡ dark ls p + h b = level p here true in
    let black_a : 1 ≤ dark ls a + dark ls p = elim (cases_eq a none) [
      | inl e ↦ omega (arith, ap (dark ls) e, dark-none ls room)
      | inr some ↦ omega (arith, (calm a (omega (arith, root_in ls p a l st.3 some))).0, ap (dark ls) (root_parent ls p a l st.3 some))
    ] in
    let black_b : 1 ≤ dark ls b + dark ls p = elim (cases_eq b none) [
      | inl e ↦ omega (arith, ap (dark ls) e, dark-none ls room)
      | inr some ↦ omega (arith, (calm b (omega (arith, root_in ls p b r st.4 some))).0, ap (dark ls) (root_parent ls p b r st.4 some))
    ] in
    let e_at : at ≡ p = st.0 in
    let size : length (places l ++ p ∷ places r) ≡ length (places l) + suc (length (places r)) = length-append (places l) (p ∷ places r) in
    record {
      deep = subst (λ (z : ℕ). depth (node l p r) + dark ls z ≤ 2 * h z + 1) (sym e_at) (deep_step (depth l) (depth r) (dark ls p) (dark ls a) (dark ls b) (h p) (h a) (h b) x.deep y.deep h_a h_b black_a black_b (dark-most ls p));
      many = subst (λ (z : ℕ). 2 ^ h z ≤ length (places l ++ p ∷ places r) + 1) (sym e_at) (many_step (length (places l)) (length (places r)) (length (places l ++ p ∷ places r)) (dark ls p) (h p) (h a) (h b) x.many y.many h_a h_b size (dark-most ls p));
    }
  where
    deep_step : (x y d da db h ha hb : ℕ) → x + da ≤ 2 * ha + 1 → y + db ≤ 2 * hb + 1 → h ≡ d + ha → h ≡ d + hb → 1 ≤ da + d → 1 ≤ db + d → d ≤ 1 → (1 + max x y) + d ≤ 2 * h + 1
    deep_step x y d da db h ha hb a b e f ka kb most = omega arith

    many_step : (x y n d h ha hb : ℕ) → 2 ^ ha ≤ x + 1 → 2 ^ hb ≤ y + 1 → h ≡ d + ha → h ≡ d + hb → n ≡ x + suc y → d ≤ 1 → 2 ^ h ≤ n + 1
    many_step x y n d h ha hb a b e f size most = elim (cases_eq d 0) [
      | inl z ↦ let one : h ≡ ha = omega (arith, e, z) in subst (λ (w : ℕ). 2 ^ w ≤ n + 1) (sym one) (omega (arith, a, size))
      | inr z ↦
          let same_h : ha ≡ hb = omega (arith, e, f) in
          let one : h ≡ 1 + ha = omega (arith, e, z, most) in
          let b2 : 2 ^ ha ≤ y + 1 = subst (λ (w : ℕ). 2 ^ w ≤ y + 1) (sym same_h) b in
          subst (λ (w : ℕ). 2 ^ w ≤ n + 1) (sym one) (omega (arith, pow_suc ha, a, b2, size))
    ]

-- a coloured tree is at most 2 * log2(size + 1) deep
pub shallow : (ls : List Link) (root : ℕ) (order : List ℕ) → (hold : Holds ls root order) → Coloured ls order → IsShallow (depth hold.shape) (length order)
shallow ls root order hold s =
    let inside : (q : ℕ) → 1 ≤ times q hold.shape → 1 ≤ count q order = λ q i. omega (arith, i, count-places q hold.shape, ap (count q) hold.in_order) in
    let b = bounds ls s.height none root hold.shape hold.room s.ends (λ q i. s.level q (inside q i)) (λ q i. s.calm q (inside q i)) hold.stands in
    let black_root : dark ls root ≡ 1 = elim (cases_eq root none) [
      | inl e ↦ ap (dark ls) e ∙ dark-none ls hold.room
      | inr some ↦ (s.calm root (inside root (root_in ls none root hold.shape hold.stands some))).1 (root_parent ls none root hold.shape hold.stands some)
    ] in
    (s.height root, omega (arith, b.deep, black_root), omega (arith, b.many, ap length hold.in_order))
