use Rattle.std.proofs.Common.{ℕ, List, ◌≡◌, ◌<◌, [], ◌∷◌, ◌++◌, length, sym, ap, ◌∙◌, subst, inl, inr, arith, append_assoc, refl}
use Rattle.bm_tree.specs.Links.{HasFreeSide}
use Rattle.bm_tree.specs.Colours.{Coloured}
use Rattle.bm_tree.specs.Shape.{Holds, count}
use Rattle.bm_tree.proofs.Trees.{count-append, same-eq}
use Rattle.bm_tree.proofs.Unlinking.{right_rooted, after_right, place_within, here}
use Rattle.bm_tree.proofs.places.unlink.Goals.{then-gone-via-then-gone, then-gone-via-else-gone+then-gone-2}
use Rattle.bm_tree.proofs.places.unlink.Goals as goal

pub returns-then-gone-clause-order : goal.returns-then-gone-clause-order
returns-then-gone-clause-order c = λ xs ys h.
    let lone : HasFreeSide c.link_at-gone.result = elim c.then-gone.branch [
      | then-gone-via-then-gone w ↦ inl w.if-gone.true
      | then-gone-via-else-gone+then-gone-2 w ↦ inr w.if-gone-2.true
    ] in
    c.detach.ensures.order xs ys h (rw (← c.link_at-gone.ensures) lone)

pub returns-then-gone-clause-colours : goal.returns-then-gone-clause-colours
returns-then-gone-clause-colours c = λ xs ys h s.
    let lone : HasFreeSide c.link_at-gone.result = elim c.then-gone.branch [
      | then-gone-via-then-gone w ↦ inl w.if-gone.true
      | then-gone-via-else-gone+then-gone-2 w ↦ inr w.if-gone-2.true
    ] in
    c.detach.ensures.colours xs ys h (rw (← c.link_at-gone.ensures) lone) s

pub leftmost-next-requires : goal.leftmost-next-requires
leftmost-next-requires c = rw c.link_at-gone.ensures (right_rooted c.args.links.now c.args.root _ c.args.place c.requires.holds c.requires.present)

pub returns-clause-order : goal.returns-clause-order
returns-clause-order c = λ xs ys h.
    let ls = c.args.links.now in
    let x = c.args.place in
    let n = c.leftmost-next.result in
    let first = rw c.link_at-gone.ensures at (c.leftmost-next.ensures.first c.if-gone-2.false) in
    let tail = after_right ls c.args.root x n xs ys h first in
    let rest = tail.0 in
    let whole : (xs ++ x ∷ []) ++ n ∷ rest ≡ xs ++ x ∷ ys = append_assoc xs (x ∷ []) (n ∷ rest) ∙ ap (λ zs. xs ++ x ∷ zs) (sym tail.1) in
    let h0 : Holds ls c.args.root ((xs ++ x ∷ []) ++ n ∷ rest) = subst (Holds ls c.args.root) (sym whole) h in
    let h1 = c.detach-detached_root.ensures.order (xs ++ x ∷ []) rest h0 (inl c.leftmost-next.ensures.ends) in
    let h2 : Holds c.detach-detached_root.new.links c.detach-detached_root.result (xs ++ x ∷ rest) = subst (Holds c.detach-detached_root.new.links c.detach-detached_root.result) (append_assoc xs (x ∷ []) rest) h1 in
    let fresh : count n (xs ++ x ∷ rest) ≡ 0 = omega (arith, h0.once n, same-eq n n refl, count-append n (xs ++ x ∷ []) (n ∷ rest), count-append n xs (x ∷ []), count-append n xs (x ∷ rest)) in
    let inside : n < length ls = place_within ls c.args.root _ n h0 (here n (xs ++ x ∷ []) rest) in
    let h3 = c.substitute.ensures.order xs rest h2 fresh (omega (arith, inside)) in
    subst (λ (zs : List ℕ). Holds c.substitute.new.links c.substitute.result (xs ++ zs)) (sym tail.1) h3

pub returns-clause-colours : goal.returns-clause-colours
returns-clause-colours c = λ xs ys h s.
    let ls = c.args.links.now in
    let x = c.args.place in
    let n = c.leftmost-next.result in
    let first = rw c.link_at-gone.ensures at (c.leftmost-next.ensures.first c.if-gone-2.false) in
    let tail = after_right ls c.args.root x n xs ys h first in
    let rest = tail.0 in
    let whole : (xs ++ x ∷ []) ++ n ∷ rest ≡ xs ++ x ∷ ys = append_assoc xs (x ∷ []) (n ∷ rest) ∙ ap (λ zs. xs ++ x ∷ zs) (sym tail.1) in
    let h0 : Holds ls c.args.root ((xs ++ x ∷ []) ++ n ∷ rest) = subst (Holds ls c.args.root) (sym whole) h in
    let h1 = c.detach-detached_root.ensures.order (xs ++ x ∷ []) rest h0 (inl c.leftmost-next.ensures.ends) in
    let h2 : Holds c.detach-detached_root.new.links c.detach-detached_root.result (xs ++ x ∷ rest) = subst (Holds c.detach-detached_root.new.links c.detach-detached_root.result) (append_assoc xs (x ∷ []) rest) h1 in
    let fresh : count n (xs ++ x ∷ rest) ≡ 0 = omega (arith, h0.once n, same-eq n n refl, count-append n (xs ++ x ∷ []) (n ∷ rest), count-append n xs (x ∷ []), count-append n xs (x ∷ rest)) in
    let inside : n < length ls = place_within ls c.args.root _ n h0 (here n (xs ++ x ∷ []) rest) in
    let s0 = subst (Coloured ls) (sym whole) s in
    let s1 = c.detach-detached_root.ensures.colours (xs ++ x ∷ []) rest h0 (inl c.leftmost-next.ensures.ends) s0 in
    let s2 : Coloured c.detach-detached_root.new.links (xs ++ x ∷ rest) = subst (Coloured c.detach-detached_root.new.links) (append_assoc xs (x ∷ []) rest) s1 in
    let s3 = c.substitute.ensures.colours xs rest h2 fresh (omega (arith, inside)) s2 in
    subst (λ (zs : List ℕ). Coloured c.substitute.new.links (xs ++ zs)) (sym tail.1) s3
