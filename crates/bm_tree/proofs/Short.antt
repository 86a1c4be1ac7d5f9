-- A place whose ways down lack one black place: how that goes up the tree, and how it ends.
use Rattle.std.proofs.Common.{◌≡◌, ◌≢◌, ℕ, ◌+◌, ◌≤◌, not, Bool, true, false, List, refl, sym, ap, ◌∙◌, subst, inl, inr, arith}
use Rattle.std.proofs.lemmas.Bool.{cases_eq, eq-eqb, ne_eqb}
use Rattle.std.specs.Prelude.{◌==◌}
use Rattle.bm_tree.specs.declared.links.Link.{Link}
use Rattle.bm_tree.specs.Links.{none, link, kid_of, painted, sibling_of}
use Rattle.bm_tree.specs.Shape.{count, Agree}
use Rattle.bm_tree.specs.Colours.{dark, IsLevel, Coloured, ShortAt}
use Rattle.bm_tree.proofs.Near.{Near}
use Rattle.bm_tree.proofs.Painting.{Agree-painted}
use Rattle.bm_tree.proofs.Heights.{upd, upd-eq, upd-ne, upd2-ne, red_some, dark-painted_same, dark-painted_other, cases_side, kid_agree, level_by, calm_by, sibling_is, kid_not, in_some}
use Rattle.bm_tree.proofs.RedRed.{dark_more}

-- the other kid of the place above
pub record Beside (ls : List Link) (order : List ℕ) (at up : ℕ) (h : ℕ → ℕ) (side : Bool) (o : ℕ) : Type 0 where
  pub in_up : 1 ≤ count up order
  pub in_o : 1 ≤ count o order
  pub some_o : o ≢ none
  pub o_up : (link ls o).parent ≡ up
  pub o_at : o ≢ at
  pub at_up : at ≢ up
  pub o_not_up : o ≢ up
  pub is_at : kid_of (link ls up) side ≡ at
  pub is_o : kid_of (link ls up) (not side) ≡ o
  pub sibling : sibling_of (link ls up) at ≡ o
  pub code_side : not ((link ls up).left == at) ≡ side
  pub h_up : h up ≡ dark ls up + 1 + h at
  pub h_o : h o ≡ 1 + h at
  pub o_far : o ≢ (link ls up).parent
  pub at_far : at ≢ none → at ≢ (link ls up).parent

pub beside : (ls : List Link) (order : List ℕ) (at up : ℕ) → Near ls order → (s : ShortAt ls order at up) → up ≢ none → Beside ls order at up s.height s.side (kid_of (link ls up) (not s.side))
beside ls order at up n s some =
    let h = s.height in
    let t = s.side in
    let o = kid_of (link ls up) (not t) in
    let in_up = s.above some in
    let short = s.short some in
    let h_o : h o ≡ 1 + h at = omega (arith, short.1, short.2) in
    let some_o : o ≢ none = λ z. omega (arith, h_o, ap h z, s.ends) in
    let o_at : o ≢ at = λ z. omega (arith, h_o, ap h z) in
    let down = n.down up (not t) in_up some_o in
    record {
      in_up = in_up;
      in_o = down.1;
      some_o = some_o;
      o_up = down.0;
      o_at = o_at;
      at_up = λ z. n.apart up t in_up (short.0 ∙ z);
      o_not_up = n.apart up (not t) in_up;
      is_at = short.0;
      is_o = refl;
      sibling = sibling_is (link ls up) at t short.0 o_at;
      code_side = code_side (link ls up) at t short.0 o_at;
      h_up = short.1;
      h_o = h_o;
      o_far = n.far up (not t) in_up some_o;
      at_far = λ sa z. n.far up t in_up (λ w. sa (sym short.0 ∙ w)) (short.0 ∙ z);
    }
  where
    code_side : (x : Link) (p : ℕ) (t : Bool) → kid_of x t ≡ p → kid_of x (not t) ≢ p → not (x.left == p) ≡ t
    code_side x p false e d = rw (eq-eqb x.left p e) refl
    code_side x p true e d = rw (ne_eqb x.left p d) refl

-- the sibling, black with black kids, goes red, and the lack goes up
pub black_step : (ls : List Link) (order : List ℕ) (at up o : ℕ) → Near ls order → ShortAt ls order at up → up ≢ none → dark ls at ≡ 1 → sibling_of (link ls up) at ≡ o → dark ls o ≡ 1 → ((r : Bool) → dark ls (kid_of (link ls o) r) ≡ 1) → ShortAt (painted ls o true) order up (link ls up).parent
black_step ls order at up o n s some black_at eo black_o black_kids =
    let h = s.height in
    let t = s.side in
    let o0 = kid_of (link ls up) (not t) in
    let b0 = beside ls order at up n s some in
    let b : Beside ls order at up h t o = subst (λ (z : ℕ). Beside ls order at up h t z) (sym b0.sibling ∙ eo) b0 in
    let ms = painted ls o true in
    let top = (link ls up).parent in
    let g = upd (upd h up (dark ls up + h at)) o (h at) in
    let g_up : g up ≡ dark ls up + h at = upd-ne (upd h up (dark ls up + h at)) o (h at) up (λ z. b.o_not_up (sym z)) ∙ upd-eq h up (dark ls up + h at) up refl in
    let g_o : g o ≡ h at = upd-eq (upd h up (dark ls up + h at)) o (h at) o refl in
    let g_other : (q : ℕ) → q ≢ up → q ≢ o → g q ≡ h q = λ q a c. upd2-ne h up (dark ls up + h at) o (h at) q a c in
    let d_o : dark ms o ≡ 0 = dark-painted_same ls o true (n.within o b.in_o) in
    let d_other : (q : ℕ) → q ≢ o → dark ms q ≡ dark ls q = λ q d. dark-painted_other ls o true q d in
    let d_up : dark ms up ≡ dark ls up = d_other up (λ z. b.o_not_up (sym z)) in
    let same : (q : ℕ) → Agree (link ls q) (link ms q) = λ q. Agree-painted ls o true q in
    let level : (q : ℕ) → 1 ≤ count q order → q ≢ top → IsLevel ms g q = λ q iq qt.
    level_by ls ms g q (same q) (λ r.
    let k = kid_of (link ls q) r in
    elim (cases_eq q up) [
      | inl e ↦
          let at_up : g up ≡ dark ms up + g (kid_of (link ls up) r) = elim (cases_side t r) [
            | inl c ↦ let is : kid_of (link ls up) r ≡ at = ap (kid_of (link ls up)) c ∙ b.is_at in omega (arith, g_up, d_up, ap g is, g_other at b.at_up (λ z. b.o_at (sym z)))
            | inr c ↦ let is : kid_of (link ls up) r ≡ o = ap (kid_of (link ls up)) c ∙ b.is_o in omega (arith, g_up, d_up, ap g is, g_o)
          ] in
          subst (λ (z : ℕ). g z ≡ dark ms z + g (kid_of (link ls z) r)) (sym e) at_up
      | inr du ↦
          let not_up : k ≢ up = kid_not ls order q r up n iq some (λ z. qt (sym z)) in
          elim (cases_eq q o) [
            | inl e ↦
                let not_o : k ≢ o = λ z. n.apart q r iq (z ∙ sym e) in
                omega (arith, ap g e, g_o, ap (dark ms) e, d_o, g_other k not_up not_o, s.level q iq du r, ap (dark ls) e, black_o, ap h e, b.h_o)
            | inr dn ↦
                let not_o : k ≢ o = kid_not ls order q r o n iq b.some_o (λ z. du (sym z ∙ b.o_up)) in
                omega (arith, g_other q du dn, d_other q dn, g_other k not_up not_o, s.level q iq du r)
          ]
    ]) in
    let calm : (q : ℕ) → 1 ≤ count q order → q ≢ up → (link ms q).parent ≢ up → 1 ≤ dark ms q + dark ms (link ms q).parent = λ q iq du pu.
    let p = (link ls q).parent in
    let same_up : (link ms q).parent ≡ p = (same q).parent in
    let q_o : q ≢ o = λ z. pu (same_up ∙ ap (λ w. (link ls w).parent) z ∙ b.o_up) in
    let q_at : q ≢ at = λ z. pu (same_up ∙ ap (λ w. (link ls w).parent) z ∙ (s.here (λ w. in_some ls order q n iq (z ∙ w))).1) in
    elim (cases_eq p o) [
      | inl e ↦
          let up_q = n.up q iq (λ z. b.some_o (sym e ∙ z)) in
          let is_q : kid_of (link ls o) up_q.1.0 ≡ q = ap (λ z. kid_of (link ls z) up_q.1.0) (sym e) ∙ up_q.1.1 in
          omega (arith, d_other q q_o, ap (dark ls) is_q, black_kids up_q.1.0)
      | inr po ↦ elim (cases_eq p at) [
        | inl e ↦ omega (arith, ap (dark ms) same_up, d_other p po, ap (dark ls) e, black_at)
        | inr pa ↦ omega (arith, ap (dark ms) same_up, d_other p po, d_other q q_o, s.calm q iq q_at pa)
      ]
    ] in
    let top_rule : (q : ℕ) → 1 ≤ count q order → q ≢ up → (link ms q).parent ≡ none → dark ms q ≡ 1 = λ q iq du root.
    let old_root : (link ls q).parent ≡ none = sym (same q).parent ∙ root in
    let q_o : q ≢ o = λ z. some (sym b.o_up ∙ ap (λ w. (link ls w).parent) (sym z) ∙ old_root) in
    let q_at : q ≢ at = λ z. some (sym (s.here (λ w. in_some ls order q n iq (z ∙ w))).1 ∙ ap (λ w. (link ls w).parent) (sym z) ∙ old_root) in
    d_other q q_o ∙ s.top q iq q_at old_root in
    let ends : g none ≡ 0 = g_other none (λ z. some (sym z)) (λ z. b.some_o (sym z)) ∙ s.ends in
    elim (cases_eq top none) [
      | inl e ↦ record {
        height = g;
        ends = ends;
        level = level;
        above = λ z. absurd (z e);
        here = λ z. (b.in_up, (same up).parent);
        side = false;
        short = λ z. absurd (z e);
        calm = calm;
        top = top_rule;
      }
      | inr some_top ↦
          let above = n.up up b.in_up some_top in
          let side : Bool = above.1.0 in
          let is_up : kid_of (link ls top) side ≡ up = above.1.1 in
          let top_up : top ≢ up = λ z. n.apart top side above.0 (is_up ∙ sym z) in
          let top_o : top ≢ o = λ z. b.o_far (sym z) in
          let level_top = s.level top above.0 top_up in
          let k2 = kid_of (link ls top) (not side) in
          let k2_up : k2 ≢ up = λ z. n.differ top side above.0 (λ w. some (sym is_up ∙ w)) (is_up ∙ sym z) in
          let k2_o : k2 ≢ o = kid_not ls order top (not side) o n above.0 b.some_o (λ z. top_up (sym z ∙ b.o_up)) in
          record {
            height = g;
            ends = ends;
            level = level;
            above = λ z. above.0;
            here = λ z. (b.in_up, (same up).parent);
            side = side;
            short = λ z. (
              kid_agree (link ls top) (link ms top) side (same top) ∙ is_up,
              omega (arith, g_other top top_up top_o, d_other top top_o, level_top side, ap h is_up, b.h_up, g_up),
              omega (arith, g_other top top_up top_o, d_other top top_o, level_top (not side), ap g (kid_agree (link ls top) (link ms top) (not side) (same top)), g_other k2 k2_up k2_o),
            );
            calm = calm;
            top = top_rule;
          }
    ]

-- a red place goes black, and lacks none
pub short_red : (ls : List Link) (order : List ℕ) (at up : ℕ) → Near ls order → ShortAt ls order at up → dark ls at ≡ 0 → Coloured (painted ls at false) order
short_red ls order at up n s red_at =
    let h = s.height in
    let ms = painted ls at false in
    let some_at = red_some ls at n.room red_at in
    let here = s.here some_at in
    let g = upd h at (h at + 1) in
    let g_at : g at ≡ h at + 1 = upd-eq h at (h at + 1) at refl in
    let d_at : dark ms at ≡ 1 = dark-painted_same ls at false (n.within at here.0) in
    let d_other : (q : ℕ) → q ≢ at → dark ms q ≡ dark ls q = λ q d. dark-painted_other ls at false q d in
    let same : (q : ℕ) → Agree (link ls q) (link ms q) = λ q. Agree-painted ls at false q in
    let at_up : at ≢ up = λ z. elim (cases_eq up none) [
      | inl e ↦ some_at (z ∙ e)
      | inr some ↦ (beside ls order at up n s some).at_up z
    ] in
    record {
      height = g;
      ends = upd-ne h at (h at + 1) none (λ z. some_at (sym z)) ∙ s.ends;
      level = λ q iq. level_by ls ms g q (same q) (λ r.
          let k = kid_of (link ls q) r in
          elim (cases_eq q up) [
            | inl e ↦
                let some : up ≢ none = λ z. in_some ls order q n iq (e ∙ z) in
                let b = beside ls order at up n s some in
                let g_up : g up ≡ h up = upd-ne h at (h at + 1) up (λ z. at_up (sym z)) in
                let d_up : dark ms up ≡ dark ls up = d_other up (λ z. at_up (sym z)) in
                let at_here : g up ≡ dark ms up + g (kid_of (link ls up) r) = elim (cases_side s.side r) [
                  | inl c ↦ let is : kid_of (link ls up) r ≡ at = ap (kid_of (link ls up)) c ∙ b.is_at in omega (arith, g_up, d_up, ap g is, g_at, b.h_up)
                  | inr c ↦ let is = ap (kid_of (link ls up)) c in omega (arith, g_up, d_up, ap g is, upd-ne h at (h at + 1) (kid_of (link ls up) (not s.side)) b.o_at, b.h_up, b.h_o)
                ] in
                subst (λ (z : ℕ). g z ≡ dark ms z + g (kid_of (link ls z) r)) (sym e) at_here
            | inr du ↦
                let not_at : k ≢ at = kid_not ls order q r at n iq some_at (λ z. du (sym z ∙ here.1)) in
                elim (cases_eq q at) [
                  | inl e ↦ omega (arith, ap g e, g_at, ap (dark ms) e, d_at, upd-ne h at (h at + 1) k not_at, s.level q iq du r, ap (dark ls) e, red_at, ap h e)
                  | inr da ↦ omega (arith, upd-ne h at (h at + 1) q da, d_other q da, upd-ne h at (h at + 1) k not_at, s.level q iq du r)
                ]
          ]);
      calm = λ q iq. elim (cases_eq q at) [
        | inl e ↦ calm_by ls ms q (same q) (omega (arith, ap (dark ms) e, d_at)) (λ z. ap (dark ms) e ∙ d_at)
        | inr da ↦
            let p = (link ls q).parent in
            elim (cases_eq p at) [
              | inl e ↦ calm_by ls ms q (same q) (omega (arith, ap (dark ms) e, d_at)) (λ z. absurd (some_at (sym e ∙ z)))
              | inr pa ↦ calm_by ls ms q (same q) (omega (arith, d_other q da, dark_more ls at p (n.within at here.0), s.calm q iq da pa)) (λ z. d_other q da ∙ s.top q iq da z)
            ]
      ];
    }

-- at the root nothing is lacking
pub short_root : (ls : List Link) (order : List ℕ) (at up : ℕ) → Near ls order → ShortAt ls order at up → up ≡ none → dark ls at ≡ 1 → Coloured (painted ls at false) order
short_root ls order at up n s root black_at =
    let ms = painted ls at false in
    let same : (q : ℕ) → Agree (link ls q) (link ms q) = λ q. Agree-painted ls at false q in
    let d_same : (q : ℕ) → 1 ≤ count q order → dark ms q ≡ dark ls q = λ q iq. elim (cases_eq q at) [
      | inl e ↦ ap (dark ms) e ∙ dark-painted_same ls at false (omega (arith, n.within q iq, e)) ∙ sym black_at ∙ ap (dark ls) (sym e)
      | inr d ↦ dark-painted_other ls at false q d
    ] in
    record {
      height = s.height;
      ends = s.ends;
      level = λ q iq. level_by ls ms s.height q (same q) (λ r. omega (arith, d_same q iq, s.level q iq (λ z. in_some ls order q n iq (z ∙ root)) r));
      calm = λ q iq.
          let p = (link ls q).parent in
          let root_black : p ≡ none → dark ms q ≡ 1 = λ z. elim (cases_eq q at) [
            | inl e ↦ d_same q iq ∙ ap (dark ls) e ∙ black_at
            | inr da ↦ d_same q iq ∙ s.top q iq da z
          ] in
          elim (cases_eq q at) [
            | inl e ↦ calm_by ls ms q (same q) (omega (arith, d_same q iq, ap (dark ls) e, black_at)) root_black
            | inr da ↦ elim (cases_eq p none) [
              | inl e ↦ calm_by ls ms q (same q) (omega (arith, root_black e)) root_black
              | inr some ↦
                  let d_p = d_same p (n.up q iq some).0 in
                  elim (cases_eq p at) [
                    | inl e ↦ calm_by ls ms q (same q) (omega (arith, d_p, ap (dark ls) e, black_at)) root_black
                    | inr pa ↦ calm_by ls ms q (same q) (omega (arith, d_p, d_same q iq, s.calm q iq da pa)) root_black
                  ]
            ]
          ];
    }
