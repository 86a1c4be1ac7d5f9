-- Along the order of a run refused pushes name lists and trees that there are, and so do the histories of its journal.
use Rattle.std.proofs.Common.{◌≡◌, ◌∙◌, ◌<◌, ℕ, Bool, true, false, not, ◌&&◌, List, [], ◌∷◌, ◌++◌, Option, None, Some, ap, arith, inl, inr, length, map, nat_lt, refl, subst, sym}
use Rattle.std.specs.List.{list_all}
use Rattle.std.specs.Str.{bytes_eq}
use Rattle.std.proofs.lemmas.Bool.{and_parts, cases_Bool, not-true}
use Rattle.std.proofs.lemmas.Bool.Decides.{eqb_tells, nat_tests}
use Rattle.std.proofs.lemmas.Slice.Eq.{bytes_eq-Decides}
use Rattle.bm_journal.specs.WellFormed.{owner_below, owners_below}
use Rattle.bm_journal.specs.declared.ids.Tag.{Tag}
use Rattle.bm_journal.specs.declared.past.Past.{Past}
use Rattle.bm_journal.specs.declared.past.PastCall.{PastCall}
use Rattle.bm_journal.specs.declared.past.PastCall.TheVariants as past
use Rattle.bm_lang.specs.declared.scenario.MapDeclaration.{MapDeclaration}
use Rattle.bm_law_order.specs.Graphs.{Effect, EffectFits, NamedGraph, Puts, Standing, Takes, effect_of, graph_names_in, history_in, moved, place_of, recorded}
use Rattle.bm_law_order.specs.Orders.{AllFit, Order, over}
use Rattle.bm_law_graphs.specs.Calls.{GraphCall}
use Rattle.bm_law_graphs.specs.Shelves.{CallFits, Shelved, ShelvedFit, Shelves, call_in, called, entry_of, guarded_after, shelved_after, tag_in}
use Rattle.bm_law_scenario.specs.Lawful.{is_graph_kind}
use Rattle.bm_world.specs.Contents.{are_apart}
use Rattle.bm_world.specs.GraphItems.{history_told}
use Rattle.bm_run.specs.Histories.{of_graphs}

both : (a b : Bool) → a ≡ true → b ≡ true → (a && b) ≡ true
both a b g h = rw (g, h) refl

below : (m n : ℕ) → m < n → nat_lt m n ≡ true
below m n lt = grind (arith, nat_tests)

-- ---- along an order

module _ (names : List (List ℕ)) where
  abbrev n : ℕ
  n = length names

  abbrev AllNamed : List Past → Type 0
  AllNamed ps = list_all (λ (p : Past). owner_below n p.call) ps ≡ true

  -- Objects stand in lists and trees that there are, and refused pushes name such.
  pub record AreBelow (s : Shelves) : Type 0 where
    pub within : (u : ℕ) (x : Standing) → s.within u ≡ Some x → x.place < n
    pub named : (name : List ℕ) → AllNamed (s.histories name)

  one-more : (ps : List Past) (p : Past) → AllNamed ps → owner_below n p.call ≡ true → AllNamed (ps ++ p ∷ [])
  one-more [] p h k = both (owner_below n p.call) true k refl
  one-more (q ∷ ps) p h k =
      let parts = and_parts (owner_below n q.call) (list_all (λ (x : Past). owner_below n x.call) ps) h in
      both (owner_below n q.call) (list_all (λ (x : Past). owner_below n x.call) (ps ++ p ∷ [])) parts.0 (one-more ps p parts.1 k)

  owner-is : (place : ℕ) (call : PastCall) (within : ℕ → Option Standing) → EffectFits place (effect_of call) within → ((u : ℕ) (x : Standing) → within u ≡ Some x → x.place < n) → owner_below n call ≡ true
  owner-is place (past.PushFrontAlready id owner) within f h = below owner n (h id.unit (record { life = id.life; place = owner }) f)
  owner-is place (past.PushBackAlready id owner) within f h = below owner n (h id.unit (record { life = id.life; place = owner }) f)
  owner-is place (past.AddAlready id key owner) within f h = below owner n (h id.unit (record { life = id.life; place = owner }) f)
  owner-is place _ within f h = refl

  moved-below : (place : ℕ) (e : Effect) (within : ℕ → Option Standing) → place < n → ((u : ℕ) (x : Standing) → within u ≡ Some x → x.place < n) → (u : ℕ) (x : Standing) → moved place e within u ≡ Some x → x.place < n
  moved-below place (Puts id) within lt h u x q = elim (eqb_tells u id.unit) [
    | inl z ↦
        let put : Standing = record { life = id.life; place = place } in
        let there : Some put ≡ Some x = rw z.0 at q in
        let same : put ≡ x = cc in
        subst (λ (s : Standing). s.place < n) same lt
    | inr z ↦ h u x (rw z.0 at q)
  ]
  moved-below place (Takes id) within lt h u x q = elim (eqb_tells u id.unit) [
    | inl z ↦ absurd (let none : None ≡ Some x = rw z.0 at q in cc)
    | inr z ↦ h u x (rw z.0 at q)
  ]
  moved-below place _ within lt h u x q = h u x q

  called-below : (p l : ℕ) (c : Option GraphCall) (tag : Tag) (s t : Shelves) → t.histories ≡ s.histories → t.within ≡ s.within → CallFits names p l c tag s → AreBelow s → AreBelow (called names c tag t)
  called-below p l None tag s t e f fit b = record {
    within = λ u x q. b.within u x (ap (λ (w : ℕ → Option Standing). w u) (sym f) ∙ q);
    named = λ name. subst AllNamed (sym (ap (λ (h : List ℕ → List Past). h name) e)) (b.named name);
  }
  called-below p l (Some x) tag s t e f fit b =
      let place = place_of names x.graph in
      let last : Past = entry_of x tag in
      let own : owner_below n x.call ≡ true = owner-is place x.call s.within fit.fits b.within in
      record {
        within = λ u y q. moved-below place (effect_of x.call) s.within fit.declared b.within u y (ap (λ (w : ℕ → Option Standing). moved place (effect_of x.call) w u) (sym f) ∙ q);
        named = λ name. subst (λ (h : List ℕ → List Past). AllNamed (recorded x.graph last h name)) (sym e) (elim (cases_Bool (bytes_eq x.graph name)) [
          | inl y ↦ rw y (one-more (s.histories name) last (b.named name) own)
          | inr y ↦ rw y (b.named name)
        ]);
      }

  pub owners-along : (o : Order) (s : Shelved) → AllFit (shelved_after names) (ShelvedFit names) o s → AreBelow s.shelves → AreBelow (over (shelved_after names) o s).shelves
  owners-along [] s h b = b
  owners-along (e ∷ o) s h b =
      owners-along o (shelved_after names e.processor e.level e.entry s) h.1
      (called-below e.processor e.level (call_in names e.entry s.objects) (tag_in e.processor s.objects) s.shelves (guarded_after e.processor e.entry s.shelves) refl refl h.0.2 b)

-- ---- in the histories of a journal

-- a name that none of these has has no history
no-history : (gs : List NamedGraph) (name : List ℕ) → list_all (λ m. not (bytes_eq name m)) (graph_names_in gs) ≡ true → history_in gs name ≡ []
no-history [] name h = refl
no-history (g ∷ gs) name h =
    let parts = and_parts (not (bytes_eq name g.name)) (list_all (λ m. not (bytes_eq name m)) (graph_names_in gs)) h in
    rw (other (bytes_eq g.name name) refl (not-true (bytes_eq name g.name) parts.0)) (no-history gs name parts.1)
  where
    other : (b : Bool) → bytes_eq g.name name ≡ b → bytes_eq name g.name ≡ false → bytes_eq g.name name ≡ false
    other false e f = e
    other true e f =
        let same : g.name ≡ name = (bytes_eq-Decides g.name name).0 e in
        let there : bytes_eq name g.name ≡ true = (bytes_eq-Decides name g.name).1 (sym same) in
        absurd (let clash : true ≡ false = sym there ∙ f in cc)

itself : (x : List ℕ) → bytes_eq x x ≡ true
itself x = (bytes_eq-Decides x x).1 refl

abbrev AllNamedIn : ℕ → List NamedGraph → Type 0
AllNamedIn n gs = (name : List ℕ) → list_all (λ (p : Past). owner_below n p.call) (history_in gs name) ≡ true

-- the first history, and those behind it
named-first : (n : ℕ) (g : NamedGraph) (gs : List NamedGraph) → AllNamedIn n (g ∷ gs) → list_all (λ (p : Past). owner_below n p.call) g.history ≡ true
named-first n g gs h = (let all = h g.name in rw (itself g.name) at all)

named-behind : (n : ℕ) (g : NamedGraph) (gs : List NamedGraph) → list_all (λ m. not (bytes_eq g.name m)) (graph_names_in gs) ≡ true → AllNamedIn n (g ∷ gs) → AllNamedIn n gs
named-behind n g gs apart h name = elim (cases_Bool (bytes_eq g.name name)) [
  | inl y ↦
      let same : g.name ≡ name = (bytes_eq-Decides g.name name).0 y in
      let none : history_in gs name ≡ [] = subst (λ x. history_in gs x ≡ []) same (no-history gs g.name apart) in
      ap (list_all (λ (p : Past). owner_below n p.call)) none
  | inr k ↦ (let all = h name in rw k at all)
]

kept-more : (n : ℕ) (m : MapDeclaration) (ms : List MapDeclaration) (g : NamedGraph) (hs : List (List ℕ × List Past)) (b : Bool) → is_graph_kind m.kind ≡ b → list_all (λ (p : Past). owner_below n p.call) g.history ≡ true → owners_below n (of_graphs ms hs) ≡ true → owners_below n (of_graphs (m ∷ ms) (history_told g ∷ hs)) ≡ true
kept-more n m ms g hs true k own rest = rw k (both (list_all (λ (p : Past). owner_below n p.call) g.history) (owners_below n (of_graphs ms hs)) own rest)
kept-more n m ms g hs false k own rest = rw k rest

pub kept-owners : (n : ℕ) (ms : List MapDeclaration) (gs : List NamedGraph) → are_apart (graph_names_in gs) ≡ true → AllNamedIn n gs → owners_below n (of_graphs ms (map history_told gs)) ≡ true
kept-owners n [] gs apart h = refl
kept-owners n (m ∷ ms) [] apart h = refl
kept-owners n (m ∷ ms) (g ∷ gs) apart h =
    let parts = and_parts (list_all (λ x. not (bytes_eq g.name x)) (graph_names_in gs)) (are_apart (graph_names_in gs)) apart in
    kept-more n m ms g (map history_told gs) (is_graph_kind m.kind) refl (named-first n g gs h) (kept-owners n ms gs parts.1 (named-behind n g gs parts.0 h))
