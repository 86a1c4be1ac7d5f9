-- Histories along an order have the calls of its logs, and right replies.
use Rattle.std.proofs.Common.{◌≡◌, ◌≢◌, ℕ, ◌+◌, Option, List, [], ◌∷◌, ◌++◌, length, Some, None, refl, sym, ◌∙◌, ap, subst, arith, inl, inr, append_assoc}
use Rattle.std.proofs.lemmas.Bool.{cases_Bool, cases_lt}
use Rattle.std.proofs.lemmas.Bool.Decides.{eqb_tells}
use Rattle.std.proofs.lemmas.List.{append-nil, get_or_past}
use Rattle.std.proofs.lemmas.Slice.Eq.{bytes_eq-Decides}
use Rattle.std.specs.Str.{bytes_eq}
use Rattle.bm_journal.specs.declared.ids.Tag.{Tag}
use Rattle.bm_journal.specs.declared.entry.Entry.{Entry}
use Rattle.bm_journal.specs.declared.entry.Entry.TheVariants as entry
use Rattle.bm_journal.specs.declared.past.Past.{Past}
use Rattle.bm_law.specs.Lists.{Log}
use Rattle.bm_law_order.specs.Orders.{AllFit, Order, over, part_of}
use Rattle.bm_law_laid.specs.OrderOf.{IsOrderOf}
use Rattle.bm_law_objects.specs.Gathered.{gathered}
use Rattle.bm_law_objects.specs.Objects.{calls_after}
use Rattle.bm_law_objects.proofs.Gathering.{part-past, gathered-kept}
use Rattle.bm_law_graphs.specs.Calls.{GraphCall, graph_call}
use Rattle.bm_law_graphs.specs.Shelves.{CallFits, IsShelved, Replays, Shelved, ShelvedFit, Shelves, called, call_in, entry_of, guarded_after, key_of, nothing_shelved, shelved_after, tag_in}
use Rattle.bm_law_graphs.specs.History.{GraphHistory, Placed, call_on, calls_on, calls_over, keyless, of_processor, placed, placed_by}

-- ---- what each entry keeps

-- what each entry keeps, the whole order keeps
module _ (names : List (List ℕ)) (I : Shelved → Type 0) (step : (p l : ℕ) (e : Entry) (s : Shelved) → ShelvedFit names p l e s → I s → I (shelved_after names p l e s)) where
  pub kept : (o : Order) (s : Shelved) → AllFit (shelved_after names) (ShelvedFit names) o s → I s → I (over (shelved_after names) o s)
  kept [] s h i = i
  kept (e ∷ o) s h i = kept o (shelved_after names e.processor e.level e.entry s) h.1 (step e.processor e.level e.entry s h.0 i)

-- ---- what a log says of a call

abbrev unkeyed : Option GraphCall → Option GraphCall
unkeyed None = None
unkeyed (Some x) = Some (record x { call = keyless x.call })

log-call : (names : List (List ℕ)) (key : ℕ → ℕ) (e : Entry) → graph_call names (λ u. 0) e ≡ unkeyed (graph_call names key e)
log-call names key (entry.PopFront name None pos) = refl
log-call names key (entry.PopFront name (Some id) pos) = refl
log-call names key (entry.PopBack name None pos) = refl
log-call names key (entry.PopBack name (Some id) pos) = refl
log-call names key (entry.First name None pos) = refl
log-call names key (entry.First name (Some id) pos) = refl
log-call names key _ = refl

-- ---- the history after an entry

placed-more : (n : ℕ) (h : List Past) (p : Past) → placed n (h ++ p ∷ []) ≡ placed n h ++ record { position = n + length h; tag = p.tag; call = keyless p.call } ∷ []
placed-more n [] p = let same : n ≡ n + 0 = omega arith in ap (λ k. record { position = k; tag = p.tag; call = keyless p.call } ∷ []) same
placed-more n (q ∷ h) p =
    let same : n + 1 + length h ≡ n + length (q ∷ h) = omega arith in
    ap (λ xs. record { position = n; tag = q.tag; call = keyless q.call } ∷ xs) (placed-more (n + 1) h p ∙ ap (λ k. placed (n + 1) h ++ record { position = k; tag = p.tag; call = keyless p.call } ∷ []) same)

called-placed : (names : List (List ℕ)) (name : List ℕ) (p l : ℕ) (e : Entry) (x : Option GraphCall) (tag : Tag) (s : Shelves) → CallFits names p l x tag s → placed 0 ((called names x tag (guarded_after p e s)).histories name) ≡ placed 0 (s.histories name) ++ placed_by name tag (unkeyed x)
called-placed names name p l e None tag s f = sym (append-nil (placed 0 (s.histories name)))
called-placed names name p l e (Some x) tag s f = elim (cases_Bool (bytes_eq x.graph name)) [
  | inl y ↦
      (let same : x.graph ≡ name = (bytes_eq-Decides x.graph name).0 y in
      let here : x.position ≡ length (s.histories name) = subst (λ n. x.position ≡ length (s.histories n)) same f.position in
      let position : 0 + length (s.histories name) ≡ x.position = omega (arith, here) in
      rw y (placed-more 0 (s.histories name) (entry_of x tag) ∙ ap (λ k. placed 0 (s.histories name) ++ record { position = k; tag = tag; call = keyless x.call } ∷ []) position))
  | inr n ↦ rw n (sym (append-nil (placed 0 (s.histories name))))
]

entry-placed : (names : List (List ℕ)) (name : List ℕ) (p l : ℕ) (e : Entry) (s : Shelved) → ShelvedFit names p l e s →
    placed 0 ((shelved_after names p l e s).shelves.histories name) ≡ placed 0 (s.shelves.histories name) ++ call_on names name p (s.objects.calls p) (l, e)
entry-placed names name p l e s f =
    called-placed names name p l e (call_in names e s.objects) (tag_in p s.objects) s.shelves f.2
    ∙ ap (λ x. placed 0 (s.shelves.histories name) ++ placed_by name (tag_in p s.objects) x) (sym (log-call names (λ u. key_of (s.objects.made u)) e))

pub placed-over : (names : List (List ℕ)) (name : List ℕ) (o : Order) (s : Shelved) → AllFit (shelved_after names) (ShelvedFit names) o s →
    placed 0 ((over (shelved_after names) o s).shelves.histories name) ≡ placed 0 (s.shelves.histories name) ++ calls_over names name o s.objects.calls
placed-over names name [] s h = sym (append-nil (placed 0 (s.shelves.histories name)))
placed-over names name (e ∷ o) s h =
    let now : Shelved = shelved_after names e.processor e.level e.entry s in
    let first : List Placed = call_on names name e.processor (s.objects.calls e.processor) (e.level, e.entry) in
    placed-over names name o now h.1
    ∙ (ap (λ xs. xs ++ calls_over names name o now.objects.calls) (entry-placed names name e.processor e.level e.entry s h.0)
    ∙ append_assoc (placed 0 (s.shelves.histories name)) first (calls_over names name o now.objects.calls))

-- ---- of each processor

of-append : (p : ℕ) (xs ys : List Placed) → of_processor p (xs ++ ys) ≡ of_processor p xs ++ of_processor p ys
of-append p [] ys = refl
of-append p (x ∷ xs) ys = elim (eqb_tells x.tag.processor p) [ inl y ↦ rw y.0 (ap (λ zs. x ∷ zs) (of-append p xs ys)) | inr y ↦ rw y.0 (of-append p xs ys) ]

by-own : (name : List ℕ) (p n : ℕ) (x : Option GraphCall) → of_processor p (placed_by name (record { processor = p; serial = n }) x) ≡ placed_by name (record { processor = p; serial = n }) x
by-own name p n None = refl
by-own name p n (Some x) = elim (cases_Bool (bytes_eq x.graph name)) [
  | inl y ↦ rw y (elim (eqb_tells p p) [ inl z ↦ rw z.0 refl | inr z ↦ absurd (z.1 refl) ])
  | inr y ↦ rw y refl
]

by-other : (name : List ℕ) (p q n : ℕ) (x : Option GraphCall) → q ≢ p → of_processor p (placed_by name (record { processor = q; serial = n }) x) ≡ []
by-other name p q n None ne = refl
by-other name p q n (Some x) ne = elim (cases_Bool (bytes_eq x.graph name)) [
  | inl y ↦ rw y (elim (eqb_tells q p) [ inl z ↦ absurd (ne z.1) | inr z ↦ rw z.0 refl ])
  | inr y ↦ rw y refl
]

over-parts : (names : List (List ℕ)) (name : List ℕ) (p : ℕ) (o : Order) (calls : ℕ → ℕ) → of_processor p (calls_over names name o calls) ≡ gathered calls_after (call_on names name p) (calls p) (part_of p o)
over-parts names name p o calls =
    gathered-kept calls_after (call_on names name) of_processor (λ p. refl) of-append (λ p n e. by-own name p (n + 1) (graph_call names (λ u. 0) e.1)) (λ p q n e ne. by-other name p q (n + 1) (graph_call names (λ u. 0) e.1) ne) p o calls

-- ---- replies

called-right : (names : List (List ℕ)) (name : List ℕ) (p l : ℕ) (e : Entry) (x : Option GraphCall) (tag : Tag) (s : Shelves) → CallFits names p l x tag s → Replays (s.histories name) → Replays ((called names x tag (guarded_after p e s)).histories name)
called-right names name p l e None tag s f h = h
called-right names name p l e (Some x) tag s f h = elim (cases_Bool (bytes_eq x.graph name)) [
  | inl y ↦ (let same : x.graph ≡ name = (bytes_eq-Decides x.graph name).0 y in let right : Replays (s.histories name ++ entry_of x tag ∷ []) = subst (λ n. Replays (s.histories n ++ entry_of x tag ∷ [])) same f.right in rw y right)
  | inr n ↦ rw n h
]

right-over : (names : List (List ℕ)) (name : List ℕ) (o : Order) → IsShelved names o → Replays ((over (shelved_after names) o nothing_shelved).shelves.histories name)
right-over names name o h =
    kept names (λ s. Replays (s.shelves.histories name)) (λ p l e s f right. called-right names name p l e (call_in names e s.objects) (tag_in p s.objects) s.shelves f.2 right) o nothing_shelved h refl

pub logs-history : (names : List (List ℕ)) (logs : List Log) (o : Order) → IsOrderOf logs o → IsShelved names o → (name : List ℕ) → GraphHistory names name ((over (shelved_after names) o nothing_shelved).shelves.histories name) logs
logs-history names logs o is h name = record {
  right = right-over names name o h;
  parts = λ p. ap (of_processor p) (placed-over names name o nothing_shelved h) ∙ (over-parts names name p o (λ q. 0) ∙ ap (calls_on names name p) (elim (cases_lt p (length logs)) [
    | inl lt ↦ is.parts p lt
    | inr past ↦ part-past (length logs) p o is.below (λ lt. omega (arith, lt, past)) ∙ sym (get_or_past logs p [] past)
  ]));
}
