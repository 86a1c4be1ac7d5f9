-- Along a whole order: objects go their own way, the closing stays begun, and what is called is a list or tree that there is.
use Rattle.std.proofs.Common.{◌≡◌, ◌∙◌, ◌<◌, ◌≤◌, ℕ, Bool, true, List, [], ◌∷◌, ◌++◌, ap, arith, eq-eqb, inl, inr, length, length-append, refl, subst, sym}
use Rattle.std.specs.Prelude.{◌||◌, eqb}
use Rattle.std.specs.Str.{bytes_eq}
use Rattle.std.proofs.lemmas.Bool.{cases_Bool, cases_lt}
use Rattle.std.proofs.lemmas.Bool.Decides.{eqb_tells}
use Rattle.bm_journal.specs.declared.entry.Entry.{Entry}
use Rattle.bm_journal.specs.declared.entry.Entry.TheVariants as entry
use Rattle.bm_journal.specs.declared.past.Past.{Past}
use Rattle.bm_law_order.specs.Act.{Act}
use Rattle.bm_law_order.specs.Act as act
use Rattle.bm_law_order.specs.Calls.{closes, is_close}
use Rattle.bm_law_order.specs.Chunk.{Chunk, acts_of}
use Rattle.bm_law_order.specs.Chunk as chunk
use Rattle.bm_law_order.specs.Graphs.{CalledBy, GraphsLead, Shelf, place_of, recorded}
use Rattle.bm_law_order.specs.Orders.{Order, over, part_of}
use Rattle.bm_law_objects.specs.Objects.{Owned, objects_after, owned_after}
use Rattle.bm_law_graphs.specs.Shelves.{Shelved, call_in, closing_after, guarded_after, shelved_after, tag_in}
use Rattle.bm_law_graphs.specs.ToldCalls.{NamesGraph}
use Rattle.bm_law_graphs.proofs.ChunkShelved.{called-closing, or-true, same-name}

pub objects-along : (names : List (List ℕ)) (o : Order) (x : Shelved) (y : Owned) → x.objects ≡ y.objects → (over (shelved_after names) o x).objects ≡ (over owned_after o y).objects
objects-along names [] x y h = h
objects-along names (e ∷ o) x y h = objects-along names o (shelved_after names e.processor e.level e.entry x) (owned_after e.processor e.level e.entry y) (ap (objects_after e.processor e.level e.entry) h)

-- ---- the closing

closing-kept : (p : ℕ) (e : Entry) → closing_after p e true ≡ true
closing-kept p entry.Close = or-true (eqb p 0)
closing-kept p _ = refl

closing-one : (names : List (List ℕ)) (p l : ℕ) (e : Entry) (x : Shelved) → (shelved_after names p l e x).shelves.closing ≡ closing_after p e x.shelves.closing
closing-one names p l e x = called-closing names (call_in names e x.objects) (tag_in p x.objects) (guarded_after p e x.shelves)

pub closing-stays : (names : List (List ℕ)) (o : Order) (x : Shelved) → x.shelves.closing ≡ true → (over (shelved_after names) o x).shelves.closing ≡ true
closing-stays names [] x h = h
closing-stays names (e ∷ o) x h =
    closing-stays names o (shelved_after names e.processor e.level e.entry x) (closing-one names e.processor e.level e.entry x ∙ (ap (closing_after e.processor e.entry) h ∙ closing-kept e.processor e.entry))

-- an entry that begins the closing is processor 0's
closing-begins : (p : ℕ) (e : Entry) (closing : Bool) → p ≡ 0 → is_close e ≡ true → closing_after p e closing ≡ true
closing-begins p entry.Close closing zero c = rw (eq-eqb p 0 zero) refl
closing-begins p (entry.Lock name) closing zero c = absurd (cc)
closing-begins p _ closing zero c = absurd (cc)

pub closing-along : (names : List (List ℕ)) (o : Order) (x : Shelved) → closes (part_of 0 o) ≡ true → (over (shelved_after names) o x).shelves.closing ≡ true
closing-along names [] x h = absurd (cc)
closing-along names (e ∷ o) x h =
    let next : Shelved = shelved_after names e.processor e.level e.entry x in
    elim (eqb_tells e.processor 0) [
      | inl y ↦
          (let own : (is_close e.entry || closes (part_of 0 o)) ≡ true = rw y.0 at h in
          elim (cases_Bool (is_close e.entry)) [
            | inl c ↦ closing-stays names o next (closing-one names e.processor e.level e.entry x ∙ closing-begins e.processor e.entry x.shelves.closing y.1 c)
            | inr c ↦ (let rest : closes (part_of 0 o) ≡ true = rw c at own in closing-along names o next rest)
          ])
      | inr y ↦ (let rest : closes (part_of 0 o) ≡ true = rw y.0 at h in closing-along names o next rest)
    ]

-- ---- histories grow, so whatever is called has one at last

recorded-longer : (name : List ℕ) (p : Past) (histories : List ℕ → List Past) (other : List ℕ) → length (histories other) ≤ length (recorded name p histories other)
recorded-longer name p histories other = elim (cases_Bool (bytes_eq name other)) [
  | inl y ↦ (let n = length-append (histories other) (p ∷ []) in rw y (omega (arith, n)))
  | inr y ↦ rw y (omega arith)
]

own-recorded : (name : List ℕ) (p : Past) (histories : List ℕ → List Past) → recorded name p histories name ≡ histories name ++ p ∷ []
own-recorded name p histories = rw (same-name name) refl

same-longer : (before mid : Shelf) (name : List ℕ) → mid ≡ before → length (before.histories name) ≤ length (mid.histories name)
same-longer before mid name e = subst (λ (s : Shelf). length (before.histories name) ≤ length (s.histories name)) (sym e) (omega arith)

act-longer : (names : List (List ℕ)) (a : Act) (before mid : Shelf) → CalledBy names a before mid → (name : List ℕ) → length (before.histories name) ≤ length (mid.histories name)
act-longer names (act.Calls graph position call tag) before mid m name =
    subst (λ (f : List ℕ → List Past). length (before.histories name) ≤ length (f name)) (sym m.histories) (recorded-longer graph (record { tag = tag; call = call }) before.histories name)
act-longer names _ before mid m name = same-longer before mid name m

pub longer : (names : List (List ℕ)) (acts : List Act) (before now : Shelf) → GraphsLead names acts before now → (name : List ℕ) → length (before.histories name) ≤ length (now.histories name)
longer names [] before now h name = same-longer before now name h
longer names (a ∷ acts) before now h name =
    let one = act-longer names a before h.0 h.1.0 name in
    let rest = longer names acts h.0 now h.1.1 name in
    omega (arith, one, rest)

-- a list or tree that is called has a history then, so it is one of those that have one at last
call-declared : (names : List (List ℕ)) (graph : List ℕ) (p : Past) (before mid : Shelf) (final : List ℕ → List Past) → mid.histories ≡ recorded graph p before.histories → ((name : List ℕ) → length names ≤ place_of names name → final name ≡ []) → length (mid.histories graph) ≤ length (final graph) → place_of names graph < length names
call-declared names graph p before mid final is none most = elim (cases_lt (place_of names graph) (length names)) [
  | inl lt ↦ lt
  | inr ge ↦
      (let empty : length (final graph) ≡ 0 = ap length (none graph ge) in
      let one : length (mid.histories graph) ≡ length (before.histories graph ++ p ∷ []) = ap (λ (f : List ℕ → List Past). length (f graph)) is ∙ ap length (own-recorded graph p before.histories) in
      let two = length-append (before.histories graph) (p ∷ []) in
      absurd (omega (arith, empty, one, two, most)))
]

pub declared-call : (names : List (List ℕ)) (c : Chunk) (before mid : Shelf) (final : List ℕ → List Past) → GraphsLead names (acts_of c) before mid → ((name : List ℕ) → length names ≤ place_of names name → final name ≡ []) →
    ((name : List ℕ) → length (mid.histories name) ≤ length (final name)) → NamesGraph names c
declared-call names (chunk.Calling graph position call owner tag) before mid final h none most =
    call-declared names graph (record { tag = tag; call = call }) before mid final (ap (λ (s : Shelf). s.histories) h.1.1 ∙ h.1.0.histories) none (most graph)
declared-call names _ before mid final h none most = tt
