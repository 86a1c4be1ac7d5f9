-- A refused push names the list or tree in which its object is.
use Rattle.std.proofs.Common.{◌≡◌, ℕ, ◌<◌, Bool, true, false, Option, List, [], ◌∷◌, ◌++◌, length, get_or, Some, None, sym, ◌∙◌, ap, subst, inl, inr, append_assoc}
use Rattle.std.proofs.lemmas.Bool.{cases_Bool}
use Rattle.std.proofs.lemmas.List.{append-nil}
use Rattle.std.proofs.lemmas.Slice.Eq.{bytes_eq-Decides}
use Rattle.std.specs.Prelude.{◌⊎◌, if◌then◌else◌}
use Rattle.std.specs.Str.{bytes_eq}
use Rattle.bm_journal.specs.declared.ids.ObjId.{ObjId}
use Rattle.bm_journal.specs.declared.ids.Tag.{Tag}
use Rattle.bm_journal.specs.declared.entry.Entry.{Entry}
use Rattle.bm_journal.specs.declared.past.Past.{Past}
use Rattle.bm_graph.specs.Objects.{same_object}
use Rattle.bm_graph.proofs.Ids.{same_object-true}
use Rattle.bm_law_order.specs.Orders.{Order, over}
use Rattle.bm_law_objects.specs.Gathered.{OneOf}
use Rattle.bm_law_graphs.specs.Calls.{Effect, GraphCall, Puts, Refuses, Takes, effect_of, place_of}
use Rattle.bm_law_graphs.specs.Shelves.{CallFits, EffectFits, IsShelved, Shelves, Standing, called, call_in, entry_of, guarded_after, nothing_shelved, recorded, shelved_after, tag_in}
use Rattle.bm_law_graphs.specs.Refusals.{EachAfter, IsRefused, PutsIn, RefusalFits, RefusalLaw, Stands, stands_after, stands_from}
use Rattle.bm_law_graphs.proofs.Histories.{kept}
use Rattle.bm_law_graphs.proofs.Standings.{AreStanding, Known, call-standing, none-some}

-- ---- histories that grow

each-more : (P : List Past → Effect → Type 0) (before h : List Past) (q : Past) → EachAfter P before h → P (before ++ h) (effect_of q.call) → EachAfter P before (h ++ q ∷ [])
each-more P before [] q a now = (subst (λ b. P b (effect_of q.call)) (append-nil before) now, tt)
each-more P before (r ∷ h) q a now = (a.0, each-more P (before ++ r ∷ []) h q a.1 (subst (λ b. P b (effect_of q.call)) (sym (append_assoc before (r ∷ []) h)) now))

each-so : (P Q : List Past → Effect → Type 0) → ((b : List Past) (f : Effect) → P b f → Q b f) → (before h : List Past) → EachAfter P before h → EachAfter Q before h
each-so P Q so before [] a = tt
each-so P Q so before (p ∷ h) a = (so before (effect_of p.call) a.0, each-so P Q so (before ++ p ∷ []) h a.1)

one-left : {A : Type 0} (P : A → Type 0) (xs ys : List A) → OneOf P xs → OneOf P (xs ++ ys)
one-left P [] ys h = absurd h
one-left P (x ∷ xs) ys h = elim h [ inl p ↦ inl p | inr more ↦ inr (one-left P xs ys more) ]

one-recorded : (x : GraphCall) (tag : Tag) (histories : List ℕ → List Past) (P : Past → Type 0) (name : List ℕ) → OneOf P (histories name) → OneOf P (recorded x.graph (entry_of x tag) histories name)
one-recorded x tag histories P name h = elim (cases_Bool (bytes_eq x.graph name)) [
  | inl y ↦ rw y (one-left P (histories name) (entry_of x tag ∷ []) h)
  | inr n ↦ rw n h
]

fits-recorded : (names : List (List ℕ)) (x : GraphCall) (tag : Tag) (histories : List ℕ → List Past) (place : ℕ) (before : List Past) (f : Effect) → RefusalFits names histories place before f → RefusalFits names (recorded x.graph (entry_of x tag) histories) place before f
fits-recorded names x tag histories place before (Refuses id owner) h = record { own = h.own; only = h.only; put = one-recorded x tag histories (PutsIn id) (get_or names owner []) h.put }
fits-recorded names x tag histories place before _ h = tt

-- ---- what stands was put in

after-put : (id : ObjId) (b : Bool) (f : Effect) → stands_after id b f ≡ true → (b ≡ true) ⊎ (f ≡ Puts id)
after-put id b (Puts x) e = elim (cases_Bool (same_object x id)) [
  | inl y ↦ inr (ap Puts (same_object-true x id y))
  | inr n ↦ (let was : b ≡ true = rw n at e in inl was)
]
after-put id b (Takes x) e = elim (cases_Bool (same_object x id)) [
  | inl y ↦ (let never : false ≡ true = rw y at e in absurd (false-true never))
  | inr n ↦ (let was : b ≡ true = rw n at e in inl was)
]
  where
    false-true : false ≡ true → ⊥
    false-true e = cc
after-put id b _ e = inl e

stands-put : (id : ObjId) (b : Bool) (h : List Past) → stands_from id b h ≡ true → (b ≡ true) ⊎ OneOf (PutsIn id) h
stands-put id b [] e = inl e
stands-put id b (p ∷ h) e = elim (stands-put id (stands_after id b (effect_of p.call)) h e) [
  | inl now ↦ elim (after-put id b (effect_of p.call) now) [ inl was ↦ inl was | inr put ↦ inr (inl put) ]
  | inr later ↦ inr (inr later)
]

was-put : (id : ObjId) (h : List Past) → Stands id h → OneOf (PutsIn id) h
was-put id h e = elim (stands-put id false h e) [ inl never ↦ absurd (false-true never) | inr put ↦ put ]
  where
    false-true : false ≡ true → ⊥
    false-true e = cc

-- ---- a refused push

place_at : Option Standing → ℕ
place_at None = 0
place_at (Some x) = x.place

refused : (names : List (List ℕ)) (name : List ℕ) (id : ObjId) (owner : ℕ) (histories : List ℕ → List Past) (within : ℕ → Option Standing) → place_of names name < length names → within id.unit ≡ Some (record { life = id.life; place = owner }) → AreStanding names histories within →
    IsRefused names histories (place_of names name) (histories name) id owner
unfolding place_at
refused names name id owner histories within lt fits h =
    let known : Known names owner = h.known id.unit (record { life = id.life; place = owner }) fits in
    let there : place_of names (get_or names owner []) < length names = subst (λ k. k < length names) (sym known.same) known.below in
    record {
      own = λ e. (h.stand name id lt).1 (fits ∙ ap (λ k. Some (record { life = id.life; place = k })) e);
      only = λ stands. ap place_at (sym fits ∙ (h.stand name id lt).0 stands);
      put = was-put id (histories (get_or names owner [])) ((h.stand (get_or names owner []) id there).1 (fits ∙ ap (λ k. Some (record { life = id.life; place = k })) (sym known.same)));
    }

call-refusal : (names : List (List ℕ)) (name : List ℕ) (f : Effect) (histories : List ℕ → List Past) (within : ℕ → Option Standing) → place_of names name < length names → EffectFits (place_of names name) f within → AreStanding names histories within →
    RefusalFits names histories (place_of names name) (histories name) f
call-refusal names name (Refuses id owner) histories within lt fits h = refused names name id owner histories within lt fits h
call-refusal names name _ histories within lt fits h = tt

-- ---- along an order

record AreRefused (names : List (List ℕ)) (s : Shelves) : Type 0 where
  pub standing : AreStanding names s.histories s.within
  pub law : RefusalLaw names s.histories

call-law : (names : List (List ℕ)) (x : GraphCall) (tag : Tag) (histories : List ℕ → List Past) (within : ℕ → Option Standing) → place_of names x.graph < length names → EffectFits (place_of names x.graph) (effect_of x.call) within → AreStanding names histories within → RefusalLaw names histories → RefusalLaw names (recorded x.graph (entry_of x tag) histories)
call-law names x tag histories within lt fits standing law name =
    let old = each-so (RefusalFits names histories (place_of names name)) (RefusalFits names (recorded x.graph (entry_of x tag) histories) (place_of names name)) (λ b f. fits-recorded names x tag histories (place_of names name) b f) [] (histories name) (law name) in
    elim (cases_Bool (bytes_eq x.graph name)) [
      | inl y ↦
          (let same : x.graph ≡ name = (bytes_eq-Decides x.graph name).0 y in
          let here : RefusalFits names histories (place_of names x.graph) (histories x.graph) (effect_of x.call) = call-refusal names x.graph (effect_of x.call) histories within lt fits standing in
          let now : RefusalFits names histories (place_of names name) (histories name) (effect_of x.call) = subst (λ n. RefusalFits names histories (place_of names n) (histories n) (effect_of x.call)) same here in
          let new = fits-recorded names x tag histories (place_of names name) (histories name) (effect_of x.call) now in
          let all : EachAfter (RefusalFits names (recorded x.graph (entry_of x tag) histories) (place_of names name)) [] (histories name ++ entry_of x tag ∷ []) = each-more (RefusalFits names (recorded x.graph (entry_of x tag) histories) (place_of names name)) [] (histories name) (entry_of x tag) old new in
          subst (λ b. EachAfter (RefusalFits names (recorded x.graph (entry_of x tag) histories) (place_of names name)) [] (if b then histories name ++ entry_of x tag ∷ [] else histories name)) (sym y) all)
      | inr n ↦ subst (λ b. EachAfter (RefusalFits names (recorded x.graph (entry_of x tag) histories) (place_of names name)) [] (if b then histories name ++ entry_of x tag ∷ [] else histories name)) (sym n) old
    ]

called-refused : (names : List (List ℕ)) (p l : ℕ) (e : Entry) (x : Option GraphCall) (tag : Tag) (s : Shelves) → CallFits names p l x tag s → AreRefused names s → AreRefused names (called names x tag (guarded_after p e s))
called-refused names p l e None tag s f h = record { standing = h.standing; law = h.law }
called-refused names p l e (Some x) tag s f h = record { standing = call-standing names x tag s.histories s.within f.declared f.fits h.standing; law = call-law names x tag s.histories s.within f.declared f.fits h.standing h.law }

none-standing : (names : List (List ℕ)) → AreStanding names (λ name. []) (λ u. None)
none-standing names = record { stand = λ name id lt. (λ never. absurd (false-true never), λ e. absurd (none-some (record { life = id.life; place = place_of names name }) e)); known = λ u x e. absurd (none-some x e) }
  where
    false-true : false ≡ true → ⊥
    false-true e = cc

pub refusals-over : (names : List (List ℕ)) (o : Order) → IsShelved names o → RefusalLaw names (over (shelved_after names) o nothing_shelved).shelves.histories
refusals-over names o h =
    (kept names (λ s. AreRefused names s.shelves) (λ p l e s f r. called-refused names p l e (call_in names e s.objects) (tag_in p s.objects) s.shelves f.2 r) o nothing_shelved h (record { standing = none-standing names; law = λ name. tt })).law
