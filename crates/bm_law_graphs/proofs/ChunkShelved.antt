-- A chunk of a processor's story takes the lists and trees along: each of its entries finds what it needs of them, and they become what its
-- acts make of them.
use Rattle.std.proofs.Common.{◌≡◌, ◌∙◌, ℕ, Bool, true, false, Option, Some, None, List, [], ◌∷◌, ◌++◌, ap, append-nil, append_assoc, eq-eqb, inl, inr, length, map, refl, subst, sym}
use Rattle.std.specs.Prelude.{◌⊎◌, ◌||◌, if◌then◌else◌}
use Rattle.std.specs.Str.{bytes_eq}
use Rattle.std.proofs.lemmas.Bool.{cases_Bool}
use Rattle.std.proofs.lemmas.Option.{get_or_from_slice_get, slice_get_within}
use Rattle.std.proofs.lemmas.Slice.Eq.{bytes_eq-Decides}
use Rattle.bm_journal.specs.declared.ids.ObjId.{ObjId}
use Rattle.bm_journal.specs.declared.ids.Tag.{Tag}
use Rattle.bm_journal.specs.declared.entry.Entry.{Entry}
use Rattle.bm_journal.specs.declared.entry.Entry.TheVariants as entry
use Rattle.bm_journal.specs.declared.past.Past.{Past}
use Rattle.bm_journal.specs.declared.past.PastCall.{PastCall}
use Rattle.bm_journal.specs.declared.past.PastCall.TheVariants as past
use Rattle.bm_page.specs.declared.units.Seal.{Seal}
use Rattle.bm_graph.specs.Entries.{call_entry}
use Rattle.bm_law.specs.Lists.{Log}
use Rattle.bm_law.specs.Phrases.{given}
use Rattle.bm_law_order.specs.Act as act
use Rattle.bm_law_order.specs.Calls.{closes, is_close, lock_after, lock_in, lock_over}
use Rattle.bm_law_order.specs.Chunk.{Chunk, acts_of, entries_of, seal_told}
use Rattle.bm_law_order.specs.Chunk as chunk
use Rattle.bm_law_order.specs.Graphs.{EffectFits, GraphsLead, Replays, Shelf, effect_of, moved, place_of, recorded}
use Rattle.bm_law_order.specs.Orders.{by, over}
use Rattle.bm_law_order.specs.Quiet.{is_quiet}
use Rattle.bm_law_order.specs.Story.{at_level}
use Rattle.bm_law_objects.specs.Objects.{Objects, tag_after}
use Rattle.bm_law_graphs.specs.Calls.{GraphCall, on}
use Rattle.bm_law_graphs.specs.LocksTold.{LocksTold, held_by}
use Rattle.bm_law_graphs.specs.Shelves.{CallFits, HasKey, IsCall, IsClosing, KeyFits, LockFits, Shelved, Shelves, call_in, called, closing_after, entry_of, guarded_after, holders_after, key_of, shelved_after, tag_in}
use Rattle.bm_law_graphs.specs.ToldCalls.{FoundApart, HasMadeKey, IsTold, KeyedBy, MayCall, NamesOwner, ShelvesGo}
use Rattle.bm_law_graphs.specs.Uncalled.{CallNone, CallsNone}
use Rattle.bm_law_graphs.proofs.UncalledAlong.{uncalled-fits, uncalled-histories, uncalled-within}

-- ---- locks, and the begin of the closing, behind a longer log

pub lock-more : (held : Option (List ℕ)) (a b : Log) → lock_over held (a ++ b) ≡ lock_over (lock_over held a) b
lock-more held [] b = refl
lock-more held (e ∷ a) b = lock-more (lock_after held e.1) a b

or-assoc : (a b c : Bool) → (a || (b || c)) ≡ ((a || b) || c)
or-assoc true b c = refl
or-assoc false b c = refl

or-false : (a : Bool) → (a || false) ≡ a
or-false true = refl
or-false false = refl

pub or-true : (a : Bool) → (a || true) ≡ true
or-true true = refl
or-true false = refl

pub closes-more : (a b : Log) → closes (a ++ b) ≡ (closes a || closes b)
closes-more [] b = refl
closes-more (e ∷ a) b = ap (λ c. is_close e.1 || c) (closes-more a b) ∙ or-assoc (is_close e.1) (closes a) (closes b)

called-holders : (names : List (List ℕ)) (x : Option GraphCall) (tag : Tag) (s : Shelves) → (called names x tag s).holders ≡ s.holders
called-holders names None tag s = refl
called-holders names (Some x) tag s = refl

pub called-closing : (names : List (List ℕ)) (x : Option GraphCall) (tag : Tag) (s : Shelves) → (called names x tag s).closing ≡ s.closing
called-closing names None tag s = refl
called-closing names (Some x) tag s = refl

-- a lock is taken where the log holds none, and given back where it holds it
abbrev LockJudged : Log → Entry → Type 0
LockJudged log (entry.Lock name) = lock_in log ≡ None
LockJudged log (entry.Unlock name) = lock_in log ≡ Some name
LockJudged log _ = Unit {0}

holders-step : (p : ℕ) (log : Log) (e : Entry) (h : List ℕ → Option ℕ) → ((name : List ℕ) → h name ≡ held_by p (lock_in log) name) → LockJudged log e → (name : List ℕ) → holders_after p e h name ≡ held_by p (lock_after (lock_in log) e) name
holders-step p log (entry.Lock n) h told j name = elim (cases_Bool (bytes_eq n name)) [
  | inl y ↦ rw y refl
  | inr y ↦ rw y (told name ∙ ap (λ k. held_by p k name) j)
]
holders-step p log (entry.Unlock n) h told j name = elim (cases_Bool (bytes_eq n name)) [
  | inl y ↦ rw y refl
  | inr y ↦ (let none : held_by p (Some n) name ≡ None = rw y refl in rw y (told name ∙ (ap (λ k. held_by p k name) j ∙ none)))
]
holders-step p log _ h told j name = told name

closing-step : (p : ℕ) (log : Log) (e : Entry) (closing : Bool) → (p ≡ 0 → closes log ≡ true → closing ≡ true) → p ≡ 0 → (closes log || (is_close e || false)) ≡ true → closing_after p e closing ≡ true
closing-step p log entry.Close closing told zero c = rw (eq-eqb p 0 zero) refl
closing-step p log _ closing told zero c = told zero (sym (or-false (closes log)) ∙ c)

pub locks-step : (names : List (List ℕ)) (p l : ℕ) (e : Entry) (x : Shelved) (log : Log) → LockJudged log e → LocksTold p log x.shelves → LocksTold p (log ++ (l, e) ∷ []) (shelved_after names p l e x).shelves
locks-step names p l e x log j told =
    let call = call_in names e x.objects in
    let tag = tag_in p x.objects in
    let guarded = guarded_after p e x.shelves in
    record {
      holders = λ name.
          ap (λ (h : List ℕ → Option ℕ). h name) (called-holders names call tag guarded)
          ∙ (holders-step p log e x.shelves.holders told.holders j name
          ∙ ap (λ k. held_by p k name) (sym (lock-more None log ((l, e) ∷ []))));
      closing = λ zero c. called-closing names call tag guarded ∙ closing-step p log e x.shelves.closing told.closing zero (sym (closes-more log ((l, e) ∷ [])) ∙ c);
    }

none-judged : (log : Log) (e : Entry) → CallsNone e → LockJudged log e
none-judged log (entry.Lock name) h = absurd h
none-judged log (entry.Unlock name) h = absurd h
none-judged log _ h = tt

locks-along : (names : List (List ℕ)) (p : ℕ) (es : Log) (x : Shelved) (log : Log) → CallNone (by p es) → LocksTold p log x.shelves → LocksTold p (log ++ es) (over (shelved_after names) (by p es) x).shelves
locks-along names p [] x log h told = subst (λ z. LocksTold p z x.shelves) (sym (append-nil log)) told
locks-along names p (e ∷ es) x log h told =
    subst (λ z. LocksTold p z (over (shelved_after names) (by p (e ∷ es)) x).shelves) (append_assoc log (e ∷ []) es)
    (locks-along names p es (shelved_after names p e.0 e.1 x) (log ++ e ∷ []) h.1 (locks-step names p e.0 e.1 x log (none-judged log e.1 h.0) told))

-- ---- chunks that call no list or tree, and take no lock

abbrev IsUncalled : Chunk → Type 0
IsUncalled (chunk.Locking graph) = ⊥
IsUncalled (chunk.Unlocking graph) = ⊥
IsUncalled (chunk.Calling graph position call owner tag) = ⊥
IsUncalled _ = Unit {0}

quiet-none : (e : Entry) → is_quiet e ≡ true → CallsNone e
quiet-none (entry.Lock name) q = absurd (cc)
quiet-none (entry.Unlock name) q = absurd (cc)
quiet-none (entry.PushFront name u life pos) q = absurd (cc)
quiet-none (entry.PushBack name u life pos) q = absurd (cc)
quiet-none (entry.Add name u life pos) q = absurd (cc)
quiet-none (entry.PushFrontAlready name u life owner pos) q = absurd (cc)
quiet-none (entry.PushBackAlready name u life owner pos) q = absurd (cc)
quiet-none (entry.AddAlready name u life owner pos) q = absurd (cc)
quiet-none (entry.PopFront name item pos) q = absurd (cc)
quiet-none (entry.PopBack name item pos) q = absurd (cc)
quiet-none (entry.First name item pos) q = absurd (cc)
quiet-none (entry.Remove name u life pos) q = absurd (cc)
quiet-none _ q = tt

given-none : (u life : ℕ) (seal : Option Seal) → CallsNone (given u life (seal_told seal))
given-none u life None = tt
given-none u life (Some z) = tt

ended-none : (u home : ℕ) (delayed : Bool) → CallsNone (if delayed then entry.Delay u home else entry.Free u home)
ended-none u home true = tt
ended-none u home false = tt

chunk-none : (p l : ℕ) (c : Chunk) → IsUncalled c → CallNone (by p (at_level l (entries_of c)))
chunk-none p l (chunk.Locking graph) h = absurd h
chunk-none p l (chunk.Unlocking graph) h = absurd h
chunk-none p l (chunk.Calling graph position call owner tag) h = absurd h
chunk-none p l (chunk.Quiet e q) h = (quiet-none e q, tt)
chunk-none p l (chunk.Making u life type values seal) h = (given-none u life seal, tt)
chunk-none p l (chunk.GivingUp u life seen) h = (tt, (tt, tt))
chunk-none p l (chunk.Ending u life home delayed) h = (tt, (tt, (ended-none u home delayed, tt)))
chunk-none p l (chunk.WholePeriod n ws period) h = (tt, (tt, tt))
chunk-none p l (chunk.Looking d ws) h = tt
chunk-none p l (chunk.Asking d stamp n) h = tt
chunk-none p l (chunk.Missing d even n) h = tt
chunk-none p l (chunk.FindingNone c) h = tt
chunk-none p l _ h = (tt, tt)

receives-same : (names : List (List ℕ)) (c : ℕ) (parcels : List (List ℕ)) (w now : Shelf) → GraphsLead names (map (act.Receives c) parcels ++ act.Receives c [] ∷ []) w now → now ≡ w
receives-same names c [] w now m = m.1.1 ∙ m.1.0
receives-same names c (us ∷ parcels) w now m = receives-same names c parcels m.0 now m.1.1 ∙ m.1.0

chunk-same : (names : List (List ℕ)) (c : Chunk) (before now : Shelf) → IsUncalled c → GraphsLead names (acts_of c) before now → now ≡ before
chunk-same names (chunk.Locking graph) before now h m = absurd h
chunk-same names (chunk.Unlocking graph) before now h m = absurd h
chunk-same names (chunk.Calling graph position call owner tag) before now h m = absurd h
chunk-same names (chunk.Quiet e q) before now h m = m
chunk-same names (chunk.Beginning d n ws) before now h m = m.1.1.1.1 ∙ (m.1.1.1.0 ∙ m.1.0)
chunk-same names (chunk.Finishing ws period) before now h m = m.1.1.1.1 ∙ (m.1.1.1.0 ∙ m.1.0)
chunk-same names (chunk.WholePeriod n ws period) before now h m = m.1.1.1.1.1.1 ∙ (m.1.1.1.1.1.0 ∙ (m.1.1.1.0 ∙ m.1.0))
chunk-same names (chunk.Sweeping c us parcels) before now h m = receives-same names c parcels before now m
chunk-same names _ before now h m = m.1.1 ∙ m.1.0

uncalled-goes : (names : List (List ℕ)) (p : ℕ) (log es : Log) (x : Shelved) (before now : Shelf) → CallNone (by p es) → x.shelves.histories ≡ before.histories → x.shelves.within ≡ before.within → LocksTold p log x.shelves → now ≡ before → ShelvesGo names p log es x now
uncalled-goes names p log es x before now none histories within told same = record {
  fit = uncalled-fits names (by p es) x none;
  histories = uncalled-histories names (by p es) x none ∙ (histories ∙ ap (λ (s : Shelf). s.histories) (sym same));
  within = uncalled-within names (by p es) x none ∙ (within ∙ ap (λ (s : Shelf). s.within) (sym same));
  locks = locks-along names p es x log none told;
}

-- ---- a lock is taken or given back

pub same-name : (name : List ℕ) → bytes_eq name name ≡ true
same-name name = (bytes_eq-Decides name name).1 refl

held-own : (p : ℕ) (name : List ℕ) → held_by p (Some name) name ≡ Some p
held-own p name = rw (same-name name) refl

-- ---- a call

key-is : (id : ObjId) (key : ℕ) (objects : Objects) → HasMadeKey id key objects → key_of (objects.made id.unit) ≡ key
key-is id key objects h = ap key_of h.1 ∙ get_or_from_slice_get h.0.values 0 key 0 h.2

key-fits : (id : ObjId) (key : ℕ) (objects : Objects) → HasMadeKey id key objects → HasKey id.unit id.life objects
key-fits id key objects h = record { asked = h.0; made_is = h.1; has_key = slice_get_within h.0.values 0 key h.2 }

-- the entry says which call it is
call-told : (names : List (List ℕ)) → FoundApart names → (graph : List ℕ) (position : ℕ) (owner : List ℕ) (call : PastCall) (objects : Objects) → NamesOwner names call owner → KeyedBy call objects →
    call_in names (call_entry graph position owner call) objects ≡ on graph position call
call-told names apart graph position owner (past.Add id key) objects o k = ap (λ n. on graph position (past.Add id n)) (key-is id key objects k)
call-told names apart graph position owner (past.PushFrontAlready id place) objects o k = ap (λ n. on graph position (past.PushFrontAlready id n)) (apart place owner (o id place refl))
call-told names apart graph position owner (past.PushBackAlready id place) objects o k = ap (λ n. on graph position (past.PushBackAlready id n)) (apart place owner (o id place refl))
call-told names apart graph position owner (past.AddAlready id key place) objects o k =
    ap (λ n. on graph position (past.AddAlready id n (place_of names owner))) (key-is id key objects k)
    ∙ ap (λ n. on graph position (past.AddAlready id key n)) (apart place owner (o id place refl))
call-told names apart graph position owner _ objects o k = refl

call-lock : (p l : ℕ) (graph : List ℕ) (position : ℕ) (owner : List ℕ) (call : PastCall) (s : Shelves) → LockFits p l (call_entry graph position owner call) s
call-lock p l graph position owner (past.PushFront id) s = tt
call-lock p l graph position owner _ s = tt

call-keyed : (graph : List ℕ) (position : ℕ) (owner : List ℕ) (call : PastCall) (objects : Objects) → KeyedBy call objects → KeyFits (call_entry graph position owner call) objects
call-keyed graph position owner (past.Add id key) objects k = key-fits id key objects k
call-keyed graph position owner (past.AddAlready id key place) objects k = key-fits id key objects k
call-keyed graph position owner _ objects k = tt

call-guarded : (p : ℕ) (graph : List ℕ) (position : ℕ) (owner : List ℕ) (call : PastCall) (s : Shelves) → guarded_after p (call_entry graph position owner call) s ≡ s
call-guarded p graph position owner (past.PushFront id) s = refl
call-guarded p graph position owner _ s = refl

call-judged : (log : Log) (graph : List ℕ) (position : ℕ) (owner : List ℕ) (call : PastCall) → LockJudged log (call_entry graph position owner call)
call-judged log graph position owner (past.PushFront id) = tt
call-judged log graph position owner _ = tt

may-call : (p : ℕ) (graph : List ℕ) (log : Log) (s : Shelves) → LocksTold p log s → MayCall p graph log → (s.holders graph ≡ Some p) ⊎ IsClosing p graph s
may-call p graph log s told (inl h) = inl (told.holders graph ∙ (ap (λ k. held_by p k graph) h ∙ held-own p graph))
may-call p graph log s told (inr h) = inr (record { first = h.0; closing = told.closing h.0 h.1; free = told.holders graph ∙ ap (λ k. held_by p k graph) h.2 })

calling-goes : (names : List (List ℕ)) (p l : ℕ) (graph : List ℕ) (position : ℕ) (call : PastCall) (owner : List ℕ) (tag : Tag) (x : Shelved) (before now : Shelf) (log : Log) → FoundApart names → IsTold names p l log (chunk.Calling graph position call owner tag) x before now →
    ShelvesGo names p log ((l, call_entry graph position owner call) ∷ []) x now
calling-goes names p l graph position call owner tag x before now log apart t =
    let e = call_entry graph position owner call in
    let g : GraphCall = record { graph = graph; position = position; call = call } in
    let past_is : Past = record { tag = tag; call = call } in
    let is : call_in names e x.objects ≡ Some g = call-told names apart graph position owner call x.objects t.judged.2 t.keyed in
    let tag_is : tag_in p x.objects ≡ tag = ap (tag_after p) t.calls ∙ sym t.judged.3 in
    let m = t.leads.1.0 in
    let right : Replays (x.shelves.histories graph ++ past_is ∷ []) = subst (λ (f : List ℕ → List Past). Replays (f graph ++ past_is ∷ [])) (sym t.histories) m.right in
    let fits : IsCall names p l g (tag_in p x.objects) x.shelves =
    record {
      declared = t.named;
      level = t.judged.0;
      guarded = may-call p graph log x.shelves t.locks t.judged.1;
      position = m.at ∙ ap (λ (f : List ℕ → List Past). length (f graph)) (sym t.histories);
      right = subst (λ (z : Tag). Replays (x.shelves.histories graph ++ entry_of g z ∷ [])) (sym tag_is) right;
      fits = subst (EffectFits (place_of names graph) (effect_of call)) (sym t.within) m.fits;
    } in
    let after : (shelved_after names p l e x).shelves ≡ called names (Some g) tag x.shelves =
    ap (λ o. called names o (tag_in p x.objects) (guarded_after p e x.shelves)) is
    ∙ (ap (λ z. called names (Some g) z (guarded_after p e x.shelves)) tag_is
    ∙ ap (called names (Some g) tag) (call-guarded p graph position owner call x.shelves)) in
    record {
      fit = (
        (
          call-lock p l graph position owner call x.shelves,
          call-keyed graph position owner call x.objects t.keyed,
          subst (λ o. CallFits names p l o (tag_in p x.objects) x.shelves) (sym is) fits,
        ),
        tt,
      );
      histories =
          ap (λ (s : Shelves). s.histories) after
          ∙ (ap (recorded graph past_is) t.histories
          ∙ sym (ap (λ (s : Shelf). s.histories) t.leads.1.1 ∙ m.histories));
      within =
          ap (λ (s : Shelves). s.within) after
          ∙ (ap (moved (place_of names graph) (effect_of call)) t.within
          ∙ sym (ap (λ (s : Shelf). s.within) t.leads.1.1 ∙ m.within));
      locks = locks-step names p l e x log (call-judged log graph position owner call) t.locks;
    }

-- ---- any chunk

plain-goes : (names : List (List ℕ)) (p l : ℕ) (c : Chunk) (x : Shelved) (before now : Shelf) (log : Log) → IsUncalled c → IsTold names p l log c x before now → ShelvesGo names p log (at_level l (entries_of c)) x now
plain-goes names p l c x before now log h t = uncalled-goes names p log (at_level l (entries_of c)) x before now (chunk-none p l c h) t.histories t.within t.locks (chunk-same names c before now h t.leads)

pub chunk-shelved : (names : List (List ℕ)) (p l : ℕ) (c : Chunk) (x : Shelved) (before now : Shelf) (log : Log) → FoundApart names → IsTold names p l log c x before now → ShelvesGo names p log (at_level l (entries_of c)) x now
chunk-shelved names p l (chunk.Locking graph) x before now log apart t = record {
  fit = ((((t.judged.0, t.locks.holders graph ∙ ap (λ k. held_by p k graph) t.judged.1), tt, tt)), tt);
  histories = t.histories ∙ ap (λ (s : Shelf). s.histories) (sym t.leads);
  within = t.within ∙ ap (λ (s : Shelf). s.within) (sym t.leads);
  locks = locks-step names p l (entry.Lock graph) x log t.judged.1 t.locks;
}
chunk-shelved names p l (chunk.Unlocking graph) x before now log apart t = record {
  fit = (((t.judged.0, t.locks.holders graph ∙ (ap (λ k. held_by p k graph) t.judged.1 ∙ held-own p graph)), tt, tt), tt);
  histories = t.histories ∙ ap (λ (s : Shelf). s.histories) (sym t.leads);
  within = t.within ∙ ap (λ (s : Shelf). s.within) (sym t.leads);
  locks = locks-step names p l (entry.Unlock graph) x log t.judged.1 t.locks;
}
chunk-shelved names p l (chunk.Calling graph position call owner tag) x before now log apart t = calling-goes names p l graph position call owner tag x before now log apart t
chunk-shelved names p l c x before now log apart t = plain-goes names p l c x before now log tt t
