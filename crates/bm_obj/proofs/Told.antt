-- What the side knows once a call has changed the objects.
use Rattle.std.proofs.Common.{◌≡◌, ◌∙◌, ℕ, ◌+◌, ◌-◌, ◌<◌, ◌≤◌, List, length, refl, sym, ap, Option, Some, None, arith, set, slice_get}
use Rattle.std.specs.Prelude.{Bool, true, false, is_some, if◌then◌else◌, nat_lt, IfSome}
use Rattle.std.specs.Option.{option_map, option_map_or}
use Rattle.bm_obj.specs.Known.{Known, at_unit, fewer, more, gained, spent, first_reference, some_of, told_acquired, told_exchanged, told_made, waits_unclaimed}
use Rattle.bm_journal.specs.declared.ids.ObjId.{ObjId}
use Rattle.bm_journal.specs.declared.past.Past.{Past}
use Rattle.bm_page.specs.UnitState.{UnitState}
use Rattle.bm_obj.specs.Reference.{Held, Reference}
use Rattle.bm_obj.specs.Table.{begun_in, changed, object_at, object_in, reference_to, with_count, with_noted, with_owner}
use Rattle.bm_obj.specs.Carrying.{carried_from, told_entered, told_page_in, told_put_in, told_taken_out, with_entry, with_note, without_note}
use Rattle.bm_obj.specs.Notes.{Carried, Noted, Page}
use Rattle.bm_obj.specs.NoteShows.{page_in}
use Rattle.bm_obj.specs.declared.note.Note.{Note}
use Rattle.bm_obj.specs.declared.note.Note.TheVariants as note
use Rattle.bm_obj.specs.Waits.{after_unclaim, ended, joined, waiting_at}
use Rattle.bm_obj.specs.declared.waiting.Waiting.{Waiting}
use Rattle.bm_obj.specs.WorldState.{Word, World, acquired, claim_in, entered, held_in, known_of, made, new_object, noted_in, opening_word, page_of, put_in, refs_in, still_carried, taken_out, times_held}
use Rattle.bm_obj.specs.declared.object.Object.{Object}
use Rattle.bm_obj.specs.declared.object.UnitPlace.{UnitPlace}
use Rattle.bm_obj.specs.declared.object.UnitPlace.TheVariants.{Free, Lives}
use Rattle.bm_obj.proofs.Places.{changed-is, object-within, place-of, told-same, told-set}
use Rattle.bm_obj.proofs.Refs.{fewer-of, held-no, held-none, held-yes, more-of, refs-gained, refs-spent, refs_by, times-set}
use mathlib.Core.Path.{fun_ext}
use Rattle.std.proofs.lemmas.Bool.{lt-ltb}
use Rattle.bm_obj.proofs.Alive.{Finds}
use Rattle.bm_obj.proofs.Calls.{mine-none, mine-within}

-- the parts of what the side knows that calls change
abbrev pub refs_of : World → ℕ → Option Held
refs_of w = λ n. refs_in (times_held n w.words) (object_in (slice_get w.places n))

abbrev pub mine_of : World → ℕ → Option ℕ
mine_of w = λ n. begun_in (slice_get w.places n)

abbrev pub claims_of : World → ℕ → Option ℕ
claims_of w = λ n. claim_in (object_in (slice_get w.places n))

abbrev pub notes_of : World → ℕ → Noted
notes_of w = λ n. noted_in (object_in (slice_get w.places n))

abbrev pub known_with : World → ℕ → (ℕ → Option Held) → (ℕ → Option ℕ) → (ℕ → Option ℕ) → (ℕ → Noted) → Known
known_with w a refs mine claims notes = record {
  processor = w.processor;
  refs = refs;
  mine = mine;
  claims = claims;
  slots = w.slots;
  graphs = w.graphs;
  defs = w.defs;
  acquires = a;
  pages = page_of w.graphs;
  notes = Some notes;
  waits = λ graph. waiting_at w.waits graph;
  last = w.last;
}

abbrev pub known_by : World → ℕ → (ℕ → Option Held) → (ℕ → Option ℕ) → (ℕ → Option ℕ) → Known
known_by w a refs mine claims = known_with w a refs mine claims (notes_of w)

pub known-with : (w : World) (a : ℕ) (r r' : ℕ → Option Held) (m m' c c' : ℕ → Option ℕ) (o o' : ℕ → Noted) → r ≡ r' → m ≡ m' → c ≡ c' → o ≡ o' → known_with w a r m c o ≡ known_with w a r' m' c' o'
known-with w a r r' m m' c c' o o' e f g h =
    ap (λ x. known_with w a x m c o) e ∙ (ap (λ x. known_with w a r' x c o) f ∙ (ap (λ x. known_with w a r' m' x o) g ∙ ap (λ x. known_with w a r' m' c' x) h))

pub known-by : (w : World) (a : ℕ) (r r' : ℕ → Option Held) (m m' c c' : ℕ → Option ℕ) → r ≡ r' → m ≡ m' → c ≡ c' → known_by w a r m c ≡ known_by w a r' m' c'
known-by w a r r' m m' c c' e f g = known-with w a r r' m m' c c' (notes_of w) (notes_of w) e f g refl

-- one place is written
pub told-all : (w : World) (a u : ℕ) (p : UnitPlace) (refs : Option Held) (mine claim : Option ℕ) (notes : Noted) → u < length w.places → refs_in (times_held u w.words) (object_in (Some p)) ≡ refs → begun_in (Some p) ≡ mine → claim_in (object_in (Some p)) ≡ claim → noted_in (object_in (Some p)) ≡ notes → known_of (record w { places = set w.places u p; acquires = a }) ≡ known_with w a (at_unit u refs (refs_of w)) (at_unit u mine (mine_of w)) (at_unit u claim (claims_of w)) (at_unit u notes (notes_of w))
told-all w a u p refs mine claim notes inside e f g h =
    let z : World = record w { places = set w.places u p; acquires = a } in
    known-with w a (refs_of z) (at_unit u refs (refs_of w)) (mine_of z) (at_unit u mine (mine_of w)) (claims_of z) (at_unit u claim (claims_of w)) (notes_of z) (at_unit u notes (notes_of w))
    (told-set (λ n o. refs_in (times_held n w.words) (object_in o)) w.places u p inside ∙ ap (λ x. at_unit u x (refs_of w)) e)
    (told-set (λ n o. begun_in o) w.places u p inside ∙ ap (λ x. at_unit u x (mine_of w)) f)
    (told-set (λ n o. claim_in (object_in o)) w.places u p inside ∙ ap (λ x. at_unit u x (claims_of w)) g)
    (told-set (λ n o. noted_in (object_in o)) w.places u p inside ∙ ap (λ x. at_unit u x (notes_of w)) h)

-- .. and what notes carry of the unit stays
pub told-place : (w : World) (a u : ℕ) (p : UnitPlace) (refs : Option Held) (mine claim : Option ℕ) → u < length w.places → refs_in (times_held u w.words) (object_in (Some p)) ≡ refs → begun_in (Some p) ≡ mine → claim_in (object_in (Some p)) ≡ claim → noted_in (object_in (Some p)) ≡ notes_of w u → known_of (record w { places = set w.places u p; acquires = a }) ≡ known_by w a (at_unit u refs (refs_of w)) (at_unit u mine (mine_of w)) (at_unit u claim (claims_of w))
told-place w a u p refs mine claim inside e f g h =
    told-all w a u p refs mine claim (notes_of w u) inside e f g h
    ∙ ap (λ x. known_with w a (at_unit u refs (refs_of w)) (at_unit u mine (mine_of w)) (at_unit u claim (claims_of w)) x) (told-same u (notes_of w u) (notes_of w) refl)

-- one reference more
pub told-acquired : (w : World) (r : Reference) (object : Object) → object_at w.places r.unit ≡ Some object → reference_to object ≡ r → times_held r.unit w.words + object.noted < object.count → known_of (acquired r w) ≡ told_acquired r (known_of w)
told-acquired w r object at is more_than =
    let u = r.unit in
    let a = w.acquires - 1 in
    let f = λ (o : Object). with_count (o.count + 1) o in
    let R = more r (refs_of w u) in
    ap (λ ps. known_of (record w { places = ps; acquires = a })) (changed-is w.places u f object at)
    ∙ (told-place w a u (Lives (f object)) R None (claim_in (Some object)) (object-within w.places u object at)
    (rw (at, is) (more-of r (object.count - (times_held u w.words + object.noted)) (object.count + 1 - (times_held u w.words + object.noted)) (omega arith)))
    refl refl (ap noted_in (sym at))
    ∙ known-by w a (at_unit u R (refs_of w)) (at_unit u R (refs_of w)) (at_unit u None (mine_of w)) (mine_of w) (at_unit u (claim_in (Some object)) (claims_of w)) (claims_of w)
    refl
    (told-same u None (mine_of w) (ap begun_in (place-of w.places u object at)))
    (told-same u (claim_in (Some object)) (claims_of w) (ap claim_in at)))

-- an object is made
pub told-made : (w : World) (unit : UnitState) (def : ℕ) (values : List ℕ) → begun_in (slice_get w.places unit.number) ≡ Some unit.life → times_held unit.number w.words ≡ 0 → known_of (made unit def values w) ≡ told_made (first_reference unit def) (known_of w)
told-made w unit def values mine none =
    let u = unit.number in
    let r = first_reference unit def in
    let R = more r (refs_of w u) in
    let empty = mine-none w.places u unit.life mine in
    told-place w w.acquires u (Lives (new_object unit def values)) R None None (mine-within w.places u unit.life mine) (rw (empty, none) refl) refl refl (ap noted_in (sym empty))
    ∙ known-by w w.acquires (at_unit u R (refs_of w)) (at_unit u R (refs_of w)) (at_unit u None (mine_of w)) (at_unit u None (mine_of w)) (at_unit u None (claims_of w)) (claims_of w)
    refl refl (told-same u None (claims_of w) (ap claim_in empty))

-- one reference fewer
pub told-fewer : (w : World) (r : Reference) (object : Object) (count : ℕ) → object_at w.places r.unit ≡ Some object → reference_to object ≡ r → times_held r.unit w.words + object.noted < object.count → object.count ≡ count + 1 → known_of (record w { places = changed r.unit (with_count count) w.places }) ≡ spent r (known_of w)
told-fewer w r object count at is more_than e =
    let u = r.unit in
    let a = w.acquires in
    let f = with_count count in
    let R = fewer (refs_of w u) in
    ap (λ ps. known_of (record w { places = ps })) (changed-is w.places u f object at)
    ∙ (told-place w a u (Lives (f object)) R None (claim_in (Some object)) (object-within w.places u object at)
    (rw (at, is) (fewer-of r (object.count - (times_held u w.words + object.noted)) (count - (times_held u w.words + object.noted)) (omega arith)))
    refl refl (ap noted_in (sym at))
    ∙ known-by w a (at_unit u R (refs_of w)) (at_unit u R (refs_of w)) (at_unit u None (mine_of w)) (mine_of w) (at_unit u (claim_in (Some object)) (claims_of w)) (claims_of w)
    refl
    (told-same u None (mine_of w) (ap begun_in (place-of w.places u object at)))
    (told-same u (claim_in (Some object)) (claims_of w) (ap claim_in at)))

-- the last one
pub told-ended : (w : World) (r : Reference) (object : Object) → object_at w.places r.unit ≡ Some object → reference_to object ≡ r → times_held r.unit w.words + object.noted < object.count → object.count ≡ 1 → claim_in (Some object) ≡ None → noted_in (Some object) ≡ noted_in None → known_of (record w { places = set w.places r.unit (Free r.life) }) ≡ spent r (record (known_of w) { mine = at_unit r.unit (Some r.life) (mine_of w) })
told-ended w r object at is more_than one free empty =
    let u = r.unit in
    let a = w.acquires in
    let R = fewer (refs_of w u) in
    told-place w a u (Free r.life) R (Some r.life) None (object-within w.places u object at)
    (rw (at, is) (fewer-of r (object.count - (times_held u w.words + object.noted)) 0 (omega arith)))
    refl refl (sym empty ∙ ap noted_in (sym at))
    ∙ known-by w a (at_unit u R (refs_of w)) (at_unit u R (refs_of w)) (at_unit u (Some r.life) (mine_of w)) (at_unit u (Some r.life) (mine_of w)) (at_unit u None (claims_of w)) (claims_of w)
    refl refl (told-same u None (claims_of w) (ap claim_in at ∙ free))

-- an owner is written
pub told-owner : (w : World) (r : Reference) (object : Object) (owner : Option ℕ) → object_at w.places r.unit ≡ Some object → object.carried ≡ false → known_of (record w { places = changed r.unit (with_owner owner) w.places }) ≡ record (known_of w) { claims = at_unit r.unit owner (claims_of w) }
told-owner w r object owner at free =
    let u = r.unit in
    let a = w.acquires in
    let f = with_owner owner in
    let R = refs_of w u in
    ap (λ ps. known_of (record w { places = ps })) (changed-is w.places u f object at)
    ∙ (told-place w a u (Lives (f object)) R None owner (object-within w.places u object at)
    (rw at refl)
    refl (rw free refl) (rw (at, free) refl)
    ∙ known-by w a (at_unit u R (refs_of w)) (refs_of w) (at_unit u None (mine_of w)) (mine_of w) (at_unit u owner (claims_of w)) (at_unit u owner (claims_of w))
    (told-same u R (refs_of w) refl)
    (told-same u None (mine_of w) (ap begun_in (place-of w.places u object at)))
    refl)

-- ---- an exchange

-- the references in hands once a slot is emptied
abbrev pub less_held : World → ℕ → ℕ → ℕ
less_held w s n = times_held n (set w.words s opening_word)

-- the slot's own share
emptied : (w : World) (s n : ℕ) (old : Word) → slice_get w.words s ≡ Some old → times_held n w.words ≡ less_held w s n + held_in n old
emptied w s n old e = let t = times-set w.words s n old opening_word e in omega arith

filled : (w : World) (s n : ℕ) (old new : Word) → slice_get w.words s ≡ Some old → times_held n (set w.words s new) ≡ less_held w s n + held_in n new
filled w s n old new e = let t = times-set w.words s n old new e in let h = emptied w s n old e in omega arith

-- the object of a reference that looks so
named : (places : List UnitPlace) (o : Option Object) (r : Reference) → object_at places r.unit ≡ o → option_map reference_to o ≡ Some r → (object : Object) × (object_at places r.unit ≡ Some object) × (reference_to object ≡ r)
named places None r at h = absurd (cc)
named places (Some object) r at h = (object, at, (let k : reference_to object ≡ r = cc in k))

-- the side gains what the slot held
pub gains-old : (w : World) (s : ℕ) (old : Word) → slice_get w.words s ≡ Some old → ((r : Reference) → old.old ≡ Some r → option_map reference_to (object_at w.places r.unit) ≡ Some r) → ((n : ℕ) (object : Object) → object_at w.places n ≡ Some object → times_held n w.words + object.noted ≤ object.count) → known_by w w.acquires (refs_by (less_held w s) w.places) (mine_of w) (claims_of w) ≡ option_map_or gained old.old (λ known. known) (known_of w)
gains-old w s old e lives most = go old.old refl
  where
    go : (o : Option Reference) → old.old ≡ o → known_by w w.acquires (refs_by (less_held w s) w.places) (mine_of w) (claims_of w) ≡ option_map_or gained o (λ known. known) (known_of w)
    go None is =
        let same : refs_by (less_held w s) w.places ≡ refs_of w = fun_ext (λ n. (let h : less_held w s n ≡ times_held n w.words = (let k = emptied w s n old e in let z = held-none n old is in omega arith) in ap (λ t. refs_in t (object_at w.places n)) h)) in
        known-by w w.acquires (refs_by (less_held w s) w.places) (refs_of w) (mine_of w) (mine_of w) (claims_of w) (claims_of w) same refl refl
    go (Some r) is =
        let f = named w.places (object_at w.places r.unit) r refl (lives r is) in
        let once : times_held r.unit w.words ≡ less_held w s r.unit + 1 = (let k = emptied w s r.unit old e in let z = held-yes r.unit old r is refl in omega arith) in
        let gain = refs-gained r (λ n. times_held n w.words) (less_held w s) w.places f.0 f.1 f.2 once (most r.unit f.0 f.1) (λ n ne. (let k = emptied w s n old e in let z = held-no n old r is ne in omega arith)) in
        known-by w w.acquires (refs_by (less_held w s) w.places) (at_unit r.unit (more r (refs_of w r.unit)) (refs_of w)) (mine_of w) (mine_of w) (claims_of w) (claims_of w) gain refl refl

-- .. and has spent what was put
pub spends-put : (w : World) (s : ℕ) (old new : Word) → slice_get w.words s ≡ Some old → ((r : Reference) → new.old ≡ Some r → Finds w.places w.words r) → known_of (record w { words = set w.words s new }) ≡ option_map_or spent new.old (λ known. known) (known_by w w.acquires (refs_by (less_held w s) w.places) (mine_of w) (claims_of w))
spends-put w s old new e has = go new.old refl
  where
    now : ℕ → ℕ
    now = λ n. times_held n (set w.words s new)

    go : (o : Option Reference) → new.old ≡ o → known_of (record w { words = set w.words s new }) ≡ option_map_or spent o (λ known. known) (known_by w w.acquires (refs_by (less_held w s) w.places) (mine_of w) (claims_of w))
    go None is =
        let same : refs_by (λ n. times_held n (set w.words s new)) w.places ≡ refs_by (less_held w s) w.places = fun_ext (λ n. (let h : times_held n (set w.words s new) ≡ less_held w s n = (let k = filled w s n old new e in let z = held-none n new is in omega arith) in ap (λ t. refs_in t (object_at w.places n)) h)) in
        known-by w w.acquires (refs_by (λ n. times_held n (set w.words s new)) w.places) (refs_by (less_held w s) w.places) (mine_of w) (mine_of w) (claims_of w) (claims_of w) same refl refl
    go (Some r) is =
        let f = has r is in
        let once : times_held r.unit (set w.words s new) ≡ less_held w s r.unit + 1 = (let k = filled w s r.unit old new e in let z = held-yes r.unit new r is refl in omega arith) in
        let room : less_held w s r.unit + f.object.noted < f.object.count = (let k = emptied w s r.unit old e in let m = f.more in omega arith) in
        let spend = refs-spent r (less_held w s) (λ n. times_held n (set w.words s new)) w.places f.object f.at f.is once room (λ n ne. (let k = filled w s n old new e in let z = held-no n new r is ne in omega arith)) in
        known-by w w.acquires (refs_by (λ n. times_held n (set w.words s new)) w.places) (at_unit r.unit (fewer (refs_by (less_held w s) w.places r.unit)) (refs_by (less_held w s) w.places)) (mine_of w) (mine_of w) (claims_of w) (claims_of w) spend refl refl

pub told-exchanged : (w : World) (s : ℕ) (old new : Word) → slice_get w.words s ≡ Some old → ((r : Reference) → old.old ≡ Some r → option_map reference_to (object_at w.places r.unit) ≡ Some r) → ((n : ℕ) (object : Object) → object_at w.places n ≡ Some object → times_held n w.words + object.noted ≤ object.count) → ((r : Reference) → new.old ≡ Some r → Finds w.places w.words r) → known_of (record w { words = set w.words s new }) ≡ told_exchanged (λ r. r) new.old old.old (known_of w)
told-exchanged w s old new e lives most has =
    spends-put w s old new e has ∙ ap (λ k. option_map_or spent new.old (λ known. known) k) (gains-old w s old e lives most)

-- ---- what waits for a graph

-- what waits for one graph is written
pub told-waits : (w : World) (graph : ℕ) (waits : Option Waiting) → graph < length w.waits → known_of (record w { waits = set w.waits graph waits }) ≡ record (known_of w) { waits = at_unit graph waits (λ g. waiting_at w.waits g) }
told-waits w graph waits inside = ap (λ x. record (known_of w) { waits = x }) (told-set (λ n o. joined o) w.waits graph waits inside)

-- .. once a claim was ended
pub told-ended-claim : (w : World) (id : ObjId) (owner : Option ℕ) → IfSome owner (λ graph. graph < length w.waits) → known_of (record w { waits = ended id owner w.waits }) ≡ record (known_of w) { waits = waits_unclaimed id owner (λ g. waiting_at w.waits g) }
told-ended-claim w id None inside = refl
told-ended-claim w id (Some graph) inside = told-waits w graph (after_unclaim id (waiting_at w.waits graph)) inside

-- .. and once a history has its entry; a page tells no history
pub told-entered : (w : World) (graph at : ℕ) (past : Past) → graph < length w.waits → known_of (entered graph w) ≡ told_entered graph at past (known_of w)
told-entered w graph at past inside =
    told-waits w graph None inside
    ∙ ap (λ x. record (known_of w) { pages = x; waits = at_unit graph None (λ g. waiting_at w.waits g) }) (sym (told-same graph (option_map (with_entry at past) (page_of w.graphs graph)) (page_of w.graphs) (same (nat_lt graph (length w.graphs)))))
  where
    same : (b : Bool) → (if b then Some (record { graph = graph; history = None }) else None) ≡ option_map (with_entry at past) (if b then Some (record { graph = graph; history = None }) else None)
    same true = refl
    same false = refl

-- the page of a graph is always there
pub told-page : (w : World) (n : Note) → IfSome (page_in n) (λ page. page.graph < length w.graphs) → IfSome (page_in n) (λ page. known_of w ≡ told_page_in page (known_of w))
told-page w (note.Item r claim) inside = tt
told-page w (note.Page graph) inside =
    let page : Page = record { graph = graph; history = None } in
    ap (λ x. record (known_of w) { pages = x }) (sym (told-same graph (Some page) (page_of w.graphs) (rw (lt-ltb graph (length w.graphs) inside) refl)))

-- ---- notes

-- what is in a note is the owner, once a reference went into one
put-claim : (carried : Bool) (owner : Option ℕ) → (carried ≡ true → is_some owner ≡ true) → (if is_some owner then owner else None) ≡ option_map_or (λ graph. Some graph) (if carried then None else owner) (if carried then owner else None)
put-claim true None is = refl
put-claim true (Some graph) is = refl
put-claim false None is = refl
put-claim false (Some graph) is = refl

put-free : (owner : Option ℕ) → (if is_some owner then None else owner) ≡ None
put-free None = refl
put-free (Some graph) = refl

noted-eq : (r r' : Option Held) (c c' : Option ℕ) → r ≡ r' → c ≡ c' → (let x : Noted = record { refs = r; claim = c } in x) ≡ record { refs = r'; claim = c' }
noted-eq r r' c c' e f = ap (λ x. record { refs = x; claim = c }) e ∙ ap (λ x. record { refs = r'; claim = x }) f

-- a reference goes into a note
pub told-put : (w : World) (r : Reference) (object : Object) → object_at w.places r.unit ≡ Some object → reference_to object ≡ r → times_held r.unit w.words + object.noted < object.count → (object.carried ≡ true → is_some object.owner ≡ true) → known_of (put_in r w) ≡ told_put_in (carried_from r (known_of w)) (known_of w)
told-put w r object at is more_than owned =
    let u = r.unit in
    let a = w.acquires in
    let f = λ (o : Object). with_noted (o.noted + 1) (is_some o.owner) o in
    let R = fewer (refs_of w u) in
    let c = carried_from r (known_of w) in
    let N = with_note c (notes_of w u) in
    ap (λ ps. known_of (record w { places = ps })) (changed-is w.places u f object at)
    ∙ (told-all w a u (Lives (f object)) R None None N (object-within w.places u object at)
    (rw (at, is) (fewer-of r (object.count - (times_held u w.words + object.noted)) (object.count - (times_held u w.words + (object.noted + 1))) (omega arith)))
    refl (put-free object.owner)
    (rw (at, is) (noted-eq (some_of r (object.noted + 1)) (more r (some_of r object.noted)) (if is_some object.owner then object.owner else None) (option_map_or (λ graph. Some graph) (if object.carried then None else object.owner) (if object.carried then object.owner else None)) (more-of r object.noted (object.noted + 1) refl) (put-claim object.carried object.owner owned)))
    ∙ known-with w a (at_unit u R (refs_of w)) (at_unit u R (refs_of w)) (at_unit u None (mine_of w)) (mine_of w) (at_unit u None (claims_of w)) (at_unit u None (claims_of w)) (at_unit u N (notes_of w)) (at_unit u N (notes_of w))
    refl
    (told-same u None (mine_of w) (ap begun_in (place-of w.places u object at)))
    refl refl)

-- what is left in notes of the claim, and what is in hands, once a note was emptied
take-noted : (claim : Option ℕ) (carried : Bool) (owner : Option ℕ) → (if still_carried claim carried then owner else None) ≡ option_map_or (λ graph. None) claim (if carried then owner else None)
take-noted None carried owner = refl
take-noted (Some graph) carried owner = refl

-- a note with a claim has the owner
pub noted-claim : (carried : Bool) (owner : Option ℕ) (graph : ℕ) → (if carried then owner else None) ≡ Some graph → owner ≡ Some graph
noted-claim true owner graph e = e
noted-claim false owner graph e = absurd (cc)

-- a reference comes out of a note
pub told-taken : (w : World) (c : Carried) (object : Object) → object_at w.places c.to.unit ≡ Some object → reference_to object ≡ c.to → 0 < object.noted → times_held c.to.unit w.words + object.noted ≤ object.count → ((graph : ℕ) → c.claim ≡ Some graph → object.owner ≡ Some graph) → known_of (taken_out c w) ≡ told_taken_out c (known_of w)
told-taken w c object at is some most owned = go c.claim refl
  where
    go : (claim : Option ℕ) → c.claim ≡ claim → known_of (taken_out c w) ≡ told_taken_out c (known_of w)
    go claim e =
        let r = c.to in
        let u = r.unit in
        let a = w.acquires in
        let f = λ (o : Object). with_noted (o.noted - 1) (still_carried c.claim o.carried) o in
        let R = more r (refs_of w u) in
        let C = claim_in (Some (f object)) in
        let N = without_note c (notes_of w u) in
        ap (λ ps. known_of (record w { places = ps })) (changed-is w.places u f object at)
        ∙ (told-all w a u (Lives (f object)) R None C N (object-within w.places u object at)
        (rw (at, is) (more-of r (object.count - (times_held u w.words + object.noted)) (object.count - (times_held u w.words + (object.noted - 1))) (omega arith)))
        refl refl
        (rw (at, is) (noted-eq (some_of r (object.noted - 1)) (fewer (some_of r object.noted)) (if still_carried c.claim object.carried then object.owner else None) (option_map_or (λ graph. None) c.claim (if object.carried then object.owner else None)) (fewer-of r object.noted (object.noted - 1) (omega arith)) (take-noted c.claim object.carried object.owner)))
        ∙ known-with w a (at_unit u R (refs_of w)) (at_unit u R (refs_of w)) (at_unit u None (mine_of w)) (mine_of w) (at_unit u C (claims_of w)) (option_map_or (λ graph. at_unit u (Some graph) (claims_of w)) c.claim (claims_of w)) (at_unit u N (notes_of w)) (at_unit u N (notes_of w))
        refl
        (told-same u None (mine_of w) (ap begun_in (place-of w.places u object at)))
        (claims claim e)
        refl)
      where
        claims : (claim : Option ℕ) → c.claim ≡ claim → at_unit c.to.unit (claim_in (Some (with_noted (object.noted - 1) (still_carried c.claim object.carried) object))) (claims_of w) ≡ option_map_or (λ graph. at_unit c.to.unit (Some graph) (claims_of w)) c.claim (claims_of w)
        claims None e = rw e (told-same c.to.unit (claim_in (Some object)) (claims_of w) (ap claim_in at))
        claims (Some graph) e = rw e (ap (λ o. at_unit c.to.unit o (claims_of w)) (owned graph e))
