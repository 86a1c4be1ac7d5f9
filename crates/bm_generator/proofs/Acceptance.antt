-- Each piece leaves each name free and no lock held, so every script of a generated scenario is accepted.
use Rattle.std.proofs.Common.{◌≡◌, ℕ, zero, suc, ◌+◌, ◌≤◌, Bool, true, false, ◌||◌, List, [], ◌∷◌, ◌++◌, length, refl, ap, ◌∙◌, subst, lit≤, Option, Some, None, codes}
use Rattle.std.specs.List.{list_any, slice_get}
use Rattle.std.specs.Str.{bytes_eq}
use Rattle.std.proofs.lemmas.List.{take_all}
use Rattle.bm_lang.specs.declared.scenario.Action.{New, Drop, Exchange, Lock, Unlock, PushBack, PopFront, Add, First, Remove}
use Rattle.bm_lang.specs.declared.scenario.Statement.{Statement}
use Rattle.bm_lang.specs.declared.scenario.Script.{Script}
use Rattle.bm_lang.specs.declared.scenario.ScriptKind.{ScriptKind}
use Rattle.bm_lang.specs.declared.scenario.ScriptKind.TheVariants.{Plain, Handler}
use Rattle.bm_lang.specs.declared.scenario.TypeId.{TypeId}
use Rattle.bm_check.specs.declared.name_state.NameState.{NameState}
use Rattle.bm_check.specs.declared.name_state.NameState.TheVariants.{Unbound, Spent, Maybe, Owned, Soft, MaybeSoft}
use Rattle.bm_check.specs.declared.name_state.HeldLock.TheVariants.{Nothing, Here}
use Rattle.bm_check.specs.declared.rule.Rule.{Rule}
use Rattle.bm_check.specs.declared.rule.Rule.TheVariants as rule
use Rattle.bm_check.specs.NameStates.{is_free, owns, is_same, agrees, clashes, joined_state, soft_spent, non_null}
use Rattle.bm_check.specs.Names.{Names, no_names, put, soft_ended, back_to, joined, branches_clash, owns_some}
use Rattle.bm_check.specs.Statements.{Setting, need, doubtful}
use Rattle.bm_check.specs.Blocks.{Place, at, Outcome, Broken, Reaches, and_then, unless_broken, from_inside, given_back, judged_action, judged_block}
use Rattle.bm_check.specs.Scripts.{Accepted, AllAccepted}
use Rattle.bm_check.proofs.BlockLemmas.{judged_list, block_is}
use Rattle.bm_generator.specs.declared.pieces.Piece.{Piece}
use Rattle.bm_generator.specs.declared.pieces.Piece.TheVariants as piece
use Rattle.bm_generator.specs.Pieces.{pieces, behind_pieces}
use Rattle.bm_generator.specs.Generated.{generated, types, maps, job, tree_node, part, q, t, spare, x, o, f, g, block_of, room, on_line, unless_null, statements, height, heights, body, script, scripts, handler, behind_script}
use Rattle.bm_generator.proofs.TextLemmas.{fits}

abbrev setting : ScriptKind → Setting
setting k = record { types = types; maps = maps; kind = k }

bool_cases : {P : Type 0} (b : Bool) → (b ≡ true → P) → (b ≡ false → P) → P
bool_cases true p r = p refl
bool_cases false p r = r refl

-- ---- names that are free

abbrev Free : Names → Type 0
Free n = (y : List ℕ) → is_free (n.state y) ≡ true

-- where one name is set apart
abbrev FreeBut : Names → List ℕ → Type 0
FreeBut n z = (y : List ℕ) → bytes_eq z y ≡ false → is_free (n.state y) ≡ true

free_but : (n : Names) (z : List ℕ) → Free n → FreeBut n z
free_but n z h y e = h y

put_but : (n : Names) (z : List ℕ) (s : NameState) → FreeBut n z → FreeBut (put n z s) z
put_but n z s h y e = rw e (h y e)

spent_free : (n : Names) (z : List ℕ) → FreeBut n z → Free (put n z Spent)
spent_free n z h y = bool_cases (bytes_eq z y) (λ e. rw e refl) (λ e. rw e (h y e))

soft_free : (s : NameState) → is_free s ≡ true → is_free (soft_spent s) ≡ true
soft_free Unbound h = refl
soft_free Spent h = refl
soft_free (Maybe t) h = cc
soft_free (Owned t) h = cc
soft_free (Soft t g) h = cc
soft_free (MaybeSoft t g) h = cc

ended_free : (n : Names) → Free n → Free (soft_ended n)
ended_free n h y = soft_free (n.state y) (h y)

ended_but : (n : Names) (z : List ℕ) → FreeBut n z → FreeBut (soft_ended n) z
ended_but n z h y e = soft_free (n.state y) (h y e)

no_clash : (s u : NameState) → is_free s ≡ true → is_free u ≡ true → clashes s u ≡ false
no_clash s u h k = let a : agrees s u ≡ true = rw (h, k) (or_true (is_same s u)) in rw a refl
  where
    or_true : (b : Bool) → b || true ≡ true
    or_true true = refl
    or_true false = refl

joined_free : (s u : NameState) → is_free s ≡ true → is_free (joined_state s u) ≡ true
joined_free s u h = bool_cases (is_same s u) (λ e. rw e h) (λ e. rw e refl)

none_of : (p : List ℕ → Bool) (ys : List (List ℕ)) → ((y : List ℕ) → p y ≡ false) → list_any p ys ≡ false
none_of p [] h = refl
none_of p (y ∷ ys) h = rw (h y) (none_of p ys h)

free_owns : (s : NameState) → is_free s ≡ true → owns s ≡ false
free_owns Unbound h = refl
free_owns Spent h = refl
free_owns (Maybe t) h = cc
free_owns (Owned t) h = cc
free_owns (Soft t g) h = refl
free_owns (MaybeSoft t g) h = refl

-- ---- outcomes

-- a place is reached at which each name is free and no lock is held
record Clear (o : Outcome) : Type 0 where
  names : Names
  is : o ≡ Reaches (at names Nothing)
  free : Free names

met : (b : Bool) (r : Rule) → b ≡ true → need b r ≡ None
met b r h = rw h refl

passes : (line : ℕ) (r : Option Rule) (o : Outcome) → r ≡ None → unless_broken line r o ≡ o
passes line r o h = rw h refl

-- a block, as a list of statements
block_judged : (k : ScriptKind) (p : Place) (ss : List Statement) (end : ℕ) → length ss ≤ room
    → judged_block (setting k) p (block_of ss end) ≡ and_then (judged_list (setting k) (at p.names (from_inside p.lock)) ss) (λ q. unless_broken end (given_back q.lock) (Reaches (at q.names p.lock)))
block_judged k p ss end le =
    block_is (setting k) p _ end ∙ ap (λ (xs : List Statement). and_then (judged_list (setting k) (at p.names (from_inside p.lock)) xs) (λ q. unless_broken end (given_back q.lock) (Reaches (at q.names p.lock)))) (take_all room ss le)

-- a `new`, where its name is free
new_step : (k : ScriptKind) (n : Names) (l : ℕ) (z : List ℕ) (u : TypeId) (vs : List ℕ) (ss : List Statement) → is_free (n.state z) ≡ true
    → judged_list (setting k) (at n Nothing) (on_line l (New z u vs) ∷ ss) ≡ judged_list (setting k) (at (put n z (Maybe u)) Nothing) ss
new_step k n l z u vs ss h = ap (λ o. and_then (unless_broken l o (Reaches (at (put n z (Maybe u)) Nothing))) (λ q. judged_list (setting k) q ss)) (met (is_free (n.state z)) rule.BoundOnce h)

-- an `if` that ends a piece: its block is judged from the name's other state on
if_clear : (k : ScriptKind) (n first : Names) (l end : ℕ) (z : List ℕ) (ss : List Statement) → length ss ≤ room
    → doubtful (n.state z) ≡ None
    → judged_list (setting k) (at (put n z (non_null (n.state z))) Nothing) ss ≡ Reaches (at first Nothing)
    → Free first → FreeBut n z
    → Clear (judged_list (setting k) (at n Nothing) (unless_null l z ss end ∷ []))
if_clear k n first l end z ss le d b ff fn =
    let e = setting k in
    let second = put (back_to n first) z Spent in
    let fs : Free second = spent_free (back_to n first) z fn in
    let inner : judged_block e (at (put n z (non_null (n.state z))) Nothing) (block_of ss end) ≡ Reaches (at first Nothing)
    = block_judged k (at (put n z (non_null (n.state z))) Nothing) ss end le ∙ ap (λ o. and_then o (λ q. unless_broken end (given_back q.lock) (Reaches (at q.names Nothing)))) b in
    let quiet : branches_clash first second ≡ false = none_of (λ y. clashes (first.state y) (second.state y)) second.met (λ y. no_clash (first.state y) (second.state y) (ff y) (fs y)) in
    record {
      names = joined first second;
      is = rw (d, inner, quiet) refl;
      free = λ y. joined_free (first.state y) (second.state y) (ff y);
    }

as_clear : {o u : Outcome} → o ≡ u → Clear u → Clear o
as_clear e c = record { names = c.names; is = e ∙ c.is; free = c.free }

-- a soft reference that ends
added_free : (n : Names) (z : List ℕ) (s : NameState) → is_free (soft_spent s) ≡ true → FreeBut n z → Free (soft_ended (put n z s))
added_free n z s k h y = bool_cases (bytes_eq z y) (λ e. rw e k) (λ e. rw e (soft_free (n.state y) (h y e)))

-- ---- each piece

push_clear : (n : Names) (l a b : ℕ) → Free n → Clear (judged_list (setting Plain) (at n Nothing) (statements l (piece.Push a b)))
push_clear n l a b h =
    let made = put n x (Maybe job) in
    let given = put made x (Owned job) in
    let but = put_but n x (Maybe job) (free_but n x h) in
    let inner = on_line (l + 2) (Lock q) ∷ on_line (l + 3) (PushBack q x) ∷ on_line (l + 4) Unlock ∷ [] in
    as_clear (new_step Plain n l x job (a ∷ b ∷ []) (unless_null (l + 1) x inner (l + 5) ∷ []) (h x))
    (if_clear Plain made (soft_ended (put given x Spent)) (l + 1) (l + 5) x inner (lit≤ tt) refl refl
    (ended_free (put given x Spent) (spent_free given x (put_but made x (Owned job) but))) but)

plant_clear : (n : Names) (l k : ℕ) → Free n → Clear (judged_list (setting Plain) (at n Nothing) (statements l (piece.Plant k)))
plant_clear n l k h =
    let made = put n x (Maybe tree_node) in
    let given = put made x (Owned tree_node) in
    let but = put_but n x (Maybe tree_node) (free_but n x h) in
    let inner = on_line (l + 2) (Lock t) ∷ on_line (l + 3) (Add t x) ∷ on_line (l + 4) Unlock ∷ [] in
    as_clear (new_step Plain n l x tree_node (k ∷ []) (unless_null (l + 1) x inner (l + 5) ∷ []) (h x))
    (if_clear Plain made (soft_ended (put given x (Soft tree_node t))) (l + 1) (l + 5) x inner (lit≤ tt) refl refl
    (added_free given x (Soft tree_node t) refl (put_but made x (Owned tree_node) but)) but)

-- the queue's object, taken out under the lock
pop_step : (n : Names) (l : ℕ) (ss : List Statement) → Free n
    → judged_list (setting Plain) (at n Nothing) (on_line l (Lock q) ∷ on_line (l + 1) (PopFront x q) ∷ on_line (l + 2) Unlock ∷ ss) ≡ judged_list (setting Plain) (at (soft_ended (put (soft_ended n) x (Maybe job))) Nothing) ss
pop_step n l ss h =
    ap (λ r. and_then (unless_broken (l + 1) r (Reaches (at (put (soft_ended n) x (Maybe job)) (Here q)))) (λ p. judged_list (setting Plain) p (on_line (l + 2) Unlock ∷ ss)))
    (met (is_free (soft_spent (n.state x))) rule.BoundOnce (soft_free (n.state x) (h x)))

pop_clear : (n : Names) (l : ℕ) → Free n → Clear (judged_list (setting Plain) (at n Nothing) (statements l piece.Pop))
pop_clear n l h =
    let quiet = soft_ended n in
    let taken = soft_ended (put quiet x (Maybe job)) in
    let but = ended_but (put quiet x (Maybe job)) x (put_but quiet x (Maybe job) (free_but quiet x (ended_free n h))) in
    let inner = on_line (l + 4) (Drop x) ∷ [] in
    as_clear (pop_step n l (unless_null (l + 3) x inner (l + 5) ∷ []) h)
    (if_clear Plain taken (put (put taken x (Owned job)) x Spent) (l + 3) (l + 5) x inner (lit≤ tt) refl refl
    (spent_free (put taken x (Owned job)) x (put_but taken x (Owned job) but)) but)

-- the tree's least object, found and taken out under the lock
first_step : (n : Names) (l : ℕ) (ss : List Statement) → Free n
    → judged_list (setting Plain) (at n Nothing) (on_line l (Lock t) ∷ on_line (l + 1) (First f t) ∷ ss) ≡ judged_list (setting Plain) (at (put n f (MaybeSoft tree_node t)) (Here t)) ss
first_step n l ss h =
    ap (λ r. and_then (unless_broken (l + 1) r (Reaches (at (put n f (MaybeSoft tree_node t)) (Here t)))) (λ p. judged_list (setting Plain) p ss))
    (met (is_free (n.state f)) rule.BoundOnce (h f))

remove_step : (n : Names) (l : ℕ) (ss : List Statement) → Free n
    → judged_list (setting Plain) (at (put n f (MaybeSoft tree_node t)) (Here t)) (on_line (l + 2) (Remove g t f) ∷ on_line (l + 3) Unlock ∷ ss)
    ≡ judged_list (setting Plain) (at (soft_ended (put (soft_ended (put n f (MaybeSoft tree_node t))) g (Maybe tree_node))) Nothing) ss
remove_step n l ss h =
    let found = soft_ended (put n f (MaybeSoft tree_node t)) in
    ap (λ r. and_then (unless_broken (l + 2) r (Reaches (at (put found g (Maybe tree_node)) (Here t)))) (λ p. judged_list (setting Plain) p (on_line (l + 3) Unlock ∷ ss)))
    (met (is_free (soft_spent (n.state g))) rule.BoundOnce (soft_free (n.state g) (h g)))

pick_clear : (n : Names) (l : ℕ) → Free n → Clear (judged_list (setting Plain) (at n Nothing) (statements l piece.Pick))
pick_clear n l h =
    let found = soft_ended (put n f (MaybeSoft tree_node t)) in
    let free_found = added_free n f (MaybeSoft tree_node t) refl (free_but n f h) in
    let taken = soft_ended (put found g (Maybe tree_node)) in
    let but = ended_but (put found g (Maybe tree_node)) g (put_but found g (Maybe tree_node) (free_but found g free_found)) in
    let inner = on_line (l + 5) (Drop g) ∷ [] in
    let last = unless_null (l + 4) g inner (l + 6) ∷ [] in
    as_clear (first_step n l (on_line (l + 2) (Remove g t f) ∷ on_line (l + 3) Unlock ∷ last) h ∙ remove_step n l last h)
    (if_clear Plain taken (put (put taken g (Owned tree_node)) g Spent) (l + 4) (l + 6) g inner (lit≤ tt) refl refl
    (spent_free (put taken g (Owned tree_node)) g (put_but taken g (Owned tree_node) but)) but)

-- a part is put into the slot, and what was there comes out
exchange_step : (k : ScriptKind) (n : Names) (l : ℕ) (ss : List Statement) → Free n
    → judged_list (setting k) (at (put (put n x (Maybe part)) x (Owned part)) Nothing) (on_line l (Exchange o spare (Some x)) ∷ ss)
    ≡ judged_list (setting k) (at (put (put (put (put n x (Maybe part)) x (Owned part)) x Spent) o (Maybe part)) Nothing) ss
exchange_step k n l ss h =
    let left = put (put (put n x (Maybe part)) x (Owned part)) x Spent in
    ap (λ r. and_then (unless_broken l r (Reaches (at (put left o (Maybe part)) Nothing))) (λ p. judged_list (setting k) p ss))
    (met (is_free (n.state o)) rule.BoundOnce (h o))

swap_clear : (k : ScriptKind) (n : Names) (l v : ℕ) → Free n → Clear (judged_list (setting k) (at n Nothing) (statements l (piece.Swap v)))
swap_clear k n l v h =
    let made = put n x (Maybe part) in
    let given = put made x (Owned part) in
    let but = put_but n x (Maybe part) (free_but n x h) in
    let left = put given x Spent in
    let free_left = spent_free given x (put_but made x (Owned part) but) in
    let out = put left o (Maybe part) in
    let out_but = put_but left o (Maybe part) (free_but left o free_left) in
    let inner = if_clear k out (put (put out o (Owned part)) o Spent) (l + 3) (l + 5) o (on_line (l + 4) (Drop o) ∷ []) (lit≤ tt) refl refl
    (spent_free (put out o (Owned part)) o (put_but out o (Owned part) out_but)) out_but in
    let last = unless_null (l + 3) o (on_line (l + 4) (Drop o) ∷ []) (l + 5) ∷ [] in
    let outer = on_line (l + 2) (Exchange o spare (Some x)) ∷ last in
    as_clear (new_step k n l x part (v ∷ []) (unless_null (l + 1) x outer (l + 6) ∷ []) (h x))
    (if_clear k made inner.names (l + 1) (l + 6) x outer (lit≤ tt) refl (exchange_step k n (l + 2) last h ∙ inner.is) inner.free but)

piece_clear : (n : Names) (l : ℕ) (p : Piece) → Free n → Clear (judged_list (setting Plain) (at n Nothing) (statements l p))
piece_clear n l (piece.Push a b) h = push_clear n l a b h
piece_clear n l piece.Pop h = pop_clear n l h
piece_clear n l (piece.Plant k) h = plant_clear n l k h
piece_clear n l piece.Pick h = pick_clear n l h
piece_clear n l (piece.Swap v) h = swap_clear Plain n l v h
piece_clear n l piece.Yield h = record { names = n; is = refl; free = h }

-- ---- bodies

behind_them : (e : Setting) (p r : Place) (ss us : List Statement) → judged_list e p ss ≡ Reaches r → judged_list e p (ss ++ us) ≡ judged_list e r us
behind_them e p r [] us h = let same : p ≡ r = cc in ap (λ p. judged_list e p us) same
behind_them e p r (s ∷ ss) us h = one (judged_action e p s.line s.action) (λ v k. behind_them e v r ss us k) h
  where
    one : (o : Outcome) → ((v : Place) → judged_list e v ss ≡ Reaches r → judged_list e v (ss ++ us) ≡ judged_list e r us)
        → and_then o (λ v. judged_list e v ss) ≡ Reaches r → and_then o (λ v. judged_list e v (ss ++ us)) ≡ judged_list e r us
    one (Reaches v) more h = more v h
    one (Broken line b) more h = cc

body_clear : (n : Names) (l : ℕ) (ps : List Piece) → Free n → Clear (judged_list (setting Plain) (at n Nothing) (body l ps))
body_clear n l [] h = record { names = n; is = refl; free = h }
body_clear n l (p ∷ ps) h =
    let c = piece_clear n l p h in
    as_clear (behind_them (setting Plain) (at n Nothing) (at c.names Nothing) (statements l p) (body (l + height p) ps) c.is) (body_clear c.names (l + height p) ps c.free)

-- ---- scripts

no_names_free : Free no_names
no_names_free y = refl

-- a script whose block leaves all names free
block_accepted : (k : ScriptKind) (line : ℕ) (name : List ℕ) (ss : List Statement) (end n s : ℕ) → length ss ≤ room → Clear (judged_list (setting k) (at no_names Nothing) ss)
    → Accepted (generated n s) (record { line = line; name = name; kind = k; body = block_of ss end })
block_accepted k line name ss end n s le c =
    let b : judged_block (setting k) (at no_names Nothing) (block_of ss end) ≡ Reaches (at c.names Nothing)
    = block_judged k (at no_names Nothing) ss end le ∙ ap (λ o. and_then o (λ q. unless_broken end (given_back q.lock) (Reaches (at q.names Nothing)))) c.is in
    let quiet : owns_some c.names ≡ false = none_of (λ y. owns (c.names.state y)) c.names.met (λ y. free_owns (c.names.state y) (c.free y)) in
    rw (b, quiet) refl

pub script_accepted : (p l n s m u : ℕ) → n ≤ 2000 → Accepted (generated m u) (script p l (pieces n s))
script_accepted p l n s m u few =
    block_accepted Plain l (112 ∷ (48 + p) ∷ []) (body (l + 1) (pieces n s)) (l + 1 + heights (pieces n s)) m u (fits n s (l + 1) few) (body_clear no_names (l + 1) (pieces n s) no_names_free)

pub handler_accepted : (l m u : ℕ) → Accepted (generated m u) (handler l)
handler_accepted l m u = block_accepted Handler l (codes "h") (statements (l + 1) (piece.Swap 7)) (l + 8) m u (lit≤ tt) (swap_clear Handler no_names (l + 1) 7 no_names_free)

scripts_accepted : (k p n s l m u : ℕ) → n ≤ 2000 → (i : ℕ) (x : Script) → slice_get (scripts k p n s l) i ≡ Some x → Accepted (generated m u) x
scripts_accepted zero p n s l m u few zero x h = let e : handler l ≡ x = cc in subst (λ y. Accepted (generated m u) y) e (handler_accepted l m u)
scripts_accepted zero p n s l m u few (suc i) x h = cc
scripts_accepted (suc k) p n s l m u few zero x h = let e : script p l (pieces n s) ≡ x = cc in subst (λ y. Accepted (generated m u) y) e (script_accepted p l n s m u few)
scripts_accepted (suc k) p n s l m u few (suc i) x h = scripts_accepted k (p + 1) n (behind_pieces n s) (behind_script l (pieces n s)) m u few i x h

pub all_accepted : (n s : ℕ) → n ≤ 2000 → AllAccepted (generated n s)
all_accepted n s few = scripts_accepted 4 0 n s 17 n s few
