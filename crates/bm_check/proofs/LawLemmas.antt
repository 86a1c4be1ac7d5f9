-- The law of accepted scripts: what the judgement reaches, the values of a run are, and each statement finds what it needs.
use Rattle.std.proofs.Common.{◌≡◌, ℕ, zero, suc, Bool, true, false, not, List, [], ◌∷◌, refl, sym, ap, ◌∙◌, subst, inl, inr, ◌⊎◌, Option, Some, None, is_some, ◌==◌, ◌++◌, if◌then◌else◌}
use Rattle.std.specs.Option.{option_or, option_map_or}
use Rattle.std.specs.List.{list_any}
use Rattle.std.specs.Str.{bytes_eq}
use Rattle.bm_lang.specs.declared.scenario.Action.{Action, New, Drop, Acquire, Get, Exchange, If', Repeat, Section, Lock, Unlock, Yield, PushFront, PushBack, PopFront, PopBack, Add, First, Remove, Held-Action-If-2, None', Some'}
use Rattle.bm_lang.specs.declared.scenario.Block.{Block, Block', Row_of-Statement, end_of-Statement, more_of-Statement}
use Rattle.bm_lang.specs.declared.scenario.TypeId.{TypeId}
use Rattle.bm_lang.specs.declared.scenario.MapId.{MapId}
use Rattle.bm_check.specs.declared.name_state.NameState.{NameState}
use Rattle.bm_check.specs.declared.name_state.NameState.TheVariants.{Unbound, Spent, Maybe, Owned, Soft, MaybeSoft}
use Rattle.bm_check.specs.declared.name_state.HeldLock.{HeldLock}
use Rattle.bm_check.specs.declared.name_state.HeldLock.TheVariants.{Nothing, Here, Around}
use Rattle.bm_check.specs.declared.rule.Rule.TheVariants as rule
use Rattle.bm_check.specs.NameStates.{is_free, owns, clashes, agrees, non_null}
use Rattle.bm_check.specs.Names.{Names, Covered, put, soft_ended, back_to, branches_clash, joined, body_changes, repeated, no_names, owns_some}
use Rattle.bm_check.specs.Statements.{Setting, row_of, need, broken_by, names_after, lock_after, bound_free, with_binding, binds_of, type_of_map, holds_type, is_counted, has_field, any_type, pushed, owning, reading, non_owning, doubtful, declared, outside_locks, no_second_lock, no_handler, is_handler, under_lock_of, is_lock_of, some_lock, lock_from_here, is_free_of_locks, setting_of}
use Rattle.bm_check.specs.Blocks.{Place, at, Outcome, Broken, Reaches, after_if, after_repeat, from_inside, given_back, judged_action, judged_else, judged_block, judged_row, last_line, end_line}
use Rattle.bm_check.specs.Scripts.{judged_script, broken_rule}
use Rattle.bm_check.specs.Values.{Value, Empty, Null, Owning, NonOwning, is_owning, Store, with_value, with_lock, MayBind, NoLock, HoldsLock, NotHandler, Answered, Refers, Pushes, Pops, Times, SafeAction, SafeElse, SafeBlock, SafeRow, Fits, Stands, empty_store, OwnsNothing, AcceptedIsSafe, StatesAreRight, soft_ended as ended}
use Rattle.bm_check.proofs.TableLemmas.{is_or_not, same_word, no_head, no_tail}
use Rattle.bm_check.proofs.Growth.{action_grows, else_grows, block_grows, grows_on, put_grows, back_grows, not_front, unless_reaches, then_reaches, same_place, statement_reaches}
use Rattle.bm_check.proofs.Needs.{both_none, met, not_met, lock_free, lock_here, is_owned, is_readable, is_node, not_owned, free_owns, fits_spent, fits_non_null, null_or_not, fits_joined_first, fits_joined_second, fits_start, fits_repeated}

-- a test that passes for no name that was met, and not for an unbound one, passes for none
pub nowhere : (p : List ℕ → Bool) (met : List (List ℕ)) → list_any p met ≡ false → (x : List ℕ) → list_any (bytes_eq x) met ≡ true → p x ≡ false
nowhere p [] h x among = cc
nowhere p (y ∷ met) h x among = elim (is_or_not (bytes_eq x y)) [
  | inl isit ↦ subst (λ (z : List ℕ). p z ≡ false) (sym (same_word x y isit)) (no_head p y met h)
  | inr isnt ↦ nowhere p met (no_tail p y met h) x (rw isnt at among)
]

-- what stands at a place

stands_as : (p q : Place) (s : Store) → p ≡ q → Stands p s → Stands q s
stands_as p q s e h = subst (λ (r : Place). Stands r s) e h

-- a name gets a state and a value
stands_put : (n : Names) (l : HeldLock) (s : Store) (x : List ℕ) (st : NameState) (v : Value) → Fits st v → Stands (at n l) s → Stands (at (put n x st) l) (with_value s x v)
stands_put n l s x st v f h = record { values = values; lock = h.lock }
  where
    values : (y : List ℕ) → Fits ((put n x st).state y) ((with_value s x v).value y)
    values y = elim (is_or_not (bytes_eq x y)) [ inl isit ↦ rw isit f | inr isnt ↦ rw isnt (h.values y) ]

-- a name gets a state that its value has
stands_known : (n : Names) (l : HeldLock) (s : Store) (x : List ℕ) (st : NameState) → Fits st (s.value x) → Stands (at n l) s → Stands (at (put n x st) l) s
stands_known n l s x st f h = record { values = values; lock = h.lock }
  where
    values : (y : List ℕ) → Fits ((put n x st).state y) (s.value y)
    values y = elim (is_or_not (bytes_eq x y)) [ inl isit ↦ rw isit (subst (λ (z : List ℕ). Fits st (s.value z)) (same_word x y isit) f) | inr isnt ↦ rw isnt (h.values y) ]

stands_soft : (n : Names) (l : HeldLock) (s : Store) → Stands (at n l) s → Stands (at (soft_ended n) l) (ended s)
stands_soft n l s h = record { values = λ y. fits_spent (n.state y) (s.value y) (h.values y); lock = h.lock }

stands_locked : (n : Names) (l k : HeldLock) (s : Store) → Stands (at n l) s → Stands (at n k) (with_lock s k)
stands_locked n l k s h = record { values = h.values; lock = refl }

may_bind : (n : Names) (l : HeldLock) (s : Store) (x : List ℕ) → Stands (at n l) s → is_free (n.state x) ≡ true → MayBind s x
may_bind n l s x h free = not_owned (n.state x) (s.value x) (free_owns (n.state x) free) (h.values x)

-- a name is bound to what a call answers
module _ (m : Names) (l : HeldLock) (s : Store) (x : List ℕ) (here : Stands (at m l) s) where
  answered : (st : NameState) (v : Value) (Q : Store → Type 0) → Fits st Null → Fits st v → is_free (m.state x) ≡ true → ((r : Store) → Stands (at (put m x st) l) r → Q r) → Answered s x v Q
  answered st v Q null comes free k = (may_bind m l s x here free, answer)
    where
      answer : (came : Bool) → Q (with_value s x (if came then v else Null))
      answer true = k (with_value s x v) (stands_put m l s x st v comes here)
      answer false = k (with_value s x Null) (stands_put m l s x st Null null here)

  answered_of : (o : Option TypeId) (S : TypeId → NameState) (V : TypeId → Value) (Q : Store → Type 0) → ((t : TypeId) → Fits (S t) Null) → ((t : TypeId) → Fits (S t) (V t)) → is_some o ≡ true → bound_free m (binds_of x o S) ≡ None → ((r : Store) → Stands (at (with_binding m (binds_of x o S)) l) r → Q r) → (t : TypeId) × (o ≡ Some t) × Answered s x (V t) Q
  answered_of None S V Q null comes some free k = cc
  answered_of (Some t) S V Q null comes some free k = (t, refl, answered (S t) (V t) Q (null t) (comes t) (met (is_free (m.state x)) rule.BoundOnce free) k)

-- a push
module _ (e : Setting) (n : Names) (l : HeldLock) (s : Store) (here : Stands (at n l) s) where
  value_of_owned : (x : List ℕ) (t : TypeId) → n.state x ≡ Owned t → s.value x ≡ Owning t
  value_of_owned x t is = subst (λ (st : NameState). Fits st (s.value x)) is (here.values x)

  holds_lock : (g : MapId) → under_lock_of g l ≡ None → HoldsLock s g
  holds_lock g h = rw here.lock (met (is_lock_of g l) rule.UnderItsLock h)

  no_lock : outside_locks l ≡ None → NoLock s
  no_lock h = here.lock ∙ lock_free l (met (is_free_of_locks l) rule.NotUnderLock h)

  not_handler : no_handler e ≡ None → NotHandler e
  not_handler h = not_met (is_handler e.kind) rule.NotInHandler h

  pushes_safe : (g : MapId) (x : List ℕ) (Q : Store → Type 0) → option_or (under_lock_of g l) (owning (holds_type e g) (n.state x)) ≡ None → ((r : Store) → Stands (at (put n x (pushed e g (n.state x))) l) r → Q r) → Pushes e s g x Q
  pushes_safe g x Q h k =
      let b = both_none (under_lock_of g l) (owning (holds_type e g) (n.state x)) h in
      let o = is_owned (holds_type e g) (n.state x) b.1 in
      (holds_lock g b.0, (o.0, value_of_owned x o.0 o.1, o.2, k (with_value s x (if is_counted e o.0 then Empty else NonOwning o.0 g)) (stands_put n l s x (pushed e g (n.state x)) _ (fits o.0 o.1) here)))
    where
      left : (t : TypeId) (c : Bool) → Fits (if c then Spent else Soft t g) (if c then Empty else NonOwning t g)
      left t true = refl
      left t false = refl

      fits : (t : TypeId) → n.state x ≡ Owned t → Fits (pushed e g (n.state x)) (if is_counted e t then Empty else NonOwning t g)
      fits t is = rw is (left t (is_counted e t))

  -- what a map gives, once its type is known
  pops_safe : (m : Names) (there : Stands (at m l) s) (g : MapId) (x : List ℕ) (S : TypeId → NameState) (V : TypeId → Value) (Q : Store → Type 0) → ((t : TypeId) → Fits (S t) Null) → ((t : TypeId) → Fits (S t) (V t)) → under_lock_of g l ≡ None → declared e g ≡ None → bound_free m (binds_of x (type_of_map e g) S) ≡ None → ((r : Store) → Stands (at (with_binding m (binds_of x (type_of_map e g) S)) l) r → Q r) → Pops e s x g V Q
  pops_safe m there g x S V Q null comes lock some free k =
      (holds_lock g lock, answered_of m l s x there (type_of_map e g) S V Q null comes (met (is_some (type_of_map e g)) rule.RightKind some) free k)

-- a map that holds a type has one
has_type : (o : Option TypeId) (t : TypeId) → option_map_or (λ u. u.0 == t.0) o false ≡ true → is_some o ≡ true
has_type None t h = cc
has_type (Some u) t h = refl

maybe_null : (t : TypeId) → Fits (Maybe t) Null
maybe_null t = inl refl

maybe_owning : (t : TypeId) → Fits (Maybe t) (Owning t)
maybe_owning t = inr refl

-- a statement without blocks
abbrev IsPlain : Action → Type 0
IsPlain (If' x body otherwise) = ⊥
IsPlain (Repeat count body) = ⊥
IsPlain (Section body) = ⊥
IsPlain a = Unit {0}

plain_safe : (e : Setting) (n : Names) (l : HeldLock) (a : Action) → IsPlain a → (s : Store) (Q : Store → Type 0) → Stands (at n l) s → broken_by (row_of e l n a) ≡ None → ((r : Store) → Stands (at (names_after (row_of e l n a)) (lock_after l a)) r → Q r) → SafeAction e s a Q
plain_safe e n l (New x t values) plain s Q here h k =
    let b = both_none (outside_locks l) _ h in
    (no_lock e n l s here b.0, answered n l s x here (Maybe t) (Owning t) Q (inl refl) (inr refl) (met (is_free (n.state x)) rule.BoundOnce b.1) k)
plain_safe e n l (Drop x) plain s Q here h k =
    let b = both_none (option_or (outside_locks l) (owning any_type (n.state x))) None h in
    let c = both_none (outside_locks l) (owning any_type (n.state x)) b.0 in
    let o = is_owned any_type (n.state x) c.1 in
    (no_lock e n l s here c.0, (o.0, value_of_owned e n l s here x o.0 o.1, tt, k (with_value s x Empty) (stands_put n l s x Spent Empty refl here)))
plain_safe e n l (Acquire y x) plain s Q here h k =
    let b = both_none (owning (is_counted e) (n.state x)) (bound_free n (row_of e l n (Acquire y x)).bound) h in
    let o = is_owned (is_counted e) (n.state x) b.0 in
    let is = o.1 in
    let free : need (is_free (n.state y)) rule.BoundOnce ≡ None = rw is at b.1 in
    let next : (r : Store) → Stands (at (put n y (Owned o.0)) l) r → Q r = rw is at k in
    (o.0, value_of_owned e n l s here x o.0 o.1, o.2, (may_bind n l s y here (met (is_free (n.state y)) rule.BoundOnce free), next (with_value s y (Owning o.0)) (stands_put n l s y (Owned o.0) (Owning o.0) refl here)))
plain_safe e n l (Get x f) plain s Q here h k =
    let b = both_none (reading (has_field e f) (n.state x)) None h in
    let o = is_readable (has_field e f) (n.state x) b.0 in
    (o.0, referred o.0 o.1, o.2, k s here)
  where
    referred : (t : TypeId) → ((n.state x ≡ Owned t) ⊎ ((g : MapId) × (n.state x ≡ Soft t g))) → Refers (s.value x) t
    referred t which = elim which [
      | inl is ↦ inl (value_of_owned e n l s here x t is)
      | inr is ↦ inr (is.0, subst (λ (st : NameState). Fits st (s.value x)) is.1 (here.values x))
    ]
plain_safe e n l (Exchange y g (Some x)) plain s Q here h k =
    let b = both_none (option_or (outside_locks l) (owning (holds_type e g) (n.state x))) _ h in
    let c = both_none (outside_locks l) (owning (holds_type e g) (n.state x)) b.0 in
    let o = is_owned (holds_type e g) (n.state x) c.1 in
    let there = stands_put n l s x Spent Empty refl here in
    (no_lock e n l s here c.0, (o.0, value_of_owned e n l s here x o.0 o.1, o.2, answered_of (put n x Spent) l (with_value s x Empty) y there (type_of_map e g) Maybe Owning Q maybe_null maybe_owning (has_type (type_of_map e g) o.0 o.2) b.1 k))
plain_safe e n l (Exchange y g None) plain s Q here h k =
    let b = both_none (option_or (outside_locks l) (declared e g)) _ h in
    let c = both_none (outside_locks l) (declared e g) b.0 in
    (no_lock e n l s here c.0, answered_of n l s y here (type_of_map e g) Maybe Owning Q maybe_null maybe_owning (met (is_some (type_of_map e g)) rule.RightKind c.1) b.1 k)
plain_safe e n l (PushFront q x) plain s Q here h k = pushes_safe e n l s here q x Q (both_none _ None h).0 k
plain_safe e n l (PushBack q x) plain s Q here h k = pushes_safe e n l s here q x Q (both_none _ None h).0 k
plain_safe e n l (Add q x) plain s Q here h k = pushes_safe e n l s here q x Q (both_none _ None h).0 k
plain_safe e n l (PopFront x q) plain s Q here h k =
    let b = both_none (option_or (under_lock_of q l) (declared e q)) _ h in
    let c = both_none (under_lock_of q l) (declared e q) b.0 in
    pops_safe e (soft_ended n) l (ended s) (stands_soft n l s here) (soft_ended n) (stands_soft n l s here) q x Maybe Owning Q maybe_null maybe_owning c.0 c.1 b.1 k
plain_safe e n l (PopBack x q) plain s Q here h k =
    let b = both_none (option_or (under_lock_of q l) (declared e q)) _ h in
    let c = both_none (under_lock_of q l) (declared e q) b.0 in
    pops_safe e (soft_ended n) l (ended s) (stands_soft n l s here) (soft_ended n) (stands_soft n l s here) q x Maybe Owning Q maybe_null maybe_owning c.0 c.1 b.1 k
plain_safe e n l (First x t) plain s Q here h k =
    let b = both_none (option_or (under_lock_of t l) (declared e t)) _ h in
    let c = both_none (under_lock_of t l) (declared e t) b.0 in
    pops_safe e n l s here n here t x (λ u. MaybeSoft u t) (λ u. NonOwning u t) Q (λ u. inl refl) (λ u. inr refl) c.0 c.1 b.1 k
plain_safe e n l (Remove y t x) plain s Q here h k =
    let b = both_none (option_or (under_lock_of t l) (option_or (non_owning t (n.state x)) (declared e t))) _ h in
    let c = both_none (under_lock_of t l) (option_or (non_owning t (n.state x)) (declared e t)) b.0 in
    let d = both_none (non_owning t (n.state x)) (declared e t) c.1 in
    let o = is_node t (n.state x) d.0 in
    (node o.0 o.1, pops_safe e (soft_ended n) l (ended s) (stands_soft n l s here) (soft_ended n) (stands_soft n l s here) t y Maybe Owning Q maybe_null maybe_owning c.0 d.1 b.1 k)
  where
    node : (u : TypeId) → ((n.state x ≡ Soft u t) ⊎ (n.state x ≡ MaybeSoft u t)) → (s.value x ≡ Null) ⊎ ((u : TypeId) × (s.value x ≡ NonOwning u t))
    node u which = elim which [
      | inl is ↦ inr (u, subst (λ (st : NameState). Fits st (s.value x)) is (here.values x))
      | inr is ↦ elim (subst (λ (st : NameState). Fits st (s.value x)) is (here.values x)) [ inl null ↦ inl null | inr found ↦ inr (u, found) ]
    ]
plain_safe e n l (Lock g) plain s Q here h k =
    let b = both_none (option_or (no_handler e) (no_second_lock l)) None h in
    let c = both_none (no_handler e) (no_second_lock l) b.0 in
    (not_handler e n l s here c.0, here.lock ∙ lock_free l (met (is_free_of_locks l) rule.OneLock c.1), k (with_lock s (Here g)) (stands_locked n l (Here g) s here))
plain_safe e n l Unlock plain s Q here h k =
    let b = both_none (option_or (some_lock l) (lock_from_here l)) None h in
    let o = lock_here l b.0 in
    (o.0, here.lock ∙ o.1, k (with_lock (ended s) Nothing) (stands_locked (soft_ended n) l Nothing (ended s) (stands_soft n l s here)))
plain_safe e n l Yield plain s Q here h k =
    let b = both_none (option_or (no_handler e) (outside_locks l)) None h in
    let c = both_none (no_handler e) (outside_locks l) b.0 in
    (not_handler e n l s here c.0, no_lock e n l s here c.1, k s here)
plain_safe e n l (If' x body otherwise) plain s Q here h k = absurd plain
plain_safe e n l (Repeat count body) plain s Q here h k = absurd plain
plain_safe e n l (Section body) plain s Q here h k = absurd plain

-- a block leaves the lock as it was
block_lock : (e : Setting) (p : Place) (b : Block) (q : Place) → judged_block e p b ≡ Reaches q → q.lock ≡ p.lock
block_lock e p (Block' shape row line) q h =
    let t = then_reaches (judged_row e (at p.names (from_inside p.lock)) row) _ q h in
    let u = unless_reaches line (given_back t.0.lock) (Reaches (at t.0.names p.lock)) q t.2 in
    ap (λ (r : Place). r.lock) (sym (same_place _ q u.1))

else_lock : (e : Setting) (p : Place) (o : Held-Action-If-2) (q : Place) → judged_else e p o ≡ Reaches q → q.lock ≡ p.lock
else_lock e p None' q h = ap (λ (r : Place). r.lock) (sym (same_place p q h))
else_lock e p (Some' body) q h = block_lock e p body q h

-- the lock along the statements of a block: as at its start, or taken here
abbrev LockFrom : HeldLock → HeldLock → Type 0
LockFrom start now = (now ≡ start) ⊎ ((start ≡ Nothing) × ((g : MapId) × (now ≡ Here g)))

not_here : (l : HeldLock) (g : MapId) → from_inside l ≡ Here g → ⊥
not_here Nothing g h = cc
not_here (Here k) g h = cc
not_here (Around k) g h = cc

plain_lock : (e : Setting) (n : Names) (outer l : HeldLock) (a : Action) → broken_by (row_of e l n a) ≡ None → LockFrom (from_inside outer) l → LockFrom (from_inside outer) (lock_after l a)
plain_lock e n outer l (Lock g) h from =
    let b = both_none (option_or (no_handler e) (no_second_lock l)) None h in
    let c = both_none (no_handler e) (no_second_lock l) b.0 in
    let free : l ≡ Nothing = lock_free l (met (is_free_of_locks l) rule.OneLock c.1) in
    elim from [ inl same ↦ inr (sym same ∙ free, (g, refl)) | inr taken ↦ inr (taken.0, (g, refl)) ]
plain_lock e n outer l Unlock h from =
    let b = both_none (option_or (some_lock l) (lock_from_here l)) None h in
    let o = lock_here l b.0 in
    elim from [ inl same ↦ absurd (not_here outer o.0 (sym same ∙ o.1)) | inr taken ↦ inl (sym taken.0) ]
plain_lock e n outer l a h from = from

mutual
  action_lock : (e : Setting) (p : Place) (line : ℕ) (a : Action) (q : Place) (outer : HeldLock) → judged_action e p line a ≡ Reaches q → LockFrom (from_inside outer) p.lock → LockFrom (from_inside outer) q.lock
  action_lock e p line (If' x body otherwise) q outer h from =
      let n = p.names in
      let u = unless_reaches line (broken_by (row_of e p.lock n (If' x body otherwise))) _ q h in
      let first = then_reaches (judged_block e (at (put n x (non_null (n.state x))) p.lock) body) _ q u.1 in
      let other = then_reaches (judged_else e (at (put (back_to n first.0.names) x Spent) p.lock) otherwise) (after_if (last_line body otherwise) p.lock first.0.names) q first.2 in
      let v = unless_reaches (last_line body otherwise) (need (not (branches_clash first.0.names other.0.names)) rule.BranchesAgree) (Reaches (at (joined first.0.names other.0.names) p.lock)) q other.2 in
      subst (λ (r : Place). LockFrom (from_inside outer) r.lock) (same_place _ q v.1) from
  action_lock e p line (Repeat count body) q outer h from =
      let t = then_reaches (judged_block e p body) (after_repeat (end_line body) p.lock p.names) q h in
      let u = unless_reaches (end_line body) (need (not (body_changes p.names t.0.names)) rule.RepeatAgrees) (Reaches (at (repeated p.names t.0.names) p.lock)) q t.2 in
      subst (λ (r : Place). LockFrom (from_inside outer) r.lock) (same_place _ q u.1) from
  action_lock e p line (Section body) q outer h from = subst (λ (l : HeldLock). LockFrom (from_inside outer) l) (sym (block_lock e p body q h)) from
  action_lock e p line a q outer h from =
      let s = statement_reaches line p.lock a (row_of e p.lock p.names a) q h in
      subst (λ (r : Place). LockFrom (from_inside outer) r.lock) s.1 (plain_lock e p.names outer p.lock a s.0 from)

  row_lock : (e : Setting) (p : Place) {m : _} (row : Row_of-Statement m) (q : Place) (outer : HeldLock) → judged_row e p row ≡ Reaches q → LockFrom (from_inside outer) p.lock → LockFrom (from_inside outer) q.lock
  row_lock e p end_of-Statement q outer h from = subst (λ (r : Place). LockFrom (from_inside outer) r.lock) (same_place p q h) from
  row_lock e p (more_of-Statement line action rest) q outer h from =
      let t = then_reaches (judged_action e p line action) (λ r. judged_row e r rest) q h in
      row_lock e t.0 rest q outer t.2 (action_lock e p line action t.0 outer t.1 from)

-- at a block's end no lock of its own is held, so the lock is that of its start
lock_at_end : (outer now : HeldLock) → LockFrom (from_inside outer) now → given_back now ≡ None → now ≡ from_inside outer
lock_at_end outer now from h = elim from [ inl same ↦ same | inr taken ↦ (let e : given_back (Here taken.1.0) ≡ None = rw taken.1.1 at h in cc) ]

not_false : (b : Bool) → not b ≡ false → b ≡ true
not_false true h = refl
not_false false h = cc

-- where no name that was met clashes, none does
no_clash : (first other : Names) (more : List (List ℕ)) → other.met ≡ first.met ++ more → Covered first → Covered other → branches_clash first other ≡ false → (x : List ℕ) → clashes (first.state x) (other.state x) ≡ false
no_clash first other more met c d h x = elim (is_or_not (list_any (bytes_eq x) other.met)) [
  | inl among ↦ nowhere (λ y. clashes (first.state y) (other.state y)) other.met h x among
  | inr missing ↦
      (let one : first.state x ≡ Unbound = c x (not_front x first.met more (rw met at missing)) in
      let two : other.state x ≡ Unbound = d x missing in
      rw (one, two) refl)
]

-- .. and where none that was met changes
all_agree : (start end : Names) (more : List (List ℕ)) → end.met ≡ start.met ++ more → Covered start → Covered end → body_changes start end ≡ false → (x : List ℕ) → agrees (start.state x) (end.state x) ≡ true
all_agree start end more met c d h x = elim (is_or_not (list_any (bytes_eq x) end.met)) [
  | inl among ↦ not_false (agrees (start.state x) (end.state x)) (nowhere (λ y. not (agrees (start.state y) (end.state y))) end.met h x among)
  | inr missing ↦
      (let one : start.state x ≡ Unbound = c x (not_front x start.met more (rw met at missing)) in
      let two : end.state x ≡ Unbound = d x missing in
      rw (one, two) refl)
]

-- a block again and again
times_safe : (n : ℕ) (F : Store → (Store → Type 0) → Type 0) (P : Store → Type 0) → ((r : Store) → P r → (Q : Store → Type 0) → ((t : Store) → P t → Q t) → F r Q) → (s : Store) → P s → (Q : Store → Type 0) → ((t : Store) → P t → Q t) → Times n F s Q
times_safe zero F P step s here Q k = k s here
times_safe (suc n) F P step s here Q k = step s here (λ r. Times n F r Q) (λ t there. times_safe n F P step t there Q k)

mutual
  action_safe : (e : Setting) (p : Place) (line : ℕ) (a : Action) (q : Place) → judged_action e p line a ≡ Reaches q → Covered p.names → (s : Store) (Q : Store → Type 0) → Stands p s → ((r : Store) → Stands q r → Q r) → SafeAction e s a Q
  action_safe e p line (If' x body otherwise) q h covered s Q here k =
      let n = p.names in
      let l = p.lock in
      let u = unless_reaches line (broken_by (row_of e l n (If' x body otherwise))) _ q h in
      let may = (both_none (doubtful (n.state x)) None u.0).0 in
      let known = put n x (non_null (n.state x)) in
      let first = then_reaches (judged_block e (at known l) body) _ q u.1 in
      let spent = put (back_to n first.0.names) x Spent in
      let other = then_reaches (judged_else e (at spent l) otherwise) (after_if (last_line body otherwise) l first.0.names) q first.2 in
      let v = unless_reaches (last_line body otherwise) (need (not (branches_clash first.0.names other.0.names)) rule.BranchesAgree) (Reaches (at (joined first.0.names other.0.names) l)) q other.2 in
      let known_covered : Covered known = (put_grows n x (non_null (n.state x))).covers covered in
      let g = block_grows e (at known l) body first.0 first.1 in
      let whole = grows_on n known first.0.names (put_grows n x (non_null (n.state x))) g in
      let spent_covered : Covered spent = (put_grows (back_to n first.0.names) x Spent).covers ((back_grows n first.0.names whole).covers covered) in
      let d = grows_on (back_to n first.0.names) spent other.0.names (put_grows (back_to n first.0.names) x Spent) (else_grows e (at spent l) otherwise other.0 other.1) in
      let clash = no_clash first.0.names other.0.names d.more d.met (g.covers known_covered) (d.covers ((back_grows n first.0.names whole).covers covered)) (not_met (branches_clash first.0.names other.0.names) rule.BranchesAgree v.0) in
      let end = same_place (at (joined first.0.names other.0.names) l) q v.1 in
      let after_first : (r : Store) → Stands first.0 r → Q r = λ r there. k r (stands_as (at (joined first.0.names other.0.names) l) q r end (record { values = λ y. fits_joined_first (first.0.names.state y) (other.0.names.state y) (r.value y) (clash y) (there.values y); lock = there.lock ∙ block_lock e (at known l) body first.0 first.1 })) in
      let after_other : (r : Store) → Stands other.0 r → Q r = λ r there. k r (stands_as (at (joined first.0.names other.0.names) l) q r end (record { values = λ y. fits_joined_second (first.0.names.state y) (other.0.names.state y) (r.value y) (clash y) (there.values y); lock = there.lock ∙ else_lock e (at spent l) otherwise other.0 other.1 })) in (
        λ null. else_safe e (at spent l) otherwise other.0 other.1 spent_covered s Q (stands_known (back_to n first.0.names) l s x Spent (ap is_owning null) (record { values = here.values; lock = here.lock })) after_other,
        λ t refers. block_safe e (at known l) body first.0 first.1 known_covered s Q (stands_known n l s x (non_null (n.state x)) (fits_non_null (n.state x) (s.value x) t refers (here.values x)) here) after_first,
        null_or_not (n.state x) (s.value x) may (here.values x),
      )
  action_safe e p line (Repeat count body) q h covered s Q here k =
      let t = then_reaches (judged_block e p body) (after_repeat (end_line body) p.lock p.names) q h in
      let u = unless_reaches (end_line body) (need (not (body_changes p.names t.0.names)) rule.RepeatAgrees) (Reaches (at (repeated p.names t.0.names) p.lock)) q t.2 in
      let g = block_grows e p body t.0 t.1 in
      let agree = all_agree p.names t.0.names g.more g.met covered (g.covers covered) (not_met (body_changes p.names t.0.names) rule.RepeatAgrees u.0) in
      let end = same_place (at (repeated p.names t.0.names) p.lock) q u.1 in
      times_safe count (λ r. SafeBlock e r body) (Stands p)
      (λ r there R next. block_safe e p body t.0 t.1 covered r R there (λ w after. next w (record { values = λ y. fits_start (p.names.state y) (t.0.names.state y) (w.value y) (agree y) (after.values y); lock = after.lock ∙ block_lock e p body t.0 t.1 })))
      s here Q
      (λ w there. k w (stands_as (at (repeated p.names t.0.names) p.lock) q w end (record { values = λ y. fits_repeated (p.names.state y) (t.0.names.state y) (w.value y) (agree y) (there.values y); lock = there.lock })))
  action_safe e p line (Section body) q h covered s Q here k = block_safe e p body q h covered s Q here k
  action_safe e p line a q h covered s Q here k =
      let w = statement_reaches line p.lock a (row_of e p.lock p.names a) q h in
      plain_safe e p.names p.lock a tt s Q here w.0 (λ r there. k r (stands_as (at (names_after (row_of e p.lock p.names a)) (lock_after p.lock a)) q r w.1 there))

  else_safe : (e : Setting) (p : Place) (o : Held-Action-If-2) (q : Place) → judged_else e p o ≡ Reaches q → Covered p.names → (s : Store) (Q : Store → Type 0) → Stands p s → ((r : Store) → Stands q r → Q r) → SafeElse e s o Q
  else_safe e p None' q h covered s Q here k = k s (stands_as p q s (same_place p q h) here)
  else_safe e p (Some' body) q h covered s Q here k = block_safe e p body q h covered s Q here k

  block_safe : (e : Setting) (p : Place) (b : Block) (q : Place) → judged_block e p b ≡ Reaches q → Covered p.names → (s : Store) (Q : Store → Type 0) → Stands p s → ((r : Store) → Stands q r → Q r) → SafeBlock e s b Q
  block_safe e p (Block' shape row line) q h covered s Q here k =
      let inside = at p.names (from_inside p.lock) in
      let t = then_reaches (judged_row e inside row) _ q h in
      let u = unless_reaches line (given_back t.0.lock) (Reaches (at t.0.names p.lock)) q t.2 in
      let back = lock_at_end p.lock t.0.lock (row_lock e inside row t.0 p.lock t.1 (inl refl)) u.0 in
      row_safe e inside row t.0 t.1 covered (with_lock s (from_inside s.lock)) (λ r. (r.lock ≡ from_inside s.lock) × Q (with_lock r s.lock))
      (record { values = here.values; lock = ap from_inside here.lock })
      (λ r there. (there.lock ∙ (back ∙ ap from_inside (sym here.lock)), k (with_lock r s.lock) (stands_as (at t.0.names p.lock) q (with_lock r s.lock) (same_place (at t.0.names p.lock) q u.1) (record { values = there.values; lock = here.lock }))))

  row_safe : (e : Setting) (p : Place) {m : _} (row : Row_of-Statement m) (q : Place) → judged_row e p row ≡ Reaches q → Covered p.names → (s : Store) (Q : Store → Type 0) → Stands p s → ((r : Store) → Stands q r → Q r) → SafeRow e s row Q
  row_safe e p end_of-Statement q h covered s Q here k = k s (stands_as p q s (same_place p q h) here)
  row_safe e p (more_of-Statement line action rest) q h covered s Q here k =
      let t = then_reaches (judged_action e p line action) (λ r. judged_row e r rest) q h in
      action_safe e p line action t.0 t.1 covered s (λ r. SafeRow e r rest Q) here (λ r there. row_safe e t.0 rest q t.2 ((action_grows e p line action t.0 t.1).covers covered) r Q there k)

reached_of : (o : Outcome) → broken_rule o ≡ None → (q : Place) × (o ≡ Reaches q)
reached_of (Broken line r) h = cc
reached_of (Reaches q) h = (q, refl)

pub accepted_is_safe : AcceptedIsSafe
accepted_is_safe scenario script accepted =
    let e = setting_of scenario script.kind in
    let begun = at no_names Nothing in
    let o = reached_of (judged_script scenario script) accepted in
    let t = then_reaches (judged_block e begun script.body) _ o.0 o.1 in
    let u = unless_reaches (end_line script.body) (need (not (owns_some t.0.names)) rule.NothingOwned) (Reaches t.0) o.0 t.2 in
    let none = not_met (owns_some t.0.names) rule.NothingOwned u.0 in
    let covered : Covered t.0.names = (block_grows e begun script.body t.0 t.1).covers (λ x missing. refl) in
    let owns_no = owns_nowhere t.0.names none covered in
    block_safe e begun script.body t.0 t.1 (λ x missing. refl) empty_store OwnsNothing (record { values = λ x. refl; lock = refl })
    (λ r there. record { values = λ x. not_owned (t.0.names.state x) (r.value x) (owns_no x) (there.values x); lock = there.lock ∙ block_lock e begun script.body t.0 t.1 })
  where
    owns_nowhere : (n : Names) → owns_some n ≡ false → Covered n → (x : List ℕ) → owns (n.state x) ≡ false
    owns_nowhere n h covered x = elim (is_or_not (list_any (bytes_eq x) n.met)) [
      | inl among ↦ nowhere (λ y. owns (n.state y)) n.met h x among
      | inr missing ↦ ap owns (covered x missing)
    ]

pub states_are_right : StatesAreRight
states_are_right e p line a q h covered s here = action_safe e p line a q h covered s (Stands q) here (λ r there. there)
