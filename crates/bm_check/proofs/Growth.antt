-- Along a text the names that were met grow at their end, and those that weren't met stay unbound.
use Rattle.std.proofs.Common.{◌≡◌, ℕ, true, false, not, List, [], ◌∷◌, ◌++◌, refl, sym, ap, ◌∙◌, subst, inl, inr, Option, Some, None, append_assoc}
use Rattle.std.specs.List.{list_any}
use Rattle.std.specs.Str.{bytes_eq}
use Rattle.std.proofs.lemmas.List.Folds.{list_any-append}
use Rattle.bm_lang.specs.declared.scenario.Action.{Action, Drop, Exchange, If', Repeat, Section, Unlock, PushFront, PushBack, PopFront, PopBack, Add, Remove, Held-Action-If-2, None', Some'}
use Rattle.bm_lang.specs.declared.scenario.Block.{Block, Block', Row_of-Statement, end_of-Statement, more_of-Statement}
use Rattle.bm_check.specs.declared.name_state.NameState.{NameState}
use Rattle.bm_check.specs.declared.name_state.NameState.TheVariants.{Unbound, Spent}
use Rattle.bm_check.specs.declared.name_state.HeldLock.{HeldLock}
use Rattle.bm_check.specs.declared.rule.Rule.{Rule}
use Rattle.bm_check.specs.declared.rule.Rule.TheVariants as rule
use Rattle.bm_check.specs.NameStates.{soft_spent, non_null}
use Rattle.bm_check.specs.Names.{Names, Covered, put, with_name, soft_ended, back_to, branches_clash, joined, body_changes, repeated}
use Rattle.bm_check.specs.Statements.{Setting, Row, Binding, row_of, with_binding, names_after, broken_by, lock_after, pushed, need}
use Rattle.bm_check.specs.Blocks.{Place, at, Outcome, Broken, Reaches, and_then, unless_broken, after_if, after_repeat, after_statement, from_inside, given_back, judged_action, judged_else, judged_block, judged_row, last_line, end_line}
use Rattle.bm_check.proofs.TableLemmas.{is_or_not, same_word, word_is_itself}

pub record Grows (n m : Names) : Type 0 where
  pub more : List (List ℕ)
  pub met : m.met ≡ n.met ++ more
  pub covers : Covered n → Covered m

append-nil : (xs : List (List ℕ)) → xs ++ [] ≡ xs
append-nil [] = refl
append-nil (x ∷ xs) = ap (λ ys. x ∷ ys) (append-nil xs)

pub stays : (n : Names) → Grows n n
stays n = record { more = []; met = sym (append-nil n.met); covers = λ h. h }

pub grows_on : (n m k : Names) → Grows n m → Grows m k → Grows n k
grows_on n m k g h = record { more = g.more ++ h.more; met = h.met ∙ (ap (λ xs. xs ++ h.more) g.met ∙ append_assoc n.met g.more h.more); covers = λ c. h.covers (g.covers c) }

-- not in a list with an end, so in neither part
pub not_front : (x : List ℕ) (xs ys : List (List ℕ)) → list_any (bytes_eq x) (xs ++ ys) ≡ false → list_any (bytes_eq x) xs ≡ false
not_front x xs ys isnt = elim (is_or_not (list_any (bytes_eq x) xs)) [
  | inl isit ↦ (let h : true ≡ false = rw (list_any-append (bytes_eq x) xs ys, isit) at isnt in cc)
  | inr h ↦ h
]

put_met : (met : List (List ℕ)) (x : List ℕ) → (more : List (List ℕ)) × (with_name met x ≡ met ++ more)
put_met met x = elim (is_or_not (list_any (bytes_eq x) met)) [
  | inl isit ↦ ([], rw isit (sym (append-nil met)))
  | inr isnt ↦ (x ∷ [], rw isnt refl)
]

pub put_has : (met : List (List ℕ)) (x : List ℕ) → list_any (bytes_eq x) (with_name met x) ≡ true
put_has met x = elim (is_or_not (list_any (bytes_eq x) met)) [
  | inl isit ↦ rw isit isit
  | inr isnt ↦ rw isnt (rw (list_any-append (bytes_eq x) met (x ∷ []), isnt, word_is_itself x) refl)
]

pub put_grows : (n : Names) (x : List ℕ) (s : NameState) → Grows n (put n x s)
put_grows n x s = record { more = (put_met n.met x).0; met = (put_met n.met x).1; covers = covered }
  where
    covered : Covered n → Covered (put n x s)
    covered c y missing = elim (is_or_not (bytes_eq x y)) [
      | inl isit ↦ (let e : x ≡ y = same_word x y isit in let h : list_any (bytes_eq x) (with_name n.met x) ≡ false = rw (← e) at missing in let t : list_any (bytes_eq x) (with_name n.met x) ≡ true = put_has n.met x in absurd (let f : true ≡ false = sym t ∙ h in cc))
      | inr isnt ↦ rw isnt (c y (not_front y n.met (put_met n.met x).0 (rw ((put_met n.met x).1) at missing)))
    ]

pub soft_grows : (n : Names) → Grows n (soft_ended n)
soft_grows n = record { more = []; met = sym (append-nil n.met); covers = λ c x missing. ap soft_spent (c x missing) }

binding_grows : (n : Names) (b : Option Binding) → Grows n (with_binding n b)
binding_grows n None = stays n
binding_grows n (Some b) = put_grows n b.name b.state

-- a row of the table spends by one of these and binds at most one name
with_grown : (n m : Names) (b : Option Binding) → Grows n m → Grows n (with_binding m b)
with_grown n m b g = grows_on n m (with_binding m b) g (binding_grows m b)

pub row_grows : (e : Setting) (l : HeldLock) (n : Names) (a : Action) → Grows n (names_after (row_of e l n a))
row_grows e l n (Drop x) = put_grows n x Spent
row_grows e l n (Exchange y s (Some x)) = with_grown n (put n x Spent) (row_of e l n (Exchange y s (Some x))).bound (put_grows n x Spent)
row_grows e l n (Exchange y s None) = binding_grows n (row_of e l n (Exchange y s None)).bound
row_grows e l n (PushFront q x) = put_grows n x (pushed e q (n.state x))
row_grows e l n (PushBack q x) = put_grows n x (pushed e q (n.state x))
row_grows e l n (Add q x) = put_grows n x (pushed e q (n.state x))
row_grows e l n (PopFront x q) = with_grown n (soft_ended n) (row_of e l n (PopFront x q)).bound (soft_grows n)
row_grows e l n (PopBack x q) = with_grown n (soft_ended n) (row_of e l n (PopBack x q)).bound (soft_grows n)
row_grows e l n (Remove y t x) = with_grown n (soft_ended n) (row_of e l n (Remove y t x)).bound (soft_grows n)
row_grows e l n Unlock = soft_grows n
row_grows e l n a = binding_grows n (row_of e l n a).bound

-- a judgement that reaches a place
pub unless_reaches : (line : ℕ) (r : Option Rule) (o : Outcome) (q : Place) → unless_broken line r o ≡ Reaches q → (r ≡ None) × (o ≡ Reaches q)
unless_reaches line None o q h = (refl, h)
unless_reaches line (Some r) o q h = cc

pub then_reaches : (o : Outcome) (f : Place → Outcome) (q : Place) → and_then o f ≡ Reaches q → (p : Place) × (o ≡ Reaches p) × (f p ≡ Reaches q)
then_reaches (Broken line r) f q h = cc
then_reaches (Reaches p) f q h = (p, refl, h)

pub same_place : (p q : Place) → Reaches p ≡ Reaches q → p ≡ q
same_place p q h = cc

pub statement_reaches : (line : ℕ) (l : HeldLock) (a : Action) (r : Row) (q : Place) → after_statement line l a r ≡ Reaches q → (broken_by r ≡ None) × (at (names_after r) (lock_after l a) ≡ q)
statement_reaches line l a r q h = let u = unless_reaches line (broken_by r) (Reaches (at (names_after r) (lock_after l a))) q h in (u.0, same_place _ q u.1)

reached : (n m : Names) (l : HeldLock) (q : Place) → Grows n m → at m l ≡ q → Grows n q.names
reached n m l q g h = subst (λ (p : Place). Grows n p.names) h g

-- the states of an earlier place, behind a later text
pub back_grows : (n later : Names) → Grows n later → Grows n (back_to n later)
back_grows n later g = record { more = g.more; met = g.met; covers = λ c x missing. c x (not_front x n.met g.more (rw g.met at missing)) }

repeat_grows : (n m : Names) → Grows n m → Grows n (repeated n m)
repeat_grows n m g = record { more = g.more; met = g.met; covers = covered }
  where
    covered : Covered n → Covered (repeated n m)
    covered c x missing =
        let start : n.state x ≡ Unbound = c x (not_front x n.met g.more (rw g.met at missing)) in
        let end : m.state x ≡ Unbound = g.covers c x missing in
        rw (start, end) refl

if_grows : (n first second : Names) (x : List ℕ) (s : NameState) → Grows (put n x s) first → Grows (put (back_to n first) x Spent) second → Grows n (joined first second)
if_grows n first second x s g h = record { more = whole.more; met = whole.met; covers = covered }
  where
    one : Grows n first
    one = grows_on n (put n x s) first (put_grows n x s) g

    other : Grows (back_to n first) second
    other = grows_on (back_to n first) (put (back_to n first) x Spent) second (put_grows (back_to n first) x Spent) h

    whole : Grows n second
    whole = grows_on n (back_to n first) second (back_grows n first one) other

    covered : Covered n → Covered (joined first second)
    covered c y missing =
        let start : first.state y ≡ Unbound = one.covers c y (not_front y first.met other.more (rw other.met at missing)) in
        let end : second.state y ≡ Unbound = whole.covers c y missing in
        rw (start, end) refl

mutual
  pub action_grows : (e : Setting) (p : Place) (line : ℕ) (a : Action) (q : Place) → judged_action e p line a ≡ Reaches q → Grows p.names q.names
  action_grows e p line (If' x body otherwise) q h =
      let n = p.names in
      let u = unless_reaches line (broken_by (row_of e p.lock n (If' x body otherwise))) _ q h in
      let first = then_reaches (judged_block e (at (put n x (non_null (n.state x))) p.lock) body) _ q u.1 in
      let other = then_reaches (judged_else e (at (put (back_to n first.0.names) x Spent) p.lock) otherwise) (after_if (last_line body otherwise) p.lock first.0.names) q first.2 in
      let v = unless_reaches (last_line body otherwise) (need (not (branches_clash first.0.names other.0.names)) rule.BranchesAgree) (Reaches (at (joined first.0.names other.0.names) p.lock)) q other.2 in
      reached n (joined first.0.names other.0.names) p.lock q
      (if_grows n first.0.names other.0.names x (non_null (n.state x))
      (block_grows e (at (put n x (non_null (n.state x))) p.lock) body first.0 first.1)
      (else_grows e (at (put (back_to n first.0.names) x Spent) p.lock) otherwise other.0 other.1))
      (same_place _ q v.1)
  action_grows e p line (Repeat count body) q h =
      let t = then_reaches (judged_block e p body) (after_repeat (end_line body) p.lock p.names) q h in
      let u = unless_reaches (end_line body) (need (not (body_changes p.names t.0.names)) rule.RepeatAgrees) (Reaches (at (repeated p.names t.0.names) p.lock)) q t.2 in
      reached p.names (repeated p.names t.0.names) p.lock q (repeat_grows p.names t.0.names (block_grows e p body t.0 t.1)) (same_place _ q u.1)
  action_grows e p line (Section body) q h = block_grows e p body q h
  action_grows e p line a q h = let r = row_of e p.lock p.names a in let s = statement_reaches line p.lock a r q h in reached p.names (names_after r) (lock_after p.lock a) q (row_grows e p.lock p.names a) s.1

  pub else_grows : (e : Setting) (p : Place) (o : Held-Action-If-2) (q : Place) → judged_else e p o ≡ Reaches q → Grows p.names q.names
  else_grows e p None' q h = subst (λ (r : Place). Grows p.names r.names) (same_place p q h) (stays p.names)
  else_grows e p (Some' body) q h = block_grows e p body q h

  pub block_grows : (e : Setting) (p : Place) (b : Block) (q : Place) → judged_block e p b ≡ Reaches q → Grows p.names q.names
  block_grows e p (Block' shape row line) q h =
      let t = then_reaches (judged_row e (at p.names (from_inside p.lock)) row) _ q h in
      let u = unless_reaches line (given_back t.0.lock) (Reaches (at t.0.names p.lock)) q t.2 in
      reached p.names t.0.names p.lock q (row_of_grows e (at p.names (from_inside p.lock)) row t.0 t.1) (same_place _ q u.1)

  pub row_of_grows : (e : Setting) (p : Place) {m : _} (row : Row_of-Statement m) (q : Place) → judged_row e p row ≡ Reaches q → Grows p.names q.names
  row_of_grows e p end_of-Statement q h = subst (λ (r : Place). Grows p.names r.names) (same_place p q h) (stays p.names)
  row_of_grows e p (more_of-Statement line action rest) q h =
      let t = then_reaches (judged_action e p line action) (λ r. judged_row e r rest) q h in
      grows_on p.names t.0.names q.names (action_grows e p line action t.0 t.1) (row_of_grows e t.0 rest q t.2)
