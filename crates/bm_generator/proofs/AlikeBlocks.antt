-- Blocks that say the same, lines apart, cost the same and are judged alike.
use Rattle.std.proofs.Common.{◌≡◌, ℕ, ◌+◌, ◌*◌, ◌-◌, ◌==◌, Bool, true, false, not, List, [], ◌∷◌, length, refl, ap, ap₂, ◌∙◌, subst, Option, Some, None}
use Rattle.std.specs.Prelude.{max, is_some, slice_get, IsSomeAnd, if◌then◌else◌}
use Rattle.std.specs.Option.{option_or, option_map_or}
use mathlib.Core.Former.{Count}
use Rattle.bm_lang.specs.declared.keyword.Keyword.TheVariants as word
use Rattle.bm_lang.specs.declared.names.MapNeed.{MapNeed}
use Rattle.bm_lang.specs.declared.names.MapNeed.TheVariants as need
use Rattle.bm_lang.specs.declared.scenario.Action.{Action, New, Drop, Acquire, Get, Exchange, If', Repeat, Section, Lock, Unlock, Yield, PushFront, PushBack, PopFront, PopBack, Add, First, Remove, Held-Action-If-2, None', Some'}
use Rattle.bm_lang.specs.declared.scenario.Block.{Block, Block', Row_of-Statement, end_of-Statement, more_of-Statement}
use Rattle.bm_lang.specs.declared.scenario.ScriptKind.{ScriptKind}
use Rattle.bm_lang.specs.declared.scenario.TypeId.{TypeId}
use Rattle.bm_lang.specs.declared.scenario.MapId.{MapId}
use Rattle.bm_lang.specs.Keywords.{keyword_eq}
use Rattle.bm_lang.specs.Tokens.{Sort, Open, Close, Number, Reserved, Name, End, Wrong}
use Rattle.bm_lang.specs.Names.{TypeForm, MapForm, fits}
use Rattle.bm_lang.specs.Grammar.{is_close}
use Rattle.bm_lang.specs.Spelling.{name_or_null, type_name, map_name}
use Rattle.bm_lang.specs.Limits.{action_cost, else_cost, block_cost, row_cost}
use Rattle.bm_lang.specs.Fine.{IsMap, FineAction, FineElse, FineBlock, FineRow}
use Rattle.bm_check.specs.declared.name_state.NameState.TheVariants.{Spent, Maybe, Owned, Soft, MaybeSoft}
use Rattle.bm_check.specs.declared.name_state.HeldLock.{HeldLock}
use Rattle.bm_check.specs.declared.rule.Rule.{Rule}
use Rattle.bm_check.specs.declared.rule.Rule.TheVariants as rule
use Rattle.bm_check.specs.NameStates.{type_in, non_null}
use Rattle.bm_check.specs.Names.{Names, put, soft_ended, back_to, branches_clash, joined, body_changes, repeated}
use Rattle.bm_check.specs.Statements.{Setting, Row, row, row_of, pushes, pops, type_of_map, is_counted, has_field, is_handler, no_second_lock, under_lock_of, outside_locks, owning, reading, non_owning, doubtful, binds_of, need as needs, broken_by, names_after, lock_after}
use Rattle.bm_check.specs.Blocks.{Place, at, Outcome, Broken, Reaches, and_then, unless_broken, from_inside, given_back, end_line, last_line, after_if, after_repeat, after_statement, judged_action, judged_else, judged_block, judged_row}
use Rattle.bm_generator.proofs.WordSorts.{say_numbers, say_action, say_else, say_block, say_row}

-- ---- two settings, of which the judgement asks the same

abbrev pub IsIn : {A : Type 0} → List A → ℕ → Type 0
IsIn xs i = is_some (slice_get xs i) ≡ true

-- Two settings that answer alike, in which things are spelled by the names of these types and maps.
pub record Around : Type 0 where
  pub types : List TypeForm
  pub maps : List MapForm
  pub here : Setting
  pub there : Setting
  pub counted : is_counted here ≡ is_counted there
  pub fields : (f : List ℕ) → has_field here f ≡ has_field there f
  pub held : (g : MapId) → type_of_map here g ≡ type_of_map there g
  pub kind : here.kind ≡ there.kind
  pub type_ids : (i j : ℕ) → IsIn types i → IsIn types j → type_name types i ≡ type_name types j → i ≡ j
  pub map_ids : (i j : ℕ) → IsIn maps i → IsIn maps j → map_name maps i ≡ map_name maps j → i ≡ j

pub is_in : {A : Type 0} (P : A → Type 0) (o : Option A) → IsSomeAnd o P → is_some o ≡ true
is_in P None h = absurd h
is_in P (Some x) h = refl

same_type : (z : Around) (t u : TypeId) (P Q : TypeForm → Type 0) → IsSomeAnd (slice_get z.types t.0) P → IsSomeAnd (slice_get z.types u.0) Q → type_name z.types t.0 ≡ type_name z.types u.0 → t ≡ u
same_type z t u P Q h k e =
    ap (λ (i : ℕ). let r : TypeId = record { 0 = i } in r) (z.type_ids t.0 u.0 (is_in P (slice_get z.types t.0) h) (is_in Q (slice_get z.types u.0) k) e)

same_map : (z : Around) (n : MapNeed) (g h : MapId) → IsMap z.maps n g.0 → IsMap z.maps n h.0 → map_name z.maps g.0 ≡ map_name z.maps h.0 → g ≡ h
same_map z n g h p q e =
    let P : MapForm → Type 0 = λ m. fits n m.kind ≡ true in
    ap (λ (i : ℕ). let r : MapId = record { 0 = i } in r) (z.map_ids g.0 h.0 (is_in P (slice_get z.maps g.0) p) (is_in P (slice_get z.maps h.0) q) e)

pushes_same : (z : Around) (l : HeldLock) (n : Names) (g : MapId) (x : List ℕ) → pushes z.here l n g x ≡ pushes z.there l n g x
pushes_same z l n g x =
    ap₂ (λ (c : TypeId → Bool) (o : Option TypeId). row (option_or (under_lock_of g l) (owning (λ t. option_map_or (λ (u : TypeId). u.0 == t.0) o false) (n.state x))) (put n x (option_map_or (λ t. if c t then Spent else Soft t g) (type_in (n.state x)) Spent)) None)
    z.counted (z.held g)

pops_same : (z : Around) (l : HeldLock) (n : Names) (x : List ℕ) (g : MapId) → pops z.here l n x g ≡ pops z.there l n x g
pops_same z l n x g = ap (λ (o : Option TypeId). row (option_or (under_lock_of g l) (needs (is_some o) rule.RightKind)) (soft_ended n) (binds_of x o Maybe)) (z.held g)

row_same : (z : Around) (l : HeldLock) (n : Names) (a : Action) → row_of z.here l n a ≡ row_of z.there l n a
row_same z l n (Acquire y x) = ap (λ (c : TypeId → Bool). row (owning c (n.state x)) n (binds_of y (type_in (n.state x)) Owned)) z.counted
row_same z l n (Get x f) = ap (λ (c : TypeId → Bool). row (reading c (n.state x)) n None) (z.fields f)
row_same z l n (Exchange y s (Some x)) = ap (λ (o : Option TypeId). row (option_or (outside_locks l) (owning (λ t. option_map_or (λ (u : TypeId). u.0 == t.0) o false) (n.state x))) (put n x Spent) (binds_of y o Maybe)) (z.held s)
row_same z l n (Exchange y s None) = ap (λ (o : Option TypeId). row (option_or (outside_locks l) (needs (is_some o) rule.RightKind)) n (binds_of y o Maybe)) (z.held s)
row_same z l n (PushFront q x) = pushes_same z l n q x
row_same z l n (PushBack q x) = pushes_same z l n q x
row_same z l n (Add t x) = pushes_same z l n t x
row_same z l n (PopFront x q) = pops_same z l n x q
row_same z l n (PopBack x q) = pops_same z l n x q
row_same z l n (First x t) = ap (λ (o : Option TypeId). row (option_or (under_lock_of t l) (needs (is_some o) rule.RightKind)) n (binds_of x o (λ u. MaybeSoft u t))) (z.held t)
row_same z l n (Remove y t x) = ap (λ (o : Option TypeId). row (option_or (under_lock_of t l) (option_or (non_owning t (n.state x)) (needs (is_some o) rule.RightKind))) (soft_ended n) (binds_of y o Maybe)) (z.held t)
row_same z l n (Lock g) = ap (λ (k : ScriptKind). row (option_or (needs (not (is_handler k)) rule.NotInHandler) (no_second_lock l)) n None) z.kind
row_same z l n Yield = ap (λ (k : ScriptKind). row (option_or (needs (not (is_handler k)) rule.NotInHandler) (outside_locks l)) n None) z.kind
row_same z l n a = refl

-- ---- outcomes without the lines of broken rules

abbrev pub reached : Outcome → Option Place
reached (Broken line r) = None
reached (Reaches p) = Some p

pub unless_alike : (l m : ℕ) (r : Option Rule) (o u : Outcome) → reached o ≡ reached u → reached (unless_broken l r o) ≡ reached (unless_broken m r u)
unless_alike l m None o u h = h
unless_alike l m (Some r) o u h = refl

reached_unless : (l m : ℕ) (r : Option Rule) (o : Outcome) → reached (unless_broken l r o) ≡ reached (unless_broken m r o)
reached_unless l m r o = unless_alike l m r o o refl

pub then_alike : (o u : Outcome) (f g : Place → Outcome) → reached o ≡ reached u → ((p : Place) → reached (f p) ≡ reached (g p)) → reached (and_then o f) ≡ reached (and_then u g)
then_alike (Broken l r) (Broken m s) f g h k = refl
then_alike (Broken l r) (Reaches q) f g h k = cc
then_alike (Reaches p) (Broken m s) f g h k = cc
then_alike (Reaches p) (Reaches q) f g h k = let e : p ≡ q = cc in k p ∙ ap (λ (v : Place). reached (g v)) e

statement_alike : (l m : ℕ) (lock : HeldLock) (a : Action) (r q : Row) → r ≡ q → reached (after_statement l lock a r) ≡ reached (after_statement m lock a q)
statement_alike l m lock a r q e = reached_unless l m (broken_by r) (Reaches (at (names_after r) (lock_after lock a))) ∙ ap (λ (v : Row). reached (after_statement m lock a v)) e

-- ---- statements without blocks

pub record AlikeActions (z : Around) (a b : Action) : Type 0 where
  pub cost : action_cost a ≡ action_cost b
  pub judged : (p : Place) (l m : ℕ) → reached (judged_action z.here p l a) ≡ reached (judged_action z.there p m b)

pub record AlikeElses (z : Around) (a b : Held-Action-If-2) : Type 0 where
  pub cost : else_cost a ≡ else_cost b
  pub judged : (p : Place) → reached (judged_else z.here p a) ≡ reached (judged_else z.there p b)

pub record AlikeBlocks (z : Around) (a b : Block) : Type 0 where
  pub cost : block_cost a ≡ block_cost b
  pub judged : (p : Place) → reached (judged_block z.here p a) ≡ reached (judged_block z.there p b)

record AlikeRows (z : Around) (n m : Count) (a : Row_of-Statement n) (b : Row_of-Statement m) : Type 0 where
  cost : row_cost a ≡ row_cost b
  judged : (p : Place) → reached (judged_row z.here p a) ≡ reached (judged_row z.there p b)

abbrev is_plain : Action → Bool
is_plain (If' x body otherwise) = false
is_plain (Repeat n body) = false
is_plain (Section body) = false
is_plain a = true

itself : (z : Around) (a : Action) → is_plain a ≡ true → AlikeActions z a a
itself z (If' x body otherwise) h = cc
itself z (Repeat n body) h = cc
itself z (Section body) h = cc
itself z a h = record { cost = refl; judged = λ p l m. statement_alike l m p.lock a (row_of z.here p.lock p.names a) (row_of z.there p.lock p.names a) (row_same z p.lock p.names a) }

plain : (z : Around) (a b : Action) (xs ys : List Sort) → is_plain a ≡ true → a ≡ b → xs ≡ ys → AlikeActions z a b × (xs ≡ ys)
plain z a b xs ys h e r = (subst (λ (c : Action). AlikeActions z a c) e (itself z a h), r)

-- ---- statements with blocks

if_alike : (z : Around) (x : List ℕ) (a b : Block) (c d : Held-Action-If-2) → AlikeBlocks z a b → AlikeElses z c d → AlikeActions z (If' x a c) (If' x b d)
if_alike z x a b c d first other = record {
  cost = ap₂ (λ (i j : ℕ). 1 + max i j) first.cost other.cost;
  judged = λ p l m.
      let known = at (put p.names x (non_null (p.names.state x))) p.lock in
      let spent : Place → Place = λ q. at (put (back_to p.names q.names) x Spent) p.lock in
      let f : Place → Outcome = λ q. and_then (judged_else z.here (spent q) c) (after_if (last_line a c) p.lock q.names) in
      let g : Place → Outcome = λ q. and_then (judged_else z.there (spent q) d) (after_if (last_line b d) p.lock q.names) in
      unless_alike l m (broken_by (row (doubtful (p.names.state x)) p.names None)) (and_then (judged_block z.here known a) f) (and_then (judged_block z.there known b) g)
      (then_alike (judged_block z.here known a) (judged_block z.there known b) f g (first.judged known)
      (λ q. then_alike (judged_else z.here (spent q) c) (judged_else z.there (spent q) d) (after_if (last_line a c) p.lock q.names) (after_if (last_line b d) p.lock q.names) (other.judged (spent q))
      (λ r. reached_unless (last_line a c) (last_line b d) (needs (not (branches_clash q.names r.names)) rule.BranchesAgree) (Reaches (at (joined q.names r.names) p.lock)))));
}

repeat_alike : (z : Around) (n : ℕ) (a b : Block) → AlikeBlocks z a b → AlikeActions z (Repeat n a) (Repeat n b)
repeat_alike z n a b body = record {
  cost = ap (λ (i : ℕ). 1 + n * (1 + i)) body.cost;
  judged = λ p l m. then_alike (judged_block z.here p a) (judged_block z.there p b) (after_repeat (end_line a) p.lock p.names) (after_repeat (end_line b) p.lock p.names) (body.judged p)
      (λ q. reached_unless (end_line a) (end_line b) (needs (not (body_changes p.names q.names)) rule.RepeatAgrees) (Reaches (at (repeated p.names q.names) p.lock)));
}

section_alike : (z : Around) (a b : Block) → AlikeBlocks z a b → AlikeActions z (Section a) (Section b)
section_alike z a b body = record { cost = ap (λ (i : ℕ). 1 + i) body.cost; judged = λ p l m. body.judged p }

-- ---- what may come behind a statement: a further one or a closing brace, and no `else`

abbrev pub is_next : Sort → Bool
is_next Close = true
is_next (Reserved w) = not (keyword_eq w word.Else)
is_next Open = false
is_next (Number n) = false
is_next (Name n) = false
is_next End = false
is_next (Wrong why) = false

abbrev pub goes_on : List Sort → Bool
goes_on [] = false
goes_on (s ∷ ss) = is_next s

abbrev closes : List Sort → Bool
closes [] = false
closes (s ∷ ss) = is_close s

action_goes_on : (types : List TypeForm) (maps : List MapForm) (a : Action) (more : List Sort) → (goes_on (say_action types maps a more) ≡ true) × (closes (say_action types maps a more) ≡ false)
action_goes_on types maps (New x t values) more = (refl, refl)
action_goes_on types maps a more = (refl, refl)

row_goes_on : (types : List TypeForm) (maps : List MapForm) (n : Count) (r : Row_of-Statement n) (more : List Sort) → goes_on (say_row types maps r (Close ∷ more)) ≡ true
row_goes_on types maps _ end_of-Statement more = refl
row_goes_on types maps _ (more_of-Statement line a rest) more = (action_goes_on types maps a (say_row types maps rest (Close ∷ more))).0

-- numbers, with something else behind them
pub same_numbers : (ns ms : List ℕ) (xs ys : List Sort) → goes_on xs ≡ true → goes_on ys ≡ true → say_numbers ns xs ≡ say_numbers ms ys → (ns ≡ ms) × (xs ≡ ys)
same_numbers [] [] xs ys f g h = (refl, h)
same_numbers [] (m ∷ ms) xs ys f g h = let e : goes_on xs ≡ false = ap goes_on h in cc
same_numbers (n ∷ ns) [] xs ys f g h = let e : false ≡ goes_on ys = ap goes_on h in cc
same_numbers (n ∷ ns) (m ∷ ms) xs ys f g h =
    let e : n ≡ m = cc in
    let more : say_numbers ns xs ≡ say_numbers ms ys = cc in
    let r = same_numbers ns ms xs ys f g more in
    (ap₂ (λ (i : ℕ) is. i ∷ is) e r.0, r.1)

same_null : (x y : Option (List ℕ)) → (name_or_null x).sort ≡ (name_or_null y).sort → x ≡ y
same_null None None h = refl
same_null None (Some y) h = cc
same_null (Some x) None h = cc
same_null (Some x) (Some y) h = cc

-- ---- what says the same is alike, and so is what stands behind it

mutual
  same_action : (a b : Action) (z : Around) (d : ℕ) (xs ys : List Sort) → FineAction z.types z.maps d a → FineAction z.types z.maps d b → goes_on xs ≡ true → goes_on ys ≡ true
      → say_action z.types z.maps a xs ≡ say_action z.types z.maps b ys → AlikeActions z a b × (xs ≡ ys)
  same_action (New x t vs) (New y u ws) z d xs ys f g p q h =
      let e = same_type z t u (λ k. length vs ≡ length k.fields) (λ k. length ws ≡ length k.fields) f g (cc) in
      let more : say_numbers vs xs ≡ say_numbers ws ys = cc in
      let r = same_numbers vs ws xs ys p q more in
      let v = r.0 in
      plain z (New x t vs) (New y u ws) xs ys refl (cc) r.1
  same_action (Drop x) (Drop y) z d xs ys f g p q h = plain z (Drop x) (Drop y) xs ys refl (cc) (cc)
  same_action (Acquire y x) (Acquire v w) z d xs ys f g p q h = plain z (Acquire y x) (Acquire v w) xs ys refl (cc) (cc)
  same_action (Get x i) (Get y j) z d xs ys f g p q h = plain z (Get x i) (Get y j) xs ys refl (cc) (cc)
  same_action (Exchange y s x) (Exchange v t w) z d xs ys f g p q h =
      let e = same_map z need.Slot s t f g (cc) in
      let o = same_null x w (cc) in
      plain z (Exchange y s x) (Exchange v t w) xs ys refl (cc) (cc)
  same_action (If' x a c) (If' y b e) z d xs ys f g p q h =
      let n : x ≡ y = cc in
      let more : say_block z.types z.maps a (say_else z.types z.maps c xs) ≡ say_block z.types z.maps b (say_else z.types z.maps e ys) = cc in
      let first = same_block a b z d (say_else z.types z.maps c xs) (say_else z.types z.maps e ys) f.0 g.0 more in
      let other = same_else c e z d xs ys f.1 g.1 p q first.1 in
      (subst (λ (m : List ℕ). AlikeActions z (If' x a c) (If' m b e)) n (if_alike z x a b c e first.0 other.0), other.1)
  same_action (Repeat n a) (Repeat m b) z d xs ys f g p q h =
      let e : n ≡ m = cc in
      let more : say_block z.types z.maps a xs ≡ say_block z.types z.maps b ys = cc in
      let body = same_block a b z d xs ys f g more in
      (subst (λ (k : ℕ). AlikeActions z (Repeat n a) (Repeat k b)) e (repeat_alike z n a b body.0), body.1)
  same_action (Section a) (Section b) z d xs ys f g p q h =
      let more : say_block z.types z.maps a xs ≡ say_block z.types z.maps b ys = cc in
      let body = same_block a b z d xs ys f g more in
      (section_alike z a b body.0, body.1)
  same_action (Lock i) (Lock j) z d xs ys f g p q h = let e = same_map z need.Graph i j f g (cc) in plain z (Lock i) (Lock j) xs ys refl (cc) (cc)
  same_action Unlock Unlock z d xs ys f g p q h = plain z Unlock Unlock xs ys refl refl (cc)
  same_action Yield Yield z d xs ys f g p q h = plain z Yield Yield xs ys refl refl (cc)
  same_action (PushFront i x) (PushFront j y) z d xs ys f g p q h = let e = same_map z need.List i j f g (cc) in plain z (PushFront i x) (PushFront j y) xs ys refl (cc) (cc)
  same_action (PushBack i x) (PushBack j y) z d xs ys f g p q h = let e = same_map z need.List i j f g (cc) in plain z (PushBack i x) (PushBack j y) xs ys refl (cc) (cc)
  same_action (PopFront x i) (PopFront y j) z d xs ys f g p q h = let e = same_map z need.List i j f g (cc) in plain z (PopFront x i) (PopFront y j) xs ys refl (cc) (cc)
  same_action (PopBack x i) (PopBack y j) z d xs ys f g p q h = let e = same_map z need.List i j f g (cc) in plain z (PopBack x i) (PopBack y j) xs ys refl (cc) (cc)
  same_action (Add i x) (Add j y) z d xs ys f g p q h = let e = same_map z need.Tree i j f g (cc) in plain z (Add i x) (Add j y) xs ys refl (cc) (cc)
  same_action (First x i) (First y j) z d xs ys f g p q h = let e = same_map z need.Tree i j f g (cc) in plain z (First x i) (First y j) xs ys refl (cc) (cc)
  same_action (Remove v i x) (Remove w j y) z d xs ys f g p q h = let e = same_map z need.Tree i j f g (cc) in plain z (Remove v i x) (Remove w j y) xs ys refl (cc) (cc)
  same_action a b z d xs ys f g p q h = cc

  same_else : (a b : Held-Action-If-2) (z : Around) (d : ℕ) (xs ys : List Sort) → FineElse z.types z.maps d a → FineElse z.types z.maps d b → goes_on xs ≡ true → goes_on ys ≡ true
      → say_else z.types z.maps a xs ≡ say_else z.types z.maps b ys → AlikeElses z a b × (xs ≡ ys)
  same_else None' None' z d xs ys f g p q h = (record { cost = refl; judged = λ r. refl }, h)
  same_else None' (Some' b) z d xs ys f g p q h = let e : goes_on xs ≡ false = ap goes_on h in cc
  same_else (Some' a) None' z d xs ys f g p q h = let e : false ≡ goes_on ys = ap goes_on h in cc
  same_else (Some' a) (Some' b) z d xs ys f g p q h =
      let more : say_block z.types z.maps a xs ≡ say_block z.types z.maps b ys = cc in
      let body = same_block a b z d xs ys f g more in
      (record { cost = body.0.cost; judged = body.0.judged }, body.1)

  pub same_block : (a b : Block) (z : Around) (d : ℕ) (xs ys : List Sort) → FineBlock z.types z.maps d a → FineBlock z.types z.maps d b
      → say_block z.types z.maps a xs ≡ say_block z.types z.maps b ys → AlikeBlocks z a b × (xs ≡ ys)
  same_block (Block' s a i) (Block' t b j) z d xs ys f g h =
      let more : say_row z.types z.maps a (Close ∷ xs) ≡ say_row z.types z.maps b (Close ∷ ys) = cc in
      let r = same_row _ a _ b z (d - 1) xs ys f.1 g.1 more in (
        record {
          cost = r.0.cost;
          judged = λ p.
              let inside = at p.names (from_inside p.lock) in
              let u : Place → Outcome = λ q. unless_broken i (given_back q.lock) (Reaches (at q.names p.lock)) in
              let v : Place → Outcome = λ q. unless_broken j (given_back q.lock) (Reaches (at q.names p.lock)) in
              then_alike (judged_row z.here inside a) (judged_row z.there inside b) u v (r.0.judged inside) (λ q. reached_unless i j (given_back q.lock) (Reaches (at q.names p.lock)));
        },
        r.1,
      )

  same_row : (n : Count) (a : Row_of-Statement n) (m : Count) (b : Row_of-Statement m) (z : Around) (d : ℕ) (xs ys : List Sort) → FineRow z.types z.maps d a → FineRow z.types z.maps d b
      → say_row z.types z.maps a (Close ∷ xs) ≡ say_row z.types z.maps b (Close ∷ ys) → AlikeRows z n m a b × (xs ≡ ys)
  same_row _ end_of-Statement _ end_of-Statement z d xs ys f g h = (record { cost = refl; judged = λ p. refl }, cc)
  same_row _ end_of-Statement _ (more_of-Statement j b bs) z d xs ys f g h =
      let e : true ≡ closes (say_action z.types z.maps b (say_row z.types z.maps bs (Close ∷ ys))) = ap closes h in
      let k = (action_goes_on z.types z.maps b (say_row z.types z.maps bs (Close ∷ ys))).1 in
      cc
  same_row _ (more_of-Statement i a rs) _ end_of-Statement z d xs ys f g h =
      let e : closes (say_action z.types z.maps a (say_row z.types z.maps rs (Close ∷ xs))) ≡ true = ap closes h in
      let k = (action_goes_on z.types z.maps a (say_row z.types z.maps rs (Close ∷ xs))).1 in
      cc
  same_row _ (more_of-Statement i a rs) _ (more_of-Statement j b bs) z d xs ys f g h =
      let x = say_row z.types z.maps rs (Close ∷ xs) in
      let y = say_row z.types z.maps bs (Close ∷ ys) in
      let first = same_action a b z d x y f.0 g.0 (row_goes_on z.types z.maps _ rs xs) (row_goes_on z.types z.maps _ bs ys) h in
      let rest = same_row _ rs _ bs z d xs ys f.1 g.1 first.1 in (
        record {
          cost = ap₂ (λ (i j : ℕ). i + j) first.0.cost rest.0.cost;
          judged = λ p. then_alike (judged_action z.here p i a) (judged_action z.there p j b) (λ q. judged_row z.here q rs) (λ q. judged_row z.there q bs) (first.0.judged p i j) rest.0.judged;
        },
        rest.1,
      )
