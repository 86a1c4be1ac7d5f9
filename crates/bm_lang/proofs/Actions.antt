-- Blocks and their statements, taken by the machine.
use Rattle.std.proofs.Common.{◌≡◌, ℕ, suc, ◌-◌, ◌<◌, Bool, true, false, List, [], ◌∷◌, ◌++◌, length, refl, sym, ap, subst, Option, Some, None, arith}
use Rattle.std.specs.Prelude.{map, slice_get, IsSomeAnd, nat_lt, option_map, unwrap_or}
use Rattle.std.proofs.lemmas.List.{append-nil}
use Rattle.std.proofs.lemmas.Bool.Decides.{nat_tests}
use Rattle.bm_lang.specs.declared.keyword.Keyword.{Keyword}
use Rattle.bm_lang.specs.declared.keyword.Keyword.TheVariants as word
use Rattle.bm_lang.specs.declared.names.MapNeed.{MapNeed}
use Rattle.bm_lang.specs.declared.names.MapNeed.TheVariants as need
use Rattle.bm_lang.specs.declared.scenario.MapKind.{MapKind}
use Rattle.bm_lang.specs.declared.scenario.Action.{Action, New, Drop, Acquire, Get, Exchange, If', Repeat, Section, Lock, Unlock, Yield, PushFront, PushBack, PopFront, PopBack, Add, First, Remove, Held-Action-If-2, None', Some'}
use Rattle.bm_lang.specs.declared.scenario.Block.{Block, Block', Row_of-Statement, end_of-Statement, more_of-Statement}
use Rattle.bm_lang.specs.Tokens.{Sort, Open, Close, Number, Reserved, Name, End, Wrong, Mark}
use Rattle.bm_lang.specs.Names.{Names, TypeForm, MapForm, ScriptForm, fits, holds, runs_as}
use Rattle.bm_lang.specs.Known.{knowing}
use Rattle.bm_lang.specs.Grammar.{Symbol, Pass, Shift, next, is_word, statement_body, statement_step, Statements, CloseBrace, Braced, Else, AnyName, AnyNumber, NewType, Values, MapOf, NameOrNull, MapType, ScriptOf}
use Rattle.bm_lang.specs.Spelling.{Word, any, on, name, number, reserved, name_or_null, type_name, map_name, script_name, spell_action, spell_else, spell_block, spell_row}
use Rattle.bm_lang.specs.Fine.{IsMap, FineAction, FineElse, FineBlock, FineRow}
use Rattle.bm_lang.proofs.Sorts.{is_reserved}
use Rattle.bm_lang.proofs.Stating.{no_value}
use Rattle.bm_lang.proofs.Steps.{may_passed}
use Rattle.bm_lang.proofs.Through.{Said, Through, stay, take_word, leave_out, then, behind_it, regroup, first_isnt, first-append, Distinct, means}

-- words that stand for symbols one by one
abbrev Takes : Names → List Symbol → List Word → Type 0
Takes names [] [] = Unit {0}
Takes names [] (w ∷ ws) = ⊥
Takes names (x ∷ xs) [] = ⊥
Takes names (x ∷ xs) (w ∷ ws) = (next names x w.sort ≡ Shift names []) × Takes names xs ws

takes : (names : Names) (xs : List Symbol) (ws rest : List Word) (a c : List Mark) → Takes names xs ws → Said a (ws ++ rest) c → Through names xs names [] a rest c
takes names [] [] rest a c h p = stay names [] p
takes names [] (w ∷ ws) rest a c h p = absurd h
takes names (x ∷ xs) [] rest a c h p = absurd h
takes names (x ∷ xs) (w ∷ ws) rest a c h p = take_word x [] xs w p h.0 (λ m q. takes names xs ws rest m c h.1 q)

-- a statement behind its word
stated : (names : Names) (d l : ℕ) (w : Keyword) (body : List Symbol) (ops rest : List Word) (a c : List Mark) → statement_body d w ≡ Some body → Said a (on l (Reserved w) ∷ (ops ++ rest)) c
    → ((m : List Mark) → Said m (ops ++ rest) c → Through names body names [] m rest c) → Through names (Statements d ∷ []) names (Statements d ∷ []) a rest c
stated names d l w body ops rest a c h p go =
    take_word (Statements d) (body ++ Statements d ∷ []) [] (on l (Reserved w)) p (ap (statement_step names d w) h)
    (λ m q. let P : List Symbol → Type 0 = λ f. Through names f names (Statements d ∷ []) m rest c in
    subst P (sym (append-nil (body ++ Statements d ∷ []))) (behind_it (Statements d ∷ []) (go m q)))

simple : (names : Names) (d l : ℕ) (w : Keyword) (body : List Symbol) (ops rest : List Word) (a c : List Mark) → statement_body d w ≡ Some body → Takes names body ops → Said a (on l (Reserved w) ∷ (ops ++ rest)) c → Through names (Statements d ∷ []) names (Statements d ∷ []) a rest c
simple names d l w body ops rest a c h t p = stated names d l w body ops rest a c h p (λ m q. takes names body ops rest m c t q)

-- what an id's name means
pub map_taken : (p i : ℕ) (types : List TypeForm) (maps : List MapForm) (scripts : List ScriptForm) (n : MapNeed) → Distinct (λ (m : MapForm). m.name) [] maps → IsMap maps n i
    → next (knowing p types maps scripts) (MapOf n) (Name (map_name maps i)) ≡ Shift (knowing p types maps scripts) []
map_taken p i types maps scripts n d h = by_option (slice_get maps i) refl h
  where
    by_option : (o : Option MapForm) → slice_get maps i ≡ o → IsSomeAnd o (λ m. fits n m.kind ≡ true) → next (knowing p types maps scripts) (MapOf n) (Name (unwrap_or (option_map (λ x. x.name) o) [])) ≡ Shift (knowing p types maps scripts) []
    by_option None e f = absurd f
    by_option (Some m) e f = rw (means (λ (x : MapForm). x.name) [] maps i m d e, f) refl

pub new_taken : (p i n : ℕ) (types : List TypeForm) (maps : List MapForm) (scripts : List ScriptForm) → Distinct (λ (t : TypeForm). t.name) [] types → IsSomeAnd (slice_get types i) (λ e. n ≡ length e.fields)
    → next (knowing p types maps scripts) NewType (Name (type_name types i)) ≡ Shift (knowing p types maps scripts) (Values n ∷ [])
new_taken p i n types maps scripts d h = by_option (slice_get types i) refl h
  where
    by_option : (o : Option TypeForm) → slice_get types i ≡ o → IsSomeAnd o (λ e. n ≡ length e.fields) → next (knowing p types maps scripts) NewType (Name (unwrap_or (option_map (λ x. x.name) o) [])) ≡ Shift (knowing p types maps scripts) (Values n ∷ [])
    by_option None e f = absurd f
    by_option (Some t) e f = rw (means (λ (x : TypeForm). x.name) [] types i t d e, f) refl

pub map_type_taken : (p i : ℕ) (k : MapKind) (types : List TypeForm) (maps : List MapForm) → Distinct (λ (t : TypeForm). t.name) [] types → IsSomeAnd (slice_get types i) (λ e. holds k e.node ≡ true)
    → next (knowing p types maps []) (MapType k) (Name (type_name types i)) ≡ Shift (knowing p types maps []) []
map_type_taken p i k types maps d h = by_option (slice_get types i) refl h
  where
    by_option : (o : Option TypeForm) → slice_get types i ≡ o → IsSomeAnd o (λ e. holds k e.node ≡ true) → next (knowing p types maps []) (MapType k) (Name (unwrap_or (option_map (λ x. x.name) o) [])) ≡ Shift (knowing p types maps []) []
    by_option None e f = absurd f
    by_option (Some t) e f = rw (means (λ (x : TypeForm). x.name) [] types i t d e, f) refl

pub script_taken : (p i : ℕ) (b : Bool) (types : List TypeForm) (maps : List MapForm) (scripts : List ScriptForm) → Distinct (λ (s : ScriptForm). s.name) [] scripts → IsSomeAnd (slice_get scripts i) (λ s. runs_as b s.kind ≡ true)
    → next (knowing p types maps scripts) (ScriptOf b) (Name (script_name scripts i)) ≡ Shift (knowing p types maps scripts) []
script_taken p i b types maps scripts d h = by_option (slice_get scripts i) refl h
  where
    by_option : (o : Option ScriptForm) → slice_get scripts i ≡ o → IsSomeAnd o (λ s. runs_as b s.kind ≡ true) → next (knowing p types maps scripts) (ScriptOf b) (Name (unwrap_or (option_map (λ x. x.name) o) [])) ≡ Shift (knowing p types maps scripts) []
    by_option None e f = absurd f
    by_option (Some s) e f = rw (means (λ (x : ScriptForm). x.name) [] scripts i s d e, f) refl

values : (vs : List ℕ) (names : Names) (rest : List Word) (a c : List Mark) → Said a (map number vs ++ rest) c → Through names (Values (length vs) ∷ []) names [] a rest c
values [] names rest a c p = record { middle = a; says = p; runs = no_value names a }
values (v ∷ vs) names rest a c p = take_word (Values (suc (length vs))) (Values (length vs) ∷ []) [] (number v) p refl (λ m q. values vs names rest m c q)

null_or_name : (names : Names) (x : Option (List ℕ)) → next names NameOrNull (name_or_null x).sort ≡ Shift names []
null_or_name names None = refl
null_or_name names (Some n) = refl

-- no statement begins with `else`, and a brace doesn't
action_first : (types : List TypeForm) (maps : List MapForm) (l : ℕ) (x : Action) → first_isnt (is_word word.Else) (spell_action types maps l x) ≡ true
action_first types maps l (New y t vs) = refl
action_first types maps l (Drop y) = refl
action_first types maps l (Acquire y z) = refl
action_first types maps l (Get y f) = refl
action_first types maps l (Exchange y s z) = refl
action_first types maps l (If' y body otherwise) = refl
action_first types maps l (Repeat n body) = refl
action_first types maps l (Section body) = refl
action_first types maps l (Lock g) = refl
action_first types maps l Unlock = refl
action_first types maps l Yield = refl
action_first types maps l (PushFront q y) = refl
action_first types maps l (PushBack q y) = refl
action_first types maps l (PopFront y q) = refl
action_first types maps l (PopBack y q) = refl
action_first types maps l (Add t y) = refl
action_first types maps l (First y t) = refl
action_first types maps l (Remove y t z) = refl

row_first : (types : List TypeForm) (maps : List MapForm) (n : _) (row : Row_of-Statement n) (end : ℕ) (rest : List Word) → first_isnt (is_word word.Else) (spell_row types maps row ++ on end Close ∷ rest) ≡ true
row_first types maps _ end_of-Statement end rest = refl
row_first types maps _ (more_of-Statement line action row) end rest = first-append (is_word word.Else) (spell_action types maps line action ++ spell_row types maps row) (on end Close ∷ rest) (first-append (is_word word.Else) (spell_action types maps line action) (spell_row types maps row) (action_first types maps line action))

no_statement_here : (names : Names) (d : ℕ) (t : Sort) → is_reserved t ≡ false → next names (Statements d) t ≡ Pass
no_statement_here names d (Reserved w) h = cc
no_statement_here names d Open h = refl
no_statement_here names d Close h = refl
no_statement_here names d (Number n) h = refl
no_statement_here names d (Name n) h = refl
no_statement_here names d End h = refl
no_statement_here names d (Wrong why) h = refl

above_zero : (d : ℕ) → 0 < d → nat_lt 0 d ≡ true
above_zero d h = grind (arith, nat_tests)

-- what is declared around a block
pub record Around : Type 0 where
  pub p : ℕ
  pub types : List TypeForm
  pub maps : List MapForm
  pub scripts : List ScriptForm
  pub distinct_types : Distinct (λ (t : TypeForm). t.name) [] types
  pub distinct_maps : Distinct (λ (m : MapForm). m.name) [] maps

abbrev known : Around → Names
known z = knowing z.p z.types z.maps z.scripts

map_here : (z : Around) (n : MapNeed) (i : ℕ) → IsMap z.maps n i → next (known z) (MapOf n) (Name (map_name z.maps i)) ≡ Shift (known z) []
map_here z n i h = map_taken z.p i z.types z.maps z.scripts n z.distinct_maps h

mutual
  action_through : (x : Action) (z : Around) (l d : ℕ) (rest : List Word) (a c : List Mark) → FineAction z.types z.maps d x → Said a (spell_action z.types z.maps l x ++ rest) c → first_isnt (is_word word.Else) rest ≡ true
      → Through (known z) (Statements d ∷ []) (known z) (Statements d ∷ []) a rest c
  action_through (New x t vs) z l d rest a c f p o = stated (known z) d l word.New (AnyName ∷ NewType ∷ []) (name x ∷ name (type_name z.types t.0) ∷ map number vs) rest a c refl p
      (λ m q. take_word AnyName [] (NewType ∷ []) (name x) q refl (λ m q. take_word NewType (Values (length vs) ∷ []) [] (name (type_name z.types t.0)) q (new_taken z.p t.0 (length vs) z.types z.maps z.scripts z.distinct_types f) (λ m q. values vs (known z) rest m c q)))
  action_through (Drop x) z l d rest a c f p o = simple (known z) d l word.Drop (AnyName ∷ []) (name x ∷ []) rest a c refl (refl, tt) p
  action_through (Acquire y x) z l d rest a c f p o = simple (known z) d l word.Acquire (AnyName ∷ AnyName ∷ []) (name y ∷ name x ∷ []) rest a c refl (refl, (refl, tt)) p
  action_through (Get x y) z l d rest a c f p o = simple (known z) d l word.Get (AnyName ∷ AnyName ∷ []) (name x ∷ name y ∷ []) rest a c refl (refl, (refl, tt)) p
  action_through (Exchange y s x) z l d rest a c f p o = simple (known z) d l word.Xchg (AnyName ∷ MapOf need.Slot ∷ NameOrNull ∷ []) (name y ∷ name (map_name z.maps s.0) ∷ name_or_null x ∷ []) rest a c refl (refl, (map_here z need.Slot s.0 f, (null_or_name (known z) x, tt))) p
  action_through (If' x body otherwise) z l d rest a c f p o = stated (known z) d l word.If (AnyName ∷ Braced d ∷ Else d ∷ []) (name x ∷ (spell_block z.types z.maps body ++ spell_else z.types z.maps otherwise)) rest a c refl p
      (λ m q. take_word AnyName [] (Braced d ∷ Else d ∷ []) (name x) q refl
      (λ m q. then (behind_it (Else d ∷ []) (block_through body z d (spell_else z.types z.maps otherwise ++ rest) m c f.0 (regroup (spell_block z.types z.maps body) (spell_else z.types z.maps otherwise) rest q)))
      (λ m q. else_through otherwise z d rest m c f.1 q o)))
  action_through (Repeat n body) z l d rest a c f p o = stated (known z) d l word.Repeat (AnyNumber ∷ Braced d ∷ []) (number n ∷ spell_block z.types z.maps body) rest a c refl p
      (λ m q. take_word AnyNumber [] (Braced d ∷ []) (number n) q refl (λ m q. block_through body z d rest m c f q))
  action_through (Section body) z l d rest a c f p o = stated (known z) d l word.Section (Braced d ∷ []) (spell_block z.types z.maps body) rest a c refl p (λ m q. block_through body z d rest m c f q)
  action_through (Lock g) z l d rest a c f p o = simple (known z) d l word.Lock (MapOf need.Graph ∷ []) (name (map_name z.maps g.0) ∷ []) rest a c refl (map_here z need.Graph g.0 f, tt) p
  action_through Unlock z l d rest a c f p o = simple (known z) d l word.Unlock [] [] rest a c refl tt p
  action_through Yield z l d rest a c f p o = simple (known z) d l word.Yield [] [] rest a c refl tt p
  action_through (PushFront q x) z l d rest a c f p o = simple (known z) d l word.PushFront (MapOf need.List ∷ AnyName ∷ []) (name (map_name z.maps q.0) ∷ name x ∷ []) rest a c refl (map_here z need.List q.0 f, (refl, tt)) p
  action_through (PushBack q x) z l d rest a c f p o = simple (known z) d l word.PushBack (MapOf need.List ∷ AnyName ∷ []) (name (map_name z.maps q.0) ∷ name x ∷ []) rest a c refl (map_here z need.List q.0 f, (refl, tt)) p
  action_through (PopFront x q) z l d rest a c f p o = simple (known z) d l word.PopFront (AnyName ∷ MapOf need.List ∷ []) (name x ∷ name (map_name z.maps q.0) ∷ []) rest a c refl (refl, (map_here z need.List q.0 f, tt)) p
  action_through (PopBack x q) z l d rest a c f p o = simple (known z) d l word.PopBack (AnyName ∷ MapOf need.List ∷ []) (name x ∷ name (map_name z.maps q.0) ∷ []) rest a c refl (refl, (map_here z need.List q.0 f, tt)) p
  action_through (Add t x) z l d rest a c f p o = simple (known z) d l word.Add (MapOf need.Tree ∷ AnyName ∷ []) (name (map_name z.maps t.0) ∷ name x ∷ []) rest a c refl (map_here z need.Tree t.0 f, (refl, tt)) p
  action_through (First x t) z l d rest a c f p o = simple (known z) d l word.First (AnyName ∷ MapOf need.Tree ∷ []) (name x ∷ name (map_name z.maps t.0) ∷ []) rest a c refl (refl, (map_here z need.Tree t.0 f, tt)) p
  action_through (Remove y t x) z l d rest a c f p o = simple (known z) d l word.Remove (AnyName ∷ MapOf need.Tree ∷ AnyName ∷ []) (name y ∷ name (map_name z.maps t.0) ∷ name x ∷ []) rest a c refl (refl, (map_here z need.Tree t.0 f, (refl, tt))) p

  else_through : (e : Held-Action-If-2) (z : Around) (d : ℕ) (rest : List Word) (a c : List Mark) → FineElse z.types z.maps d e → Said a (spell_else z.types z.maps e ++ rest) c → first_isnt (is_word word.Else) rest ≡ true → Through (known z) (Else d ∷ []) (known z) [] a rest c
  else_through None' z d rest a c f p o = leave_out (Else d) (is_word word.Else) p o (λ t h. may_passed _ _ h) (stay (known z) [] p)
  else_through (Some' body) z d rest a c f p o = take_word (Else d) (Braced d ∷ []) [] (reserved word.Else) p refl (λ m q. block_through body z d rest m c f q)

  pub block_through : (b : Block) (z : Around) (d : ℕ) (rest : List Word) (a c : List Mark) → FineBlock z.types z.maps d b → Said a (spell_block z.types z.maps b ++ rest) c → Through (known z) (Braced d ∷ []) (known z) [] a rest c
  block_through (Block' shape row end) z d rest a c f p =
      take_word (Braced d) (Statements (d - 1) ∷ CloseBrace ∷ []) [] (any Open) p (rw (above_zero d f.0) refl)
      (λ m q. row_through _ row z (d - 1) end rest m c f.1 (regroup (spell_row z.types z.maps row) (on end Close ∷ []) rest q))

  row_through : (n : _) (row : Row_of-Statement n) (z : Around) (d end : ℕ) (rest : List Word) (a c : List Mark) → FineRow z.types z.maps d row → Said a (spell_row z.types z.maps row ++ on end Close ∷ rest) c → Through (known z) (Statements d ∷ CloseBrace ∷ []) (known z) [] a rest c
  row_through _ end_of-Statement z d end rest a c f p = leave_out (Statements d) is_reserved p refl (no_statement_here (known z) d) (take_word CloseBrace [] [] (on end Close) p refl (λ m q. stay (known z) [] q))
  row_through _ (more_of-Statement line action row) z d end rest a c f p =
      then (behind_it (CloseBrace ∷ []) (action_through action z line d (spell_row z.types z.maps row ++ on end Close ∷ rest) a c f.0 (regroup (spell_action z.types z.maps line action) (spell_row z.types z.maps row) (on end Close ∷ rest) p) (row_first z.types z.maps _ row end rest)))
      (λ m q. row_through _ row z d end rest m c f.1 q)
