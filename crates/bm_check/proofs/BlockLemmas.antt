-- Blocks as lists of statements, and the ends of an `if` and of a `repeat`.
use Rattle.std.proofs.Common.{◌≡◌, ℕ, List, [], ◌∷◌, length, refl, sym, ap, ◌∙◌, Option, Some, None, Vec, Global, Result, Ok, Err, OnOk, ◌<◌, ◌≤◌, ◌+◌, suc, get_or, drop, drop-cons, add-one}
use mathlib.Core.Path.{fun_ext}
use mathlib.Core.Former.{Count}
use Rattle.bm_lang.specs.declared.scenario.Action.{Action, If', Repeat, Section, If, None', Some', back-Action-If-2}
use Rattle.bm_lang.specs.declared.scenario.Action.TheOpen.{Block-F}
use Rattle.bm_lang.specs.declared.scenario.Action.TheBlock.{hidden-the_row-Statement-0}
use Rattle.bm_lang.specs.declared.scenario.Block.{Block, out-Block, roll-Block, roll-out-Block, rolls-Block', Row_of-Statement, end_of-Statement, more_of-Statement, items-the_row-Statement, items_hidden-the_row-Statement-0}
use Rattle.bm_lang.specs.declared.scenario.Statement.{Statement}
use Rattle.bm_check.specs.declared.name_state.NameState.{NameState}
use Rattle.bm_check.specs.declared.name_state.NameState.TheVariants.{Spent}
use Rattle.bm_check.specs.declared.name_state.HeldLock.{HeldLock}
use Rattle.bm_check.specs.declared.stop.Stop.{Stop}
use Rattle.bm_check.specs.declared.stop.Stop.TheVariants as stop
use Rattle.bm_check.specs.NameStates.{non_null}
use Rattle.bm_check.specs.Answers.{IsJudged}
use Rattle.std.proofs.lemmas.List.{drop_all}
use Rattle.bm_check.proofs.Growth.{Grows, grows_on, put_grows, back_grows, block_grows, else_grows}
use Rattle.bm_check.proofs.ChangeLemmas.{leads_as, leads_later}
use Rattle.bm_check.specs.declared.name_log.Change.{Change}
use Rattle.bm_check.specs.declared.name_log.NameLog.{NameLog}
use Rattle.bm_check.specs.declared.meeting.Meeting.TheVariants.{Branches, Body}
use Rattle.bm_check.specs.Names.{Names, put, back_to}
use Rattle.bm_check.specs.Meetings.{after_meeting}
use Rattle.bm_check.specs.Changes.{names_in, at_states, Leads, Starts}
use Rattle.bm_check.specs.Statements.{Setting, row_of, doubtful}
use Rattle.bm_check.specs.Blocks.{Place, at, Outcome, Reaches, and_then, unless_broken, after_if, after_repeat, after_statement, from_inside, given_back, judged_action, judged_else, judged_block, judged_row, last_line, end_line}

-- statements in a list
abbrev pub judged_list : Setting → Place → List Statement → Outcome
judged_list e p [] = Reaches p
judged_list e p (s ∷ ss) = and_then (judged_action e p s.line s.action) (λ q. judged_list e q ss)

row_is : (e : Setting) (p : Place) (n : Count) (row : Row_of-Statement n) → judged_row e p row ≡ judged_list e p (items-the_row-Statement n row)
row_is e p _ end_of-Statement = refl
row_is e p _ (more_of-Statement line action rest) = ap (and_then (judged_action e p line action)) (fun_ext (λ q. row_is e q _ rest))

pub block_is : (e : Setting) (p : Place) (v : Vec Statement Global) (end : ℕ) → judged_block e p (roll-Block (record { statements = v; end_line = end })) ≡ and_then (judged_list e (at p.names (from_inside p.lock)) v.items) (λ q. unless_broken end (given_back q.lock) (Reaches (at q.names p.lock)))
block_is e p v end =
    let b : Block-F Action Block Statement = record { statements = v; end_line = end } in
    let tail : Place → Outcome = λ q. unless_broken end (given_back q.lock) (Reaches (at q.names p.lock)) in
    ap (judged_block e p) (rolls-Block' b) ∙ ap (λ o. and_then o tail) (row_is e (at p.names (from_inside p.lock)) _ (hidden-the_row-Statement-0 v) ∙ ap (judged_list e (at p.names (from_inside p.lock))) (items_hidden-the_row-Statement-0 v))

-- what a refusal inside says of the whole
pub err_then : (s : Stop) (n m : Names) (o : Outcome) (f : Place → Outcome) → IsJudged (Err s) n o → IsJudged (Err s) m (and_then o f)
err_then (stop.Broken line r) n m o f h = rw h refl
err_then stop.NoMemory n m o f h = tt

end_of : (v : Vec Statement Global) (end : ℕ) → end_line (roll-Block (record { statements = v; end_line = end })) ≡ end
end_of v end = let b : Block-F Action Block Statement = record { statements = v; end_line = end } in ap end_line (rolls-Block' b)

pub last_is : (b : Block) → end_line b ≡ (out-Block b).end_line
last_is b = ap end_line (sym (roll-out-Block b)) ∙ end_of (out-Block b).statements (out-Block b).end_line

-- the end of a block
abbrev pub block_ends : HeldLock → ℕ → Place → Outcome
block_ends l line q = unless_broken line (given_back q.lock) (Reaches (at q.names l))

pub block_judged : (e : Setting) (p : Place) (b : Block) → judged_block e p b ≡ and_then (judged_list e (at p.names (from_inside p.lock)) (out-Block b).statements.items) (block_ends p.lock (out-Block b).end_line)
block_judged e p b = ap (judged_block e p) (sym (roll-out-Block b)) ∙ block_is e p (out-Block b).statements (out-Block b).end_line

pub one_statement : (e : Setting) (p q : Place) (ss : List Statement) (i : ℕ) (s : Statement) → i < length ss → s ≡ get_or ss i s → judged_action e p s.line s.action ≡ Reaches q → judged_list e p (drop i ss) ≡ judged_list e q (drop (i + 1) ss)
one_statement e p q ss i s lt is h = ap (judged_list e p) (drop-cons ss i s lt ∙ ap (λ (t : Statement). t ∷ drop (suc i) ss) (sym is)) ∙ (rw h (rw (add-one) refl))

pub err_statement : (stop : Stop) (n m : Names) (e : Setting) (p : Place) (ss : List Statement) (i : ℕ) (s : Statement) → i < length ss → s ≡ get_or ss i s → IsJudged (Err stop) n (judged_action e p s.line s.action) → IsJudged (Err stop) m (judged_list e p (drop i ss))
err_statement stop n m e p ss i s lt is h =
    let cut : drop i ss ≡ s ∷ drop (suc i) ss = drop-cons ss i s lt ∙ ap (λ (t : Statement). t ∷ drop (suc i) ss) (sym is) in
    rw cut (err_then stop n m (judged_action e p s.line s.action) (λ q. judged_list e q (drop (suc i) ss)) h)

-- an `if`, up to its other block
module _ (e : Setting) (n : Names) (lock : HeldLock) (line : ℕ) (x : List ℕ) (body : Block) (o : Option Block) (first : Place) (may : doubtful (n.state x) ≡ None) (reaches : judged_block e (at (put n x (non_null (n.state x))) lock) body ≡ Reaches first) where
  pub first_grows : Grows n first.names
  first_grows = grows_on n (put n x (non_null (n.state x))) first.names (put_grows n x (non_null (n.state x))) (block_grows e (at (put n x (non_null (n.state x))) lock) body first reaches)

  pub if_is : (a : Action) → a ≡ If x body o → judged_action e (at n lock) line a ≡ and_then (judged_else e (at (put (back_to n first.names) x Spent) lock) (back-Action-If-2 o)) (after_if (last_line body (back-Action-If-2 o)) lock first.names)
  if_is a is = ap (judged_action e (at n lock) line) is ∙ rw (may, reaches) refl

-- a statement without blocks
pub plain_is : (e : Setting) (p : Place) (line : ℕ) (a : Action) → ((x : List ℕ) (b : Block) (o : Option Block) → a ≡ If x b o → ⊥) → ((n : ℕ) (b : Block) → a ≡ Repeat n b → ⊥) → ((b : Block) → a ≡ Section b → ⊥) → judged_action e p line a ≡ after_statement line p.lock a (row_of e p.lock p.names a)
plain_is e p line (If' x b None') not_if not_repeat not_section = absurd (not_if x b None refl)
plain_is e p line (If' x b (Some' c)) not_if not_repeat not_section = absurd (not_if x b (Some c) refl)
plain_is e p line (Repeat n b) not_if not_repeat not_section = absurd (not_repeat n b refl)
plain_is e p line (Section b) not_if not_repeat not_section = absurd (not_section b refl)
plain_is e p line a not_if not_repeat not_section = refl

-- a `repeat`
pub repeat_is : (e : Setting) (n u : Names) (lock l : HeldLock) (line count : ℕ) (body : Block) (a : Action) → a ≡ Repeat count body → judged_block e (at n lock) body ≡ Reaches (at u l) → judged_action e (at n lock) line a ≡ after_meeting Body (out-Block body).end_line lock (at_states u n.state) (at u lock)
repeat_is e n u lock l line count body a is reaches =
    ap (judged_action e (at n lock) line) is
    ∙ (rw reaches (ap (λ end. after_repeat end lock n (at u lock)) (last_is body)))

-- the end of an `if`
if_ends : (e : Setting) (n t u : Names) (x : List ℕ) (lock l k : HeldLock) (line : ℕ) (o : Option Block) → judged_else e (at (put (back_to n t) x Spent) lock) (back-Action-If-2 o) ≡ Reaches (at u l) → and_then (judged_else e (at (put (back_to n t) x Spent) lock) (back-Action-If-2 o)) (after_if line lock t) ≡ after_if line lock (at_states u t.state) (at u k)
if_ends e n t u x lock l k line o reaches = rw reaches refl

pub if_whole : (e : Setting) (n t u : Names) (lock k l : HeldLock) (line end : ℕ) (x : List ℕ) (body : Block) (o : Option Block) (a : Action) → a ≡ If x body o → doubtful (n.state x) ≡ None → judged_block e (at (put n x (non_null (n.state x))) lock) body ≡ Reaches (at t k) → judged_else e (at (put (back_to n t) x Spent) lock) (back-Action-If-2 o) ≡ Reaches (at u l) → last_line body (back-Action-If-2 o) ≡ end → judged_action e (at n lock) line a ≡ after_meeting Branches end lock (at_states u t.state) (at u lock)
if_whole e n t u lock k l line end x body o a is may reaches other last =
    if_is e n lock line x body o (at t k) may reaches a is
    ∙ (if_ends e n t u x lock l lock (last_line body (back-Action-If-2 o)) o other
    ∙ ap (λ i. after_if i lock (at_states u t.state) (at u lock)) last)

-- the names at the end of an `if` are those from before it and more
pub other_grows : (e : Setting) (n u : Names) (x : List ℕ) (lock l : HeldLock) (o : Option Block) → judged_else e (at (put n x Spent) lock) (back-Action-If-2 o) ≡ Reaches (at u l) → Grows n u
other_grows e n u x lock l o reaches = grows_on n (put n x Spent) u (put_grows n x Spent) (else_grows e (at (put n x Spent) lock) (back-Action-If-2 o) (at u l) reaches)

-- the log that leads to the first block's end, and the one before the `if`, once the other block has been judged
pub forth_there : (e : Setting) (n first last : Names) (x : List ℕ) (lock l : HeldLock) (o : Option Block) (cs : List Change) → judged_else e (at (put (back_to n first) x Spent) lock) (back-Action-If-2 o) ≡ Reaches (at last l) → Leads cs (at_states first n.state) first.state → Leads cs (at_states last n.state) first.state
forth_there e n first last x lock l o cs reaches h =
    let g = other_grows e (back_to n first) last x lock l o reaches in
    leads_later cs first.met last.met g.more n.state first.state g.met h

pub outer_there : (e : Setting) (n first last : Names) (x : List ℕ) (lock l : HeldLock) (o : Option Block) (cs ds : List Change) (f : List ℕ → NameState) → Grows n first → judged_else e (at (put (back_to n first) x Spent) lock) (back-Action-If-2 o) ≡ Reaches (at last l) → ds ≡ cs → Leads cs n f → Leads ds (at_states last n.state) f
outer_there e n first last x lock l o cs ds f grows reaches same h =
    let g = grows_on n (back_to n first) last (back_grows n first grows) (other_grows e (back_to n first) last x lock l o reaches) in
    leads_as cs ds (at_states last n.state) (at_states last n.state) f (sym same) refl (leads_later cs n.met last.met g.more n.state f g.met h)

-- the other block of an `if` has been judged, or is absent
pub record OtherEnds (e : Setting) (n first : Names) (log : NameLog) (x : List ℕ) (lock : HeldLock) (body : Block) (a : Action) (end : ℕ) : Type 0 where
  pub otherwise : Option Block
  pub is : a ≡ If x body otherwise
  pub held : HeldLock
  pub reaches : judged_else e (at (put (back_to n first) x Spent) lock) (back-Action-If-2 otherwise) ≡ Reaches (at (names_in log) held)
  pub last : last_line body (back-Action-If-2 otherwise) ≡ end
  pub start : Starts log n.state

pub kept_on : (r : Result HeldLock Stop) (P Q : Type 0) → (P → Q) → OnOk r P → OnOk r Q
kept_on (Ok l) P Q h p = h p
kept_on (Err s) P Q h p = tt

-- a block whose statements were all judged
pub block_whole : (e : Setting) (n m : Names) (lock held : HeldLock) (b : Block) (ss : List Statement) (i : ℕ) → ss ≡ (out-Block b).statements.items → length ss ≤ i → judged_list e (at n (from_inside lock)) ss ≡ judged_list e (at m held) (drop i ss) → judged_block e (at n lock) b ≡ block_ends lock (out-Block b).end_line (at m held)
block_whole e n m lock held b ss i is le h =
    let list : judged_list e (at n (from_inside lock)) (out-Block b).statements.items ≡ Reaches (at m held) = ap (judged_list e (at n (from_inside lock))) (sym is) ∙ (h ∙ ap (judged_list e (at m held)) (drop_all i ss le)) in
    block_judged e (at n lock) b ∙ ap (λ o. and_then o (block_ends lock (out-Block b).end_line)) list
