-- No handler of a checked scenario yields.
use Rattle.std.proofs.Common.{◌≡◌, ◌+◌, ℕ, zero, suc, Bool, true, false, if◌then◌else◌, nat_lt, List, [], ◌∷◌, ◌++◌, Option, Some, None, refl, sym, ap, subst, inl, inr}
use Rattle.bm_class.specs.Sizes.{size_of_class}
use Rattle.bm_class.specs.Watermarks.{high_of_size, low_of_size}
use Rattle.bm_journal.specs.declared.ids.Domain.TheVariants.{Plain}
use Rattle.bm_journal.specs.declared.entry.Entry.{Entry}
use Rattle.bm_journal.specs.declared.entry.Entry.TheVariants as entry
use Rattle.bm_lang.specs.declared.scenario.Action.{Action, New, Drop, Acquire, Get, Exchange, If', Repeat, Section, Lock, Unlock, Yield, PushFront, PushBack, PopFront, PopBack, Add, First, Remove, Held-Action-If-2, None', Some'}
use Rattle.bm_lang.specs.declared.scenario.Block.{Block, Block', Row_of-Statement, end_of-Statement, more_of-Statement}
use Rattle.bm_lang.specs.declared.scenario.Parts.{Parts}
use Rattle.bm_lang.specs.declared.scenario.Script.{Script}
use Rattle.bm_lang.specs.declared.scenario.ScriptKind.TheVariants as kind
use Rattle.bm_check.specs.declared.name_state.HeldLock.TheVariants.{Nothing as NoLock}
use Rattle.bm_check.specs.declared.rule.Rule.{Rule}
use Rattle.bm_check.specs.Blocks.{Broken, Outcome, Place, Reaches, and_then, at, end_line, judged_action, judged_block, judged_else, judged_row, unless_broken}
use Rattle.bm_check.specs.Names.{no_names}
use Rattle.bm_check.specs.Scripts.{Accepted, AllAccepted, broken_rule}
use Rattle.bm_check.specs.Statements.{Setting, is_handler, setting_of}
use Rattle.bm_law.specs.Lists.{Log}
use Rattle.bm_law.specs.Phrases.{DelayPhrase, FreePhrase, given, overtaken, overtaken_delayed, raise_below, raise_unless}
use Rattle.bm_law.specs.Spans.{own_entries}
use Rattle.bm_law_work.proofs.Each.{AllOf, of-append}
use Rattle.bm_due.specs.Standing.{HandlersStand}
use Rattle.bm_graph.specs.Calls.{first_call}
use Rattle.bm_graph.specs.Entries.{call_entry}
use Rattle.bm_graph.specs.Ways.{pop_call, push_call, refused_push}
use Rattle.bm_graph.specs.declared.ways.End.TheVariants as end_
use Rattle.bm_graph.specs.declared.ways.Way.{Way}
use Rattle.bm_graph.specs.declared.ways.Way.TheVariants as way
use Rattle.bm_journal.specs.declared.past.PastCall.{PastCall}
use Rattle.bm_journal.specs.declared.past.PastCall.TheVariants as past
use Rattle.bm_lang.specs.declared.scenario.MapId.{MapId}
use Rattle.bm_law_scenario.specs.Declared.{Declared, declared_in, under}
use Rattle.bm_law_scenario.specs.Calls.{Allocates, RunsGivingUp, RunsPutting, any_batch}
use Rattle.bm_law_scenario.specs.Runs.{lock_after}
use Rattle.bm_law_scenario.specs.Handlers.{AreHandlers, HandlerPhrase, HandlersDone, enclosed, more, none}
use Rattle.bm_law_scenario.specs.Held.{Held, Names, Nothing, Null, Object, Soft}
use Rattle.bm_law_scenario.specs.Held as held
use Rattle.bm_law_lives.specs.SectionWords.{is_outside}
use Rattle.bm_law_scenario.proofs.EachLevel.{AllAbove, each-above}
use Rattle.bm_law_scenario.proofs.Freed.{either-free}
use Rattle.bm_law_scenario.proofs.Levels.{levels}
use Rattle.bm_law_scenario.proofs.OwnRuns.{Chosen, RunsAction, RunsBlock, RunsElse, RunsRow, Times, Within}
use Rattle.bm_law_scenario.proofs.SameRuns.{alone-owned}
use Rattle.bm_exec.specs.Yields.{IsInTurn}

-- ---- statements

-- None of these statements is a `yield`, nor one of the blocks that they hold.
abbrev mutual
  pub NeverYields : Action → Type 0
  NeverYields (If' x body otherwise) = BlockNeverYields body × ElseNeverYields otherwise
  NeverYields (Repeat n body) = BlockNeverYields body
  NeverYields (Section body) = BlockNeverYields body
  NeverYields Yield = ⊥
  NeverYields _ = Unit {0}

  pub ElseNeverYields : Held-Action-If-2 → Type 0
  ElseNeverYields None' = Unit {0}
  ElseNeverYields (Some' body) = BlockNeverYields body

  pub BlockNeverYields : Block → Type 0
  BlockNeverYields (Block' shape row end_line) = RowNeverYields row

  pub RowNeverYields : {m : _} → Row_of-Statement m → Type 0
  RowNeverYields end_of-Statement = Unit {0}
  RowNeverYields (more_of-Statement line action rest) = NeverYields action × RowNeverYields rest

-- ---- what is accepted

then-reaches : (o : Outcome) (f : Place → Outcome) (q : Place) → and_then o f ≡ Reaches q → (p : Place) × (o ≡ Reaches p) × (f p ≡ Reaches q)
then-reaches (Broken line r) f q e = absurd (cc)
then-reaches (Reaches p) f q e = (p, refl, e)

unless-reaches : (line : ℕ) (broken : Option Rule) (o : Outcome) (q : Place) → unless_broken line broken o ≡ Reaches q → o ≡ Reaches q
unless-reaches line None o q e = e
unless-reaches line (Some r) o q e = absurd (cc)

is-broken : (line : ℕ) (r : Rule) (o : Outcome) (q : Place) → unless_broken line (Some r) o ≡ Reaches q → ⊥
is-broken line r o q e = absurd (cc)

mutual
  action-accepted : (e : Setting) → is_handler e.kind ≡ true → (p q : Place) (line : ℕ) (a : Action) → judged_action e p line a ≡ Reaches q → NeverYields a
  action-accepted e k p q line (If' x body otherwise) j =
      let first = then-reaches _ _ q (unless-reaches line _ _ q j) in
      let second = then-reaches _ _ q first.2 in
      (block-accepted e k _ first.0 body first.1, else-accepted e k _ second.0 otherwise second.1)
  action-accepted e k p q line (Repeat n body) j = let r = then-reaches _ _ q j in block-accepted e k p r.0 body r.1
  action-accepted e k p q line (Section body) j = block-accepted e k p q body j
  action-accepted e k p q line Yield j = is-broken line _ (Reaches (at p.names p.lock)) q (rw k at j)
  action-accepted e k p q line _ j = tt

  else-accepted : (e : Setting) → is_handler e.kind ≡ true → (p q : Place) (o : Held-Action-If-2) → judged_else e p o ≡ Reaches q → ElseNeverYields o
  else-accepted e k p q None' j = tt
  else-accepted e k p q (Some' body) j = block-accepted e k p q body j

  block-accepted : (e : Setting) → is_handler e.kind ≡ true → (p q : Place) (b : Block) → judged_block e p b ≡ Reaches q → BlockNeverYields b
  block-accepted e k p q (Block' shape row line) j = let r = then-reaches _ _ q j in row-accepted e k _ r.0 row r.1

  row-accepted : (e : Setting) → is_handler e.kind ≡ true → (p q : Place) {m : _} (row : Row_of-Statement m) → judged_row e p row ≡ Reaches q → RowNeverYields row
  row-accepted e k p q end_of-Statement j = tt
  row-accepted e k p q (more_of-Statement line action rest) j = let r = then-reaches _ _ q j in (action-accepted e k p r.0 line action r.1, row-accepted e k r.0 q rest r.2)

reached : (o : Outcome) → broken_rule o ≡ None → (p : Place) × (o ≡ Reaches p)
reached (Broken line r) e = absurd (cc)
reached (Reaches p) e = (p, refl)

-- a handler script that is accepted
handler-accepted : (s : Parts) (x : Script) → x.kind ≡ kind.Handler → Accepted s x → BlockNeverYields x.body
handler-accepted s x handles h =
    let all = reached _ h in
    let body = then-reaches (judged_block (setting_of s x.kind) (at no_names NoLock) x.body) _ all.0 all.1 in
    block-accepted (setting_of s x.kind) (ap is_handler handles) (at no_names NoLock) body.0 x.body body.1

-- ---- what is left in a log

-- no entry of these is a yield
abbrev AllUnyielding : List Entry → Type 0
AllUnyielding es = AllOf IsInTurn es

-- of calls
raise-unyielding : (b : Bool) (c : ℕ) → AllUnyielding (if b then entry.Raise c ∷ [] else [])
raise-unyielding true c = (tt, tt)
raise-unyielding false c = tt

unless-unyielding : (b : Bool) (c : ℕ) → AllUnyielding (raise_unless b c)
unless-unyielding true c = tt
unless-unyielding false c = (tt, tt)

given-unyielding : (u life : ℕ) (seal : Option (ℕ × ℕ)) → IsInTurn (given u life seal)
given-unyielding u life None = tt
given-unyielding u life (Some x) = tt

overtaken-unyielding : (c : ℕ) (ks : List ℕ) → AllUnyielding (overtaken c ks)
overtaken-unyielding c [] = tt
overtaken-unyielding c (k ∷ ks) = (tt, (tt, overtaken-unyielding c ks))

delayed-unyielding : (c : ℕ) (ks : List ℕ) → AllUnyielding (overtaken_delayed c ks)
delayed-unyielding c [] = tt
delayed-unyielding c (k ∷ ks) = (tt, (tt, delayed-unyielding c ks))

alloc-unyielding : (c : ℕ) (own : List Entry) (reply : Option (ℕ × ℕ)) → Allocates c own reply → AllUnyielding own
alloc-unyielding c own (Some o) x =
    subst AllUnyielding (sym x.3) (tt, (tt, (tt, (tt, of-append IsInTurn (raise_below c x.1) (given o.0 o.1 x.0 ∷ []) (raise-unyielding (nat_lt x.1 (low_of_size (size_of_class c))) c) (given-unyielding o.0 o.1 x.0, tt)))))
alloc-unyielding c own None (inl x) =
    subst AllUnyielding (sym x.1) (tt, (tt, (tt, of-append IsInTurn (raise_below c 0) (entry.Empty ∷ []) (raise-unyielding (nat_lt 0 (low_of_size (size_of_class c))) c) (tt, tt))))
alloc-unyielding c own None (inr x) = subst AllUnyielding (sym x.3) (tt, (tt, of-append IsInTurn (raise_below c 0) (entry.Busy x.0 ∷ []) (raise-unyielding (nat_lt 0 (low_of_size (size_of_class c))) c) (tt, tt)))

free-unyielding : (c u home : ℕ) (own : List Entry) → FreePhrase c u home own → AllUnyielding own
free-unyielding c u home own (inl x) = subst AllUnyielding (sym x.2) (tt, (tt, (tt, (tt, (tt, raise-unyielding (nat_lt (high_of_size (size_of_class c)) x.0) c)))))
free-unyielding c u home own (inr x) =
    subst AllUnyielding (sym x.5) (tt, (tt, of-append IsInTurn (overtaken c x.1) (entry.Look c x.2 ∷ entry.Put c u ∷ entry.Leave c x.3 ∷ []) (overtaken-unyielding c x.1) (tt, (tt, (tt, tt)))))

delay-unyielding : (c u home : ℕ) (batch : Bool) (own : List Entry) → DelayPhrase c u home batch own → AllUnyielding own
delay-unyielding c u home batch own (inl x) = subst AllUnyielding (sym x.1) (tt, (tt, (tt, (tt, unless-unyielding batch c))))
delay-unyielding c u home batch own (inr x) =
    subst AllUnyielding (sym x.5)
    (tt, (tt, of-append IsInTurn (overtaken_delayed c x.1) (entry.LookDelayed c x.2 ∷ entry.PutDelayed c u ∷ entry.Leave c x.3 ∷ raise_unless batch c) (delayed-unyielding c x.1) (tt, (tt, (tt, unless-unyielding batch c)))))

-- of statements without a `yield`
chosen-unyielding : (v : Held) (first second : Names → List Entry → Names → Type 0) (names : Names) (part : List Entry) (last : Names) → (first names part last → AllUnyielding part) → (second names part last → AllUnyielding part) → Chosen v first second names part last → AllUnyielding part
chosen-unyielding Nothing first second names part last f g r = absurd r
chosen-unyielding Null first second names part last f g r = g r
chosen-unyielding (Object t u n) first second names part last f g r = f r
chosen-unyielding (Soft t graph u n) first second names part last f g r = f r

times-unyielding : (run : Names → List Entry → Names → Type 0) (n : ℕ) (names : Names) (part : List Entry) (last : Names) → ((a : Names) (p : List Entry) (b : Names) → run a p b → AllUnyielding p) → Times run n names part last → AllUnyielding part
times-unyielding run zero names part last f r = subst AllUnyielding (sym r.0) tt
times-unyielding run (suc n) names part last f r =
    subst AllUnyielding (sym r.part_is) (of-append IsInTurn r.one r.two (f names r.one r.middle r.first_runs) (times-unyielding run n r.middle r.two last f r.second_runs))

within-unyielding : (i : Bool) (run : Names → List Entry → Names → Type 0) (names : Names) (part : List Entry) (last : Names) → ((a : Names) (p : List Entry) (b : Names) → run a p b → AllUnyielding p) → Within i run names part last → AllUnyielding part
within-unyielding true run names part last f r = f names part last r
within-unyielding false run names part last f r =
    let t = r.1.second_runs in
    let begin : AllUnyielding r.1.one = subst AllUnyielding (sym r.1.first_runs.0) (tt, tt) in
    let end : AllUnyielding t.two = subst AllUnyielding (sym t.second_runs.0) (tt, tt) in
    subst AllUnyielding (sym r.1.part_is) (of-append IsInTurn r.1.one r.1.two begin (subst AllUnyielding (sym t.part_is) (of-append IsInTurn t.one t.two (f r.1.middle t.one t.middle t.first_runs) end)))

-- a reference that is given up, the last or another one
given-up-unyielding : (d : Declared) (x : List ℕ) (names : Names) (part : List Entry) (last : Names) → RunsGivingUp d.types x any_batch names part last → AllUnyielding part
given-up-unyielding d x names part last (inl r) = subst AllUnyielding (sym r.part_is) (tt, (tt, tt))
given-up-unyielding d x names part last (inr r) =
    subst AllUnyielding (sym r.part_is)
    (tt, (tt, either-free AllUnyielding r.declared.counted r.class r.unit r.home r.batch r.own (free-unyielding r.class r.unit r.home r.own) (delay-unyielding r.class r.unit r.home r.batch r.own) r.frees))

-- calls on lists and trees
call-unyielding : (graph : List ℕ) (position : ℕ) (owner : List ℕ) (call : PastCall) → IsInTurn (call_entry graph position owner call)
call-unyielding graph position owner (past.PushFront id) = tt
call-unyielding graph position owner _ = tt

put-unyielding : (d : Declared) (way : Way) (g : MapId) (x : List ℕ) (names : Names) (part : List Entry) (last : Names) → RunsPutting d way g x any_batch names part last → AllUnyielding part
put-unyielding d way g x names part last (inl r) = subst AllUnyielding (sym r.part_is) (call-unyielding r.declared.name r.position [] (push_call way r.id 0), tt)
put-unyielding d way g x names part last (inr r) =
    subst AllUnyielding (sym r.part_is) (call-unyielding r.declared.name r.position r.owning.name (refused_push way r.id 0 r.owner), given-up-unyielding d x names r.own last r.gives_up)

mutual
  action-unyielding : (d : Declared) (i : Bool) (a : Action) → NeverYields a → (names : Names) (part : List Entry) (last : Names) → RunsAction d i a names part last → AllUnyielding part
  action-unyielding d i (New x t values) h names part last r = subst AllUnyielding (sym r.part_is) (tt, alloc-unyielding r.class r.own r.reply r.allocates)
  action-unyielding d i (Drop x) h names part last r = given-up-unyielding d x names part last r
  action-unyielding d i (If' x body otherwise) h names part last r =
      chosen-unyielding (names x) (RunsBlock d i body) (RunsElse d i otherwise) names part last (block-unyielding d i body h.0 names part last) (else-unyielding d i otherwise h.1 names part last) r
  action-unyielding d i (Repeat n body) h names part last r = times-unyielding (RunsBlock d i body) n names part last (block-unyielding d i body h) r
  action-unyielding d i (Section body) h names part last r = within-unyielding i (RunsBlock d true body) names part last (block-unyielding d true body h) r
  action-unyielding d i Yield h names part last r = absurd h
  action-unyielding d i (Acquire y x) h names part last r = subst AllUnyielding (sym r.part_is) (tt, tt)
  action-unyielding d i (Get x field) h names part last r = subst AllUnyielding (sym r.part_is) (tt, tt)
  action-unyielding d i (Exchange y slot x) h names part last r = subst AllUnyielding (sym r.part_is) (tt, tt)
  action-unyielding d i (Lock graph) h names part last r = subst AllUnyielding (sym r.part_is) (tt, tt)
  action-unyielding d i Unlock h names part last r = subst AllUnyielding (sym r.part_is) (tt, tt)
  action-unyielding d i (PushFront list x) h names part last r = put-unyielding d way.Front list x names part last r
  action-unyielding d i (PushBack list x) h names part last r = put-unyielding d way.Back list x names part last r
  action-unyielding d i (PopFront x list) h names part last r = subst AllUnyielding (sym r.part_is) (call-unyielding r.declared.name r.position [] (pop_call end_.Front r.item), tt)
  action-unyielding d i (PopBack x list) h names part last r = subst AllUnyielding (sym r.part_is) (call-unyielding r.declared.name r.position [] (pop_call end_.Back r.item), tt)
  action-unyielding d i (Add tree x) h names part last r = put-unyielding d way.Ordered tree x names part last r
  action-unyielding d i (First x tree) h names part last r = subst AllUnyielding (sym r.part_is) (call-unyielding r.declared.name r.position [] (first_call r.item), tt)
  action-unyielding d i (Remove y tree x) h names part last r = elim r.1 [
    | inl t ↦ subst AllUnyielding (sym t.part_is) (call-unyielding t.declared.name t.position [] (past.Remove t.id), tt)
    | inr t ↦ subst AllUnyielding (sym t.part_is) tt
  ]

  else-unyielding : (d : Declared) (i : Bool) (o : Held-Action-If-2) → ElseNeverYields o → (names : Names) (part : List Entry) (last : Names) → RunsElse d i o names part last → AllUnyielding part
  else-unyielding d i None' h names part last r = subst AllUnyielding (sym r.0) tt
  else-unyielding d i (Some' body) h names part last r = block-unyielding d i body h names part last r

  block-unyielding : (d : Declared) (i : Bool) (b : Block) → BlockNeverYields b → (names : Names) (part : List Entry) (last : Names) → RunsBlock d i b names part last → AllUnyielding part
  block-unyielding d i (Block' shape row end_line) h names part last r = row-unyielding d i row h names part last r

  row-unyielding : (d : Declared) (i : Bool) {m : _} (row : Row_of-Statement m) → RowNeverYields row → (names : Names) (part : List Entry) (last : Names) → RunsRow d i row names part last → AllUnyielding part
  row-unyielding d i end_of-Statement h names part last r = subst AllUnyielding (sym r.0) tt
  row-unyielding d i (more_of-Statement line action rest) h names part last r =
      subst AllUnyielding (sym r.part_is) (of-append IsInTurn r.one r.two (action-unyielding d i action h.0 names r.one r.middle r.first_runs) (row-unyielding (under (lock_after d.lock action) d) i rest h.1 r.middle r.two last r.second_runs))

-- ---- handlers

enclosed-unyielding : (w : ℕ) (part : List Entry) → AllUnyielding part → AllUnyielding (enclosed w part)
enclosed-unyielding w part h = elim (is_outside w) as (λ b. AllUnyielding (if b then entry.In Plain (w + 1) ∷ part ++ entry.Out Plain (w + 2) ∷ [] else part)) [
  | true ↦ (tt, of-append IsInTurn part (entry.Out Plain (w + 2) ∷ []) h (tt, tt))
  | false ↦ h
]

phrase-unyielding : (s : Parts) → AllAccepted s → (name : List ℕ) (w : ℕ) (own : List Entry) → HandlerPhrase s name w own → AllUnyielding own
phrase-unyielding s accepted name w own h =
    let never = handler-accepted s h.script h.handles (accepted h.index h.script h.found) in
    let runs = alone-owned (declared_in s) h.script.body held.no_names h.after h.part h.runs in
    subst AllUnyielding (sym h.own_is) (enclosed-unyielding w h.part (block-unyielding (declared_in s) true h.script.body never held.no_names h.part h.after runs))

handlers-unyielding : (s : Parts) → AllAccepted s → (es : List Entry) → AreHandlers s es → AllUnyielding es
handlers-unyielding s accepted _ none = tt
handlers-unyielding s accepted _ (more {own = own} {rest = rest} name w p h) = (
  tt,
  of-append IsInTurn own (entry.Back name ∷ rest) (phrase-unyielding s accepted name w own p) (tt, handlers-unyielding s accepted rest h),
)

-- So no entry above ordinary code is a yield, where the handlers of a checked scenario stand where they are due and leave their phrases.
pub handlers-yield-not : (s : Parts) (p : ℕ) (log : Log) → AllAccepted s → HandlersStand s p log → HandlersDone s p log → AllAbove IsInTurn log
handlers-yield-not s p log accepted stand done = each-above IsInTurn log (λ l up. handlers-unyielding s accepted (own_entries l log) (levels s p log stand done l up))
