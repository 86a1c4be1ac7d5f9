-- The wrong journals with deferred work are not lawful.
use Rattle.std.proofs.Common.{true, ◌≡◌, ℕ, zero, suc, ◌+◌, inl, inr, List, [], ◌∷◌, ◌++◌, Option, Some, None, refl, sym, ap, subst, ◌∙◌, append_assoc, codes, lit≤}
use Rattle.bm_class.specs.Sizes.{class_of_size, size_of_class}
use Rattle.bm_class.specs.Watermarks.{low_of_size}
use Rattle.bm_journal.specs.declared.ids.Domain.TheVariants.{Plain}
use Rattle.bm_journal.specs.declared.units.Units.TheVariants.{Whole}
use Rattle.bm_journal.specs.declared.entry.Entry.{Entry}
use Rattle.bm_journal.specs.declared.entry.Entry.TheVariants as entry
use Rattle.bm_lang.specs.declared.scenario.Block.{Block}
use Rattle.bm_lang.specs.declared.scenario.Script.{Script}
use Rattle.bm_page.specs.Stock.{fetched}
use Rattle.bm_law.specs.State.{State, opening}
use Rattle.bm_law.specs.Lists.{Log, after}
use Rattle.bm_law.specs.Phrases.{given, raise_below, alloc_took}
use Rattle.bm_law.specs.Spans.{own_entries}
use Rattle.bm_law.proofs.Alone.{level-own}
use Rattle.bm_law_work.specs.Parts.{Part, Nothing, Stand, Say, Then}
use Rattle.bm_law_work.specs.WorkPhrases.{IsOne, Receive, Balance, FirstStage, SecondStage, Work}
use Rattle.bm_law_scenario.specs.Declared.{declared_in, unmapped}
use Rattle.bm_law_scenario.specs.Held.{Names, no_names}
use Rattle.bm_law_scenario.specs.Fills.{AreFills, fresh_stock, numbers_of, prefill}
use Rattle.bm_law_scenario.specs.Calls.{Allocates, RunsNew}
use Rattle.bm_law_scenario.specs.Works.{WorksBy, UntilDown, WorkEach, WorkBehind}
use Rattle.bm_law_scenario.specs.Runs.{Run, Leaving, Done, Followed, Calls, RunsBlock}
use Rattle.bm_law_scenario.specs.Closing.{EndsPeriods, AreSweeps}
use Rattle.bm_law_scenario.specs.Grammar.{IsBody, IsScript, AreScripts, Front, behind_script}
use Rattle.bm_law.specs.Ordinary.{ordinary}
use Rattle.bm_law_scenario.specs.Lawful.{LawfulLogs, LawfulLog}
use Rattle.bm_law_scenario.specs.WorkedJournal.{vector_of, block_of, x_name, item_id, script_of, drops_x_unless_null}
use Rattle.bm_law_scenario.specs.WorkedDeferred.{block, with_work, makes_block, makes_and_drops_block, one_block, makes_never, no_block, begins, takes, work_reads, refills, work_ends, stops, closes}
use Rattle.bm_law_scenario.specs.WrongDeferred.{left_out_log, left_out, not_asked_log, not_asked, not_behind_log, not_behind}
use Rattle.bm_law_scenario.proofs.Ordinary.{stood, said, parted, cut-of}
use Rattle.bm_law_scenario.proofs.BlockParts.{RunsList, block-parts}
use Rattle.bm_law_scenario.proofs.OpeningBlock.{first-block}
use Rattle.bm_law_scenario.proofs.Told.{first-word, same-script}
use Rattle.bm_law_scenario.proofs.Unslotted.{BareClosing, closing-bare}

-- works until the flag of the one class is down
abbrev until : Part
until = UntilDown (10 ∷ [])

-- the lists behind the opening and the script's beginning
abbrev begun : State ℕ
begun = after (opening 0) (ordinary begins)

-- the log of one plain script with this body and of its works: what its block left, and what stands behind that
record IsWorked (body : Block) (es : List Entry) : Type 0 where
  main : List Entry
  names : Names
  work : List Entry
  rest : List Entry
  lists : State ℕ
  own_is : es ≡ begins ++ (main ++ (stops ++ (work ++ (entry.Ended ∷ entry.Close ∷ rest))))
  runs : RunsBlock (unmapped (block ∷ [])) 0 true until body no_names names begun (ordinary main)
  behind : WorkBehind (10 ∷ []) lists (ordinary work)

-- what a script left in its section with word n
record IsRun (body : Block) (n : ℕ) (s : State ℕ) (es : List Entry) : Type 0 where
  main : List Entry
  names : Names
  work : List Entry
  lists : State ℕ
  own_is : es ≡ entry.Script (codes "main") ∷ entry.In Plain n ∷ main ++ ((entry.Out Plain (n + 1) ∷ entry.Done (codes "main") ∷ []) ++ work)
  runs : RunsBlock (unmapped (block ∷ [])) 0 true until body no_names names (after s (ordinary (entry.Script (codes "main") ∷ entry.In Plain n ∷ []))) (ordinary main)
  behind : WorkBehind (10 ∷ []) lists (ordinary work)

run-of : (body : Block) (n : ℕ) (s : State ℕ) (es : List Entry) → IsScript (with_work body) (script_of 6 (codes "main") body) n s (ordinary es) → IsRun body n s es
unfolding class_of_size
run-of body n s es h =
    let head : List Entry = entry.Script (codes "main") ∷ entry.In Plain n ∷ [] in
    let last : List Entry = entry.Out Plain (n + 1) ∷ entry.Done (codes "main") ∷ [] in
    let x = script_of 6 (codes "main") body in
    let w = with_work body in
    let t = parted (Stand 0 head) (Then (IsBody w x) (Then (Stand 0 last) (behind_script w))) s es h in
    let s1 = after s (ordinary t.left) in
    let u = parted (IsBody w x) (Then (Stand 0 last) (behind_script w)) s1 t.right t.is_second in
    let s2 = after s1 (ordinary u.left) in
    let v = parted (Stand 0 last) (behind_script w) s2 u.right u.is_second in
    let first : t.left ≡ head = stood head s t.left t.is_first in
    let names : Names = u.is_first.0 in
    let runs : RunsBlock (unmapped (block ∷ [])) 0 true until body no_names names s1 (ordinary u.left) = u.is_first.1 in
    record {
      main = u.left;
      names = names;
      work = v.right;
      lists = after s2 (ordinary v.left);
      own_is = t.whole ∙ ap (λ z. z ++ t.right) first ∙ ap (λ z. head ++ z) (u.whole ∙ ap (λ z. u.left ++ z) (v.whole ∙ ap (λ z. z ++ v.right) (stood last s2 v.left v.is_first)));
      runs = subst (λ z. RunsBlock (unmapped (block ∷ [])) 0 true until body no_names names (after s (ordinary z)) (ordinary u.left)) first runs;
      behind = v.is_second;
    }

joined : (f : Entry) (v w x y : List Entry) → (f ∷ []) ++ (((entry.Script (codes "main") ∷ entry.In Plain 1 ∷ v ++ (stops ++ w)) ++ x) ++ y) ≡ f ∷ entry.Script (codes "main") ∷ entry.In Plain 1 ∷ v ++ (stops ++ (w ++ (x ++ y)))
joined f v w x y = simp append_assoc

worked-of : (body : Block) (es : List Entry) → LawfulLog (with_work body) 0 (ordinary es) → IsWorked body es
unfolding class_of_size
worked-of body es h =
    let s = with_work body in
    let i = h.is_log in
    let start : State ℕ = opening 0 in
    let x = cut-of es i.front i.closing i.log_is in
    let F : Log → Type 0 = λ v. Front s 0 start v in
    let fills : List Entry → Type 0 = AreFills (10 ∷ []) (fresh_stock 2) in
    let t = parted (Say 0 fills) (AreScripts s s.runs) start x.left (subst F x.one_is i.is_front) in
    let f : (rest : List Entry) × (t.left ≡ entry.Fill 10 (Whole (numbers_of (fetched 10 (prefill 10) (fresh_stock 2)).units)) ∷ rest) × (rest ≡ []) = said fills start t.left t.is_first in
    let fill : t.left ≡ entry.Fill 10 (Whole (0 ∷ [])) ∷ [] = f.1 ∙ (λ k. entry.Fill 10 (Whole (first-block k)) ∷ f.2 k) in
    let r = t.is_second in
    let s1 = after start (ordinary t.left) in
    let q = parted (IsScript s r.0 r.2) (AreScripts s []) s1 t.right r.3 in
    let none : q.right ≡ [] = sym (level-own 0 q.right) ∙ ap (own_entries 0) q.is_second in
    let P : Script → Type 0 = λ z. IsScript s z r.2 s1 (ordinary q.left) in
    let k0 = run-of body r.2 s1 q.left (subst P (sym (same-script r.1)) q.is_first) in
    let inside : List Entry = k0.main ++ ((entry.Out Plain (r.2 + 1) ∷ entry.Done (codes "main") ∷ []) ++ k0.work) in
    let begins : es ≡ entry.Fill 10 (Whole (0 ∷ [])) ∷ entry.Script (codes "main") ∷ entry.In Plain r.2 ∷ ((inside ++ q.right) ++ x.right) =
    x.whole ∙ ap (λ z. z ++ x.right) (t.whole ∙ ap (λ z. z ++ t.right) fill ∙ ap (λ z. (entry.Fill 10 (Whole (0 ∷ [])) ∷ []) ++ z) (q.whole ∙ ap (λ z. z ++ q.right) k0.own_is)) in
    let word : r.2 ≡ 1 = first-word r.2 (entry.Fill 10 (Whole (0 ∷ []))) (entry.Script (codes "main")) es ((inside ++ q.right) ++ x.right) refl refl begins h.words in
    let k : IsRun body 1 s1 q.left = subst (λ n. IsRun body n s1 q.left) word k0 in
    let G : Log → Log → Type 0 = λ v w. BareClosing 0 (10 ∷ []) v (after start v) w in
    let close : G (ordinary x.left) (ordinary x.right) = subst (λ w. G (ordinary x.left) w) x.two_is (subst (λ v. G v i.closing) x.one_is (closing-bare (declared_in s) 0 (10 ∷ []) i.front (after start i.front) i.closing refl i.is_closing)) in
    let last = after start (ordinary x.left) in
    let c = parted (Stand 0 (entry.Ended ∷ entry.Close ∷ [])) (Then (EndsPeriods (ordinary x.left)) (AreSweeps (10 ∷ []))) last x.right close in
    record {
      main = k.main;
      names = k.names;
      work = k.work;
      rest = c.right;
      lists = k.lists;
      own_is = x.whole ∙ ap (λ z. z ++ x.right) (t.whole ∙ ap (λ z. z ++ t.right) fill ∙ ap (λ z. (entry.Fill 10 (Whole (0 ∷ [])) ∷ []) ++ z) (q.whole ∙ ap (λ z. q.left ++ z) none ∙ ap (λ z. z ++ []) k.own_is))
          ∙ ap (λ z. ((entry.Fill 10 (Whole (0 ∷ [])) ∷ []) ++ ((entry.Script (codes "main") ∷ entry.In Plain 1 ∷ k.main ++ (stops ++ k.work)) ++ [])) ++ z) (c.whole ∙ ap (λ z. z ++ c.right) (stood _ last c.left c.is_first))
          ∙ joined (entry.Fill 10 (Whole (0 ∷ []))) k.main k.work [] (entry.Ended ∷ entry.Close ∷ c.right);
      runs = subst (λ z. RunsBlock (unmapped (block ∷ [])) 0 true until body no_names k.names (after (after start (ordinary z)) (ordinary (entry.Script (codes "main") ∷ entry.In Plain 1 ∷ []))) (ordinary k.main)) fill k.runs;
      behind = k.behind;
    }

behind-three : {a b c d e f : Entry} {v w : List Entry} → a ∷ b ∷ c ∷ v ≡ d ∷ e ∷ f ∷ w → v ≡ w
behind-three e = cc

-- a work begins with its entry
work-begins : (s : State ℕ) (es : List Entry) → Work 0 10 s (ordinary es) → (more : List Entry) × (es ≡ entry.Work 10 ∷ more)
work-begins s es h =
    let t = parted (Say 0 (IsOne (entry.Work 10))) (Then (Receive 0 10 64) (Then (Balance 0 10) (Then (FirstStage 0 10) (SecondStage 0 10)))) s es h in
    (t.right, t.whole ∙ ap (λ z. z ++ t.right) (said (IsOne (entry.Work 10)) s t.left t.is_first))

-- ---- no object

-- where nothing is made and no flag is up, the block leaves nothing
leaves-nothing : (names : Names) (main : List Entry) → RunsBlock (unmapped (block ∷ [])) 0 true until (block_of (makes_never ∷ []) (lit≤ tt) 9) no_names names begun (ordinary main) → main ≡ []
leaves-nothing names main h =
    let list : RunsList (unmapped (block ∷ [])) 0 until (makes_never ∷ []) no_names names begun (ordinary main) =
    subst (λ (run : Run). run no_names names begun (ordinary main)) (block-parts (unmapped (block ∷ [])) 0 until (vector_of (makes_never ∷ []) (lit≤ tt)) 9) h in
    let t = parted (Followed Done (Leaving until) no_names list.0) (Done list.0 names) begun main list.1 in
    let u = parted (Done no_names t.is_first.0) (Leaving until t.is_first.0 list.0) begun t.left t.is_first.1 in
    let one : u.left ≡ [] = sym (level-own 0 u.left) ∙ ap (own_entries 0) u.is_first.1 in
    let U : List Entry → Type 0 = λ z. until (after begun (ordinary z)) (ordinary u.right) in
    let two : u.right ≡ [] = none-stands u.right (subst U one u.is_second.1) in
    let three : t.right ≡ [] = sym (level-own 0 t.right) ∙ ap (own_entries 0) t.is_second.1 in
    t.whole ∙ ap (λ z. z ++ t.right) (u.whole ∙ ap (λ z. z ++ u.right) one ∙ two) ∙ three
  where
    none-by : (n : ℕ) (es : List Entry) → WorksBy (10 ∷ []) n begun (ordinary es) → es ≡ []
    none-by zero es h = sym (level-own 0 es) ∙ ap (own_entries 0) h.1
    none-by (suc n) es h = absurd h

    none-stands : (es : List Entry) → until begun (ordinary es) → es ≡ []
    none-stands es h = none-by h.0 es h.1

work-out : (c w : ℕ) (v v' : List Entry) → entry.Work c ∷ v ≡ entry.Out Plain w ∷ v' → ⊥
work-out c w v v' e = cc

pub not_asked-wrong : LawfulLogs no_block not_asked → ⊥
not_asked-wrong h =
    let later : List Entry = entry.Receive 10 (Whole []) ∷ entry.Read 10 1 ∷ refills 2 ++ work_ends ++ stops ++ work_reads 2 ++ work_ends ++ closes (256 ∷ 0 ∷ []) in
    let k = worked-of _ (begins ++ entry.Work 10 ∷ later) (h.logs 0 not_asked_log refl) in
    let main = leaves-nothing k.names k.main k.runs in
    work-out 10 2 _ _ (behind-three k.own_is ∙ ap (λ z. z ++ (stops ++ (k.work ++ (entry.Ended ∷ entry.Close ∷ k.rest)))) main)

ended-work : (c : ℕ) (v v' : List Entry) → entry.Out Plain 2 ∷ entry.Done (codes "main") ∷ entry.Ended ∷ v ≡ entry.Out Plain 2 ∷ entry.Done (codes "main") ∷ entry.Work c ∷ v' → ⊥
ended-work c v v' e = cc

pub not_behind-wrong : LawfulLogs no_block not_behind → ⊥
not_behind-wrong h =
    let k = worked-of _ (begins ++ stops ++ closes (0 ∷ [])) (h.logs 0 not_behind_log refl) in
    let main = leaves-nothing k.names k.main k.runs in
    let t = parted (WorkEach (10 ∷ [])) until k.lists k.work k.behind in
    let u = parted (Work 0 10) Nothing k.lists t.left t.is_first in
    let w = work-begins k.lists u.left u.is_first in
    let work : k.work ≡ entry.Work 10 ∷ ((w.0 ++ u.right) ++ t.right) = t.whole ∙ ap (λ z. z ++ t.right) (u.whole ∙ ap (λ z. z ++ u.right) w.1) in
    ended-work 10 _ _ (behind-three k.own_is ∙ ap (λ z. z ++ (stops ++ (k.work ++ (entry.Ended ∷ entry.Close ∷ k.rest)))) main ∙ ap (λ z. stops ++ (z ++ (entry.Ended ∷ entry.Close ∷ k.rest))) work)

-- ---- one object

-- the reply gives unit 0 in its first life
given-is : (life : ℕ) (seal : Option (ℕ × ℕ)) (rest more : List Entry) → entry.Raise 10 ∷ given 0 life seal ∷ rest ≡ entry.Raise 10 ∷ entry.Given 0 1 ∷ more → (given 0 life seal ≡ entry.Given 0 1) × (rest ≡ more)
given-is life None rest more e = (cc, cc)
given-is life (Some seal) rest more e = absurd (cc)

took : (c u k a : ℕ) (v w : List Entry) → entry.Enter c 1 ∷ entry.Pop c u ∷ entry.Count c k ∷ entry.Leave c a ∷ v ≡ entry.Enter 10 1 ∷ entry.Pop 10 0 ∷ entry.Count 10 0 ∷ entry.Leave 10 0 ∷ w → (c ≡ 10) × (u ≡ 0) × (k ≡ 0) × (a ≡ 0) × (v ≡ w)
took c u k a v w e = (cc, cc, cc, cc, cc)

-- the allocation
abbrev taken : List Entry
taken = entry.Enter 10 1 ∷ entry.Pop 10 0 ∷ entry.Count 10 0 ∷ entry.Leave 10 0 ∷ entry.Raise 10 ∷ entry.Given 0 1 ∷ []

no-empty : (c a : ℕ) (v w : List Entry) → entry.Enter c 1 ∷ entry.PopNone c ∷ v ≡ entry.Enter 10 1 ∷ entry.Pop 10 0 ∷ w → ⊥
no-empty c a v w e = cc

no-busy : (c b a : ℕ) (v w : List Entry) → entry.Enter c b ∷ entry.Leave c a ∷ v ≡ entry.Enter 10 1 ∷ entry.Pop 10 0 ∷ w → ⊥
no-busy c b a v w e = cc

alloc-taken : (c u life k a : ℕ) (seal : Option (ℕ × ℕ)) (rest more : List Entry) → alloc_took c u life seal k a ++ rest ≡ taken ++ more → (alloc_took c u life seal k a ≡ taken) × (rest ≡ more)
unfolding size_of_class low_of_size
alloc-taken c u life k a seal rest more e =
    let b = took c u k a ((raise_below c k ++ given u life seal ∷ []) ++ rest) (entry.Raise 10 ∷ entry.Given 0 1 ∷ more) e in
    let at : ℕ → ℕ → ℕ → Type 0 = λ c u k. (raise_below c k ++ given u life seal ∷ []) ++ rest ≡ entry.Raise 10 ∷ entry.Given 0 1 ∷ more in
    let g = given-is life seal rest more (subst (λ k. at 10 0 k) b.2 (subst (λ u. at 10 u k) b.1 (subst (λ c. at c u k) b.0 b.4))) in
    ((λ i. alloc_took (b.0 i) (b.1 i) life seal (b.2 i) (b.3 i)) ∙ ap (λ r. entry.Enter 10 1 ∷ entry.Pop 10 0 ∷ entry.Count 10 0 ∷ entry.Leave 10 0 ∷ entry.Raise 10 ∷ r ∷ []) g.0, g.1)

call-taken : (c : ℕ) (own : List Entry) (reply : Option (ℕ × ℕ)) (rest more : List Entry) → Allocates c own reply → own ++ rest ≡ taken ++ more → (own ≡ taken) × (rest ≡ more)
call-taken c own None rest more (inl y) e = absurd (no-empty c y.0 _ _ (ap (λ v. v ++ rest) (sym y.1) ∙ e))
call-taken c own None rest more (inr y) e = absurd (no-busy c y.0 y.1 _ _ (ap (λ v. v ++ rest) (sym y.3) ∙ e))
call-taken c own (Some o) rest more y e =
    let g = alloc-taken c o.0 o.1 y.1 y.2 y.0 rest more (ap (λ v. v ++ rest) (sym y.3) ∙ e) in
    (y.3 ∙ g.0, g.1)

same-call : {a b : Entry} {v w : List Entry} → a ∷ v ≡ b ∷ w → (a ≡ b) × (v ≡ w)
same-call e = (cc, cc)

drop-work : (u n c : ℕ) (v v' : List Entry) → entry.Drop u n ∷ v ≡ entry.Work c ∷ v' → ⊥
drop-work u n c v v' e = cc

some-none : {a : ℕ} → Some a ≡ None → ⊥
some-none e = cc

-- behind the call a work stands, and no drop
works-first : (n : ℕ) (es rest more : List Entry) → WorksBy (10 ∷ []) n (after begun (ordinary takes)) (ordinary es) → es ++ rest ≡ entry.Drop 0 1 ∷ more → ⊥
works-first zero es rest more h e = some-none h.0
works-first (suc n) es rest more h e =
    let s = after begun (ordinary takes) in
    let t = parted (Work 0 10) (WorksBy (10 ∷ []) n) s es h in
    let w = work-begins s t.left t.is_first in
    drop-work 0 1 10 _ _ (sym e ∙ ap (λ z. z ++ rest) (t.whole ∙ ap (λ z. z ++ t.right) w.1))

-- what stands behind the call
record Called (s : State ℕ) (main tail later : List Entry) : Type 0 where
  works : List Entry
  rest : List Entry
  until_down : until (after s (ordinary takes)) (ordinary works)
  more_is : works ++ rest ≡ later

called-of : (names : Names) (s : State ℕ) (main tail later : List Entry) → RunsBlock (unmapped (block ∷ [])) 0 true until makes_and_drops_block no_names names s (ordinary main) → takes ++ later ≡ main ++ tail → Called s main tail later
called-of names s main tail later h e =
    let rest : Run = RunsList (unmapped (block ∷ [])) 0 until (drops_x_unless_null 8 ∷ []) in
    let new : Run = Calls 0 (RunsNew (block ∷ []) x_name item_id []) in
    let list : Followed (Followed new (Leaving until)) rest no_names names s (ordinary main) =
    subst (λ (run : Run). run no_names names s (ordinary main)) (block-parts (unmapped (block ∷ [])) 0 until (vector_of (makes_block ∷ drops_x_unless_null 8 ∷ []) (lit≤ tt)) 9) h in
    let t = parted (Followed new (Leaving until) no_names list.0) (rest list.0 names) s main list.1 in
    let u = parted (new no_names t.is_first.0) (Leaving until t.is_first.0 list.0) s t.left t.is_first.1 in
    let n = said (λ own. RunsNew (block ∷ []) x_name item_id [] no_names own t.is_first.0) s u.left u.is_first in
    let whole : main ++ tail ≡ (entry.New n.declared.name [] ∷ n.own) ++ (u.right ++ (t.right ++ tail)) =
    ap (λ z. z ++ tail) (t.whole ∙ ap (λ z. z ++ t.right) (u.whole ∙ ap (λ z. z ++ u.right) n.part_is))
    ∙ append_assoc ((entry.New n.declared.name [] ∷ n.own) ++ u.right) t.right tail ∙ append_assoc (entry.New n.declared.name [] ∷ n.own) u.right (t.right ++ tail) in
    let c = same-call (e ∙ whole) in
    let g = call-taken n.class n.own n.reply (u.right ++ (t.right ++ tail)) later n.allocates (sym c.1) in
    let left : u.left ≡ takes = n.part_is ∙ (λ i. sym c.0 i ∷ g.0 i) in
    let U : List Entry → Type 0 = λ z. until (after s (ordinary z)) (ordinary u.right) in
    record { works = u.right; rest = t.right ++ tail; until_down = subst U left u.is_second.1; more_is = g.1 }

works-behind : (names : Names) (main tail more : List Entry) → RunsBlock (unmapped (block ∷ [])) 0 true until makes_and_drops_block no_names names begun (ordinary main) → takes ++ entry.Drop 0 1 ∷ more ≡ main ++ tail → ⊥
works-behind names main tail more h e =
    let c = called-of names begun main tail (entry.Drop 0 1 ∷ more) h e in
    works-first c.until_down.0 c.works c.rest more c.until_down.1 c.more_is

pub left_out-wrong : LawfulLogs one_block left_out → ⊥
left_out-wrong h =
    let later : List Entry = entry.Last ∷ entry.Free 0 0 ∷ entry.Enter 10 1 ∷ entry.Push 10 0 ∷ entry.Count 10 1 ∷ entry.Leave 10 0 ∷ stops ++ work_reads 1 ++ refills 2 ++ work_ends ++ closes (256 ∷ 0 ∷ []) in
    let k = worked-of makes_and_drops_block (begins ++ takes ++ entry.Drop 0 1 ∷ later) (h.logs 0 left_out_log refl) in
    works-behind k.names k.main (stops ++ (k.work ++ (entry.Ended ∷ entry.Close ∷ k.rest))) later k.runs (behind-three k.own_is)
