-- A processor goes on with what remains.
use Rattle.std.proofs.Common.{◌≡◌, ◌≤◌, ◌+◌, ◌*◌, ℕ, ◌++◌, ◌∷◌, [], List, Option, Some, None, IfSome, append_assoc, ap, arith, refl, subst, sym, ◌∙◌}
use Rattle.bm_journal.specs.declared.entry.Entry.{Entry}
use Rattle.bm_journal.specs.declared.entry.Entry.TheVariants as entry
use Rattle.bm_lang.specs.declared.scenario.Parts.{Parts}
use Rattle.bm_lang.specs.declared.scenario.Script.{Script}
use Rattle.bm_law.specs.Lists.{Leaves, Log, after}
use Rattle.bm_law.specs.State.{State, opening}
use Rattle.bm_law.proofs.Folds.{after-append}
use Rattle.bm_law_work.specs.Grown.{GrewBy, GrewPart}
use Rattle.bm_law_work.specs.Parts.{Part, Stand, Then}
use Rattle.bm_law_work.proofs.Grown.{grew-join}
use Rattle.bm_law_scenario.specs.Declared.{declared_in}
use Rattle.bm_law_scenario.specs.Grammar.{AreScripts, IsBody, IsScript, behind_script, behind_statement, section_of, starts_inside}
use Rattle.bm_law_scenario.specs.Held.{no_names}
use Rattle.bm_law_scenario.specs.Runs.{RunsBlock}
use Rattle.bm_world.specs.LivingState.{LivingState}
use Rattle.bm_world.specs.ToldLiving.{knows_living}
use Rattle.bm_exec.specs.Lists.{Behind}
use Rattle.bm_exec.specs.Yields.{AllInTurn, Unyielding}
use Rattle.bm_exec_levels.specs.AtProcessor.{lists_of, log_of}
use Rattle.bm_exec_levels.specs.Ordinary.{Ordinary}
use Rattle.bm_exec_levels.specs.Ready.{known_of, word_of}
use Rattle.bm_exec_levels.specs.Sound.{Sound}
use Rattle.bm_exec_levels.specs.Stated.{ordinary-joined}
use Rattle.bm_exec_levels.specs.declared.processor.Processor.{Processor}
use Rattle.bm_exec_levels.specs.declared.program.Program.{Program}
use Rattle.bm_exec_levels.proofs.Yields.{behind-unyielding}
use Rattle.bm_exec_levels.specs.Slotted.{in_hands}
use Rattle.bm_run.specs.Lines.{AreDeclared, BehindScript, lines_cost, works_for}
use Rattle.bm_run.specs.Turns.{Advanced, EndsScript, HasBegun, HasEnded, HasRun, IsNextOf, RunsBlocks, RunsOn, StillRuns, WentOn, around_in, begun_cost, begun_weight, cost_left, domain_of, lines_left, owned_by, weight_left}
use Rattle.bm_run.specs.declared.turns.Begun.{Begun}
use Rattle.bm_run.specs.declared.turns.Remaining.{Remaining}
use Rattle.bm_run.proofs.Lines.{behind-scripts, behind-statements}

-- ---- what yields nothing

pub stand-unyielding : (own : List Entry) (s : State ℕ) (a b : Option Log) → AllInTurn own → GrewBy (Stand 0 own) s a b → Unyielding 0 a b
stand-unyielding own s a None n h = record { own = []; none = tt; records = tt }
stand-unyielding own s a (Some now) n h = record { own = own; none = n; records = record { log = h.log; told = h.told; added = h.added; now_is = h.now_is; from = h.is_part.from; owned = h.is_part.own_is } }

-- the deferred work after a script
pub script-unyielding : (w : Option (List ℕ)) (s : State ℕ) (a b : Option Log) → GrewBy (BehindScript w) s a b → Unyielding 0 a b
script-unyielding None s a None h = record { own = []; none = tt; records = tt }
script-unyielding None s a (Some now) h = stand-unyielding [] s a (Some now) tt (record { log = h.log; told = h.told; added = h.added; now_is = h.now_is; is_part = rw h.is_part (record { from = tt; own_is = refl }) })
script-unyielding (Some classes) s a b h = behind-unyielding classes s a b h

-- ---- parts

-- Where some stretch adds, before any part, to a part another one, it does so before what follows.
pub grew-inner : (P Q E : Part) (p : ℕ) (s t : State ℕ) (a b c : Option Log) → IfSome a (λ es. Leaves p es s) → IfSome b (λ es. Leaves p es t) → ((mid : Option Log) → GrewBy P t b mid → GrewBy Q s a mid) → GrewBy (Then P E) t b c → GrewBy (Then Q E) s a c
grew-inner P Q E p s t a b None x y f h = tt
grew-inner P Q E p s t a b (Some now) x y f h =
    let part = h.is_part in
    let g : GrewPart Q s a (h.log ++ part.one) = f (Some (h.log ++ part.one)) (record { log = h.log; told = h.told; added = part.one; now_is = refl; is_part = part.is_first }) in
    let L : State ℕ → Option Log → Type 0 = λ v o. IfSome o (λ es. Leaves p es v) in
    let ls : Leaves p g.log s = subst (L s) g.told x in
    let lt : Leaves p h.log t = subst (L t) h.told y in
    let same : after s g.added ≡ after t part.one =
    ap (λ v. after v g.added) (sym ls.lists) ∙ (sym (after-append (opening p) g.log g.added) ∙ (ap (after (opening p)) (sym g.now_is) ∙ (after-append (opening p) h.log part.one ∙ ap (λ v. after v part.one) lt.lists))) in
    let S : State ℕ → Type 0 = λ v. E v part.two in
    record {
      log = g.log;
      told = g.told;
      added = g.added ++ part.two;
      now_is =
          h.now_is ∙ (ap (λ z. h.log ++ z) part.part_is ∙ (sym (append_assoc h.log part.one part.two) ∙ (ap (λ z. z ++ part.two) g.now_is ∙ append_assoc g.log g.added part.two)));
      is_part = record { one = g.added; two = part.two; part_is = refl; is_first = g.is_part; is_second = subst S (sym same) part.is_second };
    }

-- what is recorded leaves the lists
told-at : (p : Program) (m : Processor LivingState) → Sound knows_living p m → (n : ℕ) → m.caches.processor ≡ n → IfSome (log_of m) (λ es. Leaves n es (lists_of m))
told-at p m s n e = subst (λ k. IfSome (log_of m) (λ es. Leaves k es (lists_of m))) e s.fine.placed.told

same-caches : (p : Program) (a b : Processor LivingState) → Sound knows_living p a → Sound knows_living p b → Ordinary knows_living a b → b.caches.processor ≡ a.caches.processor
same-caches p a b sa sb o = sb.at.ready.here ∙ (o.processor ∙ sym sa.at.ready.here)

-- ---- a script begins

-- what it leaves, with its block and its end, is the script
begun-is : (s : Parts) (w : Option (List ℕ)) (script : Script) (before now : Processor LivingState) (b : Begun) → w ≡ works_for s → HasBegun s w script before now b → (l : State ℕ) (one two : Log) →
    Stand 0 (entry.Script script.name ∷ entry.In (section_of script.kind) (word_of knows_living (section_of script.kind) now) ∷ []) l one → RunsOn s w now b (after l one) two → IsScript s script (word_of knows_living (section_of script.kind) now) l (one ++ two)
begun-is s w script before now b f h l one two i j =
    let word = word_of knows_living (section_of script.kind) now in
    let v = after l one in
    let statements : Behind w ≡ behind_statement s = ap Behind f ∙ behind-statements s in
    let scripts : BehindScript w ≡ behind_script s = ap BehindScript f ∙ behind-scripts s in
    let r = h.runs v j.one j.is_first in
    let body : IsBody s script v j.one = (r.0, subst (λ (P : Part). RunsBlock (declared_in s) 0 (starts_inside script) P script.body no_names r.0 v j.one) statements r.1, r.2) in
    let F : Script → Type 0 = λ x. EndsScript w x (word_of knows_living (section_of x.kind) now) (after v j.one) j.two in
    let ends : EndsScript w script word (after v j.one) j.two = subst F h.same j.is_second in
    let stop : Part = Stand 0 (entry.Out (section_of script.kind) (word + 1) ∷ entry.Done script.name ∷ []) in
    let last : Then stop (behind_script s) (after v j.one) j.two = subst (λ (P : Part). Then stop P (after v j.one) j.two) scripts ends in
    record { one = one; two = two; part_is = refl; is_first = i; is_second = record { one = j.one; two = j.two; part_is = j.part_is; is_first = body; is_second = last } }

pub begun-grew : (s : Parts) (w : Option (List ℕ)) (script : Script) (p : Program) (before now : Processor LivingState) (b : Begun) (r r' : Remaining) → w ≡ works_for s → Sound knows_living p before → Sound knows_living p now → HasBegun s w script before now b → IsNextOf s script r r' → (final : Option Log) →
    GrewBy (Then (RunsOn s w now b) (AreScripts s (lines_left r'))) (lists_of now) (log_of now) final → GrewBy (AreScripts s (lines_left r)) (lists_of before) (log_of before) final
begun-grew s w script p before now b r r' f sa sb h n final more =
    let word = word_of knows_living (section_of script.kind) now in
    let head : Part = Stand 0 (entry.Script script.name ∷ entry.In (section_of script.kind) word ∷ []) in
    let rest : Part = AreScripts s (lines_left r') in
    let all : GrewBy (AreScripts s (n.line ∷ lines_left r')) (lists_of before) (log_of before) final =
    grew-join head (Then (RunsOn s w now b) rest) (AreScripts s (n.line ∷ lines_left r')) before.caches.processor (lists_of before) (lists_of now) (log_of before) (log_of now) final
    (λ one two i j. (
      script,
      n.found,
      word,
      record {
        one = one ++ j.one;
        two = j.two;
        part_is = ap (λ z. one ++ z) j.part_is ∙ sym (append_assoc one j.one j.two);
        is_first = begun-is s w script before now b f h (lists_of before) one j.one i j.is_first;
        is_second = subst (λ v. rest v j.two) (sym (after-append (lists_of before) one j.one)) j.is_second;
      },
    )) (told-at p before sa before.caches.processor refl) (told-at p now sb before.caches.processor (same-caches p before now sa sb h.wrote.ordinary)) h.wrote.grew more in
    subst (λ ls. GrewBy (AreScripts s ls) (lists_of before) (log_of before) final) (sym n.next) all

abbrev with_begun : Option Begun → Remaining → Remaining
with_begun o r = record r { begun = o }

-- nothing has begun: what remains goes on with the script of the next line
pub advanced-begun : (s : Parts) (w : Option (List ℕ)) (script : Script) (p : Program) (before now : Processor LivingState) (b : Begun) (r r' : Remaining) → w ≡ works_for s → Sound knows_living p before → Sound knows_living p now → r.begun ≡ None → r'.processor ≡ r.processor → HasBegun s w script before now b → IsNextOf s script r r' → AreDeclared s r'.lines.now →
    Advanced s w before r now (record r' { begun = Some b }) × (weight_left s (record r' { begun = Some b }) ≤ weight_left s r)
advanced-begun s w script p before now b r r' f sa sb e q h n d = (
  record {
    grew = λ final more. subst (λ (o : Option Begun). GrewBy (StillRuns s w before (with_begun o r)) (lists_of before) (log_of before) final) (sym e) (begun-grew s w script p before now b r r' f sa sb h n final more);
    ordinary = h.wrote.ordinary;
    can = record { stands = h.stands; declared = d };
    owns = λ base x. h.owns base (subst (λ (o : Option Begun). owned_by s base (in_hands (known_of knows_living before).objects) o) e x);
    used = (let u = h.used in let c = h.cost in let k = n.cost in let left = cost-none in omega (arith, u, c, k, left, same-cost));
  },
  (let k = n.cost in let l = h.light in let left = weight-none in omega (arith, k, l, left, same-cost)),
)
  where
    cost-none : cost_left s r ≡ 3 * lines_cost r.processor s.scripts r.lines.now
    cost-none = (let z = ap begun_cost e in omega (arith, z))

    weight-none : weight_left s r ≡ 2 * lines_cost r.processor s.scripts r.lines.now
    weight-none = (let z = ap begun_weight e in omega (arith, z))

    same-cost : lines_cost r'.processor s.scripts r'.lines.now ≡ lines_cost r.processor s.scripts r'.lines.now
    same-cost = ap (λ k. lines_cost k s.scripts r'.lines.now) q

-- ---- it goes on

-- the end of the script stands behind the same word
same-ends : (w : Option (List ℕ)) (script script' : Script) (word word' : ℕ) → script' ≡ script → word' ≡ word → EndsScript w script' word' ≡ EndsScript w script word
same-ends w script script' word word' e f = ap (λ (x : Script). EndsScript w x word') e ∙ ap (EndsScript w script) f

-- the word of a section stays, by what its script is
word-same : (before now : Processor LivingState) (b b' : Begun) → b'.script.now ≡ b.script.now → word_of knows_living (domain_of b) now ≡ word_of knows_living (domain_of b) before → word_of knows_living (domain_of b') now ≡ word_of knows_living (domain_of b) before
word-same before now b b' e f = ap (λ (x : Script). word_of knows_living (section_of x.kind) now) e ∙ f

pub advanced-on : (s : Parts) (w : Option (List ℕ)) (p : Program) (before now : Processor LivingState) (b b' : Begun) (r : Remaining) → Sound knows_living p before → Sound knows_living p now → Ordinary knows_living before now → word_of knows_living (domain_of b) now ≡ word_of knows_living (domain_of b) before → WentOn s w before now b b' → AreDeclared s r.lines.now →
    Advanced s w before (record r { begun = Some b }) now (record r { begun = Some b' })
advanced-on s w p before now b b' r sa sb o word h d =
    let rest : Part = AreScripts s (lines_left r) in
    let here = told-at p before sa before.caches.processor refl in
    let there = told-at p now sb before.caches.processor (same-caches p before now sa sb o) in
    let ends = same-ends w b.script.now b'.script.now (word_of knows_living (domain_of b) before) (word_of knows_living (domain_of b') now) h.same (word-same before now b b' h.same word) in
    let E : Part = EndsScript w b.script.now (word_of knows_living (domain_of b) before) in
    let inner : (mid : Option Log) → GrewBy (RunsOn s w now b') (lists_of now) (log_of now) mid → GrewBy (RunsOn s w before b) (lists_of before) (log_of before) mid =
    λ mid x. grew-inner (RunsBlocks s w (around_in now b') b') (RunsBlocks s w (around_in before b) b) E before.caches.processor (lists_of before) (lists_of now) (log_of before) (log_of now) mid here there h.grew
    (subst (λ (P : Part). GrewBy (Then (RunsBlocks s w (around_in now b') b') P) (lists_of now) (log_of now) mid) ends x) in
    record {
      grew = λ final x. grew-inner (RunsOn s w now b') (RunsOn s w before b) rest before.caches.processor (lists_of before) (lists_of now) (log_of before) (log_of now) final here there inner x;
      ordinary = o;
      can = record { stands = h.stands; declared = d };
      owns = h.owns;
      used = (let u = h.used in omega (arith, u));
    }

-- ---- it ends

pub advanced-ended : (s : Parts) (w : Option (List ℕ)) (p : Program) (before mid now : Processor LivingState) (b : Begun) (r : Remaining) → Sound knows_living p before → Sound knows_living p mid → Sound knows_living p now → Ordinary knows_living before mid → word_of knows_living (domain_of b) mid ≡ word_of knows_living (domain_of b) before → HasRun s w before mid b → HasEnded s w b.script.now mid now → AreDeclared s r.lines.now →
    Advanced s w before (record r { begun = Some b }) now (record r { begun = None })
advanced-ended s w p before mid now b r sa sb sc o word h e d =
    let rest : Part = AreScripts s (lines_left r) in
    let n = before.caches.processor in
    let here = told-at p before sa n refl in
    let there = told-at p mid sb n (same-caches p before mid sa sb o) in
    let E : Part = EndsScript w b.script.now (word_of knows_living (domain_of b) before) in
    let ends : GrewBy E (lists_of mid) (log_of mid) (log_of now) = subst (λ k. GrewBy (EndsScript w b.script.now k) (lists_of mid) (log_of mid) (log_of now)) word e.wrote.grew in
    let whole : GrewBy (RunsOn s w before b) (lists_of before) (log_of before) (log_of now) =
    grew-join (RunsBlocks s w (around_in before b) b) E (RunsOn s w before b) n (lists_of before) (lists_of mid) (log_of before) (log_of mid) (log_of now) (λ one two i j. record { one = one; two = two; part_is = refl; is_first = i; is_second = j }) here there h.grew ends in
    let both = ordinary-joined knows_living before mid now o e.wrote.ordinary in
    let last = told-at p now sc n (same-caches p before now sa sc both) in
    record {
      grew = λ final x.
          grew-join (RunsOn s w before b) rest (Then (RunsOn s w before b) rest) n (lists_of before) (lists_of now) (log_of before) (log_of now) final (λ one two i j. record { one = one; two = two; part_is = refl; is_first = i; is_second = j }) here last whole x;
      ordinary = both;
      can = record { stands = e.outside; declared = d };
      owns = λ base x. e.lives.0 ∙ h.owns base x;
      used = (let u = h.used in let v = e.used in omega (arith, u, v));
    }

-- ---- one after the other

-- all `run` lines remain, of processor p to run
pub record AllRemain (s : Parts) (p : ℕ) (r : Remaining) : Type 0 where
  pub own : r.processor ≡ p
  pub none : r.begun ≡ None
  pub all : r.lines.now ≡ s.runs

-- what it costs to run them all
pub all-cost : (s : Parts) (p : ℕ) (r : Remaining) → AllRemain s p r → cost_left s r ≡ 3 * lines_cost p s.scripts s.runs
all-cost s p r a =
    let lines : lines_cost r.processor s.scripts r.lines.now ≡ lines_cost p s.scripts s.runs = ap (λ k. lines_cost k s.scripts r.lines.now) a.own ∙ ap (lines_cost p s.scripts) a.all in
    let z = ap begun_cost a.none in
    omega (arith, z, lines)

pub advanced-join : (s : Parts) (w : Option (List ℕ)) (a b c : Processor LivingState) (r q t : Remaining) → Advanced s w a r b q → Advanced s w b q c t → Advanced s w a r c t
advanced-join s w a b c r q t x y = record {
  grew = λ final z. x.grew final (y.grew final z);
  ordinary = ordinary-joined knows_living a b c x.ordinary y.ordinary;
  can = y.can;
  owns = λ base z. y.owns base (x.owns base z);
  used = (let u = x.used in let v = y.used in omega (arith, u, v));
}
