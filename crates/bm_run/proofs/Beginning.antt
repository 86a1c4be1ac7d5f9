-- A script begins on a processor, and ends.
use Rattle.std.proofs.Common.{◌≡◌, ◌≤◌, ◌+◌, ◌%◌, ℕ, Bool, true, false, ◌∷◌, [], List, Option, Some, None, ap, arith, refl, subst, sym, ◌∙◌, if◌then◌else◌, slice_get}
use Rattle.bm_journal.specs.declared.ids.Domain.{Domain}
use Rattle.bm_journal.specs.declared.ids.Domain.TheVariants.{Plain, Tracing}
use Rattle.bm_journal.specs.declared.entry.Entry.TheVariants as entry
use Rattle.bm_lang.specs.declared.scenario.Script.{Script}
use Rattle.bm_law.specs.Begun.{for_domain}
use Rattle.bm_law.specs.State.{State, seen}
use Rattle.bm_law_work.specs.Parts.{Stand}
use Rattle.bm_law_scenario.specs.Declared.{Declared, declared_in}
use Rattle.bm_law_scenario.specs.Grammar.{is_plain, section_of, starts_inside}
use Rattle.bm_law_scenario.specs.Held.{no_names}
use Rattle.bm_law_scenario.specs.Runs.{RunsBlock}
use Rattle.bm_cache.specs.Shown.{shown}
use Rattle.bm_cache.specs.Tokens.{Token, number_of}
use Rattle.bm_grace.specs.Calls.{entered, left, moved}
use Rattle.bm_grace.specs.Known.{Known, Lives, Objects, side}
use Rattle.bm_grace.specs.declared.step.StepKind.{StepKind}
use Rattle.bm_grace.specs.declared.step.StepKind.TheVariants.{Enter, Leave}
use Rattle.bm_world.specs.LivingState.{LivingState}
use Rattle.bm_world.specs.ToldLiving.{knows_living}
use Rattle.bm_exec.specs.Around.{Around, is_inside}
use Rattle.bm_exec.specs.Going.{IsAtStart}
use Rattle.bm_exec.specs.Lists.{Behind}
use Rattle.bm_exec.specs.Living.{Holds}
use Rattle.bm_exec.specs.Named.{declared_of}
use Rattle.bm_exec.specs.Stack.{Sectioned}
use Rattle.bm_exec_levels.specs.AtProcessor.{SameLives, lists_of}
use Rattle.bm_exec_levels.specs.Ordinary.{Statements, around_of}
use Rattle.bm_exec_levels.specs.Ready.{asked_of, known_of, word_of}
use Rattle.bm_exec_levels.specs.Sound.{Sound}
use Rattle.bm_exec_levels.specs.declared.processor.Processor.{Processor}
use Rattle.bm_exec_levels.specs.declared.program.Program.{Program}
use Rattle.bm_exec_levels.proofs.Words.{moved-here}
use Rattle.bm_exec_levels.specs.Slotted.{in_hands, items_in}
use Rattle.bm_run.specs.Lines.{BehindScript, Wrote}
use Rattle.bm_run.specs.Turns.{HasBegun, HasEnded, around_in, blocks_of, domain_of, held_by, outermost}
use Rattle.bm_run.specs.declared.turns.Begun.{Begun}
use Rattle.bm_run.proofs.Sections.{asks-entered, asks-left, asks-worked, odd-begun, starts-is, tracing-moved}
use Rattle.bm_run.proofs.Written.{wrote-then}

-- where a processor is in what a script's section begins with, its statements have begun no section
pub around-outermost : (whole : Bool) (m : Processor LivingState) → m.inside ≡ whole → around_of knows_living whole m ≡ record { whole = whole; begun = None }
around-outermost true m e = refl
around-outermost false m e = ap (λ b. let z : Around = record { whole = false; begun = if b then Some (word_of knows_living Plain m) else None } in z) e

outermost-inside : (whole : Bool) → is_inside (record { whole = whole; begun = None }) ≡ whole
outermost-inside true = refl
outermost-inside false = refl

-- a plain section moves no tracing word
apart-of : (d : Domain) (m k : Processor LivingState) → known_of knows_living k ≡ entered false d (known_of knows_living m) → word_of knows_living Tracing m % 2 ≡ 0 → d ≡ Plain → word_of knows_living Tracing k % 2 ≡ 0
apart-of Plain m k q z e = ap (λ (x : Known). (side Tracing x).word % 2) q ∙ z
apart-of Tracing m k q z e = absurd (cc)

objects-of : (kind : StepKind) (d : Domain) (k : Known) → (moved kind false d k).objects ≡ k.objects
objects-of kind Plain k = refl
objects-of kind Tracing k = refl

pub has-begun : (p : Program) (m m1 : Processor LivingState) (b : Begun) (w : Option (List ℕ)) →
    declared_of p.types ≡ declared_in p.scenario.now →
    m.inside ≡ false →
    m.locked ≡ None →
    ((d : Domain) → word_of knows_living d m % 2 ≡ 0) →
    (i : ℕ) × (slice_get p.scenario.now.scripts i ≡ Some b.script.now) →
    Behind w (lists_of m) [] →
    known_of knows_living m1 ≡ entered false (domain_of b) (known_of knows_living m) →
    m1.inside ≡ for_domain Plain (domain_of b) true m.inside →
    m1 ≡ record m { caches = m1.caches; side = m1.side; inside = m1.inside } →
    shown m1.caches ≡ shown m.caches →
    Wrote (Stand 0 (entry.Script b.script.now.name ∷ entry.In (domain_of b) (word_of knows_living (domain_of b) m + 1) ∷ [])) m m1 →
    IsAtStart (declared_of p.types) b.script.now.kind b.script.now.body b.activation.names (blocks_of b) →
    HasBegun p.scenario.now w b.script.now m m1 b
has-begun p m m1 b w types out unlocked even found down known within same lists wrote start0 =
    let s = p.scenario.now in
    let d : Domain = domain_of b in
    let start : IsAtStart (declared_in s) b.script.now.kind b.script.now.body b.activation.names (blocks_of b) = subst (λ (d : Declared). IsAtStart d b.script.now.kind b.script.now.body b.activation.names (blocks_of b)) types start0 in
    let inside : m1.inside ≡ starts_inside b.script.now = starts-is d m.inside m1.inside out within in
    let word : word_of knows_living d m1 ≡ word_of knows_living d m + 1 = ap (λ (x : Known). (side d x).word) known ∙ moved-here Enter false d _ in
    let around : around_in m1 b ≡ outermost b = around-outermost (starts_inside b.script.now) m1 inside in
    let quiet : Behind w (lists_of m1) [] = subst (λ (x : State Token). Behind w (seen number_of x) []) (sym lists) down in
    let alive : in_hands (known_of knows_living m1).objects ≡ in_hands (known_of knows_living m).objects = ap (λ (x : Known). in_hands x.objects) known ∙ ap in_hands (objects-of Enter d (known_of knows_living m)) in
    let asks = asks-entered d s m m1 known same within in
    let tracing = tracing-moved Enter d m m1 known in
    record {
      same = refl;
      wrote = subst (λ k. Wrote (Stand 0 (entry.Script b.script.now.name ∷ entry.In d k ∷ [])) m m1) (sym word) wrote;
      stands = record {
        found = found;
        can = start.can 0 (around_in m1 b) w (lists_of m1) (in_hands (known_of knows_living m1).objects) (λ handles. refl) quiet;
        sections = subst (λ z. Sectioned (outermost b) z (blocks_of b)) (sym around) (start.sections (outermost b));
        within = λ h. inside ∙ h;
        inside = odd-begun d (word_of knows_living d m) (word_of knows_living d m1) (even d) word;
        apart = apart-of d m m1 known (even Tracing);
        unlocked = ap (λ (x : Processor LivingState). x.locked) same ∙ unlocked;
      };
      runs = λ l part x.
          let block : RunsBlock (declared_in s) 0 (is_inside (around_in m1 b)) (Behind w) b.script.now.body no_names x.0 l part = start.runs 0 (around_in m1 b) w x.0 l part x.1 in
          let whole : is_inside (around_in m1 b) ≡ starts_inside b.script.now = ap is_inside around ∙ outermost-inside (starts_inside b.script.now) in
          (x.0, subst (λ i. RunsBlock (declared_in s) 0 i (Behind w) b.script.now.body no_names x.0 l part) whole block, x.2);
      owns = λ base e. subst (λ (now : Lives). Holds s.types base now (held_by b)) (sym (alive ∙ e)) (start.holds base);
      cost = start.cost;
      light = start.light;
      used = omega (arith, asks, tracing);
    }

-- and where its statements have begun none, the processor is in what the script's section begins with
pub inside-of : (whole : Bool) (m : Processor LivingState) → (whole ≡ true → m.inside ≡ true) → around_of knows_living whole m ≡ record { whole = whole; begun = None } → m.inside ≡ whole
inside-of true m f e = f refl
inside-of false m f e = none m.inside (ap (λ (z : Around). z.begun) e)
  where
    none : (b : Bool) → (let o : Option ℕ = if b then Some (word_of knows_living Plain m) else None in o) ≡ None → b ≡ false
    none true h = absurd (cc)
    none false h = refl

-- ---- it ends

-- behind a script's section the processor is in none
outside-after : (d : Domain) (m m1 : Processor LivingState) → known_of knows_living m1 ≡ left false d (known_of knows_living m) → word_of knows_living d m % 2 ≡ 1 → (d ≡ Plain → word_of knows_living Tracing m % 2 ≡ 0) → (d ≡ Tracing → word_of knows_living Plain m % 2 ≡ 0) → (e : Domain) → word_of knows_living e m1 % 2 ≡ 0
outside-after d m m1 k odd t p e = over d e k odd t p
  where
    even : (a b : ℕ) → a % 2 ≡ 1 → b ≡ a + 1 → b % 2 ≡ 0
    even a b h i = omega (arith, h, i)

    over : (d e : Domain) → known_of knows_living m1 ≡ left false d (known_of knows_living m) → word_of knows_living d m % 2 ≡ 1 → (d ≡ Plain → word_of knows_living Tracing m % 2 ≡ 0) → (d ≡ Tracing → word_of knows_living Plain m % 2 ≡ 0) → word_of knows_living e m1 % 2 ≡ 0
    over Plain Plain k odd t p = even (word_of knows_living Plain m) (word_of knows_living Plain m1) odd (ap (λ (x : Known). (side Plain x).word) k)
    over Plain Tracing k odd t p = ap (λ (x : Known). (side Tracing x).word % 2) k ∙ t refl
    over Tracing Plain k odd t p = ap (λ (x : Known). (side Plain x).word % 2) k ∙ p refl
    over Tracing Tracing k odd t p = even (word_of knows_living Tracing m) (word_of knows_living Tracing m1) odd (ap (λ (x : Known). (side Tracing x).word) k)

plain-out : (d : Domain) (b : Bool) (w : ℕ) → w % 2 ≡ (if b then 1 else 0) → b ≡ is_plain d → d ≡ Tracing → w % 2 ≡ 0
plain-out Plain b w h e q = absurd (cc)
plain-out Tracing true w h e q = absurd (cc)
plain-out Tracing false w h e q = h

pub has-ended : (p : Program) (m m1 m2 : Processor LivingState) (script : Script) (w : Option (List ℕ)) → Sound knows_living p m → Sound knows_living p m1 →
    word_of knows_living (section_of script.kind) m % 2 ≡ 1 →
    m.inside ≡ starts_inside script →
    (section_of script.kind ≡ Plain → word_of knows_living Tracing m % 2 ≡ 0) →
    m.locked ≡ None →
    known_of knows_living m1 ≡ left false (section_of script.kind) (known_of knows_living m) →
    m1.inside ≡ for_domain Plain (section_of script.kind) false m.inside →
    m1 ≡ record m { caches = m1.caches; side = m1.side; inside = m1.inside } →
    Wrote (Stand 0 (entry.Out (section_of script.kind) (word_of knows_living (section_of script.kind) m + 1) ∷ entry.Done script.name ∷ [])) m m1 →
    Wrote (BehindScript w) m1 m2 →
    Behind w (lists_of m2) [] →
    SameLives knows_living m1 m2 →
    asked_of knows_living p.scenario.now m2 ≤ asked_of knows_living p.scenario.now m1 + 1 →
    Statements knows_living m1 m2 →
    m2.locked ≡ m1.locked →
    HasEnded p.scenario.now w script m m2
has-ended p m m1 m2 script w sa sb odd outer apart unlocked known within same stop behind down lives asked st locked =
    let s = p.scenario.now in
    let d : Domain = section_of script.kind in
    let objects : (known_of knows_living m1).objects ≡ (known_of knows_living m).objects = ap (λ (x : Known). x.objects) known ∙ objects-of Leave d (known_of knows_living m) in
    let asks = asks-left d s m m1 known same within outer in
    let worked = asks-worked s m1 m2 asked st in
    let tracing = tracing-moved Leave d m m1 known in
    let kept = st.tracing in
    let out = outside-after d m m1 known odd apart (plain-out d m.inside (word_of knows_living Plain m) sa.at.ready.inside outer) in
    record {
      wrote = wrote-then (Stand 0 (entry.Out d (word_of knows_living d m + 1) ∷ entry.Done script.name ∷ [])) (BehindScript w) p m m1 m2 sa sb stop behind;
      outside = record { down = down; words = λ e. st.parity e ∙ out e; unlocked = locked ∙ (ap (λ (x : Processor LivingState). x.locked) same ∙ unlocked) };
      lives = (lives.0 ∙ ap in_hands objects, record { graphs = lives.1.graphs ∙ ap (λ (o : Objects). o.graphs) objects; items = lives.1.items ∙ ap items_in objects });
      used = omega (arith, asks, worked, tracing, kept);
    }
