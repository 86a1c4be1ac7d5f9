-- A handler runs from its begin to its end.
use Rattle.std.specs.Prelude.{IfSome, slice_get}
use Rattle.std.proofs.Common.{◌≡◌, ℕ, ◌+◌, ◌*◌, ◌%◌, List, [], ◌∷◌, ◌++◌, length, Option, Some, None, sym, ap, ◌∙◌, subst, arith, append_assoc}
use Rattle.bm_journal.specs.declared.ids.Domain.TheVariants.{Plain, Tracing}
use Rattle.bm_journal.specs.declared.entry.Entry.TheVariants as entry
use Rattle.bm_journal.specs.Recording.{Appends, Gains}
use Rattle.bm_lang.specs.Limits.{script_cost}
use Rattle.bm_lang.specs.declared.scenario.Parts.{Parts}
use Rattle.bm_lang.specs.declared.scenario.Script.{Script}
use Rattle.bm_due.specs.declared.planned.Due.{Due}
use Rattle.bm_grace.specs.Known.{Known, side}
use Rattle.bm_law.specs.Lists.{Leaves, Log}
use Rattle.bm_law.specs.State.{State}
use Rattle.bm_law_work.specs.Grown.{GrewBy}
use Rattle.bm_work.specs.Still.{goes-still}
use Rattle.bm_law_scenario.specs.Handlers.{HandlerPhrase, HandlerRun}
use Rattle.bm_law_lives.specs.SectionWords.{word_after}
use Rattle.bm_law_scenario.proofs.RanThere.{phrase-of-run}
use Rattle.bm_exec_levels.specs.AtProcessor.{Between, CameAt, FineAt, HasPhrase, Stays, due_cost}
use Rattle.bm_exec_levels.specs.Hosting.{goes-joined}
use Rattle.bm_exec_levels.specs.Logged.{Tells}
use Rattle.bm_exec_levels.specs.Ready.{asked_of, known_of, left_of, word_of}
use Rattle.bm_exec_levels.specs.declared.processor.Processor.{Processor}
use Rattle.bm_exec_levels.specs.declared.program.Program.{Program}
use Rattle.bm_exec_levels.proofs.Came.{came-join}
use Rattle.bm_exec_levels.proofs.Turn.{turned}
use Rattle.bm_grace.specs.declared.grace.Knows.{Ghosts as Knows}

-- what it may ask for
pub cost-is : (p : Program) (due : Due) (x : Script) → slice_get p.scenario.now.scripts due.script.0 ≡ Some x → due_cost p due ≡ 3 * script_cost (Some x)
cost-is p due x f = ap (λ (o : Option Script). 3 * script_cost o) f

-- It left its phrase after its begin, and ran there: the lists that a log leaves are the only ones that it leaves.
pub has-phrase : (p j l : ℕ) (s : Parts) (name : List ℕ) (k : Known) (w : ℕ) (lists : State ℕ) (before mid now : Option Log) → l ≡ j → w ≡ (side Plain k).word → IfSome before (Tells s k) → Appends before l (entry.Handler name) mid → IfSome mid (λ es. Leaves p es lists) → GrewBy (HandlerRun s j name w) lists mid now → IfSome now (HasPhrase p l s name)
has-phrase p j l s name k w lists before mid None q e t a x g = tt
has-phrase p j l s name k w lists before mid (Some es) q e t a x g =
    let A : Option Log → Type 0 = λ o. Appends before l (entry.Handler name) o in
    let T : Option Log → Type 0 = λ o. IfSome o (Tells s k) in
    let L : Option Log → Type 0 = λ o. IfSome o (λ log. Leaves p log lists) in
    let h : Gains before l (entry.Handler name) g.log = subst A g.told a in
    let u : Tells s k h.log = subst T h.told t in
    let N : Log → Type 0 = λ log. Leaves p log lists in
    let here : Leaves p (h.log ++ (l, entry.Handler name) ∷ []) lists = subst N h.more (subst L g.told x) in
    let word : w ≡ word_after Plain h.log = e ∙ sym (u.last Plain) in
    let R : ℕ → ℕ → State ℕ → Type 0 = λ k n v. HandlerRun s k name n v g.added in
    let ran : HandlerRun s l name (word_after Plain h.log) lists g.added = subst (λ n. R l n lists) word (subst (λ k. R k w lists) (sym q) g.is_part) in
    let said = phrase-of-run s l name (word_after Plain h.log) lists g.added ran in
    record {
      front = h.log;
      part = g.added;
      log_is = g.now_is ∙ ap (λ (v : Log). v ++ g.added) h.more ∙ append_assoc h.log ((l, entry.Handler name) ∷ []) g.added;
      phrase = subst (HandlerPhrase s name (word_after Plain h.log)) (sym said.2.own_is) said.1;
      runs = λ v y. subst (R l (word_after Plain h.log)) (sym here.lists ∙ y.lists) ran;
    }

module _ {W : Type 0} (knows : Knows W) where
  -- ---- its phrase

  -- ---- from its begin to its end

  module _ (i l : ℕ) (p : Program) (due : Due) (m b c d : Processor W) (e : b ≡ turned knows m b) (f : d ≡ turned knows c d) (x : Between knows i 2 l p b c) where
    stays-ran : d.running.items ≡ m.running.items → length b.tables.items + 1 ≡ length m.tables.items → length d.tables.items ≡ length c.tables.items + 1 → Stays knows i 2 p m d
    stays-ran r n o =
        let tables = x.stays.tables in
        let asks = x.stays.asks_most in
        let asks-b = ap (λ (y : Processor W). asked_of knows p.scenario.now y) e in
        let asks-d = ap (λ (y : Processor W). asked_of knows p.scenario.now y) f in
        let words = x.stays.words_most in
        let words-b = ap (λ (y : Processor W). word_of knows Plain y + 2 * length (left_of y)) e in
        let words-d = ap (λ (y : Processor W). word_of knows Plain y + 2 * length (left_of y)) f in
        record {
          settled = ap (λ (y : Processor W). y.settled) f ∙ x.stays.settled ∙ ap (λ (y : Processor W). y.settled) e;
          locked = ap (λ (y : Processor W). y.locked) f ∙ x.stays.locked ∙ ap (λ (y : Processor W). y.locked) e;
          running = r;
          tables = omega (arith, tables, n, o);
          inside = ap (λ (y : Processor W). y.inside) f ∙ x.stays.inside ∙ ap (λ (y : Processor W). y.inside) e;
          asks_most = omega (arith, asks, asks-b, asks-d);
          words_most = omega (arith, words, words-b, words-d);
          parity = λ w. ap (λ (y : Processor W). word_of knows w y % 2) f ∙ x.stays.parity w ∙ ap (λ (y : Processor W). word_of knows w y % 2) e;
          inner = λ h. (let word-b = ap (λ (y : Processor W). word_of knows Plain y) e in ap (λ (y : Processor W). word_of knows Plain y) f ∙ x.stays.inner (ap (λ n. n % 2) word-b ∙ h) ∙ word-b);
          tracing = ap (λ (y : Processor W). word_of knows Tracing y) f ∙ x.stays.tracing ∙ ap (λ (y : Processor W). word_of knows Tracing y) e;
          processors = ap (λ (y : Processor W). (known_of knows y).grace.processors) f ∙ x.stays.processors ∙ ap (λ (y : Processor W). (known_of knows y).grace.processors) e;
          processor = ap (λ (y : Processor W). (known_of knows y).grace.processor) f ∙ x.stays.processor ∙ ap (λ (y : Processor W). (known_of knows y).grace.processor) e;
        }

    pub ran : CameAt knows l m b → CameAt knows l c d → FineAt knows l d → d.running.items ≡ m.running.items → length b.tables.items + 1 ≡ length m.tables.items → length d.tables.items ≡ length c.tables.items + 1 → Between knows i 2 l p m d
    ran t u v r n o =
        let fewer = x.fewer in
        let left-b = ap (λ (y : Processor W). length (left_of y)) e in
        let left-d = ap (λ (y : Processor W). length (left_of y)) f in
        record {
          fine = v;
          came = came-join knows l m b d t (came-join knows l b c d x.came u);
          stays = stays-ran r n o;
          goes = goes-joined (known_of knows m) (known_of knows b) (known_of knows d) (goes-still (known_of knows m) (known_of knows b) (ap (known_of knows) e)) (goes-joined (known_of knows b) (known_of knows c) (known_of knows d) x.goes (goes-still (known_of knows c) (known_of knows d) (ap (known_of knows) f)));
          fewer = omega (arith, fewer, left-b, left-d);
        }

  -- by other names of what it may ask for and of its level
  pub between-as : (i k j l : ℕ) (p : Program) (b c : Processor W) → k ≡ i → l ≡ j → Between knows i 2 j p b c → Between knows k 2 l p b c
  between-as i k j l p b c e f x = (let F : ℕ → ℕ → Type 0 = λ y z. Between knows y 2 z p b c in subst (λ z. F k z) (sym f) (subst (λ y. F y j) (sym e) x))
