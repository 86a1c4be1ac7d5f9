-- Stretches of a run, one after the other.
use Rattle.std.proofs.Common.{◌≡◌, ℕ, ◌∷◌, [], ◌++◌, List, refl, sym, ap, subst, ◌∙◌, IfSome}
use Rattle.bm_world.specs.LivingState.{LivingState}
use Rattle.bm_world.specs.ToldLiving.{knows_living}
use Rattle.bm_journal.specs.declared.entry.Entry.{Entry}
use Rattle.bm_journal.specs.Recording.{Appends}
use Rattle.bm_law.specs.Lists.{Leaves, Log, after}
use Rattle.bm_law.specs.Spans.{own_entries}
use Rattle.bm_law.specs.State.{State}
use Rattle.bm_law.proofs.Spans.{Records-one, from-append, own-append}
use Rattle.bm_law_work.specs.Parts.{Part, Stand, Then}
use Rattle.bm_law_work.proofs.Grown.{grew-join, grew-stand}
use Rattle.bm_exec_levels.specs.AtProcessor.{FineAt, lists_of, log_of}
use Rattle.bm_exec_levels.specs.Ordinary.{Ordinary}
use Rattle.bm_exec_levels.specs.Sound.{Sound}
use Rattle.bm_exec_levels.specs.Stated.{ordinary-joined}
use Rattle.bm_exec_levels.specs.declared.processor.Processor.{Processor}
use Rattle.bm_exec_levels.specs.declared.program.Program.{Program}
use Rattle.bm_run.specs.Lines.{Wrote}

-- ---- what the log of the one processor tells

-- ---- stretches that join

-- two stretches join, where calls may begin on the caches between them
pub wrote-joined : (P Q W : Part) (a b c : Processor LivingState) → ((one two : Log) → P (lists_of a) one → Q (after (lists_of a) one) two → W (lists_of a) (one ++ two)) → FineAt knows_living 0 a → FineAt knows_living 0 b → b.caches.processor ≡ a.caches.processor → Wrote P a b → Wrote Q b c → Wrote W a c
wrote-joined P Q W a b c f s t e u v = record {
  grew = grew-join P Q W a.caches.processor (lists_of a) (lists_of b) (log_of a) (log_of b) (log_of c) f s.placed.told (subst (λ n. IfSome (log_of b) (λ es. Leaves n es (lists_of b))) e t.placed.told) u.grew v.grew;
  ordinary = ordinary-joined knows_living a b c u.ordinary v.ordinary;
}

pub wrote-join : (P Q W : Part) (p : Program) (a b c : Processor LivingState) → ((one two : Log) → P (lists_of a) one → Q (after (lists_of a) one) two → W (lists_of a) (one ++ two)) → Sound knows_living p a → Sound knows_living p b → Wrote P a b → Wrote Q b c → Wrote W a c
wrote-join P Q W p a b c f s t u v = wrote-joined P Q W a b c f s.fine t.fine (t.at.ready.here ∙ (u.ordinary.processor ∙ sym s.at.ready.here)) u v

pub wrote-then : (P Q : Part) (p : Program) (a b c : Processor LivingState) → Sound knows_living p a → Sound knows_living p b → Wrote P a b → Wrote Q b c → Wrote (Then P Q) a c
wrote-then P Q p a b c = wrote-join P Q (Then P Q) p a b c (λ one two i j. record { one = one; two = two; part_is = refl; is_first = i; is_second = j })

stand-join : (v w : List Entry) (s t : State ℕ) (one two : Log) → Stand 0 v s one → Stand 0 w t two → Stand 0 (v ++ w) s (one ++ two)
stand-join v w s t one two f g = record {
  from = from-append 0 one two f.from g.from;
  own_is = own-append 0 one two ∙ ap (λ z. z ++ own_entries 0 two) f.own_is ∙ ap (λ z. v ++ z) g.own_is;
}

-- entries that stand there, one after the other
pub wrote-stands : (v w : List Entry) (a b c : Processor LivingState) → FineAt knows_living 0 a → FineAt knows_living 0 b → b.caches.processor ≡ a.caches.processor → Wrote (Stand 0 v) a b → Wrote (Stand 0 w) b c → Wrote (Stand 0 (v ++ w)) a c
wrote-stands v w a b c = wrote-joined (Stand 0 v) (Stand 0 w) (Stand 0 (v ++ w)) a b c (λ one two f g. stand-join v w (lists_of a) (after (lists_of a) one) one two f g)

-- one entry
pub wrote-one : (a b : Processor LivingState) (e : Entry) → Appends (log_of a) 0 e (log_of b) → Ordinary knows_living a b → Wrote (Stand 0 (e ∷ [])) a b
wrote-one a b e h o = record { grew = grew-stand 0 (e ∷ []) (lists_of a) (log_of a) (log_of b) (Records-one 0 e (log_of a) (log_of b) h); ordinary = o }
