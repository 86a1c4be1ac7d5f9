-- The replies of a front.
use Rattle.std.proofs.Common.{◌≡◌, ℕ, Bool, true, false, ◌&&◌, List, [], ◌∷◌, ◌++◌, refl, sym, ap, subst, ◌∙◌, Option, Some, None, inl, inr}
use Rattle.bm_journal.specs.declared.ids.Domain.TheVariants.{Plain}
use Rattle.bm_journal.specs.declared.entry.Entry.{Entry}
use Rattle.bm_journal.specs.declared.entry.Entry.TheVariants as entry
use Rattle.bm_lang.specs.declared.scenario.Parts.{Parts}
use Rattle.bm_law.specs.Null.{Asked, Nothing, RepliesFit, asked_at_end, all_apart, is_apart}
use Rattle.bm_law.specs.Phrases.{AllocPhrase}
use Rattle.bm_law.specs.Spans.{own_entries}
use Rattle.bm_law.proofs.Null.{replies-append, asked-append, alloc-answers, apart-answers, apart-delay, apart-free}
use Rattle.bm_law_work.proofs.Each.{AllOf}
use Rattle.bm_law_scenario.specs.Declared.{Declared, declared_in}
use Rattle.bm_law_scenario.specs.Calls.{Allocates}
use Rattle.bm_law_scenario.proofs.Freed.{either-free}
use Rattle.bm_graph.specs.Entries.{call_entry}
use Rattle.bm_journal.specs.declared.past.PastCall.{PastCall}
use Rattle.bm_journal.specs.declared.past.PastCall.TheVariants as past
use Rattle.bm_law_scenario.proofs.RunsAll.{Closed}
use Rattle.bm_law_logs.specs.Owed.{AllReplied}
use Rattle.bm_law_scenario.specs.WorkEntries.{IsOfWork}
use Rattle.bm_law_scenario.proofs.FrontLaws.{Written}
use Rattle.bm_law_scenario.proofs.OfWork.{work-writes}

join : (v w : List Entry) → AllReplied v → AllReplied w → AllReplied (v ++ w)
join v w a b = record {
  replies = replies-append Nothing v w a.replies (subst (λ (k : Asked). RepliesFit k w) (sym a.owed) b.replies);
  owed = asked-append Nothing v w ∙ (ap (λ (k : Asked). asked_at_end k w) a.owed ∙ b.owed);
}

pub apart : (own : List Entry) → all_apart own ≡ true → AllReplied own
apart own e = let h = apart-answers own e in record { replies = h.0; owed = h.1 }

phrase-of : (c : ℕ) (own : List Entry) (reply : Option (ℕ × ℕ)) → Allocates c own reply → AllocPhrase c own
phrase-of c own None (inl x) = inr (inl x)
phrase-of c own None (inr x) = inr (inr x)
phrase-of c own (Some o) x = inl (o.0, o.1, x.0, x.1, x.2, x.3)

new : (name values : List ℕ) (c : ℕ) (own : List Entry) (reply : Option (ℕ × ℕ)) → Allocates c own reply → AllReplied (entry.New name values ∷ own)
new name values c own reply a = let h = alloc-answers c own (phrase-of c own reply a) in record { replies = (refl, h.0); owed = h.1 }

call-apart : (graph : List ℕ) (position : ℕ) (owner : List ℕ) (call : PastCall) → AllReplied (call_entry graph position owner call ∷ [])
call-apart graph position owner (past.PushFront id) = apart (entry.PushFront graph id.unit id.life position ∷ []) refl
call-apart graph position owner call = apart (call_entry graph position owner call ∷ []) refl

closed : (d : Declared) → Closed d AllReplied
closed d = record {
  none = record { replies = tt; owed = refl };
  join = join;
  new = λ x t values names part after r. subst AllReplied (sym r.part_is) (new r.declared.name values r.class r.own r.reply r.allocates);
  dropped = λ x names part after r. subst AllReplied (sym r.part_is) (apart (entry.Drop r.unit r.life ∷ entry.Last ∷ r.own) (either-free (λ own. all_apart own ≡ true) r.declared.counted r.class r.unit r.home r.batch r.own (apart-free r.class r.unit r.home r.own) (apart-delay r.class r.unit r.home r.batch r.own) r.frees));
  still = λ x names part after r. subst AllReplied (sym r.part_is) (apart (entry.Drop r.unit r.life ∷ entry.Still r.seen ∷ []) refl);
  acquired = λ y x names part after r. subst AllReplied (sym r.part_is) (apart (entry.Acquire r.unit r.life r.seen ∷ []) refl);
  read = λ x field names part after r. subst AllReplied (sym r.part_is) (apart (entry.Get r.unit r.life r.place r.value ∷ []) refl);
  exchanged = λ y slot given names part after r. subst AllReplied (sym r.part_is) (apart (entry.Xchg r.declared.name r.put r.was r.by ∷ []) refl);
  locks = λ graph. apart (entry.Lock graph ∷ []) refl;
  unlocks = λ graph. apart (entry.Unlock graph ∷ []) refl;
  calls = λ graph position owner call. call-apart graph position owner call;
  enters = λ w. apart (entry.In Plain w ∷ []) refl;
  leaves = λ w. apart (entry.Out Plain w ∷ []) refl;
  yields = apart (entry.Yield ∷ []) refl;
}

-- what a work writes neither asks nor answers
work-apart : (c : ℕ) (e : Entry) → IsOfWork c e → is_apart e ≡ true
work-apart c (entry.New name values) h = absurd h
work-apart c (entry.Given u life) h = absurd h
work-apart c (entry.GivenAfter u life stamp seen) h = absurd h
work-apart c entry.Empty h = absurd h
work-apart c (entry.Busy n) h = absurd h
work-apart c _ h = refl

both : (a b : Bool) → a ≡ true → b ≡ true → (a && b) ≡ true
both true b e f = f
both false b e f = cc

all-work-apart : (c : ℕ) (es : List Entry) → AllOf (IsOfWork c) es → all_apart es ≡ true
all-work-apart c [] h = refl
all-work-apart c (e ∷ es) h = both (is_apart e) (all_apart es) (work-apart c e h.0) (all-work-apart c es h.1)

pub replied : (s : Parts) → Written s AllReplied
replied s = record {
  closed = closed (declared_in s);
  fill = λ c us m. apart (entry.Fill c _ ∷ []) refl;
  begins = λ d name w. apart (entry.Script name ∷ entry.In d w ∷ []) refl;
  ends = λ d name w. apart (entry.Out d w ∷ entry.Done name ∷ []) refl;
  work = λ c m t part h. apart (own_entries 0 part) (all-work-apart c (own_entries 0 part) (work-writes 0 c t part h));
}
