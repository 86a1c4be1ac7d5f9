-- A log in which the closing gives up what the maps hold, between the end of its scripts and what is late: each delayed free in it puts
-- its unit where it waits.
use Rattle.std.specs.Prelude.{not}
use Rattle.std.proofs.Common.{◌≡◌, ◌≢◌, ℕ, Bool, true, List, [], ◌∷◌, ◌++◌, Option, Some, None, append-nil, append_assoc, inl, inr, map, ne_eqb, refl, sym, ◌∙◌, ap, subst}
use Rattle.std.proofs.lemmas.Bool.{and_parts, not-true}
use Rattle.std.proofs.lemmas.Bool.Decides.{eqb_tells}
use Rattle.bm_journal.specs.declared.entry.Entry.{Entry}
use Rattle.bm_journal.specs.declared.entry.Entry.TheVariants as entry
use Rattle.bm_lang.specs.declared.scenario.AtLine.{AtLine}
use Rattle.bm_lang.specs.declared.scenario.Parts.{Parts}
use Rattle.bm_lang.specs.declared.scenario.Script.{Script}
use Rattle.bm_law.specs.Alone.{AllAt}
use Rattle.bm_law.specs.Lists.{Log}
use Rattle.bm_law.specs.Phrases.{DelayPhrase, FreePhrase}
use Rattle.bm_law.specs.Spans.{own_entries}
use Rattle.bm_law.specs.State.{State, opening}
use Rattle.bm_law.proofs.Spans.{own-append}
use Rattle.bm_law_work.proofs.Each.{AllOf}
use Rattle.bm_due.specs.Due.{planned_for}
use Rattle.bm_due.specs.Standing.{HandlersStand, Standing, at_first, is_nobody, is_ordinary, standing_after}
use Rattle.bm_due.proofs.Standings.{after-append, ends-entry}
use Rattle.bm_law_scenario.specs.Declared.{Declared, declared_in}
use Rattle.bm_law_scenario.specs.Grammar.{Front}
use Rattle.bm_law_scenario.specs.Handlers.{HandlersDone}
use Rattle.bm_law_scenario.proofs.Freed.{either-free}
use Rattle.bm_law_scenario.proofs.GoneBack.{done-grow}
use Rattle.bm_law_seals.specs.Answered.{ArePut, IsPut, PutsDelayed}
use Rattle.bm_exec_levels.specs.Growing.{no-back}
use Rattle.bm_run.specs.Between.{GivesFirst}
use Rattle.bm_run.proofs.BatchesTold.{log-puts}
use Rattle.bm_run.proofs.Closes.{IsLate}
use Rattle.bm_run.proofs.GivenLaws.{GivesUp, IsListing, delayed, freed, given-has}

-- ---- delayed frees

-- in front of whatever entries, each delayed free puts its unit where it waits, where it does so in those
abbrev PutsBefore : List Entry → Type 0
PutsBefore own = (rest : List Entry) → ArePut rest → ArePut (own ++ rest)

listing-put : (e : Entry) (own : List Entry) → IsListing e → IsPut e own
listing-put (entry.Delay u home) own h = absurd h
listing-put _ own h = tt

lists-put : (own : List Entry) → AllOf IsListing own → PutsBefore own
lists-put [] h rest k = k
lists-put (e ∷ own) h rest k = (listing-put e (own ++ rest) h.0, lists-put own h.1 rest k)

free-puts : (c u home : ℕ) (own : List Entry) → FreePhrase c u home own → PutsBefore own
free-puts c u home own h = (let x = freed c u home own h in subst PutsBefore (sym x.own_is) (λ rest k. (tt, lists-put x.rest x.lists rest k)))

delay-puts : (c u home : ℕ) (batch : Bool) (own : List Entry) → DelayPhrase c u home batch own → PutsBefore own
delay-puts c u home batch own h = (let x = delayed c u home batch own h in subst PutsBefore (sym x.own_is) (λ rest k. (x.puts rest, lists-put x.rest x.lists rest k)))

puts-before : (d : Declared) → GivesUp d PutsBefore
puts-before d = record {
  joins = record { none = λ rest k. k; join = λ v w f g rest k. subst ArePut (sym (append_assoc v w rest)) (f (w ++ rest) (g rest k)) };
  still = λ x names part after r. subst PutsBefore (sym r.part_is) (λ rest k. (tt, (tt, k)));
  dropped = λ x names part after r. subst PutsBefore (sym r.part_is) (λ rest k. (tt, (tt, either-free PutsBefore r.declared.counted r.class r.unit r.home r.batch r.own (free-puts r.class r.unit r.home r.own) (delay-puts r.class r.unit r.home r.batch r.own) r.frees rest k)));
  exchanged = λ slot was by. (λ rest k. (tt, k));
  popped = λ list item position. (λ rest k. (tt, k));
  looked = λ tree item position. (λ rest k. (tt, k));
  removed = λ tree u life position. (λ rest k. (tt, k));
  closes = λ rest k. (tt, k);
}

late-put : (e : Entry) (own : List Entry) → IsLate e → IsPut e own
late-put (entry.Delay u home) own h = absurd h
late-put _ own h = tt

late-puts : (own : List Entry) → AllOf IsLate own → ArePut own
late-puts [] h = tt
late-puts (e ∷ own) h = (late-put e own h.0, late-puts own h.1)

-- the end of the scripts is behind each of their delayed frees
past-end : (u : ℕ) (own rest : List Entry) → PutsDelayed u (own ++ entry.Ended ∷ []) → PutsDelayed u (own ++ entry.Ended ∷ rest)
past-end u [] rest h = absurd h
past-end u (entry.Enter c a ∷ own) rest h = past-end u own rest h
past-end u (entry.LookDelayed c k ∷ own) rest h = past-end u own rest h
past-end u (entry.LostDelayed c ∷ own) rest h = past-end u own rest h
past-end u (entry.Delayed c v ∷ own) rest h = h
past-end u (entry.PutDelayed c v ∷ own) rest h = h
past-end u (_ ∷ own) rest h = absurd h

put-past : (e : Entry) (own rest : List Entry) → IsPut e (own ++ entry.Ended ∷ []) → IsPut e (own ++ entry.Ended ∷ rest)
put-past (entry.Delay u home) own rest h = past-end u own rest h
put-past _ own rest h = tt

end-puts : (own rest : List Entry) → ArePut (own ++ entry.Ended ∷ []) → ArePut rest → ArePut (own ++ entry.Ended ∷ rest)
end-puts [] rest h k = (tt, k)
end-puts (e ∷ own) rest h k = (put-past e own rest h.0, end-puts own rest h.1 k)

-- ---- handlers at the end of the scripts

nobody-runs : (xs : List AtLine) → is_nobody xs ≡ true → xs ≡ []
nobody-runs [] e = refl
nobody-runs (line ∷ lines) e = absurd (cc)

ordinary-ends : (names : List (List ℕ)) (o : Option Standing) → is_ordinary o ≡ true → is_ordinary (standing_after names ((0, entry.Ended) ∷ []) o) ≡ true
ordinary-ends names None h = absurd (cc)
ordinary-ends names (Some s) h =
    let x : (is_nobody s.running ≡ true) × (not s.resumes ≡ true) = and_parts (is_nobody s.running) (not s.resumes) h in
    let t : Standing = record s { ended = true } in
    ap is_ordinary ((ends-entry names 0 s t).1 (refl, nobody-runs s.running x.0, not-true s.resumes x.1, refl)) ∙ h

end-stands : (s : Parts) (p : ℕ) (front : Log) → HandlersStand s p front → HandlersStand s p (front ++ (0, entry.Ended) ∷ [])
end-stands s p front h =
    let names : List (List ℕ) = map (λ (x : Script). x.name) s.scripts in
    let first : Option Standing = Some (at_first (planned_for p s)) in
    ap is_ordinary (after-append names front ((0, entry.Ended) ∷ []) first) ∙ ordinary-ends names (standing_after names front first) h

end-done : (s : Parts) (p : ℕ) (front : Log) → HandlersDone s p front → HandlersDone s p (front ++ (0, entry.Ended) ∷ [])
end-done s p front h = done-grow s p front 0 entry.Ended (no-back entry.Ended tt) h

other-level : (l : ℕ) (log : Log) → l ≢ 0 → AllAt 0 log → own_entries l log ≡ []
other-level l [] ne h = refl
other-level l (e ∷ es) ne h = rw (ne_eqb e.0 l (λ q. ne (sym q ∙ h.0))) (other-level l es ne h.1)

-- A delayed free in the log puts its unit where it waits: in its front, in what the closing gives up, in what is late, and in handlers.
pub given-log-puts : (s : Parts) (p : ℕ) (t : State ℕ) (log front given late : Log) → log ≡ (front ++ (0, entry.Ended) ∷ given) ++ late → Front s p (opening p) front → HandlersStand s p front → HandlersDone s p front → GivesFirst (declared_in s) p t given → AllAt 0 given → AllAt 0 late → AllOf IsLate (own_entries 0 late) →
    (l : ℕ) → ArePut (own_entries l log)
given-log-puts s p t log front given late parts is_front stand done h given_at late_at late_own l =
    let end : Log = (0, entry.Ended) ∷ [] in
    let early : Log = front ++ (0, entry.Ended) ∷ given in
    let first : (k : ℕ) → ArePut (own_entries k (front ++ end)) = log-puts s p (front ++ end) front end [] (sym (append-nil (front ++ end))) is_front tt (tt, tt) (end-stands s p front stand) (end-done s p front done) in
    subst (λ (z : Log). ArePut (own_entries l z)) (sym parts) (elim (eqb_tells l 0) [
      | inl y ↦
          let own : List Entry = own_entries 0 front in
          let behind : ArePut (own_entries 0 given ++ own_entries 0 late) = given-has (declared_in s) PutsBefore (puts-before (declared_in s)) p t given h (own_entries 0 late) (late-puts (own_entries 0 late) late_own) in
          let all : ArePut (own ++ entry.Ended ∷ (own_entries 0 given ++ own_entries 0 late)) = end-puts own (own_entries 0 given ++ own_entries 0 late) (subst ArePut (own-append 0 front end) (first 0)) behind in
          let same : own_entries 0 (early ++ late) ≡ own ++ entry.Ended ∷ (own_entries 0 given ++ own_entries 0 late) =
          own-append 0 early late ∙ (ap (λ (z : List Entry). z ++ own_entries 0 late) (own-append 0 front ((0, entry.Ended) ∷ given)) ∙ append_assoc own (entry.Ended ∷ own_entries 0 given) (own_entries 0 late)) in
          subst (λ k. ArePut (own_entries k (early ++ late))) (sym y.1) (subst ArePut (sym same) all)
      | inr y ↦
          let above : AllAt 0 ((0, entry.Ended) ∷ given) = (refl, given_at) in
          let ended : own_entries l ((0, entry.Ended) ∷ given) ≡ own_entries l end = other-level l ((0, entry.Ended) ∷ given) y.1 above ∙ sym (other-level l end y.1 (refl, tt)) in
          let same : own_entries l (early ++ late) ≡ own_entries l (front ++ end) =
          own-append l early late ∙ (ap (λ (z : List Entry). own_entries l early ++ z) (other-level l late y.1 late_at) ∙ (append-nil (own_entries l early)
          ∙ (own-append l front ((0, entry.Ended) ∷ given) ∙ (ap (λ (z : List Entry). own_entries l front ++ z) ended ∙ sym (own-append l front end))))) in
          subst ArePut (sym same) (first l)
    ])
