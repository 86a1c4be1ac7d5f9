-- The effect of an entry moves units as the table of moves says.
use Rattle.std.proofs.Common.{◌≡◌, ◌≢◌, ℕ, ◌+◌, ◌++◌, List, [], ◌∷◌, length, drop, reverse, refl, sym, ◌∙◌, ap, eq-eqb, ne_eqb, append_assoc, arith}
use Rattle.std.proofs.lemmas.List.{append-nil}
use Rattle.bm_journal.specs.declared.ids.Domain.TheVariants.{Plain, Tracing}
use Rattle.bm_journal.specs.declared.ids.Place.TheVariants as place
use Rattle.bm_journal.specs.declared.entry.Entry.{Entry}
use Rattle.bm_journal.specs.declared.entry.Entry.TheVariants as entry
use Rattle.bm_journal.specs.EntryText.{unit_list}
use Rattle.bm_law.specs.State.{Row, Side, State, with_row, with_side, seven_lists}
use Rattle.bm_law.specs.Effect.{sent}
use Rattle.bm_law.specs.Lists.{Names, brought, next, sends}
use Rattle.bm_law.specs.Stands.{class_named}
use Rattle.bm_law.specs.Places as places
use Rattle.bm_law.specs.Places.{Stack, move, list_at, place_of, moved, moves_of, Moves, sent_from}

lists-row : (c : ℕ) (r : Row ℕ) (s : State ℕ) (k : Stack) → list_at k ((with_row c r s).rows c) ≡ list_at k r
lists-row c r s k = rw (eq-eqb c c refl) refl

side-here : (l : ℕ) (h : Side ℕ) (s : State ℕ) → ((with_side l h s).sides l).hand ≡ h.hand
side-here l h s = rw (eq-eqb l l refl) refl

drop-all : (xs : List ℕ) → drop (length xs) xs ≡ []
drop-all [] = refl
drop-all (x ∷ xs) = drop-all xs

end : (n : ℕ) → n + 0 ≡ n
end n = omega arith

-- the units named are all of the list
drop-named : (us xs : List ℕ) → us ≡ xs → drop (length us + 0) xs ≡ []
drop-named us xs e = ap (λ n. drop n xs) (end (length us) ∙ ap length e) ∙ drop-all xs

units_swept : Row ℕ → List ℕ → List ℕ
units_swept r us = r.free ++ (r.extra ++ (r.delayed ++ (r.extra_delayed ++ (r.deferred.first ++ (r.deferred.ready ++ (r.deferred.second ++ us))))))

seven-append : (r : Row ℕ) (us : List ℕ) → seven_lists r ++ us ≡ units_swept r us
unfolding units_swept
seven-append r us =
    append_assoc r.free _ us ∙ ap (λ x. r.free ++ x)
    (append_assoc r.extra _ us ∙ ap (λ x. r.extra ++ x)
    (append_assoc r.delayed _ us ∙ ap (λ x. r.delayed ++ x)
    (append_assoc r.extra_delayed _ us ∙ ap (λ x. r.extra_delayed ++ x)
    (append_assoc r.deferred.first _ us ∙ ap (λ x. r.deferred.first ++ x)
    (append_assoc r.deferred.ready r.deferred.second us)))))

-- all lists of a cache and the inbox's units, on an emptied Second
swept : (r : Row ℕ) (us : List ℕ) → seven_lists r ++ us ≡ (let u : List ℕ = r.free ++ (r.extra ++ (r.delayed ++ (r.extra_delayed ++ (r.deferred.first ++ (r.deferred.ready ++ (r.deferred.second ++ us)))))) in u ++ drop (length r.deferred.second + 0) r.deferred.second)
unfolding units_swept
swept r us = seven-append r us ∙ sym (ap (λ x. units_swept r us ++ x) (drop-named r.deferred.second r.deferred.second refl) ∙ append-nil (units_swept r us))

send-lists : (p l c q : ℕ) (us held : List ℕ) (s : State ℕ) (k : Stack) → us ≡ sends held (s.rows c).deferred.first → list_at k ((sent c l held s).rows c) ≡ moved (place_of p k) (move us (sent_from p l held) (place.Parcel q) places.Together) (list_at k (s.rows c))
send-lists p l c q us [] s places.First e = lists-row c _ s places.First ∙ rw (eq-eqb p p refl) (sym (drop-named us (s.rows c).deferred.first e))
send-lists p l c q us [] s k e = rw (eq-eqb c c refl) refl
send-lists p l c q us (v ∷ vs) s places.Free e = refl
send-lists p l c q us (v ∷ vs) s places.Extra e = refl
send-lists p l c q us (v ∷ vs) s places.Extra_delayed e = refl
send-lists p l c q us (v ∷ vs) s places.Delayed e = refl
send-lists p l c q us (v ∷ vs) s places.First e = refl
send-lists p l c q us (v ∷ vs) s places.Ready e = refl
send-lists p l c q us (v ∷ vs) s places.Second e = refl

send-hand : (p l c q : ℕ) (us held : List ℕ) (s : State ℕ) → (s.sides l).hand ≡ held → us ≡ sends held (s.rows c).deferred.first → ((sent c l held s).sides l).hand ≡ moved (place.Hand p l) (move us (sent_from p l held) (place.Parcel q) places.Together) (s.sides l).hand
send-hand p l c q us [] s h e = refl
send-hand p l c q us (v ∷ vs) s h e = side-here l _ s ∙ rw (eq-eqb p p refl, eq-eqb l l refl) (sym (drop-named us (s.sides l).hand (e ∙ sym h)))

send-classes : (l c j : ℕ) (held : List ℕ) (s : State ℕ) → j ≢ c → (k : Stack) → list_at k ((sent c l held s).rows j) ≡ list_at k (s.rows j)
send-classes l c j [] s d k = rw (ne_eqb j c d) refl
send-classes l c j (v ∷ vs) s d k = refl

send-levels : (l c m : ℕ) (held : List ℕ) (s : State ℕ) → m ≢ l → ((sent c l held s).sides m).hand ≡ (s.sides m).hand
send-levels l c m [] s d = refl
send-levels l c m (v ∷ vs) s d = rw (ne_eqb m l d) refl

lists-law : (p l life : ℕ) (e : Entry) (s : State ℕ) → Names l e s → (k : Stack) → list_at k ((next s (l, e)).rows (class_named e)) ≡ moved (place_of p k) (moves_of p l life s e) (list_at k (s.rows (class_named e)))
lists-law p l life (entry.Fill c us) s n places.Free = lists-row c _ s places.Free ∙ rw (eq-eqb p p refl) refl
lists-law p l life (entry.Fill c us) s n k = rw (eq-eqb c c refl) refl
lists-law p l life (entry.Leave c a) s n places.Free = rw (eq-eqb c c refl) refl
lists-law p l life (entry.Leave c a) s n places.Extra = rw (eq-eqb c c refl) refl
lists-law p l life (entry.Leave c a) s n places.Extra_delayed = rw (eq-eqb c c refl) refl
lists-law p l life (entry.Leave c a) s n places.Delayed = rw (eq-eqb c c refl) refl
lists-law p l life (entry.Leave c a) s n places.First = rw (eq-eqb c c refl) refl
lists-law p l life (entry.Leave c a) s n places.Ready = rw (eq-eqb c c refl) refl
lists-law p l life (entry.Leave c a) s n places.Second = rw (eq-eqb c c refl) refl
lists-law p l life (entry.Raise c) s n places.Free = rw (eq-eqb c c refl) refl
lists-law p l life (entry.Raise c) s n places.Extra = rw (eq-eqb c c refl) refl
lists-law p l life (entry.Raise c) s n places.Extra_delayed = rw (eq-eqb c c refl) refl
lists-law p l life (entry.Raise c) s n places.Delayed = rw (eq-eqb c c refl) refl
lists-law p l life (entry.Raise c) s n places.First = rw (eq-eqb c c refl) refl
lists-law p l life (entry.Raise c) s n places.Ready = rw (eq-eqb c c refl) refl
lists-law p l life (entry.Raise c) s n places.Second = rw (eq-eqb c c refl) refl
lists-law p l life (entry.Work c) s n places.Free = rw (eq-eqb c c refl) refl
lists-law p l life (entry.Work c) s n places.Extra = rw (eq-eqb c c refl) refl
lists-law p l life (entry.Work c) s n places.Extra_delayed = rw (eq-eqb c c refl) refl
lists-law p l life (entry.Work c) s n places.Delayed = rw (eq-eqb c c refl) refl
lists-law p l life (entry.Work c) s n places.First = rw (eq-eqb c c refl) refl
lists-law p l life (entry.Work c) s n places.Ready = rw (eq-eqb c c refl) refl
lists-law p l life (entry.Work c) s n places.Second = rw (eq-eqb c c refl) refl
lists-law p l life (entry.Receive c us) s n places.Ready = lists-row c _ s places.Ready ∙ rw (eq-eqb p p refl) refl
lists-law p l life (entry.Receive c us) s n k = rw (eq-eqb c c refl) refl
lists-law p l life (entry.TakeDelayed c us) s n places.Extra_delayed = lists-row c _ s places.Extra_delayed ∙ rw (eq-eqb p p refl) (sym (drop-named (unit_list us) (s.rows c).extra_delayed n))
lists-law p l life (entry.TakeDelayed c us) s n places.Delayed = lists-row c _ s places.Delayed ∙ rw (eq-eqb p p refl) (ap (λ x. reverse x ++ (s.rows c).delayed) (sym n))
lists-law p l life (entry.TakeDelayed c us) s n k = rw (eq-eqb c c refl) refl
lists-law p l life (entry.Batch c us) s n places.Delayed = lists-row c _ s places.Delayed ∙ rw (eq-eqb p p refl) (sym (drop-named (unit_list us) (s.rows c).delayed n.0))
lists-law p l life (entry.Batch c us) s n places.First = lists-row c _ s places.First ∙ rw (eq-eqb p p refl) (ap (λ x. x ++ (s.rows c).deferred.first) (sym n.0))
lists-law p l life (entry.Batch c us) s n k = rw (eq-eqb c c refl) refl
lists-law p l life (entry.BeginSecond c us) s n places.Ready = lists-row c _ s places.Ready ∙ rw (eq-eqb p p refl) (sym (drop-named (unit_list us) (s.rows c).deferred.ready n.0))
lists-law p l life (entry.BeginSecond c us) s n places.Second = lists-row c _ s places.Second ∙ rw (eq-eqb p p refl) (ap (λ x. x ++ (s.rows c).deferred.second) (sym n.0))
lists-law p l life (entry.BeginSecond c us) s n k = rw (eq-eqb c c refl) refl
lists-law p l life (entry.Return c us) s n places.Second = lists-row c _ s places.Second ∙ rw (eq-eqb p p refl) (sym (drop-named (unit_list us) (s.rows c).deferred.second n.0))
lists-law p l life (entry.Return c us) s n k = rw (eq-eqb c c refl) refl
lists-law p l life (entry.Sweep c us) s n places.Free = lists-row c _ s places.Free ∙ rw (eq-eqb p p refl) (sym (drop-named (s.rows c).free (s.rows c).free refl))
lists-law p l life (entry.Sweep c us) s n places.Extra = lists-row c _ s places.Extra ∙ rw (eq-eqb p p refl) (sym (drop-named (s.rows c).extra (s.rows c).extra refl))
lists-law p l life (entry.Sweep c us) s n places.Extra_delayed = lists-row c _ s places.Extra_delayed ∙ rw (eq-eqb p p refl) (sym (drop-named (s.rows c).extra_delayed (s.rows c).extra_delayed refl))
lists-law p l life (entry.Sweep c us) s n places.Delayed = lists-row c _ s places.Delayed ∙ rw (eq-eqb p p refl) (sym (drop-named (s.rows c).delayed (s.rows c).delayed refl))
lists-law p l life (entry.Sweep c us) s n places.First = lists-row c _ s places.First ∙ rw (eq-eqb p p refl) (sym (drop-named (s.rows c).deferred.first (s.rows c).deferred.first refl))
lists-law p l life (entry.Sweep c us) s n places.Ready = lists-row c _ s places.Ready ∙ rw (eq-eqb p p refl) (sym (drop-named (s.rows c).deferred.ready (s.rows c).deferred.ready refl))
lists-law p l life (entry.Sweep c us) s n places.Second = lists-row c _ s places.Second ∙ rw (eq-eqb p p refl) (swept (s.rows c) (brought (entry.Sweep c us) s))
lists-law p l life (entry.Stamp c Plain x) s n places.Free = rw (eq-eqb c c refl) refl
lists-law p l life (entry.Stamp c Plain x) s n places.Extra = rw (eq-eqb c c refl) refl
lists-law p l life (entry.Stamp c Plain x) s n places.Extra_delayed = rw (eq-eqb c c refl) refl
lists-law p l life (entry.Stamp c Plain x) s n places.Delayed = rw (eq-eqb c c refl) refl
lists-law p l life (entry.Stamp c Plain x) s n places.First = rw (eq-eqb c c refl) refl
lists-law p l life (entry.Stamp c Plain x) s n places.Ready = rw (eq-eqb c c refl) refl
lists-law p l life (entry.Stamp c Plain x) s n places.Second = rw (eq-eqb c c refl) refl
lists-law p l life (entry.Stamp c Tracing x) s n places.Free = rw (eq-eqb c c refl) refl
lists-law p l life (entry.Stamp c Tracing x) s n places.Extra = rw (eq-eqb c c refl) refl
lists-law p l life (entry.Stamp c Tracing x) s n places.Extra_delayed = rw (eq-eqb c c refl) refl
lists-law p l life (entry.Stamp c Tracing x) s n places.Delayed = rw (eq-eqb c c refl) refl
lists-law p l life (entry.Stamp c Tracing x) s n places.First = rw (eq-eqb c c refl) refl
lists-law p l life (entry.Stamp c Tracing x) s n places.Ready = rw (eq-eqb c c refl) refl
lists-law p l life (entry.Stamp c Tracing x) s n places.Second = rw (eq-eqb c c refl) refl
lists-law p l life (entry.Enter c a) s n places.Free = rw (eq-eqb c c refl) refl
lists-law p l life (entry.Enter c a) s n places.Extra = rw (eq-eqb c c refl) refl
lists-law p l life (entry.Enter c a) s n places.Extra_delayed = rw (eq-eqb c c refl) refl
lists-law p l life (entry.Enter c a) s n places.Delayed = rw (eq-eqb c c refl) refl
lists-law p l life (entry.Enter c a) s n places.First = rw (eq-eqb c c refl) refl
lists-law p l life (entry.Enter c a) s n places.Ready = rw (eq-eqb c c refl) refl
lists-law p l life (entry.Enter c a) s n places.Second = rw (eq-eqb c c refl) refl
lists-law p l life (entry.Pop c u) s n places.Free = lists-row c _ s places.Free ∙ rw (eq-eqb p p refl) refl
lists-law p l life (entry.Pop c u) s n k = rw (eq-eqb c c refl) refl
lists-law p l life (entry.Push c u) s n places.Free = lists-row c _ s places.Free ∙ rw (eq-eqb p p refl) (ap (λ x. x ++ (s.rows c).free) n)
lists-law p l life (entry.Push c u) s n k = rw (eq-eqb c c refl) refl
lists-law p l life (entry.Count c j) s n places.Free = rw (eq-eqb c c refl) refl
lists-law p l life (entry.Count c j) s n places.Extra = rw (eq-eqb c c refl) refl
lists-law p l life (entry.Count c j) s n places.Extra_delayed = rw (eq-eqb c c refl) refl
lists-law p l life (entry.Count c j) s n places.Delayed = rw (eq-eqb c c refl) refl
lists-law p l life (entry.Count c j) s n places.First = rw (eq-eqb c c refl) refl
lists-law p l life (entry.Count c j) s n places.Ready = rw (eq-eqb c c refl) refl
lists-law p l life (entry.Count c j) s n places.Second = rw (eq-eqb c c refl) refl
lists-law p l life (entry.Delayed c u) s n places.Delayed = lists-row c _ s places.Delayed ∙ rw (eq-eqb p p refl) (ap (λ x. x ++ (s.rows c).delayed) n)
lists-law p l life (entry.Delayed c u) s n k = rw (eq-eqb c c refl) refl
lists-law p l life (entry.Put c u) s n places.Extra = lists-row c _ s places.Extra ∙ rw (eq-eqb p p refl) (ap (λ x. x ++ (s.rows c).extra) n.0)
lists-law p l life (entry.Put c u) s n k = rw (eq-eqb c c refl) refl
lists-law p l life (entry.PutDelayed c u) s n places.Extra_delayed = lists-row c _ s places.Extra_delayed ∙ rw (eq-eqb p p refl) (ap (λ x. x ++ (s.rows c).extra_delayed) n.0)
lists-law p l life (entry.PutDelayed c u) s n k = rw (eq-eqb c c refl) refl
lists-law p l life (entry.Ready c u) s n places.Ready = lists-row c _ s places.Ready ∙ rw (eq-eqb p p refl) refl
lists-law p l life (entry.Ready c u) s n k = rw (eq-eqb c c refl) refl
lists-law p l life (entry.Second c u) s n places.Second = lists-row c _ s places.Second ∙ rw (eq-eqb p p refl) refl
lists-law p l life (entry.Second c u) s n k = rw (eq-eqb c c refl) refl
lists-law p l life (entry.TakeExtra c us) s n places.Extra = lists-row c _ s places.Extra ∙ rw (eq-eqb p p refl) (sym (drop-named (unit_list us) (s.rows c).extra n))
lists-law p l life (entry.TakeExtra c us) s n k = rw (eq-eqb c c refl) refl
lists-law p l life (entry.Send c q us) s n k = send-lists p l c q (unit_list us) (s.sides l).hand s k n.1
lists-law p l life (entry.Free u home) s n places.Free = refl
lists-law p l life (entry.Free u home) s n places.Extra = refl
lists-law p l life (entry.Free u home) s n places.Extra_delayed = refl
lists-law p l life (entry.Free u home) s n places.Delayed = refl
lists-law p l life (entry.Free u home) s n places.First = refl
lists-law p l life (entry.Free u home) s n places.Ready = refl
lists-law p l life (entry.Free u home) s n places.Second = refl
lists-law p l life (entry.Delay u home) s n places.Free = refl
lists-law p l life (entry.Delay u home) s n places.Extra = refl
lists-law p l life (entry.Delay u home) s n places.Extra_delayed = refl
lists-law p l life (entry.Delay u home) s n places.Delayed = refl
lists-law p l life (entry.Delay u home) s n places.First = refl
lists-law p l life (entry.Delay u home) s n places.Ready = refl
lists-law p l life (entry.Delay u home) s n places.Second = refl
lists-law p l life (entry.Given u lives) s n places.Free = refl
lists-law p l life (entry.Given u lives) s n places.Extra = refl
lists-law p l life (entry.Given u lives) s n places.Extra_delayed = refl
lists-law p l life (entry.Given u lives) s n places.Delayed = refl
lists-law p l life (entry.Given u lives) s n places.First = refl
lists-law p l life (entry.Given u lives) s n places.Ready = refl
lists-law p l life (entry.Given u lives) s n places.Second = refl
lists-law p l life (entry.GivenAfter u lives stamp seen) s n places.Free = refl
lists-law p l life (entry.GivenAfter u lives stamp seen) s n places.Extra = refl
lists-law p l life (entry.GivenAfter u lives stamp seen) s n places.Extra_delayed = refl
lists-law p l life (entry.GivenAfter u lives stamp seen) s n places.Delayed = refl
lists-law p l life (entry.GivenAfter u lives stamp seen) s n places.First = refl
lists-law p l life (entry.GivenAfter u lives stamp seen) s n places.Ready = refl
lists-law p l life (entry.GivenAfter u lives stamp seen) s n places.Second = refl
lists-law p l life (entry.Fetch c want us) s n places.Free = refl
lists-law p l life (entry.Fetch c want us) s n places.Extra = refl
lists-law p l life (entry.Fetch c want us) s n places.Extra_delayed = refl
lists-law p l life (entry.Fetch c want us) s n places.Delayed = refl
lists-law p l life (entry.Fetch c want us) s n places.First = refl
lists-law p l life (entry.Fetch c want us) s n places.Ready = refl
lists-law p l life (entry.Fetch c want us) s n places.Second = refl
lists-law p l life _ s n k = refl

hand-law : (p l life : ℕ) (e : Entry) (s : State ℕ) → Names l e s → ((next s (l, e)).sides l).hand ≡ moved (place.Hand p l) (moves_of p l life s e) (s.sides l).hand
hand-law p l life (entry.Free u home) s n = side-here l _ s ∙ rw (eq-eqb p p refl, eq-eqb l l refl) refl
hand-law p l life (entry.Delay u home) s n = side-here l _ s ∙ rw (eq-eqb p p refl, eq-eqb l l refl) refl
hand-law p l life (entry.Look c j) s n = side-here l _ s ∙ refl
hand-law p l life (entry.Lost c) s n = side-here l _ s ∙ refl
hand-law p l life (entry.LookDelayed c j) s n = side-here l _ s ∙ refl
hand-law p l life (entry.LostDelayed c) s n = side-here l _ s ∙ refl
hand-law p l life (entry.Given u lives) s n = side-here l _ s ∙ rw (eq-eqb p p refl, eq-eqb l l refl) refl
hand-law p l life (entry.GivenAfter u lives stamp seen) s n = side-here l _ s ∙ rw (eq-eqb p p refl, eq-eqb l l refl) refl
hand-law p l life (entry.Fetch c want us) s n = side-here l _ s ∙ rw (eq-eqb p p refl, eq-eqb l l refl) refl
hand-law p l life (entry.Enter c a) s n = side-here l _ s ∙ refl
hand-law p l life (entry.Pop c u) s n = side-here l _ s ∙ rw (eq-eqb p p refl, eq-eqb l l refl) (ap (λ x. (s.sides l).hand ++ x) n)
hand-law p l life (entry.Push c u) s n = side-here l _ s ∙ rw (eq-eqb p p refl, eq-eqb l l refl) refl
hand-law p l life (entry.Count c j) s n = side-here l _ s ∙ refl
hand-law p l life (entry.Delayed c u) s n = side-here l _ s ∙ rw (eq-eqb p p refl, eq-eqb l l refl) refl
hand-law p l life (entry.Put c u) s n = side-here l _ s ∙ rw (eq-eqb p p refl, eq-eqb l l refl) refl
hand-law p l life (entry.PutDelayed c u) s n = side-here l _ s ∙ rw (eq-eqb p p refl, eq-eqb l l refl) refl
hand-law p l life (entry.Ready c u) s n = side-here l _ s ∙ rw (eq-eqb p p refl, eq-eqb l l refl) (ap (λ x. (s.sides l).hand ++ x) n)
hand-law p l life (entry.Second c u) s n = side-here l _ s ∙ rw (eq-eqb p p refl, eq-eqb l l refl) (ap (λ x. (s.sides l).hand ++ x) n)
hand-law p l life (entry.TakeExtra c us) s n = side-here l _ s ∙ rw (eq-eqb p p refl, eq-eqb l l refl) (ap (λ x. (s.sides l).hand ++ x) (sym n))
hand-law p l life (entry.Send c q us) s n = send-hand p l c q (unit_list us) (s.sides l).hand s refl n.1
hand-law p l life _ s n = refl

classes-law : (l : ℕ) (e : Entry) (s : State ℕ) (j : ℕ) → j ≢ class_named e → (k : Stack) → list_at k ((next s (l, e)).rows j) ≡ list_at k (s.rows j)
classes-law l (entry.Fill c us) s j d k = rw (ne_eqb j c d) refl
classes-law l (entry.Leave c a) s j d k = rw (ne_eqb j c d) refl
classes-law l (entry.Raise c) s j d k = rw (ne_eqb j c d) refl
classes-law l (entry.Work c) s j d k = rw (ne_eqb j c d) refl
classes-law l (entry.Receive c us) s j d k = rw (ne_eqb j c d) refl
classes-law l (entry.TakeDelayed c us) s j d k = rw (ne_eqb j c d) refl
classes-law l (entry.Batch c us) s j d k = rw (ne_eqb j c d) refl
classes-law l (entry.BeginSecond c us) s j d k = rw (ne_eqb j c d) refl
classes-law l (entry.Return c us) s j d k = rw (ne_eqb j c d) refl
classes-law l (entry.Sweep c us) s j d k = rw (ne_eqb j c d) refl
classes-law l (entry.Stamp c w x) s j d k = rw (ne_eqb j c d) refl
classes-law l (entry.Enter c a) s j d k = rw (ne_eqb j c d) refl
classes-law l (entry.Pop c u) s j d k = rw (ne_eqb j c d) refl
classes-law l (entry.Push c u) s j d k = rw (ne_eqb j c d) refl
classes-law l (entry.Count c n) s j d k = rw (ne_eqb j c d) refl
classes-law l (entry.Delayed c u) s j d k = rw (ne_eqb j c d) refl
classes-law l (entry.Put c u) s j d k = rw (ne_eqb j c d) refl
classes-law l (entry.PutDelayed c u) s j d k = rw (ne_eqb j c d) refl
classes-law l (entry.Ready c u) s j d k = rw (ne_eqb j c d) refl
classes-law l (entry.Second c u) s j d k = rw (ne_eqb j c d) refl
classes-law l (entry.TakeExtra c us) s j d k = rw (ne_eqb j c d) refl
classes-law l (entry.Send c q us) s j d k = send-classes l c j (s.sides l).hand s d k
classes-law l _ s j d k = refl

levels-law : (l : ℕ) (e : Entry) (s : State ℕ) (m : ℕ) → m ≢ l → ((next s (l, e)).sides m).hand ≡ (s.sides m).hand
levels-law l (entry.Free u home) s m d = rw (ne_eqb m l d) refl
levels-law l (entry.Delay u home) s m d = rw (ne_eqb m l d) refl
levels-law l (entry.Look c j) s m d = rw (ne_eqb m l d) refl
levels-law l (entry.Lost c) s m d = rw (ne_eqb m l d) refl
levels-law l (entry.LookDelayed c j) s m d = rw (ne_eqb m l d) refl
levels-law l (entry.LostDelayed c) s m d = rw (ne_eqb m l d) refl
levels-law l (entry.Given u lives) s m d = rw (ne_eqb m l d) refl
levels-law l (entry.GivenAfter u lives stamp seen) s m d = rw (ne_eqb m l d) refl
levels-law l (entry.Fetch c want us) s m d = rw (ne_eqb m l d) refl
levels-law l (entry.Enter c a) s m d = rw (ne_eqb m l d) refl
levels-law l (entry.Pop c u) s m d = rw (ne_eqb m l d) refl
levels-law l (entry.Push c u) s m d = rw (ne_eqb m l d) refl
levels-law l (entry.Count c j) s m d = rw (ne_eqb m l d) refl
levels-law l (entry.Delayed c u) s m d = rw (ne_eqb m l d) refl
levels-law l (entry.Put c u) s m d = rw (ne_eqb m l d) refl
levels-law l (entry.PutDelayed c u) s m d = rw (ne_eqb m l d) refl
levels-law l (entry.Ready c u) s m d = rw (ne_eqb m l d) refl
levels-law l (entry.Second c u) s m d = rw (ne_eqb m l d) refl
levels-law l (entry.TakeExtra c us) s m d = rw (ne_eqb m l d) refl
levels-law l (entry.Send c q us) s m d = send-levels l c m (s.sides l).hand s d
levels-law l _ s m d = refl

-- an entry that names what is there moves units as the table says
pub places-law : (p l life : ℕ) (e : Entry) (s : State ℕ) → Names l e s → Moves p l life e s
places-law p l life e s n = record { lists = lists-law p l life e s n; hand = hand-law p l life e s n; classes = classes-law l e s; levels = levels-law l e s }
