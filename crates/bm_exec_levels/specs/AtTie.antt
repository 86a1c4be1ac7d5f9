-- The log of a processor and its side, tied since a time.
use Rattle.std.specs.Prelude.{◌&&◌, is_none, IfSome, ◌≡◌, ◌⊎◌, ℕ, nat_eq, Bool, true, false, List, [], ◌∷◌, Option, Some, None, IsSome, ◌++◌}
use Rattle.std.proofs.Common.{◌∙◌, ap, append_assoc, eq-eqb, inl, inr, refl, subst, sym}
use Rattle.std.proofs.lemmas.Bool.{and_parts, eqb-true, false≢true}
use Rattle.std.proofs.lemmas.List.{append_cancel_right}
use Rattle.bm_journal.specs.declared.entry.Entry.{Entry}
use Rattle.bm_journal.specs.declared.entry.Entry.TheVariants as entry
use Rattle.bm_journal.specs.Recording.{Appends, Kept as Recorded}
use Rattle.bm_law.specs.Lists.{Log}
use Rattle.bm_law_order.specs.Quiet.{is_quiet}
use Rattle.bm_law.specs.Phrases.{given}
use Rattle.bm_page.specs.declared.units.Seal.{Seal}
use Rattle.bm_law_order.specs.Act.{Act}
use Rattle.bm_graph.specs.Entries.{call_entry}
use Rattle.bm_journal.specs.declared.past.PastCall.{PastCall}
use Rattle.bm_law_order.specs.Calls.{calls_in, lock_in, tag_after}
use Rattle.bm_law_order.specs.Graphs.{effect_of}
use Rattle.bm_journal.specs.declared.ids.ObjId.{ObjId}
use Rattle.bm_journal.specs.declared.ids.Tag.{Tag}
use Rattle.bm_law_order.specs.Act as act
use Rattle.bm_cache.specs.Steps.{is_free}
use Rattle.bm_cache.specs.Tests.{Reusable, SuitsFree, Waits}
use Rattle.bm_cache.specs.Tokens.{Token}
use Rattle.bm_cache.specs.declared.caches.Caches.{Caches}
use Rattle.bm_law_order.specs.Chunk.{Chunk, Shows, acts_of, entries_of, seal_told}
use Rattle.bm_law_order.specs.Chunk as chunk
use Rattle.bm_law_order.specs.Story.{at_level, lines}
use Rattle.bm_law_order.specs.Tie.{Tied, TiedBy}
use Rattle.bm_law.specs.Spans.{Records, own_entries}
use Rattle.bm_law.proofs.Spans.{own-append}
use Rattle.bm_law_order.proofs.Ties.{law-closed, law-done, law-quiet, law-said, law-stepped, tie-judged, tie-level}
use Rattle.bm_exec_levels.specs.Asked.{AsksFor, asked_after, asked_over}
use Rattle.bm_exec_levels.specs.AtPolls.{DoesHere, MayCall, OwnerIs, here-join, here-same, home, names_of, polled, unpolled}
use Rattle.bm_exec_levels.specs.AtProcessor.{log_of, tests_of}
use Rattle.bm_exec_levels.specs.Freeing.{free_entry}
use Rattle.bm_exec_levels.specs.Hosting.{with_caches, with_side}
use Rattle.bm_exec_levels.specs.declared.processor.Processor.{Processor}
use Rattle.bm_grace.specs.declared.grace.Knows.{Ghosts as Knows}

free-is :
    (u home : ℕ) (e : Entry) → is_free u home e ≡ true
    → (e ≡ entry.Free u home) ⊎ (e ≡ entry.Delay u home)
free-is u home (entry.Free v to) h =
    let p = and_parts (nat_eq u v) (nat_eq home to) h in
    inl
    (ap (λ x. entry.Free x to) (sym (eqb-true u v p.0))
    ∙ ap (entry.Free u) (sym (eqb-true home to p.1)))
free-is u home (entry.Delay v to) h =
    let p = and_parts (nat_eq u v) (nat_eq home to) h in
    inr
    (ap (λ x. entry.Delay x to) (sym (eqb-true u v p.0))
    ∙ ap (entry.Delay u) (sym (eqb-true home to p.1)))
free-is u home _ h = absurd (cc)

-- the seal that was recorded last is the unit's
abbrev last_of : List Entry → Option Entry
last_of [] = None
last_of (e ∷ []) = Some e
last_of (e ∷ f ∷ es) = last_of (f ∷ es)

last-is : (es : List Entry) (e : Entry) → last_of (es ++ e ∷ []) ≡ Some e
last-is [] e = refl
last-is (x ∷ []) e = refl
last-is (x ∷ y ∷ es) e = last-is (y ∷ es) e

given-seal : (u life : ℕ) (s t : Option (ℕ × ℕ)) → given u life s ≡ given u life t → s ≡ t
given-seal u life None None e = refl
given-seal u life None (Some t) e = absurd (cc)
given-seal u life (Some s) None e = absurd (cc)
given-seal u life (Some s) (Some t) e =
    (let p : s.0 ≡ t.0 = cc in
    let q : s.1 ≡ t.1 = cc in ap Some (ap (λ x. (x, s.1)) p ∙ ap (λ y. (t.0, y)) q))

own-last : (l : ℕ) (log : Log) (e : Entry) → last_of (own_entries l (log ++ (l, e) ∷ [])) ≡ Some e
own-last l log e =
    let one : own_entries l ((l, e) ∷ []) ≡ e ∷ [] = rw (eq-eqb l l refl) refl in
    ap last_of (own-append l log ((l, e) ∷ []) ∙ ap (λ z. own_entries l log ++ z) one)
    ∙ last-is (own_entries l log) e

-- ---- what a level asks for

asked-append :
    (one two : List Entry) (asked : Option (List ℕ))
    → asked_over (one ++ two) asked ≡ asked_over two (asked_over one asked)
asked-append [] two asked = refl
asked-append (e ∷ one) two asked = asked-append one two (asked_after e asked)

-- behind a call for an object its level asks for it
pub asked-behind :
    (l : ℕ) (name values : List ℕ) (log log' : Option Log)
    → Appends log l (entry.New name values) log' → IfSome log' (AsksFor l values)
asked-behind l name values log None a = tt
asked-behind l name values log (Some now) a = subst (AsksFor l values) (sym a.more) (of-last a.log)
  where
    of-last : (log : Log) → AsksFor l values (log ++ (l, entry.New name values) ∷ [])
    of-last log =
        let one : own_entries l ((l, entry.New name values) ∷ []) ≡ entry.New name values ∷ [] =
        rw (eq-eqb
        l l refl) refl in
        ap (λ own. asked_over own None)
        (own-append l log ((l, entry.New name values) ∷ [])
        ∙ ap (λ z. own_entries l log ++ z) one)
        ∙ asked-append (own_entries l log) (entry.New name values ∷ []) None

some-log : (a b : Log) → Some a ≡ Some b → a ≡ b
some-log a b e = cc

-- two lists with one last entry
last-apart : (xs ys : List Entry) (e : Entry) → xs ++ e ∷ [] ≡ ys ++ e ∷ [] → xs ≡ ys
last-apart xs ys e q = append_cancel_right xs ys (e ∷ []) q

-- .. and still does, behind entries without a reply, before the one that gives it
asked-before :
    (l : ℕ) (values : List ℕ) (xs : List Entry) (g : Entry) (was before log : Log) (added : Log)
    → AsksFor l values was → asked_over xs (Some values) ≡ Some values → log ≡ was ++ added
    → own_entries l added ≡ xs ++ g ∷ [] → log ≡ before ++ (l, g) ∷ [] → AsksFor l values before
asked-before l values xs g was before log added asks quiet now own is =
    let one : own_entries l ((l, g) ∷ []) ≡ g ∷ [] = rw (eq-eqb l l refl) refl in
    let left : own_entries l log ≡ own_entries l before ++ g ∷ [] =
    ap (own_entries l) is ∙ (own-append
    l before ((l, g) ∷ [])
    ∙ ap (λ z. own_entries l before ++ z) one) in
    let right : own_entries l log ≡ (own_entries l was ++ xs) ++ g ∷ [] =
    ap (own_entries l) now ∙ (own-append
    l was added
    ∙ (ap (λ z. own_entries l was ++ z) own
    ∙ sym (append_assoc (own_entries l was) xs (g ∷ [])))) in
    let same : own_entries l before ≡ own_entries l was ++ xs =
    last-apart (own_entries l before) (own_entries
    l was
    ++ xs) g (sym left ∙ right) in
    ap (λ own. asked_over own None) same
    ∙ (asked-append (own_entries l was) xs None ∙ (ap (asked_over xs) asks ∙ quiet))

module _ {W : Type 0} (knows : Knows W) where
  -- tied since then, with these acts and entries of level l that aren't told of yet
  abbrev pub OwesAt : Log → W → ℕ → List Act → List Entry → Processor W → Type 0
  OwesAt since start l done es m =
      TiedBy (polled knows false since start) (DoesHere knows) since start l done es (log_of m)
      m.side

  -- the same, where nothing is owed: the level is no matter then
  abbrev pub TiedAt : Log → W → Processor W → Type 0
  TiedAt since start m = OwesAt since start 0 [] [] m

  -- a unit was given, and its life hasn't begun
  abbrev pub GaveAt : Log → W → (l u life : ℕ) → Processor W → Type 0
  GaveAt since start l u life m =
      (seal : Option (ℕ × ℕ)) × OwesAt since start l [] (given u life seal ∷ []) m

  -- before the free of a unit: it isn't due before a plain one, and may not be used again before one with delay
  abbrev pub Awaits : (delayed : Bool) → ℕ → Processor W → Type 0
  Awaits false u m = (n : ℕ) (seal : Option Seal) → (knows.rights m.side).due u n seal ≡ false
  Awaits true u m = (n : ℕ) (seal : Option Seal) → (knows.rights m.side).settled u n seal ≡ false

  -- a life ended by its drop, and its unit's free, a plain one or one with delay, hasn't begun
  abbrev pub FreesAt : Log → W → (l u home : ℕ) → Processor W → Type 0
  FreesAt since start l u home m =
      (delayed : Bool) × (life : ℕ)
      × OwesAt since start l (act.Ends u life home delayed ∷ [])
      (entry.Drop u life ∷ entry.Last ∷ []) m
      × Awaits delayed u m

  -- ---- levels

  by-level :
      (since : Log) (start : W) (l k : ℕ) (log : Option Log) (w : W)
      → TiedBy (polled knows false since start) (DoesHere knows) since start l [] [] log w
      → TiedBy (polled knows false since start) (DoesHere knows) since start k [] [] log w
  by-level since start l k None w t = tt
  by-level since start l k (Some log) w t =
      tie-level (polled knows false since start) (unpolled knows false since start) (DoesHere knows)
      (here-same knows) (here-join knows) since start l k log w t

  pub tied-open :
      (since : Log) (start : W) (l : ℕ) (m : Processor W) → TiedAt since start m
      → OwesAt since start l [] [] m
  tied-open since start l m t = by-level since start 0 l (log_of m) m.side t

  pub tied-shut :
      (since : Log) (start : W) (l : ℕ) (m : Processor W) → OwesAt since start l [] [] m
      → TiedAt since start m
  tied-shut since start l m t = by-level since start l 0 (log_of m) m.side t

  -- by a chunk that the log before it judges
  pub as-judged :
      (closing : Bool) (since : Log) (start : W) (l : ℕ) (done : List Act) (es : List Entry)
      (log : Option Log) (w : W) (c : Chunk) → acts_of c ≡ done → entries_of c ≡ es
      → ((before : Log) → log ≡ Some (before ++ at_level l es)
      → polled knows closing since start l before c)
      → TiedBy (polled knows closing since start) (DoesHere knows) since start l done es log w
      → TiedBy (polled knows closing since start) (DoesHere knows) since start l [] [] log w
  as-judged closing since start l done es None w c a e j t = tt
  as-judged closing since start l done es (Some log) w c a e j t =
      tie-judged (polled knows closing since start) (unpolled knows closing since start)
      (DoesHere knows) (here-same knows) (here-join knows) since start l done es log w c a e
      (λ before q. j before (ap Some q)) t

  pub tied-closed :
      (since : Log) (start : W) (l : ℕ) (done : List Act) (es : List Entry) (m : Processor W)
      → Shows done es → OwesAt since start l done es m → TiedAt since start m
  tied-closed since start l done es m s t =
      by-level since start l 0 (log_of m) m.side
      (law-closed (polled knows false since start) (unpolled knows false since start)
      (DoesHere knows) (here-same knows) (here-join knows) since start l done es (log_of m)
      m.side s t)

  -- ---- other caches

  pub tied-same :
      (since : Log) (start : W) (m : Processor W) (c : Caches Recorded) → c.recorder.told ≡ log_of m
      → TiedAt since start m → TiedAt since start (with_caches m c)
  tied-same since start m c e t =
      subst
      (λ o. TiedBy (polled knows false since start) (DoesHere knows) since start 0 [] [] o
      m.side)
      (sym e) t

  -- an entry that touches nothing of what processors share, on the same side
  pub tied-turned :
      (since : Log) (start : W) (l : ℕ) (m b : Processor W) (e : Entry) → is_quiet e ≡ true
      → Appends (log_of m) l e (log_of b) → b.side ≡ m.side → TiedAt since start m
      → TiedAt since start b
  tied-turned since start l m b e q a f t =
      subst
      (λ w. TiedBy (polled knows false since start) (DoesHere knows) since start 0 [] []
      (log_of b) w)
      (sym f)
      (by-level since start l 0 (log_of b) m.side
      (law-quiet (polled knows false since start) (unpolled knows false since start)
      (DoesHere knows) (here-same knows) (here-join knows) since start l e (log_of m)
      (log_of b) m.side q a (by-level since start 0 l (log_of m) m.side t)))

  pub tied-quiet :
      (since : Log) (start : W) (l : ℕ) (m : Processor W) (c : Caches Recorded) (e : Entry)
      → is_quiet e ≡ true → Appends (log_of m) l e c.recorder.told → TiedAt since start m
      → TiedAt since start (with_caches m c)
  tied-quiet since start l m c e q a t = tied-turned since start l m (with_caches m c) e q a refl t

  pub tied-gave :
      (since : Log) (start : W) (l : ℕ) (m : Processor W) (c : Caches Recorded) (u life : ℕ)
      (seal : Option (ℕ × ℕ)) → Appends (log_of m) l (given u life seal) c.recorder.told
      → TiedAt since start m → GaveAt since start l u life (with_caches m c)
  tied-gave since start l m c u life seal a t = (
    seal,
    law-said (polled knows false since start) (unpolled knows false since start)
        (DoesHere knows) (here-same knows) (here-join knows) since start l [] []
        (given u life seal) (log_of m) c.recorder.told m.side a (tied-open since start l m t),
  )

  -- a unit that isn't due doesn't wait
  waits-not :
      (m : Processor W) (u : Token)
      → ((n : ℕ) (seal : Option Seal) → (knows.rights m.side).due u.number n seal ≡ false)
      → Waits (tests_of knows m) u → ⊥
  waits-not m u d h =
      let r = knows.rights m.side in
      let due = and_parts (r.due u.number u.life None) (is_none u.seal) (and_parts (r.mine u.number)
      (r.due u.number u.life None && is_none u.seal) h).1 in
      false≢true (sym (d u.life None) ∙ due.0)

  -- a unit that may not be used again isn't used again
  unused-not :
      (m : Processor W) (u : Token)
      → ((n : ℕ) (seal : Option Seal) → (knows.rights m.side).settled u.number n seal ≡ false)
      → Reusable (tests_of knows m) u → ⊥
  unused-not m u d h =
      let r = knows.rights m.side in
      false≢true
      (sym (d u.life u.seal)
      ∙ (and_parts (r.mine u.number) (r.settled u.number u.life u.seal) h).1)

  -- the free that begins is the one that the life ended by
  freed-so :
      (delayed : Bool) (m : Processor W) (e : Entry) (u : Token) → SuitsFree (tests_of knows m) u e
      → is_free u.number u.home e ≡ true → Awaits delayed u.number m
      → e ≡ free_entry delayed u.number u.home
  freed-so false m e u f i a = elim (free-is u.number u.home e i) [
    | inl q ↦ q
    | inr q ↦ absurd (waits-not m u a (subst (SuitsFree (tests_of knows m) u) q f))
  ]
  freed-so true m e u f i a = elim (free-is u.number u.home e i) [
    | inl q ↦ absurd (unused-not m u a (subst (SuitsFree (tests_of knows m) u) q f))
    | inr q ↦ q
  ]

  pub tied-freed :
      (since : Log) (start : W) (l : ℕ) (m : Processor W) (c : Caches Recorded) (e : Entry)
      (u : Token) → SuitsFree (tests_of knows m) u e → is_free u.number u.home e ≡ true
      → Appends (log_of m) l e c.recorder.told → FreesAt since start l u.number u.home m
      → TiedAt since start (with_caches m c)
  tied-freed since start l m c e u f i a t =
      let n = u.number in
      let done = act.Ends n t.1 u.home t.0 ∷ [] in
      let es = entry.Drop n t.1 ∷ entry.Last ∷ [] in
      let said =
      law-said (polled knows false since start) (unpolled knows false since start) (DoesHere
      knows) (here-same knows) (here-join knows) since start l done es e (log_of m)
      c.recorder.told m.side a t.2 in
      by-level since start l 0 c.recorder.told m.side
      (as-judged false since start l done (entry.Drop n t.1 ∷ entry.Last ∷ e ∷ [])
      c.recorder.told m.side (chunk.Ending n t.1 u.home t.0) refl
      (ap (λ x. entry.Drop n t.1 ∷ entry.Last ∷ x ∷ []) (sym (freed-so t.0 m e u f i t.3)))
      (λ before r. tt) said)

  -- ---- another processor's state

  -- with the same log and side
  pub tied-as :
      (since : Log) (start : W) (m k : Processor W) → log_of k ≡ log_of m → k.side ≡ m.side
      → TiedAt since start m → TiedAt since start k
  tied-as since start m k e f t =
      subst
      (λ o. TiedBy (polled knows false since start) (DoesHere knows) since start 0 [] [] o
      k.side)
      (sym e)
      (subst
      (λ w. TiedBy (polled knows false since start) (DoesHere knows) since start 0 [] []
      (log_of m) w)
      (sym f) t)

  -- the side did something, and an entry tells of it
  pub tied-told :
      (since : Log) (start : W) (l : ℕ) (m k : Processor W) (done : List Act) (e : Entry)
      → Shows done (e ∷ []) → DoesHere knows done m.side k.side → Appends (log_of m) l e (log_of k)
      → TiedAt since start m → TiedAt since start k
  tied-told since start l m k done e s d a t =
      let did =
      law-done (polled knows false since start) (unpolled knows false since start) (DoesHere
      knows) (here-same knows) (here-join knows) since start l [] done [] (log_of m) m.side
      k.side d (tied-open since start l m t) in
      tied-closed since start l done (e ∷ []) k s
      (law-said (polled knows false since start) (unpolled knows false since start)
      (DoesHere knows) (here-same knows) (here-join knows) since start l done [] e
      (log_of m) (log_of k) k.side a did)

  -- the side did what no entry tells of
  pub tied-did :
      (since : Log) (start : W) (m k : Processor W) → log_of k ≡ log_of m
      → DoesHere knows [] m.side k.side → TiedAt since start m → TiedAt since start k
  tied-did since start m k e d t =
      subst
      (λ o. TiedBy (polled knows false since start) (DoesHere knows) since start 0 [] [] o
      k.side)
      (sym e)
      (law-done (polled knows false since start) (unpolled knows false since start)
      (DoesHere knows) (here-same knows) (here-join knows) since start 0 [] [] [] (log_of m)
      m.side k.side d t)

  pub seal-recorded :
      (since : Log) (start : W) (l u life : ℕ) (seal told : Option (ℕ × ℕ)) (xs : List Entry)
      (before : Option Log) (log : Log) (w : W)
      → Records l (xs ++ given u life seal ∷ []) before (Some log)
      → Tied (polled knows false since start) (DoesHere knows) since start l []
      (given u life told ∷ []) log w
      → seal ≡ told
  seal-recorded since start l u life seal told xs before log w r t =
      let mine : last_of (own_entries l log) ≡ Some (given u life seal) =
      ap (λ z. last_of (own_entries l z)) r.now_is
      ∙ (ap last_of
      (own-append l r.log r.added ∙ ap (λ z. own_entries l r.log ++ z) r.owned
      ∙ sym (append_assoc (own_entries l r.log) xs (given u life seal ∷ [])))
      ∙ last-is (own_entries l r.log ++ xs) (given u life seal))
      in
      let tied : last_of (own_entries l log) ≡ Some (given u life told) =
      ap (λ z. last_of (own_entries l z))
      (t.log_is ∙ sym (append_assoc since (lines t.story) ((l, given u life told) ∷ [])))
      ∙ own-last l (since ++ lines t.story) (given u life told) in
      let same : Some (given u life seal) ≡ Some (given u life told) = sym mine ∙ tied in
      given-seal u life seal told (let q = same in cc)

  -- the unit that was given has begun its life
  pub tied-begun :
      (since : Log) (start : W) (l u life type : ℕ) (values : List ℕ) (seal : Option Seal)
      (xs : List Entry) (before : Option Log) (m k : Processor W)
      → IfSome before (AsksFor l values) → asked_over xs (Some values) ≡ Some values
      → Records l (xs ++ given u life (seal_told seal) ∷ []) before (log_of m) → log_of k ≡ log_of m
      → DoesHere knows (act.Makes u life type values seal ∷ []) m.side k.side
      → GaveAt since start l u life m → TiedAt since start k
  tied-begun since start l u life type values seal xs before m k asks quiet r e d t =
      let G : Option Log → Type 0 = λ o. TiedBy (polled knows false since start) (DoesHere knows)
      since start 0 [] [] o k.side in
      subst G (sym e) (begun (log_of m) r t.1)
    where
      begun :
          (o : Option Log) → Records l (xs ++ given u life (seal_told seal) ∷ []) before o
          → TiedBy (polled knows false since start) (DoesHere knows) since start l []
          (given u life t.0 ∷ []) o m.side
          → TiedBy (polled knows false since start) (DoesHere knows) since start 0 [] [] o k.side
      begun None r t = tt
      begun (Some log) r q =
          let same : seal_told seal ≡ t.0 = seal-recorded since start l u life (seal_told seal) t.0
          xs before log m.side r q in
          let now : TiedBy (polled knows false since start) (DoesHere knows) since start l [] (given
          u life (seal_told seal)
          ∷ []) (Some log) m.side = subst (λ s. TiedBy (polled knows false since start)
          (DoesHere knows) since start l [] (given u life s ∷ []) (Some log) m.side) (sym same)
          q in
          let did =
          law-done (polled knows false since start) (unpolled knows false since start) (DoesHere
          knows) (here-same knows) (here-join knows) since start l [] (act.Makes u life type
          values seal
          ∷ []) (given u life (seal_told seal) ∷ []) (Some log) m.side k.side d now in
          by-level since start l 0 (Some log) k.side
          (as-judged false since start l (act.Makes u life type values seal ∷ [])
          (given u life (seal_told seal) ∷ []) (Some log) k.side
          (chunk.Making u life type values seal) refl refl
          (λ prior q. asked-before l values xs (given u life (seal_told seal)) r.log prior
          log r.added
          (subst (λ (o : Option Log). IfSome o (AsksFor l values)) r.told asks) quiet
          r.now_is r.owned
          (some-log log (prior ++ (l, given u life (seal_told seal)) ∷ []) q))
          did)

  -- a slot's content was exchanged: its call is the next one of the log
  pub tied-exchanged :
      (since : Log) (start : W) (l : ℕ) (name : List ℕ) (put was : Option ObjId) (from : Option Tag)
      (tag : Tag) (m k : Processor W)
      → Appends (log_of m) l (entry.Xchg name put was from) (log_of k)
      → IfSome (log_of m) (λ es. calls_in es ≡ m.calls)
      → tag ≡ tag_after (home knows k.side) m.calls →
      OwesAt since start l (act.Exchanges name put was from tag ∷ [])
      (entry.Xchg name put was from ∷ []) k → TiedAt since start k
  tied-exchanged since start l name put was from tag m k a counts is o = go (log_of k) a o
    where
      go :
          (now : Option Log) → Appends (log_of m) l (entry.Xchg name put was from) now
          → TiedBy (polled knows false since start) (DoesHere knows) since start l
          (act.Exchanges name put was from tag ∷ []) (entry.Xchg name put was from ∷ []) now
          k.side
          → TiedBy (polled knows false since start) (DoesHere knows) since start 0 [] [] now k.side
      go None a t = tt
      go (Some log) a t =
          by-level since start l 0 (Some log) k.side
          (as-judged false since start l (act.Exchanges name put was from tag ∷ [])
          (entry.Xchg name put was from ∷ []) (Some log) k.side
          (chunk.Exchanging name put was from tag) refl refl judge t)
        where
          judge :
              (before : Log) → Some log ≡ Some (before ++ (l, entry.Xchg name put was from) ∷ [])
              → tag ≡ tag_after (home knows start) (calls_in before)
          judge before q =
              let same : a.log ≡ before = append_cancel_right a.log before ((
                l,
                entry.Xchg name put was from,
              )
              ∷ []) (sym a.more
              ∙ some-log log (before ++ (l, entry.Xchg name put was from) ∷ []) q) in
              let counted : calls_in a.log ≡ m.calls =
              (let F : Option Log → Type 0 = λ o. IfSome o (λ
              es. calls_in es ≡ m.calls) in
              subst F a.told counts) in
              is
              ∙ (ap (λ p. tag_after p m.calls) t.done_is.1
              ∙ ap (tag_after (home knows start)) (sym counted ∙ ap calls_in same))

  -- the entry of a chunk that its log before it judges, by acts that the side did
  judged-one :
      (since : Log) (start : W) (l : ℕ) (done : List Act) (e : Entry) (c : Chunk)
      (m k : Processor W) → acts_of c ≡ done → entries_of c ≡ e ∷ []
      → Appends (log_of m) l e (log_of k)
      → IfSome (log_of m) (λ es. polled knows false since start l es c)
      → OwesAt since start l done (e ∷ []) k → TiedAt since start k
  judged-one since start l done e c m k acts entries a j o = go (log_of k) a o
    where
      go :
          (now : Option Log) → Appends (log_of m) l e now
          → TiedBy (polled knows false since start) (DoesHere knows) since start l done (e ∷ []) now
          k.side
          → TiedBy (polled knows false since start) (DoesHere knows) since start 0 [] [] now k.side
      go None a t = tt
      go (Some log) a t =
          by-level since start l 0 (Some log) k.side
          (as-judged false since start l done (e ∷ []) (Some log) k.side c acts entries judge t)
        where
          judge :
              (before : Log) → Some log ≡ Some (before ++ (l, e) ∷ [])
              → polled knows false since start l before c
          judge before q =
              let same : a.log ≡ before = append_cancel_right a.log before ((l, e) ∷ []) (sym a.more
              ∙ some-log log (before ++ (l, e) ∷ []) q) in
              let F : Option Log → Type 0 = λ o. IfSome o (λ es. polled knows false since start l es
              c) in
              subst (λ es. polled knows false since start l es c) same (subst F a.told j)

  -- whose side it was when the tie began
  pub home-since :
      (since : Log) (start : W) (l : ℕ) (done : List Act) (es : List Entry) (log : Log) (w : W)
      → Tied (polled knows false since start) (DoesHere knows) since start l done es log w
      → home knows w ≡ home knows start
  home-since since start l done es log w t = t.done_is.1

  -- a list or tree was called: it may be, and its call is the next one of the log
  pub tied-called :
      (since : Log) (start : W) (l : ℕ) (graph : List ℕ) (position : ℕ) (call : PastCall)
      (owner : List ℕ) (tag : Tag) (m k : Processor W) → l ≡ 0
      → Appends (log_of m) l (call_entry graph position owner call) (log_of k)
      → IfSome (log_of m) (λ es. calls_in es ≡ m.calls)
      → IfSome (log_of m) (MayCall (home knows k.side) graph)
      → OwnerIs (names_of knows k.side) (effect_of call) owner
      → tag ≡ tag_after (home knows k.side) m.calls →
      OwesAt since start l (act.Calls graph position call tag ∷ [])
      (call_entry graph position owner call ∷ []) k → TiedAt since start k
  tied-called since start l graph position call owner tag m k base a counts may owns is o =
      go (log_of m) (log_of k) a counts may o
    where
      c : Chunk
      c = chunk.Calling graph position call owner tag

      e : Entry
      e = call_entry graph position owner call

      done : List Act
      done = act.Calls graph position call tag ∷ []

      go :
          (was now : Option Log) → Appends was l e now → IfSome was (λ es. calls_in es ≡ m.calls)
          → IfSome was (MayCall (home knows k.side) graph)
          → TiedBy (polled knows false since start) (DoesHere knows) since start l done (e ∷ []) now
          k.side
          → TiedBy (polled knows false since start) (DoesHere knows) since start 0 [] [] now k.side
      go was None a counts may t = tt
      go was (Some log) a counts may t =
          by-level since start l 0 (Some log) k.side
          (as-judged false since start l done (e ∷ []) (Some log) k.side c refl refl judge t)
        where
          judge :
              (before : Log) → Some log ≡ Some (before ++ (l, e) ∷ [])
              → polled knows false since start l before c
          judge before q =
              let here : home knows k.side ≡ home knows start = t.done_is.1 in
              let same : a.log ≡ before = append_cancel_right a.log before ((l, e) ∷ []) (sym a.more
              ∙ some-log log (before ++ (l, e) ∷ []) q) in
              let counted : calls_in a.log ≡ m.calls =
              (let F : Option Log → Type 0 = λ o. IfSome o (λ
              es. calls_in es ≡ m.calls) in
              subst F a.told counts) in
              let allowed : MayCall (home knows k.side) graph a.log = (let F : Option Log → Type 0 =
              λ o. IfSome o (MayCall (home knows k.side) graph) in
              subst F a.told may) in (
                base,
                subst (λ p. MayCall p graph before) here
                    (subst (MayCall (home knows k.side) graph) same allowed),
                subst (λ (ns : List (List ℕ)). OwnerIs ns (effect_of call) owner) t.done_is.2
                    owns,
                is
                    ∙ (ap (λ p. tag_after p m.calls) here
                    ∙ ap (tag_after (home knows start)) (sym counted ∙ ap calls_in same)),
              )

  -- a lock was taken, or given back
  pub tied-locked :
      (since : Log) (start : W) (l : ℕ) (graph : List ℕ) (m k : Processor W) → l ≡ 0
      → Appends (log_of m) l (entry.Lock graph) (log_of k)
      → IfSome (log_of m) (λ es. lock_in es ≡ None)
      → OwesAt since start l [] (entry.Lock graph ∷ []) k → TiedAt since start k
  tied-locked since start l graph m k base a free o =
      judged-one since start l [] (entry.Lock graph) (chunk.Locking graph) m k refl refl a
      (each (log_of m) free) o
    where
      each :
          (x : Option Log) → IfSome x (λ es. lock_in es ≡ None)
          → IfSome x (λ es. polled knows false since start l es (chunk.Locking graph))
      each None h = tt
      each (Some es) h = (base, h)

  pub tied-unlocked :
      (since : Log) (start : W) (l : ℕ) (graph : List ℕ) (m k : Processor W) → l ≡ 0
      → Appends (log_of m) l (entry.Unlock graph) (log_of k)
      → IfSome (log_of m) (λ es. lock_in es ≡ Some graph)
      → OwesAt since start l [] (entry.Unlock graph ∷ []) k → TiedAt since start k
  tied-unlocked since start l graph m k base a held o =
      judged-one since start l [] (entry.Unlock graph) (chunk.Unlocking graph) m k refl refl a
      (each (log_of m) held) o
    where
      each :
          (x : Option Log) → IfSome x (λ es. lock_in es ≡ Some graph)
          → IfSome x (λ es. polled knows false since start l es (chunk.Unlocking graph))
      each None h = tt
      each (Some es) h = (base, h)

  -- a reference was given up, behind its drop and the reply that others are left
  pub tied-given-up :
      (since : Log) (start : W) (l u life seen : ℕ) (m k : Processor W)
      → OwesAt since start l [] (entry.Drop u life ∷ []) m
      → DoesHere knows (act.GivesUp u life seen ∷ []) m.side k.side
      → Appends (log_of m) l (entry.Still seen) (log_of k) → TiedAt since start k
  tied-given-up since start l u life seen m k one d b =
      let two =
      law-done (polled knows false since start) (unpolled knows false since start) (DoesHere
      knows) (here-same knows) (here-join knows) since start l [] (act.GivesUp u life seen ∷ [])
      (entry.Drop
      u life
      ∷ []) (log_of m) m.side k.side d one in
      let three =
      law-said (polled knows false since start) (unpolled knows false since start) (DoesHere
      knows) (here-same knows) (here-join knows) since start l (act.GivesUp u life seen ∷ [])
      (entry.Drop
      u life
      ∷ []) (entry.Still seen) (log_of m) (log_of k) k.side b two in
      tied-closed since start l (act.GivesUp u life seen ∷ [])
      (entry.Drop u life ∷ entry.Still seen ∷ []) k
      (record {
        chunk = chunk.GivingUp u life seen;
        free = refl;
        acts_are = refl;
        entries_are = refl;
      })
      three

  -- the life of a unit ended, behind its drop and the reply
  pub tied-freeing :
      (since : Log) (start : W) (delayed : Bool) (l u life home : ℕ) (m k : Processor W)
      → OwesAt since start l [] (entry.Drop u life ∷ []) m
      → Appends (log_of m) l entry.Last (log_of k)
      → DoesHere knows (act.Ends u life home delayed ∷ []) m.side k.side → Awaits delayed u k
      → FreesAt since start l u home k
  tied-freeing since start delayed l u life home m k one b d awaits =
      let two =
      law-said (polled knows false since start) (unpolled knows false since start) (DoesHere
      knows) (here-same knows) (here-join knows) since start l [] (entry.Drop u life ∷ [])
      entry.Last (log_of m) (log_of k) m.side b one in (
        delayed,
        life,
        law-done (polled knows false since start) (unpolled knows false since start)
            (DoesHere knows) (here-same knows) (here-join knows) since start l []
            (act.Ends u life home delayed ∷ []) (entry.Drop u life ∷ entry.Last ∷ []) (log_of k)
            m.side k.side d two,
        awaits,
      )

  -- ---- as a desk's laws need it

  pub owes-did :
      (since : Log) (start : W) (l : ℕ) (done more : List Act) (es : List Entry) (m : Processor W)
      (w : W) → DoesHere knows more m.side w → OwesAt since start l done es m
      → OwesAt since start l (done ++ more) es (with_side m w)
  owes-did since start l done more es m w d o =
      law-done (polled knows false since start) (unpolled knows false since start) (DoesHere knows)
      (here-same knows) (here-join knows) since start l done more es (log_of m) m.side w d o

  pub owes-said :
      (since : Log) (start : W) (l : ℕ) (done : List Act) (es : List Entry) (e : Entry)
      (m : Processor W) (c : Caches Recorded) → Appends (log_of m) l e c.recorder.told
      → OwesAt since start l done es m → OwesAt since start l done (es ++ e ∷ []) (with_caches m c)
  owes-said since start l done es e m c a o =
      law-said (polled knows false since start) (unpolled knows false since start) (DoesHere knows)
      (here-same knows) (here-join knows) since start l done es e (log_of m) c.recorder.told
      m.side a o

  -- the entry of a step, where it stands for what was done if the log is told
  pub tied-paid :
      (since : Log) (start : W) (l : ℕ) (done : List Act) (e : Entry) (m : Processor W)
      (c : Caches Recorded) → (IsSome c.recorder.told → Shows done (e ∷ []))
      → Appends (log_of m) l e c.recorder.told → OwesAt since start l done [] m
      → TiedAt since start (with_caches m c)
  tied-paid since start l done e m c x a o =
      by-level since start l 0 c.recorder.told m.side (paid c.recorder.told x a)
    where
      paid :
          (now : Option Log) → (IsSome now → Shows done (e ∷ [])) → Appends (log_of m) l e now
          → TiedBy (polled knows false since start) (DoesHere knows) since start l [] [] now m.side
      paid None x a = tt
      paid (Some now) x a =
          law-stepped (polled knows false since start) (unpolled knows false since start)
          (DoesHere knows) (here-same knows) (here-join knows) since start l done e (log_of m)
          (Some now) m.side (x refl) a o
