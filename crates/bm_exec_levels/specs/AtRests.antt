-- When a tied host rests: what its level did last says why a poll has nothing to do.
use Rattle.std.specs.Prelude.{◌≡◌, ◌≤◌, ◌+◌, ℕ, Bool, IfSome, List, [], ◌∷◌, ◌++◌, Option, None, Some}
use Rattle.std.proofs.Common.{◌∙◌, ap, refl, subst, sym}
use Rattle.std.proofs.lemmas.List.{append_cancel_right}
use Rattle.bm_journal.specs.declared.ids.Domain.{Domain}
use Rattle.bm_journal.specs.declared.period.Period.{Period}
use Rattle.bm_journal.specs.declared.entry.Entry.{Entry}
use Rattle.bm_journal.specs.declared.entry.Entry.TheVariants as entry
use Rattle.bm_journal.specs.declared.units.Units.TheVariants.{Whole}
use Rattle.bm_journal.specs.Recording.{Appends, Kept as Recorded}
use Rattle.bm_law.specs.Lists.{Log, after, stamp_of}
use Rattle.bm_law.specs.State.{opening}
use Rattle.bm_law.specs.Spans.{Above, AllFrom}
use Rattle.bm_law_order.specs.Act.{Act}
use Rattle.bm_law_order.specs.Act as act
use Rattle.bm_law_order.specs.Chunk as chunk
use Rattle.bm_law_order.specs.Tie.{Tied, TiedBy}
use Rattle.bm_law_order.proofs.Ties.{law-said, tie-done, tie-first, tie-unjudged}
use Rattle.bm_cache.specs.declared.caches.Caches.{Caches}
use Rattle.bm_work.specs.Rested.{Fails, GoesFrom, HasStamp, IsIdle, MayGo}
use Rattle.bm_grace.specs.Known.{side}
use Rattle.bm_exec_levels.specs.AtPolls.{DoesHere, Idles, IsDue, WaitsIn, here-join, here-same, home, polled, unpolled, waits-begun, waits-whole}
use Rattle.bm_exec_levels.specs.AtPolls as idle
use Rattle.bm_exec_levels.specs.AtTie.{as-judged}
use Rattle.bm_grace.specs.declared.grace.Knows.{Ghosts as Knows}

-- the lists of a processor
pub waits-in :
    (n i : ℕ) (d : Domain) (x p : ℕ) (c : Caches Recorded) → c.processor ≡ p
    → HasStamp (λ (r : Recorded). r.told) n i d x c → IfSome c.recorder.told (WaitsIn p i d x)
waits-in n i d x p c e w =
    subst
    (λ q. IfSome c.recorder.told
    (λ (es : Log). stamp_of d ((after (opening q) es).rows i).deferred ≡ Some x))
    e w.told

pub goes-in :
    (n l i x y p : ℕ) (c : Caches Recorded) → c.processor ≡ p
    → MayGo (λ (r : Recorded). r.told) n l i x y c → IfSome c.recorder.told (GoesFrom p l i x y)
goes-in n l i x y p c e m = subst (λ q. IfSome c.recorder.told (GoesFrom q l i x y)) e m.told

module _ {W : Type 0} (knows : Knows W) (closing : Bool) where
  pub record Rests (since : Log) (start : W) (l : ℕ) (d : Domain) (x : ℕ) (log : Log) (w : W) :
      Type 0 where
    pub done : List Act
    pub es : List Entry
    pub idle : Idles knows d x log w done es
    pub tied : Tied (polled knows closing since start) (DoesHere knows) since start l done es log w

  abbrev pub RestsBy : Log → W → ℕ → Domain → ℕ → Option Log → W → Type 0
  RestsBy since start l d x None w = Unit {0}
  RestsBy since start l d x (Some log) w = Rests since start l d x log w

  -- it rested, and handlers of higher levels may have run since
  pub record Rested (since : Log) (start : W) (l : ℕ) (d : Domain) (x : ℕ) (done : List Act)
      (log : Log) (w : W) : Type 0 where
    pub tied : Tied (polled knows closing since start) (DoesHere knows) since start l done [] log w
    pub before : Log
    pub at : W
    pub rests : Rests since start l d x before at
    pub added : Log
    pub from : AllFrom (l + 1) added
    pub log_is : log ≡ before ++ added

  abbrev pub RestedBy : Log → W → ℕ → Domain → ℕ → List Act → Option Log → W → Type 0
  RestedBy since start l d x done None w = Unit {0}
  RestedBy since start l d x done (Some log) w = Rested since start l d x done log w

  -- ---- it rests

  -- a look in vain
  pub rests-looked :
      (since : Log) (start : W) (l : ℕ) (d : Domain) (x : ℕ) (log : Option Log) (w : W)
      → Fails (side d (knows.known w)).first (side d (knows.known w)).later
      → TiedBy (polled knows closing since start) (DoesHere knows) since start l
      (act.Looks d (side d (knows.known w)).later ∷ []) [] log w
      → RestsBy since start l d x log w
  rests-looked since start l d x None w f t = tt
  rests-looked since start l d x (Some log) w f t =
      record { done = _; es = []; idle = idle.Looked f; tied = t }

  -- a period that began just now
  pub rests-begun :
      (since : Log) (start : W) (l : ℕ) (d : Domain) (x n m : ℕ) (c : Caches Recorded) (w : W)
      → n ≤ x → c.processor ≡ home knows w
      → ((i : ℕ) × HasStamp (λ (r : Recorded). r.told) m i d x c)
      → Fails (side d (knows.known w)).first (side d (knows.known w)).later
      → TiedBy (polled knows closing since start) (DoesHere knows) since start l
      (act.Begins d n ∷ act.Looks d (side d (knows.known w)).later ∷ []) (entry.Begin d n ∷ [])
      c.recorder.told w
      → RestsBy since start l d x c.recorder.told w
  rests-begun since start l d x n m c w b e a f t =
      go c.recorder.told (waits-in m a.0 d x (home knows w) c e a.1) t
    where
      go :
          (log : Option Log) → IfSome log (WaitsIn (home knows w) a.0 d x)
          → TiedBy (polled knows closing since start) (DoesHere knows) since start l
          (act.Begins d n ∷ act.Looks d (side d (knows.known w)).later ∷ [])
          (entry.Begin d n ∷ []) log w
          → RestsBy since start l d x log w
      go None i u = tt
      go (Some log) i u = record { done = _; es = _; idle = idle.Begun n b (a.0, i) f; tied = u }

  -- a number that needs no begin
  pub rests-read :
      (since : Log) (start : W) (l : ℕ) (d : Domain) (x n : ℕ) (log : Option Log) (w : W)
      → IsIdle x n → (side d (knows.known w)).number ≡ 0
      → TiedBy (polled knows closing since start) (DoesHere knows) since start l
      (act.Reads d x n ∷ []) [] log w
      → RestsBy since start l d x log w
  rests-read since start l d x n None w i z t = tt
  rests-read since start l d x n (Some log) w i z t =
      record { done = _; es = []; idle = idle.Read n i z; tied = t }

  -- a begin that was too late
  pub rests-missed :
      (since : Log) (start : W) (l : ℕ) (d : Domain) (x even n : ℕ) (log : Option Log) (w : W)
      → TiedBy (polled knows closing since start) (DoesHere knows) since start l
      (act.Reads d x even ∷ act.Misses d even n ∷ []) [] log w
      → RestsBy since start l d x log w
  rests-missed since start l d x even n None w t = tt
  rests-missed since start l d x even n (Some log) w t =
      record { done = _; es = []; idle = idle.Missed even n; tied = t }

  -- a period that began and ended at once
  pub rests-whole :
      (since : Log) (start : W) (l : ℕ) (d : Domain) (x n m : ℕ) (ws : List ℕ) (p : Period)
      (c : Caches Recorded) (w : W) → p.domain ≡ d → n ≤ x → c.processor ≡ home knows w
      → ((i : ℕ) × HasStamp (λ (r : Recorded). r.told) m i d x c)
      → TiedBy (polled knows closing since start) (DoesHere knows) since start l
      (act.Begins d n ∷ act.Looks d ws ∷ act.Finishes p ∷ [])
      (entry.Begin d n ∷ entry.Finish p ∷ []) c.recorder.told w
      → RestsBy since start l d x c.recorder.told w
  rests-whole since start l d x n m ws p c w q b e a t =
      go c.recorder.told (waits-in m a.0 d x (home knows w) c e a.1) t
    where
      go :
          (log : Option Log) → IfSome log (WaitsIn (home knows w) a.0 d x)
          → TiedBy (polled knows closing since start) (DoesHere knows) since start l
          (act.Begins d n ∷ act.Looks d ws ∷ act.Finishes p ∷ [])
          (entry.Begin d n ∷ entry.Finish p ∷ []) log w
          → RestsBy since start l d x log w
      go None i u = tt
      go (Some log) i u =
          record { done = _; es = _; idle = idle.Ended n ws p q b (a.0, i); tied = u }

  -- ---- it is tied

  tied-now :
      (since : Log) (start : W) (l : ℕ) (d : Domain) (x : ℕ) (log : Log) (w : W) (done : List Act)
      (es : List Entry) → Idles knows d x log w done es
      → Tied (polled knows closing since start) (DoesHere knows) since start l done es log w
      → TiedBy (polled knows closing since start) (DoesHere knows) since start l [] [] (Some log) w
  tied-now since start l d x log w _ _ (idle.Looked f) t =
      as-judged knows closing since start l (act.Looks d (side d (knows.known w)).later ∷ []) []
      (Some log) w (chunk.Looking d (side d (knows.known w)).later) refl refl (λ before q. tt) t
  tied-now since start l d x log w _ _ (idle.Begun n b a f) t =
      as-judged knows closing since start l
      (act.Begins d n ∷ act.Looks d (side d (knows.known w)).later ∷ []) (entry.Begin d n ∷ [])
      (Some log) w (chunk.Beginning d n (side d (knows.known w)).later) refl refl due t
    where
      waits : WaitsIn (home knows start) a.0 d x log
      waits = subst (λ p. WaitsIn p a.0 d x log) t.done_is.1 a.1

      due :
          (before : Log) → Some log ≡ Some (before ++ (l, entry.Begin d n) ∷ [])
          → IsDue (home knows start) d n before
      due before q =
          (let e : log ≡ before ++ (l, entry.Begin d n) ∷ [] = cc in
          record {
            stamp = x;
            awaited = (
              a.0,
              waits-begun (home knows start) l a.0 d x n before
                  (subst (WaitsIn (home knows start) a.0 d x) e waits),
            );
            below = b;
          })
  tied-now since start l d x log w _ _ (idle.Read n i z) t =
      as-judged knows closing since start l (act.Reads d x n ∷ []) [] (Some log) w
      (chunk.Asking d x n) refl refl (λ before q. tt) t
  tied-now since start l d x log w _ _ (idle.Missed even n) t =
      let then =
      tie-first (polled knows closing since start) (unpolled knows closing since start)
      (DoesHere
      knows) (here-same knows) (here-join knows) since start l (act.Reads d x even ∷ []) (act.Misses
      d even n
      ∷ []) [] [] log w (chunk.Asking d x even) refl refl (λ before q. tt) t in
      as-judged knows closing since start l (act.Misses d even n ∷ []) [] (Some log) w
      (chunk.Missing d even n) refl refl (λ before q. tt) then
  tied-now since start l d x log w _ _ (idle.Ended n ws p q b a) t =
      let T : Domain → Type 0 = λ k. Tied (polled knows closing since start) (DoesHere knows) since
      start l (act.Begins k n ∷ act.Looks k ws ∷ act.Finishes p ∷ []) (entry.Begin k n
      ∷ entry.Finish p ∷ []) log w in
      as-judged knows closing since start l
      (act.Begins p.domain n ∷ act.Looks p.domain ws ∷ act.Finishes p ∷ [])
      (entry.Begin p.domain n ∷ entry.Finish p ∷ []) (Some log) w (chunk.WholePeriod n ws p)
      refl refl due (subst T (sym q) t)
    where
      due :
          (before : Log)
          → Some log ≡ Some (before ++ (l, entry.Begin p.domain n) ∷ (l, entry.Finish p) ∷ [])
          → IsDue (home knows start) p.domain n before
      due before r = (
          let e : log ≡ before ++ (l, entry.Begin p.domain n) ∷ (l, entry.Finish p) ∷ [] = cc in
          let a' : WaitsIn (home knows start) a.0 p.domain x log = subst (λ k. WaitsIn
          (home knows start) a.0 k x log) (sym q) (subst (λ r. WaitsIn r a.0 d x log)
          t.done_is.1 a.1) in
          record {
            stamp = x;
            awaited = (
              a.0,
              waits-whole (home knows start) l a.0 p.domain x n p before
                  (subst (WaitsIn (home knows start) a.0 p.domain x) e a'),
            );
            below = b;
          })

  -- what rests is tied
  pub rests-tied :
      (since : Log) (start : W) (l : ℕ) (d : Domain) (x : ℕ) (log : Option Log) (w : W)
      → RestsBy since start l d x log w
      → TiedBy (polled knows closing since start) (DoesHere knows) since start l [] [] log w
  rests-tied since start l d x None w r = tt
  rests-tied since start l d x (Some log) w r =
      tied-now since start l d x log w r.done r.es r.idle r.tied

  -- ---- behind a point

  pub law-kept :
      (since : Log) (start : W) (l : ℕ) (d : Domain) (x : ℕ) (log now : Option Log) (w v : W)
      → Above (l + 1) log now
      → TiedBy (polled knows closing since start) (DoesHere knows) since start l [] [] now v
      → RestsBy since start l d x log w → RestedBy since start l d x [] now v
  law-kept since start l d x log None w v a t r = tt
  law-kept since start l d x None (Some now) w v a t r = absurd (let q = a.told in cc)
  law-kept since start l d x (Some log) (Some now) w v a t r =
      let same : log ≡ a.log = (let q = a.told in cc) in
      record {
        tied = t;
        before = log;
        at = w;
        rests = r;
        added = a.added;
        from = a.from;
        log_is = subst (λ z. now ≡ z ++ a.added) (sym same) a.now_is;
      }

  pub law-rested_done :
      (since : Log) (start : W) (l : ℕ) (d : Domain) (x : ℕ) (done more : List Act)
      (log : Option Log) (w v : W) → DoesHere knows more w v
      → RestedBy since start l d x done log w → RestedBy since start l d x (done ++ more) log v
  law-rested_done since start l d x done more None w v m r = tt
  law-rested_done since start l d x done more (Some log) w v m r =
      record {
        tied =
            tie-done (polled knows closing since start) (unpolled knows closing since start)
            (DoesHere knows) (here-same knows) (here-join knows) since start l done more
            [] log w v m r.tied;
        before = r.before;
        at = r.at;
        rests = r.rests;
        added = r.added;
        from = r.from;
        log_is = r.log_is;
      }

  pub law-passed :
      (since : Log) (start : W) (l i : ℕ) (d : Domain) (x n : ℕ) (log now : Option Log) (w : W)
      → IfSome log (WaitsIn (home knows w) i d x) → Appends log l (entry.Pass i d n) now
      → RestedBy since start l d x (act.Reads d x n ∷ []) log w
      → TiedBy (polled knows closing since start) (DoesHere knows) since start l [] [] now w
  law-passed since start l i d x n log None w b a r = tt
  law-passed since start l i d x n None (Some now) w b a r = absurd (let q = a.told in cc)
  law-passed since start l i d x n (Some log) (Some now) w b a r =
      as-judged knows closing since start l (act.Reads d x n ∷ []) (entry.Pass i d n ∷ [])
      (Some now) w (chunk.Passing i d x n) refl refl was
      (law-said (polled knows closing since start) (unpolled knows closing since start)
      (DoesHere knows) (here-same knows) (here-join knows) since start l (act.Reads d x n ∷ [])
      [] (entry.Pass i d n) (Some log) (Some now) w a r.tied)
    where
      same : log ≡ a.log
      same = (let q = a.told in cc)

      -- the log before the pass
      there : (before : Log) → Some now ≡ Some (before ++ (l, entry.Pass i d n) ∷ []) → log ≡ before
      there before q =
          append_cancel_right log before ((l, entry.Pass i d n) ∷ [])
          (ap (λ z. z ++ (l, entry.Pass i d n) ∷ []) same
          ∙ (sym a.more ∙ (let e : now ≡ before ++ (l, entry.Pass i d n) ∷ [] = cc in e)))

      was :
          (before : Log) → Some now ≡ Some (before ++ (l, entry.Pass i d n) ∷ [])
          → idle.WasIdle knows since start l i d x before
      was before q = subst (idle.WasIdle knows since start l i d x) (there before q) (record {
        waits = subst (λ p. WaitsIn p i d x log) r.tied.done_is.1 b;
        before = r.before;
        at = r.at;
        idle =
            record {
              done = r.rests.done;
              es = r.rests.es;
              idle = r.rests.idle;
              tied =
                  tie-unjudged (polled knows closing since start) (DoesHere knows) since start
                  l r.rests.done r.rests.es r.before r.at r.rests.tied;
            };
        added = r.added;
        from = r.from;
        log_is = r.log_is;
      })

  -- ---- a batch that goes away

  -- directly after its pass
  pub law-released :
      (since : Log) (start : W) (l i to : ℕ) (us : List ℕ) (x n : ℕ) (log now : Option Log) (w : W)
      → IfSome log (GoesFrom (home knows w) l i x n)
      → Appends log l (entry.Send i to (Whole us)) now
      → TiedBy (polled knows closing since start) (DoesHere knows) since start l
      (act.Releases i to us x n ∷ []) [] log w
      → TiedBy (polled knows closing since start) (DoesHere knows) since start l [] [] now w
  law-released since start l i to us x n log None w b a t = tt
  law-released since start l i to us x n None (Some now) w b a t = absurd (let q = a.told in cc)
  law-released since start l i to us x n (Some log) (Some now) w b a t =
      as-judged knows closing since start l (act.Releases i to us x n ∷ [])
      (entry.Send i to (Whole us) ∷ []) (Some now) w (chunk.Releasing i to us x n) refl refl was
      (law-said (polled knows closing since start) (unpolled knows closing since start)
      (DoesHere knows) (here-same knows) (here-join knows) since start l
      (act.Releases i to us x n ∷ []) [] (entry.Send i to (Whole us)) (Some log) (Some now) w a
      t)
    where
      same : log ≡ a.log
      same = (let q = a.told in cc)

      -- the log before the parcel
      there :
          (before : Log) → Some now ≡ Some (before ++ (l, entry.Send i to (Whole us)) ∷ [])
          → log ≡ before
      there before q =
          append_cancel_right log before ((l, entry.Send i to (Whole us)) ∷ [])
          (ap (λ z. z ++ (l, entry.Send i to (Whole us)) ∷ []) same
          ∙ (sym a.more
          ∙ (let e : now ≡ before ++ (l, entry.Send i to (Whole us)) ∷ [] = cc in e)))

      was :
          (before : Log) → Some now ≡ Some (before ++ (l, entry.Send i to (Whole us)) ∷ [])
          → GoesFrom (home knows start) l i x n before
      was before q =
          subst (GoesFrom (home knows start) l i x n) (there before q)
          (subst (λ p. GoesFrom p l i x n log) t.done_is.1 b)
