-- All units of a class become a batch.
use Rattle.std.proofs.Common.{◌≡◌, ℕ, List, [], ◌∷◌, Option, Some, None, IsTrue, IsSome, ap, subst, ◌∙◌, refl}
use Rattle.bm_journal.specs.declared.ids.Domain.TheVariants.{Tracing}
use Rattle.bm_journal.specs.declared.units.Units.{Units}
use Rattle.bm_journal.specs.declared.units.Units.TheVariants.{Whole}
use Rattle.bm_journal.specs.declared.entry.Entry.{Entry}
use Rattle.bm_journal.specs.declared.entry.Entry.TheVariants as entry
use Rattle.bm_journal.specs.Recording.{Appends}
use Rattle.bm_journal.specs.WellFormed.{is_whole}
use Rattle.bm_law.specs.Alone.{Adds}
use Rattle.bm_law.specs.Effect.{effect}
use Rattle.bm_law.specs.Lists.{Log}
use Rattle.bm_law.proofs.Alone.{Adds-one, Adds-join}
use Rattle.bm_cache.specs.Listed.{TookUnits}
use Rattle.bm_cache.specs.Shown.{shown, Took}
use Rattle.bm_cache.specs.Tokens.{Token}
use Rattle.bm_cache.specs.declared.caches.Caches.{Caches}
use Rattle.bm_closing.specs.Gathered.{swept, Gathered}
use Rattle.bm_closing.specs.declared.period.Waited.{Waited}

-- where a log is told, the list that an entry names is whole
adds-listed : (e : Units → Entry) (units : Units) (xs : List ℕ) (a b : Option Log) → Appends a 0 (e units) b → (IsSome b → IsTrue (is_whole units)) → (IsTrue (is_whole units) → units ≡ Whole xs) → Adds 0 (e (Whole xs) ∷ []) a b
adds-listed e units xs a None h t w = tt
adds-listed e units xs a (Some n) h t w = Adds-one 0 (e (Whole xs)) a (Some n) (subst (λ u. Appends a 0 (e u) (Some n)) (w (t refl)) h)

module _ {R : Type 0} (log : R → Option Log) where
  -- one entry after the other
  adds-took : (e : Entry) (us : List Token) (a b : Caches R) → Took log 0 e us a b → Adds 0 (e ∷ []) (log a.recorder) (log b.recorder)
  adds-took e us a b t = Adds-one 0 e (log a.recorder) (log b.recorder) t.records

  pub gathered : (c : ℕ) (us : List Token) (w : Waited) (c0 c1 c2 c3 c4 c5 : Caches R) →
      TookUnits log 0 (entry.Sweep c) (swept c us (shown c0)) us c0 c1 → Took log 0 (entry.Stamp c Tracing w.stamp) [] c1 c2 → Took log 0 (entry.Begin Tracing w.begun) [] c2 c3 → Took log 0 (entry.Finish w.period) [] c3 c4 → Took log 0 (entry.Pass c Tracing w.seen) [] c4 c5 →
      shown c3 ≡ shown c2 → shown c4 ≡ shown c3 → shown c5 ≡ shown c4 → Gathered log c us w c0 c5
  gathered c us w c0 c1 c2 c3 c4 c5 t1 t2 t3 t4 t5 s3 s4 s5 =
      let x1 : Entry = entry.Sweep c (Whole (swept c us (shown c0))) in
      let x2 : Entry = entry.Stamp c Tracing w.stamp in
      let x3 : Entry = entry.Begin Tracing w.begun in
      let x4 : Entry = entry.Finish w.period in
      let x5 : Entry = entry.Pass c Tracing w.seen in
      let L : Caches R → Option Log = λ k. log k.recorder in
      record {
        gained = Adds-join 0 (x1 ∷ []) (x2 ∷ x3 ∷ x4 ∷ x5 ∷ []) (L c0) (L c1) (L c5) (adds-listed (entry.Sweep c) t1.units (swept c us (shown c0)) (L c0) (L c1) t1.records t1.told t1.whole)
            (Adds-join 0 (x2 ∷ []) (x3 ∷ x4 ∷ x5 ∷ []) (L c1) (L c2) (L c5) (adds-took x2 [] c1 c2 t2)
            (Adds-join 0 (x3 ∷ []) (x4 ∷ x5 ∷ []) (L c2) (L c3) (L c5) (adds-took x3 [] c2 c3 t3)
            (Adds-join 0 (x4 ∷ []) (x5 ∷ []) (L c3) (L c4) (L c5) (adds-took x4 [] c3 c4 t4) (adds-took x5 [] c4 c5 t5))));
        lists = s5 ∙ (s4 ∙ (s3 ∙ (t2.after ∙ ap (effect 0 x2 []) t1.after)));
        processor = t5.processor ∙ (t4.processor ∙ (t3.processor ∙ (t2.processor ∙ t1.processor)));
      }
