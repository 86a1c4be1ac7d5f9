-- What a script that runs on the machine of a level leaves of its processor.
use Rattle.std.specs.Prelude.{◌≡◌, ◌<◌, ◌≤◌, ◌+◌, ℕ, length}
use Rattle.std.proofs.Common.{refl, subst, arith, ◌∙◌}
use Rattle.bm_journal.specs.Recording.{Kept as Recorded}
use Rattle.bm_law.proofs.Between.{Kept-refl}
use Rattle.bm_law.proofs.Spans.{Above-none}
use Rattle.bm_cache.specs.Shown.{shown}
use Rattle.bm_cache.proofs.Stretch.{lasting-none}
use Rattle.bm_work_lists.proofs.Spans.{came-join}
use Rattle.bm_work.specs.Goes.{GoesOn}
use Rattle.bm_work.specs.Still.{goes-still}
use Rattle.bm_exec_levels.specs.AtProcessor.{CameAt, SameItems, Stays, log_of, tests_of}
use Rattle.bm_exec_levels.specs.Hosting.{goes-joined, items-joined, lives-same, stays-join, stays-locked, stays-same}
use Rattle.bm_exec_levels.specs.Ready.{known_of, left_of}
use Rattle.bm_exec_levels.specs.declared.processor.Processor.{Processor}
use Rattle.bm_exec_levels.specs.declared.program.Program.{Program}
use Rattle.bm_grace.specs.declared.grace.Knows.{Ghosts as Knows}

module _ {W : Type 0} (knows : Knows W) where
  -- Calls of level l and above came on its caches, and what code leaves as it was is so, whatever it asked for; it began and
  -- ended no section of its own. Above ordinary code it took and gave back no lock, and left lists and trees as they were.
  pub record RunsOn (l : ℕ) (p : Program) (a b : Processor W) : Type 0 where
    pub came : CameAt knows l a b
    pub asks : ℕ
    pub stays : Stays knows asks 0 p (record a { locked = b.locked }) b
    pub above : 0 < l → (b.locked ≡ a.locked) × SameItems knows a b
    pub goes : GoesOn (known_of knows a) (known_of knows b)
    pub fewer : length (left_of b) ≤ length (left_of a)

  pub runs-same : (l : ℕ) (p : Program) (m : Processor W) → RunsOn l p m m
  runs-same l p m = record {
    came =
        record {
          kept = Kept-refl l (shown m.caches);
          above = Above-none l (log_of m);
          lasting = lasting-none l (shown m.caches) (tests_of knows m);
          processor = refl;
        };
    asks = 0;
    stays = stays-same knows p m;
    above = λ h. (refl, (lives-same knows m).1);
    goes = goes-still (known_of knows m) (known_of knows m) refl;
    fewer = omega arith;
  }

  pub runs-joined :
      (l : ℕ) (p q : Program) (a b c : Processor W) → q ≡ p → RunsOn l p a b → RunsOn l q b c
      → RunsOn l p a c
  runs-joined l p q a b c e x y =
      let F : Program → Type 0 = λ r. RunsOn l r b c in
      let z : RunsOn l p b c = subst F e y in
      record {
        came =
            came-join (λ (r : Recorded). r.told) l (tests_of knows a) (tests_of knows b)
            (tests_of knows c) a.caches b.caches c.caches x.came z.came;
        asks = x.asks + z.asks;
        stays =
            stays-join knows x.asks 0 z.asks 0 p (record a { locked = c.locked })
            (record b { locked = c.locked }) c
            (stays-locked knows c.locked x.asks 0 p (record a { locked = b.locked }) b x.stays)
            z.stays;
        above =
            λ h. (let u = x.above h in
            let v = z.above h in (v.0 ∙ u.0, items-joined knows a b c u.1 v.1));
        goes = goes-joined (known_of knows a) (known_of knows b) (known_of knows c) x.goes z.goes;
        fewer = (let v = x.fewer in let w = z.fewer in omega (arith, v, w));
      }
