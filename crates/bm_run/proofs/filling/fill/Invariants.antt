use Rattle.std.proofs.Common.{◌≡◌, map, drop}
use Rattle.std.specs.List.{All}
use Rattle.bm_page.specs.UnitState.{UnitState}
use Rattle.bm_page.specs.Out.{AreOut}
use Rattle.bm_cache.specs.Opening.{FillsSit}
use Rattle.bm_run.specs.Filling.{filling, behind, units_in, IsUnborn, NeverLived}
use Rattle.bm_run.proofs.filling.fill.Given as goal

abbrev pub invariant-loop-class : goal.invariant-loop-class
invariant-loop-class l = record {
  so_far : filling l.classes l.initial.pool ≡ behind (map (λ f. (f.0, f.1.items)) l.fills.items) (filling (drop l.class-index l.classes) l.pool);
  sits : FillsSit (map (λ f. (f.0, f.1.items)) l.fills.items);
  unlived : All (λ (u : UnitState). NeverLived u.life u.seal) (units_in (map (λ f. (f.0, f.1.items)) l.fills.items));
  out : AreOut l.pool (units_in (map (λ f. (f.0, f.1.items)) l.fills.items));
  unborn : IsUnborn l.pool.units;
}
