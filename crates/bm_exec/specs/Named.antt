-- What the statements of a script may name, as a run of it has that: the scenario's types and maps.
use Rattle.std.specs.Prelude.{None}
use Rattle.bm_law_scenario.specs.Declared.{Declared}
use Rattle.bm_exec.specs.declared.running.Types.{Types}

-- these types and maps, as the law has them, under no lock
abbrev pub declared_of : Types → Declared
declared_of t = record { types = t.declared.now; maps = t.maps.now; lock = None }
