use Rattle.std.proofs.Common.{◌≡◌, true, take}
use Rattle.std.specs.List.{list_all}
use Rattle.bm_lang.specs.declared.scenario.Script.{Script}
use Rattle.bm_law_scenario.specs.Held.{no_names}
use Rattle.bm_exec.specs.Bindings.{binds_among}
use Rattle.bm_exec.specs.Seen.{names_of, has_name}
use Rattle.bm_exec.proofs.names.NameTable.for_scripts.Given as goal

abbrev pub invariant-loop-script : goal.invariant-loop-script
invariant-loop-script l = record {
  bound : list_all (λ (s : Script). binds_among (has_name l.table) s.body) (take l.script-index l.scripts) ≡ true;
  held : names_of l.table ≡ no_names;
}
