use Rattle.std.specs.Prelude.{map}
use Rattle.std.specs.List.{flat_map}
use Rattle.bm_lang.specs.Tokens as token
use Rattle.bm_lang.specs.Known.{knowing}
use Rattle.bm_lang.specs.Spelling.{any, type_form, map_form, script_form, spell_type, spell_map, spell_script, spell_run, spell_at, spell_turns}
use Rattle.bm_lang.proofs.Steps.{failed, fails_first, fails_behind, fails_going, both, as_read, more}
use Rattle.bm_lang.proofs.Pushes.{end-of-seven}
use Rattle.bm_lang.specs.Spelling.{spell_header}
use Rattle.bm_lang.specs.Grammar.{declarations}
use Rattle.bm_lang.proofs.Steps.{going_both}
use Rattle.bm_lang.proofs.reading.whole.Goals as goal

pub returns-in_err-types : goal.returns-in_err-types
returns-in_err-types c = let hH = rw c.new-tokens.ensures at c.in_ok-header.ensures in let e = c.in_err-types.ensures.read c.in_ok-header.header.processors in failed _ _ _ _ _ _ _ _ _ c.from_residual-in_err-types.ensures.1 (fails_going _ (more declarations hH) (fails_first _ _ _ _ _ e))

pub returns-in_err-maps : goal.returns-in_err-maps
returns-in_err-maps c = let hH = rw c.new-tokens.ensures at c.in_ok-header.ensures in let htypes = c.in_ok-types.ensures.read c.in_ok-header.header.processors in let e = rw (c.deref.ensures.value) at (c.in_err-maps.ensures.read c.in_ok-header.header.processors) in failed _ _ _ _ _ _ _ _ _ c.from_residual-in_err-maps.ensures.1 (fails_going _ (more declarations hH) (fails_behind _ _ htypes (fails_first _ _ _ _ _ e)))

pub returns-in_err-scripts : goal.returns-in_err-scripts
returns-in_err-scripts c = let hH = rw c.new-tokens.ensures at c.in_ok-header.ensures in let htypes = c.in_ok-types.ensures.read c.in_ok-header.header.processors in let hmaps = rw (c.deref.ensures.value) at (c.in_ok-maps.ensures.read c.in_ok-header.header.processors) in let e = rw (c.deref.ensures.value, c.deref-2.ensures.value) at (c.in_err-scripts.ensures.read c.in_ok-header.header.processors) in failed _ _ _ _ _ _ _ _ _ c.from_residual-in_err-scripts.ensures.1 (fails_going _ (more declarations hH) (fails_behind _ _ htypes (fails_behind _ _ hmaps (fails_first _ _ _ _ _ e))))

pub returns-in_err-runs : goal.returns-in_err-runs
returns-in_err-runs c = let hH = rw c.new-tokens.ensures at c.in_ok-header.ensures in let htypes = c.in_ok-types.ensures.read c.in_ok-header.header.processors in let hmaps = rw (c.deref.ensures.value) at (c.in_ok-maps.ensures.read c.in_ok-header.header.processors) in let hscripts = rw (c.deref.ensures.value, c.deref-2.ensures.value) at (c.in_ok-scripts.ensures.read c.in_ok-header.header.processors) in let e = rw (c.deref-3.ensures.value) at (c.in_err-runs.ensures (map type_form c.in_ok-types.types.items) (map map_form c.in_ok-maps.maps.items)) in failed _ _ _ _ _ _ _ _ _ c.from_residual-in_err-runs.ensures.1 (fails_going _ (more declarations hH) (fails_behind _ _ htypes (fails_behind _ _ hmaps (fails_behind _ _ hscripts (fails_first _ _ _ _ _ e)))))

pub returns-in_err-ats : goal.returns-in_err-ats
returns-in_err-ats c = let hH = rw c.new-tokens.ensures at c.in_ok-header.ensures in let htypes = c.in_ok-types.ensures.read c.in_ok-header.header.processors in let hmaps = rw (c.deref.ensures.value) at (c.in_ok-maps.ensures.read c.in_ok-header.header.processors) in let hscripts = rw (c.deref.ensures.value, c.deref-2.ensures.value) at (c.in_ok-scripts.ensures.read c.in_ok-header.header.processors) in let hruns = rw (c.deref-3.ensures.value) at (c.in_ok-runs.ensures (map type_form c.in_ok-types.types.items) (map map_form c.in_ok-maps.maps.items)) in let e = rw (c.deref-3.ensures.value) at (c.in_err-ats.ensures (map type_form c.in_ok-types.types.items) (map map_form c.in_ok-maps.maps.items)) in failed _ _ _ _ _ _ _ _ _ c.from_residual-in_err-ats.ensures.1 (fails_going _ (more declarations hH) (fails_behind _ _ htypes (fails_behind _ _ hmaps (fails_behind _ _ hscripts (fails_behind _ _ hruns (fails_first _ _ _ _ _ e))))))

pub returns-in_err-turns : goal.returns-in_err-turns
returns-in_err-turns c = let hH = rw c.new-tokens.ensures at c.in_ok-header.ensures in let htypes = c.in_ok-types.ensures.read c.in_ok-header.header.processors in let hmaps = rw (c.deref.ensures.value) at (c.in_ok-maps.ensures.read c.in_ok-header.header.processors) in let hscripts = rw (c.deref.ensures.value, c.deref-2.ensures.value) at (c.in_ok-scripts.ensures.read c.in_ok-header.header.processors) in let hruns = rw (c.deref-3.ensures.value) at (c.in_ok-runs.ensures (map type_form c.in_ok-types.types.items) (map map_form c.in_ok-maps.maps.items)) in let hats = rw (c.deref-3.ensures.value) at (c.in_ok-ats.ensures (map type_form c.in_ok-types.types.items) (map map_form c.in_ok-maps.maps.items)) in let e = c.in_err-turns.ensures (map type_form c.in_ok-types.types.items) (map map_form c.in_ok-maps.maps.items) (map script_form c.in_ok-scripts.scripts.items) in failed _ _ _ _ _ _ _ _ _ c.from_residual-in_err-turns.ensures.1 (fails_going _ (more declarations hH) (fails_behind _ _ htypes (fails_behind _ _ hmaps (fails_behind _ _ hscripts (fails_behind _ _ hruns (fails_behind _ _ hats (fails_first _ _ _ _ _ e)))))))

pub returns-in_err-end : goal.returns-in_err-end
returns-in_err-end c = let hH = rw c.new-tokens.ensures at c.in_ok-header.ensures in let htypes = c.in_ok-types.ensures.read c.in_ok-header.header.processors in let hmaps = rw (c.deref.ensures.value) at (c.in_ok-maps.ensures.read c.in_ok-header.header.processors) in let hscripts = rw (c.deref.ensures.value, c.deref-2.ensures.value) at (c.in_ok-scripts.ensures.read c.in_ok-header.header.processors) in let hruns = rw (c.deref-3.ensures.value) at (c.in_ok-runs.ensures (map type_form c.in_ok-types.types.items) (map map_form c.in_ok-maps.maps.items)) in let hats = rw (c.deref-3.ensures.value) at (c.in_ok-ats.ensures (map type_form c.in_ok-types.types.items) (map map_form c.in_ok-maps.maps.items)) in let hturns = c.in_ok-turns.ensures (map type_form c.in_ok-types.types.items) (map map_form c.in_ok-maps.maps.items) (map script_form c.in_ok-scripts.scripts.items) in let e = c.in_err-end.ensures (knowing c.in_ok-header.header.processors (map type_form c.in_ok-types.types.items) (map map_form c.in_ok-maps.maps.items) (map script_form c.in_ok-scripts.scripts.items)) in failed _ _ _ _ _ _ _ _ _ c.from_residual-in_err-end.ensures.1 (fails_going _ (more declarations hH) (fails_behind _ _ htypes (fails_behind _ _ hmaps (fails_behind _ _ hscripts (fails_behind _ _ hruns (fails_behind _ _ hats (fails_behind _ _ hturns (e))))))))

pub returns : goal.returns
returns c = let hH = rw c.new-tokens.ensures at c.in_ok-header.ensures in let htypes = c.in_ok-types.ensures.read c.in_ok-header.header.processors in let hmaps = rw (c.deref.ensures.value) at (c.in_ok-maps.ensures.read c.in_ok-header.header.processors) in let hscripts = rw (c.deref.ensures.value, c.deref-2.ensures.value) at (c.in_ok-scripts.ensures.read c.in_ok-header.header.processors) in let hruns = rw (c.deref-3.ensures.value) at (c.in_ok-runs.ensures (map type_form c.in_ok-types.types.items) (map map_form c.in_ok-maps.maps.items)) in let hats = rw (c.deref-3.ensures.value) at (c.in_ok-ats.ensures (map type_form c.in_ok-types.types.items) (map map_form c.in_ok-maps.maps.items)) in let hturns = c.in_ok-turns.ensures (map type_form c.in_ok-types.types.items) (map map_form c.in_ok-maps.maps.items) (map script_form c.in_ok-scripts.scripts.items) in let hend = c.in_ok-end.ensures (knowing c.in_ok-header.header.processors (map type_form c.in_ok-types.types.items) (map map_form c.in_ok-maps.maps.items) (map script_form c.in_ok-scripts.scripts.items)) in rw (c.new.ensures, c.new-2.ensures, c.new-3.ensures, c.new-4.ensures, c.new-5.ensures) (as_read (going_both (more declarations hH) (both htypes (both hmaps (both hscripts (both hruns (both hats (both hturns (hend)))))))) (end-of-seven (spell_header c.in_ok-header.header.processors c.in_ok-header.header.pages c.in_ok-header.header.deferred) (flat_map spell_type c.in_ok-types.types.items) (flat_map (spell_map (map type_form c.in_ok-types.types.items)) c.in_ok-maps.maps.items) (flat_map (spell_script (map type_form c.in_ok-types.types.items) (map map_form c.in_ok-maps.maps.items)) c.in_ok-scripts.scripts.items) (flat_map (spell_run (map script_form c.in_ok-scripts.scripts.items)) c.in_ok-runs.runs.items) (flat_map (spell_at (map script_form c.in_ok-scripts.scripts.items)) c.in_ok-ats.ats.items) (spell_turns c.in_ok-turns.turns) (any token.Close) (any token.End)) (λ f. record { processors = f.0; types = f.1.0; maps = f.1.1.0; scripts = f.1.1.1.0; runs = f.1.1.1.1.0; ats = f.1.1.1.1.1.0; turns = f.1.1.1.1.1.1.0 }))
