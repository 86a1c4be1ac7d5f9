-- What a turn of one processor asks for raises what all may ask for by no more.
use Rattle.std.specs.Prelude.{◌≤◌, ◌<◌, ◌+◌, ℕ, List, get_or, length, set}
use Rattle.std.proofs.Common.{arith}
use Rattle.std.proofs.lemmas.List.Sums.{get_or-le-sum_by, sum_by-set}
use Rattle.bm_lang.specs.declared.scenario.Parts.{Parts}
use Rattle.bm_world.specs.LivingState.{LivingState}
use Rattle.bm_world.specs.ToldLiving.{knows_living}
use Rattle.bm_exec_levels.specs.Ready.{asked_of}
use Rattle.bm_exec_levels.specs.declared.kept.Kept.{Kept}
use Rattle.bm_run.specs.Asked.{asked_by_all, in_its_turn, own_asks}

-- no processor asked for more than all
pub asked-most : (s : Parts) (kept : List Kept) (world : LivingState) (i : ℕ) (k : Kept) → i < length kept → asked_of knows_living s (in_its_turn (get_or kept i k) world) ≤ asked_by_all s kept world
asked-most s kept world i k lt = (let a = get_or-le-sum_by (own_asks s) kept i k lt in omega (arith, a))

-- a turn that asks for at most so many raises it by at most so many
pub asked-turn : (s : Parts) (kept : List Kept) (before now : LivingState) (i n : ℕ) (k d : Kept) → i < length kept → asked_of knows_living s (in_its_turn k now) ≤ asked_of knows_living s (in_its_turn (get_or kept i d) before) + n → asked_by_all s (set kept i k) now ≤ asked_by_all s kept before + n
asked-turn s kept before now i n k d lt h = (let a = sum_by-set (own_asks s) kept i k d lt in omega (arith, a, h))
