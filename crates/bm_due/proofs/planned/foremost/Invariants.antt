use Rattle.std.proofs.Common.{◌≡◌, ◌-◌, ◌^◌, ℕ, min}
use Rattle.bm_due.proofs.Foremost.{Scan}
use Rattle.bm_due.proofs.planned.foremost.Given as goal

abbrev pub invariant-loop-i : goal.invariant-loop-i
invariant-loop-i l = (n : ℕ) → l.step ≡ min n (2 ^ 64 - 1) → Scan n l.fn.level l.lines l.i l.highest l.place
