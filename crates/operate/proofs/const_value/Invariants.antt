-- Invariant: v is the number of the bits from k up to w; one more bit below doubles it. Assumes nothing.
use Rattle.std.proofs.Common.{◌≡◌, ◌-◌, ◌+◌}
use Rattle.value.specs.Operate.{const_number}
use Rattle.operate.proofs.const_value.Given as goal

abbrev pub invariant-loop-k : goal.invariant-loop-k
invariant-loop-k l = l.v ≡ const_number l.bits (l.s + l.k) (l.w - l.k)
