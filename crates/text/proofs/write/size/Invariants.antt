-- Each division counts a digit: the count and the digits of what is left are one more than the digits of v.
use Rattle.text.proofs.Kit.{◌≡◌, ◌+◌, ◌-◌}
use Rattle.text.specs.Numbers.{size}
use Rattle.text.proofs.write.size.Given as goal

abbrev pub invariant-loop-n : goal.invariant-loop-n
invariant-loop-n l = l.n + size l.base (21 - l.n) l.w ≡ 1 + size l.base 20 l.v
