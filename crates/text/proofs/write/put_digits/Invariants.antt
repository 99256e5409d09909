-- The digits still to come, before those that are there, are all the digits (Writing.Laying).
use Rattle.text.proofs.Writing.{Laying}
use Rattle.text.proofs.write.put_digits.Given as goal

abbrev pub invariant-loop-i : goal.invariant-loop-i
invariant-loop-i l = Laying l.base l.initial.out l.v l.out l.w l.i
