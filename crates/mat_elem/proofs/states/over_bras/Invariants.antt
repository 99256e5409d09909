-- Invariant: s is the running sum over all pairs of the bras before i.
use Rattle.std.proofs.Common.{◌≡◌}
use Rattle.mat_elem.specs.Workers.{bra_step}
use Rattle.mat_elem.specs.states.Sums.{terms_of, vectors_of, through}
use Rattle.mat_elem.proofs.states.over_bras.Given as goal

abbrev pub invariant-loop-i : goal.invariant-loop-i
invariant-loop-i l =
    l.s ≡ through (bra_step (terms_of l.terms) (vectors_of l.bras) (vectors_of l.kets)) l.initial.s l.i
