-- Invariant: s is the running sum from `start` over the kets before j, each with its tests.
use Rattle.std.proofs.Common.{◌≡◌}
use Rattle.checked.specs.Range.{gauss}
use Rattle.mat_elem.specs.Workers.{ket_step}
use Rattle.mat_elem.specs.states.Sums.{terms_of, vectors_of, through}
use Rattle.mat_elem.proofs.states.over_kets.Given as goal

abbrev pub invariant-loop-j : goal.invariant-loop-j
invariant-loop-j l =
    l.s ≡ through (ket_step (terms_of l.terms) (vectors_of l.kets) l.bra (gauss l.br l.bi)) l.initial.s l.j
