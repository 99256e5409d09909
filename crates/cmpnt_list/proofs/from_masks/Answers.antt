-- One return for each Pauli: the mask of X, Y or Z has counted them, that of I the others, so that I is what is left of n. It is not negative, since
-- the count is at most n.
use mathlib.Core.Path.{sym, ap, ◌∙◌}
use Prim.Native.Nat.{ℕ, ◌-◌}
use Rattle.pauli.specs.Pauli.{Pauli}
use Rattle.cmpnt_list.specs.Workers.{from_masks}
use Rattle.cmpnt_list.proofs.from_masks.Goals as goal

pub returns-in-I : goal.returns-in-I
returns-in-I c =
    let a = c.args in
    ap (λ (m : ℕ). m - a.k) c.all_qubits-all.ensures ∙ ap (λ (p : Pauli). from_masks p a.n a.k) (sym c.in-I.is)
