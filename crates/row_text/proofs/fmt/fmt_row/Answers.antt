use Rattle.row_text.proofs.Kit.{ℕ, ◌-◌, ap, ◌∙◌, arith}
use Rattle.encoding.specs.Words.{qubits}
use Rattle.row_text.proofs.Putting.{too_short, room_for, fitting}
use Rattle.row_text.proofs.fmt.fmt_row.Goals as goal

pub returns-then-size-out : goal.returns-then-size-out
returns-then-size-out c =
    let a = c.args in
    too_short (qubits a.n a.x.now a.z.now) a.out.now (c.saturating_sub-size.ensures ∙ ap (λ (k : ℕ). k - 1) c.spaced_size.ensures) c.if-size-out.true

pub put_row-requires : goal.put_row-requires
put_row-requires c =
    let a = c.args in
    record {
      n_le_max_qubits = c.requires;
      z_in_bounds = room_for (qubits a.n a.x.now a.z.now) a.out.now (c.saturating_sub-size.ensures ∙ ap (λ (k : ℕ). k - 1) c.spaced_size.ensures) (omega arith);
    }

pub returns : goal.returns
returns c =
    let a = c.args in
    let h = c.if-size-out.false in
    fitting (qubits a.n a.x.now a.z.now) a.out.now (c.saturating_sub-size.ensures ∙ ap (λ (k : ℕ). k - 1) c.spaced_size.ensures) (omega arith) c.put_row.ensures
