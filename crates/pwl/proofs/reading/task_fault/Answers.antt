-- The set is tested first, and where it passes the lists: each lies within the file (`start_fits`, `order_fits` and its like), and its numbers are the
-- run's (`task_first`, `task_told`).
use Rattle.std.proofs.Common.{rules, ◌≡◌, Err, sym, subst}
use Rattle.pwl.specs.Workers.{TaskFault}
use Rattle.pwl.proofs.Runs.{words_are, phases_are, order_fits, listed_fits, extra_fits, start_fits, task_first, task_told}
use Rattle.pwl.proofs.reading.task_fault.Goals as goal

pub set_fault-requires : goal.set_fault-requires
set_fault-requires c =
    let a = c.args in
    let e = c.requires.2 in
    (c.requires.0, c.requires.1, words_are a.f a.at e, phases_are a.f a.at e, start_fits a.f a.at e c.requires.3)

pub returns-in_err-set_fault : goal.returns-in_err-set_fault
returns-in_err-set_fault c =
    let a = c.args in
    let h : c.from_residual.result ≡ Err c.in_err-set_fault.field-0.0 = search rules in
    subst (TaskFault a.f a.s.now) (sym h) (task_first a.f a.s.now a.at c.requires.2 c.set_fault.ensures.value c.in_err-set_fault.was)

pub lists_fault-requires : goal.lists_fault-requires
lists_fault-requires c =
    let a = c.args in
    let e = c.requires.2 in
    record {
      n_le_max_qubits = (c.requires.0, c.requires.1);
      a_in_bounds = (order_fits a.f a.at e c.requires.3, listed_fits a.f a.at e c.requires.3, extra_fits a.f a.at e c.requires.3);
    }

pub returns : goal.returns
returns c =
    let a = c.args in
    task_told a.f a.s.now a.at c.requires.2 c.set_fault.ensures.value c.in_ok-set_fault.was c.lists_fault.ensures
