-- No loop: a number of 1 to 10 is the answer (`answer-refused`); else the running sum is (`answer-run`), which asks what the tests that passed tell.
-- The words' own bounds give what the sum means (`mat-elem`).
use Rattle.std.proofs.Common.{◌≡◌, ◌∙◌, Err, rules}
use Rattle.mat_elem.specs.states.Sums.{terms, state}
use Rattle.mat_elem.proofs.states.Tests.{tests-ready, tests-parted}
use Rattle.mat_elem.proofs.states.Meaning.{mat-elem}
use Rattle.mat_elem.proofs.states.Answers.{answer-refused, no-number, answer-run}
use Rattle.mat_elem.proofs.states.mat_elem_from_presorted.Goals as goal

pub returns-in_err-states_fault : goal.returns-in_err-states_fault
returns-in_err-states_fault c =
    let a = c.args in
    let A = (terms a.x.now a.z.now a.re.now a.im.now) in
    let b = (state a.bras.now a.bre.now a.bim.now) in
    let k = (state a.kets.now a.kre.now a.kim.now) in
    let h : c.from_residual.result ≡ Err c.in_err-states_fault.field-0.0 = search rules in
    mat-elem a.n A b k (h ∙ answer-refused a.n A b k c.states_fault.ensures c.in_err-states_fault.was)
    c.type_inv.x c.type_inv.z c.type_inv.bras c.type_inv.kets

pub all_pairs-requires : goal.all_pairs-requires
all_pairs-requires c =
    let a = c.args in
    let A = (terms a.x.now a.z.now a.re.now a.im.now) in
    let b = (state a.bras.now a.bre.now a.bim.now) in
    let k = (state a.kets.now a.kre.now a.kim.now) in
    let e = no-number a.n A b k c.states_fault.ensures c.in_ok-states_fault.was in
    let p = tests-parted a.n A b k e in
    record {
      ready = tests-ready a.n A b k e;
      parted = p.0;
      parted_2 = p.1;
    }

pub returns : goal.returns
returns c =
    let a = c.args in
    let A = (terms a.x.now a.z.now a.re.now a.im.now) in
    let b = (state a.bras.now a.bre.now a.bim.now) in
    let k = (state a.kets.now a.kre.now a.kim.now) in
    mat-elem a.n A b k (answer-run a.n A b k c.states_fault.ensures c.in_ok-states_fault.was c.all_pairs.ensures c.ok_or.ensures.value)
    c.type_inv.x c.type_inv.z c.type_inv.bras c.type_inv.kets
