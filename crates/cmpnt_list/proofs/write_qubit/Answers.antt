-- Only the part of words of row r is lent on, and in it one qubit is set. Every other row keeps its words, so the memory is the one laid from the rows
-- with that qubit (`qubit-written`).
use Rattle.encoding.specs.Limits.{words_of}
use Rattle.cmpnt_list.proofs.OneQubit.{qubit-written}
use Rattle.cmpnt_list.proofs.write_qubit.Goals as goal

pub returns : goal.returns
returns c =
    let a = c.args in
    let q = c.set_qubit in
    qubit-written a.n (words_of a.n) c.requires.sound.valid a.r.0 a.q.0 a.pauli c.requires.r_lt_m.0 c.requires.r_lt_m.1 c.row_span-s.ensures
    q.new.x q.new.z q.auto.x q.auto.z c.type_inv.x c.type_inv.z q.ensures
