-- The two rows' words are rows a and b. The look-ups sum twice as many qubits as n needs at most (`table_counted`), and at n and above the
-- rows hold I, so that it is the exponent over n qubits (`phase-is`).
use mathlib.Core.Path.{ap₂, ◌∙◌}
use mathlib.Core.List.{List}
use Prim.Native.Nat.{◌+◌, ◌%◌}
use lib.ListN.{take}
use Rattle.pauli.specs.Pauli.{Pauli, phases}
use Rattle.encoding.specs.Limits.{words_of}
use Rattle.encoding.specs.Words.{unpack}
use Rattle.encoding.specs.Set.{row, set_of}
use Rattle.encoding.proofs.Memory.{clean}
use Rattle.encoding.proofs.RowWords.{phase-is}
use Rattle.table.specs.Table.{lookups}
use Rattle.table.proofs.Walks.{table_counted}
use Rattle.cmpnt_list.proofs.phase_rows_by_table.Goals as goal

pub returns : goal.returns
returns c =
    let a = c.args in
    let s = a.set.now in
    let n = s.n in
    let w = words_of n in
    let M = set_of s in
    let l = c.row_words-l.ensures in
    let r = c.row_words-r.ensures in
    c.mul_op_op_phase_by_table.ensures
    ∙ ap₂ (λ (l r : List Pauli). phases (take (lookups n + lookups n) l) (take (lookups n + lookups n) r) % 4) (ap₂ unpack l.x l.z) (ap₂ unpack r.x r.z)
    ∙ table_counted (row w a.a M.xs) (row w a.a M.zs) (row w a.b M.xs) (row w a.b M.zs) n (clean n w c.requires.sound.valid a.a c.requires.a_lt_m.0)
    ∙ phase-is n w c.requires.sound.valid M a.a a.b c.requires.a_lt_m.0
