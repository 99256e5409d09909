-- The two rows' words are rows a and b; the leaf's exponent over all their places is that over n qubits, because at n and above
-- they hold I (`phase-is`).
use mathlib.Core.Path.{ap₂, ◌∙◌}
use mathlib.Core.List.{List}
use Prim.Native.Nat.{◌%◌}
use Rattle.pauli.specs.Pauli.{Pauli, phases}
use Rattle.encoding.specs.Limits.{words_of}
use Rattle.encoding.specs.Words.{unpack}
use Rattle.encoding.specs.Set.{set_of}
use Rattle.encoding.proofs.RowWords.{phase-is}
use Rattle.cmpnt_list.proofs.phase_rows.Goals as goal

pub returns : goal.returns
returns c =
    let a = c.args in
    let s = a.set.now in
    let l = c.row_words-l.ensures in
    let r = c.row_words-r.ensures in
    c.mul_op_op_phase.ensures.exponent
    ∙ ap₂ (λ (l r : List Pauli). phases l r % 4) (ap₂ unpack l.x l.z) (ap₂ unpack r.x r.z)
    ∙ phase-is s.n (words_of s.n) c.requires.sound.valid (set_of s) a.a a.b c.requires.a_lt_m.0
