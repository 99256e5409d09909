-- The leaf reads any place of the row's words; place q of them is qubit q of the row, since q is below n (`qubit-is`).
use mathlib.Core.Path.{ap₂, ◌∙◌}
use mathlib.Core.List.{List}
use Prim.Native.Nat.{ℕ}
use lib.ListN.{get_or}
use Rattle.pauli.specs.declared.PauliMatrix.TheVariants.{I}
use Rattle.encoding.specs.Limits.{words_of}
use Rattle.encoding.specs.Words.{unpack}
use Rattle.encoding.specs.Set.{set_of}
use Rattle.encoding.proofs.RowWords.{qubit-is}
use Rattle.cmpnt_list.proofs.read_qubit.Goals as goal

pub returns : goal.returns
returns c =
    let a = c.args in
    let s = a.set.now in
    c.get_qubit.ensures
    ∙ ap₂ (λ (x z : List ℕ). get_or (unpack x z) a.q.0 I) c.row_words-row.ensures.x c.row_words-row.ensures.z
    ∙ qubit-is s.n (words_of s.n) (set_of s) a.r.0 a.q.0 c.requires.r_lt_m.1
