-- The two rows' words are rows a and b; that their clashes are even in number is that the rows commute, because no bit is set at n or
-- above (`commute-is`).
use mathlib.Core.Path.{ap₂, ◌∙◌}
use mathlib.Core.List.{List}
use Prim.Native.Nat.{◌%◌}
use lib.Dec.{eqb}
use Rattle.pauli.specs.Pauli.{Pauli, clashes}
use Rattle.encoding.specs.Limits.{words_of}
use Rattle.encoding.specs.Words.{unpack}
use Rattle.encoding.specs.Set.{set_of}
use Rattle.encoding.proofs.RowWords.{commute-is}
use Rattle.cmpnt_list.proofs.commute_rows.Goals as goal

pub returns : goal.returns
returns c =
    let a = c.args in
    let s = a.set.now in
    let l = c.row_words-l.ensures in
    let r = c.row_words-r.ensures in
    c.commutes.ensures
    ∙ ap₂ (λ (l r : List Pauli). eqb (clashes l r % 2) 0) (ap₂ unpack l.x l.z) (ap₂ unpack r.x r.z)
    ∙ commute-is s.n (words_of s.n) c.requires.sound.valid (set_of s) a.a a.b c.requires.a_lt_m.0
