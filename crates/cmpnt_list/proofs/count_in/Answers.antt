-- The masked count of the row's words is the count of the row: no bit is set at n or above, so it is at most n, as `from_masks` asks
-- (`counted-row`).
use mathlib.Core.Path.{ap₂, ◌∙◌}
use mathlib.Core.List.{List}
use Prim.Native.Nat.{ℕ}
use Rattle.encoding.specs.Limits.{words_of}
use Rattle.encoding.specs.Words.{unpack}
use Rattle.cmpnt_list.specs.Workers.{masked}
use Rattle.cmpnt_list.proofs.Counting.{counted-row}
use Rattle.cmpnt_list.proofs.count_in.Goals as goal

pub from_masks-requires : goal.from_masks-requires
from_masks-requires c =
    let a = c.args in
    let s = a.set.now in
    let r = c.row_words-row.ensures in (
      c.requires.sound.few-qubits,
      (counted-row s.n (words_of s.n) c.requires.sound.valid a.r c.requires.r_lt_m a.pauli
          (c.count_row-k.ensures ∙ ap₂ (λ (x z : List ℕ). masked a.pauli (unpack x z)) r.x r.z)).1,
    )

pub returns : goal.returns
returns c =
    let a = c.args in
    let s = a.set.now in
    let r = c.row_words-row.ensures in
    c.from_masks.ensures ∙ (counted-row s.n (words_of s.n) c.requires.sound.valid a.r c.requires.r_lt_m a.pauli
    (c.count_row-k.ensures ∙ ap₂ (λ (x z : List ℕ). masked a.pauli (unpack x z)) r.x r.z)).0
