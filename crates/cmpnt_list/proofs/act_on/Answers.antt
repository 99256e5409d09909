-- What the leaf leaves of the row's words and the state is what the row does to the state (`row-acted`).
use mathlib.Core.Path.{subst}
use mathlib.Core.List.{List}
use Prim.Native.Nat.{ℕ}
use Rattle.encoding.specs.Limits.{words_of}
use Rattle.encoding.specs.Set.{row}
use Rattle.products.specs.Leaves.{RowAction}
use Rattle.cmpnt_list.proofs.Acting.{row-acted}
use Rattle.cmpnt_list.proofs.act_on.Goals as goal

pub returns : goal.returns
returns c =
    let a = c.args in
    let s = a.set.now in
    let r = c.row_words-row.ensures in
    let q = c.imul_op_state in
    row-acted s.n c.requires.sound a.r c.requires.r_lt_m.0 c.requires.r_lt_m.1
    (subst (λ (x : List ℕ). RowAction x (row (words_of s.n) a.r s.z.now) a.state.now q.new.st q.result.0) r.x
    (subst (λ (z : List ℕ). RowAction c.row_words-row.result.x.now z a.state.now q.new.st q.result.0) r.z q.ensures))
