-- `cmpnt_list::matrix_size` meets its contract. Assumes nothing.
use mathlib.Core.Path.{ap}
use Prim.Native.Nat.{ℕ, ◌*◌, ◌≤◌}
use native.Mathlib.Nat.{mul-le-mul}
use native.Mathlib.Omega.{arith}
use Rattle.encoding.specs.Limits.{max_rows, words_of}
use Rattle.cmpnt_list.proofs.matrix_size.Goals as goal

pub overflow_mul-result : goal.overflow_mul-result
overflow_mul-result c =
    let w : c.words.result ≤ words_of max_rows = omega arith in
    omega (arith, mul-le-mul c.requires w)

pub returns : goal.returns
returns c = ap (λ (k : ℕ). c.args.m * k) c.words.ensures
