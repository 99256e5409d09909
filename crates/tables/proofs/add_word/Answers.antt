-- `tables::add_word` meets its contract. Assumes nothing.
-- Entry 0 is cleared and the o entries are doubled: with `begun_more` that is one word more.
use native.Mathlib.Omega.{arith}
use mathlib.Core.Path.{◌≡◌}
use Prim.Native.Nat.{◌+◌, ◌*◌, ◌/◌, ◌%◌, ◌<◌}
use Rattle.tables.proofs.Beginning.{begun_more}
use Rattle.tables.proofs.add_word.Goals as goal

pub returns : goal.returns
returns c =
    let q = c.args.q in
    let e : q ≡ 8 * (q / 8) + q % 8 = omega arith in
    let g : q / 8 < 8 = omega (arith, c.requires.0) in
    let r : q % 8 < 8 = omega arith in
    begun_more e g r c.requires.1 c.requires.3 c.double.ensures
