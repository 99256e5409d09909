use Rattle.text.proofs.Kit.{◌≡◌, arith}
use Rattle.naming.specs.Names.{name_end}
use Rattle.naming.proofs.Spelled.{end-first, end-within}
use Rattle.naming.proofs.name_end.Goals as goal

pub returns : goal.returns
returns c =
    let s = c.args.s.now in
    let k : c.unwrap_or.result ≡ name_end s = rw c.unwrap_or.ensures (rw c.first_space.ensures (end-first s)) in
    (k, omega (arith, k, end-within s))
