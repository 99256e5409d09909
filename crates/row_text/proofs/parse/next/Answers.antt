-- No letter behind a space, a letter without its number, a number that may not come, or the next Pauli: each is a lemma of Scanning.
use Rattle.row_text.proofs.Kit.{arith}
use Rattle.row_text.specs.Workers.{left}
use Rattle.row_text.proofs.Scanning.{next-none, next-unnamed, next-off, next-found}
use Rattle.row_text.proofs.parse.next.Goals as goal

pub returns-in_err-i : goal.returns-in_err-i
returns-in_err-i c =
    let a = c.args in
    rw c.from_residual.ensures (next-none a.n a.q c.requires (left a.at a.s.now) c.in_err-i.ensures)

pub returns-in_err-r : goal.returns-in_err-r
returns-in_err-r c =
    let a = c.args in
    rw c.from_residual-in_err-r.ensures
    (next-unnamed a.n a.q c.requires (left a.at a.s.now) a.s.now c.in_ok-i.i c.in_ok-i.ensures.0 c.in_err-r.ensures)

pub returns-then-r-q : goal.returns-then-r-q
returns-then-r-q c =
    let a = c.args in
    next-off a.n a.q c.requires (left a.at a.s.now) a.s.now c.in_ok-i.i c.in_ok-i.ensures.0 c.in_ok-r.ensures (λ l h. omega (arith, c.if-r-q.true))

pub returns-then-r-n : goal.returns-then-r-n
returns-then-r-n c =
    let a = c.args in
    let r = c.in_ok-r.ensures in (
      next-found a.n a.q c.requires (left a.at a.s.now) a.s.now c.in_ok-i.i c.in_ok-i.ensures.0 r c.if-r-q.false c.if-r-n.true,
      r.within,
    )

pub returns-else-r-n : goal.returns-else-r-n
returns-else-r-n c =
    let a = c.args in
    next-off a.n a.q c.requires (left a.at a.s.now) a.s.now c.in_ok-i.i c.in_ok-i.ensures.0 c.in_ok-r.ensures (λ l h. omega (arith, c.if-r-n.false))
