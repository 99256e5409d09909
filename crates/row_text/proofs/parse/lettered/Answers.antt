use Rattle.row_text.proofs.Scanning.{end-of-text, no-letter, no_number, letter-read}
use Rattle.row_text.proofs.parse.lettered.Goals as goal

pub returns-then-i-s : goal.returns-then-i-s
returns-then-i-s c = let a = c.args in end-of-text a.top a.i a.s.now c.if-i-s.true

pub returns-in_err-pauli : goal.returns-in_err-pauli
returns-in_err-pauli c =
    let a = c.args in
    rw c.from_residual.ensures (no-letter a.top a.i a.s.now c.if-i-s.false c.in_err-pauli.ensures)

pub returns-in_err-v : goal.returns-in_err-v
returns-in_err-v c =
    let a = c.args in
    rw c.from_residual-in_err-v.ensures (no_number a.top a.i a.s.now c.if-i-s.false c.in_err-v.ensures.read)

pub returns : goal.returns
returns c =
    let a = c.args in
    let p = c.in_ok-pauli.ensures in
    let r = c.in_ok-v.ensures in
    letter-read a.top a.i a.s.now c.if-i-s.false p.0 p.1 r.read r.low
