-- Nothing for I; without its space at the start of the output, with it behind something (Putting.first-at, Putting.later-at).
-- Assumes nothing.
use Rattle.row_text.proofs.Kit.{sym, ap, subst, List, ℕ, length, arith}
use Rattle.text.specs.Readers.{Laid}
use Rattle.row_text.proofs.Putting.{puts_none, first-at, later-at}
use Rattle.row_text.proofs.fmt.put_piece.Goals as goal

pub returns-in_default : goal.returns-in_default
returns-in_default c = let a = c.args in puts_none a.at a.q a.p a.out.now (omega (arith, c.requires.1)) c.in_default.ensures

pub put_short-requires : goal.put_short-requires
put_short-requires c =
    let a = c.args in
    (c.requires.0, omega (arith, c.requires.1, ap length (first-at a.at a.q a.p c.in-Some.ensures c.if-at-eq0.true)))

pub returns-then-at-eq0 : goal.returns-then-at-eq0
returns-then-at-eq0 c =
    let a = c.args in
    let r = c.put_short in
    subst (λ (w : List ℕ). Laid w a.out.now a.at r.new.out r.result) (sym (first-at a.at a.q a.p c.in-Some.ensures c.if-at-eq0.true)) r.ensures

pub put_behind-requires : goal.put_behind-requires
put_behind-requires c =
    let a = c.args in
    (c.requires.0, omega (arith, c.requires.1, ap length (later-at a.at a.q a.p c.in-Some.ensures c.if-at-eq0.false)))

pub returns : goal.returns
returns c =
    let a = c.args in
    let r = c.put_behind in
    subst (λ (w : List ℕ). Laid w a.out.now a.at r.new.out r.result) (sym (later-at a.at a.q a.p c.in-Some.ensures c.if-at-eq0.false)) r.ensures
