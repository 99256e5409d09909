-- Below 16 a number has one digit, so the two are those of the byte (`two_digits`).
use Rattle.forms.proofs.Kit.{then_some, whole, Short, ◌<◌, rules, subst, List, ℕ}
use Rattle.std.specs.Prelude.{None}
use Rattle.text.proofs.Adding.{cut}
use Rattle.forms.specs.Answers.{Says}
use Rattle.forms.proofs.Octets.{two_digits}
use Rattle.forms.proofs.say.octet.Goals as goal

pub returns-in_err-at : goal.returns-in_err-at
returns-in_err-at c =
    let h : c.args.v < 256 = search rules in
    rw c.from_residual.ensures
    (subst (λ (w : List ℕ). Short w c.args.out.now c.args.at c.put_hexadecimal.new.out) (two_digits c.args.v h)
    (cut _ _ (whole _ _ _ _ None c.in_err-at.ensures)))

pub returns : goal.returns
returns c =
    let h : c.args.v < 256 = search rules in
    subst (λ (w : List ℕ). Says w c.args.out.now c.args.at c.put_hexadecimal-2.new.out c.put_hexadecimal-2.result) (two_digits c.args.v h)
    (then_some _ _ _ _ c.in_ok-at.ensures (whole _ _ _ _ _ c.put_hexadecimal-2.ensures))
