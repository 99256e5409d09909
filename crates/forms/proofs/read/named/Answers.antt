use Rattle.forms.proofs.Kit.{ne_eqb, refl, arith}
use Rattle.forms.specs.Form.{pauli_of}
use Rattle.forms.proofs.read.named.Goals as goal

pub returns-in-73 : goal.returns-in-73
unfolding pauli_of
returns-in-73 c t = rw c.in-73.is refl

pub returns-in-88 : goal.returns-in-88
unfolding pauli_of
returns-in-88 c t = rw c.in-88.is refl

pub returns-in-89 : goal.returns-in-89
unfolding pauli_of
returns-in-89 c t = rw c.in-89.is refl

pub returns-in-90 : goal.returns-in-90
unfolding pauli_of
returns-in-90 c t = rw c.in-90.is refl

pub returns-in_default : goal.returns-in_default
unfolding pauli_of
returns-in_default c t =
    rw (ne_eqb c.args.c 73 (omega arith), ne_eqb c.args.c 88 (omega arith), ne_eqb c.args.c 89 (omega arith), ne_eqb c.args.c 90 (omega arith)) refl
