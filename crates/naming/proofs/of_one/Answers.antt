use Rattle.naming.proofs.of_one.Goals as goal

pub returns : goal.returns
returns c =
    rw (← c.named-c.ensures) c.named.ensures
