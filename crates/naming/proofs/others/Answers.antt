use Rattle.naming.proofs.others.Goals as goal

pub returns : goal.returns
returns c =
    rw (← c.named-c.ensures, ← c.named-c-2.ensures, ← c.named-c-3.ensures, ← c.named-c-4.ensures, ← c.named-c-5.ensures) c.named.ensures
