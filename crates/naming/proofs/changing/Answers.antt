use Rattle.naming.proofs.changing.Goals as goal

pub returns : goal.returns
returns c =
    rw (← c.named-c.ensures, ← c.named-c-2.ensures, ← c.named-c-3.ensures, ← c.named-c-4.ensures) c.named.ensures
