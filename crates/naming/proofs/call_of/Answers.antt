use Rattle.text.proofs.Kit.{ℕ, ap, ◌∙◌, take}
use Rattle.naming.specs.Names.{call_of, by_name, of_two, of_one, lending, changing, others}
use Rattle.naming.specs.declared.Call.{Call}
use Rattle.naming.proofs.call_of.Goals as goal

pub returns : goal.returns
unfolding call_of
returns c =
    let s = c.args.s.now in
    let w = take c.name_end.result s in
    c.others.ensures ∙ ap (λ (k : Call). by_name others w k) (c.of_two-c.ensures ∙ ap (λ (k : Call). by_name of_two w k) (c.of_one-c.ensures
    ∙ ap (λ (k : Call). by_name of_one w k) (c.lending-c.ensures ∙ ap (λ (k : Call). by_name lending w k) (c.changing-c.ensures
    ∙ ap (λ (k : Call). by_name changing w k) c.reducing-c.ensures))))
    ∙ ap (λ (n : ℕ). call_of (take n s)) c.name_end.ensures.0
