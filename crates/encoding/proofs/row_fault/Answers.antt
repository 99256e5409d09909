-- The set's refusal is the call's (`read-set`); else the number's test is all that is left (`read_told`).
use Rattle.std.proofs.Common.{rules, refl, ap, sym, ◌∙◌, ◌≡◌, Err, cond}
use Rattle.encoding.specs.Set.{set_of}
use Rattle.encoding.specs.Refusals.{answer_or, done_or, set_lines}
use Rattle.encoding.specs.Ranks.{by_rank}
use Rattle.encoding.proofs.Faults.{refusing, refused-by, passed-by}
use Rattle.encoding.proofs.Sets.{read-set, read_told, sound-of}
use Rattle.encoding.proofs.row_fault.Goals as goal

pub returns-in_err-set_fault-clause-value : goal.returns-in_err-set_fault-clause-value
returns-in_err-set_fault-clause-value c =
    let s = c.args.set.now in
    let e : c.from_residual.result ≡ Err c.in_err-set_fault.field-0.0 = search rules in
    let h : c.set_fault.result ≡ Err c.in_err-set_fault.field-0.0 = (c.in_err-set_fault.was) in
    e ∙ refusing _ _ c.set_fault.ensures.value h tt
    ∙ ap done_or (read-set s.n (set_of s) c.args.large (refused-by (by_rank (set_lines s.n (set_of s))) _ (sym h ∙ c.set_fault.ensures.value)).1)

pub returns-then-large-clause-value : goal.returns-then-large-clause-value
unfolding answer_or
returns-then-large-clause-value c =
    let s = c.args.set.now in
    let h = passed-by (by_rank (set_lines s.n (set_of s))) _ (sym (c.in_ok-set_fault.was) ∙ c.set_fault.ensures.value) in
    ap done_or (ap (λ b. cond b 6 0) (sym c.if-large.true) ∙ read_told s.n (set_of s) c.args.large h)

pub returns-clause-value : goal.returns-clause-value
unfolding answer_or
returns-clause-value c =
    let s = c.args.set.now in
    let h = passed-by (by_rank (set_lines s.n (set_of s))) _ (sym (c.in_ok-set_fault.was) ∙ c.set_fault.ensures.value) in
    ap done_or (ap (λ b. cond b 6 0) (sym c.if-large.false) ∙ read_told s.n (set_of s) c.args.large h)

pub returns-clause-readable : goal.returns-clause-readable
returns-clause-readable c =
    let s = c.args.set.now in
    let h = passed-by (by_rank (set_lines s.n (set_of s))) _ (sym (c.in_ok-set_fault.was) ∙ c.set_fault.ensures.value) in
    record { ready = sound-of s.n (set_of s) refl (λ z. c.in_ok-set_fault.ensures.valid) h; small = c.if-large.false }
