use Rattle.calls.proofs.Lined.{answers-as, blank-by, no_answer, by_call}
use Rattle.calls.proofs.line.answer.Goals as goal

pub returns-then-s-starts : goal.returns-then-s-starts
returns-then-s-starts c =
    let s = c.args.s.now in
    answers-as (no_answer s (blank-by s c.starts.ensures c.if-s-starts.true)) _ _ _ _ c.letters.ensures

pub returns : goal.returns
returns c =
    let s = c.args.s.now in
    answers-as (by_call s (blank-by s c.starts.ensures c.if-s-starts.false) c.name_end-n.ensures.0 c.call_of-c.ensures) _ _ _ _ c.made.ensures
