-- Whatever was taken in: too large is told by the length alone, and else the verdict that is written is the one on it.
-- Every line has room in 64 bytes.
use mathlib.Core.Path.{ap, ◌∙◌}
use Rattle.pwl.specs.Calls.{outputs}
use Rattle.verdict.specs.Verdict.{text_of}
use Rattle.verdict.specs.Workers.{made}
use Rattle.verdict.proofs.Parts.{large_is, read_is}
use Rattle.verdict.proofs.Lines.{line-large, line_small}
use Rattle.verdict.proofs.put_line.Goals as goal

pub returns-in-None : goal.returns-in-None
returns-in-None c =
    let a = c.args in
    let w = c.put_plain.ensures in
    let o = outputs a.units.now a.x.now a.z.now a.p.now a.claimed.now in
    record { line = λ s r. w.text ∙ line-large s (large_is s made o r c.in-None.is); within = w.within }

pub judge-answer-requires : goal.judge-answer-requires
judge-answer-requires c =
    let a = c.args in
    let i = c.requires.1 in
    let o = outputs a.units.now a.x.now a.z.now a.p.now a.claimed.now in
    let w = read_is i.input made o i.from c.in-Some.is in
    record { input = i.input; short = w.0; read = w.1 }

pub returns-in-Some : goal.returns-in-Some
returns-in-Some c =
    let a = c.args in
    let w = c.put_answer.ensures in
    let o = outputs a.units.now a.x.now a.z.now a.p.now a.claimed.now in
    record {
      line = λ s r. let q = read_is s made o r c.in-Some.is in w.text ∙ ap text_of (c.judge-answer.ensures s q.0 q.1) ∙ line_small s q.0;
      within = w.within;
    }
