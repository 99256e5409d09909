use Rattle.row_text.proofs.InRow.{holding-none, parsed-not, parsed}
use Rattle.row_text.proofs.parse.parse_row.Goals as goal

pub scan-requires-clause-holding : goal.scan-requires-clause-holding
scan-requires-clause-holding c = holding-none c.args.n

pub returns-then-not-scan : goal.returns-then-not-scan
returns-then-not-scan c = parsed-not c.scan.ensures c.if-not-scan.true

pub returns : goal.returns
returns c =
    parsed c.requires.0 c.scan.ensures c.if-not-scan.false c.requires.1 c.requires.2 c.copy_row.ensures
