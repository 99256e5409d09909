-- What was read had room in the arrays (`roomy-is`), so that where its lists end is within the units and its words are within the rest.
-- The run that lies in them is the file's (`verdict-is`), and a refusal is the file's too (`refused-is`).
use native.Mathlib.Omega.{arith}
use Rattle.std.proofs.Common.{rules, ◌≡◌, Err, ◌∙◌}
use Rattle.verdict.proofs.Parts.{refused-is, roomy-is, verdict-is}
use Rattle.verdict.proofs.judge.Goals as goal

pub returns-in_err-f : goal.returns-in_err-f
returns-in_err-f c =
    let h : c.from_residual.result ≡ Err c.in_err-f.field-0.0 = search rules in
    λ s l r. h ∙ refused-is s l r c.in_err-f.was

pub ends_of-e-requires : goal.ends_of-e-requires
ends_of-e-requires c = roomy-is c.requires.input c.requires.short c.requires.read c.in_ok-f.was

pub check_parts-requires : goal.check_parts-requires
check_parts-requires c =
    let r = roomy-is c.requires.input c.requires.short c.requires.read c.in_ok-f.was in
    let e = c.ends_of-e.ensures in
    record {
      order_le_listed = (omega (arith, e.order, e.listed), omega (arith, e.listed, e.extra), omega (arith, e.extra, e.log), omega (arith, e.log, r.for-units));
      words_in_bounds = (omega (arith, e.words, r.for-x), omega (arith, e.words, r.for-z), omega (arith, e.phases, r.for-p));
      phases_in_bounds = omega (arith, e.words, e.phases, r.for-claimed);
    }

pub returns : goal.returns
returns c = λ s l r. verdict-is s l r c.in_ok-f.was c.ends_of-e.ensures c.check_parts.ensures
