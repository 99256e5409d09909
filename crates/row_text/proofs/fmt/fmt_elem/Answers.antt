-- Refused by the tests of the row, or the row's text is written, whose own refusal stands behind theirs: the numbers are those of the call in
-- turn (`fmt-in-turn`).
use Rattle.std.proofs.Common.{rules, ◌≡◌, Err}
use Rattle.row_text.proofs.Kit.{ℕ, sym, ap, ◌∙◌, leb-false}
use Rattle.encoding.specs.Set.{set_of, rows_of}
use Rattle.encoding.specs.Refusals.{answer_or, left_or}
use Rattle.encoding.proofs.Faults.{first_by, first-kept, next_by, next-left}
use Rattle.cmpnt_list.specs.Calls.{row_fault}
use Rattle.std.proofs.Common.{◌++◌, length, drop}
use Rattle.row_text.specs.Text.{text_of}
use Rattle.row_text.specs.Workers.{falls_short}
use Rattle.row_text.proofs.Lines.{fmt-in-turn}
use Rattle.row_text.proofs.fmt.fmt_elem.Goals as goal

pub returns-in_err-row_fault : goal.returns-in_err-row_fault
returns-in_err-row_fault c =
    let a = c.args in
    let s = a.set.now in
    let M = set_of s in
    let f = row_fault s.n M a.row.0 in
    let g = falls_short (rows_of s.n M a.row.0).ps a.out.now in
    let by = c.row_fault.ensures.value in
    let was = c.in_err-row_fault.was in
    let turn = sym (fmt-in-turn s.n M a.row.0 a.out.now) in
    let t = text_of (rows_of s.n M a.row.0).ps in
    let new = t ++ drop (length t) a.out.now in
    let h : c.from_residual.result ≡ Err c.in_err-row_fault.field-0.0 = search rules in
    record {
      answer = h ∙ first_by f g tt by was (length t) ∙ ap (λ (k : ℕ). answer_or k (length t)) turn;
      bytes = first-kept f g tt by was a.out.now new ∙ ap (λ (k : ℕ). left_or k a.out.now new) turn;
    }

pub fmt_at-requires : goal.fmt_at-requires
fmt_at-requires c =
    let k = c.in_ok-row_fault.ensures.readable in
    record { sound = k.ready; r_lt_m = leb-false c.args.set.now.m c.args.row.0 k.small }

pub returns : goal.returns
returns c =
    let a = c.args in
    let s = a.set.now in
    let M = set_of s in
    let f = row_fault s.n M a.row.0 in
    let g = falls_short (rows_of s.n M a.row.0).ps a.out.now in
    let by = c.row_fault.ensures.value in
    let was = c.in_ok-row_fault.was in
    let turn = sym (fmt-in-turn s.n M a.row.0 a.out.now) in
    let t = text_of (rows_of s.n M a.row.0).ps in
    let new = t ++ drop (length t) a.out.now in
    let w = c.fmt_at.ensures in
    record {
      answer = next_by f g tt by was (length t) w.answer ∙ ap (λ (k : ℕ). answer_or k (length t)) turn;
      bytes = next-left f g tt by was a.out.now new w.bytes ∙ ap (λ (k : ℕ). left_or k a.out.now new) turn;
    }
