-- What the tests find is answered; where they find nothing, the row is taken (`parse-taken`), or the text is none's: 13 (`parse-no-text`). The numbers
-- are those of the call in turn (`parse-in-turn`).
use Rattle.std.proofs.Common.{rules, ◌≡◌, Err}
use Rattle.row_text.proofs.Kit.{ℕ, sym, ap, ◌∙◌, leb-false}
use Rattle.encoding.specs.Set.{mem_of, count, rows_of, lay}
use Rattle.encoding.specs.Refusals.{answer_or, left_or}
use Rattle.encoding.proofs.Faults.{first_by, first-kept, next_by, next-left}
use Rattle.cmpnt_list.specs.Calls.{row_fault}
use Rattle.row_text.specs.Text.{row_of}
use Rattle.row_text.specs.Calls.{with_row}
use Rattle.row_text.specs.Workers.{no_text_number}
use Rattle.row_text.proofs.Lines.{parse-in-turn}
use Rattle.row_text.proofs.InRow.{parse-taken, parse-no-text}
use Rattle.row_text.proofs.parse.parse_elem.Goals as goal

pub returns-in_err-row_fault : goal.returns-in_err-row_fault
returns-in_err-row_fault c =
    let a = c.args in
    let M = mem_of a.m a.x.now a.z.now a.phases.now in
    let f = row_fault a.n M a.row.0 in
    let g = no_text_number a.n a.text.now in
    let by = c.row_fault.ensures.value in
    let was = c.in_err-row_fault.was in
    let turn = sym (parse-in-turn a.n M a.row.0 a.text.now) in
    let new = lay a.n (count M) (with_row (rows_of a.n M) a.row.0 (row_of a.n a.text.now)) in
    let h : c.from_residual.result ≡ Err c.in_err-row_fault.field-0.0 = search rules in
    record {
      answer = h ∙ first_by f g tt by was _ ∙ ap (λ (k : ℕ). answer_or k tt) turn;
      rows = first-kept f g tt by was M new ∙ ap (λ (k : ℕ). left_or k M new) turn;
    }

pub parse_at-requires : goal.parse_at-requires
parse_at-requires c =
    let k = c.in_ok-row_fault.ensures.readable in
    record { sound = k.ready; r_lt_m = leb-false c.args.m c.args.row.0 k.small }

pub returns-then-parse_at : goal.returns-then-parse_at
returns-then-parse_at c =
    let a = c.args in
    let M = mem_of a.m a.x.now a.z.now a.phases.now in
    let new = lay a.n (count M) (with_row (rows_of a.n M) a.row.0 (row_of a.n a.text.now)) in
    let p = c.parse_at.ensures in
    let r = parse-taken a.n M new a.text.now c.if-parse_at.true p.told p.rows in
    let by = c.row_fault.ensures.value in
    let was = c.in_ok-row_fault.was in
    let turn = sym (parse-in-turn a.n M a.row.0 a.text.now) in
    record {
      answer = next_by _ _ tt by was tt r.0 ∙ ap (λ (k : ℕ). answer_or k tt) turn;
      rows = next-left _ _ tt by was M new r.1 ∙ ap (λ (k : ℕ). left_or k M new) turn;
    }

pub returns : goal.returns
returns c =
    let a = c.args in
    let M = mem_of a.m a.x.now a.z.now a.phases.now in
    let new = lay a.n (count M) (with_row (rows_of a.n M) a.row.0 (row_of a.n a.text.now)) in
    let p = c.parse_at.ensures in
    let r = parse-no-text a.n M new a.text.now c.if-parse_at.false p.told p.rows in
    let by = c.row_fault.ensures.value in
    let was = c.in_ok-row_fault.was in
    let turn = sym (parse-in-turn a.n M a.row.0 a.text.now) in
    record {
      answer = next_by _ _ tt by was tt r.0 ∙ ap (λ (k : ℕ). answer_or k tt) turn;
      rows = next-left _ _ tt by was M new r.1 ∙ ap (λ (k : ℕ). left_or k M new) turn;
    }
