-- The answer's text by what a call answered and left: a refusal is its number alone, so that the texts of what is left are asked only where nothing is
-- refused. By cases on the first number that fits.
use Rattle.calls.proofs.Kit.{◌≡◌, refl, sym, ap, ◌∙◌, List, ◌++◌, ℕ, zero, suc, length}
use lib.Seq.{take-length, take-append_seam}
use Rattle.encoding.specs.Set.{Mem, count, rows_of, lay}
use Rattle.encoding.specs.Refusals.{answer_or, left_or}
use Rattle.encoding.specs.declared.Refusal.{Refusal}
use Rattle.std.specs.Prelude.{Result}
use Rattle.gates.specs.Gates.{conj_rows}
use Rattle.gates.specs.declared.Gate.{Gate}
use Rattle.clifford.specs.Calls.{gate_fault, Conjugates}
use Rattle.row_text.specs.Text.{text_of, row_of}
use Rattle.row_text.specs.Calls.{parse_fault, with_row, ParseElem, fmt_fault, FmtElem}
use Rattle.forms.specs.Answers.{letters, number_text, text_field, end, changed_line, ok_text, written_line}
use Rattle.calls.proofs.Said.{changed-is}
use Rattle.calls.specs.Answer.{refused_or, conjugated, row_read, row_written}

pub conjugated-is : {n : ℕ} {g : Gate} {M M' : Mem} {a : Result Unit Refusal} → Conjugates n g M M' a → conjugated n M g ≡ changed_line a M'.xs M'.zs M'.es
conjugated-is {n} {g} {M} k = changed-is (gate_fault n M g) M (lay n (count M) (conj_rows n g (rows_of n M))) k.answer k.rows

pub read_is : {n r : ℕ} {t : List ℕ} {M M' : Mem} {a : Result Unit Refusal} → ParseElem n M r t M' a → row_read n M r t ≡ changed_line a M'.xs M'.zs M'.es
read_is {n} {r} {t} {M} k = changed-is (parse_fault n M r t) M (lay n (count M) (with_row (rows_of n M) r (row_of n t))) k.answer k.rows

-- ---- the text of a row, of which nothing past it is said

text-of : (t d : List ℕ) → ok_text (length t) t ≡ ok_text (length t) (t ++ d)
unfolding ok_text
text-of t d = ap (λ (u : List ℕ). letters "ok" ++ (number_text (length t) ++ (text_field u ++ end))) (take-length t ∙ sym (take-append_seam t d))

written-by : (f : ℕ) (t old d : List ℕ) → refused_or f (ok_text (length t) t) ≡ written_line (answer_or f (length t)) (left_or f old (t ++ d))
unfolding answer_or
written-by zero t old d = text-of t d
written-by (suc k) t old d = refl

pub written_is : (n r : ℕ) (M : Mem) {b b' : List ℕ} {a : Result ℕ Refusal} → FmtElem n M r b b' a → row_written n M r (length b) ≡ written_line a b'
written_is n r M {b} k = rw (k.answer, k.bytes) (written-by (fmt_fault n M r b) (text_of (rows_of n M r).ps) b _)
