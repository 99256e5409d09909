-- RULES 15, "The text of a row", and 9, "Refusals", call by call: the tests that a call makes, what it answers, and what stands in each lent buffer when
-- it returns. M is a set in memory and n its number of qubits; a refusal leaves every buffer as it was. Assumes nothing.
use Rattle.std.specs.Prelude.{◌≡◌, cond, not, List, [], ◌∷◌, ◌++◌, ℕ, eqb, ltb, length, drop, Result}
use Rattle.pauli.specs.Pauli.{Pauli}
use Rattle.pauli.specs.Row.{Row}
use Rattle.encoding.specs.Set.{Mem, count, rows_of, lay}
use Rattle.encoding.specs.Refusals.{row_lines, answer_or, done_or, left_or}
use Rattle.encoding.specs.Ranks.{TableLine, line, by_rank}
use Rattle.encoding.specs.declared.Refusal.{Refusal}
use Rattle.row_text.specs.Text.{text_of, is_text, row_of}

-- ---- fmt_elem: the text of row r from the start of the output

-- 14: the output has fewer bytes than the text
abbrev pub short_line : List Pauli → List ℕ → TableLine
short_line ps out = line 14 (ltb (length out) (length (text_of ps)))

-- the text of ps is written into out, where no line has the number f
pub record TextWritten (f : ℕ) (ps : List Pauli) (out out' : List ℕ) (a : Result ℕ Refusal) : Type 0 where
  pub answer : a ≡ answer_or f (length (text_of ps))
  pub bytes : out' ≡ left_or f out (text_of ps ++ drop (length (text_of ps)) out)

abbrev pub fmt_fault : ℕ → Mem → ℕ → List ℕ → ℕ
fmt_fault n M r out = by_rank (row_lines n M r ++ (short_line (rows_of n M r).ps out ∷ []))

abbrev pub FmtElem : ℕ → Mem → ℕ → List ℕ → List ℕ → Result ℕ Refusal → Type 0
FmtElem n M r out out' a = TextWritten (fmt_fault n M r out) (rows_of n M r).ps out out' a

-- ---- parse_elem: row r becomes the row whose text it is

-- 13: it is no row's text
abbrev pub text_line : ℕ → List ℕ → TableLine
text_line n t = line 13 (not (is_text n t))

-- the set with the Paulis ps in row r: no exponent changes
unfoldable pub with_row : (ℕ → Row) → ℕ → List Pauli → ℕ → Row
with_row σ r ps k = cond (eqb k r) (record { ps = ps; p = (σ r).p }) (σ k)

abbrev pub parse_fault : ℕ → Mem → ℕ → List ℕ → ℕ
parse_fault n M r t = by_rank (row_lines n M r ++ (text_line n t ∷ []))

pub record ParseElem (n : ℕ) (M : Mem) (r : ℕ) (t : List ℕ) (M' : Mem) (a : Result Unit Refusal) : Type 0 where
  pub answer : a ≡ done_or (parse_fault n M r t)
  pub rows : M' ≡ left_or (parse_fault n M r t) M (lay n (count M) (with_row (rows_of n M) r (row_of n t)))
