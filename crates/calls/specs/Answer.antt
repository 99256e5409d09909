-- docs/CALLS.md as a definition: the bytes that answer a line. Each call is said by the fields of its line, in order, and by the answer to them, which is
-- that of the library's own definitions; a line that is not of the form is a bad line. Assumes nothing.
use Rattle.std.specs.Prelude.{Bool, cond, ◌||◌, List, [], ◌∷◌, ◌++◌, ℕ, zero, suc, ◌%◌, eqb, ltb, length, take, drop, Option, Some, None as unsaid}
use Rattle.std.specs.Int.Bits.{bit_xor}
use Rattle.pauli.specs.Pauli.{Pauli, phases, act_phase}
use Rattle.pauli.specs.declared.PauliMatrix.TheVariants.{I, X, Y, Z}
use Rattle.pauli.specs.Row.{mul_row}
use Rattle.pauli.specs.Rows.{clashes_of, with_qubit, act_on, act_phase_on}
use Rattle.encoding.specs.Words.{bits}
use Rattle.encoding.specs.Words as words
use Rattle.encoding.specs.Set.{Mem, mem_of, count, rows_of, lay, state_of, lay_state}
use Rattle.encoding.specs.Refusals.{row_lines, rows_lines}
use Rattle.encoding.specs.Ranks.{by_rank, line}
use Rattle.cmpnt_list.specs.Calls.{get_qubit, count_in, phase_of_mul, commutes_with, belongs_to_centralizer, qubit_fault, action_fault, matrix_fault, laid_matrix, commuting}
use Rattle.gates.specs.Gates.{conj_rows}
use Rattle.gates.specs.declared.Gate.{Gate}
use Rattle.clifford.specs.Calls.{gate_fault}
use Rattle.row_text.specs.Text.{text_of, row_of}
use Rattle.row_text.specs.Calls.{parse_fault, with_row}
use Rattle.reduction.specs.Rule.{mul_at}
use Rattle.text.specs.Readers.{Got, none, got, starts}
use Rattle.text.specs.Numbers.{octet}
use Rattle.text.specs.Lists.{list as list_of}
use Rattle.text.specs.Lines.{word, one, field, field_of, fields, last}
use Rattle.text.specs.Lines as kind
use Rattle.forms.specs.Form.{any, rows_kinds, letter, rest, then}
use Rattle.forms.specs.Answers.{bad_line, refuse, ok_number, acted_word, got_line, phase_line, truth_line, count_line, ok_set, ok_product, ok_acted, ok_matrix, ok_text, Says}
use Rattle.calls.specs.Gate.{gate}
use Rattle.naming.specs.Names.{call_of, name_end}
use Rattle.calls.specs.Limits.{most_words, most_phases, most_text}
use Rattle.naming.specs.declared.OfTwo.{OfTwo}
use Rattle.naming.specs.declared.OfTwo.TheVariants.{Get, Phase, Table, Comm}
use Rattle.naming.specs.declared.OfOne.{OfOne}
use Rattle.naming.specs.declared.OfOne.TheVariants.{Count, Central}
use Rattle.naming.specs.declared.Lends.{Lends}
use Rattle.naming.specs.declared.Lends.TheVariants.{Act, Matrix, Write, Pair}
use Rattle.naming.specs.declared.Changes.{Changes}
use Rattle.naming.specs.declared.Changes.TheVariants as change
use Rattle.naming.specs.declared.OnSet.{OnSet}
use Rattle.naming.specs.declared.OnSet.TheVariants.{Two, One, Lent, Changed, Reduced}
use Rattle.naming.specs.declared.Call.{Call}
use Rattle.naming.specs.declared.Call.TheVariants.{Unknown, Phase1, Act1, Whole, Float as FloatCall, States, Pwl, Set}

-- ---- the form of a line

-- the answer to the fields that were read
abbrev pub said : {A : Type 0} → (A → List ℕ) → Got A → List ℕ
said f none = bad_line
said f (got v t) = f v

-- fields that end with the line
abbrev pub closed : {A : Type 0} → (List ℕ → Got A) → (A → List ℕ) → List ℕ → List ℕ
closed r f t = said f (last (r t))

-- fields, and what stands behind them
abbrev pub opened : {A : Type 0} → (A → List ℕ → List ℕ) → Got A → List ℕ
opened f none = bad_line
opened f (got v t) = f v t

-- one number, and two
abbrev pub by_one : (ℕ → List ℕ) → List ℕ → List ℕ
by_one f t = closed (field (kind.read any)) f t

abbrev pub by_two : (ℕ → ℕ → List ℕ) → List ℕ → List ℕ
by_two f t = closed (fields (any ∷ any ∷ [])) (λ v. f v.0 v.1.0) t

-- ---- what is refused, and what is not

abbrev pub refused_or : ℕ → List ℕ → List ℕ
refused_or zero w = w
refused_or (suc k) w = refuse (suc k)

-- ok X Z P
abbrev pub ok_rows : Mem → List ℕ
ok_rows M = ok_set M.xs M.zs M.es

-- ---- words

unfoldable pub phase1 : List ℕ → List ℕ
phase1 t = closed (fields (word ∷ word ∷ word ∷ word ∷ []))
    (λ v. ok_number (phases (words.word 64 v.0 v.1.0) (words.word 64 v.1.1.0 v.1.1.1.0) % 4)) t

unfoldable pub act1 : List ℕ → List ℕ
act1 t = closed (fields (word ∷ word ∷ word ∷ []))
    (λ v. acted_word (act_phase (words.word 64 v.0 v.1.0) (bits 64 v.1.1.0) % 4) (bit_xor v.1.1.0 v.0)) t

-- ---- a set that stays as it is: n and its rows M

-- of two rows, or of a row and a qubit
abbrev pub of_two : OfTwo → ℕ → Mem → ℕ → ℕ → List ℕ
of_two Get n M a b = got_line (get_qubit n M a b)
of_two Phase n M a b = phase_line (phase_of_mul n M a b)
of_two Table n M a b = phase_line (phase_of_mul n M a b)
of_two Comm n M a b = truth_line (commutes_with n M a b)

-- of one row
abbrev pub of_one : OfOne → ℕ → Mem → ℕ → List ℕ
of_one Count n M r = count_line (count_in n M r I) (count_in n M r X) (count_in n M r Y) (count_in n M r Z)
of_one Central n M r = truth_line (belongs_to_centralizer n M r)

unfoldable pub two : OfTwo → ℕ → Mem → List ℕ → List ℕ
two c n M t = by_two (of_two c n M) t

unfoldable pub one' : OfOne → ℕ → Mem → List ℕ → List ℕ
one' c n M t = by_one (of_one c n M) t

-- ---- a set whose rows are changed

abbrev pub ok_product_of : ℕ → Mem → List ℕ
ok_product_of c M = ok_product c M.xs M.zs M.es

abbrev pub multiplied : ℕ → Mem → ℕ → ℕ → List ℕ
multiplied n M a b = refused_or (by_rank (rows_lines n M a b))
    (ok_product_of (clashes_of n (rows_of n M a) (rows_of n M b)) (lay n (count M) (mul_at (mul_row n) (rows_of n M) a b)))

unfoldable pub imul : ℕ → Mem → List ℕ → List ℕ
imul n M t = by_two (multiplied n M) t

abbrev pub with_pauli : ℕ → Mem → ℕ → ℕ → Pauli → List ℕ
with_pauli n M r q p = refused_or (qubit_fault n M r q) (ok_rows (lay n (count M) (with_qubit (rows_of n M) r q p)))

unfoldable pub set : ℕ → Mem → List ℕ → List ℕ
set n M t = closed (then (fields (any ∷ any ∷ [])) (field letter)) (λ v. with_pauli n M v.0.0 v.0.1.0 v.1) t

-- ---- a set, and words that are lent: a state, the words of a matrix

abbrev pub acted_on : ℕ → Mem → ℕ → List ℕ → List ℕ
acted_on n M r st = refused_or (action_fault n M r st)
    (ok_acted (act_phase_on n (rows_of n M r) (state_of n st)) (lay_state n (act_on n (rows_of n M r) (state_of n st))))

unfoldable pub act_in : ℕ → ℕ → Mem → List ℕ → List ℕ
act_in room n M t = closed (fields (any ∷ kind.words room ∷ [])) (λ v. acted_on n M v.0 v.1.0) t

abbrev pub compared : ℕ → Mem → ℕ → List ℕ
compared n M size = refused_or (matrix_fault n M size) (ok_matrix (laid_matrix (count M) (commuting n M)))

unfoldable pub matrix_in : ℕ → ℕ → Mem → List ℕ → List ℕ
matrix_in room n M t = closed (field (kind.read (one room))) (compared n M) t

-- ---- the text of a row

-- 14: the text is longer than the bytes that are lent
abbrev pub row_written : ℕ → Mem → ℕ → ℕ → List ℕ
row_written n M r size = refused_or (by_rank (row_lines n M r ++ (line 14 (ltb size (length (text_of (rows_of n M r).ps))) ∷ [])))
    (ok_text (length (text_of (rows_of n M r).ps)) (text_of (rows_of n M r).ps))

unfoldable pub write_in : ℕ → ℕ → Mem → List ℕ → List ℕ
write_in room n M t = closed (fields (any ∷ one room ∷ [])) (λ v. row_written n M v.0 v.1.0) t

abbrev pub row_read : ℕ → Mem → ℕ → List ℕ → List ℕ
row_read n M r t = refused_or (parse_fault n M r t) (ok_rows (lay n (count M) (with_row (rows_of n M) r (row_of n t))))

-- the text is the rest of the line, or bytes by two digits each
unfoldable pub read_line : ℕ → Mem → List ℕ → List ℕ
read_line n M t = opened (λ v u. row_read n M v.0 v.1) (then (field (kind.read any)) rest t)

unfoldable pub readx_in : ℕ → ℕ → Mem → List ℕ → List ℕ
readx_in room n M t = closed (then (field (kind.read any)) (field_of (list_of octet) room)) (λ v. row_read n M v.0 v.1) t

-- ---- gates

abbrev pub conjugated : ℕ → Mem → Gate → List ℕ
conjugated n M g = refused_or (gate_fault n M g) (ok_rows (lay n (count M) (conj_rows n g (rows_of n M))))

unfoldable pub gated : ℕ → Mem → List ℕ → List ℕ
gated n M t = closed (field gate) (conjugated n M) t

-- ---- the call that a line names; none where what it answers is not said here

abbrev pub lends : Lends → ℕ → Mem → List ℕ → Option (List ℕ)
lends Act n M t = Some (act_in most_words n M t)
lends Matrix n M t = Some (matrix_in most_words n M t)
lends Write n M t = Some (write_in most_text n M t)
lends Pair n M t = unsaid

abbrev pub changes : Changes → ℕ → Mem → List ℕ → List ℕ
changes change.Imul n M t = imul n M t
changes change.Set n M t = set n M t
changes change.Gate n M t = gated n M t
changes change.Read n M t = read_line n M t
changes change.Readx n M t = readx_in most_text n M t

abbrev pub on_set : OnSet → ℕ → Mem → List ℕ → Option (List ℕ)
on_set (Two c) n M t = Some (two c n M t)
on_set (One c) n M t = Some (one' c n M t)
on_set (Lent c) n M t = lends c n M t
on_set (Changed c) n M t = Some (changes c n M t)
on_set (Reduced c) n M t = unsaid

-- a set is n m X Z P, and what a call has besides stands behind
abbrev pub behind_set : {A : Type 0} → (A → List ℕ → Option (List ℕ)) → Got A → Option (List ℕ)
behind_set f none = Some bad_line
behind_set f (got v u) = f v u

unfoldable pub with_set : ℕ → ℕ → ℕ → OnSet → List ℕ → Option (List ℕ)
with_set i j k c t = behind_set (λ v u. on_set c v.0 (mem_of v.1.0 v.1.1.0 v.1.1.1.0 v.1.1.1.1.0) u) (fields (rows_kinds i j k) t)

abbrev pub by_set : OnSet → List ℕ → Option (List ℕ)
by_set c t = with_set most_words most_words most_phases c t

-- ---- a line

abbrev pub answer_to : Call → List ℕ → Option (List ℕ)
answer_to Unknown t = Some bad_line
answer_to Phase1 t = Some (phase1 t)
answer_to Act1 t = Some (act1 t)
answer_to Whole t = unsaid
answer_to FloatCall t = unsaid
answer_to States t = unsaid
answer_to Pwl t = unsaid
answer_to (Set c) t = by_set c t

-- a blank line and a comment, which have no answer
abbrev pub blank : List ℕ → Bool
blank s = eqb (length s) 0 || starts 35 s

-- the answer to a line, by the name that it starts with
unfoldable pub answer_of : List ℕ → Option (List ℕ)
answer_of s = cond (blank s) (Some []) (answer_to (call_of (take (name_end s) s)) (drop (name_end s) s))

-- the answer is added behind what was written before, where that fitted
abbrev pub Answers : Option (List ℕ) → List ℕ → ℕ → List ℕ → Option ℕ → Type 0
Answers unsaid o at p r = Unit {0}
Answers (Some w) o at p r = Says w o at p r
