-- The answers of docs/CALLS.md as bytes.
use Rattle.std.specs.Prelude.{cond, List, [], ◌∷◌, ◌++◌, ℕ, ◌*◌, take, ℤ, Float, Bool, Option, Some, None, Result, Ok, Err}
use Prim.Native.Char.{code}
use Prim.Native.String as str
use Rattle.pauli.specs.declared.PauliMatrix.{PauliMatrix}
use Rattle.pauli.specs.declared.PauliMatrix.TheVariants.{I, X, Y, Z}
use Rattle.pauli.specs.declared.ComplexSign.{ComplexSign}
use Rattle.encoding.specs.declared.Refusal.{Refusal}
use Rattle.checked.specs.declared.Complex.{Complex}
use Rattle.terms.specs.Calls.{ReductionAnswer}
use Rattle.terms.specs.declared.Stopped.TheVariants.{Full, Refused}
use Rattle.replay.specs.declared.Verdict.{Verdict}
use Rattle.replay.specs.declared.Verdict.TheVariants as verdict
use Rattle.replay.specs.declared.NotUndone.{NotUndone}
use Rattle.replay.specs.declared.NotUndone.TheVariants as undone
use Rattle.text.specs.Numbers.{numeral, digits, integral, pattern}
use Rattle.text.specs.Lists.{listed}
use Rattle.text.specs.Readers.{Added}

-- the text w is added behind what was written before
abbrev pub Says : List ℕ → List ℕ → ℕ → List ℕ → Option ℕ → Type 0
Says w o at p r = Added w o at p r

-- ---- fields, each behind a space

-- the bytes of a text
abbrev pub letters : str.String → List ℕ
letters str.[] = []
letters (str.◌∷◌ c s) = code c ∷ letters s

-- a number, a word, an integer, the bits of an f64
abbrev pub number_text : ℕ → List ℕ
number_text v = (32 ∷ []) ++ numeral 10 v

abbrev pub word_text : ℕ → List ℕ
word_text v = (32 ∷ []) ++ numeral 16 v

abbrev pub integer_text : ℤ → List ℕ
integer_text v = (32 ∷ []) ++ integral v

abbrev pub float_text : Float → List ℕ
float_text v = (32 ∷ []) ++ digits 16 16 (pattern v)

-- words, and numbers
abbrev pub words_text : List ℕ → List ℕ
words_text xs = (32 ∷ []) ++ listed (numeral 16) xs

abbrev pub numbers_text : List ℕ → List ℕ
numbers_text xs = (32 ∷ []) ++ listed (numeral 10) xs

abbrev pub set_text : List ℕ → List ℕ → List ℕ → List ℕ
set_text x z p = words_text x ++ (words_text z ++ words_text p)

abbrev pub end : List ℕ
end = 10 ∷ []

-- ---- lines

abbrev pub bad_line : List ℕ
bad_line = letters "bad line\n"

-- refuse k
unfoldable pub refuse : ℕ → List ℕ
refuse k = letters "refuse" ++ (number_text k ++ end)

-- ok v
unfoldable pub ok_number : ℕ → List ℕ
ok_number v = letters "ok" ++ (number_text v ++ end)

-- ok e word
unfoldable pub acted_word : ℕ → ℕ → List ℕ
acted_word e s = letters "ok" ++ (number_text e ++ (word_text s ++ end))

abbrev pub letter_of : PauliMatrix → ℕ
letter_of I = 73
letter_of X = 88
letter_of Y = 89
letter_of Z = 90

-- ok L
unfoldable pub ok_letter : PauliMatrix → List ℕ
ok_letter l = letters "ok " ++ ((letter_of l ∷ []) ++ end)

abbrev pub got_line : Result PauliMatrix Refusal → List ℕ
got_line (Ok l) = ok_letter l
got_line (Err k) = refuse k.0

abbrev pub phase_line : Result ComplexSign Refusal → List ℕ
phase_line (Ok e) = ok_number e.0
phase_line (Err k) = refuse k.0

abbrev pub truth_line : Result Bool Refusal → List ℕ
truth_line (Ok b) = ok_number (cond b 1 0)
truth_line (Err k) = refuse k.0

-- ---- counts

-- a call refuses all four counts or none
abbrev pub tally_text : Result ℕ Refusal → List ℕ
tally_text (Ok k) = number_text k
tally_text (Err k) = []

-- ok i x y z
unfoldable pub ok_counts : ℕ → Result ℕ Refusal → Result ℕ Refusal → Result ℕ Refusal → List ℕ
ok_counts i x y z = letters "ok" ++ (number_text i ++ (tally_text x ++ (tally_text y ++ (tally_text z ++ end))))

abbrev pub count_line : Result ℕ Refusal → Result ℕ Refusal → Result ℕ Refusal → Result ℕ Refusal → List ℕ
count_line (Ok i) x y z = ok_counts i x y z
count_line (Err k) x y z = refuse k.0

-- ---- what was lent to be changed

-- ok X Z P
unfoldable pub ok_set : List ℕ → List ℕ → List ℕ → List ℕ
ok_set x z p = letters "ok" ++ (set_text x z p ++ end)

abbrev pub changed_line : Result Unit Refusal → List ℕ → List ℕ → List ℕ → List ℕ
changed_line (Ok u) x z p = ok_set x z p
changed_line (Err k) x z p = refuse k.0

-- ok X Z P c
unfoldable pub ok_product : ℕ → List ℕ → List ℕ → List ℕ → List ℕ
ok_product c x z p = letters "ok" ++ (set_text x z p ++ (number_text c ++ end))

abbrev pub product_line : Result ℕ Refusal → List ℕ → List ℕ → List ℕ → List ℕ
product_line (Ok c) x z p = ok_product c x z p
product_line (Err k) x z p = refuse k.0

-- ok X Z P counts
unfoldable pub ok_pairs : List ℕ → List ℕ → List ℕ → List ℕ → List ℕ
ok_pairs x z p c = letters "ok" ++ (set_text x z p ++ (numbers_text c ++ end))

abbrev pub pair_line : Result Unit Refusal → List ℕ → List ℕ → List ℕ → List ℕ → List ℕ
pair_line (Ok u) x z p c = ok_pairs x z p c
pair_line (Err k) x z p c = refuse k.0

-- ok e S
unfoldable pub ok_acted : ℕ → List ℕ → List ℕ
ok_acted e s = letters "ok" ++ (number_text e ++ (words_text s ++ end))

abbrev pub act_line : Result ComplexSign Refusal → List ℕ → List ℕ
act_line (Ok e) s = ok_acted e.0 s
act_line (Err k) s = refuse k.0

-- ok words
unfoldable pub ok_matrix : List ℕ → List ℕ
ok_matrix m = letters "ok" ++ (words_text m ++ end)

abbrev pub matrix_line : Result Unit Refusal → List ℕ → List ℕ
matrix_line (Ok u) m = ok_matrix m
matrix_line (Err k) m = refuse k.0

-- ---- the text of a row

-- the text behind a space; nothing where it is empty
abbrev pub text_field : List ℕ → List ℕ
text_field [] = []
text_field (c ∷ t) = (32 ∷ []) ++ (c ∷ t)

-- ok LENGTH TEXT, of the first bytes of what was lent
unfoldable pub ok_text : ℕ → List ℕ → List ℕ
ok_text n b = letters "ok" ++ (number_text n ++ (text_field (take n b) ++ end))

abbrev pub written_line : Result ℕ Refusal → List ℕ → List ℕ
written_line (Ok n) b = ok_text n b
written_line (Err k) b = refuse k.0

-- ---- reductions

-- elements 0 and 1, 2 and 3, and so on; one that is left over is in no pair
abbrev pub pairs_of : List ℕ → List (ℕ × ℕ)
pairs_of [] = []
pairs_of (a ∷ []) = []
pairs_of (a ∷ b ∷ l) = (a, b) ∷ pairs_of l

-- a:b
abbrev pub pair_text : ℕ × ℕ → List ℕ
pair_text v = numeral 10 v.0 ++ ((58 ∷ []) ++ numeral 10 v.1)

abbrev pub pairs_text : List ℕ → List ℕ
pairs_text xs = (32 ∷ []) ++ listed pair_text (pairs_of xs)

-- the log's first entries, and the rows
unfoldable pub standing : ℕ → List ℕ → List ℕ → List ℕ → List ℕ → List ℕ
standing n units x z p = pairs_text (take (n * 2) units) ++ (set_text x z p ++ end)

-- ok count t log X Z P
unfoldable pub ok_reduced : ℕ → ℕ → List ℕ → List ℕ → List ℕ → List ℕ → List ℕ
ok_reduced n t units x z p = letters "ok" ++ (number_text n ++ (number_text t ++ standing n units x z p))

-- refuse 8 capacity log X Z P
unfoldable pub full_log : ℕ → List ℕ → List ℕ → List ℕ → List ℕ → List ℕ
full_log n units x z p = letters "refuse 8" ++ (number_text n ++ standing n units x z p)

abbrev pub reduce_line : ReductionAnswer → List ℕ → List ℕ → List ℕ → List ℕ → List ℕ
reduce_line (Ok c) units x z p = ok_reduced c.entries c.t units x z p
reduce_line (Err (Full n)) units x z p = full_log n units x z p
reduce_line (Err (Refused k)) units x z p = refuse k.0

-- ---- check, and undo

-- ok V X Z P, where the verdict has a number or not
unfoldable pub verdict_at : List ℕ → ℕ → List ℕ → List ℕ → List ℕ → List ℕ
verdict_at name k x z p = name ++ (number_text k ++ (set_text x z p ++ end))

unfoldable pub verdict_plain : List ℕ → List ℕ → List ℕ → List ℕ → List ℕ
verdict_plain name x z p = name ++ (set_text x z p ++ end)

abbrev pub check_line : Result Verdict Refusal → List ℕ → List ℕ → List ℕ → List ℕ
check_line (Ok (verdict.BadEntry k)) x z p = verdict_at (letters "ok bad") k x z p
check_line (Ok (verdict.Differs r)) x z p = verdict_at (letters "ok differs") r x z p
check_line (Ok verdict.NotReduced) x z p = verdict_plain (letters "ok notreduced") x z p
check_line (Ok verdict.Yes) x z p = verdict_plain (letters "ok yes") x z p
check_line (Err k) x z p = refuse k.0

abbrev pub undo_line : Result Unit NotUndone → List ℕ → List ℕ → List ℕ → List ℕ
undo_line (Err (undone.BadEntry k)) x z p = verdict_at (letters "ok bad") k x z p
undo_line (Ok u) x z p = verdict_plain (letters "ok done") x z p
undo_line (Err (undone.Refused k)) x z p = refuse k.0

-- ---- log files

-- bytes, two digits each
abbrev pub octets_text : List ℕ → List ℕ
octets_text [] = []
octets_text (v ∷ l) = digits 16 2 v ++ octets_text l

-- ok BYTES, the first of what was lent
unfoldable pub ok_file : ℕ → List ℕ → List ℕ
ok_file n b = letters "ok " ++ (octets_text (take n b) ++ end)

abbrev pub file_line : Result ℕ Refusal → List ℕ → List ℕ
file_line (Ok n) b = ok_file n b
file_line (Err k) b = refuse k.0

-- ---- matrix elements

-- ok re im, in decimal, and as bits
unfoldable pub ok_whole : ℤ → ℤ → List ℕ
ok_whole re im = letters "ok" ++ (integer_text re ++ (integer_text im ++ end))

unfoldable pub ok_float : Float → Float → List ℕ
ok_float re im = letters "ok" ++ (float_text re ++ (float_text im ++ end))

abbrev pub none_line : List ℕ
none_line = letters "none\n"

abbrev pub whole_line : Result (Option (Complex ℤ)) Refusal → List ℕ
whole_line (Ok (Some c)) = ok_whole c.re c.im
whole_line (Ok None) = none_line
whole_line (Err k) = refuse k.0

abbrev pub float_line : Result (Option (Complex Float)) Refusal → List ℕ
float_line (Ok (Some c)) = ok_float c.re c.im
float_line (Ok None) = none_line
float_line (Err k) = refuse k.0

abbrev pub total_line : Result (Complex ℤ) Refusal → List ℕ
total_line (Ok c) = ok_whole c.re c.im
total_line (Err k) = refuse k.0
