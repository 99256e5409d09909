-- RULES 8, "Matrix elements", and 9, "Refusals": the limits of the terms, the lines of the table that are tested on them, and the block of a word. There
-- are as many terms as X words. Assumes nothing.
use Rattle.std.specs.Prelude.{ℕ, Bool, false, not, ◌||◌, List, [], ◌∷◌, length, drop, ◌==◌, nat_eq, nat_lt, slice_index}
use Rattle.encoding.specs.Words.{bits}
use Rattle.encoding.specs.Refusals.{some}
use Rattle.encoding.specs.Ranks.{TableLine, line}

-- n from 1 to 64; 0 to 65,536 terms
abbrev pub least_qubits : ℕ
least_qubits = 1

abbrev pub most_qubits : ℕ
most_qubits = 64

abbrev pub max_terms : ℕ
max_terms = 65536

-- 1: n outside its range
abbrev pub bad_count : ℕ → Bool
bad_count n = nat_lt n least_qubits || nat_lt most_qubits n

-- 2: m terms, above 65,536
abbrev pub too_many : ℕ → Bool
too_many m = nat_lt max_terms m

-- 3: lengths not fitting: the Z words, the real and the imaginary parts are not as many as the m terms
abbrev pub unlike_lengths : ℕ → ℕ → ℕ → ℕ → Bool
unlike_lengths m z reals imags = not (z == m) || not (reals == m) || not (imags == m)

-- a bit of w is set at n or above
abbrev pub set_from : ℕ → ℕ → Bool
set_from n w = some (λ (b : Bool). b) (drop n (bits 64 w))

-- 4: a bit set at n or above, in the terms or in the words beside them
abbrev pub high_bits : ℕ → List ℕ → List ℕ → Bool → Bool
high_bits n xs zs beside = some (set_from n) xs || some (set_from n) zs || beside

-- 10: X falls somewhere in the terms: a word is below the one before it. Below 0, which stands before the first, there is none
unfoldable pub falls_after : ℕ → List ℕ → Bool
falls_after p [] = false
falls_after p (w ∷ ws) = nat_lt w p || falls_after w ws

abbrev pub falls : List ℕ → Bool
falls xs = falls_after 0 xs

-- the lines 1 to 4 and 10 of the table; reals and imags are the numbers of real and of imaginary parts. What a call takes beside the terms
-- has its part of the lines 2, 3 and 4: many, unequal, beside
abbrev pub lines_to10 : ℕ → List ℕ → List ℕ → ℕ → ℕ → Bool → Bool → Bool → List TableLine
lines_to10 n xs zs reals imags many unequal beside =
    line 1 (bad_count n)
    ∷ line 2 (many || too_many (length xs))
    ∷ line 3 (unequal || unlike_lengths (length xs) (length zs) reals imags)
    ∷ line 4 (high_bits n xs zs beside)
    ∷ line 10 (falls xs)
    ∷ []

-- beside one bra and one ket
abbrev pub term_lines : ℕ → List ℕ → List ℕ → ℕ → ℕ → ℕ → ℕ → List TableLine
term_lines n xs zs reals imags bra ket = lines_to10 n xs zs reals imags false false (set_from n bra || set_from n ket)

-- ---- the block of t: the terms with X = t

abbrev pub in_block : List ℕ → ℕ → ℕ → Bool
in_block xs t i = slice_index xs i == t

abbrev pub has_a_block : List ℕ → ℕ → Bool
has_a_block xs t = some (λ w. nat_eq w t) xs
