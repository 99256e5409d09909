-- A column of a row in memory: one bit of one word. The bit at place k times w times 64 and q of the set's words is bit q of row k (`in_row`), and past a row's
-- words there is none (`past_row`). Assumes nothing.
use mathlib.Core.Path.{◌≡◌, refl, sym, ap, ap₂, ◌∙◌}
use mathlib.Core.Bool.{Bool, true, false, cond, ◌&&◌}
use mathlib.Core.List.{List}
use Prim.Native.Nat.{ℕ, ◌+◌, ◌-◌, ◌*◌, ◌/◌, ◌%◌, ◌^◌, ◌≤◌, ◌<◌}
use native.Mathlib.Omega.{arith}
use borrow.Author.Tests.{le-leb, lt-leb, lt-ltb, le-ltb}
use lib.Dec.{leb, ltb}
use lib.ListN.{length, get_or, drop, length-take}
use Rattle.encoding.specs.Limits.{max_qubits, max_rows, words_of}
use Rattle.encoding.specs.Words.{odd, bit_at}
use Rattle.encoding.specs.Set.{row}
use Rattle.encoding.proofs.Parts.{get_d_part}
use Rattle.encoding.proofs.Qubits.{no-bit}
use Rattle.terms.specs.Workers.{column_of, bit_in}

-- ---- bit q of row k

row-short : (w k : ℕ) (xs : List ℕ) → length (row w k xs) ≤ w
row-short w k xs = omega (arith, length-take (k * w + w - k * w) (drop (k * w) xs))

pub past_row : (w k q : ℕ) (xs : List ℕ) → w ≤ q / 64 → false ≡ bit_at (row w k xs) (q / 64) (q % 64)
past_row w k q xs h = sym (no-bit (row w k xs) (q / 64) (q % 64) (omega (arith, row-short w k xs)))

pub in_row : (w k q : ℕ) (xs : List ℕ) → q / 64 < w → bit_at xs ((k * w * 64 + q) / 64) ((k * w * 64 + q) % 64) ≡ bit_at (row w k xs) (q / 64) (q % 64)
unfolding bit_at
in_row w k q xs h =
    let word : (k * w * 64 + q) / 64 ≡ k * w + q / 64 = omega arith in
    let place : (k * w * 64 + q) % 64 ≡ q % 64 = omega arith in
    ap₂ (λ j i. odd (get_or xs j 0 / 2 ^ i)) word place ∙ ap (λ v. odd (v / 2 ^ (q % 64))) (sym (get_d_part (k * w) w xs (q / 64) h))

-- ---- column c of row k

module _ (n : ℕ) (xs zs : List ℕ) (k c : ℕ) where
  at-limits : (b d : Bool) → leb n max_qubits ≡ b → ltb k max_rows ≡ d → ((b && d) && column_of n (row (words_of n) k xs) (row (words_of n) k zs) c) ≡ bit_in n xs zs k c
  unfolding bit_in
  at-limits b d e f = sym (ap₂ (λ x y. (x && y) && column_of n (row (words_of n) k xs) (row (words_of n) k zs) c) e f)

  pub bit-many : max_qubits < n → false ≡ bit_in n xs zs k c
  bit-many h = at-limits false (ltb k max_rows) (lt-leb n max_qubits h) refl

  pub bit-far : n ≤ max_qubits → max_rows ≤ k → false ≡ bit_in n xs zs k c
  bit-far h g = at-limits true false (le-leb n max_qubits h) (le-ltb k max_rows g)

  -- within the limits it is the column of the row's two parts
  pub bit-within : n ≤ max_qubits → k < max_rows → column_of n (row (words_of n) k xs) (row (words_of n) k zs) c ≡ bit_in n xs zs k c
  bit-within h g = at-limits true true (le-leb n max_qubits h) (lt-ltb k max_rows g)

  module _ (w : ℕ) (r : Bool) (h : n ≤ max_qubits) (g : k < max_rows) (e : w ≡ words_of n) where
    pub bit-x : c < n → r ≡ bit_at (row w k xs) (c / 64) (c % 64) → r ≡ bit_in n xs zs k c
    bit-x l q =
        q ∙ ap (λ v. bit_at (row v k xs) (c / 64) (c % 64)) e
        ∙ sym (ap (λ b. cond b (bit_at (row (words_of n) k xs) (c / 64) (c % 64)) (bit_at (row (words_of n) k zs) ((c - n) / 64) ((c - n) % 64))) (lt-ltb c n l))
        ∙ bit-within h g

    pub bit-z : n ≤ c → r ≡ bit_at (row w k zs) ((c - n) / 64) ((c - n) % 64) → r ≡ bit_in n xs zs k c
    bit-z l q =
        q ∙ ap (λ v. bit_at (row v k zs) ((c - n) / 64) ((c - n) % 64)) e
        ∙ sym (ap (λ b. cond b (bit_at (row (words_of n) k xs) (c / 64) (c % 64)) (bit_at (row (words_of n) k zs) ((c - n) / 64) ((c - n) % 64))) (le-ltb c n l))
        ∙ bit-within h g
