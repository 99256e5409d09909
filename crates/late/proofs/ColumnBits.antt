-- A column of a row is one bit of one word: bit c mod 64 of word c div 64 of the row's X words, from n on the same of c - n and of its Z words. The XOR of two
-- words has the XOR of their bits. Assumes nothing.
use mathlib.Core.Path.{◌≡◌, refl, sym, ap, ◌∙◌}
use mathlib.Core.Bool.{Bool, true, false, xor}
use mathlib.Core.List.{List}
use Prim.Native.Nat.{ℕ, ◌+◌, ◌-◌, ◌*◌, ◌/◌, ◌%◌, ◌^◌, ◌≤◌, ◌<◌}
use native.Mathlib.Omega.{arith}
use lib.Bits.{bit_xor, xor_shr}
use lib.ListN.{get_or}
use lib.Seq.{get_or-take}
use Rattle.pauli.specs.Pauli.{of_bits, has_x, has_z}
use Rattle.pauli.specs.declared.PauliMatrix.TheVariants.{I}
use Rattle.pauli.specs.Row.{bit_row}
use Rattle.pauli.proofs.RowLaws.{x-bit, z-bit, has_x-of, has_z-of}
use Rattle.encoding.specs.Limits.{words_of}
use Rattle.encoding.specs.Words.{odd, bit_at, unpack, qubits}
use Rattle.encoding.specs.Set.{row, Mem, count, rows_held, Valid, Sound}
use Rattle.encoding.proofs.Memory.{x-row, z-row}
use Rattle.encoding.proofs.Odd.{xorᵇ, xor-odd}
use Rattle.encoding.proofs.Parts.{get_d_part}
use Rattle.encoding.proofs.Qubits.{qubit-at}
use Rattle.late.specs.Workers.{Placed, in-x, in-z, word_bit, Sees}

xor_is : (a b : Bool) → xorᵇ a b ≡ xor a b
unfolding xor
xor_is true true = refl
xor_is true false = refl
xor_is false true = refl
xor_is false false = refl

-- the bit of two words' XOR
pub xor-bit : (a b i : ℕ) → odd (bit_xor a b / 2 ^ i) ≡ xor (odd (a / 2 ^ i)) (odd (b / 2 ^ i))
xor-bit a b i = ap odd (xor_shr a b i) ∙ xor-odd (a / 2 ^ i) (b / 2 ^ i) ∙ xor_is (odd (a / 2 ^ i)) (odd (b / 2 ^ i))

module _ (n w : ℕ) {M : Mem} (v : Valid n w M) (k : ℕ) (hk : k < count M) where
  qubit : (q : ℕ) → q < n → get_or (qubits n (row w k M.xs) (row w k M.zs)) q I
      ≡ of_bits (bit_at (row w k M.xs) (q / 64) (q % 64)) (bit_at (row w k M.zs) (q / 64) (q % 64))
  qubit q h =
      get_or-take n (unpack (row w k M.xs) (row w k M.zs)) q I h
      ∙ qubit-at (row w k M.xs) (row w k M.zs) q (omega (arith, x-row n w v k hk, v.wide)) (omega (arith, z-row n w v k hk, v.wide))

  in_row : (xs : List ℕ) (q : ℕ) → q / 64 < w → bit_at (row w k xs) (q / 64) (q % 64) ≡ word_bit w (q / 64) (q % 64) xs k
  unfolding bit_at
  in_row xs q h = ap (λ u. odd (u / 2 ^ (q % 64))) (get_d_part (k * w) w xs (q / 64) h)

  pub x-column : (c : ℕ) → c < n → word_bit w (c / 64) (c % 64) M.xs k ≡ bit_row n (rows_held n w M k) c
  unfolding rows_held
  x-column c h =
      let a = bit_at (row w k M.xs) (c / 64) (c % 64) in
      let b = bit_at (row w k M.zs) (c / 64) (c % 64) in
      sym (in_row M.xs c (omega (arith, v.wide))) ∙ sym (x-bit n (qubits n (row w k M.xs) (row w k M.zs)) c h ∙ ap has_x (qubit c h) ∙ has_x-of a b)

  pub z-column : (c : ℕ) → n ≤ c → c < n + n → word_bit w ((c - n) / 64) ((c - n) % 64) M.zs k ≡ bit_row n (rows_held n w M k) c
  unfolding rows_held
  z-column c l h =
      let q = c - n in
      let a = bit_at (row w k M.xs) (q / 64) (q % 64) in
      let b = bit_at (row w k M.zs) (q / 64) (q % 64) in
      sym (in_row M.zs q (omega (arith, v.wide))) ∙ sym (z-bit n (qubits n (row w k M.xs) (row w k M.zs)) c l ∙ ap has_z (qubit q (omega arith)) ∙ has_z-of a b)

-- where column c is read
module _ (n c : ℕ) (M T : Mem) (s : Sound n M) (u : Sound n T) (w : ℕ) (we : w ≡ words_of n) where
  pub sees-x : c < n → Sees n c w (c / 64) (c % 64) M T M.xs T.xs
  sees-x h =
      record {
        bit = omega arith;
        word = omega arith;
        b-long = s.valid.x-long ∙ ap (λ j. count M * j) (sym we);
        t-long = u.valid.x-long ∙ ap (λ j. count T * j) (sym we);
        of_row = λ k l. ap (λ j. word_bit j (c / 64) (c % 64) M.xs k) we ∙ x-column n (words_of n) s.valid k l c h;
        of_entry = λ k l. ap (λ j. word_bit j (c / 64) (c % 64) T.xs k) we ∙ x-column n (words_of n) u.valid k l c h;
      }

  pub sees-z : n ≤ c → c < n + n → Sees n c w ((c - n) / 64) ((c - n) % 64) M T M.zs T.zs
  sees-z l h =
      record {
        bit = omega arith;
        word = omega arith;
        b-long = s.valid.z-long ∙ ap (λ j. count M * j) (sym we);
        t-long = u.valid.z-long ∙ ap (λ j. count T * j) (sym we);
        of_row = λ k g. ap (λ j. word_bit j ((c - n) / 64) ((c - n) % 64) M.zs k) we ∙ z-column n (words_of n) s.valid k g c l h;
        of_entry = λ k g. ap (λ j. word_bit j ((c - n) / 64) ((c - n) % 64) T.zs k) we ∙ z-column n (words_of n) u.valid k g c l h;
      }

-- the same, wherever it lies
pub sees : {n c : ℕ} {M T : Mem} {bs ts : List ℕ} {w j i : ℕ} → Sound n M → Sound n T → c < n + n → Placed n c M.xs M.zs T.xs T.zs bs ts w j i → Sees n c w j i M T bs ts
sees {n} {c} {M} {T} {bs} {ts} {w} {j} {i} s u h (in-x l eb et ew ej ei) = rw (eb, et, ej, ei) (sees-x n c M T s u w ew l)
sees {n} {c} {M} {T} {bs} {ts} {w} {j} {i} s u h (in-z l eb et ew ej ei) = rw (eb, et, ej, ei) (sees-z n c M T s u w ew l h)
