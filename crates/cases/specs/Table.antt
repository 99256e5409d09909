-- RULES 11, "Cases at each end": P1 to P12, rows with phases, and the ends of the floats. A row of the table is a call's own contract, or its
-- definition, at what the case gives, with the outcome that RULES 11 says; so that the call accepts what it is given is part of the row. Assumes
-- nothing.
use Rattle.std.specs.Prelude.{◌≡◌, true, false, List, [], ◌∷◌, ℕ, ℤ, pos, neg_ℤ, Float, Ok}
use Rattle.std.specs.Float.{fin}
use Rattle.pauli.specs.declared.PauliMatrix.TheVariants.{I}
use Rattle.encoding.specs.Set.{Mem, mem_of}
use Rattle.cmpnt_list.specs.Calls.{count_in, commutes_with, MulPairwise, ImulState}
use Rattle.terms.specs.Calls.{Multiplies, Reduces, Done, LogFull, reduced_number}
use Rattle.mat_elem.specs.Sums.{Element, Sum, NoBlock, Refused}
use Rattle.mat_elem.specs.whole.Sums as whole
use Rattle.mat_elem.specs.float.Sums as float

-- one row of one qubit with exponent p: I, X, Y, Z
abbrev row_i : ℕ → Mem
row_i p = mem_of 1 (0 ∷ []) (0 ∷ []) (p ∷ [])

abbrev row_x : ℕ → Mem
row_x p = mem_of 1 (1 ∷ []) (0 ∷ []) (p ∷ [])

abbrev row_y : ℕ → Mem
row_y p = mem_of 1 (1 ∷ []) (1 ∷ []) (p ∷ [])

abbrev row_z : ℕ → Mem
row_z p = mem_of 1 (0 ∷ []) (1 ∷ []) (p ∷ [])

-- P9: two qubits; rows Z0, X0X1, Y0; the order X0 X1 Z0 Z1; all listed
abbrev three : Mem
three = mem_of 3 (0 ∷ 3 ∷ 1 ∷ []) (1 ∷ 0 ∷ 1 ∷ []) (0 ∷ [])

abbrev order : List ℕ
order = 0 ∷ 1 ∷ 2 ∷ 3 ∷ []

abbrev listed : List ℕ
listed = 0 ∷ 1 ∷ 2 ∷ []

-- P11: two qubits; terms (x,z,c): (0,1,3), (1,1,2), (1,0,5), (2,0,7)
abbrev four : ℕ → ℕ → Element ℤ
four bra ket =
    whole.element_of 2 (0 ∷ 1 ∷ 1 ∷ 2 ∷ []) (1 ∷ 1 ∷ 0 ∷ 0 ∷ []) (pos 3 ∷ pos 2 ∷ pos 5 ∷ pos 7 ∷ []) (pos 0 ∷ pos 0 ∷ pos 0 ∷ pos 0 ∷ []) bra ket

-- floats: 1, 1e16, -1e16 and the largest f64
abbrev one : Float
one = fin false 1 (pos 0)

abbrev e16 : Float
e16 = fin false 152587890625 (pos 16)

abbrev minus_e16 : Float
minus_e16 = fin true 152587890625 (pos 16)

abbrev largest : Float
largest = fin false 9007199254740991 (pos 971)

-- three terms I with real coefficients a, b, c, bra 0 and ket 0
abbrev summed : Float → Float → Float → Element Float
summed a b c = float.element_of 1 (0 ∷ 0 ∷ 0 ∷ []) (0 ∷ 0 ∷ 0 ∷ []) (a ∷ b ∷ c ∷ []) (float.plus_zero ∷ float.plus_zero ∷ float.plus_zero ∷ []) 0 0

pub record Table : Type 0 where
  -- P1 XY: Z, 1. P2 YX: Z, 3. P3 ZX: Y, 1; each pair clashes at its one qubit
  pub p1 : MulPairwise 1 (row_x 0) (row_y 0) (row_i 0) (row_z 1) (9 ∷ []) (1 ∷ []) (Ok tt)
  pub p2 : MulPairwise 1 (row_y 0) (row_x 0) (row_i 0) (row_z 3) (9 ∷ []) (1 ∷ []) (Ok tt)
  pub p3 : MulPairwise 1 (row_z 0) (row_x 0) (row_i 0) (row_y 1) (9 ∷ []) (1 ∷ []) (Ok tt)
  -- 11.7 X of phase 3 times Y of phase 2: Z, 2. No qubits, phase 1 times phase 0: 1
  pub signed : MulPairwise 1 (row_x 3) (row_y 2) (row_i 0) (row_z 2) (9 ∷ []) (1 ∷ []) (Ok tt)
  pub signed-none : MulPairwise 0 (mem_of 1 [] [] (1 ∷ [])) (mem_of 1 [] [] (0 ∷ [])) (mem_of 1 [] [] (9 ∷ [])) (mem_of 1 [] [] (1 ∷ [])) (9 ∷ []) (0 ∷ []) (Ok tt)
  -- P4 Y on 1: state 0, 3. P5 Z on 1: state 1, 2
  pub p4 : ImulState 1 (row_y 0) 0 (1 ∷ []) (0 ∷ []) (Ok (record { 0 = 3 }))
  pub p5 : ImulState 1 (row_z 0) 0 (1 ∷ []) (1 ∷ []) (Ok (record { 0 = 2 }))
  -- P6 all I: n = 65, 64, 0
  pub p6 : count_in 65 (mem_of 1 (0 ∷ 0 ∷ []) (0 ∷ 0 ∷ []) (0 ∷ [])) 0 I ≡ Ok 65
  pub p6-64 : count_in 64 (mem_of 1 (0 ∷ []) (0 ∷ []) (0 ∷ [])) 0 I ≡ Ok 64
  pub p6-0 : count_in 0 (mem_of 1 [] [] (0 ∷ [])) 0 I ≡ Ok 0
  -- P7 XX against ZZ commutes, XI against ZZ does not
  pub p7 : commutes_with 2 (mem_of 2 (3 ∷ 0 ∷ []) (0 ∷ 3 ∷ []) (0 ∷ [])) 0 1 ≡ Ok true
  pub p7-not : commutes_with 2 (mem_of 2 (1 ∷ 0 ∷ []) (0 ∷ 3 ∷ []) (0 ∷ [])) 0 1 ≡ Ok false
  -- P8 the row X0 with p = 3 times itself: I, p = 2, no clash
  pub p8 : Multiplies 1 0 0 (row_x 3) (row_i 2) (Ok 0)
  -- P9 a log of 14 units, its 7 entries, t = 3; the rows X0 p = 1, X1 p = 3, Z0 p = 0
  pub p9 : Reduces 2 order listed [] three (9 ∷ 9 ∷ 9 ∷ 9 ∷ 9 ∷ 9 ∷ 9 ∷ 9 ∷ 9 ∷ 9 ∷ 9 ∷ 9 ∷ 9 ∷ 9 ∷ [])
      (mem_of 3 (1 ∷ 2 ∷ 0 ∷ []) (0 ∷ 0 ∷ 1 ∷ []) (13 ∷ [])) (0 ∷ 1 ∷ 1 ∷ 0 ∷ 2 ∷ 0 ∷ 1 ∷ 2 ∷ 0 ∷ 1 ∷ 2 ∷ 1 ∷ 1 ∷ 2 ∷ []) (Done 7 3)
  -- P10 the same with capacity 6: refusal 8; the rows X0 p = 1, Z0X1 p = 3, Z0 p = 0
  pub p10 : Reduces 2 order listed [] three (9 ∷ 9 ∷ 9 ∷ 9 ∷ 9 ∷ 9 ∷ 9 ∷ 9 ∷ 9 ∷ 9 ∷ 9 ∷ 9 ∷ [])
      (mem_of 3 (1 ∷ 2 ∷ 0 ∷ []) (0 ∷ 1 ∷ 1 ∷ []) (13 ∷ [])) (0 ∷ 1 ∷ 1 ∷ 0 ∷ 2 ∷ 0 ∷ 1 ∷ 2 ∷ 0 ∷ 1 ∷ 2 ∷ 1 ∷ []) (LogFull 6)
  pub p10-number : reduced_number (LogFull 6) ≡ 8
  -- P11 bra 0, ket 1: 5-2i; bra 1, ket 1: -3; bra 3, ket 0: no block
  pub p11 : four 0 1 ≡ Sum (pos 5) (neg_ℤ (pos 2))
  pub p11-real : four 1 1 ≡ Sum (neg_ℤ (pos 3)) (pos 0)
  pub p11-none : four 3 0 ≡ NoBlock
  -- P12 a lone Z term of coefficient -2147483648, bra 1, ket 1
  pub p12 : whole.element_of 1 (0 ∷ []) (1 ∷ []) (neg_ℤ (pos 2147483648) ∷ []) (pos 0 ∷ []) 1 1 ≡ Sum (pos 2147483648) (pos 0)
  -- floats in list order: 1, 1e16, -1e16 sum to 0, the reversed list to 1
  pub list-order : summed one e16 minus_e16 ≡ Sum float.plus_zero float.plus_zero
  pub reversed : summed minus_e16 e16 one ≡ Sum one float.plus_zero
  -- the largest finite f64 twice in one block, exponent 0: 12
  pub twice : float.element_of 1 (0 ∷ 0 ∷ []) (0 ∷ 0 ∷ []) (largest ∷ largest ∷ []) (float.plus_zero ∷ float.plus_zero ∷ []) 0 0 ≡ Refused 12
