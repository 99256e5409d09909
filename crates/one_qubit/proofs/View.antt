-- The leaf over a row set: the bits read are those of the row's Pauli, and turning them gives the memory laid from the rows with that Pauli turned. A qubit
-- is given by its bits, which lie at bit q mod 64 of word r w + q div 64; a bit that is not the qubit's is the old one. Assumes nothing.
use mathlib.Core.Path.{◌≡◌, refl, sym, ap, ap₂, ◌∙◌, subst}
use mathlib.Core.Bool.{Bool, false}
use mathlib.Core.List.{List, []}
use Prim.Native.Nat.{ℕ, ◌+◌, ◌*◌, ◌/◌, ◌%◌, ◌<◌}
use native.Mathlib.Nat.{div-add-mod'}
use native.Mathlib.Decide.{ℕ_discrete, dec_lt}
use native.Mathlib.Omega.{arith}
use lib.ListN.{length, get_or, set, length-set}
use lib.Seq.{get_or-set_same, get_or-set_other}
use Rattle.pauli.specs.Pauli.{Pauli, has_x, has_z}
use Rattle.pauli.specs.declared.PauliMatrix.TheVariants.{I}
use Rattle.pauli.specs.Row.{Row}
use Rattle.pauli.proofs.RowLaws.{has_x-of, has_z-of}
use Rattle.encoding.specs.Limits.{words_of}
use Rattle.encoding.specs.Words.{bit_at, with_bit, lay_rows}
use Rattle.encoding.specs.Set.{Mem, mem_of, count, rows_held, rows_of, list, lay_exponents, lay_in, lay, Sound}
use Rattle.encoding.proofs.Odd.{xorᵇ}
use Rattle.encoding.proofs.BitLaws.{lay-of, bit-lay}
use Rattle.encoding.proofs.Exponents.{lay-alike}
use Rattle.encoding.proofs.Memory.{mem-eq, row_count, lay-back}
use Rattle.encoding.proofs.Parts.{row-end, length-list, get_or-list}
use Rattle.encoding.proofs.Qubits.{bit-same, bit-other}
use Rattle.encoding.proofs.WordLaws.{Fit}
use Rattle.one_qubit.specs.Leaves.{with_turned, place_of, turned_pauli, with_pauli, at_row}
use Rattle.one_qubit.proofs.OneRow.{row_here, row_other}

-- ---- where the bits of a qubit lie

word_of : (n r q : ℕ) → place_of n r q / 64 ≡ r * words_of n + q / 64
word_of n r q = omega arith

bit-of : (n r q : ℕ) → place_of n r q % 64 ≡ q % 64
bit-of n r q = omega arith

-- a word is in one row only
one-row : (w r k i j : ℕ) → i < w → j < w → r * w + i ≡ k * w + j → (r ≡ k) × (i ≡ j)
one-row w r k i j hi hj e = go (dec_lt r k) (dec_lt k r)
  where
    go : Dec (r < k) → Dec (k < r) → (r ≡ k) × (i ≡ j)
    go (yes l) d = absurd (omega (arith, row-end r w l))
    go (no a) (yes l) = absurd (omega (arith, row-end k w l))
    go (no a) (no b) =
        let s : r ≡ k = omega arith in
        let t : r * w ≡ k * w = ap (λ (x : ℕ). x * w) s in
        (s, omega (arith, t))

-- ---- one of the two runs of words: f is the bit that it holds

module _ (w m r q : ℕ) (p : Pauli) (f : Pauli → Bool) (f0 : f I ≡ false) (σ : ℕ → Row) {xs xs' : List ℕ} (hr : r < m) (hw : q / 64 < w) (hq : q < length (σ r).ps)
    (lx : length xs ≡ m * w) (old : xs ≡ lay_rows f w (list m (λ k. (σ k).ps)))
    (new : xs' ≡ set xs (r * w + q / 64) (with_bit (get_or xs (r * w + q / 64) 0) (q % 64) (f p))) where
  τ : ℕ → Row
  τ = at_row σ r (with_pauli q p)

  t-in : r * w + q / 64 < length xs
  t-in = omega (arith, row-end r w hr)

  was : (k j i : ℕ) → k < m → j < w → i < 64 → bit_at xs (k * w + j) i ≡ f (get_or (σ k).ps (j * 64 + i) I)
  was k j i hk hj hi = ap (λ (l : List ℕ). bit_at l (k * w + j) i) old ∙ bit-lay f I f0 w m (λ k. (σ k).ps) k j i hk hj hi

  is : (k j i : ℕ) → k < m → j < w → i < 64 → bit_at xs' (k * w + j) i ≡ f (get_or (τ k).ps (j * 64 + i) I)
  unfolding τ
  is k j i hk hj hi = ap (λ (l : List ℕ). bit_at l (k * w + j) i) new ∙ go (ℕ_discrete k r) (ℕ_discrete (j * 64 + i) q)
    where
      us : List ℕ
      us = set xs (r * w + q / 64) (with_bit (get_or xs (r * w + q / 64) 0) (q % 64) (f p))

      other : (k ≡ r → j * 64 + i ≡ q → ⊥) → bit_at us (k * w + j) i ≡ f (get_or (σ k).ps (j * 64 + i) I)
      other ne =
          bit-other xs (r * w + q / 64) (q % 64) (f p) t-in (k * w + j) i (λ e e'. let o = one-row w k r j (q / 64) hj hw e in ne o.0 (omega (arith, o.1, e')))
          ∙ was k j i hk hj hi

      go : Dec (k ≡ r) → Dec (j * 64 + i ≡ q) → bit_at us (k * w + j) i ≡ f (get_or (at_row σ r (with_pauli q p) k).ps (j * 64 + i) I)
      go (yes e) (yes e') =
          let ej : j ≡ q / 64 = omega arith in
          let ei : i ≡ q % 64 = omega arith in
          ap₂ (λ (a b : ℕ). bit_at us (a * w + b) i) e ej ∙ ap (bit_at us (r * w + q / 64)) ei
          ∙ bit-same xs (r * w + q / 64) (q % 64) (f p) t-in
          ∙ sym (ap₂ (λ (x : Row) (b : ℕ). f (get_or x.ps b I)) (row_here σ r (with_pauli q p) k e ∙ ap (λ (j : ℕ). with_pauli q p (σ j)) e) e'
          ∙ ap f (get_or-set_same (σ r).ps q p I hq))
      go (yes e) (no ne) =
          other (λ _ e'. ne e')
          ∙ sym (ap (λ (x : Row). f (get_or x.ps (j * 64 + i) I)) (row_here σ r (with_pauli q p) k e) ∙ ap f (get_or-set_other (σ k).ps q (j * 64 + i) p I ne))
      go (no ne) d = other (λ e _. ne e) ∙ sym (ap (λ (x : Row). f (get_or x.ps (j * 64 + i) I)) (row_other σ r (with_pauli q p) k ne))

  words-laid : Fit xs' → xs' ≡ lay_rows f w (list m (λ k. (at_row σ r (with_pauli q p) k).ps))
  unfolding τ
  words-laid fit =
      let rs = list m (λ k. (at_row σ r (with_pauli q p) k).ps) in
      let lr = length-list m (λ k. (at_row σ r (with_pauli q p) k).ps) in
      lay-of f I f0 w rs xs' (ap length new ∙ length-set xs (r * w + q / 64) (with_bit (get_or xs (r * w + q / 64) 0) (q % 64) (f p)) ∙ lx ∙ ap (λ (k : ℕ). k * w) (sym lr)) fit
      (λ k j i hk hj hi.
      let h : k < m = subst (λ (a : ℕ). k < a) lr hk in
      is k j i h hj hi ∙ ap (λ (l : List Pauli). f (get_or l (j * 64 + i) I)) (sym (get_or-list m (λ k. (at_row σ r (with_pauli q p) k).ps) k [] h)))

-- no phase changes
same-phases : (m : ℕ) (σ : ℕ → Row) (r q : ℕ) (p : Pauli) → lay_exponents m (λ k. (σ k).p) ≡ lay_exponents m (λ k. (at_row σ r (with_pauli q p) k).p)
same-phases m σ r q p = lay-alike m (λ k. (σ k).p) (λ k. (at_row σ r (with_pauli q p) k).p) (λ k h. at k (ℕ_discrete k r))
  where
    at : (k : ℕ) → Dec (k ≡ r) → (σ k).p ≡ (at_row σ r (with_pauli q p) k).p
    at k (yes e) = ap (λ (x : Row). x.p) (sym (row_here σ r (with_pauli q p) k e))
    at k (no ne) = ap (λ (x : Row). x.p) (sym (row_other σ r (with_pauli q p) k ne))

-- ---- a row set

module _ (n : ℕ) {M : Mem} (s : Sound n M) (r q : ℕ) (hr : r < count M) (hq : q < n) where
  w : ℕ
  w = words_of n

  hw : q / 64 < words_of n
  hw = omega arith

  x-old : M.xs ≡ lay_rows has_x (words_of n) (list (count M) (λ k. (rows_of n M k).ps))
  unfolding lay_in
  x-old = ap (λ (N : Mem). N.xs) (sym (lay-back n (words_of n) s.valid))

  z-old : M.zs ≡ lay_rows has_z (words_of n) (list (count M) (λ k. (rows_of n M k).ps))
  unfolding lay_in
  z-old = ap (λ (N : Mem). N.zs) (sym (lay-back n (words_of n) s.valid))

  e-old : M.es ≡ lay_exponents (count M) (λ k. (rows_of n M k).p)
  unfolding lay_in
  e-old = ap (λ (N : Mem). N.es) (sym (lay-back n (words_of n) s.valid))

  row-long : length (rows_of n M r).ps ≡ n
  unfolding rows_held
  row-long = row_count n (words_of n) s.valid r hr

  here : (xs : List ℕ) (b : Bool) → set xs (place_of n r q / 64) (with_bit (get_or xs (place_of n r q / 64) 0) (place_of n r q % 64) b)
      ≡ set xs (r * words_of n + q / 64) (with_bit (get_or xs (r * words_of n + q / 64) 0) (q % 64) b)
  here xs b = ap₂ (λ (t k : ℕ). set xs t (with_bit (get_or xs t 0) k b)) (word_of n r q) (bit-of n r q)

  bit-view : (f : Pauli → Bool) (f0 : f I ≡ false) (xs : List ℕ) → xs ≡ lay_rows f (words_of n) (list (count M) (λ k. (rows_of n M k).ps))
      → bit_at xs (place_of n r q / 64) (place_of n r q % 64) ≡ f (get_or (rows_of n M r).ps q I)
  bit-view f f0 xs old =
      ap₂ (bit_at xs) (word_of n r q) (bit-of n r q)
      ∙ ap (λ (l : List ℕ). bit_at l (r * words_of n + q / 64) (q % 64)) old
      ∙ bit-lay f I f0 (words_of n) (count M) (λ k. (rows_of n M k).ps) r (q / 64) (q % 64) hr hw (omega arith)
      ∙ ap (λ (k : ℕ). f (get_or (rows_of n M r).ps k I)) (div-add-mod' q 64)

  -- what is read are the bits of the row's Pauli
  pub x-view : bit_at M.xs (place_of n r q / 64) (place_of n r q % 64) ≡ has_x (get_or (rows_of n M r).ps q I)
  x-view = bit-view has_x refl M.xs x-old

  pub z-view : bit_at M.zs (place_of n r q / 64) (place_of n r q % 64) ≡ has_z (get_or (rows_of n M r).ps q I)
  z-view = bit-view has_z refl M.zs z-old

  -- turning them gives the memory laid from the rows with that Pauli turned
  module _ (a b : Bool) {xs' zs' : List ℕ} (ex : xs' ≡ with_turned M.xs (place_of n r q) a) (ez : zs' ≡ with_turned M.zs (place_of n r q) b) (fx : Fit xs') (fz : Fit zs') where
    p' : Pauli
    p' = turned_pauli (get_or (rows_of n M r).ps q I) a b

    new : (f : Pauli → Bool) (xs : List ℕ) (t : Bool) → bit_at xs (place_of n r q / 64) (place_of n r q % 64) ≡ f (get_or (rows_of n M r).ps q I) → xorᵇ (f (get_or (rows_of n M r).ps q I)) t ≡ f p'
        → with_turned xs (place_of n r q) t ≡ set xs (r * words_of n + q / 64) (with_bit (get_or xs (r * words_of n + q / 64) 0) (q % 64) (f p'))
    unfolding with_turned
    new f xs t e e' =
        ap (λ (c : Bool). set xs (place_of n r q / 64) (with_bit (get_or xs (place_of n r q / 64) 0) (place_of n r q % 64) c)) (ap (λ (c : Bool). xorᵇ c t) e ∙ e') ∙ here xs (f p')

    pub turn-view : mem_of (count M) xs' zs' M.es ≡ lay n (count M) (at_row (rows_of n M) r (with_pauli q (turned_pauli (get_or (rows_of n M r).ps q I) a b)))
    unfolding lay_in p'
    turn-view =
        let σ = rows_of n M in
        let m = count M in
        let p = get_or (rows_of n M r).ps q I in
        let hl : q < length (σ r).ps = subst (λ (k : ℕ). q < k) (sym row-long) hq in
        mem-eq
        refl
        (words-laid (words_of n) m r q p' has_x refl σ hr hw hl s.valid.x-long x-old (ex ∙ new has_x M.xs a x-view (sym (has_x-of (xorᵇ (has_x p) a) (xorᵇ (has_z p) b)))) fx)
        (words-laid (words_of n) m r q p' has_z refl σ hr hw hl s.valid.z-long z-old (ez ∙ new has_z M.zs b z-view (sym (has_z-of (xorᵇ (has_x p) a) (xorᵇ (has_z p) b)))) fz)
        (e-old ∙ same-phases m σ r q p')
