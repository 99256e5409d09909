-- The table of a row set as the code climbs it, each test after those before it: what has failed so far makes the definition's tests before it false, and what
-- holds makes its test the first. Assumes nothing.
use mathlib.Core.Path.{◌≡◌, sym, ap, ◌∙◌}
use mathlib.Core.Bool.{Bool, true, false, cond}
use mathlib.Core.List.{List}
use Prim.Native.Nat.{ℕ, ◌-◌, ◌%◌, ◌≤◌, ◌<◌}
use borrow.Author.Tests.{lt-ltb, le-ltb, eq-eqb, ne_eqb}
use lib.ListN.{length, get_or, drop}
use Rattle.encoding.specs.Limits.{max_qubits, max_rows, words_of}
use Rattle.encoding.specs.Words.{word, unbits}
use Rattle.encoding.specs.Set.{Mem, count}
use Rattle.encoding.specs.Refusals.{some, is_on, wrong_lengths, bad_bits, bad_phases, set_lines, out_lines, state_lines}
use Rattle.encoding.specs.Ranks.{by_rank}
use Rattle.encoding.proofs.Spare.{spare-none, spare-last}
use Rattle.encoding.proofs.States.{state-spare}

module _ (n : ℕ) (M : Mem) where
  pub stop-1 : max_qubits < n → 1 ≡ by_rank (set_lines n M)
  unfolding by_rank
  stop-1 h = simp (lt-ltb _ _ h)

  pub stop-2 : n ≤ max_qubits → max_rows < count M → 2 ≡ by_rank (set_lines n M)
  unfolding by_rank
  stop-2 h g = simp (le-ltb _ _ h, lt-ltb _ _ g)

  module _ (w : ℕ) (h1 : n ≤ max_qubits) (h2 : count M ≤ max_rows) (hw : w ≡ words_of n) where
    pub stop-3 : wrong_lengths w M ≡ true → 3 ≡ by_rank (set_lines n M)
    unfolding by_rank
    stop-3 t = simp (le-ltb _ _ h1, le-ltb _ _ h2, ap (λ (k : ℕ). wrong_lengths k M) (sym hw) ∙ t)

    -- the lengths fit: of the bits and the exponents each test is made alone
    module _ (t : wrong_lengths w M ≡ false) where
      fits : wrong_lengths (words_of n) M ≡ false
      fits = ap (λ (k : ℕ). wrong_lengths k M) (sym hw) ∙ t

      bits : {b : Bool} → b ≡ bad_bits n (count M) w M.xs M.zs → bad_bits n (count M) (words_of n) M.xs M.zs ≡ b
      bits e = ap (λ (k : ℕ). bad_bits n (count M) k M.xs M.zs) (sym hw) ∙ sym e

      pub stop-4 : true ≡ bad_bits n (count M) w M.xs M.zs → 4 ≡ by_rank (set_lines n M)
      unfolding by_rank
      stop-4 e = simp (le-ltb _ _ h1, le-ltb _ _ h2, fits, bits e)

      pub stop-5 : false ≡ bad_bits n (count M) w M.xs M.zs → true ≡ bad_phases (count M) M.es → 5 ≡ by_rank (set_lines n M)
      unfolding by_rank
      stop-5 e g = simp (le-ltb _ _ h1, le-ltb _ _ h2, fits, bits e, sym g)

      pub go_on : false ≡ bad_bits n (count M) w M.xs M.zs → false ≡ bad_phases (count M) M.es → 0 ≡ by_rank (set_lines n M)
      unfolding by_rank
      go_on e g = simp (le-ltb _ _ h1, le-ltb _ _ h2, fits, bits e, sym g)

-- ---- a set that is written only

module _ (n : ℕ) (M : Mem) where
  pub out-1 : max_qubits < n → 1 ≡ by_rank (out_lines n M)
  unfolding by_rank
  out-1 h = simp (lt-ltb _ _ h)

  pub out-2 : n ≤ max_qubits → max_rows < count M → 2 ≡ by_rank (out_lines n M)
  unfolding by_rank
  out-2 h g = simp (le-ltb _ _ h, lt-ltb _ _ g)

  pub out-3 : (w : ℕ) (b : Bool) → n ≤ max_qubits → count M ≤ max_rows → w ≡ words_of n → b ≡ wrong_lengths w M → cond b 3 0 ≡ by_rank (out_lines n M)
  unfolding by_rank
  out-3 w b h1 h2 hw eb = simp (le-ltb _ _ h1, le-ltb _ _ h2) (ap (λ (t : Bool). cond t 3 0) (eb ∙ ap (λ (k : ℕ). wrong_lengths k M) hw))

-- ---- a lent basis state

module _ (n : ℕ) (st : List ℕ) where
  pub state-1 : max_qubits < n → 1 ≡ by_rank (state_lines n st)
  unfolding by_rank
  state-1 h = simp (lt-ltb _ _ h)

  pub state-3 : (w : ℕ) → n ≤ max_qubits → w ≡ words_of n → (length st ≡ w → ⊥) → 3 ≡ by_rank (state_lines n st)
  unfolding by_rank
  state-3 w h hw ne = simp (le-ltb _ _ h, ne_eqb (length st) (words_of n) (λ e. ne (e ∙ sym hw)))

  high : (v : Bool) → n ≤ max_qubits → length st ≡ words_of n → some (λ (b : Bool). b) (drop n (unbits st)) ≡ v → cond v 4 0 ≡ by_rank (state_lines n st)
  unfolding by_rank
  high v h e t = simp (le-ltb _ _ h, eq-eqb (length st) (words_of n) e, t)

  pub state-none : (w : ℕ) → n ≤ max_qubits → w ≡ words_of n → length st ≡ w → n % 64 ≡ 0 → 0 ≡ by_rank (state_lines n st)
  state-none w h hw e z = high false h (e ∙ hw) (state-spare n st ∙ spare-none n st st (e ∙ hw) (e ∙ hw) z)

  pub state-4 : (w : ℕ) (b : Bool) → n ≤ max_qubits → w ≡ words_of n → length st ≡ w → (n % 64 ≡ 0 → ⊥)
      → b ≡ some is_on (drop (n % 64) (word 64 (get_or st (length st - 1) 0) (get_or st (length st - 1) 0))) → cond b 4 0 ≡ by_rank (state_lines n st)
  state-4 w b h hw e ne eb =
      high b h (e ∙ hw) (state-spare n st ∙ spare-last n st st (e ∙ hw) (e ∙ hw) ne
      ∙ ap (λ (j : ℕ). some is_on (drop (n % 64) (word 64 (get_or st (j - 1) 0) (get_or st (j - 1) 0)))) (sym (e ∙ hw)) ∙ sym eb)
