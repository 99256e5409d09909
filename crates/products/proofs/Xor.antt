-- Rows and states in memory: the words of a product, laid from the rows that were read, are the exclusive or of the rows' words, and those of a state that
-- a row acted on the exclusive or of the row's X words and the state's. Bits at n and above are zero, and stay so. Assumes nothing.
use Rattle.std.proofs.Common.{◌≡◌, ℕ, ◌+◌, ◌*◌, ◌<◌, Bool, false, List, length, take, sym, refl, ap, ◌∙◌, ap₂}
use Rattle.pauli.specs.Pauli.{Pauli, has_x, has_z, mul, act, turn}
use Rattle.pauli.specs.declared.PauliMatrix.TheVariants.{I}
use Rattle.pauli.specs.Row.{pad_mul}
use Rattle.pauli.specs.Rows.{act_on}
use Rattle.pauli.proofs.Lists.{each_take}
use Rattle.encoding.specs.Limits.{words_of}
use Rattle.encoding.specs.Words.{unbits, pack}
use Rattle.encoding.specs.Set.{row, Mem, count, rows_held, rows_of, Valid, state_of, lay_state}
use Rattle.encoding.specs.Refusals.{state_lines}
use Rattle.encoding.specs.Ranks.{by_rank}
use Rattle.encoding.proofs.WordLaws.{Fit, xors, pack-b, unbits-act}
use Rattle.encoding.proofs.Padding.{pack-cut, each-only}
use Rattle.encoding.proofs.Parts.{fit-part}
use Rattle.encoding.proofs.Memory.{x-row, z-row, clean}
use Rattle.encoding.proofs.RowWords.{in_words, first-n, product_is}
use Rattle.encoding.proofs.States.{state-long}
use Rattle.products.proofs.RowLaws.{length-xors, fit-xors, packed-x, packed-z}

-- ---- a row by a row, of two sets or of one

module _ (n w : ℕ) {M N : Mem} (v : Valid n w M) (u : Valid n w N) (a b : ℕ) (ha : a < count M) (hb : b < count N) where
  lx : length (row w a M.xs) ≡ w
  lx = x-row n w v a ha

  packed : (f : Pauli → Bool) → f I ≡ false
      → pack f (length (row w a M.xs)) (mul (in_words w M a) (in_words w N b)) ≡ pack f w (pad_mul (rows_held n w M a).ps (rows_held n w N b).ps)
  packed f f0 = ap (λ (k : ℕ). pack f k (mul (in_words w M a) (in_words w N b))) lx ∙ product_is n w v N u f f0 a b ha hb

  pub product-x : Fit M.xs → Fit N.xs → pack has_x w (pad_mul (rows_held n w M a).ps (rows_held n w N b).ps) ≡ xors (row w a M.xs) (row w b N.xs)
  product-x f g =
      sym (packed-x (row w a M.xs) (row w a M.zs) (row w b N.xs) (row w b N.zs) (z-row n w v a ha ∙ sym lx) (x-row n w u b hb ∙ sym lx) (z-row n w u b hb ∙ sym lx)
      (fit-part (a * w) (a * w + w) M.xs f) (fit-part (b * w) (b * w + w) N.xs g)
      ∙ packed has_x refl)

  pub product-z : Fit M.zs → Fit N.zs → pack has_z w (pad_mul (rows_held n w M a).ps (rows_held n w N b).ps) ≡ xors (row w a M.zs) (row w b N.zs)
  product-z f g =
      sym (packed-z (row w a M.xs) (row w a M.zs) (row w b N.xs) (row w b N.zs) (z-row n w v a ha ∙ sym lx) (x-row n w u b hb ∙ sym lx) (z-row n w u b hb ∙ sym lx)
      (fit-part (a * w) (a * w + w) M.zs f) (fit-part (b * w) (b * w + w) N.zs g)
      ∙ packed has_z refl)

-- ---- a row on a state

module _ (n : ℕ) {M : Mem} (v : Valid n (words_of n) M) (r : ℕ) (hr : r < count M) (st : List ℕ) (z : by_rank (state_lines n st) ≡ 0) where
  -- what the words hold is what the row and the state are
  pub acted-is : pack (λ (b : Bool). b) (words_of n) (act (in_words (words_of n) M r) (unbits st)) ≡ lay_state n (act_on n (rows_of n M r) (state_of n st))
  acted-is =
      let w = words_of n in
      let t = in_words w M r in
      let s = unbits st in
      sym (pack-cut (λ (b : Bool). b) false refl w n (act t s) (each-only turn I false false refl n t s (clean n w v r hr) (state-long n st z).1))
      ∙ ap (pack (λ (b : Bool). b) w) (each_take turn n t s ∙ ap (λ (a : List Pauli). act a (take n s)) (first-n n w M r))

  pub acted-xor : Fit M.xs → Fit st → lay_state n (act_on n (rows_of n M r) (state_of n st)) ≡ xors (row (words_of n) r M.xs) st
  acted-xor f g =
      let w = words_of n in
      let X = row w r M.xs in
      let lx = x-row n w v r hr in
      let ls : length st ≡ length X = (state-long n st z).0 ∙ sym lx in
      sym acted-is
      ∙ sym (ap₂ (pack (λ (b : Bool). b)) (length-xors X st ls ∙ lx) (unbits-act X (row w r M.zs) st (z-row n w v r hr ∙ sym lx)))
      ∙ pack-b (xors X st) (fit-xors X st ls (fit-part (r * w) (r * w + w) M.xs f) g)
