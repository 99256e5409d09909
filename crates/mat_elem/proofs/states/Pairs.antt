-- The running sum over pairs, as the code has it: the number, or none. It is the definition's run (`run-told`), since an answer that does not
-- fit stays so and its number is not looked at: step by step (`told-step`). Assumes nothing.
use Rattle.std.proofs.Common.{Option, ℤ, ◌≡◌, ℕ, zero, suc, ◌+◌, Bool, true, false, length, get_or, refl, ap, ◌∙◌, add-one}
use Rattle.pauli.specs.Gauss.{Gauss}
use Rattle.checked.specs.Range.{pair_fits, pair_of}
use Rattle.checked.specs.Workers.{answer, checked_pair, plus_checked}
use Rattle.checked.specs.declared.Complex.{Complex}
use Rattle.checked.proofs.Six.{plus-is}
use Rattle.mat_elem.specs.Workers.{ket_step, bra_step, over_bras, total_or}
use Rattle.mat_elem.specs.states.Sums.{Terms, State, Running, coefficient_at, element_at, with_pair, through, on_ket, on_bra, no_pair, all_pairs, total}

-- ---- a loop's steps, one by one
module _ {S : Type 0} (f : S → ℕ → S) (s : S) where
  pub none_yet : s ≡ through f s 0
  unfolding through
  none_yet = refl

  pub one_more : (i : ℕ) {t r : S} → t ≡ through f s i → r ≡ f t i → r ≡ through f s (i + 1)
  unfolding through
  one_more i {t} {r} p q = rw (add-one i) (q ∙ ap (λ (z : S). f z i) p)

-- ---- the definition's run, told as the code has it
abbrev pub told : Running → Option (Complex ℤ)
told r = answer r.fits r.sum

told-step : (r : Running) (b k e : Gauss) → plus_checked (told r) (checked_pair b k e) ≡ told (with_pair r b k e)
unfolding checked_pair
told-step r b k e = plus-is r.fits (pair_fits b k e) r.sum (pair_of b k e)

module _ (A : Terms) (ket : State) (w : ℕ) (b : Gauss) where
  kets-told : (r : Running) (n : ℕ) → through (ket_step A ket w b) (told r) n ≡ told (through (on_ket A ket w b) r n)
  unfolding through
  kets-told r zero = refl
  kets-told r (suc n) =
      ap (λ (s : Option (Complex ℤ)). ket_step A ket w b s n) (kets-told r n)
      ∙ told-step (through (on_ket A ket w b) r n) b (coefficient_at ket n) (element_at A w (get_or ket.words n 0))

module _ (A : Terms) (bra ket : State) where
  bras-told : (n : ℕ) → through (bra_step A bra ket) (told no_pair) n ≡ told (through (on_bra A bra ket) no_pair n)
  unfolding through
  bras-told zero = refl
  bras-told (suc n) =
      ap (λ (s : Option (Complex ℤ)). bra_step A bra ket s n) (bras-told n)
      ∙ kets-told A ket (get_or bra.words n 0) (coefficient_at bra n) (through (on_bra A bra ket) no_pair n) (length ket.words)

  pub run-told : over_bras A bra ket ≡ told (all_pairs A bra ket)
  run-told = bras-told (length bra.words)

-- ---- the answer
pub total-told : (r : Running) → total_or (told r) ≡ total 0 r
total-told r = go r.fits
  where
    go : (f : Bool) → total_or (answer f r.sum) ≡ total 0 (record { fits = f; sum = r.sum })
    go true = refl
    go false = refl
