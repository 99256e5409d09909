-- A log that is written in pairs is read back, and one without a colon behind its first number is read as any list is.
-- A pair is read in two turns: its first number ends at the colon, its second at a comma or where the log does.
use Rattle.text.proofs.Kit.{◌≡◌, ap, ◌∙◌, true, false, List, [], ◌∷◌, ◌++◌, append_assoc, ℕ, zero, suc, ◌*◌, ◌^◌, ◌<◌, ◌≤◌, arith, le-ltb, length}
use Rattle.text.specs.Readers.{Got, got, starts}
use Rattle.text.specs.Numbers.{digit_of, numeral, number, Stops}
use Rattle.text.specs.Lists.{joined, listed, items_of, colon, dash, list, log}
use Rattle.text.proofs.Numbers.{numeral-spells}
use Rattle.text.proofs.Items.{numbers}
use Rattle.text.proofs.Back.{decimal-back}

pub log-flat : {A : Type 0} (read : List ℕ → Got A) (room : ℕ) (s : List ℕ) → colon (read s) ≡ false → log read room s ≡ list read room s
unfolding log list
log-flat read room s h = rw h

-- a:b
abbrev pub pair_text : ℕ × ℕ → List ℕ
pair_text v = numeral 10 v.0 ++ (58 ∷ numeral 10 v.1)

abbrev pub flat : List (ℕ × ℕ) → List ℕ
flat [] = []
flat (v ∷ l) = v.0 ∷ v.1 ∷ flat l

stops-colon : (t : List ℕ) → Stops 10 (58 ∷ t)
unfolding digit_of
stops-colon t = le-ltb 16 10 (omega arith)

stops-comma : (t : List ℕ) → Stops 10 (44 ∷ t)
unfolding digit_of
stops-comma t = le-ltb 16 10 (omega arith)

module _ (top : ℕ) (few : top < 10 ^ 20) where
  abbrev pub Within : List (ℕ × ℕ) → Type 0
  Within [] = Unit {0}
  Within (v ∷ l) = (v.0 ≤ top) × (v.1 ≤ top) × Within l

  -- what stands behind the colon of the first pair
  abbrev second : ℕ × ℕ → List (ℕ × ℕ) → List ℕ → List ℕ
  second v [] t = numeral 10 v.1 ++ t
  second v (x ∷ l) t = numeral 10 v.1 ++ (44 ∷ (joined pair_text x l ++ t))

  shape : (v : ℕ × ℕ) (l : List (ℕ × ℕ)) (t : List ℕ) → joined pair_text v l ++ t ≡ numeral 10 v.0 ++ (58 ∷ second v l t)
  shape v [] t = append_assoc (numeral 10 v.0) (58 ∷ numeral 10 v.1) t
  shape v (x ∷ l) t =
      append_assoc (pair_text v) (44 ∷ joined pair_text x l) t
      ∙ append_assoc (numeral 10 v.0) (58 ∷ numeral 10 v.1) (44 ∷ (joined pair_text x l ++ t))

  first_read : (v : ℕ × ℕ) (l : List (ℕ × ℕ)) (t : List ℕ) → v.0 ≤ top → number 10 top (joined pair_text v l ++ t) ≡ got v.0 (58 ∷ second v l t)
  first_read v l t h =
      ap (number 10 top) (shape v l t) ∙ decimal-back top few v.0 (58 ∷ second v l t) h (stops-colon (second v l t))

  pairs-back : (room : ℕ) (v : ℕ × ℕ) (l : List (ℕ × ℕ)) (t : List ℕ) → Within (v ∷ l) → 2 * suc (length l) ≤ room → Stops 10 t → starts 44 t ≡ false → items_of true true (number 10 top) room (joined pair_text v l ++ t) ≡ got (flat (v ∷ l)) t
  pairs-back zero v l t f h e k = absurd (omega arith)
  pairs-back (suc zero) v l t f h e k = absurd (omega arith)
  pairs-back (suc (suc room)) v [] t f h e k = rw (first_read v [] t f.0, decimal-back top few v.1 t f.1 e, k)
  pairs-back (suc (suc room)) v (x ∷ l) t f h e k =
      let u = joined pair_text x l ++ t in
      rw (first_read v (x ∷ l) t f.0, decimal-back top few v.1 (44 ∷ u) f.1 (stops-comma u), pairs-back room x l t f.2 (omega arith) e k)

  no-dash : (v : ℕ × ℕ) (l : List (ℕ × ℕ)) (t : List ℕ) → v.0 ≤ top → dash (joined pair_text v l ++ t) ≡ false
  no-dash v l t h =
      ap dash (shape v l t)
      ∙ (numbers 10 (omega arith) (omega arith) top).apart (numeral 10 v.0) (58 ∷ second v l t) (numeral-spells 10 (omega arith) (omega arith) top v.0 19 (omega arith) (omega arith) (omega arith) h)

  -- what `reduce` prints of a log, `check` reads
  pub log_back : (room : ℕ) (vs : List (ℕ × ℕ)) (t : List ℕ) → Within vs → 2 * length vs ≤ room → Stops 10 t → starts 44 t ≡ false → log (number 10 top) room (listed pair_text vs ++ t) ≡ got (flat vs) t
  unfolding log
  log_back room [] t f h e k = rw ((numbers 10 (omega arith) (omega arith) top).plain t e)
  log_back room (v ∷ l) t f h e k =
      let c : colon (number 10 top (joined pair_text v l ++ t)) ≡ true = ap colon (first_read v l t f.0) in
      rw (no-dash v l t f.0, c) (pairs-back room v l t f h e k)
