-- A text added piece by piece, by any writers: the pieces still to come, over what is there, are the whole text over what was there.
-- A piece that fits goes over to what is there; one that does not shows that the whole does not fit.
use Rattle.text.proofs.Kit.{◌≡◌, sym, ap, ◌∙◌, Option, None, Some, List, [], ◌∷◌, ◌++◌, append_assoc, ℕ, ◌+◌, ◌<◌, ◌≤◌, arith, length, take, drop, set, length-append, length-drop, drop-drop}
use lib.Seq.{length-take-le, take_at, drop_at, take-take}
use Rattle.text.specs.Readers.{over, Laid, Wrote, Short, Added}
use Rattle.text.proofs.Writing.{over_none, over_last}

-- ---- a text over bytes

module _ (w : List ℕ) (at : ℕ) (o : List ℕ) (h : at + length w ≤ length o) where
  front : length (take at o ++ w) ≡ at + length w
  front = length-append (take at o) w ∙ ap (λ (n : ℕ). n + length w) (length-take-le at o (omega arith))

  split : over w at o ≡ (take at o ++ w) ++ drop (at + length w) o
  split = sym (append_assoc (take at o) w (drop (at + length w) o))

  pub length_over : length (over w at o) ≡ length o
  length_over =
      ap length split
      ∙ (length-append (take at o ++ w) (drop (at + length w) o) ∙ rw (front, length-drop (at + length w) o) (omega arith))

  pub take-over : take at (over w at o) ≡ take at o
  take-over = take_at (take at o) (w ++ drop (at + length w) o) at (length-take-le at o (omega arith))

  pub over-append : (t : List ℕ) → over (w ++ t) at o ≡ over t (at + length w) (over w at o)
  over-append t =
      let e : take (at + length w) (over w at o) ≡ take at o ++ w =
      ap (take (at + length w)) split ∙ take_at (take at o ++ w) (drop (at + length w) o) (at + length w) front in
      let d : drop (at + length w) (over w at o) ≡ drop (at + length w) o =
      ap (drop (at + length w)) split ∙ drop_at (take at o ++ w) (drop (at + length w) o) (at + length w) front in
      let n : at + length w + length t ≡ at + length (w ++ t) = omega (arith, length-append w t) in
      let f : drop (at + length w + length t) (over w at o) ≡ drop (at + length (w ++ t)) o =
      sym (drop-drop (length t) (at + length w) (over w at o))
      ∙ (ap (drop (length t)) d ∙ (drop-drop (length t) (at + length w) o ∙ ap (λ (k : ℕ). drop k o) n)) in
      rw (e, f) (ap (λ (l : List ℕ). take at o ++ l) (append_assoc w t (drop (at + length (w ++ t)) o)) ∙ sym (append_assoc (take at o) w (t ++ drop (at + length (w ++ t)) o)))

-- a text that is written or leaves all as it was
pub whole : (w o : List ℕ) (at : ℕ) (p : List ℕ) (r : Option ℕ) → Wrote w o at p r → Added w o at p r
whole w o at p None h = record { lacks = h.0; kept = ap (take at) h.1; same = ap length h.1 }
whole w o at p (Some n) h = h

pub over-one : (c at : ℕ) (o : List ℕ) → at < length o → set o at c ≡ over (c ∷ []) at o
over-one c at o h =
    let e : at + 0 ≡ at = omega arith in
    sym (over_last [] c at o (omega arith) ∙ (over_none at (set o (at + 0) c) ∙ ap (λ (n : ℕ). set o n c) e))

-- ---- two pieces, the second behind the first

module _ (v u : List ℕ) {o p : List ℕ} {at : ℕ} where
  -- where the first does not fit, both do not
  pub cut : Short v o at p → Short (v ++ u) o at p
  cut s = record { lacks = omega (arith, length-append v u, s.lacks); kept = s.kept; same = s.same }

  module _ {n : ℕ} (s : Laid v o at p n) where
    grown : length p ≡ length o
    grown = ap length s.bytes ∙ length_over v at o s.room

    pub both : (q : List ℕ) (r : Option ℕ) → Added u p n q r → Added (v ++ u) o at q r
    both q None h =
        let k : take at p ≡ take at o = ap (take at) s.bytes ∙ take-over v at o s.room in
        record {
          lacks = omega (arith, length-append v u, h.lacks, grown, s.place);
          kept = sym (take-take at n q (omega (arith, s.place))) ∙ (ap (take at) h.kept ∙ (take-take at n p (omega (arith, s.place)) ∙ k));
          same = h.same ∙ grown;
        }
    both q (Some m) h =
        record {
          room = omega (arith, length-append v u, h.room, grown, s.place);
          bytes = h.bytes ∙ (ap (λ (x : ℕ). over u x p) s.place ∙ (ap (over u (at + length v)) s.bytes ∙ sym (over-append v at o s.room u)));
          place = omega (arith, length-append v u, h.place, s.place);
        }

-- a byte and then a text, which have room together
pub with_byte : (c : ℕ) (w o p q : List ℕ) (at : ℕ) {i : ℕ} → at + length (c ∷ w) ≤ length o → Laid (c ∷ []) o at p i → (r : Option ℕ) → Wrote w p i q r → Wrote (c ∷ w) o at q r
with_byte c w o p q at h s None f = absurd (omega (arith, h, f.0, grown (c ∷ []) w s, s.place))
with_byte c w o p q at h s (Some m) f = both (c ∷ []) w s q (Some m) f
