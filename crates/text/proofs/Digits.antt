-- A digit and its byte: each gives the other back. By cases on the tests of the definitions; the rest is arithmetic.
-- Assumes nothing.
use Rattle.text.proofs.Kit.{◌≡◌, ℕ, ◌+◌, ◌-◌, ◌<◌, ◌≤◌, arith, ltb, leb, ltb-true, ltb-false, leb-true, lt-ltb, le-ltb, le-leb, lt-leb, by}
use Rattle.text.specs.Numbers.{glyph, digit_of}

pub digit_glyph : (d : ℕ) → d < 16 → digit_of (glyph d) ≡ d
unfolding digit_of glyph
digit_glyph d h = by (λ (c : ℕ). digit_of c ≡ d) (ltb d 10) (λ e. low (ltb-true d 10 e)) (λ e. high (ltb-false d 10 e))
  where
    low : d < 10 → digit_of (48 + d) ≡ d
    low k = rw (le-ltb (48 + d) 48 (omega arith), le-leb (48 + d) 57 (omega arith)) (omega arith)

    high : 10 ≤ d → digit_of (87 + d) ≡ d
    high k =
        rw (
          le-ltb (87 + d) 48 (omega arith),
          lt-leb (87 + d) 57 (omega arith),
          le-ltb (87 + d) 97 (omega arith),
          le-leb (87 + d) 102 (omega arith),
        )
        (omega arith)

pub glyph-digit : (c : ℕ) → digit_of c < 16 → glyph (digit_of c) ≡ c
unfolding digit_of glyph
glyph-digit c =
    by P (ltb c 48) (λ e h. absurd (omega arith))
    (λ e. by P (leb c 57) (λ f h. low (ltb-false c 48 e) (leb-true c 57 f))
    (λ f. by P (ltb c 97) (λ g h. absurd (omega arith))
    (λ g. by P (leb c 102) (λ i h. high (ltb-false c 97 g) (leb-true c 102 i)) (λ i h. absurd (omega arith)))))
  where
    P : ℕ → Type 0
    P d = d < 16 → glyph d ≡ c

    low : 48 ≤ c → c ≤ 57 → glyph (c - 48) ≡ c
    low h k = rw (lt-ltb (c - 48) 10 (omega arith)) (omega arith)

    high : 97 ≤ c → c ≤ 102 → glyph (c - 87) ≡ c
    high h k = rw (le-ltb (c - 87) 10 (omega arith)) (omega arith)
