-- The canonical edition: each number is read in one text only, its numeral. Digits that start with no zero are the numeral of the number
-- that they make, since a digit behind a number's numeral makes the numeral of the longer number.
use Rattle.text.proofs.Kit.{◌≡◌, refl, sym, ap, ◌∙◌, Bool, true, false, cond, not, ◌&&◌, List, [], ◌∷◌, ◌++◌, append_assoc, append-nil, ℕ, zero, suc, ◌+◌, ◌*◌, ◌/◌, ◌%◌, ◌^◌, ◌<◌, ◌≤◌, arith, eqb, ltb, leb, eqb-false, ltb-true, ltb-false, lt-ltb, le-ltb, lt-leb, ne_eqb, length, drop, by}
use native.Mathlib.Nat.{pow-suc, pow-zero, mod-eq_of_lt}
use Rattle.text.specs.Readers.{none, got, starts}
use Rattle.text.specs.Numbers.{glyph, digits, size, numeral, digit_of, number, worth, Digits, Stops, no_digit, canonical}
use Rattle.text.proofs.Digits.{glyph-digit}
use Rattle.text.proofs.Items.{stops-plain}
use Rattle.text.proofs.Numbers.{number-back, number-only, numeral-spells, worth-grows}

one-text : (d : ℕ) → d < 10 → numeral 10 d ≡ glyph d ∷ []
unfolding numeral
one-text d h = rw (lt-ltb d 10 h) (ap (λ (n : ℕ). glyph n ∷ []) (mod-eq_of_lt h))

zero-text : numeral 10 0 ≡ 48 ∷ []
unfolding numeral glyph
zero-text = refl

decimal-glyph : (d : ℕ) → d < 10 → glyph d ≡ 48 + d
unfolding glyph
decimal-glyph d h = rw (lt-ltb d 10 h)

-- one division more changes nothing where they are enough
enough : (f v : ℕ) → v < 10 ^ suc f → size 10 (suc f) v ≡ size 10 f v
enough zero v h = rw (lt-ltb v 10 (omega (arith, pow-suc 10 0, pow-zero 10)))
enough (suc f) v h =
    ap (λ (n : ℕ). cond (ltb v 10) 1 (suc n)) (enough f (v / 10) (omega (arith, pow-suc 10 (suc f))))

-- a digit more
longer : (v d : ℕ) → 0 < v → d < 10 → v < 10 ^ 20 → numeral 10 (v * 10 + d) ≡ numeral 10 v ++ (glyph d ∷ [])
unfolding numeral
longer v d p h e =
    let q : (v * 10 + d) / 10 ≡ v = omega arith in
    let m : (v * 10 + d) % 10 ≡ d = omega arith in
    rw (le-ltb (v * 10 + d) 10 (omega arith), q, m, ← enough 19 v e)

grown : (w : List ℕ) (v : ℕ) → 0 < v → Digits 10 w → worth 10 v w < 10 ^ 20 → numeral 10 (worth 10 v w) ≡ numeral 10 v ++ w
grown [] v p d h = sym (append-nil (numeral 10 v))
grown (c ∷ w) v p d h =
    grown w (v * 10 + digit_of c) (omega arith) d.1 h
    ∙ (ap (λ (l : List ℕ). l ++ w) (longer v (digit_of c) p d.0 (omega (arith, worth-grows 10 0 (omega arith) (c ∷ w) v)))
    ∙ (append_assoc (numeral 10 v) (glyph (digit_of c) ∷ []) w ∙ ap (λ (n : ℕ). numeral 10 v ++ (n ∷ w)) (glyph-digit c (omega (arith, d.0)))))

-- a zero comes first, and then a digit
abbrev Led : List ℕ → Bool
Led s = starts 48 s && not (no_digit (drop 1 s))

-- a first digit that is no zero
above_zero : (c : ℕ) → digit_of c < 10 → eqb c 48 ≡ false → 0 < digit_of c
unfolding glyph
above_zero c h e = go (digit_of c) refl
  where
    go : (d : ℕ) → digit_of c ≡ d → 0 < d
    go zero k = absurd (eqb-false c 48 e (sym (glyph-digit c (omega arith)) ∙ ap glyph k))
    go (suc d) k = omega arith

first-digit : (b d : Bool) → d ≡ false → (b && not d) ≡ false → b ≡ false
first-digit false d e k = refl
first-digit true d e k = rw e at k

is-numeral : (w t : List ℕ) → Digits 10 w → 0 < length w → Led (w ++ t) ≡ false → worth 10 0 w < 10 ^ 20 → w ≡ numeral 10 (worth 10 0 w)
is-numeral [] t d h l k = absurd (omega arith)
is-numeral (c ∷ []) t d h l k =
    sym (ap (numeral 10) (omega arith) ∙ (one-text (digit_of c) d.0 ∙ ap (λ (n : ℕ). n ∷ []) (glyph-digit c (omega (arith, d.0)))))
is-numeral (c ∷ e ∷ w) t d h l k =
    let p : 0 < digit_of c = above_zero c d.0 (first-digit (eqb c 48) (leb 10 (digit_of e)) (lt-leb 10 (digit_of e) d.1.0) l) in
    sym
    (grown (e ∷ w) (0 * 10 + digit_of c) (omega arith) d.1 k
    ∙ (ap (λ (n : ℕ). numeral 10 n ++ (e ∷ w)) (omega arith)
    ∙ (ap (λ (l : List ℕ). l ++ (e ∷ w)) (one-text (digit_of c) d.0) ∙ ap (λ (n : ℕ). n ∷ e ∷ w) (glyph-digit c (omega (arith, d.0))))))

module _ (top : ℕ) (limit : top < 10 ^ 20) where
  pub canonical-only : (s : List ℕ) (v : ℕ) (t : List ℕ) → canonical top s ≡ got v t → (s ≡ numeral 10 v ++ t) × (v ≤ top) × Stops 10 t
  unfolding canonical
  canonical-only s v t e = go (Led s) refl e
    where
      go : (b : Bool) → Led s ≡ b → cond b none (number 10 top s) ≡ got v t → (s ≡ numeral 10 v ++ t) × (v ≤ top) × Stops 10 t
      go true l k = let z : ◌≡◌ {A = ℕ} 0 1 = cc in absurd (omega arith)
      go false l k =
          let o = number-only 10 top (omega arith) s v t k in
          let r = o.item in
          let m : worth 10 0 o.text ≡ v = r.makes in
          let n = is-numeral o.text t r.all r.some (rw o.is at l) (omega (arith, r.within)) in
          (o.is ∙ ap (λ (w : List ℕ). w ++ t) (n ∙ ap (numeral 10) m), r.within, o.ends)

  -- a numeral starts with a zero only where it is 0
  record Leads (l : List ℕ) : Type 0 where
    first : ℕ
    others : List ℕ
    is : l ≡ glyph first ∷ others
    some : 0 < first
    digit : first < 10

  leads : (f v : ℕ) → 0 < v → v < 10 ^ suc f → Leads (digits 10 (size 10 f v) v)
  leads zero v p h =
      let e : v % 10 ≡ v = mod-eq_of_lt (omega (arith, pow-suc 10 0, pow-zero 10)) in
      record { first = v; others = []; is = rw e; some = p; digit = omega (arith, pow-suc 10 0, pow-zero 10) }
  leads (suc f) v p h =
      by (λ (n : ℕ). Leads (digits 10 n v)) (ltb v 10)
      (λ e. let k : v < 10 = ltb-true v 10 e in let m : v % 10 ≡ v = mod-eq_of_lt k in record { first = v; others = []; is = rw m; some = p; digit = k })
      (λ e. more (ltb-false v 10 e) (leads f (v / 10)))
    where
      more : 10 ≤ v → (0 < v / 10 → v / 10 < 10 ^ suc f → Leads (digits 10 (size 10 f (v / 10)) (v / 10))) → Leads (digits 10 (suc (size 10 f (v / 10))) v)
      more e r =
          let q = r (omega arith) (omega (arith, pow-suc 10 (suc f))) in
          record { first = q.first; others = q.others ++ (glyph (v % 10) ∷ []); is = rw q.is; some = q.some; digit = q.digit }

  leads-numeral : (v : ℕ) → 0 < v → v ≤ top → Leads (numeral 10 v)
  unfolding numeral
  leads-numeral v p h = leads 20 v p (omega (arith, pow-suc 10 20))

  not-led : (v : ℕ) (t : List ℕ) → v ≤ top → Stops 10 t → Led (numeral 10 v ++ t) ≡ false
  not-led zero t h k = rw (zero-text, stops-plain 10 (omega arith) (omega arith) t k)
  not-led (suc v) t h k =
      let q = leads-numeral (suc v) (omega arith) h in
      rw (q.is, ne_eqb (glyph q.first) 48 (λ e. omega (arith, decimal-glyph q.first q.digit, q.some)))

  pub canonical-back : (v : ℕ) (t : List ℕ) → v ≤ top → Stops 10 t → canonical top (numeral 10 v ++ t) ≡ got v t
  unfolding canonical
  canonical-back v t h k =
      rw (not-led v t h k) (number-back 10 top (omega arith) (numeral 10 v) t (numeral-spells 10 (omega arith) (omega arith) top v 19 (omega arith) (omega arith) (omega arith) h) k)
