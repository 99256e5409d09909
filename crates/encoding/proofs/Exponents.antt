-- How exponents lie: what is laid is read back, and one that is written leaves the others and the spare bits. A word below 2^64 is given by its 32 exponents
-- (`same_word`), so that a run of words is. Beside the two leaves that read and write one, and the test of line 5, only this file knows it. Assumes nothing.
use mathlib.Core.Path.{◌≡◌, refl, sym, ap, ap₂, ◌∙◌, subst}
use mathlib.Core.Bool.{Bool, false, cond, not}
use mathlib.Core.List.{List}
use Prim.Native.Nat.{ℕ, zero, suc, ◌+◌, ◌-◌, ◌*◌, ◌/◌, ◌%◌, ◌^◌, ◌≤◌, ◌<◌, suc-le-suc}
use native.Mathlib.Nat.{div-one, zero-div, not-suc-le-zero, le_of_suc-le-suc, mod-lt, div-add-mod', zero-lt-suc, lt_of_le_of_lt}
use native.Mathlib.Decide.{dec_lt, ℕ_discrete}
use native.Mathlib.Omega.{arith}
use borrow.Author.Tests.{lt-ltb, le-ltb, eqb-true, eq-eqb, ne_eqb, not-false}
use lib.Dec.{eqb}
use lib.Arith.{lt-one, digits_lt}
use lib.Pow.{pow_pos, pow-add, shr-shr, shr_lt, shr_le, shl_exact, high, low, field, mod-mod-pow}
use lib.ListN.{length, get_or, set, length-set, get_or-eq_default}
use lib.Seq.{ext_get_or, get_or-set_same, get_or-set_other, set_out}
use mir.Val.{Fits}
use mir.Syntax.{w64}
use Rattle.encoding.specs.Set.{list, phase_units, exponent_in, with_in, word_in, exponent_at, in_rows, lay_exponents, with_exponent}
use Rattle.encoding.specs.Refusals.{bad_phases}
use Rattle.encoding.proofs.WordLaws.{Fit}
use Rattle.encoding.proofs.OneBit.{mask_is}
use Rattle.encoding.proofs.Parts.{length-list, get_or-list}

-- ---- the exponents of a word

pub in_small : (v k : ℕ) → exponent_in v k < 4
in_small v k = omega arith

in-first : (v : ℕ) → exponent_in v 0 ≡ v % 4
in-first v = ap (λ (x : ℕ). x % 4) (div-one v)

in-next : (v k : ℕ) → exponent_in v (suc k) ≡ exponent_in (v / 4) k
in-next v k = let e : 2 * suc k ≡ 2 + 2 * k = omega arith in ap (λ (x : ℕ). v / 2 ^ x % 4) e ∙ ap (λ (x : ℕ). x % 4) (sym (shr-shr v 2 (2 * k)))

pub in-none : (k : ℕ) → exponent_in 0 k ≡ 0
in-none k = ap (λ (x : ℕ). x % 4) (zero-div (2 ^ (2 * k)))

quarter : (d : ℕ) {v : ℕ} → v < 2 ^ (2 * suc d) → v / 4 < 2 ^ (2 * d)
quarter d {v} h = let e : 2 * suc d ≡ 2 * d + 2 = omega arith in shr_lt (2 * d) 2 (subst (λ (x : ℕ). v < 2 ^ x) e h)

-- a word is given by them
pub same_word : (d : ℕ) {x y : ℕ} → x < 2 ^ (2 * d) → y < 2 ^ (2 * d) → ((k : ℕ) → k < d → exponent_in x k ≡ exponent_in y k) → x ≡ y
same_word zero hx hy h = lt-one hx ∙ sym (lt-one hy)
same_word (suc d) {x} {y} hx hy h =
    let a : x / 4 ≡ y / 4 = same_word d (quarter d hx) (quarter d hy) (λ k l. sym (in-next x k) ∙ h (suc k) (suc-le-suc l) ∙ in-next y k) in
    let b : x % 4 ≡ y % 4 = sym (in-first x) ∙ h 0 (zero-lt-suc d) ∙ in-first y in
    omega arith

-- ---- a word of d of them

pub word_small : (d : ℕ) (f : ℕ → ℕ) → word_in d f < 2 ^ (2 * d)
unfolding word_in
word_small zero f = zero-lt-suc 0
word_small (suc d) f =
    let e : 2 * suc d ≡ 2 * d + 2 = omega arith in
    let l = word_small d (λ k. f (suc k)) in
    subst (λ (x : ℕ). word_in d (λ k. f (suc k)) * 4 + f 0 % 4 < x) (sym (pow-add 2 (2 * d) 2) ∙ ap (λ (x : ℕ). 2 ^ x) (sym e)) (omega arith)

pub word-at : (d : ℕ) (f : ℕ → ℕ) (k : ℕ) → k < d → exponent_in (word_in d f) k ≡ f k % 4
unfolding word_in
word-at zero f k h = absurd (not-suc-le-zero h)
word-at (suc d) f zero h = in-first (word_in (suc d) f) ∙ omega arith
word-at (suc d) f (suc k) h =
    let e : word_in (suc d) f / 4 ≡ word_in d (λ k. f (suc k)) = omega arith in
    in-next (word_in (suc d) f) k ∙ ap (λ (v : ℕ). exponent_in v k) e ∙ word-at d (λ k. f (suc k)) k (le_of_suc-le-suc h)

-- ---- one of a word is made e

abbrev with_at : ℕ → ℕ → ℕ → ℕ → ℕ
with_at v k e j = cond (eqb j k) e (exponent_in v j)

module _ (v k e : ℕ) where
  pub in-same : k < 32 → exponent_in (with_in v k e) k ≡ e % 4
  unfolding with_in
  in-same h = word-at 32 (with_at v k e) k h ∙ ap (λ (b : Bool). cond b e (exponent_in v k) % 4) (eq-eqb k k refl)

  pub in-other : (j : ℕ) → j < 32 → (j ≡ k → ⊥) → exponent_in (with_in v k e) j ≡ exponent_in v j
  unfolding with_in
  in-other j h ne =
      let s = in_small v j in
      word-at 32 (with_at v k e) j h ∙ ap (λ (b : Bool). cond b e (exponent_in v j) % 4) (ne_eqb j k ne) ∙ omega arith

  pub with-fits : with_in v k e < 2 ^ 64
  unfolding with_in
  with-fits = word_small 32 (with_at v k e)

-- one below place k is given by the rest at k, one above it by what lies above
below : (x y k j : ℕ) → j < k → x % 2 ^ (2 * k) ≡ y % 2 ^ (2 * k) → exponent_in x j ≡ exponent_in y j
below x y k j l e = at x ∙ ap (λ (z : ℕ). z % 2 ^ (2 + 2 * j) / 2 ^ (2 * j)) e ∙ sym (at y)
  where
    i : ℕ
    i = 2 * k - (2 + 2 * j)

    s : i + (2 + 2 * j) ≡ 2 * k
    s = omega arith

    at : (x : ℕ) → exponent_in x j ≡ x % 2 ^ (2 * k) % 2 ^ (2 + 2 * j) / 2 ^ (2 * j)
    at x = sym (field x 2 (2 * j)) ∙ ap (λ (z : ℕ). z / 2 ^ (2 * j)) (sym (mod-mod-pow x i (2 + 2 * j)) ∙ ap (λ (z : ℕ). x % 2 ^ z % 2 ^ (2 + 2 * j)) s)

beyond : (x y k j : ℕ) → k < j → x / 2 ^ (2 * k) / 4 ≡ y / 2 ^ (2 * k) / 4 → exponent_in x j ≡ exponent_in y j
beyond x y k j l e = at x ∙ ap (λ (z : ℕ). z / 2 ^ i % 4) e ∙ sym (at y)
  where
    i : ℕ
    i = 2 * j - (2 * k + 2)

    s : (2 * k + 2) + i ≡ 2 * j
    s = omega arith

    at : (x : ℕ) → exponent_in x j ≡ x / 2 ^ (2 * k) / 4 / 2 ^ i % 4
    at x = ap (λ (z : ℕ). x / 2 ^ z % 4) (sym s) ∙ ap (λ (z : ℕ). z % 4) (sym (shr-shr x (2 * k + 2) i) ∙ ap (λ (z : ℕ). z / 2 ^ i) (sym (shr-shr x (2 * k) 2)))

-- as the code does it: what lies above it, e mod 4, what lies below it, with shifts of which none loses a bit
module _ (v k e : ℕ) (h : k < 32) (l : v < 2 ^ 64) where
  abbrev i : ℕ
  i = 62 - 2 * k

  abbrev up : ℕ
  up = v / 2 ^ (2 * k) / 4 * 4 + e % 4

  abbrev made : ℕ
  made = up * 2 ^ (2 * k) + v % 2 ^ (2 * k)

  s : (i + 2) + 2 * k ≡ 64
  s = omega arith

  rest_lt : v % 2 ^ (2 * k) < 2 ^ (2 * k)
  rest_lt = mod-lt v (pow_pos (2 * k))

  above-small : up < 2 ^ (i + 2)
  above-small =
      let a : v / 2 ^ (2 * k) < 2 ^ (i + 2) = shr_lt (i + 2) (2 * k) (subst (λ (x : ℕ). v < 2 ^ x) (sym s) l) in
      let b : v / 2 ^ (2 * k) < 2 ^ i * 4 = subst (λ (x : ℕ). v / 2 ^ (2 * k) < x) (pow-add 2 i 2) a in
      subst (λ (x : ℕ). up < x) (sym (pow-add 2 i 2)) (omega arith)

  made-small : made < 2 ^ 64
  made-small = subst (λ (x : ℕ). made < x) (sym (pow-add 2 (i + 2) (2 * k)) ∙ ap (λ (x : ℕ). 2 ^ x) s) (digits_lt above-small rest_lt)

  made_at : (j : ℕ) → j < 32 → exponent_in made j ≡ exponent_in (with_in v k e) j
  made_at j g = go (ℕ_discrete j k)
    where
      go : Dec (j ≡ k) → exponent_in made j ≡ exponent_in (with_in v k e) j
      go (yes q) = ap (exponent_in made) q ∙ ap (λ (x : ℕ). x % 4) (high up (2 * k) rest_lt) ∙ omega arith ∙ sym (ap (exponent_in (with_in v k e)) q ∙ in-same v k e h)
      go (no ne) = at (dec_lt j k) ∙ sym (in-other v k e j g ne)
        where
          at : Dec (j < k) → exponent_in made j ≡ exponent_in v j
          at (yes q) = below made v k j q (low up (2 * k) rest_lt)
          at (no q) = beyond made v k j (omega arith) (ap (λ (z : ℕ). z / 4) (high up (2 * k) rest_lt) ∙ omega arith)

  pub code-with : (up * 2 ^ (2 * k)) % 18446744073709551616 + v % ((1 * 2 ^ (2 * k)) % 18446744073709551616) ≡ with_in v k e
  code-with =
      ap₂ (λ (x y : ℕ). x + v % y) (shl_exact (i + 2) (2 * k) 64 above-small (omega arith)) (mask_is (2 * k) (omega arith))
      ∙ same_word 32 {x = made} {y = with_in v k e} made-small (with-fits v k e) made_at

-- ---- where that of row r lies

module _ (j k : ℕ) (h : k < 32) where
  place-word : (j * 32 + k) / 32 ≡ j
  place-word = omega arith

  place_in : (j * 32 + k) % 32 ≡ k
  place_in = omega arith

  pub exponent-in : (es : List ℕ) → exponent_at es (j * 32 + k) ≡ exponent_in (get_or es j 0) k
  unfolding exponent_at
  exponent-in es = ap₂ (λ (i l : ℕ). exponent_in (get_or es i 0) l) place-word place_in

pub exponent_small : (es : List ℕ) (r : ℕ) → exponent_at es r < 4
unfolding exponent_at
exponent_small es r = in_small (get_or es (r / 32) 0) (r % 32)

pub exponent-out : (es : List ℕ) (r : ℕ) → length es ≤ r / 32 → exponent_at es r ≡ 0
unfolding exponent_at
exponent-out es r h = ap (λ (v : ℕ). exponent_in v (r % 32)) (get_or-eq_default es 0 h) ∙ in-none (r % 32)

-- ---- laid, and read

module _ (m : ℕ) (f : ℕ → ℕ) where
  pub units-laid : length (lay_exponents m f) ≡ phase_units m
  unfolding lay_exponents
  units-laid = length-list (phase_units m) (λ j. word_in 32 (λ k. in_rows m f (j * 32 + k)))

  pub up_in : (r : ℕ) → r < m → in_rows m f r ≡ f r
  up_in r h = ap (λ (b : Bool). cond b (f r) 0) (lt-ltb r m h)

  pub up-out : (r : ℕ) → m ≤ r → in_rows m f r ≡ 0
  up-out r h = ap (λ (b : Bool). cond b (f r) 0) (le-ltb _ _ h)

  word-laid : (j : ℕ) → j < phase_units m → get_or (lay_exponents m f) j 0 ≡ word_in 32 (λ k. in_rows m f (j * 32 + k))
  unfolding lay_exponents
  word-laid j h = get_or-list (phase_units m) (λ j. word_in 32 (λ k. in_rows m f (j * 32 + k))) j 0 h

  laid-at : (r : ℕ) → r / 32 < phase_units m → exponent_at (lay_exponents m f) r ≡ in_rows m f r % 4
  unfolding exponent_at
  laid-at r h =
      ap (λ (v : ℕ). exponent_in v (r % 32)) (word-laid (r / 32) h)
      ∙ word-at 32 (λ k. in_rows m f (r / 32 * 32 + k)) (r % 32) (omega arith)
      ∙ ap (λ (k : ℕ). in_rows m f k % 4) (div-add-mod' r 32)

  pub exponent-laid : (k : ℕ) → k < m → f k < 4 → exponent_at (lay_exponents m f) k ≡ f k
  exponent-laid k h l = laid-at k (omega arith) ∙ ap (λ (v : ℕ). v % 4) (up_in k h) ∙ omega arith

  pub exponent-past : (k : ℕ) → m ≤ k → exponent_at (lay_exponents m f) k ≡ 0
  exponent-past k h = go (dec_lt (k / 32) (phase_units m))
    where
      go : Dec (k / 32 < phase_units m) → exponent_at (lay_exponents m f) k ≡ 0
      go (yes l) = laid-at k l ∙ ap (λ (v : ℕ). v % 4) (up-out k h)
      go (no l) = exponent-out (lay_exponents m f) k (omega (arith, units-laid))

  -- words whose exponents are those of m rows, and 0 past them, are what is laid: word by word
  pub laid-words : {es : List ℕ} → length es ≡ phase_units m → Fit es
      → ((j : ℕ) → j < phase_units m → (k : ℕ) → k < 32 → exponent_in (get_or es j 0) k ≡ in_rows m f (j * 32 + k) % 4) → es ≡ lay_exponents m f
  laid-words {es} l t e =
      ext_get_or 0 es (lay_exponents m f) (l ∙ sym units-laid)
      (λ j h. let i : j < phase_units m = subst (λ (i : ℕ). j < i) l h in
      same_word 32 {x = get_or es j 0} {y = word_in 32 (λ k. in_rows m f (j * 32 + k))} (t j).fits (word_small 32 (λ k. in_rows m f (j * 32 + k)))
      (λ k q. e j i k q ∙ sym (word-at 32 (λ k. in_rows m f (j * 32 + k)) k q)) ∙ sym (word-laid j i))

  -- the same row by row
  pub laid_from : {es : List ℕ} → length es ≡ phase_units m → Fit es → ((k : ℕ) → k < m → exponent_at es k ≡ f k) → ((k : ℕ) → m ≤ k → exponent_at es k ≡ 0)
      → es ≡ lay_exponents m f
  laid_from {es} l t e z = laid-words l t (λ j h k i. sym (exponent-in j k i es) ∙ at (j * 32 + k) (dec_lt (j * 32 + k) m))
    where
      at : (r : ℕ) → Dec (r < m) → exponent_at es r ≡ in_rows m f r % 4
      at r (yes h) = let s = exponent_small es r in e r h ∙ sym (ap (λ (v : ℕ). v % 4) (up_in r h) ∙ (let q = e r h in omega arith))
      at r (no h) = z r (omega arith) ∙ sym (ap (λ (v : ℕ). v % 4) (up-out r (omega arith)))

-- what is laid is given by the exponents of m rows
pub lay-alike : (m : ℕ) (f g : ℕ → ℕ) → ((k : ℕ) → k < m → f k ≡ g k) → lay_exponents m f ≡ lay_exponents m g
unfolding lay_exponents
lay-alike m f g h = λ i. list (phase_units m) (λ j. word_in 32 (λ k. at (j * 32 + k) (dec_lt (j * 32 + k) m) i))
  where
    at : (r : ℕ) → Dec (r < m) → in_rows m f r ≡ in_rows m g r
    at r (yes l) = up_in m f r l ∙ h r l ∙ sym (up_in m g r l)
    at r (no l) = let i : m ≤ r = omega arith in up-out m f r i ∙ sym (up-out m g r i)

abbrev pub Laid : ℕ → List ℕ → Type 0
Laid m es = es ≡ lay_exponents m (exponent_at es)

pub laid-long : (m : ℕ) {es : List ℕ} → Laid m es → length es ≡ phase_units m
laid-long m {es} e = ap length e ∙ units-laid m (exponent_at es)

pub laid-past : (m : ℕ) {es : List ℕ} → Laid m es → (k : ℕ) → m ≤ k → exponent_at es k ≡ 0
laid-past m {es} e k h = ap (λ (ds : List ℕ). exponent_at ds k) e ∙ exponent-past m (exponent_at es) k h

module _ (m : ℕ) (f : ℕ → ℕ) where
  pub fit-laid : Fit (lay_exponents m f)
  fit-laid j = go (dec_lt j (phase_units m))
    where
      go : Dec (j < phase_units m) → Fits w64 (get_or (lay_exponents m f) j 0)
      go (yes h) = record { fits = subst (λ (v : ℕ). v < 2 ^ 64) (sym (word-laid m f j h)) (word_small 32 (λ k. in_rows m f (j * 32 + k))) }
      go (no h) = record { fits = subst (λ (v : ℕ). v < 2 ^ 64) (sym (get_or-eq_default (lay_exponents m f) 0 (omega (arith, units-laid m f)))) (pow_pos 64) }

  pub laid-again : Laid m (lay_exponents m f)
  laid-again = laid_from m (exponent_at (lay_exponents m f)) (units-laid m f) fit-laid (λ k h. refl) (exponent-past m f)

pub laid-fit : (m : ℕ) {es : List ℕ} → Laid m es → Fit es
laid-fit m {es} e = subst Fit (sym e) (fit-laid m (exponent_at es))

pub laid_as : (m : ℕ) {es : List ℕ} → Laid m es → (f : ℕ → ℕ) → ((k : ℕ) → k < m → exponent_at es k ≡ f k) → es ≡ lay_exponents m f
laid_as m u f e = laid_from m f (laid-long m u) (laid-fit m u) e (laid-past m u)

-- two that are read alike are the same, spare bits included
pub exponents-same : (m : ℕ) {es ds : List ℕ} → Laid m es → Laid m ds → ((k : ℕ) → k < m → exponent_at es k ≡ exponent_at ds k) → es ≡ ds
exponents-same m {es} {ds} u v e = laid_as m u (exponent_at ds) e ∙ sym v

-- ---- one is written

module _ (es : List ℕ) (r v : ℕ) where
  pub units-with : length (with_exponent es r v) ≡ length es
  unfolding with_exponent
  units-with = length-set es (r / 32) (with_in (get_or es (r / 32) 0) (r % 32) v)

  pub exponent_same : {m : ℕ} → length es ≡ phase_units m → r < m → v < 4 → exponent_at (with_exponent es r v) r ≡ v
  unfolding exponent_at with_exponent
  exponent_same l h s =
      ap (λ (x : ℕ). exponent_in x (r % 32)) (get_or-set_same es (r / 32) (with_in (get_or es (r / 32) 0) (r % 32) v) 0 (omega arith))
      ∙ in-same (get_or es (r / 32) 0) (r % 32) v (omega arith) ∙ omega arith

  pub exponent-other : (k : ℕ) → (k ≡ r → ⊥) → exponent_at (with_exponent es r v) k ≡ exponent_at es k
  unfolding exponent_at with_exponent
  exponent-other k ne = go (ℕ_discrete (k / 32) (r / 32)) (dec_lt (r / 32) (length es))
    where
      u : ℕ
      u = with_in (get_or es (r / 32) 0) (r % 32) v

      go : Dec (k / 32 ≡ r / 32) → Dec (r / 32 < length es) → exponent_in (get_or (set es (r / 32) u) (k / 32) 0) (k % 32) ≡ exponent_in (get_or es (k / 32) 0) (k % 32)
      go (no n) d = ap (λ (x : ℕ). exponent_in x (k % 32)) (get_or-set_other es (r / 32) (k / 32) u 0 n)
      go (yes e) (yes h) =
          ap (λ (j : ℕ). exponent_in (get_or (set es (r / 32) u) j 0) (k % 32)) e
          ∙ ap (λ (x : ℕ). exponent_in x (k % 32)) (get_or-set_same es (r / 32) u 0 h)
          ∙ in-other (get_or es (r / 32) 0) (r % 32) v (k % 32) (omega arith) (λ q. ne (omega arith))
          ∙ ap (λ (j : ℕ). exponent_in (get_or es j 0) (k % 32)) (sym e)
      go (yes e) (no h) = ap (λ (xs : List ℕ). exponent_in (get_or xs (k / 32) 0) (k % 32)) (set_out es (r / 32) u (omega arith))

  fit-with : Fit es → Fit (with_exponent es r v)
  unfolding with_exponent
  fit-with t j = go (ℕ_discrete j (r / 32)) (dec_lt (r / 32) (length es))
    where
      u : ℕ
      u = with_in (get_or es (r / 32) 0) (r % 32) v

      go : Dec (j ≡ r / 32) → Dec (r / 32 < length es) → Fits w64 (get_or (set es (r / 32) u) j 0)
      go (no n) d = subst (Fits w64) (sym (get_or-set_other es (r / 32) j u 0 n)) (t j)
      go (yes e) (yes h) =
          subst (Fits w64) (sym (ap (λ (j : ℕ). get_or (set es (r / 32) u) j 0) e ∙ get_or-set_same es (r / 32) u 0 h))
          (record { fits = with-fits (get_or es (r / 32) 0) (r % 32) v })
      go (yes e) (no h) = subst (λ (xs : List ℕ). Fits w64 (get_or xs j 0)) (sym (set_out es (r / 32) u (omega arith))) (t j)

  -- no other row changes and no spare bit
  pub laid-with : (m : ℕ) → r < m → Laid m es → Laid m (with_exponent es r v)
  laid-with m h u =
      laid_from m (exponent_at (with_exponent es r v)) (units-with ∙ laid-long m u) (fit-with (laid-fit m u)) (λ k l. refl)
      (λ k l. exponent-other k (λ e. omega arith) ∙ laid-past m u k l)

-- ---- the test of line 5

-- all of a word's from place k on are 0 exactly when nothing lies there
high-none : (d v k : ℕ) → v < 2 ^ (2 * d) → ((j : ℕ) → k ≤ j → exponent_in v j ≡ 0) → v / 2 ^ (2 * k) ≡ 0
high-none d v k h z =
    same_word d {x = v / 2 ^ (2 * k)} {y = 0} (lt_of_le_of_lt (shr_le v (2 * k)) h) (pow_pos (2 * d))
    (λ j l. up j ∙ z (k + j) (omega arith) ∙ sym (in-none j))
  where
    up : (j : ℕ) → exponent_in (v / 2 ^ (2 * k)) j ≡ exponent_in v (k + j)
    up j = let e : 2 * k + 2 * j ≡ 2 * (k + j) = omega arith in ap (λ (x : ℕ). x % 4) (shr-shr v (2 * k) (2 * j) ∙ ap (λ (x : ℕ). v / 2 ^ x) e)

none-high : (v k j : ℕ) → k ≤ j → v / 2 ^ (2 * k) ≡ 0 → exponent_in v j ≡ 0
none-high v k j l z =
    let i = 2 * j - 2 * k in
    let e : 2 * j ≡ 2 * k + i = omega arith in
    ap (λ (x : ℕ). v / 2 ^ x % 4) e ∙ ap (λ (x : ℕ). x % 4) (sym (shr-shr v (2 * k) i) ∙ ap (λ (x : ℕ). x / 2 ^ i) z ∙ zero-div (2 ^ i))

pub spare-none : {m : ℕ} (es : List ℕ) → length es ≡ phase_units m → bad_phases m es ≡ false → (r : ℕ) → m ≤ r → exponent_at es r ≡ 0
unfolding bad_phases exponent_at
spare-none {m} es l e r h = go (ℕ_discrete (r / 32) (m / 32))
  where
    z : get_or es (m / 32) 0 / 2 ^ (2 * (m % 32)) ≡ 0
    z = eqb-true _ 0 (not-false _ e)

    go : Dec (r / 32 ≡ m / 32) → exponent_in (get_or es (r / 32) 0) (r % 32) ≡ 0
    go (yes q) = ap (λ (j : ℕ). exponent_in (get_or es j 0) (r % 32)) q ∙ none-high (get_or es (m / 32) 0) (m % 32) (r % 32) (omega arith) z
    go (no q) = ap (λ (v : ℕ). exponent_in v (r % 32)) (get_or-eq_default es 0 (omega arith)) ∙ in-none (r % 32)

pub spare-out : (m : ℕ) (es : List ℕ) → length es ≤ m / 32 → bad_phases m es ≡ false
unfolding bad_phases
spare-out m es h = ap not (eq-eqb _ 0 (ap (λ (v : ℕ). v / 2 ^ (2 * (m % 32))) (get_or-eq_default es 0 h) ∙ zero-div (2 ^ (2 * (m % 32)))))

pub spare-passes : (m : ℕ) {es : List ℕ} → Laid m es → bad_phases m es ≡ false
unfolding bad_phases
spare-passes m {es} u = ap not (eq-eqb _ 0 (high-none 32 v (m % 32) (laid-fit m u (m / 32)).fits none))
  where
    v : ℕ
    v = get_or es (m / 32) 0

    none : (j : ℕ) → m % 32 ≤ j → exponent_in v j ≡ 0
    none j h = go (dec_lt j 32)
      where
        go : Dec (j < 32) → exponent_in v j ≡ 0
        go (yes l) = sym (exponent-in (m / 32) j l es) ∙ laid-past m u (m / 32 * 32 + j) (omega arith)
        go (no l) = none-high v 32 j (omega arith) (lt-one (shr_lt 0 64 (laid-fit m u (m / 32)).fits))
