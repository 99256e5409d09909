-- Parts of words and rows of a set: how long one is, where one ends, what stands in it; words are given by their rows. A row is a part of w words, and the
-- first row stands before the others. Assumes nothing.
use mathlib.Core.Path.{◌≡◌, refl, sym, ap, ap₂, ◌∙◌, subst}
use mathlib.Core.Bool.{Bool}
use mathlib.Core.List.{List, [], ◌∷◌, ◌++◌}
use Prim.Native.Nat.{ℕ, zero, suc, ◌+◌, ◌-◌, ◌*◌, ◌/◌, ◌%◌, ◌≤◌, ◌<◌}
use native.Mathlib.Nat.{suc-mul, mul-le-mul_right, mul-zero, div-lt_iff_lt-mul, mod-lt, div-add-mod', zero-lt-suc, add-sub_cancel_left, not-suc-le-zero, le_of_suc-le-suc}
use native.Mathlib.Omega.{arith}
use lib.ListN.{length, get_or, take, drop, length-take, length-drop, length-append}
use lib.Pow.{pow_pos}
use lib.Seq.{ext_get_or, get_or-take, get_or-drop, take_at, drop-append-add}
use Rattle.encoding.specs.Words.{pack, lay_rows}
use Rattle.encoding.specs.Set.{part, row, list}
use Rattle.encoding.proofs.WordLaws.{Fit}
use Rattle.encoding.proofs.Reading.{length-pack}

pub row-end : (r w : ℕ) {m : ℕ} → r < m → r * w + w ≤ m * w
row-end r w h = omega (arith, suc-mul r w, mul-le-mul_right w h)

pub length_part : (a e : ℕ) (xs : List ℕ) → a ≤ e → e ≤ length xs → length (part a e xs) ≡ e - a
length_part a e xs h k = simp (length-take, length-drop) (omega arith)

pub row-long : (m w r : ℕ) (xs : List ℕ) → r < m → length xs ≡ m * w → length (row w r xs) ≡ w
row-long m w r xs h e = length_part (r * w) (r * w + w) xs (omega arith) (omega (arith, row-end r w h)) ∙ add-sub_cancel_left (r * w) w

-- an element of a part
pub get_d_part : (a w : ℕ) (xs : List ℕ) (i : ℕ) → i < w → get_or (part a (a + w) xs) i 0 ≡ get_or xs (a + i) 0
get_d_part a w xs i h = get_or-take (a + w - a) (drop a xs) i 0 (omega arith) ∙ get_or-drop a xs i 0

pub fit-take : (n : ℕ) (l : List ℕ) → Fit l → Fit (take n l)
fit-take zero l f k = record { fits = pow_pos 64 }
fit-take (suc n) [] f k = f k
fit-take (suc n) (x ∷ l) f zero = f 0
fit-take (suc n) (x ∷ l) f (suc k) = fit-take n l (λ j. f (suc j)) k

pub fit-part : (a e : ℕ) (l : List ℕ) → Fit l → Fit (part a e l)
fit-part a e l f = fit-take (e - a) (drop a l) (λ k. rw (get_or-drop a l k 0) (f (a + k)))

-- words are given by their rows
pub rows_ext : (m w : ℕ) (xs ys : List ℕ) → length xs ≡ m * w → length ys ≡ m * w → ((r : ℕ) → r < m → row w r xs ≡ row w r ys) → xs ≡ ys
rows_ext m zero xs ys hx hy h = ext_get_or 0 xs ys (hx ∙ sym hy) (λ i hi. absurd (omega (arith, mul-zero m)))
rows_ext m (suc v) xs ys hx hy h =
    ext_get_or 0 xs ys (hx ∙ sym hy)
    (λ i hi.
    let w = suc v in
    let r : ℕ = i / w in
    let hr : r < m = (div-lt_iff_lt-mul (zero-lt-suc v)).1 (omega arith) in
    let hj : i % w < w = mod-lt i (zero-lt-suc v) in
    let at : (l : List ℕ) → get_or (row w r l) (i % w) 0 ≡ get_or l i 0 = λ l. get_d_part (r * w) w l (i % w) hj ∙ ap (λ (k : ℕ). get_or l k 0) (div-add-mod' i w) in
    sym (at xs) ∙ ap (λ (l : List ℕ). get_or l (i % w) 0) (h r hr) ∙ at ys)

-- ---- a list by its elements

module _ {A : Type 0} where
  pub length-list : (m : ℕ) (f : ℕ → A) → length (list m f) ≡ m
  unfolding list
  length-list zero f = refl
  length-list (suc m) f = ap suc (length-list m (λ k. f (suc k)))

  pub get_or-list : (m : ℕ) (f : ℕ → A) (k : ℕ) (d : A) → k < m → get_or (list m f) k d ≡ f k
  unfolding list
  get_or-list zero f k d h = absurd (not-suc-le-zero h)
  get_or-list (suc m) f zero d h = refl
  get_or-list (suc m) f (suc k) d h = get_or-list m (λ j. f (suc j)) k d (le_of_suc-le-suc h)

-- ---- rows laid one after the other

module _ {A : Type 0} (f : A → Bool) (w : ℕ) where
  pub length-lay : (rs : List (List A)) → length (lay_rows f w rs) ≡ length rs * w
  unfolding lay_rows
  length-lay [] = omega arith
  length-lay (ps ∷ rs) = omega (arith, length-append (pack f w ps) (lay_rows f w rs), length-pack f w ps, length-lay rs, suc-mul (length rs) w)

  pub row-lay : (rs : List (List A)) (r : ℕ) → r < length rs → row w r (lay_rows f w rs) ≡ pack f w (get_or rs r [])
  unfolding lay_rows
  row-lay [] r h = absurd (not-suc-le-zero h)
  row-lay (ps ∷ rs) zero h =
      let e : 0 * w + w - 0 * w ≡ w = omega arith in
      let z : 0 * w ≡ 0 = omega arith in
      ap₂ (λ (n k : ℕ). take n (drop k (pack f w ps ++ lay_rows f w rs))) e z ∙ take_at (pack f w ps) (lay_rows f w rs) w (length-pack f w ps)
  row-lay (ps ∷ rs) (suc r) h =
      let e : suc r * w + w - suc r * w ≡ r * w + w - r * w = add-sub_cancel_left (suc r * w) w ∙ sym (add-sub_cancel_left (r * w) w) in
      let z : suc r * w ≡ length (pack f w ps) + r * w = omega (arith, suc-mul r w, length-pack f w ps) in
      ap₂ (λ (n k : ℕ). take n (drop k (pack f w ps ++ lay_rows f w rs))) e z
      ∙ ap (take (r * w + w - r * w)) (drop-append-add (pack f w ps) (lay_rows f w rs) (r * w))
      ∙ row-lay rs r (le_of_suc-le-suc h)

  -- the rows of a list by its elements
  pub row-lay-list : (m : ℕ) (σ : ℕ → List A) (r : ℕ) → r < m → row w r (lay_rows f w (list m σ)) ≡ pack f w (σ r)
  row-lay-list m σ r h = row-lay (list m σ) r (subst (λ (k : ℕ). r < k) (sym (length-list m σ)) h) ∙ ap (pack f w) (get_or-list m σ r [] h)

  pub length-lay-list : (m : ℕ) (σ : ℕ → List A) → length (lay_rows f w (list m σ)) ≡ m * w
  length-lay-list m σ = length-lay (list m σ) ∙ ap (λ (k : ℕ). k * w) (length-list m σ)
