-- Small coefficients: no number on the way leaves i64. Invariant: the sum so far is at most the sizes of the bras so far times all kets' times the terms', and
-- one pair more is at most its own share of that; an element is at most the terms' size, whatever the block. Assumes nothing.
use Rattle.std.proofs.Common.{◌≡◌, ℕ, zero, suc, ◌+◌, ◌-◌, ◌*◌, ◌^◌, ◌<◌, ◌≤◌, Bool, true, false, ◌&&◌, List, length, get_or, ℤ, pos, nat_abs, refl, ap, ◌∙◌, ap₂, le_trans, le_refl, lt_of_le_of_lt, add-mul, mul-le-mul, suc-add, zero-add, mul-add, arith}
use Rattle.pauli.specs.Gauss.{Gauss, ◌⊕◌}
use Rattle.checked.specs.Range.{gauss, pair_of, size_of}
use Rattle.checked.proofs.Never.{both_small, sum-size, pair_size, pair_small}
use Rattle.mat_elem.specs.Sums.{exponent_of, step_if, sum_over}
use Rattle.mat_elem.specs.Operator.{coefficient}
use Rattle.mat_elem.specs.whole.Sums.{complex, turned_by, plus, term_at}
use Rattle.checked.specs.declared.Complex.{Complex}
use Rattle.mat_elem.specs.states.Sums.{Terms, State, Running, coefficient_at, element_at, through, on_ket, on_bra, no_pair, all_pairs}
use Rattle.mat_elem.specs.states.Sizes.{size_to, terms_size, state_size, Small}
use Rattle.mat_elem.specs.whole.Laws.{nat_abs-neg}

-- ---- sizes of lists

module _ (re im : List ℤ) where
  grows-by : (m d : ℕ) → size_to re im m ≤ size_to re im (d + m)
  unfolding size_to
  grows-by m zero = rw zero-add (le_refl (size_to re im m))
  grows-by m (suc d) = rw (suc-add d m) (le_trans (grows-by m d) (omega arith))

  grows : (m n : ℕ) → m ≤ n → size_to re im m ≤ size_to re im n
  grows m n h =
      let e : (n - m) + m ≡ n = omega arith in
      rw e at (grows-by m (n - m))

-- ---- an element is at most the terms' size

abbrev size_c : Complex ℤ → ℕ
size_c c = size_of (gauss c.re c.im)

swap : (x y : ℕ) → x + y ≡ y + x
swap x y = omega arith

turned-size : (k : ℕ) (c : Complex ℤ) → size_c (turned_by k c) ≡ size_c c
turned-size zero c = refl
turned-size (suc zero) c = ap (λ (x : ℕ). x + nat_abs c.re) (nat_abs-neg c.im) ∙ swap (nat_abs c.im) (nat_abs c.re)
turned-size (suc (suc zero)) c = ap₂ ◌+◌ (nat_abs-neg c.re) (nat_abs-neg c.im)
turned-size (suc (suc (suc k))) c = ap (λ (x : ℕ). nat_abs c.im + x) (nat_abs-neg c.re) ∙ swap (nat_abs c.im) (nat_abs c.re)

module _ (xs zs : List ℕ) (re im : List ℤ) (ket : ℕ) (at : ℕ → Bool) where
  abbrev up_to : ℕ → Complex ℤ
  up_to m = sum_over at plus (complex (pos 0) (pos 0)) (term_at xs zs re im ket) m

  pub block_size : (m : ℕ) → size_c (up_to m) ≤ size_to re im m
  unfolding sum_over size_to
  block_size zero = le_refl 0
  block_size (suc m) = go (at m) (block_size m)
    where
      e : ℕ
      e = exponent_of (get_or xs m 0) (get_or zs m 0) ket

      term : size_c (term_at xs zs re im ket m) ≡ size_of (coefficient re im m)
      term = turned-size e (complex (get_or re m (pos 0)) (get_or im m (pos 0)))

      go : (b : Bool) → size_c (up_to m) ≤ size_to re im m → size_c (step_if b (λ (s : Complex ℤ). plus s (term_at xs zs re im ket m)) (up_to m)) ≤ size_to re im m + size_of (coefficient re im m)
      go true h =
          let s = sum-size (gauss (up_to m).re (up_to m).im) (gauss (term_at xs zs re im ket m).re (term_at xs zs re im ket m).im) in
          le_trans s (omega (arith, h, term))
      go false h = omega (arith, h)

-- ---- shares: three sizes multiplied

share : (b k j a : ℕ) → b * (k + j) * a ≡ b * k * a + b * j * a
share b k j a = ap (λ (x : ℕ). x * a) (mul-add b k j) ∙ add-mul (b * k) (b * j) a

rows : (c b k a : ℕ) → (c + b) * k * a ≡ c * k * a + b * k * a
rows c b k a = ap (λ (x : ℕ). x * a) (add-mul c b k) ∙ add-mul (c * k) (b * k) a

times-le : (x y a : ℕ) → x ≤ y → x * a ≤ y * a
times-le x y a h = mul-le-mul h (le_refl a)

le-times : (b x y : ℕ) → x ≤ y → b * x ≤ b * y
le-times b x y h = mul-le-mul (le_refl b) h

both_true : {f g h : Bool} → f ≡ true → g ≡ true → h ≡ true → (f && g) && h ≡ true
both_true p q r = rw (p, q, r)

-- the sum so far, and that all fits
record Fine (r : Running) (most : ℕ) : Type 0 where
  all : r.fits ≡ true
  le : size_of r.sum ≤ most

module _ (A : Terms) (ket : State) (w : ℕ) (b : Gauss) where
  abbrev size : ℕ
  size = terms_size A

  abbrev of_kets : ℕ → ℕ
  of_kets m = size_to ket.re ket.im m

  abbrev element : ℕ → Gauss
  element j = element_at A w (get_or ket.words j 0)

  element-size : (j : ℕ) → size_of (element j) ≤ size
  element-size j = block_size A.xs A.zs A.re A.im (get_or ket.words j 0) _ (length A.xs)

  module _ (r : Running) (s : ℕ) (f : Fine r s) (first : size_of b * state_size ket < 2 ^ 63) (second : s + size_of b * state_size ket * size < 2 ^ 63) where
    kets-fine : (m : ℕ) → m ≤ length ket.words → Fine (through (on_ket A ket w b) r m) (s + size_of b * of_kets m * size)
    unfolding through size_to
    kets-fine zero h = record { all = f.all; le = le_trans f.le (omega arith) }
    kets-fine (suc m) h =
        let i = kets-fine m (omega arith) in
        let k = coefficient_at ket m in
        let c = size_of b * size_of k in
        let up : of_kets m + size_of k ≤ state_size ket = grows ket.re ket.im (suc m) (length ket.words) h in
        let own : c ≤ size_of b * state_size ket = le-times (size_of b) (size_of k) (state_size ket) (omega (arith, up)) in
        let part : c * size_of (element m) ≤ c * size = le-times c (size_of (element m)) size (element-size m) in
        let next : size_of b * (of_kets m + size_of k) * size ≤ size_of b * state_size ket * size = times-le _ _ size (le-times (size_of b) _ _ up) in
        let split = share (size_of b) (of_kets m) (size_of k) size in
        let adds = pair_size b k (element m) in
        let sum = sum-size (through (on_ket A ket w b) r m).sum (pair_of b k (element m)) in
        let now : size_of ((through (on_ket A ket w b) r m).sum ⊕ pair_of b k (element m)) ≤ s + size_of b * (of_kets m + size_of k) * size = omega (arith, sum, adds, part, split, i.le) in
        record {
          all = both_true i.all (pair_small b k (element m) (lt_of_le_of_lt own first) (omega (arith, part, next, split, second))) (both_small ((through (on_ket A ket w b) r m).sum ⊕ pair_of b k (element m)) (omega (arith, now, next, second)));
          le = now;
        }

module _ (A : Terms) (bra ket : State) (small : Small A bra ket) where
  abbrev of_bras : ℕ → ℕ
  of_bras m = size_to bra.re bra.im m

  bras-fine : (m : ℕ) → m ≤ length bra.words → Fine (through (on_bra A bra ket) no_pair m) (of_bras m * state_size ket * terms_size A)
  unfolding through size_to
  bras-fine zero h = record { all = refl; le = omega arith }
  bras-fine (suc m) h =
      let i = bras-fine m (omega arith) in
      let b = coefficient_at bra m in
      let up : of_bras m + size_of b ≤ state_size bra = grows bra.re bra.im (suc m) (length bra.words) h in
      let own : size_of b * state_size ket ≤ state_size bra * state_size ket = times-le (size_of b) (state_size bra) (state_size ket) (omega (arith, up)) in
      let next : (of_bras m + size_of b) * state_size ket * terms_size A ≤ state_size bra * state_size ket * terms_size A = times-le _ _ (terms_size A) (times-le _ _ (state_size ket) up) in
      let split = rows (of_bras m) (size_of b) (state_size ket) (terms_size A) in
      let s = of_bras m * state_size ket * terms_size A in
      let f = kets-fine A ket (get_or bra.words m 0) b (through (on_bra A bra ket) no_pair m) s i (lt_of_le_of_lt own small.without) (omega (arith, next, split, small.with)) (length ket.words) (le_refl (length ket.words)) in
      record { all = f.all; le = omega (arith, f.le, split) }

  -- 16 cannot arise
  pub never : (all_pairs A bra ket).fits ≡ true
  never = (bras-fine (length bra.words) (le_refl (length bra.words))).all
