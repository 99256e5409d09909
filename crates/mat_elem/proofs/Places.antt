-- Where the block lies: in words that never fall, those below t, those that are t and those above t stand in this order, and the counts of words give
-- the places between them. Assumes nothing.
use Rattle.std.proofs.Common.{◌-◌, slice_range, drop, length-drop}
use Rattle.std.specs.List.Sorted.{IsPartitionedBy, IsPartitionPoint}
use Rattle.std.proofs.lemmas.List.{get_or-take, get_or-drop, get_or_default, length-take}
use Rattle.std.proofs.Common.{◌≡◌, ℕ, zero, suc, ◌+◌, ◌<◌, ◌≤◌, Bool, true, false, cond, ltb, leb, List, [], ◌∷◌, length, get_or, sym, refl, ap, ◌∙◌, true≢false, suc-le-suc, zero-le, le_trans, le_refl, lt_of_lt_of_le, le_of_suc-le-suc, not-suc-le-zero, zero-lt-suc, lt_of_not-le, arith, below_more, ltb-false, ltb-true, le-ltb, lt-ltb, le-leb, leb-false, leb-true}
use native.Mathlib.Decide.{dec_le}
use native.Mathlib.Nat.{le-suc}
use borrow.Author.Tests.{lt-leb}
use lib.Arith.{le-zero, lt_of_le-ne}
use Rattle.mat_elem.specs.Terms.{falls}
use Rattle.mat_elem.specs.Workers.{how_many, block_from, block_to, BlockOf}
use Rattle.mat_elem.proofs.Order.{rising}

module _ (p : ℕ → Bool) where
  -- a place such that the words before it pass, and those from it on do not
  pub many-split : (ws : List ℕ) (r : ℕ) → r ≤ length ws → ((k : ℕ) → k < r → p (get_or ws k 0) ≡ true) → ((k : ℕ) → r ≤ k → k < length ws → p (get_or ws k 0) ≡ false)
      → how_many p ws ≡ r
  unfolding how_many
  many-split [] r h f g = sym (le-zero h)
  many-split (w ∷ ws) zero h f g = rw (g 0 zero-le (zero-lt-suc _)) (many-split ws zero zero-le (λ k l. absurd (not-suc-le-zero l)) (λ k _ l. g (suc k) zero-le (suc-le-suc l)))
  many-split (w ∷ ws) (suc r) h f g =
      rw (f 0 (zero-lt-suc r)) (ap suc (many-split ws r (le_of_suc-le-suc h) (λ k l. f (suc k) (suc-le-suc l)) (λ k i l. g (suc k) (suc-le-suc i) (suc-le-suc l))))

  -- after a word that does not pass none does
  abbrev Once : List ℕ → Type 0
  Once ws = (i j : ℕ) → i ≤ j → j < length ws → p (get_or ws i 0) ≡ false → p (get_or ws j 0) ≡ false

  -- the place is the count
  pub record Split (ws : List ℕ) (r : ℕ) : Type 0 where
    pub within : r ≤ length ws
    pub before : (k : ℕ) → k < r → p (get_or ws k 0) ≡ true
    pub after : (k : ℕ) → r ≤ k → k < length ws → p (get_or ws k 0) ≡ false

  pub split : (ws : List ℕ) → Once ws → Split ws (how_many p ws)
  unfolding how_many
  split [] o = record { within = zero-le; before = λ k l. absurd (not-suc-le-zero l); after = λ k _ l. absurd (not-suc-le-zero l) }
  split (w ∷ ws) o = go (p w) refl (split ws (λ i j l h. o (suc i) (suc j) (suc-le-suc l) (suc-le-suc h)))
    where
      go : (b : Bool) → p w ≡ b → Split ws (how_many p ws) → Split (w ∷ ws) (cond b (suc (how_many p ws)) (how_many p ws))
      go true e s = record { within = suc-le-suc s.within; before = first; after = then }
        where
          first : (k : ℕ) → k < suc (how_many p ws) → p (get_or (w ∷ ws) k 0) ≡ true
          first zero l = e
          first (suc k) l = s.before k (le_of_suc-le-suc l)

          then : (k : ℕ) → suc (how_many p ws) ≤ k → k < suc (length ws) → p (get_or (w ∷ ws) k 0) ≡ false
          then zero l h = absurd (not-suc-le-zero l)
          then (suc k) l h = s.after k (le_of_suc-le-suc l) (le_of_suc-le-suc h)
      go false e s =
          let none : how_many p ws ≡ 0 = many-split ws 0 zero-le (λ k l. absurd (not-suc-le-zero l)) (λ k _ l. o 0 (suc k) zero-le (suc-le-suc l) e) in
          record { within = le_trans s.within (le-suc (length ws)); before = λ k l. absurd (omega arith); after = λ k _ l. o 0 k zero-le l e }

  pub many-le : (q : ℕ → Bool) → ((w : ℕ) → p w ≡ true → q w ≡ true) → (ws : List ℕ) → how_many p ws ≤ how_many q ws
  unfolding how_many
  many-le q h [] = zero-le
  many-le q h (w ∷ ws) = go (p w) (q w) (h w) (many-le q h ws)
    where
      go : (a b : Bool) → (a ≡ true → b ≡ true) → how_many p ws ≤ how_many q ws → cond a (suc (how_many p ws)) (how_many p ws) ≤ cond b (suc (how_many q ws)) (how_many q ws)
      go true true f l = suc-le-suc l
      go true false f l = absurd (true≢false (sym (f refl)))
      go false true f l = le_trans l (le-suc (how_many q ws))
      go false false f l = l

module _ (xs : List ℕ) (t : ℕ) (e : falls xs ≡ false) where
  pub from-split : Split (λ w. ltb w t) xs (block_from xs t)
  from-split = split (λ w. ltb w t) xs (λ i j l h n. le-ltb (get_or xs j 0) t (le_trans (ltb-false (get_or xs i 0) t n) (rising 0 xs e i j l h)))

  pub to-split : Split (λ w. leb w t) xs (block_to xs t)
  to-split = split (λ w. leb w t) xs (λ i j l h n. lt-leb (get_or xs j 0) t (le_trans (leb-false (get_or xs i 0) t n) (rising 0 xs e i j l h)))

  -- a word below t stands before the block's start, and only such a word does
  pub below-start : (k : ℕ) → k < length xs → ltb (get_or xs k 0) t ≡ ltb k (block_from xs t)
  below-start k h = go (dec_le (block_from xs t) k)
    where
      go : Dec (block_from xs t ≤ k) → ltb (get_or xs k 0) t ≡ ltb k (block_from xs t)
      go (yes p) = from-split.after k p h ∙ sym (le-ltb k (block_from xs t) p)
      go (no p) = from-split.before k (lt_of_not-le p) ∙ sym (lt-ltb k (block_from xs t) (lt_of_not-le p))

  -- the block is exactly the terms with X = t
  pub block_of : BlockOf xs t (block_from xs t) (block_to xs t)
  block_of = record {
    ordered = many-le (λ w. ltb w t) (λ w. leb w t) (λ w h. le-leb w t (omega (arith, ltb-true w t h))) xs;
    within = to-split.within;
    before = λ k h. ltb-true (get_or xs k 0) t (from-split.before k h);
    inside = λ k h l. omega (arith, ltb-false (get_or xs k 0) t (from-split.after k h (le_trans l to-split.within)), leb-true (get_or xs k 0) t (to-split.before k l));
    after = λ k h l. leb-false (get_or xs k 0) t (to-split.after k h l);
  }

-- ---- the block's start, found by halves in a part that holds it
module _ (xs : List ℕ) (t : ℕ) (e : falls xs ≡ false) (low high : ℕ) (l : low ≤ block_from xs t) (h : block_from xs t ≤ high) (w : high ≤ length xs) where
  long : length (slice_range xs low high) ≡ high - low
  long = omega (arith, length-take {A = ℕ}, length-drop {A = ℕ})

  part-below : (k d : ℕ) → k < high - low → ltb (get_or (slice_range xs low high) k d) t ≡ ltb (low + k) (block_from xs t)
  part-below k d u =
      let v : low + k < length xs = omega arith in
      ap (λ (n : ℕ). ltb n t) (get_or-take (high - low) (drop low xs) k d u ∙ get_or-drop low xs k d ∙ get_or_default xs (low + k) d 0 v)
      ∙ below-start xs t e (low + k) v

  pub parted : IsPartitionedBy (λ n. ltb n t) (slice_range xs low high)
  parted i j d u v q =
      let m : low + j < block_from xs t = ltb-true (low + j) (block_from xs t) (sym (part-below j d (omega (arith, long))) ∙ q) in
      part-below i d (omega (arith, long)) ∙ lt-ltb (low + i) (block_from xs t) (omega arith)

  pub point-is : (i : ℕ) → i ≤ length (slice_range xs low high) → IsPartitionPoint (λ n. ltb n t ≡ true) (λ n. ltb n t ≡ false) (slice_range xs low high) i
      → low + i ≡ block_from xs t
  point-is i u p = let m = most i (le_refl i) in let n = least (dec_le (high - low) i) in omega arith
    where
      most : (j : ℕ) → j ≤ i → low + j ≤ block_from xs t
      most zero v = omega arith
      most (suc j) v =
          let m = ltb-true (low + j) (block_from xs t) (sym (part-below j 0 (omega (arith, long))) ∙ p.0 j 0 zero-le v) in
          omega (arith, m)

      least : Dec (high - low ≤ i) → block_from xs t ≤ low + i
      least (yes v) = omega arith
      least (no v) = ltb-false (low + i) (block_from xs t) (sym (part-below i 0 (lt_of_not-le v)) ∙ p.1 i 0 (le_refl i) (omega (arith, long, lt_of_not-le v)))

-- ---- the block's end, found by going on from its start
pub record Running (xs : List ℕ) (t last : ℕ) : Type 0 where
  pub started : block_from xs t ≤ last
  pub within : last ≤ length xs
  pub below : (k : ℕ) → k < last → leb (get_or xs k 0) t ≡ true

module _ (xs : List ℕ) (t : ℕ) (e : falls xs ≡ false) where
  pub run_none : Running xs t (block_from xs t)
  run_none =
      let s = from-split xs t e in
      record { started = le_refl (block_from xs t); within = s.within; below = λ k h. le-leb (get_or xs k 0) t (omega (arith, ltb-true (get_or xs k 0) t (s.before k h))) }

  pub run_more : {last : ℕ} → Running xs t last → last < length xs → get_or xs last 0 ≡ t → Running xs t (last + 1)
  run_more {last} r h q =
      record { started = omega (arith, r.started); within = omega arith; below = below_more (λ k. leb (get_or xs k 0) t ≡ true) last r.below (le-leb (get_or xs last 0) t (omega arith)) }

  pub run-stop : {last : ℕ} → Running xs t last → last < length xs → (get_or xs last 0 ≡ t → ⊥) → last ≡ block_to xs t
  run-stop {last} r h q =
      let s = ltb-false (get_or xs last 0) t ((from-split xs t e).after last r.started h) in
      sym (many-split (λ w. leb w t) xs last r.within r.below (λ k i l. lt-leb (get_or xs k 0) t (lt_of_lt_of_le (lt_of_le-ne s (λ z. q (sym z))) (rising 0 xs e last k i l))))

  pub run_end : {last : ℕ} → Running xs t last → length xs ≤ last → last ≡ block_to xs t
  run_end {last} r h = sym (many-split (λ w. leb w t) xs last r.within r.below (λ k i l. absurd (omega arith)))
