-- Sizes that fit: the test is an and of five, so that it is true where all five are, and each can be read off it.
-- Assumes nothing.
use mathlib.Core.Path.{◌≡◌}
use mathlib.Core.Bool.{true, ◌&&◌}
use mathlib.Core.List.{List}
use Prim.Native.Nat.{ℕ, ◌*◌, ◌≤◌}
use borrow.Author.Tests.{le-leb, leb-true, eqb-true, eq-eqb}
use lib.Dec.{eqb, leb}
use lib.ListN.{length}
use Rattle.pauli.proofs.Bools.{and_left, and_right, and_both}
use Rattle.encoding.specs.Limits.{max_rows, max_words, words_of}
use Rattle.matrix.specs.Matrix.{sized}
use Rattle.matrix.specs.Workers.{Sizes}

module _ (w m x z o : ℕ) where
  pub fitting : w ≤ max_words → m ≤ max_rows → x ≡ m * w → z ≡ m * w → o ≡ m * words_of m → sized w m x z o ≡ true
  fitting hw hm hx hz ho =
      and_both (le-leb w max_words hw) (and_both (le-leb m max_rows hm) (and_both (and_both (eq-eqb x (m * w) hx) (eq-eqb z (m * w) hz)) (eq-eqb o (m * words_of m) ho)))

module _ (w m : ℕ) (xs zs out : List ℕ) (e : sized w m (length xs) (length zs) (length out) ≡ true) where
  rest : (leb m max_rows && ((eqb (length xs) (m * w) && eqb (length zs) (m * w)) && eqb (length out) (m * words_of m))) ≡ true
  rest = and_right (leb w max_words) (leb m max_rows && ((eqb (length xs) (m * w) && eqb (length zs) (m * w)) && eqb (length out) (m * words_of m))) e

  long : ((eqb (length xs) (m * w) && eqb (length zs) (m * w)) && eqb (length out) (m * words_of m)) ≡ true
  long = and_right (leb m max_rows) ((eqb (length xs) (m * w) && eqb (length zs) (m * w)) && eqb (length out) (m * words_of m)) rest

  both : (eqb (length xs) (m * w) && eqb (length zs) (m * w)) ≡ true
  both = and_left (eqb (length xs) (m * w) && eqb (length zs) (m * w)) (eqb (length out) (m * words_of m)) long

  pub sizes : Sizes w m xs zs
  sizes =
      record {
        few_words = leb-true w max_words (and_left (leb w max_words) (leb m max_rows && ((eqb (length xs) (m * w) && eqb (length zs) (m * w)) && eqb (length out) (m * words_of m))) e);
        few-rows = leb-true m max_rows (and_left (leb m max_rows) ((eqb (length xs) (m * w) && eqb (length zs) (m * w)) && eqb (length out) (m * words_of m)) rest);
        x-long = eqb-true (length xs) (m * w) (and_left (eqb (length xs) (m * w)) (eqb (length zs) (m * w)) both);
        z-long = eqb-true (length zs) (m * w) (and_right (eqb (length xs) (m * w)) (eqb (length zs) (m * w)) both);
      }
