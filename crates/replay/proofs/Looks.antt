-- The test of reduced form, a column at a time, over any rows: what is left to look at says the same as the whole, so that a loop goes one column on, or ends with
-- the answer (`test-next`). Assumes nothing.
use mathlib.Core.Path.{◌≡◌, refl, sym, ap, ap₂, ◌∙◌, subst}
use mathlib.Core.Bool.{Bool, true, false, cond, not, ◌&&◌}
use mathlib.Core.List.{List, [], ◌∷◌, ◌++◌}
use Prim.Native.Nat.{ℕ, suc, ◌+◌, ◌≤◌, ◌<◌}
use native.Mathlib.Numerals.{add-one}
use native.Mathlib.Omega.{arith}
use lib.ListN.{length, get_or, drop, drop_of_length-le, length-drop}
use lib.Seq.{drop-cons}
use Rattle.reduction.specs.Lists.{every}
use Rattle.reduction.specs.Form.{zeros_in, only_in, reduced_from}
use Rattle.std.specs.Prelude.{Some, None}
use Rattle.terms.proofs.RowView.{from_is, from_past}
use Rattle.terms.specs.Workers.{bit_in, first_place, place_from}
use Rattle.replay.specs.Workers.{off_in, self, Looked}

every_append : (f : ℕ → Bool) (xs ys : List ℕ) → every f (xs ++ ys) ≡ (every f xs && every f ys)
unfolding every
every_append f [] ys = refl
every_append f (x ∷ xs) ys = ap (λ b. f x && b) (every_append f xs ys) ∙ go (f x)
  where
    go : (b : Bool) → (b && (every f xs && every f ys)) ≡ (b && every f xs && every f ys)
    go true = refl
    go false = refl

-- ---- the only row with a column set

module _ (n : ℕ) (xs zs listed extra : List ℕ) (c p : ℕ) where
  only-by : {x y z : Bool} → x ≡ bit_in n xs zs p c → y ≡ every (off_in n xs zs c p) listed → z ≡ every (off_in n xs zs c p) extra → (x && (y && z)) ≡ only_in (bit_in n xs zs) self c p (listed ++ extra)
  unfolding only_in
  only-by e f g = ap₂ (λ a b. a && b) e (ap₂ (λ a b. a && b) f g ∙ sym (every_append (off_in n xs zs c p) listed extra))

  pub only-no-bit : false ≡ bit_in n xs zs p c → false ≡ only_in (bit_in n xs zs) self c p (listed ++ extra)
  only-no-bit e = only-by e refl refl

  pub only-no-listed : true ≡ bit_in n xs zs p c → false ≡ every (off_in n xs zs c p) listed → false ≡ only_in (bit_in n xs zs) self c p (listed ++ extra)
  only-no-listed e f = only-by e f refl

  pub only-extra : {z : Bool} → true ≡ bit_in n xs zs p c → true ≡ every (off_in n xs zs c p) listed → z ≡ every (off_in n xs zs c p) extra → z ≡ only_in (bit_in n xs zs) self c p (listed ++ extra)
  only-extra e f g = only-by e f g

-- ---- one column: it is passed over, or is the pivot column of the row at place t

module _ (n : ℕ) (xs zs : List ℕ) (c : ℕ) where
  abbrev on : ℕ → Bool
  on k = bit_in n xs zs k c

  none-on : (ks : List ℕ) → length ks ≤ first_place on ks → zeros_in (bit_in n xs zs) self c ks ≡ true
  unfolding first_place zeros_in every
  none-on [] h = refl
  none-on (k ∷ ks) h = go (on k) (none-on ks) h
    where
      go : (b : Bool) → (length ks ≤ first_place on ks → every (λ j. not (on j)) ks ≡ true) → suc (length ks) ≤ cond b 0 (suc (first_place on ks)) → (not b && every (λ j. not (on j)) ks) ≡ true
      go true ih g = absurd (omega arith)
      go false ih g = ih (omega arith)

  some-on : (ks : List ℕ) → first_place on ks < length ks → zeros_in (bit_in n xs zs) self c ks ≡ false
  unfolding first_place zeros_in every
  some-on [] h = absurd (omega arith)
  some-on (k ∷ ks) h = go (on k) (some-on ks) h
    where
      go : (b : Bool) → (first_place on ks < length ks → every (λ j. not (on j)) ks ≡ false) → cond b 0 (suc (first_place on ks)) < suc (length ks) → (not b && every (λ j. not (on j)) ks) ≡ false
      go true ih g = refl
      go false ih g = ih (omega arith)

  module _ (listed extra : List ℕ) (t : ℕ) where
    all : List ℕ
    all = listed ++ extra

    passed : (rest cs : List ℕ) → length rest ≤ first_place on rest → reduced_from (bit_in n xs zs) self all rest (c ∷ cs) ≡ reduced_from (bit_in n xs zs) self all rest cs
    unfolding reduced_from
    passed [] [] h = refl
    passed [] (d ∷ cs) h = refl
    passed (p ∷ rest) cs h =
        ap (λ b. cond b (reduced_from (bit_in n xs zs) self all (p ∷ rest) cs) (only_in (bit_in n xs zs) self c p all && reduced_from (bit_in n xs zs) self all rest cs)) (none-on (p ∷ rest) h)

    pivoted : (p : ℕ) (rest cs : List ℕ) → first_place on (p ∷ rest) < length (p ∷ rest)
        → reduced_from (bit_in n xs zs) self all (p ∷ rest) (c ∷ cs) ≡ (only_in (bit_in n xs zs) self c p all && reduced_from (bit_in n xs zs) self all rest cs)
    unfolding reduced_from
    pivoted p rest cs h =
        ap (λ b. cond b (reduced_from (bit_in n xs zs) self all (p ∷ rest) cs) (only_in (bit_in n xs zs) self c p all && reduced_from (bit_in n xs zs) self all rest cs)) (some-on (p ∷ rest) h)

    -- no place is found, from t on, or one is
    pub looked-none : None ≡ place_from on t listed → Looked n xs zs listed extra t c (Some t)
    unfolding all
    looked-none e cs = let p = from_past on t listed (sym e) in passed (drop t listed) cs (omega (arith, length-drop t listed))

    pub found_in : {f : ℕ} → place_from on t listed ≡ Some f → t < length listed
    found_in e = let p = from_is on t listed e in omega (arith, p.0, p.1)

    looked-some : {f : ℕ} → place_from on t listed ≡ Some f → (cs : List ℕ)
        → reduced_from (bit_in n xs zs) self all (drop t listed) (c ∷ cs) ≡ (only_in (bit_in n xs zs) self c (get_or listed t 0) all && reduced_from (bit_in n xs zs) self all (drop (t + 1) listed) cs)
    looked-some {f} e cs =
        let p = from_is on t listed e in
        let split = drop-cons listed t 0 (found_in e) in
        let inside : first_place on (drop t listed) < length (drop t listed) = omega (arith, length-drop t listed, p.0, p.1) in
        ap (λ l. reduced_from (bit_in n xs zs) self all l (c ∷ cs)) split
        ∙ pivoted (get_or listed t 0) (drop (suc t) listed) cs (subst (λ l. first_place on l < length l) split inside)
        ∙ ap (λ m. only_in (bit_in n xs zs) self c (get_or listed t 0) all && reduced_from (bit_in n xs zs) self all (drop m listed) cs) (sym (add-one t))

    pub looked-yes : {f : ℕ} → place_from on t listed ≡ Some f → true ≡ only_in (bit_in n xs zs) self c (get_or listed t 0) (listed ++ extra) → Looked n xs zs listed extra t c (Some (t + 1))
    unfolding all
    looked-yes e o cs = looked-some e cs ∙ ap (λ b. b && reduced_from (bit_in n xs zs) self all (drop (t + 1) listed) cs) (sym o)

    pub looked-no : {f : ℕ} → place_from on t listed ≡ Some f → false ≡ only_in (bit_in n xs zs) self c (get_or listed t 0) (listed ++ extra) → Looked n xs zs listed extra t c None
    unfolding all
    looked-no e o cs = looked-some e cs ∙ ap (λ b. b && reduced_from (bit_in n xs zs) self all (drop (t + 1) listed) cs) (sym o)

-- ---- the loop over the order

module _ {R : Type 0} (bit : R → ℕ → Bool) (σ : ℕ → R) (all listed order : List ℕ) (t i : ℕ) where
  pub test-next : (after : List ℕ → Bool) → i < length order
      → ((cs : List ℕ) → reduced_from bit σ all (drop t listed) (get_or order i 0 ∷ cs) ≡ after cs)
      → reduced_from bit σ all (drop t listed) (drop i order) ≡ after (drop (i + 1) order)
  test-next after h f =
      ap (reduced_from bit σ all (drop t listed)) (drop-cons order i 0 h) ∙ f (drop (suc i) order)
      ∙ ap (λ m. after (drop m order)) (sym (add-one i))

  pub test-end : length order ≤ i → true ≡ reduced_from bit σ all (drop t listed) (drop i order)
  unfolding reduced_from
  test-end h = sym (ap (reduced_from bit σ all (drop t listed)) (drop_of_length-le order h))
