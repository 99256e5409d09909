-- RULES 5.10, reduced form: as worded there (`Form`), and as a test (`reduced`). `test-iff-form` of proofs/Forms.antt proves that they are the
-- same. Assumes nothing.
use Rattle.std.specs.Prelude.{ℕ, ◌<◌, ◌≤◌, ◌≡◌, Bool, true, false, cond, not, ◌&&◌, ◌||◌, List, [], ◌∷◌, ◌++◌, eqb, length, get_or}
use Rattle.reduction.specs.Lists.{In, every}

-- "for some t and strictly rising places in the order" (`all` is the listed and the extra rows; a row is another by its number):
pub record Form {R : Type 0} (bit : R → ℕ → Bool) (σ : ℕ → R) (all listed order : List ℕ) : Type 0 where
  pub t : ℕ
  pub place : ℕ → ℕ
  pub fits : t ≤ length listed
  pub inside : (j : ℕ) → j < t → place j < length order
  pub rising : (i j : ℕ) → i < j → j < t → place i < place j
  -- "the listed row at place j < t has 1 at its pivot column"
  pub one : (j : ℕ) → j < t → bit (σ (get_or listed j 0)) (get_or order (place j) 0) ≡ true
  -- "and 0 at every earlier column of the order"
  pub before : (j p : ℕ) → j < t → p < place j → bit (σ (get_or listed j 0)) (get_or order p 0) ≡ false
  -- "every other listed or extra row has 0 at that pivot column"
  pub others : (j k : ℕ) → j < t → In k all → (k ≡ get_or listed j 0 → ⊥) → bit (σ k) (get_or order (place j) 0) ≡ false
  -- "listed rows from place t on have 0 at all ordered columns"
  pub after : (j p : ℕ) → t ≤ j → j < length listed → p < length order → bit (σ (get_or listed j 0)) (get_or order p 0) ≡ false

abbrev pub ReducedForm : {R : Type 0} → (R → ℕ → Bool) → List ℕ → List ℕ → List ℕ → (ℕ → R) → Type 0
ReducedForm bit order listed extra σ = Form bit σ (listed ++ extra) listed order

module _ {R : Type 0} (bit : R → ℕ → Bool) where
  -- the column is 0 in each row of the list
  unfoldable pub zeros_in : (ℕ → R) → ℕ → List ℕ → Bool
  zeros_in σ c ks = every (λ k. not (bit (σ k) c)) ks

  -- the column is 1 in row p and 0 in each other row of the list
  unfoldable pub only_in : (ℕ → R) → ℕ → ℕ → List ℕ → Bool
  only_in σ c p ks = bit (σ p) c && every (λ k. eqb k p || not (bit (σ k) c)) ks

  -- The test, a column after another. `rest` is the listed rows that have no pivot column yet, in order. A column that is 0 in all of these is
  -- passed over; any other must be the pivot column of the first of them.
  unfoldable pub reduced_from : (ℕ → R) → List ℕ → List ℕ → List ℕ → Bool
  reduced_from σ all rest [] = true
  reduced_from σ all [] (c ∷ cs) = true
  reduced_from σ all (p ∷ rest) (c ∷ cs) =
      cond (zeros_in σ c (p ∷ rest)) (reduced_from σ all (p ∷ rest) cs) (only_in σ c p all && reduced_from σ all rest cs)

  unfoldable pub reduced : List ℕ → List ℕ → List ℕ → (ℕ → R) → Bool
  reduced order listed extra σ = reduced_from σ (listed ++ extra) listed order
