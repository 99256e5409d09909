-- What a yes of the checker means, and under which premises a claim is the only one: the words of RULES 12.3. Assumes nothing.
use Rattle.std.specs.Prelude.{ℕ, ◌<◌, ◌≡◌, Bool, false, List, ◌∷◌, ◌++◌}
use Rattle.reduction.specs.Lists.{In, Distinct, All}
use Rattle.reduction.specs.Rule.{Entry}
use Rattle.reduction.specs.Replay.{replay, product_of}
use Rattle.reduction.specs.Form.{ReducedForm}

-- What refusals 6 and 7 leave of the order and the lists, for m rows of N columns.
pub record Asked (N m : ℕ) (order listed extra : List ℕ) : Type 0 where
  pub once : Distinct listed
  pub rows_in : (k : ℕ) → In k (listed ++ extra) → k < m
  pub columns-in : (c : ℕ) → In c order → c < N

-- The entry multiplies a listed or extra row by a different, listed row.
pub record Good (listed extra : List ℕ) (e : Entry) : Type 0 where
  pub target-in : In e.target (listed ++ extra)
  pub source_in : In e.source listed
  pub other : e.target ≡ e.source → ⊥

-- Two rows agree in every bit of N columns, and in the phase.
pub record Agree {R : Type 0} (bit : R → ℕ → Bool) (ph : R → ℕ) (N : ℕ) (a b : R) : Type 0 where
  pub bits : (c : ℕ) → c < N → bit a c ≡ bit b c
  pub phase : ph a ≡ ph b

-- Each entry is good, the full replay gives the claimed bits and phases, and these stand in reduced form.
pub record Right {R : Type 0} (bit : R → ℕ → Bool) (mul : R → R → R) (ph : R → ℕ) (N m : ℕ) (order listed extra : List ℕ) (σ : ℕ → R) (log : List Entry) (claimed : ℕ → R) : Type 0 where
  pub entries : All (Good listed extra) log
  pub replayed : (k : ℕ) → k < m → Agree bit ph N (replay mul σ log k) (claimed k)
  pub form : ReducedForm bit order listed extra claimed

-- The order names every column.
abbrev pub NamesAll : ℕ → List ℕ → Type 0
NamesAll N order = (c : ℕ) → c < N → In c order

-- No product of listed starting rows, repeats allowed, is the identity with a phase exponent other than 0.
abbrev pub NoPhase : {R : Type 0} → (R → ℕ → Bool) → (R → R → R) → (R → ℕ) → ℕ → List ℕ → (ℕ → R) → Type 0
NoPhase bit mul ph N listed σ =
    (k : ℕ) (ks : List ℕ) → All (λ j. In j listed) (k ∷ ks)
    → ((c : ℕ) → c < N → bit (product_of mul σ (σ k) ks) c ≡ false) → ph (product_of mul σ (σ k) ks) ≡ 0
