-- RULES 14.2: a list at some of its places, which are qubit numbers. Assumes nothing.
use Rattle.std.specs.Prelude.{◌≡◌, List, [], ◌∷◌, ℕ, ◌<◌, get_or, set}

module _ {A : Type 0} where
  -- what stands at the qubits qs, d past the list's end
  abbrev pub at : A → List A → List ℕ → List A
  at d l [] = []
  at d l (q ∷ qs) = get_or l q d ∷ at d l qs

  -- the list with v at the qubits qs
  abbrev pub put : List A → List ℕ → List A → List A
  put l [] v = l
  put l (q ∷ qs) [] = l
  put l (q ∷ qs) (a ∷ v) = set (put l qs v) q a

  -- the list with d at each of the qubits qs
  abbrev pub blank : A → List A → List ℕ → List A
  blank d l [] = l
  blank d l (q ∷ qs) = set (blank d l qs) q d

-- q is none of the qubits qs
abbrev pub Fresh : ℕ → List ℕ → Type 0
Fresh q [] = Unit {0}
Fresh q (p ∷ qs) = (q ≡ p → ⊥) × Fresh q qs

-- the qubits qs are below n, and no two are the same
abbrev pub Places : ℕ → List ℕ → Type 0
Places n [] = Unit {0}
Places n (q ∷ qs) = (q < n) × (Fresh q qs × Places n qs)
