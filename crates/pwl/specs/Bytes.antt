-- docs/PWL.md, "The layout": numbers as bytes, the lowest first. Assumes nothing.
use Rattle.std.specs.Prelude.{List, [], ◌∷◌, ◌++◌, ℕ, zero, suc, ◌+◌, ◌*◌, ◌/◌, ◌%◌, ◌<◌, get_or, drop}

-- the k bytes of v
unfoldable pub le : ℕ → ℕ → List ℕ
le zero v = []
le (suc k) v = v % 256 ∷ le k (v / 256)

-- the number that the first k bytes of s are; a byte that is not there counts as 0
unfoldable pub num : ℕ → List ℕ → ℕ
num zero s = 0
num (suc k) s = get_or s 0 0 + 256 * num k (drop 1 s)

-- k bytes for each item of a list, those of its value
unfoldable pub les_of : {A : Type 0} → ℕ → (A → ℕ) → List A → List ℕ
les_of k value [] = []
les_of k value (v ∷ vs) = le k (value v) ++ les_of k value vs

-- of numbers
abbrev pub les : ℕ → List ℕ → List ℕ
les k vs = les_of k (λ v. v) vs

-- the first c items of k bytes each
unfoldable pub items : {A : Type 0} → ℕ → (List ℕ → A) → ℕ → List ℕ → List A
items k read zero s = []
items k read (suc c) s = read s ∷ items k read c (drop k s)

-- numbers
abbrev pub nums : ℕ → ℕ → List ℕ → List ℕ
nums k c s = items k (num k) c s

-- every number of the list is below t; bytes are numbers below 256
unfoldable pub Below : ℕ → List ℕ → Type 0
Below t [] = Unit {0}
Below t (v ∷ vs) = (v < t) × Below t vs

abbrev pub Bytes : List ℕ → Type 0
Bytes s = Below 256 s
