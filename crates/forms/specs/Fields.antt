-- What the readers answer for fields that lines share: none where they do not stand there, else what was read, and the place behind it.
use Rattle.std.specs.Prelude.{◌≡◌, List, [], ◌∷◌, ℕ, ◌≤◌, eqb, cond, length, take, drop, ℤ, Float, Option, Some, None, MatchOption}
use Rattle.text.specs.Readers.{Got, none, got}
use Rattle.text.specs.Lines.{word, fields}
use Rattle.forms.specs.Form.{any, set_kinds, rows_kinds, whole_kinds, float_kinds, state_kinds, list_kinds, rest, lengths}
use Rattle.forms.specs.declared.read.Set.{Set}
use Rattle.forms.specs.declared.read.Rows.{Rows}
use Rattle.forms.specs.declared.read.Two.{Two}
use Rattle.forms.specs.declared.read.Lists.{Lists}
use Rattle.forms.specs.declared.read.Terms.{Terms}
use Rattle.forms.specs.declared.read.Vectors.{Vectors}
use Rattle.forms.specs.declared.read.Between.{Between}
use Rattle.forms.specs.declared.read.Lengths.{Lengths}

-- read at a place of s: the value of f, which fits, and the place behind it
pub record Found {A R : Type 0} (read : List ℕ → Got A) (value : R → A) (Fits : R → Type 0) (s : List ℕ) (at : ℕ) (f : R × ℕ) : Type 0 where
  pub is : read (drop at s) ≡ got (value f.0) (drop f.1 s)
  pub within : f.1 ≤ length s
  pub room : Fits f.0

-- the same, or none where none is read
abbrev pub Finds : {A R : Type 0} → (List ℕ → Got A) → (R → A) → (R → Type 0) → List ℕ → ℕ → Option (R × ℕ) → Type 0
Finds read value Fits s at None = read (drop at s) ≡ none
Finds read value Fits s at (Some f) = Found read value Fits s at f

-- what is read is the value, and always fits
abbrev pub itself : {A : Type 0} → A → A
itself v = v

abbrev pub Any : {A : Type 0} → A → Type 0
Any v = Unit {0}

-- a number of at most so much
abbrev pub NumberRead : (List ℕ → Got ℕ) → ℕ → List ℕ → ℕ → Option (ℕ × ℕ) → Type 0
NumberRead read most s at r = Finds read itself (λ v. v ≤ most) s at r

-- a list, by how many items it has, into a slice that held o and holds p now
abbrev pub ListRead : {A : Type 0} → (ℕ → List ℕ → Got (List A)) → List ℕ → ℕ → List A → List A → Option (ℕ × ℕ) → Type 0
ListRead read s at o p r = Finds (read (length o)) (λ k. take k p) (λ k. k ≤ length p) s at r

-- what is read up to the line's end, of n bytes
abbrev pub closed_at : {R : Type 0} → ℕ → Option (R × ℕ) → Option R
closed_at n None = None
closed_at n (Some f) = cond (eqb f.1 n) (Some f.0) None

-- a b, of numbers and of words
abbrev pub TwoRead : List ℕ → ℕ → Option (Two × ℕ) → Type 0
TwoRead s at r = Finds (fields (any ∷ any ∷ [])) (λ q. (q.a, (q.b, tt))) Any s at r

abbrev pub BetweenRead : List ℕ → ℕ → Option (Between × ℕ) → Type 0
BetweenRead s at r = Finds (fields (word ∷ word ∷ [])) (λ q. (q.bra, (q.ket, tt))) Any s at r

-- X Z P
abbrev pub SetRead : List ℕ → ℕ → (x x' z z' p p' : List ℕ) → Option (Set × ℕ) → Type 0
SetRead s at x x' z z' p p' r =
    Finds (fields (set_kinds (length x) (length z) (length p))) (λ q. (take q.x x', (take q.z z', (take q.p p', tt))))
    (λ q. (q.x ≤ length x') × (q.z ≤ length z') × (q.p ≤ length p')) s at r

-- n m X Z P
abbrev pub RowsRead : List ℕ → ℕ → (x x' z z' p p' : List ℕ) → Option (Rows × ℕ) → Type 0
RowsRead s at x x' z z' p p' r =
    Finds (fields (rows_kinds (length x) (length z) (length p))) (λ q. (q.n, (q.m, (take q.x x', (take q.z z', (take q.p p', tt))))))
    (λ q. (q.x ≤ length x') × (q.z ≤ length z') × (q.p ≤ length p')) s at r

-- order listed extra
abbrev pub ListsRead : List ℕ → ℕ → (a a' b b' c c' : List ℕ) → Option (Lists × ℕ) → Type 0
ListsRead s at a a' b b' c c' r =
    Finds (fields (list_kinds (length a) (length b) (length c))) (λ q. (take q.order a', (take q.listed b', (take q.extra c', tt))))
    (λ q. (q.order ≤ length a') × (q.listed ≤ length b') × (q.extra ≤ length c')) s at r

-- the rest of the line, as a text: none where the line goes on with no space
abbrev pub RestRead : {X : Type 0} → List ℕ → ℕ → Option X → (X → List ℕ) → Type 0
RestRead s at r text = MatchOption r (rest (drop at s) ≡ none) (λ t. rest (drop at s) ≡ got (text t) [])

-- lx,lz,lp,lc
abbrev pub LengthsRead : (i j k m : ℕ) → List ℕ → ℕ → Option (Lengths × ℕ) → Type 0
LengthsRead i j k m s at r =
    Finds (lengths i j k m) (λ q. (q.x, (q.z, (q.p, q.c)))) (λ q. (q.x ≤ i) × (q.z ≤ j) × (q.p ≤ k) × (q.c ≤ m)) s at r

-- n X Z RE IM
abbrev pub WholeRead : List ℕ → ℕ → (x x' z z' : List ℕ) → (a a' b b' : List ℤ) → Option (Terms × ℕ) → Type 0
WholeRead s at x x' z z' a a' b b' r =
    Finds (fields (whole_kinds (length x) (length z) (length a) (length b)))
    (λ q. (q.n, (take q.x x', (take q.z z', (take q.re a', (take q.im b', tt))))))
    (λ q. (q.x ≤ length x') × (q.z ≤ length z') × (q.re ≤ length a') × (q.im ≤ length b')) s at r

abbrev pub FloatsRead : List ℕ → ℕ → (x x' z z' : List ℕ) → (a a' b b' : List Float) → Option (Terms × ℕ) → Type 0
FloatsRead s at x x' z z' a a' b b' r =
    Finds (fields (float_kinds (length x) (length z) (length a) (length b)))
    (λ q. (q.n, (take q.x x', (take q.z z', (take q.re a', (take q.im b', tt))))))
    (λ q. (q.x ≤ length x') × (q.z ≤ length z') × (q.re ≤ length a') × (q.im ≤ length b')) s at r

-- W RE IM of a state
abbrev pub VectorsRead : List ℕ → ℕ → (w w' : List ℕ) → (a a' b b' : List ℤ) → Option (Vectors × ℕ) → Type 0
VectorsRead s at w w' a a' b b' r =
    Finds (fields (state_kinds (length w) (length a) (length b))) (λ q. (take q.w w', (take q.re a', (take q.im b', tt))))
    (λ q. (q.w ≤ length w') × (q.re ≤ length a') × (q.im ≤ length b')) s at r
