-- RULES 4, "Products and actions", at the words: what the row leaves leave. A row is a run of X words and one of Z words; a leaf stops at the end of
-- the shortest part that it is lent, as the Rust's izip! does. Assumes nothing.
use Rattle.std.specs.Prelude.{◌≡◌, ℕ, ◌+◌, ◌%◌, ◌≤◌, min, Bool, true, false, ◌&&◌, ◌||◌, ◌⊎◌, List, [], length, take, drop, ◌==◌, nat_le}
use Rattle.pauli.specs.Pauli.{Pauli, mul, phases, clashes, act, act_phase, has_x, has_z}
use Rattle.encoding.specs.Words.{unpack, unbits, pack}
use Rattle.encoding.specs.Set.{part}
use Rattle.products.specs.declared.Factor.{Factor}

-- all six runs have w words
pub record SameLength (w : ℕ) (lx lz rx rz ox oz : List ℕ) : Type 0 where
  pub in-lx : length lx ≡ w
  pub in-lz : length lz ≡ w
  pub in-rx : length rx ≡ w
  pub in-rz : length rz ≡ w
  pub in-ox : length ox ≡ w
  pub in-oz : length oz ≡ w

-- what the product of two lists of Paulis brings: the exponent of i mod 4, and the number of qubits holding differing non-identity Paulis, mod 2^16
pub record FactorOf (l r : List Pauli) (f : Factor) : Type 0 where
  pub exponent : f.phase.0 ≡ phases l r % 4
  pub number : f.clashes ≡ clashes l r % 65536

-- ox and oz hold the product of the two rows, and f is its factor
pub record Product (lx lz rx rz ox oz : List ℕ) (f : Factor) : Type 0 where
  pub x-words : ox ≡ pack has_x (length lx) (mul (unpack lx lz) (unpack rx rz))
  pub z-words : oz ≡ pack has_z (length lx) (mul (unpack lx lz) (unpack rx rz))
  pub factor : FactorOf (unpack lx lz) (unpack rx rz) f

-- outside of the part from a to e nothing has changed
pub record Outside (a e : ℕ) (old new : List ℕ) : Type 0 where
  pub long : length new ≡ length old
  pub before : take a new ≡ take a old
  pub after : drop e new ≡ drop e old

-- the part from a to e holds the product of the same parts of the two others
pub record ProductAt (a e : ℕ) (lx lz rx rz ox oz ox' oz' : List ℕ) (f : Factor) : Type 0 where
  pub here : Product (part a e lx) (part a e lz) (part a e rx) (part a e rz) (part a e ox') (part a e oz') f
  pub x-rest : Outside a e ox ox'
  pub z-rest : Outside a e oz oz'

-- the length of the shortest of three, four and six parts
abbrev pub shortest₃ : List ℕ → List ℕ → List ℕ → ℕ
shortest₃ a b c = min (length a) (min (length b) (length c))

abbrev pub shortest₄ : List ℕ → List ℕ → List ℕ → List ℕ → ℕ
shortest₄ a b c d = min (length a) (shortest₃ b c d)

abbrev pub shortest₆ : List ℕ → List ℕ → List ℕ → List ℕ → List ℕ → List ℕ → ℕ
shortest₆ a b c d e f = min (length a) (min (length b) (shortest₄ c d e f))

-- The product of two rows, written into a third: all six parts up to the end of the shortest, and no word past it.
abbrev pub RowProduct : List ℕ → List ℕ → List ℕ → List ℕ → List ℕ → List ℕ → List ℕ → List ℕ → Factor → Type 0
RowProduct lx lz rx rz ox oz ox' oz' f = ProductAt 0 (shortest₆ lx lz rx rz ox oz) lx lz rx rz ox oz ox' oz' f

-- ---- in place: words read from t on, written from s on, w of them

-- the w words from s on have become the product of those with the w words from t on, and the others are as they were
pub record Multiplied (w s t : ℕ) (xs zs xs' zs' : List ℕ) (f : Factor) : Type 0 where
  pub here : Product (part s (s + w) xs) (part s (s + w) zs) (part t (t + w) xs) (part t (t + w) zs) (part s (s + w) xs') (part s (s + w) zs') f
  pub x-rest : Outside s (s + w) xs xs'
  pub z-rest : Outside s (s + w) zs zs'

-- both parts lie inside, and they are the same or do not overlap
abbrev pub inside : ℕ → ℕ → ℕ → List ℕ → List ℕ → Bool
inside w s t xs zs =
    (nat_le (s + w) (length xs) && nat_le (s + w) (length zs)) && ((nat_le (t + w) (length xs) && nat_le (t + w) (length zs)) && (s == t || (nat_le (s + w) t || nat_le (t + w) s)))

-- the same as facts
pub record Room (w s t : ℕ) (xs zs : List ℕ) : Type 0 where
  pub s-x : s + w ≤ length xs
  pub s-z : s + w ≤ length zs
  pub t-x : t + w ≤ length xs
  pub t-z : t + w ≤ length zs
  pub apart : (s ≡ t) ⊎ ((s + w ≤ t) ⊎ (t + w ≤ s))

-- where they do not, nothing is done, and the factor is that of no qubits
pub record ProductIn (w s t : ℕ) (xs zs xs' zs' : List ℕ) (f : Factor) : Type 0 where
  pub done : inside w s t xs zs ≡ true → Multiplied w s t xs zs xs' zs' f
  pub x-kept : inside w s t xs zs ≡ false → xs' ≡ xs
  pub z-kept : inside w s t xs zs ≡ false → zs' ≡ zs
  pub none : inside w s t xs zs ≡ false → FactorOf [] [] f

-- ---- on a basis state

-- the state st has become what the row makes of it, and e is the exponent
pub record Acted (lx lz st st' : List ℕ) (e : ℕ) : Type 0 where
  pub state : st' ≡ pack (λ (b : Bool). b) (length lx) (act (unpack lx lz) (unbits st))
  pub exponent : e ≡ act_phase (unpack lx lz) (unbits st) % 4

-- all three parts up to the end of the shortest, and no word past it
pub record ActedAt (k : ℕ) (lx lz st st' : List ℕ) (e : ℕ) : Type 0 where
  pub here : Acted (part 0 k lx) (part 0 k lz) (part 0 k st) (part 0 k st') e
  pub rest : Outside 0 k st st'

abbrev pub RowAction : List ℕ → List ℕ → List ℕ → List ℕ → ℕ → Type 0
RowAction lx lz st st' e = ActedAt (shortest₃ lx lz st) lx lz st st' e
