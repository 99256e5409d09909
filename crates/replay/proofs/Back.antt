-- Undo after replay, and replay after undo, give back every row, of rows of n qubits with exponents below 4, for entries whose two numbers differ and are
-- rows. Assumes nothing.
use mathlib.Core.Path.{◌≡◌, refl, sym, ap, ap₂, ◌∙◌, fun_ext}
use mathlib.Core.Bool.{cond}
use mathlib.Core.List.{List, [], ◌∷◌}
use mathlib.Core.Option.{none}
use Prim.Native.Nat.{ℕ, ◌<◌, ◌≤◌}
use native.Mathlib.Omega.{arith}
use borrow.Author.Tests.{eq-eqb, ne_eqb}
use lib.ListN.{length}
use Rattle.pauli.specs.Row.{Row, mul_row}
use Rattle.encoding.proofs.Memory.{Proper}
use Rattle.reduction.specs.Lists.{All}
use Rattle.reduction.specs.Rule.{Entry, mul_at}
use Rattle.reduction.specs.Replay.{replay}
use Rattle.reduction.specs.Checker.{first_bad}
use Rattle.reduction.specs.Demand.{Asked, Good}
use Rattle.reduction.proofs.Lists.{all-mono, in_left}
use Rattle.reduction.proofs.Entries.{bad-none}
use Rattle.reduction.proofs.Run.{mul_at-ind}
use Rattle.terms.proofs.Finished.{proper-mul, pad-long}
use Rattle.replay.specs.Undo.{inverse, mul_inverse, undo}
use Rattle.replay.proofs.Inverse.{mul-back, back-mul}

-- both numbers of the entry are rows, and they differ
pub record Apart (m : ℕ) (e : Entry) : Type 0 where
  pub target-in : e.target < m
  pub source_in : e.source < m
  pub other : e.target ≡ e.source → ⊥

-- entries that are good are
pub apart : {N m : ℕ} {order listed extra : List ℕ} → Asked N m order listed extra → (es : List Entry) → All (Good listed extra) es → All (Apart m) es
apart {N} {m} {order} {listed} {extra} A es g =
    all-mono (λ e h. record { target-in = A.rows_in e.target h.target-in; source_in = A.rows_in e.source (in_left e.source listed extra h.source_in); other = h.other }) es g

-- ---- one entry

module _ {R : Type 0} (f g : R → R → R) where
  -- f at row a, then g at row a: the source is as it was
  twice : (σ : ℕ → R) (a b : ℕ) → (a ≡ b → ⊥) → g (f (σ a) (σ b)) (σ b) ≡ σ a → mul_at g (mul_at f σ a b) a b ≡ σ
  unfolding mul_at
  twice σ a b ne e =
      fun_ext (λ k.
      mul_at-ind g (λ (r : R). r ≡ σ k) (mul_at f σ a b) a b k
      (λ q. ap₂ g (ap (λ t. cond t (f (σ a) (σ b)) (σ a)) (eq-eqb a a refl)) (ap (λ t. cond t (f (σ a) (σ b)) (σ b)) (ne_eqb b a (λ z. ne (sym z)))) ∙ e ∙ ap σ (sym q))
      (λ q. ap (λ t. cond t (f (σ a) (σ b)) (σ k)) (ne_eqb k a q)))

module _ {n m : ℕ} {σ : ℕ → Row} (P : Proper n m σ) (e : Entry) (h : Apart m e) where
  long : length (σ e.source).ps ≤ length (σ e.target).ps
  long = omega (arith, P.long e.source h.source_in, P.long e.target h.target-in)

  pub entry-back : mul_at (mul_inverse n) (mul_at (mul_row n) σ e.target e.source) e.target e.source ≡ σ
  entry-back =
      twice (mul_row n) (mul_inverse n) σ e.target e.source h.other
      (mul-back n (σ e.target) (σ e.source) long (P.small e.target h.target-in) (P.small e.source h.source_in))

  pub back-entry : mul_at (mul_row n) (mul_at (mul_inverse n) σ e.target e.source) e.target e.source ≡ σ
  back-entry =
      twice (mul_inverse n) (mul_row n) σ e.target e.source h.other
      (back-mul n (σ e.target) (σ e.source) long (P.small e.target h.target-in) (P.small e.source h.source_in))

-- ---- a whole log

-- rows of n qubits stay so
proper-back : {n m : ℕ} {σ : ℕ → Row} (a b : ℕ) → a < m → b < m → Proper n m σ → Proper n m (mul_at (mul_inverse n) σ a b)
unfolding mul_row inverse
proper-back {n} {m} {σ} a b ha hb P =
    record {
      long = λ r h. mul_at-ind (mul_inverse n) (λ (s : Row). length s.ps ≡ n) σ a b r (λ _. pad-long n (σ a).ps (σ b).ps (P.long a ha) (P.long b hb)) (λ _. P.long r h);
      small = λ r h. mul_at-ind (mul_inverse n) (λ (s : Row). s.p < 4) σ a b r (λ _. omega arith) (λ _. P.small r h);
    }

pub proper-undo : {n m : ℕ} (es : List Entry) (σ : ℕ → Row) → All (Apart m) es → Proper n m σ → Proper n m (undo n σ es)
unfolding undo
proper-undo [] σ h P = P
proper-undo (e ∷ es) σ h P = proper-back e.target e.source h.0.target-in h.0.source_in (proper-undo es σ h.1 P)

pub undo-replay : {n m : ℕ} (es : List Entry) (σ : ℕ → Row) → All (Apart m) es → Proper n m σ → undo n (replay (mul_row n) σ es) es ≡ σ
unfolding undo replay
undo-replay [] σ h P = refl
undo-replay {n} (e ∷ es) σ h P =
    ap (λ τ. mul_at (mul_inverse n) τ e.target e.source)
    (undo-replay es (mul_at (mul_row n) σ e.target e.source) h.1 (proper-mul e.target e.source h.0.target-in h.0.source_in P))
    ∙ entry-back P e h.0

pub replay-undo : {n m : ℕ} (es : List Entry) (σ : ℕ → Row) → All (Apart m) es → Proper n m σ → replay (mul_row n) (undo n σ es) es ≡ σ
unfolding undo replay
replay-undo [] σ h P = refl
replay-undo {n} (e ∷ es) σ h P =
    ap (λ τ. replay (mul_row n) τ es) (back-entry (proper-undo es σ h.1 P) e h.0) ∙ replay-undo es σ h.1 P

-- for entries that all pass the checker's test, of numbers that refusals 6 and 7 passed
module _ {n N m : ℕ} {order listed extra : List ℕ} (A : Asked N m order listed extra) (es : List Entry) (none-bad : first_bad listed extra 0 es ≡ none) (σ : ℕ → Row) (P : Proper n m σ) where
  pub log_back : undo n (replay (mul_row n) σ es) es ≡ σ
  log_back = undo-replay es σ (apart A es (bad-none listed extra 0 es none-bad)) P

  pub log-forth : replay (mul_row n) (undo n σ es) es ≡ σ
  log-forth = replay-undo es σ (apart A es (bad-none listed extra 0 es none-bad)) P
