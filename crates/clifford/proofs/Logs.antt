-- A log made before a gate replays after it to the conjugated rows: products being kept, so is each entry, and so is their row. Rows past the last one take
-- no part, the log's numbers being below m. Assumes nothing.
use mathlib.Core.Path.{◌≡◌, refl, sym, ap, ap₂, ◌∙◌, fun_ext}
use mathlib.Core.Bool.{Bool, true, false, cond}
use mathlib.Core.List.{List, [], ◌∷◌}
use Prim.Native.Nat.{ℕ, ◌*◌, ◌≤◌, ◌<◌}
use native.Mathlib.Omega.{arith}
use lib.Dec.{eqb}
use Rattle.pauli.specs.Row.{Row, mul_row}
use Rattle.encoding.specs.Limits.{words_of}
use Rattle.encoding.specs.Set.{Mem, count, rows_of, lay}
use Rattle.std.specs.Prelude.{Ok}
use Rattle.encoding.proofs.Memory.{Proper, read-lay, count-lay}
use Rattle.encoding.proofs.Sets.{read-proper}
use Rattle.reduction.specs.Lists.{All}
use Rattle.reduction.specs.Replay.{replay}
use Rattle.reduction.specs.Rule.{Entry, mul_at}
use Rattle.terms.proofs.Finished.{proper-replay}
use Rattle.gates.specs.Places.{Places}
use Rattle.gates.specs.Gates.{touched, conj_row, conj_rows}
use Rattle.gates.specs.declared.Gate.{Gate}
use Rattle.gates.proofs.Kept.{product-kept}
use Rattle.one_qubit.proofs.OneRow.{lay-same}
use Rattle.clifford.specs.Calls.{Conjugates}
use Rattle.clifford.proofs.Meaning.{set-passed, none-fits, laid, places, rows_are}

-- ---- over rows

module _ (n : ℕ) (g : Gate) (h : Places n (touched g)) where
  entry_kept : (σ : ℕ → Row) (a b k : ℕ) → conj_row n g (mul_at (mul_row n) σ a b k) ≡ mul_at (mul_row n) (conj_rows n g σ) a b k
  unfolding mul_at
  entry_kept σ a b k = go (eqb k a)
    where
      go : (t : Bool) → conj_row n g (cond t (mul_row n (σ a) (σ b)) (σ k)) ≡ cond t (mul_row n (conj_row n g (σ a)) (conj_row n g (σ b))) (conj_row n g (σ k))
      go true = product-kept n g h (σ a) (σ b)
      go false = refl

  pub replay-kept : (es : List Entry) (σ : ℕ → Row) (k : ℕ) → conj_row n g (replay (mul_row n) σ es k) ≡ replay (mul_row n) (conj_rows n g σ) es k
  unfolding replay
  replay-kept [] σ k = refl
  replay-kept (e ∷ es) σ k =
      replay-kept es (mul_at (mul_row n) σ e.target e.source) k
      ∙ ap (λ (τ : ℕ → Row). replay (mul_row n) τ es k) (fun_ext (entry_kept σ e.target e.source))

-- an entry's numbers are below m
abbrev pub In : ℕ → Entry → Type 0
In m e = (e.target < m) × (e.source < m)

-- what a replay does to the rows below m is given by these
module _ (n m : ℕ) where
  entry-same : (σ τ : ℕ → Row) → ((k : ℕ) → k < m → σ k ≡ τ k) → (a b : ℕ) → a < m → b < m → (k : ℕ) → k < m → mul_at (mul_row n) σ a b k ≡ mul_at (mul_row n) τ a b k
  unfolding mul_at
  entry-same σ τ h a b ha hb k hk = ap₂ (λ (x y : Row). cond (eqb k a) x y) (ap₂ (mul_row n) (h a ha) (h b hb)) (h k hk)

  replay-same : (es : List Entry) (σ τ : ℕ → Row) → All (In m) es → ((k : ℕ) → k < m → σ k ≡ τ k) → (k : ℕ) → k < m → replay (mul_row n) σ es k ≡ replay (mul_row n) τ es k
  unfolding replay
  replay-same [] σ τ l h k hk = h k hk
  replay-same (e ∷ es) σ τ l h k hk =
      replay-same es (mul_at (mul_row n) σ e.target e.source) (mul_at (mul_row n) τ e.target e.source) l.1
      (entry-same σ τ h e.target e.source l.0.0 l.0.1) k hk

-- ---- in memory: M is the start, R what the log made of it; the gate on both

module _ (n : ℕ) (g : Gate) {M M' R R' : Mem} (es : List Entry) (into : All (In (count M)) es) (done : R ≡ lay n (count M) (replay (mul_row n) (rows_of n M) es))
    (c : Conjugates n g M M' (Ok tt)) (d : Conjugates n g R R' (Ok tt)) where
  wide : n ≤ words_of n * 64
  wide = omega arith

  proper : Proper n (count M) (replay (mul_row n) (rows_of n M) es)
  proper = proper-replay es (rows_of n M) into (read-proper n M (set-passed n M g (none-fits n g c)))

  same_count : count R ≡ count M
  same_count = ap count done ∙ count-lay n (words_of n) (count M) (replay (mul_row n) (rows_of n M) es) wide

  pub log-after-gate : R' ≡ lay n (count M) (replay (mul_row n) (rows_of n M') es)
  log-after-gate =
      laid n g d
      ∙ ap (λ (m : ℕ). lay n m (conj_rows n g (rows_of n R))) same_count
      ∙ lay-same n (count M) (conj_rows n g (rows_of n R)) (replay (mul_row n) (rows_of n M') es)
      (λ k h.
      ap (conj_row n g) (ap (λ (N : Mem). rows_of n N k) done ∙ read-lay n (words_of n) (count M) (replay (mul_row n) (rows_of n M) es) wide k h (proper.long k h) (proper.small k h))
      ∙ replay-kept n g (places n g c) es (rows_of n M) k
      ∙ replay-same n (count M) es (conj_rows n g (rows_of n M)) (rows_of n M') into (λ j l. sym (rows_are n g c j l)) k h)
