-- The tests of a gate: 1 to 5 of the set, then 6, then 21; and what no refusal leaves. Assumes nothing.
use mathlib.Core.Path.{◌≡◌, refl, sym, ap, ap₂, ◌∙◌}
use mathlib.Core.Bool.{Bool, true, false, cond}
use Prim.Native.Nat.{ℕ}
use native.Mathlib.Omega.{arith}
use borrow.Author.Tests.{leb-false, eqb-false}
use lib.Dec.{leb}
use Rattle.encoding.specs.Limits.{words_of}
use Rattle.encoding.specs.Set.{Mem, Valid}
use Rattle.encoding.specs.Refusals.{set_lines, done_or}
use Rattle.encoding.specs.declared.Refusal.{Refusal}
use Rattle.encoding.proofs.Faults.{or_else, not-large, first_by, next_by}
use Rattle.encoding.proofs.Scan.{none_of}
use Rattle.encoding.proofs.Sets.{sound-when}
use Rattle.std.specs.Prelude.{Result, Ok, Err, IfOk}
use Rattle.encoding.specs.Ranks.{by_rank}
use Rattle.encoding.proofs.Ranks.{rank-append}
use Rattle.gates.specs.Places.{Places}
use Rattle.gates.specs.Gates.{touched}
use Rattle.gates.specs.declared.Gate.{Gate}
use Rattle.gates.specs.declared.Gate.TheVariants as gate
use Rattle.clifford.specs.Calls.{large_qubit, one_qubit_gate, gate_lines, gate_fault}
use Rattle.clifford.specs.Workers.{Ready}

pub places_of : (n : ℕ) (g : Gate) → large_qubit n g ≡ false → one_qubit_gate g ≡ false → Places n (touched g)
places_of n (gate.H q) e f = (leb-false n q.0 e, (tt, tt))
places_of n (gate.S q) e f = (leb-false n q.0 e, (tt, tt))
places_of n (gate.CX c t) e f =
    let p = none_of (leb n c.0) (leb n t.0) e in
    (leb-false n c.0 p.0, ((eqb-false c.0 t.0 f, tt), (leb-false n t.0 p.1, (tt, tt))))

pub two_none : (s t : Bool) → ◌≡◌ {A = ℕ} (cond s 6 (cond t 21 0)) 0 → (s ≡ false) × (t ≡ false)
two_none true t q = absurd (omega (arith, q))
two_none false t q = (refl, not-large 20 t q)

module _ (n : ℕ) (M : Mem) (g : Gate) where
  two-lines : by_rank (gate_lines n g) ≡ cond (large_qubit n g) 6 (cond (one_qubit_gate g) 21 0)
  unfolding by_rank
  two-lines = refl

  pub fault-is : gate_fault n M g ≡ or_else (by_rank (set_lines n M)) (cond (large_qubit n g) 6 (cond (one_qubit_gate g) 21 0))
  fault-is = rank-append (set_lines n M) (gate_lines n g) refl ∙ ap (or_else (by_rank (set_lines n M))) two-lines

  module _ {r : Result Unit Refusal} (by : r ≡ done_or (by_rank (set_lines n M))) where
    -- a refusal of the set is the call's
    pub set-refused : {e : Refusal} → r ≡ Err e → Err e ≡ done_or (gate_fault n M g)
    set-refused h = first_by (by_rank (set_lines n M)) (cond (large_qubit n g) 6 (cond (one_qubit_gate g) 21 0)) tt by h tt ∙ ap done_or (sym fault-is)

    -- where the set has none, the gate's tests are all that is left
    pub gate-told : r ≡ Ok tt → (a b : Bool) → large_qubit n g ≡ a → one_qubit_gate g ≡ b → done_or (cond a 6 (cond b 21 0)) ≡ done_or (gate_fault n M g)
    gate-told h a b ea eb =
        ap₂ (λ (s t : Bool). done_or (cond s 6 (cond t 21 0))) (sym ea) (sym eb)
        ∙ next_by (by_rank (set_lines n M)) (cond (large_qubit n g) 6 (cond (one_qubit_gate g) 21 0)) tt by h tt refl
        ∙ ap done_or (sym fault-is)

    pub gate-ready : IfOk r (λ _. Valid n (words_of n) M) → r ≡ Ok tt → large_qubit n g ≡ false → one_qubit_gate g ≡ false → Ready n g M
    gate-ready v h ea eb = record { sound = sound-when n M by v h; places = places_of n g ea eb }
