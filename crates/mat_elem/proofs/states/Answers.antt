-- What the call answers, from what its parts gave: a number of the table, or the run's sum, or 16; and exactly when it is 16.
-- The numbers 1 to 10 are below 16, so 16 is the run's alone. Assumes nothing.
use Rattle.std.proofs.Common.{Option, Result, Ok, Err, ℤ, ◌≡◌, ℕ, zero, suc, Bool, true, false, cond, ◌↔◌, sym, refl, ap, ◌∙◌, arith}
use Rattle.encoding.specs.Ranks.{by_rank}
use Rattle.encoding.specs.Refusals.{answer_or, done_or}
use Rattle.encoding.specs.declared.Refusal.{Refusal}
use Rattle.encoding.proofs.Faults.{passed-by}
use Rattle.encoding.proofs.Ranks.{holds_at}
use Rattle.checked.specs.declared.Complex.{Complex}
use Rattle.mat_elem.specs.Workers.{over_bras, total_or}
use Rattle.mat_elem.specs.Sums.{Refused}
use Rattle.mat_elem.specs.states.Sums.{Total, Sum, Terms, State, Running, vector_lines, all_pairs, total, total_of}
use Rattle.mat_elem.proofs.states.Pairs.{run-told, total-told}

-- 16 is none of the numbers of the lines
none-sixteen : (a b c d f : Bool) → ◌≡◌ {A = ℕ} (cond a 1 (cond b 2 (cond c 3 (cond d 4 (cond f 10 0))))) 16 → ⊥
none-sixteen true b c d f e = omega (arith, e)
none-sixteen false true c d f e = omega (arith, e)
none-sixteen false false true d f e = omega (arith, e)
none-sixteen false false false true f e = omega (arith, e)
none-sixteen false false false false true e = omega (arith, e)
none-sixteen false false false false false e = omega (arith, e)

module _ (n : ℕ) (A : Terms) (bra ket : State) where
  module _ {f : Result Unit Refusal} (by : f ≡ done_or (by_rank (vector_lines n A bra ket))) where
    pub answer-refused : {e : Refusal} → f ≡ Err e → Err e ≡ total_of n A bra ket
    unfolding total_of answer_or
    answer-refused {e} h = go (by_rank (vector_lines n A bra ket)) (sym h ∙ by)
      where
        go : (k : ℕ) → Err e ≡ done_or k → Err e ≡ total k (all_pairs A bra ket)
        go zero h = cc
        go (suc k) h = let q : e ≡ record { 0 = suc k } = cc in ap (λ (r : Refusal). Err r) q

    pub no-number : {u : Unit} → f ≡ Ok u → by_rank (vector_lines n A bra ket) ≡ 0
    no-number h = passed-by (by_rank (vector_lines n A bra ket)) tt (sym h ∙ by)

    pub answer-run : {u : Unit} → f ≡ Ok u → {s : Option (Complex ℤ)} {r : Total} → s ≡ over_bras A bra ket → r ≡ total_or s → r ≡ total_of n A bra ket
    unfolding total_of
    answer-run h q p = rw (no-number h) (p ∙ ap total_or (q ∙ run-told A bra ket) ∙ total-told (all_pairs A bra ket))

  -- 16 exactly when nothing else is refused and some number on the way leaves i64
  not-sixteen : by_rank (vector_lines n A bra ket) ≡ 16 → ⊥
  unfolding by_rank
  not-sixteen e =
      let t = holds_at (vector_lines n A bra ket) in
      none-sixteen (t 0) (t 1) (t 2) (t 3) (t 4) e

  sixteen : (k : ℕ) (r : Running) → (k ≡ 16 → ⊥) → total k r ≡ Refused 16 → (k ≡ 0) × (r.fits ≡ false)
  sixteen zero r h q = go r.fits q
    where
      go : (f : Bool) → cond f (Sum r.sum.re r.sum.im) (Refused 16) ≡ Refused 16 → (◌≡◌ {A = ℕ} 0 0) × (f ≡ false)
      go true z = let no : ◌≡◌ {A = ℕ} 0 1 = cc in absurd (omega arith)
      go false z = (refl, refl)
  sixteen (suc k) r h q = let z : ◌≡◌ {A = Refusal} (record { 0 = suc k }) (record { 0 = 16 }) = cc in absurd (h (ap (λ (r : Refusal). r.0) z))

  pub sixteen-when : (total_of n A bra ket ≡ Refused 16) ↔ ((by_rank (vector_lines n A bra ket) ≡ 0) × ((all_pairs A bra ket).fits ≡ false))
  unfolding total_of
  sixteen-when = (λ q. sixteen (by_rank (vector_lines n A bra ket)) (all_pairs A bra ket) not-sixteen q, λ h. rw (h.0, h.1))
