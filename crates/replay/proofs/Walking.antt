-- The call `undo`: its refusals are the lines of `undo_lines`, those of the lists before that of the log (`undo-in-turn`), and what is not refused is walked
-- back whole, or not at all. Assumes nothing.
use mathlib.Core.Path.{◌≡◌, refl, sym, ap, ◌∙◌}
use mathlib.Core.List.{List, [], ◌∷◌}
use Prim.Native.Nat.{ℕ, zero, suc}
use lib.ListN.{length}
use Rattle.std.specs.Prelude.{Option, Some, None, Result, Ok, Err}
use Rattle.encoding.specs.Limits.{words_of}
use Rattle.encoding.specs.Set.{Mem, count, rows_of, lay}
use Rattle.encoding.specs.Refusals.{done_or}
use Rattle.encoding.specs.declared.Refusal.{Refusal}
use Rattle.encoding.proofs.Faults.{or_else, refused-by, done_none, kept, made}
use Rattle.encoding.proofs.Memory.{lay-back}
use Rattle.reduction.specs.Log.{pairs}
use Rattle.reduction.specs.Checker.{first_bad}
use Rattle.reduction.proofs.Entries.{bad-none}
use Rattle.encoding.specs.Ranks.{by_rank}
use Rattle.terms.specs.Refused.{reduce_lines, reduce_fault, Reducible}
use Rattle.encoding.proofs.Ranks.{rank-append}
use Rattle.replay.specs.Check.{odd_log}
use Rattle.replay.specs.Workers.{found, mem_taken_back, Walked}
use Rattle.replay.specs.Undo.{Undone, Done, BadEntry, Refused, undo_fault, undone_by, undone_or, back_by, back_for, Undoes}
use Rattle.replay.proofs.Back.{apart}
use Rattle.replay.proofs.TakenBack.{taken-laid}

-- ---- the worker: the first bad entry at place b, or none

module _ (n : ℕ) (listed extra log : List ℕ) {M : Mem} (s : Reducible n [] listed extra M) {b : Option ℕ} (e : found b ≡ first_bad listed extra 0 (pairs log)) where
  pub walk-bad : {i : ℕ} → b ≡ Some i → Walked n listed extra log M M (BadEntry i)
  unfolding back_by
  walk-bad h =
      let o = sym e ∙ ap found h in
      record {
        answer = sym (ap undone_by o);
        rows = sym (lay-back n (words_of n) s.sound.valid) ∙ sym (ap (λ o. lay n (count M) (back_by n o (rows_of n M) (pairs log))) o);
      }

  pub walk-done : {M' : Mem} → b ≡ None → M' ≡ mem_taken_back n (pairs log) M → Walked n listed extra log M M' Done
  unfolding back_by
  walk-done h m =
      let o = sym e ∙ ap found h in
      record {
        answer = sym (ap undone_by o);
        rows =
            m ∙ taken-laid n M (pairs log) s.sound (apart s.asked (pairs log) (bad-none listed extra 0 (pairs log) o))
            ∙ sym (ap (λ o. lay n (count M) (back_by n o (rows_of n M) (pairs log))) o);
      }

-- ---- the call

-- the lists first, then the log
pub undo-in-turn : (n : ℕ) (listed extra log : List ℕ) (M : Mem) → or_else (reduce_fault n M [] listed extra) (by_rank (odd_log (length log) ∷ [])) ≡ undo_fault n M listed extra log
undo-in-turn n listed extra log M = sym (rank-append (reduce_lines n M [] listed extra) (odd_log (length log) ∷ []) refl)

module _ (n : ℕ) (listed extra log : List ℕ) (M : Mem) {f : Result Unit Refusal} (by : f ≡ done_or (undo_fault n M listed extra log)) where
  pub undo-refusing : {e : Refusal} → f ≡ Err e → Undoes n listed extra log M M (Refused e.0)
  undo-refusing {e} h =
      let p = refused-by (undo_fault n M listed extra log) tt (sym h ∙ by) in
      record {
        answer = go e.0 (λ z. p.1 (sym p.0 ∙ z)) ∙ ap (λ k. undone_or k (first_bad listed extra 0 (pairs log))) p.0;
        rows = kept (undo_fault n M listed extra log) tt by h M (back_for n listed extra log M);
      }
    where
      go : (k : ℕ) → (k ≡ 0 → ⊥) → Refused k ≡ undone_or k (first_bad listed extra 0 (pairs log))
      go zero h = absurd (h refl)
      go (suc k) h = refl

  pub undo-walking : {u : Unit} {M' : Mem} {r : Undone} → f ≡ Ok u → Walked n listed extra log M M' r → Undoes n listed extra log M M' r
  undo-walking h w =
      let z = done_none (undo_fault n M listed extra log) (sym by ∙ h) in
      record {
        answer = w.answer ∙ ap (λ k. undone_or k (first_bad listed extra 0 (pairs log))) (sym z);
        rows = w.rows ∙ made (undo_fault n M listed extra log) tt by h M (back_for n listed extra log M);
      }
