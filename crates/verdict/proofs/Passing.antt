-- What a run leaves that the table does not refuse: row sets, an order and lists. Words of eight bytes fit, so that a set that no line fits is a
-- row set. Assumes nothing.
use mathlib.Core.Path.{◌≡◌, refl}
use mathlib.Core.List.{List, [], ◌∷◌}
use Prim.Native.Nat.{ℕ, zero, suc, ◌^◌, ◌<◌}
use native.Mathlib.Omega.{arith}
use lib.ListN.{length}
use Rattle.encoding.specs.Set.{count}
use Rattle.encoding.specs.Refusals.{set_lines}
use Rattle.encoding.specs.Ranks.{by_rank}
use Rattle.encoding.proofs.Memory.{valid-of}
use Rattle.encoding.proofs.WordLaws.{Fit}
use Rattle.encoding.proofs.Sets.{sound-of}
use Rattle.terms.proofs.Finished.{none-refused}
use Rattle.terms.proofs.Answers.{reduce-told}
use Rattle.replay.specs.Check.{Task, Claim, check_fault, TaskPassed, Passed}
use Rattle.replay.proofs.Faults.{check-none}
use Rattle.pwl.specs.Bytes.{Below}
use Rattle.pwl.specs.File.{Run, front, body, PartsFit}
use Rattle.pwl.specs.File as file
use Rattle.pwl.specs.Calls.{task_of, claim_of}
use Rattle.pwl.proofs.Writes.{shaped}

module _ (T : Task) (L : Claim) (z : check_fault T L ≡ 0) where
  pub start_none : by_rank (set_lines T.n T.start) ≡ 0
  start_none = (none-refused T.n T.start T.order T.listed T.extra (check-none T L z).0).0

  module _ (fx : Fit T.start.xs) (fz : Fit T.start.zs) (fe : Fit T.start.es) (gx : Fit L.rows.xs) (gz : Fit L.rows.zs) (ge : Fit L.rows.es)
      (many : count L.rows ≡ count T.start) where
    task-passed : TaskPassed T
    task-passed =
        let p = none-refused T.n T.start T.order T.listed T.extra (check-none T L z).0 in
        reduce-told T.n T.start T.order T.listed T.extra (sound-of T.n T.start refl (λ e. valid-of T.n T.start fx fz fe e) p.0) p.1

    pub passed-of : Passed T L.rows
    passed-of = record { of-task = task-passed; of-claim = record { claimed-set = valid-of T.n L.rows gx gz ge (check-none T L z).1; as_many = many } }

-- ---- a run whose numbers fit their bytes

below-fit : (l : List ℕ) → Below (256 ^ 8) l → Fit l
unfolding Below
below-fit [] h k = record { fits = omega arith }
below-fit (x ∷ l) h zero = record { fits = omega (arith, h.0) }
below-fit (x ∷ l) h (suc k) = below-fit l h.1 k

pub fit_passed : (r : Run) → PartsFit (body r) → check_fault (task_of r) (claim_of r) ≡ 0 → Passed (task_of r) (claim_of r).rows
unfolding PartsFit body
fit_passed r (o, (l, (e, (x, (z, (p, (g, (cx, (cz, (cp, _)))))))))) n =
    passed-of (task_of r) (claim_of r) n (below-fit r.x x) (below-fit r.z z) (below-fit r.p p) (below-fit r.cx cx) (below-fit r.cz cz) (below-fit r.cp cp) refl

-- A run whose numbers fit their bytes, as those of slices of u16 and u64 do, and that the table does not refuse has an image.
pub slices-fit : (r : Run) → PartsFit (body r) → length r.order < 2 ^ 64 → length r.listed < 2 ^ 64 → length r.extra < 2 ^ 64 → length r.log < 2 ^ 64
    → check_fault (task_of r) (claim_of r) ≡ 0 → file.Fit r
unfolding front PartsFit Below
slices-fit r b lo ll le lg z =
    let h = shaped r z (fit_passed r b z) in
    record {
      front_fits = (
        (omega arith, tt),
        (
          (omega arith, (omega (arith, h.small_n), (omega (arith, h.small-m), tt))),
          ((omega (arith, lo), (omega (arith, ll), (omega (arith, le), (omega (arith, lg), tt)))), tt),
        ),
      );
      body-fits = b;
      long = h.long;
    }
