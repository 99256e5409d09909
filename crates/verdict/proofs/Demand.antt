-- Demand 3 for a file, of `verdict_of`: when the line says yes, that our own finished runs, written by our writer, get it, and what two files that get it have in
-- common; and what the other lines say. The run in a file is what replay's theorems speak of. Assumes nothing.
use mathlib.Core.Path.{◌≡◌, refl, sym, ap, ap₂, ◌∙◌, subst}
use mathlib.Core.Logic.{◌↔◌}
use mathlib.Core.List.{List, ◌++◌}
use Prim.Native.Nat.{ℕ, suc, ◌*◌}
use lib.ListN.{take}
use Rattle.encoding.specs.Refusals.{answer_or, left_or}
use Rattle.encoding.proofs.Faults.{or_else, or-none, passed-by}
use Rattle.encoding.proofs.Ranks.{Given}
use Rattle.reduction.specs.Checker as checker
use Rattle.terms.specs.Calls.{Reduces, Done}
use Rattle.terms.proofs.Finished.{finished}
use Rattle.replay.specs.Check.{CheckAnswer, Yes, Refused, given, Task, Claim, claim, check_fault, given_or, verdict_on, working_for, Checked}
use Rattle.replay.specs.Demand.{RightClaim, EveryColumn, NoPhaseAtStart}
use Rattle.replay.proofs.Demand as replay
use Rattle.replay.proofs.OwnLog.{own-passes, own-accepted}
use Rattle.pwl.specs.Bytes.{Bytes}
use Rattle.pwl.specs.File.{Run, Fit, image, read_run, file_lines, file_fault}
use Rattle.pwl.specs.Calls.{task_of, claim_of, run_lines, Writes}
use Rattle.std.specs.Prelude.{Ok}
use Rattle.pwl.proofs.Image.{read-image, image-good, image-read, read_fits}
use Rattle.pwl.proofs.Meaning.{written-image}
use Rattle.verdict.specs.Verdict.{verdict_fault, verdict_of, RightFile}
use Rattle.verdict.proofs.Passing.{fit_passed}
use Rattle.verdict.proofs.Rooms.{run-last}

-- a yes is no refusal
yes-none : (k : ℕ) (v : checker.Verdict) → given_or k v ≡ Yes → k ≡ 0
yes-none k v e = passed-by k (given v) (sym e)

-- what a file gets that is the image of a run: what the checker says of the run
module _ (r : Run) (w : Fit r) where
  pub on-image : verdict_of (image r) ≡ given_or (check_fault (task_of r) (claim_of r)) (verdict_on (task_of r) (claim_of r))
  on-image =
      let e = read-image r w in
      ap₂ (λ (k : ℕ) (g : Run). given_or k (verdict_on (task_of g) (claim_of g)))
      (run-last (image r) ∙ ap₂ (λ (k : ℕ) (g : Run). or_else k (check_fault (task_of g) (claim_of g))) (image-good r w) e) e

-- ---- one file

module _ (s : List ℕ) (b : Bytes s) where
  -- the run in it, checked
  on-run : Checked (task_of (read_run s)) (claim_of (read_run s)) (given_or (check_fault (task_of (read_run s)) (claim_of (read_run s))) (verdict_on (task_of (read_run s)) (claim_of (read_run s))))
      (left_or (check_fault (task_of (read_run s)) (claim_of (read_run s))) (task_of (read_run s)).start (working_for (task_of (read_run s)) (claim_of (read_run s))))
  on-run = record { answer = refl; rows = refl; passed = fit_passed (read_run s) (read_fits s b).body-fits }

  nothing-wrong : verdict_of s ≡ Yes → (file_fault s ≡ 0) × (check_fault (task_of (read_run s)) (claim_of (read_run s)) ≡ 0)
  nothing-wrong e = or-none _ _ (sym (run-last s) ∙ yes-none (verdict_fault s) (verdict_on (task_of (read_run s)) (claim_of (read_run s))) e)

  yes-checked : verdict_of s ≡ Yes
      → Checked (task_of (read_run s)) (claim_of (read_run s)) Yes (left_or (check_fault (task_of (read_run s)) (claim_of (read_run s))) (task_of (read_run s)).start (working_for (task_of (read_run s)) (claim_of (read_run s))))
  yes-checked e =
      let z = nothing-wrong e in
      let k : check_fault (task_of (read_run s)) (claim_of (read_run s)) ≡ verdict_fault s = z.1 ∙ sym (yes-none (verdict_fault s) (verdict_on (task_of (read_run s)) (claim_of (read_run s))) e) in
      let y : given_or (check_fault (task_of (read_run s)) (claim_of (read_run s))) (verdict_on (task_of (read_run s)) (claim_of (read_run s))) ≡ Yes
      = ap (λ (j : ℕ). given_or j (verdict_on (task_of (read_run s)) (claim_of (read_run s)))) k ∙ e in
      subst (λ (v : CheckAnswer). Checked (task_of (read_run s)) (claim_of (read_run s)) v
      (left_or (check_fault (task_of (read_run s)) (claim_of (read_run s))) (task_of (read_run s)).start (working_for (task_of (read_run s)) (claim_of (read_run s))))) y on-run

  right-file : verdict_of s ≡ Yes → RightFile s
  right-file e =
      let z = nothing-wrong e in
      record {
        held = read_run s;
        fits = read_fits s b;
        is = image-read s b z.0;
        passed = z.1;
        right = ((replay.yes-exactly (yes-checked e)).0 refl).1;
      }

  right-yes : RightFile s → verdict_of s ≡ Yes
  right-yes h =
      let r = h.held in
      let e : read_run s ≡ r = sym (ap read_run h.is) ∙ read-image r h.fits in
      let right : RightClaim (task_of (read_run s)) (claim_of (read_run s)) = subst (λ (g : Run). RightClaim (task_of g) (claim_of g)) (sym e) h.right in
      let none : check_fault (task_of (read_run s)) (claim_of (read_run s)) ≡ 0 = ap (λ (g : Run). check_fault (task_of g) (claim_of g)) e ∙ h.passed in
      let file : file_fault s ≡ 0 = sym (ap file_fault h.is) ∙ image-good r h.fits in
      ap (λ (k : ℕ). given_or k (verdict_on (task_of (read_run s)) (claim_of (read_run s))))
      (run-last s ∙ ap (λ (k : ℕ). or_else k (check_fault (task_of (read_run s)) (claim_of (read_run s)))) file)
      ∙ (replay.yes-exactly on-run).1 (none, right)

  -- (1) Yes exactly when the file is right: the image of a run that the table does not refuse, each entry of its log multiplies a listed or extra row by a
  -- different, listed row, the full replay gives the claimed bits and phases, and these stand in reduced form.
  pub yes-exactly : (verdict_of s ≡ Yes) ↔ RightFile s
  yes-exactly = (right-file, right-yes)

-- The number k + 1 is given exactly when its line of the table fits and none before it does: 17 to 20 first, then the checker's.
pub refused-exactly : (s : List ℕ) (k : ℕ) → (verdict_of s ≡ Refused (suc k)) ↔ Given (suc k) (file_lines s ++ run_lines (read_run s))
refused-exactly s k = replay.verdict-refused (verdict_on (task_of (read_run s)) (claim_of (read_run s))) (file_lines s ++ run_lines (read_run s)) k

-- ---- our own files

-- (2) A finished run of ours gets yes. The run r holds it: what is claimed is the rows that `canonicalize` left and the first 2 × k units of the log that it left
-- where it answered that it is done with k entries. `write` wrote it, and the file is the n bytes that it answered.
pub own-file-yes : (r : Run) → Fit r → {log log' : List ℕ} {k t : ℕ}
    → Reduces r.n r.order r.listed r.extra (task_of r).start log (claim_of r).rows log' (Done k t) → r.log ≡ take (2 * k) log'
    → {out out' : List ℕ} {n : ℕ} → Writes r out out' (Ok n) → verdict_of (take n out') ≡ Yes
unfolding answer_or
own-file-yes r w {log} {log'} {k} {t} c e {out} {out'} {n} d =
    let T = task_of r in
    let F = finished r.n r.order r.listed r.extra T.start log k t c in
    let own : claim_of r ≡ claim (take (2 * k) log') (claim_of r).rows = ap (λ (l : List ℕ). claim l (claim_of r).rows) e in
    ap verdict_of (written-image r w d) ∙ on-image r w
    ∙ ap (λ (L : Claim). given_or (check_fault T L) (verdict_on T L)) own
    ∙ ap₂ given_or (own-passes T F) (own-accepted T F)

-- ---- two files of the same start, order and lists

module _ (s t : List ℕ) (bs : Bytes s) (bt : Bytes t) (same : task_of (read_run s) ≡ task_of (read_run t)) (ys : verdict_of s ≡ Yes) (yt : verdict_of t ≡ Yes)
    (every : EveryColumn (task_of (read_run s))) where
  other : Checked (task_of (read_run s)) (claim_of (read_run t)) Yes (left_or (check_fault (task_of (read_run s)) (claim_of (read_run t))) (task_of (read_run s)).start (working_for (task_of (read_run s)) (claim_of (read_run t))))
  other =
      subst (λ (T : Task). Checked T (claim_of (read_run t)) Yes (left_or (check_fault T (claim_of (read_run t))) T.start (working_for T (claim_of (read_run t))))) (sym same) (yes-checked t bt yt)

  -- (3) If the order names every column, they agree in every claimed bit: the X words and the Z words are the same.
  pub words-unique : ((read_run s).cx ≡ (read_run t).cx) × ((read_run s).cz ≡ (read_run t).cz)
  words-unique = replay.words-unique (yes-checked s bs ys) other every

  -- (4) If moreover no product of listed starting rows, repeats allowed, is the identity with a phase exponent other than 0, the phase words are the same.
  pub phases-unique : NoPhaseAtStart (task_of (read_run s)) → (read_run s).cp ≡ (read_run t).cp
  phases-unique free = replay.phases-unique (yes-checked s bs ys) other every free
