-- What docs/PWL.md says of files, of the calls' contracts: what was written is read back, no two files hold one run, counts that promise more than there is
-- are 19, and the contracts leave no choice. Assumes nothing.
use Rattle.pwl.proofs.Kit.{◌≡◌, sym, ap, ◌∙◌, false, List, ◌++◌, ℕ, ◌+◌, ◌*◌, ◌<◌, arith, lt-ltb, length, drop, take, take_at, Result, Ok, Refusal}
use Rattle.encoding.specs.Ranks.{by_rank}
use Rattle.encoding.specs.Refusals.{answer_or, left_or}
use Rattle.encoding.proofs.Faults.{value-is}
use Rattle.pwl.specs.declared.Front.{Front}
use Rattle.pwl.specs.Bytes.{Bytes}
use Rattle.pwl.specs.File.{Run, front_for, front_at, image, shapes_by, bytes_in, whole_len, read_run, bad_mark, bad_version, file_fault, Fit}
use Rattle.pwl.specs.Calls.{opened, write_fault, Writes, Outputs, Reads}
use Rattle.pwl.proofs.Image.{on-image, read-image, image-good, image-read}

-- ---- files and runs

-- No two files hold one run.
pub one-file : (s t : List ℕ) → Bytes s → Bytes t → file_fault s ≡ 0 → file_fault t ≡ 0 → read_run s ≡ read_run t → s ≡ t
one-file s t bs bt es et e = sym (image-read s bs es) ∙ ap image e ∙ image-read t bt et

-- A count alone may promise more bytes than there are, and any sum of them: the file is short. No number here has a bound, so nothing wraps.
pub promised : (s : List ℕ) → bad_mark s ≡ false → bad_version s ≡ false → length s < whole_len (front_at s) → file_fault s ≡ 19
unfolding by_rank
promised s e f h = simp (e, f, lt-ltb (length s) (whole_len (front_at s)) h)

pub counts-promise : (s : List ℕ) → bad_mark s ≡ false → bad_version s ≡ false
    → length s < 2 * (front_at s).order + 2 * (front_at s).listed + 2 * (front_at s).extra + 4 * (front_at s).entries → file_fault s ≡ 19
unfolding whole_len bytes_in shapes_by
counts-promise s e f h = promised s e f (omega (arith, h))

-- ---- what was written is read back

module _ (r : Run) (w : Fit r) {out out' : List ℕ} {n : ℕ} (c : Writes r out out' (Ok n)) where
  -- the first n bytes of the output are the image
  pub written-image : take n out' ≡ image r
  written-image =
      let t = value-is (write_fault r out) (length (image r)) n (sym c.answer) in
      ap (take n) (c.bytes ∙ ap (λ (f : ℕ). left_or f out (image r ++ drop (length (image r)) out)) t.0)
      ∙ take_at (image r) (drop (length (image r)) out) n t.1

  -- and open as the run's front, and read as the run
  pub written-open : opened (take n out') ≡ Ok (front_for r)
  unfolding answer_or
  written-open =
      ap opened written-image ∙ ap (λ (f : ℕ). answer_or f (front_at (image r))) (image-good r w) ∙ ap (λ (h : Front). Ok h) (on-image r w).numbers

  pub written_read : read_run (take n out') ≡ r
  written_read = ap read_run written-image ∙ read-image r w

-- ---- the contracts leave no choice

pub write-determined : (r : Run) {out p p' : List ℕ} {a a' : Result ℕ Refusal} → Writes r out p a → Writes r out p' a' → (a ≡ a') × (p ≡ p')
write-determined r c d = (c.answer ∙ sym d.answer, c.bytes ∙ sym d.bytes)

pub read-determined : (s : List ℕ) {o p p' : Outputs} {a a' : Result Front Refusal} → Reads s o p a → Reads s o p' a' → (a ≡ a') × (p ≡ p')
read-determined s c d = (c.answer ∙ sym d.answer, c.left ∙ sym d.left)
