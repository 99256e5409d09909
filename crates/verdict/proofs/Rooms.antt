-- The outputs have room: the file's length bounds its parts, and the table its rows, so that 14, the last line, never fits and the first line that does is
-- the file's or the checker's. Where the lists end lies within what was filled. Assumes nothing.
use mathlib.Core.Path.{◌≡◌, refl, sym, ap, ◌∙◌}
use mathlib.Core.Bool.{Bool, true, false, cond}
use mathlib.Core.List.{List, ◌++◌}
use Prim.Native.Nat.{ℕ, zero, suc, ◌+◌, ◌*◌, ◌≤◌}
use native.Mathlib.Nat.{suc-ne-zero}
use native.Mathlib.Omega.{arith}
use borrow.Author.Tests.{le-ltb}
use lib.ListN.{length, length-replicate}
use Rattle.encoding.specs.Limits.{words_of, max_rows}
use Rattle.encoding.specs.Set.{phase_units}
use Rattle.encoding.specs.Ranks.{by_rank}
use Rattle.encoding.proofs.Faults.{or_else, or-none}
use Rattle.encoding.proofs.Memory.{within-limits}
use Rattle.pwl.specs.File.{front_at, read_run, run_by, run_of, file_lines, file_fault, whole_len, bytes_in, shapes_by}
use Rattle.pwl.specs.Calls.{task_of, claim_of, run_lines, Outputs, falls_short, room_lines, read_fault}
use Rattle.pwl.specs.Workers.{places_by, places_of}
use Rattle.pwl.proofs.Image.{good}
use Rattle.encoding.proofs.Ranks.{rank-append}
use Rattle.pwl.proofs.Writes.{run-counted}
use Rattle.pwl.proofs.Filling.{room-is, roomy}
use Rattle.verdict.specs.Verdict.{verdict_fault, most}
use Rattle.verdict.specs.Workers.{Room, made}
use Rattle.verdict.proofs.Passing.{start_none}

off : (b : Bool) → ◌≡◌ {A = ℕ} (cond b 14 0) 0 → b ≡ false
off true e = absurd (suc-ne-zero 13 e)
off false e = refl

-- ---- the lines in turn

module _ (s : List ℕ) where
  pub run-last : verdict_fault s ≡ or_else (file_fault s) (by_rank (run_lines (read_run s)))
  run-last =
      rank-append (file_lines s) (run_lines (read_run s)) refl

  module _ (o : Outputs) where
    room-last : read_fault s o ≡ or_else (file_fault s) (or_else (by_rank (run_lines (read_run s))) (by_rank (room_lines (read_run s) o)))
    room-last =
        rank-append (file_lines s) (run_lines (read_run s) ++ room_lines (read_run s) o) refl
        ∙ ap (or_else (file_fault s)) (rank-append (run_lines (read_run s)) (room_lines (read_run s) o) (run-counted (read_run s)))

    in-turn : read_fault s o ≡ 0 → (by_rank (run_lines (read_run s)) ≡ 0) × (by_rank (room_lines (read_run s) o) ≡ 0)
    in-turn z = or-none _ _ (or-none (file_fault s) _ (sym room-last ∙ z)).1

    pub none-of-run : read_fault s o ≡ 0 → by_rank (run_lines (read_run s)) ≡ 0
    none-of-run z = (in-turn z).0

    room-left : read_fault s o ≡ 0 → falls_short (read_run s) o ≡ false
    unfolding by_rank
    room-left z = off (falls_short (read_run s) o) (in-turn z).1

-- ---- what was read had room

pub read-roomy : (s : List ℕ) (o : Outputs) → read_fault s o ≡ 0
    → Room (front_at s) (length o.units) (length o.x) (length o.z) (length o.p) (length o.claimed)
unfolding places_by
read-roomy s o e =
    let h = front_at s in
    let r = roomy (h.order + h.listed + h.extra + 2 * h.entries) (h.m * words_of h.n) (phase_units h.m) (length o.units) (length o.x) (length o.z) (length o.p)
    (length o.claimed) refl (room-is h s (places_of h) refl o refl ∙ room-left s o e) in
    record { for-units = r.0; for-x = r.1; for-z = r.2; for-p = r.3; for-claimed = r.4 }

-- ---- a file that is short enough has room

steps : (f l k : ℕ) → (f ≡ 0 → l ≡ 0 → k ≡ 0) → or_else f (or_else l k) ≡ or_else f l
steps zero zero k h = h refl refl
steps zero (suc l) k h = refl
steps (suc f) l k h = refl

few-rows : (s : List ℕ) → by_rank (run_lines (read_run s)) ≡ 0 → (front_at s).m ≤ max_rows
unfolding run_by run_of
few-rows s z = (within-limits (read_run s).n (task_of (read_run s)).start (start_none (task_of (read_run s)) (claim_of (read_run s)) z)).1

module _ (s : List ℕ) (h : length s ≤ most) where
  enough : file_fault s ≡ 0 → by_rank (run_lines (read_run s)) ≡ 0 → falls_short (read_run s) made ≡ false
  unfolding places_by whole_len bytes_in shapes_by
  enough e z =
      let f = front_at s in
      let q = f.m * words_of f.n in
      let v = phase_units f.m in
      let l = (good s e).sized in
      let m = few-rows s z in
      sym (room-is f s (places_of f) refl made refl)
      ∙ simp (
        le-ltb (length made.units) (f.order + f.listed + f.extra + 2 * f.entries) (omega (arith, l, h, length-replicate {A = ℕ} 8171 0)),
        le-ltb (length made.x) q (omega (arith, l, h, length-replicate {A = ℕ} 510 0)),
        le-ltb (length made.p) v (omega (arith, m, length-replicate {A = ℕ} 128 0)),
        le-ltb (length made.claimed) (q + (q + v)) (omega (arith, l, h, length-replicate {A = ℕ} 1021 0)),
      )

  pub room-enough : read_fault s made ≡ verdict_fault s
  unfolding by_rank
  room-enough =
      room-last s made ∙ steps (file_fault s) (by_rank (run_lines (read_run s))) (by_rank (room_lines (read_run s) made)) (λ e z. ap (λ (b : Bool). cond b 14 0) (enough e z))
      ∙ sym (run-last s)
