-- What writing a file leaves: a run that the table passed is as long as its front says, so that the front's length is that of the image.
-- So 14 of the output is 19 of its length, by the one test of lengths. Assumes nothing.
use Rattle.pwl.proofs.Kit.{◌≡◌, refl, sym, ap, ◌∙◌, subst, Bool, true, false, cond, List, [], ◌∷◌, ◌++◌, ℕ, ◌+◌, ◌*◌, ◌/◌, ◌%◌, ◌≤◌, arith, ltb, ltb-true, ltb-false, lt-ltb, le-ltb, length, drop, Result, Ok, Err, Refusal}
use borrow.Author.Tests.{eqb-false}
use Rattle.std.specs.Result.{result_eq}
use Rattle.encoding.specs.Words.{odd}
use Rattle.encoding.specs.Refusals.{answer_or, done_or, left_or}
use Rattle.encoding.specs.Ranks.{by_rank, place_in, placed, joined}
use Rattle.encoding.proofs.Faults.{or_else, first_by, first-kept, passed-by}
use Rattle.encoding.proofs.Ranks.{counted, rank-append}
use Rattle.encoding.proofs.Exponents.{laid-long}
use Rattle.replay.specs.Check.{Passed}
use Rattle.replay.proofs.Faults.{check-none}
use Rattle.pwl.specs.File.{Run, front_for, body, image, Shape, shape, shapes_by, shapes_of, whole_len, length_lines}
use Rattle.pwl.specs.Calls.{task_of, claim_of, run_lines, short_line, write_fault, ImageWritten, Writes}
use Rattle.pwl.specs.Workers.{Shaped, Imaged}
use Rattle.pwl.proofs.Image.{whole_length}

-- ---- the lines of a run, and lines below them

pub run-counted : (r : Run) → counted (run_lines r) ≡ true
unfolding place_in placed joined
run-counted r = refl

-- ---- what the table leaves

even-log : (r : Run) → by_rank (run_lines r) ≡ 0 → odd (length r.log) ≡ false
even-log r z = (check-none (task_of r) (claim_of r) z).2

halves : (k : ℕ) → odd k ≡ false → k ≡ 2 * (k / 2)
halves k e = omega (arith, eqb-false (k % 2) 1 e)

shapes-are : (a b c x x' z z' p p' l l' y y' u u' q q' : ℕ) → x ≡ x' → z ≡ z' → p ≡ p' → l ≡ l' → y ≡ y' → u ≡ u' → q ≡ q'
    → ◌≡◌ {A = List Shape} (shape 2 a ∷ shape 2 b ∷ shape 2 c ∷ shape 8 x ∷ shape 8 z ∷ shape 8 p ∷ shape 2 l ∷ shape 8 y ∷ shape 8 u ∷ shape 8 q ∷ [])
    (shape 2 a ∷ shape 2 b ∷ shape 2 c ∷ shape 8 x' ∷ shape 8 z' ∷ shape 8 p' ∷ shape 2 l' ∷ shape 8 y' ∷ shape 8 u' ∷ shape 8 q' ∷ [])
shapes-are a b c x x' z z' p p' l l' y y' u u' q q' e1 e2 e3 e4 e5 e6 e7 = rw (e1, e2, e3, e4, e5, e6, e7)

pub shaped : (r : Run) → by_rank (run_lines r) ≡ 0 → Passed (task_of r) (claim_of r).rows → Shaped r
unfolding body shapes_of shapes_by
shaped r z p =
    let s = p.of-task.sound in
    let c = p.of-claim.claimed-set in
    record {
      small_n = omega (arith, s.few-qubits);
      small-m = omega (arith, s.few-rows);
      long =
          shapes-are (length r.order) (length r.listed) (length r.extra) _ _ _ _ _ _ _ _ _ _ _ _ _ _
          s.valid.x-long s.valid.z-long (laid-long r.m s.valid.exponents) (halves (length r.log) (even-log r z))
          c.x-long c.z-long (laid-long r.m c.exponents);
    }

-- ---- the call

-- a length is short exactly when its answer is 19
pub is_short : (E : Unit → Unit → Bool) (F : Refusal → Refusal → Bool) → F (record { 0 = 19 }) (record { 0 = 19 }) ≡ true → F (record { 0 = 20 }) (record { 0 = 19 }) ≡ false
    → (l t : ℕ) {a : Result Unit Refusal} → a ≡ done_or (by_rank (length_lines l t)) → result_eq E F a (Err (record { 0 = 19 })) ≡ ltb l t
unfolding by_rank answer_or
is_short E F same other l t e = ap (λ (a : Result Unit Refusal). result_eq E F a (Err (record { 0 = 19 }))) e ∙ go (ltb l t) (ltb t l)
  where
    go : (b c : Bool) → result_eq E F (done_or (cond b 19 (cond c 20 0))) (Err (record { 0 = 19 })) ≡ b
    go true c = same
    go false true = other
    go false false = refl

module _ (r : Run) (out : List ℕ) (s : Shaped r) where
  pub run_short : ltb (length out) (whole_len (front_for r)) ≡ true → ImageWritten (by_rank (short_line r out ∷ [])) r out out (Err (record { 0 = 14 }))
  unfolding by_rank answer_or
  run_short g =
      let h = ltb-true (length out) (whole_len (front_for r)) g in
      let z : 14 ≡ by_rank (short_line r out ∷ []) = simp (lt-ltb (length out) (length (image r)) (omega (arith, h, whole_length r s.long))) in
      record { answer = ap (λ (f : ℕ). answer_or f (length (image r))) z; bytes = ap (λ (f : ℕ). left_or f out (image r ++ drop (length (image r)) out)) z }

  module _ (g : ltb (length out) (whole_len (front_for r)) ≡ false) where
    pub run_room : length (image r) ≤ length out
    run_room =
        let h = ltb-false (length out) (whole_len (front_for r)) g in
        omega (arith, h, whole_length r s.long)

    pub run_whole : {p : List ℕ} {n : ℕ} → Imaged r out p n → ImageWritten (by_rank (short_line r out ∷ [])) r out p (Ok n)
    unfolding by_rank answer_or
    run_whole {p} {n} w =
        let z : 0 ≡ by_rank (short_line r out ∷ []) = simp (le-ltb (length out) (length (image r)) run_room) in
        let j : 0 + length (image r) ≡ length (image r) = omega arith in
        record {
          answer = ap (λ (k : ℕ). Ok k) w.place ∙ ap (λ (f : ℕ). answer_or f (length (image r))) z;
          bytes =
              w.bytes ∙ ap (λ (j : ℕ). image r ++ drop j out) j
              ∙ ap (λ (f : ℕ). left_or f out (image r ++ drop (length (image r)) out)) z;
        }

module _ (r : Run) (out : List ℕ) {a : Result Unit Refusal} (e : a ≡ done_or (by_rank (run_lines r))) where
  in-turn : write_fault r out ≡ or_else (by_rank (run_lines r)) (by_rank (short_line r out ∷ []))
  in-turn = rank-append (run_lines r) (short_line r out ∷ []) (run-counted r)

  pub write_refused : {x : Refusal} → a ≡ Err x → Writes r out out (Err x)
  write_refused {x} h =
      let f = by_rank (run_lines r) in
      let g = by_rank (short_line r out ∷ []) in
      subst (λ (k : ℕ). ImageWritten k r out out (Err x)) (sym in-turn) (record {
        answer = first_by f g tt e h (length (image r));
        bytes = first-kept f g tt e h out (image r ++ drop (length (image r)) out);
      })

  module _ {u : Unit} (ok : a ≡ Ok u) where
    none : by_rank (run_lines r) ≡ 0
    none = passed-by (by_rank (run_lines r)) tt (sym ok ∙ e)

    pub write_shaped : Passed (task_of r) (claim_of r).rows → Shaped r
    write_shaped p = shaped r none p

    pub write_done : {p : List ℕ} {b : Result ℕ Refusal} → ImageWritten (by_rank (short_line r out ∷ [])) r out p b → Writes r out p b
    write_done {p} {b} w =
        subst (λ (k : ℕ). ImageWritten k r out p b) (sym (in-turn ∙ ap (λ (k : ℕ). or_else k (by_rank (short_line r out ∷ []))) none)) w
