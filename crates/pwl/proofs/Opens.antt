-- What opening a file finds: the front decides 17, 18 and a file that ends inside it, and where it does not, the length decides.
-- What is left of the length is counted down part by part, so that no sum is made that could wrap. Assumes nothing.
use Rattle.pwl.proofs.Kit.{◌≡◌, refl, sym, ap, ◌∙◌, Bool, true, false, cond, not, List, ℕ, ◌+◌, ◌*◌, ◌<◌, ◌≤◌, arith, eqb, ltb, ltb-true, ltb-false, lt-ltb, le-ltb, length, drop, Result, Ok, Err, Refusal}
use Rattle.encoding.specs.Limits.{words_of}
use Rattle.encoding.specs.Set.{phase_units}
use Rattle.encoding.specs.Refusals.{answer_or, done_or}
use Rattle.encoding.specs.Ranks.{by_rank}
use Rattle.encoding.proofs.Faults.{refused-by, passed-by, refusing, passing}
use Rattle.pwl.specs.Bytes.{num}
use Rattle.pwl.specs.declared.Front.{Front}
use Rattle.pwl.specs.File.{mark, version, front_bytes, shapes_by, bytes_in, front_at, whole_len, bad_mark, bad_version, length_lines, file_fault}
use Rattle.pwl.specs.Calls.{opened}
use Rattle.pwl.specs.Workers.{front_fault}
use Rattle.pwl.proofs.Image.{whole-least}

-- ---- the length

pub short : (l t : ℕ) → l < t → Err (record { 0 = 19 }) ≡ done_or (by_rank (length_lines l t))
unfolding answer_or by_rank
short l t h = simp (lt-ltb l t h)

pub long : (l t : ℕ) → t < l → Err (record { 0 = 20 }) ≡ done_or (by_rank (length_lines l t))
unfolding answer_or by_rank
long l t h = simp (le-ltb l t (omega (arith, h)), lt-ltb t l h)

pub right : (l t : ℕ) → l ≡ t → Ok tt ≡ done_or (by_rank (length_lines l t))
unfolding answer_or by_rank
right l t e = simp (le-ltb l t (omega (arith, e)), le-ltb t l (omega (arith, e)))

sizes : (f : Front) (q : ℕ) → q ≡ f.m * words_of f.n
    → 41 + 2 * f.order + 2 * f.listed + 2 * f.extra + 4 * f.entries + (32 * q + 16 * phase_units f.m) ≡ whole_len f
unfolding whole_len bytes_in shapes_by
sizes f q e = omega (arith, e)

pub sized : (len : ℕ) (f : Front) (q v : ℕ) {r : Result Unit Refusal} → q ≡ f.m * words_of f.n → v ≡ phase_units f.m
    → r ≡ done_or (by_rank (length_lines len (41 + 2 * f.order + 2 * f.listed + 2 * f.extra + 4 * f.entries + (32 * q + 16 * v)))) → r ≡ done_or (by_rank (length_lines len (whole_len f)))
sized len f q v e h g = g ∙ ap (λ (t : ℕ). done_or (by_rank (length_lines len t))) (ap (λ (v : ℕ). 41 + 2 * f.order + 2 * f.listed + 2 * f.extra + 4 * f.entries + (32 * q + 16 * v)) h ∙ sizes f q e)

-- ---- the front

pub mark_cut : (s : List ℕ) → length s < 3 → ltb (length s) 3 ≡ bad_mark s
mark_cut s h = simp (lt-ltb (length s) 3 h)

pub mark_read : (s : List ℕ) (v : ℕ) → 3 ≤ length s → v ≡ num 3 s → not (eqb v mark) ≡ bad_mark s
mark_read s v h e = ap (λ (u : ℕ). not (eqb u mark)) e ∙ simp (le-ltb (length s) 3 h)

pub version_cut : (s : List ℕ) → length s < 5 → ltb (length s) 5 ≡ bad_version s
version_cut s h = simp (lt-ltb (length s) 5 h)

pub version_read : (s : List ℕ) (v : ℕ) → 5 ≤ length s → v ≡ num 2 (drop 3 s) → not (eqb v version) ≡ bad_version s
version_read s v h e = ap (λ (u : ℕ). not (eqb u version)) e ∙ simp (le-ltb (length s) 5 h)

module _ (s : List ℕ) where
  pub is_17 : bad_mark s ≡ true → Err (record { 0 = 17 }) ≡ done_or (front_fault s)
  unfolding front_fault answer_or by_rank
  is_17 e = simp e

  pub is_18 : bad_mark s ≡ false → bad_version s ≡ true → Err (record { 0 = 18 }) ≡ done_or (front_fault s)
  unfolding front_fault answer_or by_rank
  is_18 e f = simp (e, f)

  pub is_19 : bad_mark s ≡ false → bad_version s ≡ false → length s < front_bytes → Err (record { 0 = 19 }) ≡ done_or (front_fault s)
  unfolding front_fault answer_or by_rank
  is_19 e f h = simp (e, f, lt-ltb (length s) front_bytes h)

  pub is_0 : bad_mark s ≡ false → bad_version s ≡ false → front_bytes ≤ length s → Ok tt ≡ done_or (front_fault s)
  unfolding front_fault answer_or by_rank
  is_0 e f h = simp (e, f, le-ltb (length s) front_bytes h)

-- where the front is refused, so is the file, and with that number; where it is not, the length decides
stops : (a b c : Bool) (r : ℕ) → (c ≡ true → r ≡ 19) → (◌≡◌ {A = ℕ} (cond a 17 (cond b 18 (cond c 19 0))) 0 → ⊥) → cond a 17 (cond b 18 r) ≡ cond a 17 (cond b 18 (cond c 19 0))
stops true b c r h n = refl
stops false true c r h n = refl
stops false false true r h n = h refl
stops false false false r h n = absurd (n refl)

goes : (a b c : Bool) (r : ℕ) → ◌≡◌ {A = ℕ} (cond a 17 (cond b 18 (cond c 19 0))) 0 → (cond a 17 (cond b 18 r) ≡ r) × (c ≡ false)
goes true b c r e = absurd (omega (arith, e))
goes false true c r e = absurd (omega (arith, e))
goes false false true r e = absurd (omega (arith, e))
goes false false false r e = (refl, refl)

module _ (s : List ℕ) where
  front-stops : (front_fault s ≡ 0 → ⊥) → file_fault s ≡ front_fault s
  unfolding front_fault by_rank
  front-stops n =
      stops (bad_mark s) (bad_version s) (ltb (length s) front_bytes) (by_rank (length_lines (length s) (whole_len (front_at s))))
      (λ e. simp (lt-ltb (length s) (whole_len (front_at s)) (omega (arith, ltb-true (length s) front_bytes e, whole-least (front_at s))))) n

  front_goes : front_fault s ≡ 0 → (file_fault s ≡ by_rank (length_lines (length s) (whole_len (front_at s)))) × (ltb (length s) front_bytes ≡ false)
  unfolding front_fault by_rank
  front_goes e = goes (bad_mark s) (bad_version s) (ltb (length s) front_bytes) (by_rank (length_lines (length s) (whole_len (front_at s)))) e

-- ---- the calls, by what their parts answered

module _ (s : List ℕ) {r : Result Unit Refusal} (by : r ≡ done_or (front_fault s)) where
  pub front_refused : {e : Refusal} → r ≡ Err e → Err e ≡ opened s
  front_refused h =
      let n = (refused-by (front_fault s) tt (sym h ∙ by)).1 in
      refusing (file_fault s) tt (by ∙ ap done_or (sym (front-stops s n))) h (front_at s)

  module _ {u : Unit} (ok : r ≡ Ok u) where
    none : front_fault s ≡ 0
    none = passed-by (front_fault s) tt (sym ok ∙ by)

    pub front_there : front_bytes ≤ length s
    front_there = ltb-false (length s) front_bytes (front_goes s none).1

    module _ {f : Front} (g : f ≡ front_at s) {t : Result Unit Refusal} (size : t ≡ done_or (by_rank (length_lines (length s) (whole_len f)))) where
      decides : t ≡ done_or (file_fault s)
      decides = size ∙ ap (λ (h : Front). done_or (by_rank (length_lines (length s) (whole_len h)))) g ∙ ap done_or (sym (front_goes s none).0)

      pub size_refused : {e : Refusal} → t ≡ Err e → Err e ≡ opened s
      size_refused h = refusing (file_fault s) tt decides h (front_at s)

      pub opens_whole : {v : Unit} → t ≡ Ok v → Ok f ≡ opened s
      opens_whole h = ap (λ (h : Front). Ok h) g ∙ passing (file_fault s) tt decides h (front_at s)
