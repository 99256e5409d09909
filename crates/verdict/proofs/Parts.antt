-- What was read is lent on part by part: the run's parts stand one behind the other at the start of the outputs, so that each lent part is one of
-- them, and the checker is asked about the run in the file. Assumes nothing.
use mathlib.Core.Path.{◌≡◌, refl, sym, ap, ap₂, ◌∙◌, subst}
use mathlib.Core.List.{List, [], ◌++◌, append_assoc}
use Prim.Native.Nat.{ℕ, ◌+◌, ◌*◌, ◌-◌, ◌<◌, ◌≤◌}
use native.Mathlib.Omega.{arith}
use lib.ListN.{length, take, drop, length-replicate}
use Rattle.encoding.specs.Set.{part}
use Rattle.encoding.specs.Refusals.{left_or}
use Rattle.encoding.specs.Ranks.{by_rank}
use Rattle.encoding.specs.declared.Refusal.{Refusal}
use Rattle.encoding.proofs.Faults.{refusing, value-is}
use Rattle.replay.specs.Check.{CheckAnswer, given, verdict_on}
use Rattle.std.specs.Prelude.{Option, None, Some, Result, Ok, Err}
use Rattle.pwl.specs.declared.Front.{Front}
use Rattle.pwl.specs.File.{Run, run, run_by, run_of, read_parts, shapes_by, read_run, front_at}
use Rattle.pwl.specs.Calls.{task_of, claim_of, run_lines, Outputs, filled_by, read_fault, Reads}
use Rattle.pwl.proofs.Kit.{length-append, drop_at, take_at}
use Rattle.pwl.proofs.Round.{length-nums}
use Rattle.verdict.specs.declared.Ends.{Ends}
use Rattle.verdict.specs.Verdict.{answer_on, verdict_of, most}
use Rattle.verdict.specs.Workers.{Room, Ended, run_in, TakenFrom, made}
use Rattle.verdict.proofs.Rooms.{none-of-run, read-roomy, room-enough}

-- ---- one part behind another

mid : (a b t : List ℕ) {xs : List ℕ} (i j : ℕ) → xs ≡ a ++ (b ++ t) → i ≡ length a → j ≡ i + length b → part i j xs ≡ b
mid a b t {xs} i j e ei ej =
    let d : j - i ≡ length b = omega (arith, ej) in
    ap₂ (λ (k : ℕ) (l : List ℕ). take k l) d (ap (drop i) e ∙ drop_at a (b ++ t) i (sym ei)) ∙ take_at b t (length b) refl

module _ (a b c d t : List ℕ) where
  at_1 : (a ++ (b ++ (c ++ d))) ++ t ≡ a ++ ((b ++ (c ++ d)) ++ t)
  at_1 = append_assoc a (b ++ (c ++ d)) t

  at-2 : (a ++ (b ++ (c ++ d))) ++ t ≡ a ++ (b ++ ((c ++ d) ++ t))
  at-2 = at_1 ∙ ap (λ (l : List ℕ). a ++ l) (append_assoc b (c ++ d) t)

  at-3 : (a ++ (b ++ (c ++ d))) ++ t ≡ (a ++ b) ++ (c ++ (d ++ t))
  at-3 = at-2 ∙ ap (λ (l : List ℕ). a ++ (b ++ l)) (append_assoc c d t) ∙ sym (append_assoc a b (c ++ (d ++ t)))

  at-4 : (a ++ (b ++ (c ++ d))) ++ t ≡ ((a ++ b) ++ c) ++ (d ++ t)
  at-4 = at-3 ∙ sym (append_assoc (a ++ b) c (d ++ t))

runs-are : (n m : ℕ) (r : Run) {a b c x z p l u v w : List ℕ} → n ≡ r.n → m ≡ r.m → a ≡ r.order → b ≡ r.listed → c ≡ r.extra → x ≡ r.x → z ≡ r.z → p ≡ r.p → l ≡ r.log
    → u ≡ r.cx → v ≡ r.cz → w ≡ r.cp → run n m a b c x z p l u v w ≡ r
runs-are n m r e1 e2 e3 e4 e5 e6 e7 e8 e9 e10 e11 e12 = rw (e1, e2, e3, e4, e5, e6, e7, e8, e9, e10, e11, e12)

-- where the parts of a run end
record EndsOf (r : Run) (e : Ends) : Type 0 where
  pub order : e.order ≡ length r.order
  pub listed : e.listed ≡ e.order + length r.listed
  pub extra : e.extra ≡ e.listed + length r.extra
  pub log : e.log ≡ e.extra + length r.log
  pub x : e.words ≡ length r.x
  pub z : e.words ≡ length r.z
  pub p : e.phases ≡ length r.p
  pub cx : e.words ≡ length r.cx
  pub cz : e.words ≡ length r.cz
  pub cp : e.phases ≡ length r.cp

-- the run that was read lies in its outputs
run-back : (r : Run) (e : Ends) (o : Outputs) → EndsOf r e → run_in r.n r.m e (filled_by r o) ≡ r
unfolding run_in
run-back r e o h =
    let a = r.order in
    let b = r.listed in
    let c = r.extra in
    let d = r.log in
    let t = drop (length (a ++ (b ++ (c ++ d)))) o.units in
    let x = r.cx in
    let z = r.cz in
    let p = r.cp in
    let s = drop (length (x ++ (z ++ p))) o.claimed in
    let lab = length-append a b in
    let labc = length-append (a ++ b) c in
    let lxz = length-append x z in
    runs-are r.n r.m r refl refl
    (mid [] a ((b ++ (c ++ d)) ++ t) 0 e.order (at_1 a b c d t) refl (omega (arith, h.order)))
    (mid a b ((c ++ d) ++ t) e.order e.listed (at-2 a b c d t) h.order h.listed)
    (mid (a ++ b) c (d ++ t) e.listed e.extra (at-3 a b c d t) (omega (arith, h.order, h.listed, lab)) h.extra)
    (mid [] r.x _ 0 e.words refl refl (omega (arith, h.x)))
    (mid [] r.z _ 0 e.words refl refl (omega (arith, h.z)))
    (mid [] r.p _ 0 e.phases refl refl (omega (arith, h.p)))
    (mid ((a ++ b) ++ c) d t e.extra e.log (at-4 a b c d t) (omega (arith, h.order, h.listed, h.extra, lab, labc)) h.log)
    (mid [] x ((z ++ p) ++ s) 0 e.words (append_assoc x (z ++ p) s) refl (omega (arith, h.cx)))
    (mid x z (p ++ s) e.words (e.words + e.words) (append_assoc x (z ++ p) s ∙ ap (λ (l : List ℕ). x ++ l) (append_assoc z p s)) h.cx (omega (arith, h.cz)))
    (mid (x ++ z) p s (e.words + e.words) (e.words + e.words + e.phases)
    (append_assoc x (z ++ p) s ∙ ap (λ (l : List ℕ). x ++ l) (append_assoc z p s) ∙ sym (append_assoc x z (p ++ s))) (omega (arith, h.cx, h.cz, lxz)) (omega (arith, h.cp)))

ends-of-run : (f : Front) (s : List ℕ) (e : Ends) → Ended f e → EndsOf (run_by f s) e
unfolding run_by run_of read_parts shapes_by
ends-of-run f s e h =
    record {
      order = h.order ∙ sym (length-nums 2 f.order _);
      listed = h.listed ∙ ap₂ ◌+◌ (sym h.order) (sym (length-nums 2 f.listed _));
      extra = h.extra ∙ ap₂ ◌+◌ (sym h.listed) (sym (length-nums 2 f.extra _));
      log = h.log ∙ ap₂ ◌+◌ (sym h.extra) (sym (length-nums 2 (2 * f.entries) _));
      x = h.words ∙ sym (length-nums 8 _ _);
      z = h.words ∙ sym (length-nums 8 _ _);
      p = h.phases ∙ sym (length-nums 8 _ _);
      cx = h.words ∙ sym (length-nums 8 _ _);
      cz = h.words ∙ sym (length-nums 8 _ _);
      cp = h.phases ∙ sym (length-nums 8 _ _);
    }

run-read : (f : Front) (s : List ℕ) (e : Ends) (o : Outputs) → Ended f e → run_in f.n f.m e (filled_by (run_by f s) o) ≡ run_by f s
unfolding run_by run_of
run-read f s e o h = run-back (run_by f s) e o (ends-of-run f s e h)

-- ---- the answer

module _ (s : List ℕ) (h : length s ≤ most) {o' : Outputs} {a : Result Front Refusal} (r : Reads s made o' a) where
  -- a refusal is the file's
  pub refused-is : {x : Refusal} → a ≡ Err x → Err x ≡ verdict_of s
  refused-is e =
      refusing (read_fault s made) (front_at s) r.answer e (given (verdict_on (task_of (read_run s)) (claim_of (read_run s))))
      ∙ ap (λ (k : ℕ). answer_on k (read_run s)) (room-enough s h)

  module _ {f : Front} (ok : a ≡ Ok f) where
    told : (read_fault s made ≡ 0) × (front_at s ≡ f)
    told = value-is (read_fault s made) (front_at s) f (sym r.answer ∙ ok)

    -- what was read had room
    pub roomy-is : Room f 8171 510 510 128 1021
    roomy-is =
        let w = read-roomy s made told.0 in
        subst (λ (f : Front). Room f 8171 510 510 128 1021) told.1
        (record {
          for-units = omega (arith, w.for-units, length-replicate {A = ℕ} 8171 0);
          for-x = omega (arith, w.for-x, length-replicate {A = ℕ} 510 0);
          for-z = omega (arith, w.for-z, length-replicate {A = ℕ} 510 0);
          for-p = omega (arith, w.for-p, length-replicate {A = ℕ} 128 0);
          for-claimed = omega (arith, w.for-claimed, length-replicate {A = ℕ} 1021 0);
        })

    -- and the verdict on the run that lies in the outputs is the one on the file
    pub verdict-is : {e : Ends} → Ended f e → {v : CheckAnswer}
        → v ≡ answer_on (by_rank (run_lines (run_in f.n f.m e o'))) (run_in f.n f.m e o') → v ≡ verdict_of s
    verdict-is {e} d {v} g =
        let z : read_fault s made ≡ 0 = told.0 in
        let left : o' ≡ filled_by (read_run s) made = r.left ∙ ap (λ (k : ℕ). left_or k made (filled_by (read_run s) made)) z in
        let back : run_in (front_at s).n (front_at s).m e o' ≡ read_run s =
        ap (run_in (front_at s).n (front_at s).m e) left ∙ run-read (front_at s) s e made (subst (λ (k : Front). Ended k e) (sym told.1) d) in
        let same : run_in f.n f.m e o' ≡ read_run s = ap (λ (k : Front). run_in k.n k.m e o') (sym told.1) ∙ back in
        g ∙ ap (λ (q : Run). answer_on (by_rank (run_lines q)) q) same
        ∙ ap (λ (k : ℕ). answer_on k (read_run s)) (none-of-run s made z ∙ sym z ∙ room-enough s h)

-- ---- what was taken in

module _ (s : List ℕ) (o o' : Outputs) {t : Option (Result Front Refusal)} (w : TakenFrom s o o' t) where
  pub large_is : t ≡ None → most < length s
  large_is e = let q : TakenFrom s o o' None = subst (λ t. TakenFrom s o o' t) e w in q

  pub read_is : {a : Result Front Refusal} → t ≡ Some a → (length s ≤ most) × Reads s o o' a
  read_is {a} e = let q : TakenFrom s o o' (Some a) = subst (λ t. TakenFrom s o o' t) e w in q
