-- The tests of the table over a file's bytes: number i of a part is the number at its place, so that what is known of lists in memory serves for
-- lists and sets in a file. Assumes nothing.
use Rattle.pwl.proofs.Kit.{◌≡◌, refl, sym, ap, ap₂, ◌∙◌, subst, Bool, true, false, not, ◌||◌, List, [], ◌∷◌, ℕ, suc, ◌+◌, ◌*◌, ◌-◌, ◌/◌, ◌%◌, ◌^◌, ◌<◌, ◌≤◌, arith, eqb, length, get_or, drop, set, eq-eqb, Ok, Err}
use native.Mathlib.Decide.{dec_lt}
use borrow.Author.Tests.{le-leb, lt-leb}
use lib.ListN.{get_or-eq_default}
use mir.Syntax.{w64}
use mir.Val.{Fits}
use Rattle.encoding.specs.Limits.{max_qubits, max_rows, words_of}
use Rattle.encoding.specs.Words.{word}
use Rattle.encoding.specs.Set.{phase_units, Valid}
use Rattle.encoding.specs.Refusals.{answer_or, done_or, some, is_on, too_large, bad_bits, bad_phases, wrong_lengths, set_lines}
use Rattle.encoding.specs.Ranks.{by_rank}
use Rattle.encoding.proofs.Scan.{some-hit, some_more, some_end}
use Rattle.encoding.proofs.Spare.{high, row_last}
use Rattle.encoding.proofs.Exponents.{spare-out}
use Rattle.encoding.proofs.WordLaws.{Fit}
use Rattle.encoding.proofs.Ladder.{stop-4, stop-5, go_on}
use Rattle.encoding.proofs.Memory.{valid-of}
use Rattle.reduction.specs.Lists.{distinct}
use Rattle.terms.specs.Refused.{large_number}
use Rattle.terms.proofs.Scans.{Marking, marked-here, marking-next, marking-end, small, raised, no-large}
use Rattle.pwl.specs.Bytes.{num, nums, Below, Bytes}
use Rattle.pwl.specs.Workers.{set_at}
use Rattle.pwl.proofs.Round.{length-nums, num-lt, bytes_drop}
use Rattle.pwl.proofs.Fetches.{nums_at, nums-from}

-- ---- number i of a list of count numbers from a byte on is v

module _ (count at : ℕ) (s : List ℕ) (i : ℕ) (h : i < count) {v : ℕ} (e : v ≡ num 2 (drop (at + 2 * i) s)) where
  there : i < length (nums 2 count (drop at s))
  there = omega (arith, h, length-nums 2 count (drop at s))

  here : v ≡ get_or (nums 2 count (drop at s)) i 0
  here = e ∙ nums-from 2 count at i s h

  pub large_hit : (limit : ℕ) → limit ≤ v → some (too_large limit) (drop i (nums 2 count (drop at s))) ≡ true
  large_hit limit g = some-hit (too_large limit) 0 (nums 2 count (drop at s)) i there (ap (too_large limit) (sym here) ∙ le-leb limit v g)

  pub large_more : (limit : ℕ) → v < limit → some (too_large limit) (drop (i + 1) (nums 2 count (drop at s))) ≡ some (too_large limit) (drop i (nums 2 count (drop at s)))
  large_more limit g = some_more (too_large limit) 0 (nums 2 count (drop at s)) i there (ap (too_large limit) (sym here) ∙ lt-leb limit v g)

  pub mark-there : (limit : ℕ) → some (too_large limit) (nums 2 count (drop at s)) ≡ false → v < limit
  mark-there limit g = omega (arith, here, small (nums 2 count (drop at s)) limit i g there)

  module _ (marks : List ℕ) (m : Marking (nums 2 count (drop at s)) i marks) where
    pub mark-found : (get_or marks v 0 ≡ 0 → ⊥) → distinct (nums 2 count (drop at s)) ≡ false
    mark-found n = marked-here (nums 2 count (drop at s)) i marks there m (λ z. n (ap (λ (k : ℕ). get_or marks k 0) here ∙ z))

    pub mark-next : v < length marks → get_or marks v 0 ≡ 0 → Marking (nums 2 count (drop at s)) (i + 1) (set marks v 1)
    mark-next g z =
        subst (λ (k : ℕ). Marking (nums 2 count (drop at s)) (i + 1) (set marks k 1)) (sym here)
        (marking-next (nums 2 count (drop at s)) i marks there m (omega (arith, here, g)) (ap (λ (k : ℕ). get_or marks k 0) (sym here) ∙ z))

pub large_end : (limit count at : ℕ) (s : List ℕ) (i : ℕ) → count ≤ i → some (too_large limit) (drop i (nums 2 count (drop at s))) ≡ false
large_end limit count at s i h = some_end (too_large limit) 0 (nums 2 count (drop at s)) i (omega (arith, h, length-nums 2 count (drop at s)))

pub mark-end : (count at : ℕ) (s : List ℕ) (i : ℕ) (marks : List ℕ) → count ≤ i → Marking (nums 2 count (drop at s)) i marks → distinct (nums 2 count (drop at s)) ≡ true
mark-end count at s i marks h m = marking-end (nums 2 count (drop at s)) i marks (omega (arith, h, length-nums 2 count (drop at s))) m

-- ---- a set from a byte on

pub row_seen : (n m w q at : ℕ) (s : List ℕ) → w ≡ words_of n → q ≡ m * w → (r t x z : ℕ) → (n % 64 ≡ 0 → ⊥) → r < m
    → t ≡ at + 8 * (r * w + (w - 1)) → r * w + (w - 1) < q → x ≡ num 8 (drop t s) → z ≡ num 8 (drop (t + 8 * q) s)
    → some is_on (drop (n % 64) (word 64 x z)) ≡ high n w (nums 8 q (drop at s)) (nums 8 q (drop (at + 8 * q) s)) r
row_seen n m w q at s hw hq r t x z ne l et lt ex ez =
    let j = r * w + (w - 1) in
    let xs = nums 8 q (drop at s) in
    let zs = nums 8 q (drop (at + 8 * q) s) in
    let move : t + 8 * q ≡ at + 8 * q + 8 * j = omega (arith, et) in
    let gx : x ≡ get_or xs j 0 = ex ∙ ap (λ (k : ℕ). num 8 (drop k s)) et ∙ nums-from 8 q at j s lt in
    let gz : z ≡ get_or zs j 0 = ez ∙ ap (λ (k : ℕ). num 8 (drop k s)) move ∙ nums-from 8 q (at + 8 * q) j s lt in
    ap₂ (λ (a b : ℕ). some is_on (drop (n % 64) (word 64 a b))) gx gz
    ∙ row_last n m w xs zs hw (length-nums 8 q (drop at s) ∙ hq) (length-nums 8 q (drop (at + 8 * q) s) ∙ hq) r j ne l refl

pub phase_seen : (m v at : ℕ) (s : List ℕ) (p : ℕ) → m / 32 < v → p ≡ num 8 (drop (at + 8 * (m / 32)) s) → not (eqb (p / 2 ^ (2 * (m % 32))) 0) ≡ bad_phases m (nums 8 v (drop at s))
unfolding bad_phases
phase_seen m v at s p h e = ap (λ (u : ℕ). not (eqb (u / 2 ^ (2 * (m % 32))) 0)) (e ∙ nums-from 8 v at (m / 32) s h)

pub phase_none : (m v at : ℕ) (s : List ℕ) → v ≤ m / 32 → bad_phases m (nums 8 v (drop at s)) ≡ false
phase_none m v at s h = spare-out m (nums 8 v (drop at s)) (omega (arith, h, length-nums 8 v (drop at s)))

-- bytes, as a slice has them
pub bytes_of : (s : List ℕ) → ((i : ℕ) → get_or s i 0 < 256) → Bytes s
unfolding Below
bytes_of [] f = tt
bytes_of (x ∷ s) f = (f 0, bytes_of s (λ i. f (suc i)))

words-fit : (c : ℕ) (t : List ℕ) → Bytes t → Fit (nums 8 c t)
words-fit c t b k = go (dec_lt k c)
  where
    go : Dec (k < c) → Fits w64 (get_or (nums 8 c t) k 0)
    go (yes h) = record { fits = omega (arith, nums_at 8 c k t h, num-lt 8 (drop (8 * k) t) (bytes_drop (8 * k) t b)) }
    go (no h) = record { fits = omega (arith, get_or-eq_default (nums 8 c t) 0 {n = k} (omega (arith, h, length-nums 8 c t))) }

-- lengths fit, so that 4 and 5 alone are left; words of bytes fit 64 bits, so that a set with no number is a row set
module _ (n m q v at : ℕ) (s : List ℕ) (hn : n ≤ max_qubits) (hm : m ≤ max_rows) (hq : q ≡ m * words_of n) (hv : v ≡ phase_units m) (w : ℕ) (hw : w ≡ words_of n) where
  long : wrong_lengths w (set_at m q v at s) ≡ false
  long =
      simp (
        eq-eqb (length (nums 8 q (drop at s))) (m * w) (length-nums 8 q (drop at s) ∙ hq ∙ ap (λ (k : ℕ). m * k) (sym hw)),
        eq-eqb (length (nums 8 q (drop (at + 8 * q) s))) (m * w) (length-nums 8 q (drop (at + 8 * q) s) ∙ hq ∙ ap (λ (k : ℕ). m * k) (sym hw)),
        eq-eqb (length (nums 8 v (drop (at + 8 * q + 8 * q) s))) (phase_units m) (length-nums 8 v (drop (at + 8 * q + 8 * q) s) ∙ hv),
      )

  pub set_4 : true ≡ bad_bits n m w (nums 8 q (drop at s)) (nums 8 q (drop (at + 8 * q) s)) → Err (record { 0 = 4 }) ≡ done_or (by_rank (set_lines n (set_at m q v at s)))
  unfolding answer_or
  set_4 e = ap done_or (stop-4 n (set_at m q v at s) w hn hm hw long e)

  module _ (no : false ≡ bad_bits n m w (nums 8 q (drop at s)) (nums 8 q (drop (at + 8 * q) s))) where
    pub set_5 : true ≡ bad_phases m (nums 8 v (drop (at + 8 * q + 8 * q) s)) → Err (record { 0 = 5 }) ≡ done_or (by_rank (set_lines n (set_at m q v at s)))
    unfolding answer_or
    set_5 e = ap done_or (stop-5 n (set_at m q v at s) w hn hm hw long no e)

    module _ (none : false ≡ bad_phases m (nums 8 v (drop (at + 8 * q + 8 * q) s))) where
      pub set_passed : Ok tt ≡ done_or (by_rank (set_lines n (set_at m q v at s)))
      unfolding answer_or
      set_passed = ap done_or (go_on n (set_at m q v at s) w hn hm hw long no none)

      pub set_valid : ((i : ℕ) → get_or s i 0 < 256) → Valid n (words_of n) (set_at m q v at s)
      set_valid f =
          let bs = bytes_of s f in
          valid-of n (set_at m q v at s) (words-fit q (drop at s) (bytes_drop at s bs)) (words-fit q (drop (at + 8 * q) s) (bytes_drop (at + 8 * q) s bs))
          (words-fit v (drop (at + 8 * q + 8 * q) s) (bytes_drop (at + 8 * q + 8 * q) s bs)) (sym (go_on n (set_at m q v at s) w hn hm hw long no none))

-- ---- the lists

module _ (n m : ℕ) (order listed extra : List ℕ) {x y z : Bool} (ex : x ≡ some (too_large (n + n)) order) (ey : y ≡ some (too_large m) listed) (ez : z ≡ some (too_large m) extra) where
  pub large-seen : {b : Bool} → (x || (y || z)) ≡ b → large_number n m order listed extra ≡ b
  large-seen e = sym (ap₂ ◌||◌ ex (ap₂ ◌||◌ ey ez)) ∙ e

  module _ (none : (x || (y || z)) ≡ false) where
    pub rows-small : m ≤ max_rows → some (too_large (max_qubits + max_qubits)) listed ≡ false
    rows-small h = raised listed m (max_qubits + max_qubits) (no-large n m order listed extra (large-seen none)).1 (omega (arith, h))

    pub columns-small : n ≤ max_qubits → some (too_large (max_qubits + max_qubits)) order ≡ false
    columns-small h = raised order (n + n) (max_qubits + max_qubits) (no-large n m order listed extra (large-seen none)).0 (omega (arith, h))
