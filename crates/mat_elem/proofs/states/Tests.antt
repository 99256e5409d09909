-- What it tells that none of the lines 1 to 10 fits: lengths, limits, order and words of n bits, of the terms and of both lists.
-- The lists' part of each line is one of its tests, so it is false where the line is. Assumes nothing.
use Rattle.std.proofs.Common.{◌≡◌, ℕ, ◌^◌, ◌<◌, ◌≤◌, Bool, false, not, ◌||◌, eqb, length, get_or, arith, ltb-false, eqb-true}
use borrow.Author.Tests.{not-false}
use Rattle.encoding.specs.Refusals.{some}
use Rattle.encoding.specs.Ranks.{by_rank}
use Rattle.encoding.proofs.Scan.{none_of}
use Rattle.encoding.proofs.WordLaws.{Fit}
use Rattle.mat_elem.specs.Terms.{set_from}
use Rattle.mat_elem.specs.Workers.{Ready, Parted}
use Rattle.mat_elem.specs.states.Sums.{Terms, State, max_vectors, too_long, bad_parts, vector_lines}
use Rattle.mat_elem.proofs.Bits.{low_of, low-list}
use Rattle.mat_elem.proofs.Faults.{lines-sound}

parted : (s : State) → too_long s.words ≡ false → bad_parts (length s.words) (length s.re) (length s.im) ≡ false
    → Parted (length s.words) (length s.re) (length s.im)
parted s e f =
    let m = length s.words in
    let t = none_of (not (eqb (length s.re) m)) (not (eqb (length s.im) m)) f in
    record { few = ltb-false max_vectors m e; re-long = eqb-true (length s.re) m (not-false _ t.0); im-long = eqb-true (length s.im) m (not-false _ t.1) }

module _ (n : ℕ) (A : Terms) (bra ket : State) (e : by_rank (vector_lines n A bra ket) ≡ 0) where
  abbrev many : Bool
  many = too_long bra.words || too_long ket.words

  abbrev unequal : Bool
  unequal = bad_parts (length bra.words) (length bra.re) (length bra.im) || bad_parts (length ket.words) (length ket.re) (length ket.im)

  abbrev beside : Bool
  beside = some (set_from n) bra.words || some (set_from n) ket.words

  pub tests-ready : Ready A.xs (length A.zs) (length A.re) (length A.im)
  tests-ready =
      let s = lines-sound n A.xs A.zs (length A.re) (length A.im) many unequal beside e in
      record { rising = s.rising; few = s.shape.short; z-long = s.shape.z-long; re-long = s.shape.re-long; im-long = s.shape.im-long }

  pub tests-parted : Parted (length bra.words) (length bra.re) (length bra.im) × Parted (length ket.words) (length ket.re) (length ket.im)
  tests-parted =
      let s = lines-sound n A.xs A.zs (length A.re) (length A.im) many unequal beside e in
      let l = none_of (too_long bra.words) (too_long ket.words) s.not-many in
      let q = none_of (bad_parts (length bra.words) (length bra.re) (length bra.im)) (bad_parts (length ket.words) (length ket.re) (length ket.im)) s.equal in
      (parted bra l.0 q.0, parted ket l.1 q.1)

  -- every word is one of n bits
  pub record Words : Type 0 where
    pub most : n ≤ 64
    pub term-low : (k : ℕ) → k < length A.xs → (get_or A.xs k 0 < 2 ^ n) × (get_or A.zs k 0 < 2 ^ n)
    pub bra-low : (k : ℕ) → k < length bra.words → get_or bra.words k 0 < 2 ^ n
    pub ket-low : (k : ℕ) → k < length ket.words → get_or ket.words k 0 < 2 ^ n

  pub tests-words : Fit A.xs → Fit A.zs → Fit bra.words → Fit ket.words → Words
  tests-words fx fz fb fk =
      let s = lines-sound n A.xs A.zs (length A.re) (length A.im) many unequal beside e in
      let l = s.shape.most in
      let t = low_of n A.xs A.zs beside l s.low fx fz in
      let b = none_of (some (set_from n) bra.words) (some (set_from n) ket.words) t.none_beside in
      record {
        most = l;
        term-low = λ k h. (t.x-low k h, t.z-low k (omega (arith, s.shape.z-long)));
        bra-low = low-list n bra.words l b.0 fb;
        ket-low = low-list n ket.words l b.1 fk;
      }
