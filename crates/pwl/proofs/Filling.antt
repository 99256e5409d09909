-- What reading leaves in its outputs: parts that lie side by side in the file are one part of the output.
-- Lengths follow from the front, so that room is told by its numbers alone, and lines are given in turn. Assumes nothing.
use Rattle.pwl.proofs.Kit.{◌≡◌, refl, sym, ap, ap₂, ◌∙◌, subst, Bool, true, false, cond, ◌||◌, true≢false, List, [], ◌∷◌, ◌++◌, append_assoc, append-nil, ℕ, zero, suc, ◌+◌, ◌*◌, ◌-◌, ◌<◌, ◌≤◌, arith, ltb, ltb-false, length, get_or, drop, take, length-append, length-drop, drop_of_length-le, drop-drop, drop_at, take_at, Result, Ok, Err, Refusal}
use lib.Seq.{take_all}
use borrow.Rule.Slice.PartMut.{put_mid, mid_of, post_of}
use Rattle.encoding.specs.Ranks.{by_rank}
use Rattle.encoding.specs.Refusals.{answer_or, done_or}
use Rattle.encoding.proofs.Faults.{or_else, first_by, first-kept, passed-by, value-is}
use Rattle.pwl.specs.declared.Front.{Front}
use Rattle.pwl.specs.declared.Places.{Places}
use Rattle.pwl.specs.Bytes.{items, num, nums}
use Rattle.pwl.specs.File.{Run, front_at, run_of, run_by, read_run, read_parts, shapes_by, whole_len, file_lines, file_fault}
use Rattle.pwl.specs.Calls.{opened, run_lines, units_of, claimed_of, Outputs, outputs, falls_short, room_lines, filled, filled_by, RunRead, read_fault, Reads}
use Rattle.pwl.specs.Workers.{places_by, places_of}
use Rattle.pwl.proofs.Round.{length-nums, num-lt, bytes_drop}
use Rattle.pwl.proofs.Image.{good}
use Rattle.pwl.proofs.Tests.{bytes_of}
use Rattle.encoding.proofs.Ranks.{rank-append}
use Rattle.pwl.proofs.Writes.{run-counted}

-- ---- numbers side by side

nums-append : (k a b : ℕ) (s : List ℕ) → nums k (a + b) s ≡ nums k a s ++ nums k b (drop (k * a) s)
unfolding items
nums-append k zero b s =
    let z : 0 + b ≡ b = omega arith in
    let y : k * 0 ≡ 0 = omega arith in
    rw (z, y)
nums-append k (suc a) b s =
    let z : suc a + b ≡ suc (a + b) = omega arith in
    let y : k + k * a ≡ k * suc a = omega arith in
    rw z (ap (λ (l : List ℕ). num k s ∷ l) (nums-append k a b (drop k s) ∙ ap (λ (t : List ℕ). nums k a (drop k s) ++ nums k b t) (drop-drop (k * a) k s ∙ ap (λ (j : ℕ). drop j s) y)))

side : (k a b at : ℕ) (s : List ℕ) → nums k (a + b) (drop at s) ≡ nums k a (drop at s) ++ nums k b (drop (at + k * a) s)
side k a b at s = nums-append k a b (drop at s) ∙ ap (λ (t : List ℕ). nums k a (drop at s) ++ nums k b t) (drop-drop (k * a) at s)

-- ---- the second of two runs of numbers goes into the part behind the first

pub joined : (t j : ℕ) (s l u w y : List ℕ) → w ≡ nums 2 t s ++ drop t u → y ≡ nums 2 j l ++ drop j (mid_of t (length w - t) w)
    → put_mid t (length w - t) w y ≡ nums 2 t s ++ (nums 2 j l ++ drop j (drop t u))
joined t j s l u w y e f =
    let dw : drop t w ≡ drop t u = ap (drop t) e ∙ drop_at (nums 2 t s) (drop t u) t (length-nums 2 t s) in
    let tw : take t w ≡ nums 2 t s = ap (take t) e ∙ take_at (nums 2 t s) (drop t u) t (length-nums 2 t s) in
    let hl : length (drop t w) ≤ length w - t = omega (arith, length-drop t w) in
    let mid : mid_of t (length w - t) w ≡ drop t u = take_all (length w - t) (drop t w) hl ∙ dw in
    let post : post_of t (length w - t) w ≡ [] = drop_of_length-le (drop t w) hl in
    ap (λ (a : List ℕ). a ++ (y ++ post_of t (length w - t) w)) tw
    ∙ ap (λ (a : List ℕ). nums 2 t s ++ (y ++ a)) post
    ∙ ap (λ (a : List ℕ). nums 2 t s ++ a) (append-nil y)
    ∙ ap (λ (a : List ℕ). nums 2 t s ++ a) (f ∙ ap (λ (m : List ℕ). nums 2 j l ++ drop j m) mid)

-- ---- the outputs

module _ (f : Front) (s : List ℕ) (at : Places) (e : at ≡ places_of f) where
  units-are : nums 2 (f.order + f.listed + f.extra) (drop 41 s) ++ nums 2 (2 * f.entries) (drop at.log s) ≡ units_of (run_by f s)
  unfolding run_by run_of read_parts shapes_by places_by
  units-are =
      let r = run_by f s in
      let a = f.order in
      let b = f.listed in
      let c = f.extra in
      let z : a + b + c ≡ a + (b + c) = omega arith in
      ap₂ (λ (l : List ℕ) (p : Places). l ++ nums 2 (2 * f.entries) (drop p.log s))
      (ap (λ (j : ℕ). nums 2 j (drop 41 s)) z ∙ side 2 a (b + c) 41 s ∙ ap (λ (l : List ℕ). r.order ++ l) (side 2 b c (41 + 2 * a) s)) e
      ∙ append_assoc r.order (r.listed ++ r.extra) r.log ∙ ap (λ (l : List ℕ). r.order ++ l) (append_assoc r.listed r.extra r.log)

  claimed-are : nums 8 (at.words + (at.words + at.phases)) (drop at.claim s) ≡ claimed_of (run_by f s)
  unfolding run_by run_of read_parts shapes_by places_by
  claimed-are =
      ap (λ (p : Places). nums 8 (p.words + (p.words + p.phases)) (drop p.claim s)) e
      ∙ side 8 (places_of f).words ((places_of f).words + (places_of f).phases) (places_of f).claim s
      ∙ ap (λ (l : List ℕ). (run_by f s).cx ++ l) (side 8 (places_of f).words (places_of f).phases ((places_of f).claim + 8 * (places_of f).words) s)

  x-is : nums 8 at.words (drop at.start s) ≡ (run_by f s).x
  unfolding run_by run_of read_parts shapes_by places_by
  x-is = ap (λ (p : Places). nums 8 p.words (drop p.start s)) e

  z-is : nums 8 at.words (drop (at.start + 8 * at.words) s) ≡ (run_by f s).z
  unfolding run_by run_of read_parts shapes_by places_by
  z-is = ap (λ (p : Places). nums 8 p.words (drop (p.start + 8 * p.words) s)) e

  p-is : nums 8 at.phases (drop (at.start + 8 * at.words + 8 * at.words) s) ≡ (run_by f s).p
  unfolding run_by run_of read_parts shapes_by places_by
  p-is = ap (λ (p : Places). nums 8 p.phases (drop (p.start + 8 * p.words + 8 * p.words) s)) e

  units-long : length (units_of (run_by f s)) ≡ f.order + f.listed + f.extra + 2 * f.entries
  units-long =
      sym (ap length units-are) ∙ length-append (nums 2 (f.order + f.listed + f.extra) (drop 41 s)) (nums 2 (2 * f.entries) (drop at.log s))
      ∙ ap₂ ◌+◌ (length-nums 2 (f.order + f.listed + f.extra) (drop 41 s)) (length-nums 2 (2 * f.entries) (drop at.log s))

  claimed-long : length (claimed_of (run_by f s)) ≡ at.words + (at.words + at.phases)
  claimed-long = sym (ap length claimed-are) ∙ length-nums 8 (at.words + (at.words + at.phases)) (drop at.claim s)

  one : (k c : ℕ) (t o l : List ℕ) {o' : List ℕ} → nums k c t ≡ l → o' ≡ nums k c t ++ drop c o → o' ≡ filled l o
  one k c t o l g h = h ∙ ap₂ (λ (v : List ℕ) (j : ℕ). v ++ drop j o) g (sym (length-nums k c t) ∙ ap length g)

  pub filling : (o : Outputs) {u x z p d : List ℕ}
      → u ≡ nums 2 (f.order + f.listed + f.extra) (drop 41 s) ++ (nums 2 (2 * f.entries) (drop at.log s) ++ drop (2 * f.entries) (drop (f.order + f.listed + f.extra) o.units))
      → x ≡ nums 8 at.words (drop at.start s) ++ drop at.words o.x
      → z ≡ nums 8 at.words (drop (at.start + 8 * at.words) s) ++ drop at.words o.z
      → p ≡ nums 8 at.phases (drop (at.start + 8 * at.words + 8 * at.words) s) ++ drop at.phases o.p
      → d ≡ nums 8 (at.words + (at.words + at.phases)) (drop at.claim s) ++ drop (at.words + (at.words + at.phases)) o.claimed
      → outputs u x z p d ≡ filled_by (run_by f s) o
  filling o {u} {x} {z} {p} {d} eu ex ez ep ed =
      let t = f.order + f.listed + f.extra in
      let gu : u ≡ filled (units_of (run_by f s)) o.units =
      eu ∙ sym (append_assoc (nums 2 t (drop 41 s)) (nums 2 (2 * f.entries) (drop at.log s)) (drop (2 * f.entries) (drop t o.units)))
      ∙ ap₂ (λ (l m : List ℕ). l ++ m) units-are (drop-drop (2 * f.entries) t o.units ∙ ap (λ (j : ℕ). drop j o.units) (sym units-long)) in
      rw (gu, one 8 _ _ o.x _ x-is ex, one 8 _ _ o.z _ z-is ez, one 8 _ _ o.p _ p-is ep, one 8 _ _ o.claimed _ claimed-are ed)

  -- ---- room

  pub room-is : (o : Outputs) {b : Bool}
      → b ≡ (ltb (length o.units) (f.order + f.listed + f.extra + 2 * f.entries) || (ltb (length o.x) at.words || (ltb (length o.z) at.words
      || (ltb (length o.p) at.phases || ltb (length o.claimed) (at.words + (at.words + at.phases)))))) → b ≡ falls_short (run_by f s) o
  room-is o e =
      let lx : at.words ≡ length (run_by f s).x = sym (length-nums 8 at.words (drop at.start s)) ∙ ap length x-is in
      let lz : at.words ≡ length (run_by f s).z = sym (length-nums 8 at.words (drop (at.start + 8 * at.words) s)) ∙ ap length z-is in
      let lp : at.phases ≡ length (run_by f s).p = sym (length-nums 8 at.phases (drop (at.start + 8 * at.words + 8 * at.words) s)) ∙ ap length p-is in
      e ∙ ap₂ ◌||◌ (ap (ltb (length o.units)) (sym units-long)) (ap₂ ◌||◌ (ap (ltb (length o.x)) lx) (ap₂ ◌||◌ (ap (ltb (length o.z)) lz)
      (ap₂ ◌||◌ (ap (ltb (length o.p)) lp) (ap (ltb (length o.claimed)) (sym claimed-long)))))

or-none : (x y : Bool) → (x || y) ≡ false → (x ≡ false) × (y ≡ false)
or-none true y e = absurd (true≢false e)
or-none false y e = (refl, e)

pub roomy : (t q v u x z p d : ℕ) {b : Bool} → b ≡ (ltb u t || (ltb x q || (ltb z q || (ltb p v || ltb d (q + (q + v)))))) → b ≡ false
    → (t ≤ u) × (q ≤ x) × (q ≤ z) × (v ≤ p) × (q + (q + v) ≤ d)
roomy t q v u x z p d e n =
    let a = or-none (ltb u t) _ (sym e ∙ n) in
    let b = or-none (ltb x q) _ a.1 in
    let c = or-none (ltb z q) _ b.1 in
    let g = or-none (ltb p v) (ltb d (q + (q + v))) c.1 in
    (ltb-false u t a.0, ltb-false x q b.0, ltb-false z q c.0, ltb-false p v g.0, ltb-false d (q + (q + v)) g.1)

-- ---- the calls

-- a front that was opened: n and m have two bytes each, and the file is as long as it says
module _ (s : List ℕ) {a : Result Front Refusal} (by : a ≡ opened s) {f : Front} (ok : a ≡ Ok f) where
  there : (file_fault s ≡ 0) × (front_at s ≡ f)
  there = value-is (file_fault s) (front_at s) f (sym by ∙ ok)

  pub opened_front : ((i : ℕ) → get_or s i 0 < 256) → (f.n ≤ 65535) × (f.m ≤ 65535) × (length s ≡ whole_len f)
  unfolding front_at
  opened_front b =
      let n = num-lt 2 (drop 5 s) (bytes_drop 5 s (bytes_of s b)) in
      let m = num-lt 2 (drop 7 s) (bytes_drop 7 s (bytes_of s b)) in
      let en : num 2 (drop 5 s) ≡ f.n = ap (λ (h : Front). h.n) there.1 in
      let em : num 2 (drop 7 s) ≡ f.m = ap (λ (h : Front). h.m) there.1 in
      (omega (arith, n, en), omega (arith, m, em), (good s there.0).sized ∙ ap whole_len there.1)

module _ (h : Front) (r : Run) (o : Outputs) {k : Result Unit Refusal} (e : k ≡ done_or (by_rank (run_lines r))) where
  in-turn : by_rank (run_lines r ++ room_lines r o) ≡ or_else (by_rank (run_lines r)) (by_rank (room_lines r o))
  in-turn = rank-append (run_lines r) (room_lines r o) (run-counted r)

  pub run-refused : {x : Refusal} → k ≡ Err x → RunRead (by_rank (run_lines r ++ room_lines r o)) h r o o (Err x)
  run-refused {x} q =
      subst (λ (j : ℕ). RunRead j h r o o (Err x)) (sym in-turn) (record {
        answer = first_by (by_rank (run_lines r)) (by_rank (room_lines r o)) tt e q h;
        left = first-kept (by_rank (run_lines r)) (by_rank (room_lines r o)) tt e q o (filled_by r o);
      })

  module _ {u : Unit} (ok : k ≡ Ok u) {b : Bool} (eb : b ≡ falls_short r o) where
    by-room : by_rank (run_lines r ++ room_lines r o) ≡ cond b 14 0
    unfolding by_rank
    by-room =
        in-turn ∙ ap (λ (j : ℕ). or_else j (by_rank (room_lines r o))) (passed-by (by_rank (run_lines r)) tt (sym ok ∙ e)) ∙ ap (λ (c : Bool). cond c 14 0) (sym eb)

    pub run_short : b ≡ true → RunRead (by_rank (run_lines r ++ room_lines r o)) h r o o (Err (record { 0 = 14 }))
    unfolding answer_or
    run_short g =
        subst (λ (j : ℕ). RunRead j h r o o (Err (record { 0 = 14 }))) (sym (by-room ∙ ap (λ (c : Bool). cond c 14 0) g)) (record { answer = refl; left = refl })

    pub run-filled : b ≡ false → {o' : Outputs} → o' ≡ filled_by r o → RunRead (by_rank (run_lines r ++ room_lines r o)) h r o o' (Ok h)
    unfolding answer_or
    run-filled g {o'} w =
        subst (λ (j : ℕ). RunRead j h r o o' (Ok h)) (sym (by-room ∙ ap (λ (c : Bool). cond c 14 0) g)) (record { answer = refl; left = w })

module _ (s : List ℕ) (o : Outputs) {a : Result Front Refusal} (by : a ≡ opened s) where
  first-of-file : read_fault s o ≡ or_else (file_fault s) (by_rank (run_lines (read_run s) ++ room_lines (read_run s) o))
  first-of-file = rank-append (file_lines s) (run_lines (read_run s) ++ room_lines (read_run s) o) refl

  pub read_refused : {x : Refusal} → a ≡ Err x → Reads s o o (Err x)
  read_refused {x} q =
      let g = by_rank (run_lines (read_run s) ++ room_lines (read_run s) o) in
      subst (λ (j : ℕ). RunRead j (front_at s) (read_run s) o o (Err x)) (sym first-of-file) (record {
        answer = first_by (file_fault s) g (front_at s) by q (front_at s);
        left = first-kept (file_fault s) g (front_at s) by q o (filled_by (read_run s) o);
      })

  pub read_done : {f : Front} → a ≡ Ok f → {o' : Outputs} {r : Result Front Refusal} → RunRead (by_rank (run_lines (run_by f s) ++ room_lines (run_by f s) o)) f (run_by f s) o o' r → Reads s o o' r
  read_done {f} q {o'} {r} w =
      let t = value-is (file_fault s) (front_at s) f (sym by ∙ q) in
      subst (λ (j : ℕ). RunRead j (front_at s) (read_run s) o o' r) (sym (first-of-file ∙ ap (λ (j : ℕ). or_else j (by_rank (run_lines (read_run s) ++ room_lines (read_run s) o))) t.0))
      (subst (λ (h : Front). RunRead (by_rank (run_lines (run_by h s) ++ room_lines (run_by h s) o)) h (run_by h s) o o' r) (sym t.1) w)
