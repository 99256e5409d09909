-- What inner functions ask and leave. Assumes nothing.
use Rattle.std.specs.Prelude.{◌≡◌, true, List, [], ◌∷◌, ◌++◌, ℕ, ◌+◌, ◌*◌, ◌/◌, ◌%◌, ◌≤◌, ltb, length, get_or, drop, set, Result}
use Rattle.encoding.specs.Refusals.{done_or}
use Rattle.encoding.specs.declared.Refusal.{Refusal}
use Rattle.encoding.specs.Words.{with_bit}
use Rattle.encoding.specs.Set.{Mem, mem_of, phase_units}
use Rattle.encoding.specs.Ranks.{line, by_rank}
use Rattle.text.specs.Readers.{over}
use Rattle.encoding.specs.Limits.{words_of}
use Rattle.pwl.specs.Bytes.{nums}
use Rattle.pwl.specs.declared.Front.{Front}
use Rattle.pwl.specs.declared.Places.{Places}
use Rattle.terms.specs.Refused.{reduce_fault}
use Rattle.pwl.specs.Calls.{task_of}
use Rattle.pwl.specs.File.{Run, run_by, Part, part, laid, front_for, body, image, shapes, bytes_in, shapes_of, front_bytes, bad_mark, bad_version}

-- what the first 41 bytes alone decide
unfoldable pub front_fault : List ℕ → ℕ
front_fault s = by_rank (line 17 (bad_mark s) ∷ line 18 (bad_version s) ∷ line 19 (ltb (length s) front_bytes) ∷ [])

-- three parts of one width: an order and two lists, or a row set
abbrev pub parts : ℕ → List ℕ → List ℕ → List ℕ → List Part
parts k a b c = part k a ∷ part k b ∷ part k c ∷ []

-- what stands behind the front: what was to be reduced, and what is claimed
abbrev pub task_parts : List ℕ → List ℕ → List ℕ → List ℕ → List ℕ → List ℕ → List Part
task_parts order listed extra x z p = parts 2 order listed extra ++ parts 8 x z p

abbrev pub claim_parts : List ℕ → List ℕ → List ℕ → List ℕ → List Part
claim_parts log cx cz cp = part 2 log ∷ parts 8 cx cz cp

-- parts put at a place of a slice that held o and holds p now, and the place behind them
pub record Put (ps : List Part) (at : ℕ) (o p : List ℕ) (next : ℕ) : Type 0 where
  pub place : next ≡ at + bytes_in (shapes_of ps)
  pub bytes : p ≡ over (laid ps) at o

-- the image of a run put at the start
pub record Imaged (r : Run) (o p : List ℕ) (next : ℕ) : Type 0 where
  pub place : next ≡ length (image r)
  pub bytes : p ≡ over (image r) 0 o

-- a run whose parts are as long as its front says, with n and m of two bytes
pub record Shaped (r : Run) : Type 0 where
  pub small_n : r.n ≤ 65535
  pub small-m : r.m ≤ 65535
  pub long : shapes_of (body r) ≡ shapes (front_for r)

-- m rows that lie from a byte on: q words of X and of Z, v of phases
abbrev pub set_at : ℕ → ℕ → ℕ → ℕ → List ℕ → Mem
set_at m q v at s = mem_of m (nums 8 q (drop at s)) (nums 8 q (drop (at + 8 * q) s)) (nums 8 v (drop (at + 8 * q + 8 * q) s))

-- where the parts begin: the order at 41, each next part past the one before; q words of X and of Z in a set, v of phases
unfoldable pub places_by : ℕ → ℕ → Front → Places
places_by q v f =
    let listed = front_bytes + 2 * f.order in
    let extra = listed + 2 * f.listed in
    let start = extra + 2 * f.extra in
    let log = start + 8 * q + 8 * q + 8 * v in
    let claim = log + 2 * (2 * f.entries) in
    record { listed = listed; extra = extra; start = start; log = log; claim = claim; words = q; phases = v }

abbrev pub places_of : Front → Places
places_of f = places_by (f.m * words_of f.n) (phase_units f.m) f

-- what is answered of what was to be reduced, of the run in a file
abbrev pub TaskFault : Front → List ℕ → Result Unit Refusal → Type 0
TaskFault f s a = a ≡ done_or (reduce_fault f.n (task_of (run_by f s)).start (run_by f s).order (run_by f s).listed (run_by f s).extra)

-- a number's mark is a bit: k has got its own
unfoldable pub marked : ℕ → List ℕ → List ℕ
marked k marks = set marks (k / 64) (with_bit (get_or marks (k / 64) 0) (k % 64) true)
