-- docs/PWL.md, "The calls" and "Refusals": what the calls answer and leave; a refusal leaves every output as it was. Assumes nothing.
use Rattle.std.specs.Prelude.{◌≡◌, Bool, ◌||◌, List, [], ◌∷◌, ◌++◌, ℕ, ltb, length, drop, Result}
use Rattle.encoding.specs.Set.{mem_of}
use Rattle.encoding.specs.Refusals.{answer_or, left_or}
use Rattle.encoding.specs.declared.Refusal.{Refusal}
use Rattle.encoding.specs.Ranks.{TableLine, line, by_rank}
use Rattle.replay.specs.Check.{Task, task, Claim, claim, check_lines}
use Rattle.pwl.specs.File.{Run, image, front_at, read_run, file_lines, file_fault}
use Rattle.pwl.specs.declared.Front.{Front}

-- ---- open: the front, or the number of a refusal

abbrev pub opened : List ℕ → Result Front Refusal
opened s = answer_or (file_fault s) (front_at s)

-- ---- a run as the checker takes it

abbrev pub task_of : Run → Task
task_of r = task r.n (mem_of r.m r.x r.z r.p) r.order r.listed r.extra

abbrev pub claim_of : Run → Claim
claim_of r = claim r.log (mem_of r.m r.cx r.cz r.cp)

-- the checker's lines of the table: 1 to 7, 15, 9
abbrev pub run_lines : Run → List TableLine
run_lines r = check_lines (task_of r) (claim_of r)

-- ---- write: the image of a run, from the start of the output

-- 14: the output is shorter than the image
abbrev pub short_line : Run → List ℕ → TableLine
short_line r out = line 14 (ltb (length out) (length (image r)))

abbrev pub write_fault : Run → List ℕ → ℕ
write_fault r out = by_rank (run_lines r ++ (short_line r out ∷ []))

-- the answer a and what the output holds, where the first line that fits has the number f
pub record ImageWritten (f : ℕ) (r : Run) (out out' : List ℕ) (a : Result ℕ Refusal) : Type 0 where
  pub answer : a ≡ answer_or f (length (image r))
  pub bytes : out' ≡ left_or f out (image r ++ drop (length (image r)) out)

abbrev pub Writes : Run → List ℕ → List ℕ → Result ℕ Refusal → Type 0
Writes r out out' a = ImageWritten (write_fault r out) r out out' a

-- ---- read: a file into five outputs

-- the units are order, listed rows, extra rows and log, one behind the other; the claimed rows their X, Z and phase words
abbrev pub units_of : Run → List ℕ
units_of r = r.order ++ (r.listed ++ (r.extra ++ r.log))

abbrev pub claimed_of : Run → List ℕ
claimed_of r = r.cx ++ (r.cz ++ r.cp)

pub record Outputs : Type 0 where
  pub units : List ℕ
  pub x : List ℕ
  pub z : List ℕ
  pub p : List ℕ
  pub claimed : List ℕ

abbrev pub outputs : List ℕ → List ℕ → List ℕ → List ℕ → List ℕ → Outputs
outputs units x z p claimed = record { units = units; x = x; z = z; p = p; claimed = claimed }

-- 14: one of them is shorter than its content
abbrev pub falls_short : Run → Outputs → Bool
falls_short r o =
    ltb (length o.units) (length (units_of r))
    || (ltb (length o.x) (length r.x) || (ltb (length o.z) (length r.z)
    || (ltb (length o.p) (length r.p) || ltb (length o.claimed) (length (claimed_of r)))))

abbrev pub room_lines : Run → Outputs → List TableLine
room_lines r o = line 14 (falls_short r o) ∷ []

-- what is read stands at the start of its output; what the output has past it stays
abbrev pub filled : List ℕ → List ℕ → List ℕ
filled l o = l ++ drop (length l) o

abbrev pub filled_by : Run → Outputs → Outputs
filled_by r o = outputs (filled (units_of r) o.units) (filled r.x o.x) (filled r.z o.z) (filled r.p o.p) (filled (claimed_of r) o.claimed)

-- the answer a and what the outputs hold, where the first line that fits has the number f
pub record RunRead (f : ℕ) (h : Front) (r : Run) (o o' : Outputs) (a : Result Front Refusal) : Type 0 where
  pub answer : a ≡ answer_or f h
  pub left : o' ≡ left_or f o (filled_by r o)

-- 17 to 20, then the checker's lines, then 14
abbrev pub read_fault : List ℕ → Outputs → ℕ
read_fault s o = by_rank (file_lines s ++ (run_lines (read_run s) ++ room_lines (read_run s) o))

abbrev pub Reads : List ℕ → Outputs → Outputs → Result Front Refusal → Type 0
Reads s o o' a = RunRead (read_fault s o) (front_at s) (read_run s) o o' a
