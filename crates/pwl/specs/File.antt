-- docs/PWL.md: what a log file holds, its image, its reading, and which bytes are a file. Assumes nothing.
use Rattle.std.specs.Prelude.{◌≡◌, Bool, not, ◌||◌, List, [], ◌∷◌, ◌++◌, ℕ, ◌+◌, ◌*◌, ◌/◌, ◌^◌, ltb, eqb, length, get_or, drop}
use Rattle.encoding.specs.Limits.{words_of}
use Rattle.encoding.specs.Set.{phase_units}
use Rattle.encoding.specs.Ranks.{TableLine, line, by_rank}
use Rattle.pwl.specs.Bytes.{num, les, nums, Below}
use Rattle.pwl.specs.declared.Front.{Front}

-- what a file holds: n, m, the order, both lists, the starting rows, the log (target, source, target and so on), the claimed rows
pub record Run : Type 0 where
  pub n : ℕ
  pub m : ℕ
  pub order : List ℕ
  pub listed : List ℕ
  pub extra : List ℕ
  pub x : List ℕ
  pub z : List ℕ
  pub p : List ℕ
  pub log : List ℕ
  pub cx : List ℕ
  pub cz : List ℕ
  pub cp : List ℕ

abbrev pub run : ℕ → ℕ → List ℕ → List ℕ → List ℕ → List ℕ → List ℕ → List ℕ → List ℕ → List ℕ → List ℕ → List ℕ → Run
run n m order listed extra x z p log cx cz cp =
    record { n = n; m = m; order = order; listed = listed; extra = extra; x = x; z = z; p = p; log = log; cx = cx; cz = cz; cp = cp }

-- ---- the image: parts, one behind the other

-- numbers of so many bytes each
pub record Part : Type 0 where
  pub wide : ℕ
  pub numbers : List ℕ

abbrev pub part : ℕ → List ℕ → Part
part wide numbers = record { wide = wide; numbers = numbers }

unfoldable pub laid : List Part → List ℕ
laid [] = []
laid (p ∷ ps) = les p.wide p.numbers ++ laid ps

-- the mark, P, W and L as one number; the version
abbrev pub mark : ℕ
mark = 5003088

abbrev pub version : ℕ
version = 1

-- the six numbers of a front: n, m, and how many columns, listed rows, extra rows and log entries there are
abbrev pub front_of : ℕ → ℕ → ℕ → ℕ → ℕ → ℕ → Front
front_of n m a b c k = record { n = n; m = m; order = a; listed = b; extra = c; entries = k }

abbrev pub front_for : Run → Front
front_for r = front_of r.n r.m (length r.order) (length r.listed) (length r.extra) (length r.log / 2)

-- the front as it is laid, 41 bytes
unfoldable pub front : Front → List Part
front f =
    part 3 (mark ∷ [])
    ∷ part 2 (version ∷ f.n ∷ f.m ∷ [])
    ∷ part 8 (f.order ∷ f.listed ∷ f.extra ∷ f.entries ∷ [])
    ∷ []

abbrev pub front_bytes : ℕ
front_bytes = 41

-- and what stands behind it
unfoldable pub body : Run → List Part
body r =
    part 2 r.order ∷ part 2 r.listed ∷ part 2 r.extra
    ∷ part 8 r.x ∷ part 8 r.z ∷ part 8 r.p
    ∷ part 2 r.log
    ∷ part 8 r.cx ∷ part 8 r.cz ∷ part 8 r.cp
    ∷ []

-- the one image of a run
unfoldable pub image : Run → List ℕ
image r = laid (front (front_for r)) ++ laid (body r)

-- ---- reading

-- how a part lies: so many numbers of so many bytes each
pub record Shape : Type 0 where
  pub wide : ℕ
  pub many : ℕ

abbrev pub shape : ℕ → ℕ → Shape
shape wide many = record { wide = wide; many = many }

-- the shapes behind a front: q words of X and of Z in each set, v of phases
unfoldable pub shapes_by : ℕ → ℕ → ℕ → ℕ → ℕ → ℕ → List Shape
shapes_by q v a b c k =
    shape 2 a ∷ shape 2 b ∷ shape 2 c
    ∷ shape 8 q ∷ shape 8 q ∷ shape 8 v
    ∷ shape 2 (2 * k)
    ∷ shape 8 q ∷ shape 8 q ∷ shape 8 v
    ∷ []

abbrev pub shapes : Front → List Shape
shapes f = shapes_by (f.m * words_of f.n) (phase_units f.m) f.order f.listed f.extra f.entries

unfoldable pub bytes_in : List Shape → ℕ
bytes_in [] = 0
bytes_in (h ∷ hs) = h.wide * h.many + bytes_in hs

-- parts of these shapes, from a byte on
unfoldable pub read_parts : List Shape → ℕ → List ℕ → List Part
read_parts [] at s = []
read_parts (h ∷ hs) at s = part h.wide (nums h.wide h.many (drop at s)) ∷ read_parts hs (at + h.wide * h.many) s

-- the numbers of the front
unfoldable pub front_at : List ℕ → Front
front_at s = front_of (num 2 (drop 5 s)) (num 2 (drop 7 s)) (num 8 (drop 9 s)) (num 8 (drop 17 s)) (num 8 (drop 25 s)) (num 8 (drop 33 s))

abbrev pub numbers_at : List Part → ℕ → List ℕ
numbers_at ps i = (get_or ps i (part 0 [])).numbers

unfoldable pub run_of : ℕ → ℕ → List Part → Run
run_of n m ps =
    record {
      n = n;
      m = m;
      order = numbers_at ps 0;
      listed = numbers_at ps 1;
      extra = numbers_at ps 2;
      x = numbers_at ps 3;
      z = numbers_at ps 4;
      p = numbers_at ps 5;
      log = numbers_at ps 6;
      cx = numbers_at ps 7;
      cz = numbers_at ps 8;
      cp = numbers_at ps 9;
    }

unfoldable pub run_by : Front → List ℕ → Run
run_by f s = run_of f.n f.m (read_parts (shapes f) front_bytes s)

abbrev pub read_run : List ℕ → Run
read_run s = run_by (front_at s) s

-- ---- which bytes are a file

-- 17: another mark, or the file ends inside it
abbrev pub bad_mark : List ℕ → Bool
bad_mark s = ltb (length s) 3 || not (eqb (num 3 s) mark)

-- 18: the same of the version
abbrev pub bad_version : List ℕ → Bool
bad_version s = ltb (length s) 5 || not (eqb (num 2 (drop 3 s)) version)

-- how long a file with this front is, as a number without bound
unfoldable pub whole_len : Front → ℕ
whole_len f = front_bytes + bytes_in (shapes f)

-- 19: shorter than its front says; 20: longer
abbrev pub length_lines : ℕ → ℕ → List TableLine
length_lines len whole = line 19 (ltb len whole) ∷ line 20 (ltb whole len) ∷ []

abbrev pub file_lines : List ℕ → List TableLine
file_lines s = line 17 (bad_mark s) ∷ line 18 (bad_version s) ∷ length_lines (length s) (whole_len (front_at s))

abbrev pub file_fault : List ℕ → ℕ
file_fault s = by_rank (file_lines s)

-- ---- which runs have an image: numbers fit their bytes, parts are as long as n and m say, the log is of whole entries

unfoldable pub PartsFit : List Part → Type 0
PartsFit [] = Unit {0}
PartsFit (p ∷ ps) = Below (256 ^ p.wide) p.numbers × PartsFit ps

unfoldable pub shapes_of : List Part → List Shape
shapes_of [] = []
shapes_of (p ∷ ps) = shape p.wide (length p.numbers) ∷ shapes_of ps

pub record Fit (r : Run) : Type 0 where
  pub front_fits : PartsFit (front (front_for r))
  pub body-fits : PartsFit (body r)
  pub long : shapes_of (body r) ≡ shapes (front_for r)
