-- What inner functions ask and leave. Assumes nothing.
use Rattle.std.specs.Prelude.{◌≡◌, List, ℕ, ◌+◌, ◌*◌, ◌≤◌, ◌<◌, length, take, replicate, Option, None, Some, Result}
use Rattle.encoding.specs.Limits.{words_of}
use Rattle.encoding.specs.Set.{part, phase_units}
use Rattle.encoding.specs.declared.Refusal.{Refusal}
use Rattle.replay.specs.Check.{CheckAnswer}
use Rattle.pwl.specs.File.{Run, run}
use Rattle.pwl.specs.Calls.{Outputs, outputs, Reads}
use Rattle.pwl.specs.declared.Front.{Front}
use Rattle.verdict.specs.declared.Ends.{Ends}
use Rattle.verdict.specs.Verdict.{verdict_of, most, line_of}

-- so many units, words of X or of Z, phase words and words of a claimed set have room for a run
pub record Room (f : Front) (units x z p claimed : ℕ) : Type 0 where
  pub for-units : f.order + f.listed + f.extra + 2 * f.entries ≤ units
  pub for-x : f.m * words_of f.n ≤ x
  pub for-z : f.m * words_of f.n ≤ z
  pub for-p : phase_units f.m ≤ p
  pub for-claimed : f.m * words_of f.n + (f.m * words_of f.n + phase_units f.m) ≤ claimed

-- where the lists of a run end in the units, one behind the other, and how many words it has
pub record Ended (f : Front) (e : Ends) : Type 0 where
  pub order : e.order ≡ f.order
  pub listed : e.listed ≡ f.order + f.listed
  pub extra : e.extra ≡ f.order + f.listed + f.extra
  pub log : e.log ≡ f.order + f.listed + f.extra + 2 * f.entries
  pub words : e.words ≡ f.m * words_of f.n
  pub phases : e.phases ≡ phase_units f.m

-- the run that lies in outputs whose parts end there
unfoldable pub run_in : ℕ → ℕ → Ends → Outputs → Run
run_in n m e o =
    let q = e.words in
    let v = e.phases in
    run n m (part 0 e.order o.units) (part e.order e.listed o.units) (part e.listed e.extra o.units)
    (part 0 q o.x) (part 0 q o.z) (part 0 v o.p) (part e.extra e.log o.units)
    (part 0 q o.claimed) (part q (q + q) o.claimed) (part (q + q) (q + q + v) o.claimed)

-- ---- an input that was taken in

-- s is too large, or was read into outputs that held o and hold o' now, or was refused
abbrev pub TakenFrom : List ℕ → Outputs → Outputs → Option (Result Front Refusal) → Type 0
TakenFrom s o o' None = most < length s
TakenFrom s o o' (Some a) = (length s ≤ most) × Reads s o o' a

-- some input was
pub record TakenIn (o o' : Outputs) (t : Option (Result Front Refusal)) : Type 0 where
  pub input : List ℕ
  pub from : TakenFrom input o o' t

-- some input that is not too large
pub record ReadIn (o o' : Outputs) (a : Result Front Refusal) : Type 0 where
  pub input : List ℕ
  pub short : length input ≤ most
  pub read : Reads input o o' a

-- the outputs as they are made: what a file of at most 16,384 bytes can hold
abbrev pub made : Outputs
made = outputs (replicate 8171 0) (replicate 510 0) (replicate 510 0) (replicate 128 0) (replicate 1021 0)

-- v is the verdict on whatever was read
abbrev pub Judges : Result Front Refusal → Outputs → CheckAnswer → Type 0
Judges a o v = (s : List ℕ) → length s ≤ most → Reads s made o a → v ≡ verdict_of s

-- ---- the line

-- the first n bytes of a buffer are the text w
pub record Says (w p : List ℕ) (n : ℕ) : Type 0 where
  pub text : take n p ≡ w
  pub within : n ≤ length p

-- they are the line on whatever was taken in
pub record Answers (t : Option (Result Front Refusal)) (o : Outputs) (p : List ℕ) (n : ℕ) : Type 0 where
  pub line : (s : List ℕ) → TakenFrom s made o t → take n p ≡ line_of s
  pub within : n ≤ length p
