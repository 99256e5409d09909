-- docs/PWL.md, "The verdict": what the program's line says, from the bytes of a file. Assumes nothing.
use Rattle.std.specs.Prelude.{◌≡◌, cond, List, [], ◌∷◌, ◌++◌, ℕ, ltb, length, Ok, Err}
use Prim.Native.Char.{code}
use Prim.Native.String as str
use Rattle.text.specs.Numbers.{numeral}
use Rattle.encoding.specs.Ranks.{by_rank}
use Rattle.replay.specs.Check.{CheckAnswer, given_or, verdict_on, check_fault}
use Rattle.replay.specs.Demand.{RightClaim}
use Rattle.replay.specs.declared.Verdict.TheVariants.{BadEntry, Differs, NotReduced, Yes}
use Rattle.pwl.specs.File.{Run, Fit, image, read_run, file_lines}
use Rattle.pwl.specs.Calls.{task_of, claim_of, run_lines}

-- a refusal's number, or else the checker's verdict on a run
abbrev pub answer_on : ℕ → Run → CheckAnswer
answer_on k r = given_or k (verdict_on (task_of r) (claim_of r))

-- the first line of the table that fits a file: 17 to 20, then the checker's of the run that it holds
abbrev pub verdict_fault : List ℕ → ℕ
verdict_fault s = by_rank (file_lines s ++ run_lines (read_run s))

-- what the line says of a file
abbrev pub verdict_of : List ℕ → CheckAnswer
verdict_of s = answer_on (verdict_fault s) (read_run s)

-- ---- the line as bytes

abbrev pub letters : str.String → List ℕ
letters str.[] = []
letters (str.◌∷◌ c s) = code c ∷ letters s

unfoldable pub text_of : CheckAnswer → List ℕ
text_of (Ok (BadEntry k)) = letters "bad entry " ++ (numeral 10 k ++ letters "\n")
text_of (Ok (Differs k)) = letters "row " ++ (numeral 10 k ++ letters " differs\n")
text_of (Ok NotReduced) = letters "not reduced\n"
text_of (Ok Yes) = letters "yes\n"
text_of (Err r) = numeral 10 r.0 ++ letters "\n"

-- the longest input that gets a verdict
abbrev pub most : ℕ
most = 16384

-- the line on an input
unfoldable pub line_of : List ℕ → List ℕ
line_of s = cond (ltb most (length s)) (letters "too large\n") (text_of (verdict_of s))

-- ---- what a yes is to mean

-- A right file is the image of a run that the table does not refuse and whose claim is right (RULES 12.3).
pub record RightFile (s : List ℕ) : Type 0 where
  pub held : Run
  pub fits : Fit held
  pub is : image held ≡ s
  pub passed : check_fault (task_of held) (claim_of held) ≡ 0
  pub right : RightClaim (task_of held) (claim_of held)
