-- What the inner functions of the checker and of `undo` ask and leave: marks of the row numbers, the entry test by marks, places, memory after entries. No
-- definition here is one to be believed: `Checked` and `Undoes` speak of reduction's definitions and of rows alone. Assumes nothing.
use Rattle.std.specs.Prelude.{◌≡◌, Bool, false, cond, not, ◌&&◌, ◌||◌, List, [], ◌∷◌, ◌++◌, ℕ, suc, ◌+◌, ◌%◌, eqb, leb, get_or, drop, Option, Some, None}
use Rattle.std.proofs.Math.Option as math
use Rattle.std.proofs.Math.Option.{none, some}
use Rattle.reduction.specs.Lists.{has}
use Rattle.reduction.specs.Rule.{Entry}
use Rattle.reduction.specs.Form.{reduced_from}
use Rattle.encoding.specs.Set.{Mem, mem_of, exponent_at, with_exponent}
use Rattle.terms.specs.Workers.{bit_in, mul_in}
use Rattle.replay.specs.Check.{Task, Claim, given, verdict_on, working_for}
use Rattle.replay.specs.declared.Verdict.{Verdict}
use Rattle.reduction.specs.Log.{pairs}
use Rattle.reduction.specs.Checker.{first_bad}
use Rattle.replay.specs.Undo.{Undone, undone_by, back_for}

-- the call, where nothing is refused
pub record Judged (T : Task) (L : Claim) (r : Verdict) (left : Mem) : Type 0 where
  pub answer : r ≡ given (verdict_on T L)
  pub rows : left ≡ working_for T L

-- ---- entries

-- what a search of the code found, as an option of the definitions
abbrev pub found : Option ℕ → math.Option ℕ
found (Some i) = some i
found None = none

-- each number of the list has got the mark, and no other number's has changed
abbrev pub Marked : List ℕ → ℕ → List ℕ → List ℕ → Type 0
Marked l v old new = (k : ℕ) → get_or new k 0 ≡ cond (has k l) v (get_or old k 0)

-- the entry test by marks: 2 is listed, 1 extra and not listed, 0 neither
unfoldable pub good_by : List ℕ → Entry → Bool
good_by marks e = not (eqb e.target e.source) && leb 1 (get_or marks e.target 0) && leb 2 (get_or marks e.source 0)

-- the first entry that the test does not pass
unfoldable pub first_bad_by : (Entry → Bool) → ℕ → List Entry → math.Option ℕ
first_bad_by f i [] = none
first_bad_by f i (e ∷ es) = cond (f e) (first_bad_by f (suc i) es) (some i)

-- the entries done to rows in memory, one after another
unfoldable pub redone : ℕ → List Entry → Mem → Mem
redone n [] M = M
redone n (e ∷ es) M = redone n es (mul_in n e.target e.source M)

-- ---- reduced form, read off the memory: the rows are their numbers, and `bit_in` is their bits

abbrev pub self : ℕ → ℕ
self k = k

-- row k is p, or has column c clear
abbrev pub off_in : ℕ → List ℕ → List ℕ → ℕ → ℕ → ℕ → Bool
off_in n xs zs c p k = eqb k p || not (bit_in n xs zs k c)

-- the test of the columns cs, with the pivots that there are before them; no pivots, no test passed
abbrev pub tested_from : ℕ → List ℕ → List ℕ → List ℕ → List ℕ → Option ℕ → List ℕ → Bool
tested_from n xs zs listed extra (Some t) cs = reduced_from (bit_in n xs zs) self (listed ++ extra) (drop t listed) cs
tested_from n xs zs listed extra None cs = false

-- column c, looked at with t pivots: the pivots then, if it may stand so; what comes after it is tested from there
abbrev pub Looked : ℕ → List ℕ → List ℕ → List ℕ → List ℕ → ℕ → ℕ → Option ℕ → Type 0
Looked n xs zs listed extra t c r =
    (cs : List ℕ) → reduced_from (bit_in n xs zs) self (listed ++ extra) (drop t listed) (c ∷ cs) ≡ tested_from n xs zs listed extra r cs

-- ---- walking back

-- the exponent of row a has got twice that of row b
unfoldable pub turned : ℕ → ℕ → List ℕ → List ℕ
turned a b es = with_exponent es a ((exponent_at es a + exponent_at es b + exponent_at es b) % 4)

-- row a multiplied by row b, and then so: by the inverse of row b
unfoldable pub mul_back_in : ℕ → ℕ → ℕ → Mem → Mem
mul_back_in n a b M = let N = mul_in n a b M in mem_of N.m N.xs N.zs (turned a b N.es)

-- the entries taken back, the last one first
unfoldable pub mem_taken_back : ℕ → List Entry → Mem → Mem
mem_taken_back n [] M = M
mem_taken_back n (e ∷ es) M = mul_back_in n e.target e.source (mem_taken_back n es M)

-- the call, where nothing is refused
pub record Walked (n : ℕ) (listed extra log : List ℕ) (M M' : Mem) (r : Undone) : Type 0 where
  pub answer : r ≡ undone_by (first_bad listed extra 0 (pairs log))
  pub rows : M' ≡ back_for n listed extra log M
