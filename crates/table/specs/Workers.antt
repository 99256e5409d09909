-- What the table's entries are: the rule, and the test that each entry of a list follows it. Assumes nothing.
use Rattle.std.specs.Prelude.{◌≡◌, Bool, true, ◌&&◌, List, [], ◌∷◌, ℕ, suc, ◌/◌, ◌%◌, T, eqb, length}
use Rattle.pauli.specs.Pauli.{phases}
use Rattle.encoding.specs.Words.{word}

-- the entry at place k: two bits each of lx, lz, rx, rz, those of rz lowest
unfoldable pub rule_at : ℕ → ℕ
rule_at k = phases (word 2 (k / 64) (k / 16 % 4)) (word 2 (k / 4 % 4) (k % 4)) % 4

-- each entry of the list follows the rule, the first of them at place k
unfoldable pub all_ruled : ℕ → List ℕ → Bool
all_ruled k [] = true
all_ruled k (x ∷ xs) = eqb x (rule_at k) && all_ruled (suc k) xs

-- 256 entries that follow the rule: what the functions that are lent the table ask
abbrev pub Ruled : List ℕ → Type 0
Ruled t = (length t ≡ 256) × T (all_ruled 0 t)
