-- What the functions ask and leave that do the reduction rule late: nothing here need be believed, since the public contract says what is left as the rule's own
-- run (`Does`). The row set, the entries in the log, the run they stand for; the table and what rows owe. Assumes nothing.
use Rattle.std.specs.Prelude.{◌≡◌, ◌⊎◌, Bool, true, false, cond, List, ◌∷◌, ℕ, ◌+◌, ◌-◌, ◌*◌, ◌/◌, ◌%◌, ◌^◌, ◌≤◌, ◌<◌, ltb, length, get_or, take, drop, set, Option, Some, None, Result, Ok, Err, ⊤}
use Rattle.std.specs.Bool.{xor}
use Rattle.std.proofs.Math.Option.{none, some}
use Rattle.pauli.specs.Row.{Row, mul_row, bit_row}
use Rattle.encoding.specs.Limits.{max_rows, max_words, words_of}
use Rattle.encoding.specs.Words.{odd}
use Rattle.encoding.specs.Set.{part, Mem, count, rows_of, exponent_at, with_exponent, phase_units, Sound}
use Rattle.products.specs.Leaves.{Product, Outside}
use Rattle.products.specs.declared.Factor.{Factor}
use Rattle.reduction.specs.Rule.{Entry, Run, first}
use Rattle.reduction.specs.Log.{pairs, capacity}
use Rattle.reduction.specs.Capacity.{Reduced, done, full}
use Rattle.reduction.specs.Workers.{through, column_c, first_place, Below}
use Rattle.tabled.specs.Workers.{Lazy, Held, going, stopped, paid, row_of, settle, pay, Doubles, multiply_l, fitting, Meets, Led, Clearing, Within}
use Rattle.late.specs.declared.Progress.{Progress}
use Rattle.late.specs.declared.clear.Late.{Late}

-- ---- how far a run has come

-- whether its log is full, the entries in it, the pivots
pub record Come : Type 0 where
  pub full : Bool
  pub entries : ℕ
  pub t : ℕ

-- a run that goes on
abbrev pub going_on : Progress → Come
going_on s = record { full = false; entries = s.entries; t = s.t }

-- what a run gives: an error where the log is full
abbrev pub come : Result Progress Progress → Come
come (Ok s) = record { full = false; entries = s.entries; t = s.t }
come (Err s) = record { full = true; entries = s.entries; t = s.t }

-- the same, with the pivots of the block
pub record Stage : Type 0 where
  pub full : Bool
  pub entries : ℕ
  pub t : ℕ
  pub g : ℕ

abbrev pub on : Late → Stage
on s = record { full = false; entries = s.entries; t = s.t; g = s.g }

abbrev pub at_of : Result Late Late → Stage
at_of (Ok s) = record { full = false; entries = s.entries; t = s.t; g = s.g }
at_of (Err s) = record { full = true; entries = s.entries; t = s.t; g = s.g }

abbrev pub come_of : Stage → Come
come_of s = record { full = s.full; entries = s.entries; t = s.t }

-- where the run goes on, its pivots are among the first m listed rows
abbrev pub Among : ℕ → Result Late Late → Type 0
Among m (Ok s) = s.t ≤ m
Among m (Err s) = ⊤

-- ---- a run in memory

-- the memory is a row set still, and as long as it was
pub record Keeps (n : ℕ) (M₀ M : Mem) : Type 0 where
  pub sound : Sound n M
  pub x_len : length M.xs ≡ length M₀.xs
  pub z-len : length M.zs ≡ length M₀.zs
  pub e-len : length M.es ≡ length M₀.es
  pub many : count M ≡ count M₀

-- the run that the memory, the log and the progress stand for
unfoldable pub run_of : ℕ → Mem → List ℕ → Come → Run Row
run_of n M log s = record { rows = rows_of n M; log = pairs (take (s.entries + s.entries) log); t = s.t }

unfoldable pub outcome : Bool → Run Row → Reduced Row
outcome false r = done r
outcome true r = full r.log r.rows

abbrev pub result_of : ℕ → Mem → List ℕ → Come → Reduced Row
result_of n M log s = outcome s.full (run_of n M log s)

-- the start of a run
abbrev pub start : Come
start = record { full = false; entries = 0; t = 0 }

-- A piece f of a run was done in memory: it began at M₀, log₀ and s₀ and has come to M, log and s. Units past the last entry are as before.
pub record Does (n : ℕ) (f : Run Row → Reduced Row) (M₀ : Mem) (log₀ : List ℕ) (s₀ : Come) (M : Mem) (log : List ℕ) (s : Come) : Type 0 where
  pub result : result_of n M log s ≡ f (run_of n M₀ log₀ s₀)
  pub grows : s₀.entries ≤ s.entries
  pub room : s.entries + s.entries ≤ length log
  pub keeps : Keeps n M₀ M
  pub log-len : length log ≡ length log₀
  pub past : (j : ℕ) → s.entries + s.entries ≤ j → get_or log j 0 ≡ get_or log₀ j 0

-- ---- a row of a set multiplied by a row of another, and copied

-- the parts lie inside, and the one that is written is the one on the left or lies past it
pub record RoomBy (w d s t : ℕ) (xs zs bx bz : List ℕ) : Type 0 where
  pub d-x : d + w ≤ length xs
  pub d-z : d + w ≤ length zs
  pub s-x : s + w ≤ length xs
  pub s-z : s + w ≤ length zs
  pub t-x : t + w ≤ length bx
  pub t-z : t + w ≤ length bz
  pub apart : (s ≡ d) ⊎ (s + w ≤ d)

-- the w words from d on are the product of the w words from s on and the w words from t on of the other, and the others are as they were
pub record MultipliedBy (w d s t : ℕ) (xs zs bx bz xs' zs' : List ℕ) (f : Factor) : Type 0 where
  pub here : Product (part s (s + w) xs) (part s (s + w) zs) (part t (t + w) bx) (part t (t + w) bz) (part d (d + w) xs') (part d (d + w) zs') f
  pub x-rest : Outside d (d + w) xs xs'
  pub z-rest : Outside d (d + w) zs zs'

-- rows of w words, within the limits, rows a and d in the one set and row b in the other
pub record RowsBy (w d a b : ℕ) (M N : Mem) : Type 0 where
  pub few : count M ≤ max_rows
  pub few-by : count N ≤ max_rows
  pub narrow : w ≤ max_words
  pub x-long : length M.xs ≡ count M * w
  pub z-long : length M.zs ≡ count M * w
  pub bx-long : length N.xs ≡ count N * w
  pub bz-long : length N.zs ≡ count N * w
  pub a_in : a ≤ d
  pub d-in : d < count M
  pub b-in : b < count N

-- row d of M is row a of M multiplied by row b of N, with its exponent
pub record RowBy (w d a b : ℕ) (M N M' : Mem) : Type 0 where
  pub factor : Factor
  pub words : MultipliedBy w (d * w) (a * w) (b * w) M.xs M.zs N.xs N.zs M'.xs M'.zs factor
  pub many : count M' ≡ count M
  pub exponents : M'.es ≡ with_exponent M.es d ((exponent_at M.es a + exponent_at N.es b + factor.phase.0) % 4)

-- the w words from d on are those of the other from t on
pub record Copied (w d t : ℕ) (xs ys xs' : List ℕ) : Type 0 where
  pub here : part d (d + w) xs' ≡ part t (t + w) ys
  pub rest : Outside d (d + w) xs xs'

-- row d of M is row b of N
pub record RowPut (w d b : ℕ) (M N M' : Mem) : Type 0 where
  pub x-words : Copied w (d * w) (b * w) M.xs N.xs M'.xs
  pub z-words : Copied w (d * w) (b * w) M.zs N.zs M'.zs
  pub many : count M' ≡ count M
  pub exponents : M'.es ≡ with_exponent M.es d (exponent_at N.es b)

-- ---- the table

-- its entries, and the pivots of a block: one for each set of these
abbrev pub table_rows : ℕ
table_rows = 64

abbrev pub block_pivots : ℕ
block_pivots = 6

-- a table of o entries, room for as many more, and row a, the next pivot
pub record DoubleIn (n o a : ℕ) (T M : Mem) : Type 0 where
  pub table : Sound n T
  pub rows : Sound n M
  pub some : 0 < o
  pub room : o + o ≤ count T
  pub a_in : a < count M

-- the same with entry o written
pub record FillIn (n w o a : ℕ) (T M : Mem) : Type 0 where
  pub ready : DoubleIn n o a T M
  pub words : w ≡ words_of n
  pub at : rows_of n T o ≡ rows_of n M a

pub record Doubled (n o a : ℕ) (T M T' : Mem) : Type 0 where
  pub keeps : Keeps n T T'
  pub entries : Doubles (mul_row n) o (rows_of n M a) (rows_of n T) (rows_of n T')

-- ---- paying

-- the lazy state that lies in memory, `owed` a byte for each row, with g pivots in the block
abbrev pub lazy_of : ℕ → Mem → List ℕ → Mem → ℕ → List Entry → ℕ → Lazy Row
lazy_of n M owed T g log t = record { rows = rows_of n M; owed = λ k. get_or owed k 0; table = rows_of n T; pivots = g; log = log; t = t }

-- what rows owe lies in the table
pub record Owing (n : ℕ) (M : Mem) (owed : List ℕ) (T : Mem) : Type 0 where
  pub rows : Sound n M
  pub table : Sound n T
  pub long : length owed ≡ count M
  pub small : (k : ℕ) → get_or owed k 0 < count T

pub record Paid (n k : ℕ) (M : Mem) (owed : List ℕ) (T M' : Mem) (owed' : List ℕ) : Type 0 where
  pub keeps : Keeps n M M'
  pub owed-len : length owed' ≡ length owed
  pub state : (g : ℕ) (log : List Entry) (t : ℕ) → lazy_of n M' owed' T g log t ≡ pay (mul_row n) k (lazy_of n M owed T g log t)

-- no row owes anything, and the rows are those that the state stood for
pub record PaidAll (n : ℕ) (M : Mem) (owed : List ℕ) (T M' : Mem) (owed' : List ℕ) : Type 0 where
  pub keeps : Keeps n M M'
  pub owed-len : length owed' ≡ length owed
  pub nothing : (k : ℕ) → get_or owed' k 0 ≡ 0
  pub state : (g g' : ℕ) (log : List Entry) (t : ℕ) → settle (mul_row n) (lazy_of n M' owed' T g' log t) ≡ settle (mul_row n) (lazy_of n M owed T g log t)

-- ---- the run, done late

-- what lies in memory: the rows, the table, what rows owe, the log, how far the run has come
pub record Store : Type 0 where
  pub rows : Mem
  pub table : Mem
  pub owed : List ℕ
  pub log : List ℕ
  pub at : Stage

abbrev pub store : Mem → Mem → List ℕ → List ℕ → Stage → Store
store M T owed log s = record { rows = M; table = T; owed = owed; log = log; at = s }

abbrev pub entries_of : Store → ℕ
entries_of S = S.at.entries + S.at.entries

abbrev pub late_of : ℕ → Store → Lazy Row
late_of n S = lazy_of n S.rows S.owed S.table S.at.g (pairs (take (entries_of S) S.log)) S.at.t

unfoldable pub held_by : Bool → Lazy Row → Held Row
held_by false L = going L
held_by true L = stopped L

abbrev pub held_of : ℕ → Store → Held Row
held_of n S = held_by S.at.full (late_of n S)

-- its shape; entry 0 of the table, which no row owes, has no bit set
pub record Shape (n : ℕ) (S : Store) : Type 0 where
  pub owing : Owing n S.rows S.owed S.table
  pub big : 2 ^ S.at.g ≤ count S.table
  pub fits : count S.table ≤ table_rows
  pub blank : (c : ℕ) → c < n + n → bit_row n (rows_of n S.table 0) c ≡ false
  pub room : entries_of S ≤ length S.log

-- memory keeps its shape and its lengths, entries are only added, and units past them are as before
pub record Carries (n : ℕ) (S₀ S : Store) : Type 0 where
  pub shape : Shape n S
  pub grows : S₀.at.entries ≤ S.at.entries
  pub rows-keep : Keeps n S₀.rows S.rows
  pub table-keep : Keeps n S₀.table S.table
  pub owed-len : length S.owed ≡ length S₀.owed
  pub log-len : length S.log ≡ length S₀.log
  pub past : (j : ℕ) → entries_of S ≤ j → get_or S.log j 0 ≡ get_or S₀.log j 0

-- A piece f of the rule's run was done late: what memory has come to stands for what f gives, and keeps I if the run goes on.
pub record Runs (n : ℕ) (I : Lazy Row → Type 0) (f : Run Row → Reduced Row) (S₀ S : Store) : Type 0 where
  pub meets : Meets (mul_row n) I (held_of n S) (f (settle (mul_row n) (late_of n S₀)))
  pub carries : Carries n S₀ S

-- ---- a column

-- bit i of word j of each row is read in the words bs of the rows and in the words ts of the table
pub record Reads (w j i : ℕ) (bs owed ts : List ℕ) : Type 0 where
  pub bit : i < 64
  pub row : (k : ℕ) → k < length owed → k * w + j < length bs
  pub entry : (k : ℕ) → k < length owed → get_or owed k 0 * w + j < length ts

abbrev pub word_bit : ℕ → ℕ → ℕ → List ℕ → ℕ → Bool
word_bit w j i bs k = odd (get_or bs (k * w + j) 0 / 2 ^ i)

-- of row k with what it owes
abbrev pub seen_bit : ℕ → ℕ → ℕ → List ℕ → List ℕ → List ℕ → ℕ → Bool
seen_bit w j i bs owed ts k = xor (word_bit w j i bs k) (word_bit w j i ts (get_or owed k 0))

-- the first place of the list, from place t on, whose number passes the test
abbrev pub place_from : (ℕ → Bool) → ℕ → List ℕ → Option ℕ
place_from f t l = let p = t + first_place f (drop t l) in cond (ltb p (length l)) (Some p) None

-- that bit is column c
pub record Sees (n c w j i : ℕ) (M T : Mem) (bs ts : List ℕ) : Type 0 where
  pub bit : i < 64
  pub word : j < w
  pub b-long : length bs ≡ count M * w
  pub t-long : length ts ≡ count T * w
  pub of_row : (k : ℕ) → k < count M → word_bit w j i bs k ≡ bit_row n (rows_of n M k) c
  pub of_entry : (k : ℕ) → k < count T → word_bit w j i ts k ≡ bit_row n (rows_of n T k) c

-- Column c is bit i of word j of the w words of a row: in the words bs and ts, which are X of rows and table below n, and Z from n on.
pub data Placed (n c : ℕ) (xs zs txs tzs bs ts : List ℕ) (w j i : ℕ) : Type 0 where
  in-x : c < n → bs ≡ xs → ts ≡ txs → w ≡ words_of n → j ≡ c / 64 → i ≡ c % 64 → Placed n c xs zs txs tzs bs ts w j i
  in-z : n ≤ c → bs ≡ zs → ts ≡ tzs → w ≡ words_of n → j ≡ (c - n) / 64 → i ≡ (c - n) % 64 → Placed n c xs zs txs tzs bs ts w j i

-- the log has room for an entry more, and the byte of row k for the pivot's bit, if it comes to owe it
pub record OweIn (owed log : List ℕ) (s : Stage) (h k : ℕ) (b : Bool) : Type 0 where
  pub room : s.entries < capacity log
  pub k-in : k < length owed
  pub small : get_or owed k 0 + cond b h 0 < 256

-- where b holds, the entry is there, and the row owes the pivot; else everything is as it was
pub record Owes (owed log : List ℕ) (s : Stage) (h p k : ℕ) (b : Bool) (owed' log' : List ℕ) (r : Stage) : Type 0 where
  pub owed-is : owed' ≡ set owed k (get_or owed k 0 + cond b h 0)
  pub log_is : log' ≡ set (set log (s.entries + s.entries) (cond b k (get_or log (s.entries + s.entries) 0))) (s.entries + s.entries + 1)
      (cond b p (get_or log (s.entries + s.entries + 1) 0))
  pub at-is : r ≡ record { full = false; entries = cond b (s.entries + 1) s.entries; t = s.t; g = s.g }

-- row p is the block's last pivot, its bit is h, and column c is being cleared
pub record TurnIn (n c p h : ℕ) (S : Store) : Type 0 where
  pub shape : Shape n S
  pub going : S.at.full ≡ false
  pub bit_is : h ≡ 2 ^ (S.at.g - 1)
  pub clearing : Clearing (bit_row n) (mul_row n) c p (S.at.g - 1) (late_of n S)
  pub c-in : c < n + n

-- row p is ready to be the block's next pivot, and the table has room for it
pub record FreezeIn (n c p o : ℕ) (S : Store) : Type 0 where
  pub shape : Shape n S
  pub led : Led (bit_row n) (mul_row n) c p S.at.g (late_of n S)
  pub size : o ≡ 2 ^ S.at.g
  pub more : 2 ^ S.at.g + 2 ^ S.at.g ≤ count S.table
  pub few : S.at.g < block_pivots
  pub p-in : p < count S.rows
  pub c-in : c < n + n

-- ---- the pivot and the row found

pub record PutIn (n : ℕ) (M : Mem) (log : List ℕ) (s : Stage) (a b : ℕ) : Type 0 where
  pub rows : Sound n M
  pub room : s.entries + s.entries ≤ length log
  pub a_in : a < count M
  pub b-in : b < count M

-- full, and nothing is done; or row a is multiplied by row b, and the entry is there
pub data Puts (n : ℕ) (M : Mem) (log : List ℕ) (s : Stage) (a b : ℕ) (M' : Mem) (log' : List ℕ) (r : Stage) : Type 0 where
  kept : capacity log ≤ s.entries → M' ≡ M → log' ≡ log → r ≡ record { full = true; entries = s.entries; t = s.t; g = s.g } → Puts n M log s a b M' log' r
  made : s.entries < capacity log → RowBy (words_of n) a a b M M M' → log' ≡ set (set log (s.entries + s.entries) a) (s.entries + s.entries + 1) b
      → r ≡ record { full = false; entries = s.entries + 1; t = s.t; g = s.g } → Puts n M log s a b M' log' r

-- the pivot and the row found are there, and rows owe pivots of the block only
pub record LeadIn (n p f : ℕ) (S : Store) : Type 0 where
  pub shape : Shape n S
  pub going : S.at.full ≡ false
  pub small : (k : ℕ) → get_or S.owed k 0 < 2 ^ S.at.g
  pub p-in : p < count S.rows
  pub f-in : f < count S.rows

-- row f is the first with column c from the pivot on, which is row p
pub record Finds (n c p f : ℕ) (S : Store) : Type 0 where
  pub rest : List ℕ
  pub found : first (bit_row n) (row_of (mul_row n) (late_of n S)) c (p ∷ rest) ≡ some f

-- `lead_l` where the row found is another
abbrev pub lead_by : ℕ → ℕ → ℕ → ℕ → Lazy Row → Held Row
lead_by n room p f L = fitting (bit_row n) (mul_row n) room (pay (mul_row n) f L) (multiply_l (mul_row n) p f (pay (mul_row n) f L))

-- a lazy step g was done in memory
pub record Makes (n : ℕ) (g : Lazy Row → Held Row) (S₀ S : Store) : Type 0 where
  pub is : held_of n S ≡ g (late_of n S₀)
  pub carries : Carries n S₀ S

-- ---- a pivot and a column

-- the table has room for one pivot more, of which o is the bit
pub record Space (o : ℕ) (S : Store) : Type 0 where
  pub size : o ≡ 2 ^ S.at.g
  pub more : 2 ^ S.at.g + 2 ^ S.at.g ≤ count S.table
  pub few : S.at.g < block_pivots

pub record PivotIn (n c p f o : ℕ) (S : Store) : Type 0 where
  pub ready : LeadIn n p f S
  pub finds : Finds n c p f S
  pub space : Space o S
  pub c-in : c < n + n

pub record SearchIn (n c t : ℕ) (M : Mem) (owed : List ℕ) (T : Mem) (listed : List ℕ) : Type 0 where
  pub owing : Owing n M owed T
  pub blank : (q : ℕ) → q < n + n → bit_row n (rows_of n T 0) q ≡ false
  pub inside : (i : ℕ) → i < length listed → get_or listed i 0 < count M
  pub place : t ≤ length listed
  pub c-in : c < n + n

-- the rows with what they owe
abbrev pub rows_paid : ℕ → Mem → List ℕ → Mem → ℕ → Row
rows_paid n M owed T k = paid (mul_row n) (rows_of n T) (rows_of n M k) (get_or owed k 0)

-- place r of the list, t or past it, is that of the first row from place t on with column c set
pub record FoundAt (n c t : ℕ) (M : Mem) (owed : List ℕ) (T : Mem) (listed : List ℕ) (r : ℕ) : Type 0 where
  pub from : t ≤ r
  pub inside : r < length listed
  pub there : first (bit_row n) (rows_paid n M owed T) c (drop t listed) ≡ some (get_or listed r 0)

-- the place of the first listed row, from place t on, with column c set
pub record Found (n c t : ℕ) (M : Mem) (owed : List ℕ) (T : Mem) (listed : List ℕ) (r : Option ℕ) : Type 0 where
  pub at : (k : ℕ) → r ≡ Some k → FoundAt n c t M owed T listed k
  pub nowhere : r ≡ None → first (bit_row n) (rows_paid n M owed T) c (drop t listed) ≡ none

pub record ColumnIn (n c o : ℕ) (listed : List ℕ) (S : Store) : Type 0 where
  pub shape : Shape n S
  pub going : S.at.full ≡ false
  pub small : (k : ℕ) → get_or S.owed k 0 < 2 ^ S.at.g
  pub place : S.at.t ≤ length listed
  pub space : Space o S
  pub c-in : c < n + n

-- ---- blocks

pub record BeginIn (n : ℕ) (M : Mem) (owed : List ℕ) (T : Mem) (s : Stage) : Type 0 where
  pub owing : Owing n M owed T
  pub small : (k : ℕ) → get_or owed k 0 < 2 ^ s.g
  pub few : s.g ≤ block_pivots
  pub going : s.full ≡ false

-- a block that has room for a pivot, and memory stands for the same
pub record Began (n : ℕ) (T M₀ : Mem) (owed₀ : List ℕ) (s₀ : Stage) (M : Mem) (owed : List ℕ) (s : Stage) : Type 0 where
  pub keeps : Keeps n M₀ M
  pub owing : Owing n M owed T
  pub owed-len : length owed ≡ length owed₀
  pub small : (k : ℕ) → get_or owed k 0 < 2 ^ s.g
  pub few : s.g < block_pivots
  pub going : s.full ≡ false
  pub same_entries : s.entries ≡ s₀.entries
  pub same-t : s.t ≡ s₀.t
  pub state : (log : List Entry) (t : ℕ) → settle (mul_row n) (lazy_of n M owed T s.g log t) ≡ settle (mul_row n) (lazy_of n M₀ owed₀ T s₀.g log t)

pub record StepIn (n c : ℕ) (listed : List ℕ) (S : Store) : Type 0 where
  pub shape : Shape n S
  pub going : S.at.full ≡ false
  pub within : Within block_pivots (late_of n S)
  pub place : S.at.t ≤ length listed
  pub c-in : c < n + n

-- at the start no row owes anything
pub record StartIn (n : ℕ) (M : Mem) (owed : List ℕ) (T : Mem) : Type 0 where
  pub owing : Owing n M owed T
  pub nothing : (k : ℕ) → get_or owed k 0 ≡ 0
  pub blank : (q : ℕ) → q < n + n → bit_row n (rows_of n T 0) q ≡ false

abbrev pub begun : Stage
begun = record { full = false; entries = 0; t = 0; g = 0 }

-- ---- the scratch arrays, and the whole

abbrev pub Blank : List ℕ → Type 0
Blank l = (k : ℕ) → get_or l k 0 ≡ 0

pub record Blanks (owed tx tz tp : List ℕ) : Type 0 where
  pub o-long : length owed ≡ max_rows
  pub x-long : length tx ≡ table_rows * max_words
  pub z-long : length tz ≡ table_rows * max_words
  pub e-long : length tp ≡ phase_units table_rows
  pub o-blank : Blank owed
  pub x-blank : Blank tx
  pub z-blank : Blank tz
  pub e-blank : Blank tp

-- a row set within the limits, and numbers below theirs
pub record ListsIn (n : ℕ) (order listed extra : List ℕ) (M : Mem) : Type 0 where
  pub sound : Sound n M
  pub order-in : Below (n + n) order
  pub listed_in : Below (count M) listed
  pub extra-in : Below (count M) extra

-- the answer to whether it is so
pub data Told (P : Type 0) (r : Bool) : Type 0 where
  it-is : r ≡ true → P → Told P r
  it-is-not : r ≡ false → (P → ⊥) → Told P r

-- The columns of the order are done; where what is asked does not hold, nothing is done.
pub data Reduces (n : ℕ) (order listed extra : List ℕ) (M : Mem) (log : List ℕ) (M' : Mem) (log' : List ℕ) (r : Come) : Type 0 where
  reduced : ListsIn n order listed extra M → Does n (through (column_c (bit_row n) (mul_row n) (capacity log) listed extra) order) M log start M' log' r
      → Reduces n order listed extra M log M' log' r
  kept-all : (ListsIn n order listed extra M → ⊥) → M' ≡ M → log' ≡ log → r ≡ start → Reduces n order listed extra M log M' log' r
