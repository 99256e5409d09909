-- The reduction rule done late. A row that the rule multiplies by a pivot is not multiplied yet: the pivot's bit is set in what the row owes. The
-- table has, for each set of pivots of the block, their product in the order of time; so a row's products by up to as many pivots are made as one.
-- No definition to be believed: `lazy-is-capped` of proofs/Theorems.antt proves that it ends as `capped` says. Assumes nothing.
use Rattle.std.specs.Prelude.{ℕ, suc, ◌+◌, ◌-◌, ◌/◌, ◌%◌, ◌^◌, ◌<◌, ◌≤◌, ◌≡◌, Bool, cond, not, ◌&&◌, true, List, [], ◌∷◌, ◌++◌, eqb, ltb, length, get_or, drop}
use Rattle.std.proofs.Math.Option.{Option, none, some}
use Rattle.reduction.specs.Rule.{Entry, entry, Run, mul_at, first}
use Rattle.reduction.specs.Capacity.{Reduced, done, full}

-- Rows as they lie, what each owes (a number whose bit j is pivot j of the block), the table, the number of the block's pivots; log and t.
pub record Lazy (R : Type 0) : Type 0 where
  pub rows : ℕ → R
  pub owed : ℕ → ℕ
  pub table : ℕ → R
  pub pivots : ℕ
  pub log : List Entry
  pub t : ℕ

-- where a run has come to: it goes on, or its log is full
pub data Held (R : Type 0) : Type 0 where
  going : Lazy R → Held R
  stopped : Lazy R → Held R

unfoldable pub then_l : {R : Type 0} → Held R → (Lazy R → Held R) → Held R
then_l (going s) g = g s
then_l (stopped s) g = stopped s

unfoldable pub through_l : {R : Type 0} → (ℕ → Lazy R → Held R) → List ℕ → Lazy R → Held R
through_l g [] s = going s
through_l g (k ∷ ks) s = then_l (g k s) (λ s'. through_l g ks s')

-- the function with the value v at a
unfoldable pub put_at : {A : Type 0} → (ℕ → A) → ℕ → A → ℕ → A
put_at f a v k = cond (eqb k a) v (f k)

-- "Add 1 to t."
unfoldable pub counted_l : {R : Type 0} → Lazy R → Lazy R
counted_l s = record { rows = s.rows; owed = s.owed; table = s.table; pivots = s.pivots; log = s.log; t = suc s.t }

-- Row k owes pivot j too, which is row p: logged as (k, p), and not multiplied.
unfoldable pub owe : {R : Type 0} → ℕ → ℕ → ℕ → Lazy R → Lazy R
owe j k p s =
    record { rows = s.rows; owed = put_at s.owed k (s.owed k + 2 ^ j); table = s.table; pivots = s.pivots; log = s.log ++ (entry k p ∷ []); t = s.t }

-- the table of one pivot more
unfoldable pub with_table : {R : Type 0} → (ℕ → R) → Lazy R → Lazy R
with_table T s = record { rows = s.rows; owed = s.owed; table = T; pivots = suc s.pivots; log = s.log; t = s.t }

module _ {R : Type 0} (mul : R → R → R) where
  -- r with what it owes paid: one product by an entry of the table, none where it owes nothing
  unfoldable pub paid : (ℕ → R) → R → ℕ → R
  paid table r n = cond (eqb n 0) r (mul r (table n))

  abbrev pub row_of : Lazy R → ℕ → R
  row_of s k = paid s.table (s.rows k) (s.owed k)

  -- the run that a lazy state stands for
  unfoldable pub settle : Lazy R → Run R
  settle s = record { rows = row_of s; log = s.log; t = s.t }

  unfoldable pub settled : Held R → Reduced R
  settled (going s) = done (settle s)
  settled (stopped s) = full s.log (row_of s)

  -- row k pays what it owes
  unfoldable pub pay : ℕ → Lazy R → Lazy R
  pay k s =
      record { rows = put_at s.rows k (row_of s k); owed = put_at s.owed k 0; table = s.table; pivots = s.pivots; log = s.log; t = s.t }

  -- every row pays, and a new block begins
  unfoldable pub pay_all : Lazy R → Lazy R
  pay_all s = record { rows = row_of s; owed = λ _. 0; table = s.table; pivots = 0; log = s.log; t = s.t }

  -- The table of o entries and the pivot f give one of 2 · o entries: entry o is f, entry o + c is entry c times f. What lies past them stays.
  unfoldable pub doubled : ℕ → R → (ℕ → R) → ℕ → R
  doubled o f T n = cond (ltb n o) (T n) (cond (ltb n (o + o)) (cond (eqb n o) f (mul (T (n - o)) f)) (T n))

  -- and what is asked of a table that was filled so: what lies past its entries is free
  pub record Doubles (o : ℕ) (f : R) (T T' : ℕ → R) : Type 0 where
    pub below : (n : ℕ) → n < o → T' n ≡ T n
    pub at : T' o ≡ f
    pub above : (n : ℕ) → 0 < n → n < o → T' (n + o) ≡ mul (T n) f

  -- Row p, which owes nothing, becomes the next pivot of the block, as it is now.
  unfoldable pub freeze : ℕ → Lazy R → Lazy R
  freeze p s = with_table (doubled (2 ^ s.pivots) (s.rows p) s.table) s

  -- the table of a list of pivots, by doubling, from one that has 2 ^ j entries
  unfoldable pub table_of : ℕ → (ℕ → R) → List R → ℕ → R
  table_of j T [] = T
  table_of j T (f ∷ fs) = table_of (suc j) (doubled (2 ^ j) f T) fs

  -- r times those pivots of the list whose bit is set in n, one after another: bit j for pivot j
  unfoldable pub times : R → List R → ℕ → R
  times r [] n = r
  times r (f ∷ fs) n = times (cond (eqb (n % 2) 1) (mul r f) r) fs (n / 2)

  -- "multiply a by b, log (a, b)", of rows that owe nothing
  unfoldable pub multiply_l : ℕ → ℕ → Lazy R → Lazy R
  multiply_l a b s =
      record { rows = mul_at mul s.rows a b; owed = s.owed; table = s.table; pivots = s.pivots; log = s.log ++ (entry a b ∷ []); t = s.t }

module _ {R : Type 0} (bit : R → ℕ → Bool) (mul : R → R → R) (capacity : ℕ) where
  -- the entry, if it fits
  unfoldable pub fitting : Lazy R → Lazy R → Held R
  fitting s s' = cond (ltb (length s.log) capacity) (going s') (stopped s)

  unfoldable pub turn_l : ℕ → ℕ → ℕ → ℕ → Lazy R → Held R
  turn_l c p j k s = cond (not (eqb k p) && bit (row_of mul s k) c) (fitting s (owe j k p s)) (going s)

  unfoldable pub lead_l : ℕ → ℕ → Lazy R → Held R
  lead_l p f s = cond (eqb f p) (going s) (let s' = pay mul f s in fitting s' (multiply_l mul p f s'))

  unfoldable pub pivot_l : List ℕ → ℕ → ℕ → ℕ → Lazy R → Held R
  pivot_l all c p f s = then_l (lead_l p f (pay mul p s)) (λ s'. through_l (turn_l c p s.pivots) all (freeze mul p s'))

  unfoldable pub column_by_l : List ℕ → List ℕ → ℕ → Option ℕ → Lazy R → Held R
  column_by_l listed extra c none s = going s
  column_by_l listed extra c (some f) s = then_l (pivot_l (listed ++ extra) c (get_or listed s.t 0) f s) (λ s'. going (counted_l s'))

  unfoldable pub column_l : List ℕ → List ℕ → ℕ → Lazy R → Held R
  column_l listed extra c s = column_by_l listed extra c (first bit (row_of mul s) c (drop s.t listed)) s

  -- a column, after a new block is begun where the block has its G pivots
  unfoldable pub column_in : ℕ → List ℕ → List ℕ → ℕ → Lazy R → Held R
  column_in G listed extra c s = column_l listed extra c (cond (ltb s.pivots G) s (pay_all mul s))

  -- the whole, from the rows σ, with whatever lies in the table
  unfoldable pub lazily : ℕ → List ℕ → List ℕ → List ℕ → (ℕ → R) → (ℕ → R) → Held R
  lazily G order listed extra T σ = through_l (column_in G listed extra) order (record { rows = σ; owed = λ _. 0; table = T; pivots = 0; log = []; t = 0 })

-- ---- what holds of a lazy state, and when it stands for a state of the rule's run

-- h stands for r, and if it goes on, I holds there
pub data Meets {R : Type 0} (mul : R → R → R) (I : Lazy R → Type 0) (h : Held R) (r : Reduced R) : Type 0 where
  goes : (s : Lazy R) → h ≡ going s → r ≡ done (settle mul s) → I s → Meets mul I h r
  stops : (s : Lazy R) → h ≡ stopped s → r ≡ full s.log (row_of mul s) → Meets mul I h r

-- between columns: the block has at most G pivots, and no row owes another
pub record Within {R : Type 0} (G : ℕ) (s : Lazy R) : Type 0 where
  pub few : s.pivots ≤ G
  pub small : (k : ℕ) → s.owed k < 2 ^ s.pivots

module _ {R : Type 0} (bit : R → ℕ → Bool) (mul : R → R → R) where
  -- row p is ready to be pivot j: it owes nothing and has column c
  pub record Led (c p j : ℕ) (s : Lazy R) : Type 0 where
    pub count : s.pivots ≡ j
    pub small : (k : ℕ) → s.owed k < 2 ^ j
    pub nothing : s.owed p ≡ 0
    pub one : bit (row_of mul s p) c ≡ true

  -- row p is pivot j, and rows are being made to owe it: a row that has column c still does not owe it yet
  pub record Clearing (c p j : ℕ) (s : Lazy R) : Type 0 where
    pub count : s.pivots ≡ suc j
    pub small : (k : ℕ) → s.owed k < 2 ^ j + 2 ^ j
    pub nothing : s.owed p ≡ 0
    pub one : bit (s.rows p) c ≡ true
    pub at : s.table (2 ^ j) ≡ s.rows p
    pub above : (n : ℕ) → 0 < n → n < 2 ^ j → s.table (n + 2 ^ j) ≡ mul (s.table n) (s.rows p)
    pub still : (k : ℕ) → bit (row_of mul s k) c ≡ true → s.owed k < 2 ^ j
