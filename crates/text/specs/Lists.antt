-- Lists: items with commas between them, `-` for none; and logs, in pairs with colons (`0:1,1:0`) or flat.
use Rattle.std.specs.Prelude.{Result, Ok, Err, ◌≡◌, Bool, false, cond, not, ◌&&◌, List, [], ◌∷◌, ◌++◌, ℕ, zero, suc, ◌≤◌, length, take, drop}
use Rattle.text.specs.Readers.{Got, none, got, starts}
use Rattle.text.specs.Numbers.{no_digit}

-- what stands between items: a colon behind a pair's first, a comma behind any other
abbrev pub mark : Bool → ℕ
mark first = cond first 58 44

module _ {A : Type 0} where
  -- ---- writing

  abbrev pub joined : (A → List ℕ) → A → List A → List ℕ
  joined write v [] = write v
  joined write v (w ∷ l) = write v ++ (44 ∷ joined write w l)

  abbrev pub listed : (A → List ℕ) → List A → List ℕ
  listed write [] = 45 ∷ []
  listed write (v ∷ l) = joined write v l

  -- ---- reading

  -- vs before what is read
  abbrev pub after : List A → Got (List A) → Got (List A)
  after vs none = none
  after vs (got ws t) = got (vs ++ ws) t

  -- an item, and behind its mark what follows; a pair's first item is not the last
  abbrev pub more : Bool → (List ℕ → Got (List A)) → Got A → Got (List A)
  more first onward none = none
  more first onward (got v t) = cond (starts (mark first) t) (after (v ∷ []) (onward (drop 1 t))) (cond first none (got (v ∷ []) t))

  -- one item or more, and no more than there is room for; of pairs every other item is a pair's first
  abbrev pub items_of : Bool → Bool → (List ℕ → Got A) → ℕ → List ℕ → Got (List A)
  items_of pairs first read zero s = none
  items_of pairs first read (suc room) s = more first (items_of pairs (pairs && not first) read room) (read s)

  -- no pairs
  abbrev pub items : (List ℕ → Got A) → ℕ → List ℕ → Got (List A)
  items read room s = items_of false false read room s

  -- a colon stands behind what was read
  abbrev pub colon : Got A → Bool
  colon none = false
  colon (got v t) = starts 58 t

-- a minus that stands for the empty list, and not before a number
abbrev pub dash : List ℕ → Bool
dash s = starts 45 s && no_digit (drop 1 s)

unfoldable pub list : {A : Type 0} → (List ℕ → Got A) → ℕ → List ℕ → Got (List A)
list read room s = cond (dash s) (got [] (drop 1 s)) (items read room s)

-- the same, or pairs where a colon stands behind the first item
unfoldable pub log : {A : Type 0} → (List ℕ → Got A) → ℕ → List ℕ → Got (List A)
log read room s = cond (dash s) (got [] (drop 1 s)) (items_of (colon (read s)) (colon (read s)) read room s)

-- ---- which texts are read: proofs/Lists.antt has that these are, and no others

-- w is two texts with a comma between them
pub record Parted (First Others : List ℕ → Type 0) (w : List ℕ) : Type 0 where
  pub text : List ℕ
  pub rest : List ℕ
  pub is : w ≡ text ++ (44 ∷ rest)
  pub first : First text
  pub others : Others rest

-- w spells the list vs, where texts spell its items
abbrev pub SpellsList : {A : Type 0} → (A → List ℕ → Type 0) → List A → List ℕ → Type 0
SpellsList Item [] w = w ≡ 45 ∷ []
SpellsList Item (v ∷ []) w = Item v w
SpellsList Item (v ∷ x ∷ l) w = Parted (Item v) (SpellsList Item (x ∷ l)) w

-- `count` items were read, by a reader for as many as there is room for, into a slice that held o and holds p now; behind them p is as it was
pub record Filled {A : Type 0} (read : ℕ → List ℕ → Got (List A)) (s : List ℕ) (at : ℕ) (o p : List A) (count next : ℕ) : Type 0 where
  pub is : read (length o) (drop at s) ≡ got (take count p) (drop next s)
  pub within : next ≤ length s
  pub room : count ≤ length o
  pub same : length p ≡ length o
  pub rest : drop count p ≡ drop count o

-- none was read; `count` items were taken of it, and behind them p is as it was
pub record Unread {A : Type 0} (read : ℕ → List ℕ → Got (List A)) (s : List ℕ) (at : ℕ) (o p : List A) (count : ℕ) : Type 0 where
  pub is : read (length o) (drop at s) ≡ none
  pub room : count ≤ length o
  pub same : length p ≡ length o
  pub rest : drop count p ≡ drop count o

-- what is answered of a place of s: how many items were read and the place behind them, or how many were taken of what is no list
abbrev pub Fills : {A : Type 0} → (ℕ → List ℕ → Got (List A)) → List ℕ → ℕ → List A → List A → Result (ℕ × ℕ) ℕ → Type 0
Fills read s at o p (Err k) = Unread read s at o p k
Fills read s at o p (Ok r) = Filled read s at o p r.0 r.1
