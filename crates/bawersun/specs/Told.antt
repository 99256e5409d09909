-- The calls of RULES 13 for callers from C and Rust: what such a caller sees of an answer. A slice comes as a pointer and a length; the number
-- returned is 0 for done, else the number of RULES 9.4 or one of the four above 251; a value comes through a reference, and where none is given what
-- stood there stays. Assumes nothing.
use Rattle.std.specs.Prelude.{◌≡◌, Bool, cond, ℕ, zero, suc, Option, Some, None, Result, Ok, Err}
use Rattle.encoding.specs.declared.Refusal.{Refusal}
use Rattle.pauli.specs.Pauli.{Pauli}
use Rattle.pauli.specs.declared.PauliMatrix.TheVariants.{I, X, Y, Z}
use Rattle.pauli.specs.declared.ComplexSign.{ComplexSign}
use Rattle.terms.specs.Calls.{ReductionAnswer, reduced_number}
use Rattle.terms.specs.declared.Stopped.TheVariants.{Full, Refused}
use Rattle.encoding.specs.Set.{Mem}
use Rattle.replay.specs.Check.{Task, Claim, CheckAnswer, Checked}
use Rattle.replay.specs.Undo.{Undone}
use Rattle.replay.specs.declared.NotUndone.TheVariants as undone
use Rattle.replay.specs.declared.Verdict.TheVariants as verdict
use Rattle.gates.specs.declared.Gate.{Gate}
use Rattle.gates.specs.declared.Gate.TheVariants as gate
use Rattle.checked.specs.declared.Complex.{Complex}

-- what the call's own contract says, of the answer that the caller sees
pub record Told {A : Type 0} (Call Seen : A → Type 0) : Type 0 where
  pub given : A
  pub call : Call given
  pub seen : Seen given

-- an answer that the call's contract gives as an equation
abbrev pub Exactly : {A : Type 0} → A → A → Type 0
Exactly b a = a ≡ b

-- what a caller sees of an answer: a number alone, or a number with a value
pub data Seen (B : Type 0) : Type 0 where
  alone : ℕ → Seen B
  with : ℕ → B → Seen B

abbrev pub number_in : {B : Type 0} → Seen B → ℕ
number_in (alone k) = k
number_in (with k b) = k

abbrev pub value_in : {B : Type 0} → B → Seen B → B
value_in old (alone k) = old
value_in old (with k b) = b

-- the number returned, and what stands in the value's place before and after
pub record Gives {A B : Type 0} (seen : A → Seen B) (old new : B) (r : ℕ) (a : A) : Type 0 where
  pub number : r ≡ number_in (seen a)
  pub value : new ≡ value_in old (seen a)

-- ---- calls that are done or refused

abbrev pub number_of : Result Unit Refusal → ℕ
number_of (Ok u) = 0
number_of (Err r) = r.0

abbrev pub Number : ℕ → Result Unit Refusal → Type 0
Number r a = r ≡ number_of a

-- ---- calls that give a value or are refused: the value, or what f makes of it

abbrev pub seen_as : {A B : Type 0} → (A → B) → Result A Refusal → Seen B
seen_as f (Ok v) = with 0 (f v)
seen_as f (Err r) = alone r.0

abbrev pub value_seen : {A : Type 0} → Result A Refusal → Seen A
value_seen = seen_as (λ v. v)

-- ---- Paulis by number: I 0, X 1, Y 2, Z 3

abbrev pub pauli_number : Pauli → ℕ
pauli_number I = 0
pauli_number X = 1
pauli_number Y = 2
pauli_number Z = 3

abbrev pub pauli_of : ℕ → Option Pauli
pauli_of zero = Some I
pauli_of (suc zero) = Some X
pauli_of (suc (suc zero)) = Some Y
pauli_of (suc (suc (suc zero))) = Some Z
pauli_of (suc (suc (suc (suc k)))) = None

abbrev pub pauli_or : Option Pauli → Pauli
pauli_or (Some p) = p
pauli_or None = I

-- a number that is no Pauli's is refused as a row is that the set has not: 6, where the set itself passes
abbrev pub row_for : Option Pauli → ℕ → ℕ → ℕ
row_for (Some p) m row = row
row_for None m row = m

abbrev pub got_seen : Result Pauli Refusal → Seen ℕ
got_seen = seen_as pauli_number

-- ---- a question, 1 for yes and 0 for no; the exponent of a product

abbrev pub truth_bit : Bool → ℕ
truth_bit b = cond b 1 0

abbrev pub truth_seen : Result Bool Refusal → Seen ℕ
truth_seen = seen_as truth_bit

abbrev pub phase_seen : Result ComplexSign Refusal → Seen ℕ
phase_seen = seen_as (λ (e : ComplexSign). e.0)

-- ---- a reduction: the entry count and t, the capacity (refusal 8) in the place of the count

abbrev pub entries_or : ℕ → ReductionAnswer → ℕ
entries_or old (Ok c) = c.entries
entries_or old (Err (Full k)) = k
entries_or old (Err (Refused r)) = old

abbrev pub pivots_or : ℕ → ReductionAnswer → ℕ
pivots_or old (Ok c) = c.t
pivots_or old (Err s) = old

pub record Counted (entries t entries' t' r : ℕ) (a : ReductionAnswer) : Type 0 where
  pub number : r ≡ reduced_number a
  pub count : entries' ≡ entries_or entries a
  pub pivots : t' ≡ pivots_or t a

-- ---- a check: 0 for yes, else the refusal's number or the verdict's, with the place of the bad entry or of the row

abbrev pub differing : ℕ
differing = 252

abbrev pub bad_entry : ℕ
bad_entry = 253

abbrev pub not_reduced : ℕ
not_reduced = 254

abbrev pub verdict_seen : CheckAnswer → Seen ℕ
verdict_seen (Ok (verdict.BadEntry k)) = with bad_entry k
verdict_seen (Ok (verdict.Differs k)) = with differing k
verdict_seen (Ok verdict.NotReduced) = alone not_reduced
verdict_seen (Ok verdict.Yes) = alone 0
verdict_seen (Err r) = alone r.0

abbrev pub CheckedOn : Task → Claim → Mem → CheckAnswer → Type 0
CheckedOn T L left v = Checked T L v left

-- ---- a log walked back: 0 for done, else the refusal's number or the bad entry's, with its place

abbrev pub undone_seen : Undone → Seen ℕ
undone_seen (Ok u) = alone 0
undone_seen (Err (undone.BadEntry k)) = with bad_entry k
undone_seen (Err (undone.Refused r)) = alone r.0

-- ---- a matrix element: the two parts of the sum, in floats or whole numbers, or 255 for no block

abbrev pub parts : {A : Type 0} → A → A → Complex A
parts re im = record { re = re; im = im }

abbrev pub no_block : ℕ
no_block = 255

abbrev pub element_seen : {A : Type 0} → Result (Option (Complex A)) Refusal → Seen (Complex A)
element_seen (Ok (Some c)) = with 0 c
element_seen (Ok None) = alone no_block
element_seen (Err r) = alone r.0

-- ---- gates, by the numbers of their qubits

abbrev pub h_of : ℕ → Gate
h_of q = gate.H (record { 0 = q })

abbrev pub s_of : ℕ → Gate
s_of q = gate.S (record { 0 = q })

abbrev pub cx_of : ℕ → ℕ → Gate
cx_of c t = gate.CX (record { 0 = c }) (record { 0 = t })
