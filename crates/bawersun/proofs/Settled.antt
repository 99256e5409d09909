-- What C gets of a call is settled wherever the call's own contract settles its answer and what it leaves: the number returned, the value and what is
-- lent are the same in any two outcomes. It is said of any call by what it gives, and in full of the log files. Assumes nothing.
use mathlib.Core.Path.{◌≡◌, sym, ap, ◌∙◌, refl}
use mathlib.Core.List.{List}
use Prim.Native.Nat.{ℕ}
use Rattle.std.specs.Prelude.{Result}
use Rattle.encoding.specs.declared.Refusal.{Refusal}
use Rattle.terms.specs.Calls.{ReductionAnswer, reduced_number}
use Rattle.pwl.proofs.Meaning.{write-determined, read-determined}
use Rattle.pwl.specs.Calls.{Outputs, Writes, Reads, opened}
use Rattle.pwl.specs.File.{Run}
use Rattle.pwl.specs.declared.Front.{Front}
use Rattle.bawersun.specs.Told.{Told, Exactly, Seen, number_in, value_in, Gives, value_seen, Number, number_of, Counted, entries_or, pivots_or}

-- a call whose contract settles its answer and what it leaves
abbrev One : {A O : Type 0} → (O → A → Type 0) → Type 0
One {A} {O} Call = (o o' : O) (a a' : A) → Call o a → Call o' a' → (a ≡ a') × (o ≡ o')

pub told-one : {A B O : Type 0} (Call : O → A → Type 0) (seen : A → Seen B) → One Call
    → {o o' : O} {old new new' : B} {r r' : ℕ} → Told (Call o) (Gives seen old new r) → Told (Call o') (Gives seen old new' r')
    → (o ≡ o') × (r ≡ r') × (new ≡ new')
told-one {A} Call seen one {o} {o'} {old} t u =
    let e = one o o' t.given u.given t.call u.call in (
      e.1,
      t.seen.number ∙ ap (λ (a : A). number_in (seen a)) e.0 ∙ sym u.seen.number,
      t.seen.value ∙ ap (λ (a : A). value_in old (seen a)) e.0 ∙ sym u.seen.value,
    )

-- a number alone
pub number-one : {O : Type 0} (Call : O → Result Unit Refusal → Type 0) → One Call
    → {o o' : O} {r r' : ℕ} → Told (Call o) (Number r) → Told (Call o') (Number r') → (o ≡ o') × (r ≡ r')
number-one Call one {o} {o'} t u =
    let e = one o o' t.given u.given t.call u.call in
    (e.1, t.seen ∙ ap number_of e.0 ∙ sym u.seen)

-- a reduction: the entries k and the pivots h
pub counted-one : {O : Type 0} (Call : O → ReductionAnswer → Type 0) → One Call
    → {o o' : O} {k h k₁ h₁ k₂ h₂ r r' : ℕ} → Told (Call o) (Counted k h k₁ h₁ r) → Told (Call o') (Counted k h k₂ h₂ r')
    → (o ≡ o') × (r ≡ r') × (k₁ ≡ k₂) × (h₁ ≡ h₂)
counted-one Call one {o} {o'} {k} {h} t u =
    let e = one o o' t.given u.given t.call u.call in (
      e.1,
      t.seen.number ∙ ap reduced_number e.0 ∙ sym u.seen.number,
      t.seen.count ∙ ap (entries_or k) e.0 ∙ sym u.seen.count,
      t.seen.pivots ∙ ap (pivots_or h) e.0 ∙ sym u.seen.pivots,
    )

pub write-one : (R : Run) (out : List ℕ) {p p' : List ℕ} {old new new' r r' : ℕ}
    → Told (Writes R out p) (Gives value_seen old new r) → Told (Writes R out p') (Gives value_seen old new' r')
    → (p ≡ p') × (r ≡ r') × (new ≡ new')
write-one R out = told-one (Writes R out) value_seen (λ p p' a a'. write-determined R)

pub read_one : (s : List ℕ) (o : Outputs) {p p' : Outputs} {old new new' : Front} {r r' : ℕ}
    → Told (Reads s o p) (Gives value_seen old new r) → Told (Reads s o p') (Gives value_seen old new' r')
    → (p ≡ p') × (r ≡ r') × (new ≡ new')
read_one s o = told-one (Reads s o) value_seen (λ p p' a a'. read-determined s)

pub open-one : (s : List ℕ) {old new new' : Front} {r r' : ℕ}
    → Told (Exactly (opened s)) (Gives value_seen old new r) → Told (Exactly (opened s)) (Gives value_seen old new' r')
    → (r ≡ r') × (new ≡ new')
open-one s t u =
    let e = told-one (λ (o : Unit {0}). Exactly (opened s)) value_seen (λ o o' a a' c d. (c ∙ sym d, refl)) t u in
    (e.1, e.2)
