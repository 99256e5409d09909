-- The answer to a line by what its readers found: a bad line where a field is not there or more stands behind the last one, else what is said to the
-- fields. Both follow from where the last field ends (`line-end`).
use Rattle.forms.proofs.Reading.{valued, found_reads, ended, line-end}
use Rattle.calls.proofs.Kit.{◌≡◌, refl, sym, ap, ◌∙◌, subst, Bool, true, false, cond, List, [], ◌∷◌, ℕ, zero, suc, length, drop, eqb, Got, none, got, answer}
use Rattle.std.specs.Prelude.{Option, Some, None, MatchOption, Result}
use Rattle.text.specs.Readers.{mapped}
use Rattle.text.specs.Lines.{Kind, Value, read, field, fields, joined_by, further, last}
use Rattle.forms.specs.Form.{then}
use Rattle.forms.specs.Fields.{Found, Finds, closed_at}
use Rattle.std.proofs.lemmas.Option.{none-some, cond_some}
use Rattle.pauli.specs.Pauli.{Pauli}
use Rattle.pauli.specs.Rows.{clashes_of, act_phase_on, with_qubit}
use Rattle.encoding.specs.Set.{Mem, count, rows_of, lay, state_of}
use Rattle.encoding.specs.Refusals.{rows_lines, answer_or, done_or, left_or}
use Rattle.encoding.specs.Ranks.{by_rank}
use Rattle.encoding.specs.declared.Refusal.{Refusal}
use Rattle.pauli.specs.declared.ComplexSign.{ComplexSign}
use Rattle.cmpnt_list.specs.Calls.{qubit_fault, SetQubit, phase_or, action_fault, ImulState, matrix_fault, CompatibilityMatrix}
use Rattle.terms.specs.Calls.{Multiplies}
use Rattle.forms.specs.Answers.{Says, bad_line, changed_line, product_line, ok_acted, act_line, acted_word, ok_matrix, matrix_line}
use Rattle.calls.specs.Answer.{said, closed, opened, refused_or, ok_rows, ok_product_of, multiplied, with_pauli, acted_on, compared}

-- a text that was added, by another name
pub told : {v w : List ℕ} → v ≡ w → (o : List ℕ) (at : ℕ) (p : List ℕ) (r : Option ℕ) → Says w o at p r → Says v o at p r
told e o at p r h = subst (λ (u : List ℕ). Says u o at p r) (sym e) h

-- ---- where a line ends

-- what is read to the line's end: none, or a value, which the code has as q
abbrev Closes : {A R : Type 0} → (List ℕ → Got A) → (R → A) → List ℕ → ℕ → Option R → Type 0
Closes read value s at None = last (read (drop at s)) ≡ none
Closes read value s at (Some q) = last (read (drop at s)) ≡ got (value q) []

module _ {A R : Type 0} (read : List ℕ → Got A) (value : R → A) (Fits : R → Type 0) (s : List ℕ) (at : ℕ) where
  by-end : (b : Bool) (q : R) → last (read (drop at s)) ≡ ended (cond b (Some (value q)) None) → Closes read value s at (cond b (Some q) None)
  by-end true q e = e
  by-end false q e = e

  by-found : (o : Option (R × ℕ)) → last (read (drop at s)) ≡ ended (closed_at (length s) (valued value o)) → Closes read value s at (closed_at (length s) o)
  by-found None e = e
  by-found (Some f) e = by-end (eqb f.1 (length s)) f.0 e

  closes : (o : Option (R × ℕ)) → Finds read value Fits s at o → Closes read value s at (closed_at (length s) o)
  closes o a = by-found o (line-end read s at (valued value o) (found_reads read value Fits s at o a))

  fits : (o : Option (R × ℕ)) → Finds read value Fits s at o → (q : R) → closed_at (length s) o ≡ Some q → Fits q
  fits None a q e = absurd (none-some q e)
  fits (Some f) a q e = subst Fits (cond_some (eqb f.1 (length s)) f.0 q e).1 a.room

  module _ (o : Option (R × ℕ)) (a : Finds read value Fits s at o) where
    pub seen-none : o ≡ None → read (drop at s) ≡ none
    seen-none e = subst (λ (x : Option (R × ℕ)). Finds read value Fits s at x) e a

    pub seen : {f : R × ℕ} → o ≡ Some f → Found read value Fits s at f
    seen e = subst (λ (x : Option (R × ℕ)). Finds read value Fits s at x) e a

    module _ {r : Option R} (c : r ≡ closed_at (length s) o) where
      pub last-none : r ≡ None → last (read (drop at s)) ≡ none
      last-none e = subst (λ (x : Option R). Closes read value s at x) (sym c ∙ e) (closes o a)

      pub last-some : {q : R} → r ≡ Some q → last (read (drop at s)) ≡ got (value q) []
      last-some e = subst (λ (x : Option R). Closes read value s at x) (sym c ∙ e) (closes o a)

      pub last-fits : {q : R} → r ≡ Some q → Fits q
      last-fits {q} e = fits o a q (sym c ∙ e)

-- ---- one thing and then another

joined-last : {A B : Type 0} (v : A) (x : Got B) → last (joined_by v x) ≡ joined_by v (last x)
joined-last v none = refl
joined-last v (got w []) = refl
joined-last v (got w (c ∷ t)) = refl

module _ {A B : Type 0} (f : List ℕ → Got A) (g : List ℕ → Got B) (s : List ℕ) (at : ℕ) where
  pub then-none : f (drop at s) ≡ none → then f g (drop at s) ≡ none
  then-none e = ap (λ (x : Got A). further x g) e

  pub then-both : {v : A} (n : ℕ) {x : Got B} → f (drop at s) ≡ got v (drop n s) → g (drop n s) ≡ x → then f g (drop at s) ≡ joined_by v x
  then-both {v} n e h = ap (λ (y : Got A). further y g) e ∙ ap (joined_by v) h

  -- to the line's end
  pub then-closes : {v : A} (n : ℕ) {x : Got B} → f (drop at s) ≡ got v (drop n s) → last (g (drop n s)) ≡ x → last (then f g (drop at s)) ≡ joined_by v x
  then-closes {v} n e h = ap (λ (y : Got A). last (further y g)) e ∙ joined-last v (g (drop n s)) ∙ ap (joined_by v) h

-- the last field
pub single : (k : Kind) (t : List ℕ) {x : Got (Value k)} → last (field (read k) t) ≡ x → last (fields (k ∷ []) t) ≡ mapped (λ (w : Value k). (w, tt)) x
single k t e = go (field (read k) t) ∙ ap (mapped (λ (w : Value k). (w, tt))) e
  where
    go : (x : Got (Value k)) → last (further x (fields [])) ≡ mapped (λ (w : Value k). (w, tt)) (last x)
    go none = refl
    go (got w []) = refl
    go (got w (c ∷ u)) = refl

pub said-as : {A : Type 0} (f : List ℕ → Got A) (g : A → List ℕ) (s : List ℕ) (at : ℕ) {x : Got A} → last (f (drop at s)) ≡ x → closed f g (drop at s) ≡ said g x
said-as f g s at e = ap (said g) e

module _ {A R : Type 0} (f : List ℕ → Got A) (value : R → A) (Fits : R → Type 0) (g : A → List ℕ) (s : List ℕ) (at : ℕ) (o : Option (R × ℕ)) (a : Finds f value Fits s at o) {r : Option R} (c : r ≡ closed_at (length s) o) where
  pub said-bad : r ≡ None → closed f g (drop at s) ≡ bad_line
  said-bad e = said-as f g s at (last-none f value Fits s at o a c e)

  pub said-good : {q : R} → r ≡ Some q → closed f g (drop at s) ≡ g (value q)
  said-good e = said-as f g s at (last-some f value Fits s at o a c e)

  -- and so what is said to the line, where it is bad and where it is not
  pub bad_told : r ≡ None → (out : List ℕ) (to : ℕ) (p : List ℕ) (k : Option ℕ) → Says bad_line out to p k → Says (closed f g (drop at s)) out to p k
  bad_told e out to p k h = told (said-bad e) out to p k h

  pub good_told : {q : R} → r ≡ Some q → (out : List ℕ) (to : ℕ) (p : List ℕ) (k : Option ℕ) → Says (g (value q)) out to p k → Says (closed f g (drop at s)) out to p k
  good_told e out to p k h = told (said-good e) out to p k h

pub opened-as : {A : Type 0} (g : A → List ℕ → List ℕ) {x y : Got A} → x ≡ y → opened g x ≡ opened g y
opened-as g e = ap (opened g) e

pub match-none : {X : Type 0} (P : Type 0) (Q : X → Type 0) {o : Option X} → MatchOption o P Q → o ≡ None → P
match-none {X} P Q a e = subst (λ (x : Option X). MatchOption x P Q) e a

pub match-some : {X : Type 0} (P : Type 0) (Q : X → Type 0) {o : Option X} {t : X} → MatchOption o P Q → o ≡ Some t → Q t
match-some {X} P Q a e = subst (λ (x : Option X). MatchOption x P Q) e a

-- ---- what is refused, and what is left: by the first number that fits

changed-by : (f : ℕ) (M L : Mem) → refused_or f (ok_rows L) ≡ changed_line (done_or f) (left_or f M L).xs (left_or f M L).zs (left_or f M L).es
unfolding answer_or
changed-by zero M L = refl
changed-by (suc k) M L = refl

pub changed-is : (f : ℕ) (M L : Mem) {a : Result Unit Refusal} {M' : Mem} → a ≡ done_or f → M' ≡ left_or f M L → refused_or f (ok_rows L) ≡ changed_line a M'.xs M'.zs M'.es
changed-is f M L e k = rw (e, k) (changed-by f M L)

pub set_is : {n r q : ℕ} {p : Pauli} {M M' : Mem} {a : Result Unit Refusal} → SetQubit n M r q p M' a → with_pauli n M r q p ≡ changed_line a M'.xs M'.zs M'.es
set_is {n} {r} {q} {p} {M} k = changed-is (qubit_fault n M r q) M (lay n (count M) (with_qubit (rows_of n M) r q p)) k.answer k.rows

product-by : (f c : ℕ) (M L : Mem) → refused_or f (ok_product_of c L) ≡ product_line (answer_or f c) (left_or f M L).xs (left_or f M L).zs (left_or f M L).es
unfolding answer_or
product-by zero c M L = refl
product-by (suc k) c M L = refl

pub product_is : {n a b : ℕ} {M M' : Mem} {r : Result ℕ Refusal} → Multiplies n a b M M' r → multiplied n M a b ≡ product_line r M'.xs M'.zs M'.es
product_is {n} {a} {b} {M} k = rw (k.answer, k.rows) (product-by (by_rank (rows_lines n M a b)) (clashes_of n (rows_of n M a) (rows_of n M b)) M _)

acted-by : (f e : ℕ) (st new : List ℕ) → refused_or f (ok_acted e new) ≡ act_line (phase_or f e) (left_or f st new)
unfolding answer_or
acted-by zero e st new = refl
acted-by (suc k) e st new = refl

pub acted-is : {n r : ℕ} {M : Mem} {st st' : List ℕ} {a : Result ComplexSign Refusal} → ImulState n M r st st' a → acted_on n M r st ≡ act_line a st'
acted-is {n} {r} {M} {st} k = rw (k.answer, k.state) (acted-by (action_fault n M r st) (act_phase_on n (rows_of n M r) (state_of n st)) st _)

matrix-by : (f : ℕ) (old new : List ℕ) → refused_or f (ok_matrix new) ≡ matrix_line (done_or f) (left_or f old new)
unfolding answer_or
matrix-by zero old new = refl
matrix-by (suc k) old new = refl

pub matrix-is : {n : ℕ} {M : Mem} {v v' : List ℕ} {a : Result Unit Refusal} → CompatibilityMatrix n M v v' a → compared n M (length v) ≡ matrix_line a v'
matrix-is {n} {M} {v} k = rw (k.answer, k.matrix) (matrix-by (matrix_fault n M (length v)) v _)

pub acted-word-is : (w : ℕ) {e e' : ℕ} → e ≡ e' → acted_word e' w ≡ acted_word e w
acted-word-is w k = ap (λ (v : ℕ). acted_word v w) (sym k)
