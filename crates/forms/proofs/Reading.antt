-- Fields read one after the other: a reader behind another reads the fields of both, and a line ends where its last field ends.
-- By cases on what each reader answers. Assumes nothing.
use Rattle.forms.proofs.Kit.{◌≡◌, refl, ap, ◌∙◌, subst, Bool, true, false, List, [], ◌∷◌, ◌++◌, ℕ, ◌<◌, ◌≤◌, arith, length, drop}
use borrow.Author.Tests.{eqb-true, eqb-false}
use lib.Dec.{eqb}
use lib.ListN.{drop_of_length-le}
use lib.Seq.{drop-cons}
use Rattle.std.specs.Prelude.{Option, None, Some, cond}
use Rattle.std.proofs.lemmas.Option.{none-some}
use Rattle.forms.specs.Fields.{Finds, closed_at}
use Rattle.text.specs.Readers.{Got, none, got, answer, Reads, mapped}
use Rattle.text.specs.Lines.{Kind, Value, Values, read, field, joined_by, further, fields, last}

-- ---- what the readers of fields promise

-- what was found, by the value that it stands for
abbrev pub valued : {A R : Type 0} → (R → A) → Option (R × ℕ) → Option (A × ℕ)
valued value None = None
valued value (Some f) = Some (value f.0, f.1)

-- so the laws below, of what is read, hold of what these readers find
pub found_reads : {A R : Type 0} (read : List ℕ → Got A) (value : R → A) (Fits : R → Type 0) (s : List ℕ) (at : ℕ) (o : Option (R × ℕ)) → Finds read value Fits s at o → Reads read s at (valued value o)
found_reads read value Fits s at None a = a
found_reads read value Fits s at (Some f) a = record { is = a.is; within = a.within }

-- ---- fields

-- the values of fields before those of more
abbrev pub glue : (ks js : List Kind) → Values ks → Values js → Values (ks ++ js)
glue [] js v w = w
glue (k ∷ ks) js v w = (v.0, glue ks js v.1 w)

abbrev onto : (ks js : List Kind) → Got (Values ks) → Got (Values (ks ++ js))
onto ks js none = none
onto ks js (got v t) = mapped (glue ks js v) (fields js t)

mapped-same : {A : Type 0} (g : Got A) → g ≡ mapped (λ (w : A). w) g
mapped-same none = refl
mapped-same (got v t) = refl

joined-mapped : {A B C : Type 0} (x : C) (f : A → B) (g : Got A) → joined_by x (mapped f g) ≡ mapped (λ (w : A). (x, f w)) g
joined-mapped x f none = refl
joined-mapped x f (got v t) = refl

joined-onto : (k : Kind) (ks js : List Kind) (x : Value k) (g : Got (Values ks)) → joined_by x (onto ks js g) ≡ onto (k ∷ ks) js (joined_by x g)
joined-onto k ks js x none = refl
joined-onto k ks js x (got v u) = joined-mapped x (glue ks js v) (fields js u)

fields-append : (ks js : List Kind) (s : List ℕ) → fields (ks ++ js) s ≡ onto ks js (fields ks s)
fields-append [] js s = mapped-same (fields js s)
fields-append (k ∷ ks) js s = go (field (read k) s) (λ t. fields-append ks js t)
  where
    go : (g : Got (Value k)) → ((t : List ℕ) → fields (ks ++ js) t ≡ onto ks js (fields ks t)) → further g (fields (ks ++ js)) ≡ onto (k ∷ ks) js (further g (fields ks))
    go none e = refl
    go (got x t) e = ap (joined_by x) (e t) ∙ joined-onto k ks js x (fields ks t)

-- what is answered of the fields of both
abbrev pub glued : (ks js : List Kind) → Option (Values ks × ℕ) → Option (Values js × ℕ) → Option (Values (ks ++ js) × ℕ)
glued ks js None q = None
glued ks js (Some f) None = None
glued ks js (Some f) (Some g) = Some (glue ks js f.0 g.0, g.1)

module _ (ks js : List Kind) where
  pub reads_both : (s : List ℕ) (at : ℕ) (p : Option (Values ks × ℕ)) (q : Option (Values js × ℕ)) → Reads (fields ks) s at p
      → ((f : Values ks × ℕ) → p ≡ Some f → Reads (fields js) s f.1 q) → Reads (fields (ks ++ js)) s at (glued ks js p q)
  reads_both s at None q a b = fields-append ks js (drop at s) ∙ ap (onto ks js) a
  reads_both s at (Some f) None a b = fields-append ks js (drop at s) ∙ (ap (onto ks js) a.is ∙ ap (mapped (glue ks js f.0)) (b f refl))
  reads_both s at (Some f) (Some g) a b =
      let c = b f refl in
      record { is = fields-append ks js (drop at s) ∙ (ap (onto ks js) a.is ∙ ap (mapped (glue ks js f.0)) c.is); within = c.within }

some-same : {A : Type 0} (v w : A) → Some v ≡ Some w → v ≡ w
some-same {A} v w e = ap the e
  where
    the : Option A → A
    the None = v
    the (Some x) = x

-- the same of two readers of fields, one behind the other
module _ (ks js : List Kind) {P Q : Type 0} (u : P → Values ks) (v : Q → Values js) (Fits : P → Type 0) (Suits : Q → Type 0) where
  pub found_both : (s : List ℕ) (at : ℕ) (p : Option (P × ℕ)) (q : Option (Q × ℕ)) → Finds (fields ks) u Fits s at p
      → ((f : P × ℕ) → p ≡ Some f → Finds (fields js) v Suits s f.1 q) → Reads (fields (ks ++ js)) s at (glued ks js (valued u p) (valued v q))
  found_both s at None q a b = reads_both ks js s at None (valued v q) (found_reads (fields ks) u Fits s at None a) (λ g e. absurd (none-some g e))
  found_both s at (Some f) q a b =
      reads_both ks js s at (valued u (Some f)) (valued v q) (found_reads (fields ks) u Fits s at (Some f) a)
      (λ g e. subst (λ (k : Values ks × ℕ). Reads (fields js) s k.1 (valued v q)) (some-same (u f.0, f.1) g e) (found_reads (fields js) v Suits s f.1 q (b f refl)))

-- ---- the line's end

strictly : (a b : ℕ) → a ≤ b → (a ≡ b → ⊥) → a < b
strictly a b i j = omega arith

pub ends : {A : Type 0} (s : List ℕ) (m : ℕ) (v : A) → m ≤ length s → last (got v (drop m s)) ≡ answer (eqb m (length s)) v []
ends s m v h = go (eqb m (length s)) refl
  where
    go : (b : Bool) → eqb m (length s) ≡ b → last (got v (drop m s)) ≡ answer b v []
    go true e =
        let k : m ≡ length s = eqb-true m (length s) e in
        ap (λ (l : List ℕ). last (got v l)) (drop_of_length-le s {i = m} (omega arith))
    go false e =
        let k = eqb-false m (length s) e in
        ap (λ (l : List ℕ). last (got v l)) (drop-cons s m 0 (strictly m (length s) h k))

-- what is read where the line ends behind it, and nothing behind that
abbrev pub ended : {A : Type 0} → Option A → Got A
ended None = none
ended (Some v) = got v []

pub line-end : {A : Type 0} (f : List ℕ → Got A) (s : List ℕ) (at : ℕ) (r : Option (A × ℕ)) → Reads f s at r → last (f (drop at s)) ≡ ended (closed_at (length s) r)
line-end f s at None a = ap last a
line-end {A} f s at (Some r) a = ap last a.is ∙ ends s r.1 r.0 a.within ∙ go (eqb r.1 (length s))
  where
    go : (b : Bool) → answer b r.0 [] ≡ ended (cond b (Some r.0) None)
    go true = refl
    go false = refl
