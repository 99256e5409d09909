-- Some row of n qubits passes a test exactly when one does, and the row that is taken does. So a text that is read is the text of its row.
-- By going through the Paulis of the first qubit. Assumes nothing.
use Rattle.row_text.proofs.Kit.{◌≡◌, refl, ap, ap₂, ◌∙◌, Bool, true, false, ◌||◌, ◌&&◌, false≢true, List, [], ◌∷◌, ℕ, zero, suc, eqb, eqb-true, eq-eqb, length, Pauli, I, X, Y, Z, by, and_left, and_right}
use Rattle.row_text.specs.Text.{any_row, the_row, same, text_of, is_text, row_of}

or-true : (a : Bool) → (a || true) ≡ true
or-true true = refl
or-true false = refl

last_of : (a b c d : Bool) → a ≡ false → b ≡ false → c ≡ false → (a || (b || (c || d))) ≡ true → d ≡ true
last_of a b c d ea eb ec e = rw (ea, eb, ec) at e

any-more : (n : ℕ) (f : List Pauli → Bool) (p : Pauli) → any_row n (λ ps. f (p ∷ ps)) ≡ true → any_row (suc n) f ≡ true
unfolding any_row
any-more n f I e = ap (λ (b : Bool). b || (any_row n (λ ps. f (X ∷ ps)) || (any_row n (λ ps. f (Y ∷ ps)) || any_row n (λ ps. f (Z ∷ ps))))) e
any-more n f X e =
    ap (λ (b : Bool). any_row n (λ ps. f (I ∷ ps)) || (b || (any_row n (λ ps. f (Y ∷ ps)) || any_row n (λ ps. f (Z ∷ ps))))) e
    ∙ or-true (any_row n (λ ps. f (I ∷ ps)))
any-more n f Y e =
    ap (λ (b : Bool). any_row n (λ ps. f (I ∷ ps)) || (any_row n (λ ps. f (X ∷ ps)) || (b || any_row n (λ ps. f (Z ∷ ps))))) e
    ∙ (ap (λ (b : Bool). any_row n (λ ps. f (I ∷ ps)) || b) (or-true (any_row n (λ ps. f (X ∷ ps)))) ∙ or-true (any_row n (λ ps. f (I ∷ ps))))
any-more n f Z e =
    ap (λ (b : Bool). any_row n (λ ps. f (I ∷ ps)) || (any_row n (λ ps. f (X ∷ ps)) || b)) (ap (λ (b : Bool). any_row n (λ ps. f (Y ∷ ps)) || b) e ∙ or-true (any_row n (λ ps. f (Y ∷ ps))))
    ∙ (ap (λ (b : Bool). any_row n (λ ps. f (I ∷ ps)) || b) (or-true (any_row n (λ ps. f (X ∷ ps)))) ∙ or-true (any_row n (λ ps. f (I ∷ ps))))

some-row : (ps : List Pauli) (f : List Pauli → Bool) → f ps ≡ true → any_row (length ps) f ≡ true
unfolding any_row
some-row [] f e = e
some-row (p ∷ ps) f e = any-more (length ps) f p (some-row ps (λ qs. f (p ∷ qs)) e)

the-fits : (n : ℕ) (f : List Pauli → Bool) → any_row n f ≡ true → f (the_row n f) ≡ true
unfolding any_row the_row
the-fits zero f e = e
the-fits (suc n) f e =
    by (λ (ps : List Pauli). f ps ≡ true) (any_row n (λ ps. f (I ∷ ps))) (λ i. the-fits n (λ ps. f (I ∷ ps)) i)
    (λ i. by (λ (ps : List Pauli). f ps ≡ true) (any_row n (λ ps. f (X ∷ ps))) (λ x. the-fits n (λ ps. f (X ∷ ps)) x)
    (λ x. by (λ (ps : List Pauli). f ps ≡ true) (any_row n (λ ps. f (Y ∷ ps))) (λ y. the-fits n (λ ps. f (Y ∷ ps)) y)
    (λ y. the-fits n (λ ps. f (Z ∷ ps)) (last_of (any_row n (λ ps. f (I ∷ ps))) (any_row n (λ ps. f (X ∷ ps))) (any_row n (λ ps. f (Y ∷ ps))) (any_row n (λ ps. f (Z ∷ ps))) i x y e))))

the-long : (n : ℕ) (f : List Pauli → Bool) → length (the_row n f) ≡ n
unfolding the_row
the-long zero f = refl
the-long (suc n) f =
    by (λ (ps : List Pauli). length ps ≡ suc n) (any_row n (λ ps. f (I ∷ ps))) (λ i. ap suc (the-long n (λ ps. f (I ∷ ps))))
    (λ i. by (λ (ps : List Pauli). length ps ≡ suc n) (any_row n (λ ps. f (X ∷ ps))) (λ x. ap suc (the-long n (λ ps. f (X ∷ ps))))
    (λ x. by (λ (ps : List Pauli). length ps ≡ suc n) (any_row n (λ ps. f (Y ∷ ps))) (λ y. ap suc (the-long n (λ ps. f (Y ∷ ps))))
    (λ y. ap suc (the-long n (λ ps. f (Z ∷ ps))))))

-- ---- texts

same-eq : (s t : List ℕ) → same s t ≡ true → s ≡ t
same-eq [] [] e = refl
same-eq [] (b ∷ t) e = absurd (false≢true e)
same-eq (a ∷ s) [] e = absurd (false≢true e)
same-eq (a ∷ s) (b ∷ t) e =
    ap₂ (λ (c : ℕ) (l : List ℕ). c ∷ l) (eqb-true a b (and_left (eqb a b) (same s t) e)) (same-eq s t (and_right (eqb a b) (same s t) e))

same_refl : (s : List ℕ) → same s s ≡ true
same_refl [] = refl
same_refl (a ∷ s) = ap₂ ◌&&◌ (eq-eqb a a refl) (same_refl s)

-- the text of a row is read, and what is read is the text of its row
pub text-read : (ps : List Pauli) (t : List ℕ) → text_of ps ≡ t → is_text (length ps) t ≡ true
unfolding is_text
text-read ps t e = some-row ps (λ qs. same (text_of qs) t) (ap (λ (u : List ℕ). same u t) e ∙ same_refl t)

pub read-text : (n : ℕ) (t : List ℕ) → is_text n t ≡ true → text_of (row_of n t) ≡ t
unfolding is_text row_of
read-text n t e = same-eq (text_of (the_row n (λ qs. same (text_of qs) t))) t (the-fits n (λ qs. same (text_of qs) t) e)

pub row-long : (n : ℕ) (t : List ℕ) → length (row_of n t) ≡ n
unfolding row_of
row-long n t = the-long n (λ qs. same (text_of qs) t)

-- where no row has that text
pub no_text : (n : ℕ) (t : List ℕ) → ((qs : List Pauli) → length qs ≡ n → text_of qs ≡ t → ⊥) → is_text n t ≡ false
no_text n t none = go (is_text n t) refl
  where
    go : (b : Bool) → is_text n t ≡ b → b ≡ false
    go false e = refl
    go true e = absurd (none (row_of n t) (row-long n t) (read-text n t e))
