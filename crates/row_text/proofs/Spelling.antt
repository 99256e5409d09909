-- A piece of a text, a space, a letter and a number, is read back, and what is read is such a piece: a letter says its Pauli, and a canonical
-- number its qubit. So a text falls into its pieces in one way, and rows of n qubits that have the same text are the same.
use Rattle.row_text.proofs.Kit.{◌≡◌, refl, sym, ap, ◌∙◌, subst, Bool, true, false, cond, false≢true, List, [], ◌∷◌, ◌++◌, append_assoc, ℕ, zero, suc, ◌+◌, ◌^◌, ◌<◌, ◌≤◌, arith, eqb, eqb-true, add-zero, length, drop, Pauli, I, X, Y, Z}
use Rattle.encoding.specs.Refusals.{is_on}
use Rattle.text.specs.Readers.{Got, none, got}
use Rattle.text.specs.Numbers.{digit_of, numeral, canonical, Stops}
use Rattle.text.proofs.OneText.{canonical-only, canonical-back}
use Rattle.row_text.specs.Text.{spell, spaced, text_of}
use Rattle.row_text.specs.Workers.{letter, letter_of, paired, lettered, named, lead, blank}

-- ---- letters

pub letter-back : (p : Pauli) → letter_of (letter p) ≡ p
unfolding letter_of
letter-back I = refl
letter-back X = refl
letter-back Y = refl
letter-back Z = refl

pub letter-only : (c : ℕ) → is_on (letter_of c) ≡ true → letter (letter_of c) ≡ c
unfolding letter_of
letter-only c o = go (eqb c 88) (eqb c 89) (eqb c 90) refl refl refl o
  where
    go : (x y z : Bool) → eqb c 88 ≡ x → eqb c 89 ≡ y → eqb c 90 ≡ z → is_on (cond x X (cond y Y (cond z Z I))) ≡ true → letter (cond x X (cond y Y (cond z Z I))) ≡ c
    go true y z e f g o = sym (eqb-true c 88 e)
    go false true z e f g o = sym (eqb-true c 89 f)
    go false false true e f g o = sym (eqb-true c 90 g)
    go false false false e f g o = absurd (false≢true o)

pub spell-on : (p : Pauli) (q : ℕ) → is_on p ≡ true → spell q p ≡ 32 ∷ letter p ∷ numeral 10 q
spell-on I q e = absurd (false≢true e)
spell-on X q e = refl
spell-on Y q e = refl
spell-on Z q e = refl

pub spell-long : (p : Pauli) (q : ℕ) → (p ≡ I → ⊥) → length (spell q p) ≡ 2 + length (numeral 10 q)
spell-long I q h = absurd (h refl)
spell-long X q h = omega arith
spell-long Y q h = omega arith
spell-long Z q h = omega arith

-- ---- what a reader got

abbrev value : {A : Type 0} → A → Got A → A
value d none = d
value d (got v t) = v

abbrev behind : {A : Type 0} → Got A → List ℕ
behind none = []
behind (got v t) = t

pub same-value : {A : Type 0} {a b : A} {s t : List ℕ} → got a s ≡ got b t → a ≡ b
same-value {A} {a} e = ap (value a) e

pub same_rest : {A : Type 0} {a b : A} {s t : List ℕ} → got a s ≡ got b t → s ≡ t
same_rest e = ap behind e

abbrev is-got : {A : Type 0} → Got A → Bool
is-got none = false
is-got (got v t) = true

pub none-got : {A : Type 0} {a : A} {t : List ℕ} → none ≡ got a t → ⊥
none-got e = false≢true (ap is-got e)

-- ---- blanks

pub length-blank : (d : ℕ) (l : List Pauli) → length (blank d l) ≡ d + length l
length-blank zero l = omega arith
length-blank (suc d) l = omega (arith, length-blank d l)

pub spaced-blank : (q d : ℕ) (l : List Pauli) → spaced q (blank d l) ≡ spaced (q + d) l
spaced-blank q zero l = ap (λ (k : ℕ). spaced k l) (sym (add-zero q))
spaced-blank q (suc d) l = let e : suc q + d ≡ q + suc d = omega arith in spaced-blank (suc q) d l ∙ ap (λ (k : ℕ). spaced k l) e

pub spaced-append : (q : ℕ) (a b : List Pauli) → spaced q (a ++ b) ≡ spaced q a ++ spaced (q + length a) b
spaced-append q [] b = ap (λ (k : ℕ). spaced k b) (sym (add-zero q))
spaced-append q (p ∷ a) b =
    let e : suc q + length a ≡ q + suc (length a) = omega arith in
    ap (λ (l : List ℕ). spell q p ++ l) (spaced-append (suc q) a b ∙ ap (λ (k : ℕ). spaced (suc q) a ++ spaced k b) e)
    ∙ sym (append_assoc (spell q p) (spaced (suc q) a) (spaced (q + suc (length a)) b))

pub spaced-stops : (q : ℕ) (ps : List Pauli) → Stops 10 (spaced q ps)
unfolding digit_of
spaced-stops q [] = tt
spaced-stops q (I ∷ ps) = spaced-stops (suc q) ps
spaced-stops q (X ∷ ps) = refl
spaced-stops q (Y ∷ ps) = refl
spaced-stops q (Z ∷ ps) = refl

-- the first space, left out and put back
pub lead-of : (q : ℕ) (ps : List Pauli) → lead (drop 1 (spaced q ps)) ≡ spaced q ps
lead-of q [] = refl
lead-of q (I ∷ ps) = lead-of (suc q) ps
lead-of q (X ∷ ps) = refl
lead-of q (Y ∷ ps) = refl
lead-of q (Z ∷ ps) = refl

pub unlead : (t : List ℕ) → drop 1 (lead t) ≡ t
unlead [] = refl
unlead (b ∷ t) = refl

-- what is written starts with a Pauli that is not I
pub record Leads (rs : List Pauli) : Type 0 where
  pub gap : ℕ
  pub first : Pauli
  pub rest : List Pauli
  pub is : rs ≡ blank gap (first ∷ rest)
  pub on : is_on first ≡ true

pub leads : (rs : List Pauli) (q b : ℕ) (t : List ℕ) → spaced q rs ≡ b ∷ t → Leads rs
leads [] q b t e = let k : ◌≡◌ {A = ℕ} 0 (suc (length t)) = ap length e in absurd (omega arith)
leads (I ∷ rs) q b t e =
    let l = leads rs (suc q) b t e in
    record { gap = suc l.gap; first = l.first; rest = l.rest; is = ap (λ (r : List Pauli). I ∷ r) l.is; on = l.on }
leads (X ∷ rs) q b t e = record { gap = 0; first = X; rest = rs; is = refl; on = refl }
leads (Y ∷ rs) q b t e = record { gap = 0; first = Y; rest = rs; is = refl; on = refl }
leads (Z ∷ rs) q b t e = record { gap = 0; first = Z; rest = rs; is = refl; on = refl }

pub led-text : (rs : List Pauli) (q : ℕ) (l : Leads rs) → spaced q rs ≡ spell (q + l.gap) l.first ++ spaced (suc (q + l.gap)) l.rest
led-text rs q l = ap (spaced q) l.is ∙ spaced-blank q l.gap (l.first ∷ l.rest)

pub led-short : (rs : List Pauli) (l : Leads rs) → l.gap < length rs
led-short rs l = omega (arith, ap length l.is, length-blank l.gap (l.first ∷ l.rest))

module _ (top : ℕ) (limit : top < 10 ^ 20) where
  -- ---- a piece is read back

  pub named_back : (p : Pauli) (v : ℕ) (t : List ℕ) → is_on p ≡ true → v ≤ top → Stops 10 t → named top (spell v p ++ t) ≡ got (p, v) t
  unfolding lettered
  named_back p v t o h k =
      ap (λ (w : List ℕ). named top (w ++ t)) (spell-on p v o)
      ∙ (ap (λ (x : Pauli). paired x (canonical top (numeral 10 v ++ t))) (letter-back p)
      ∙ (ap (paired p) (canonical-back top limit v t h k) ∙ ap (λ (b : Bool). cond b (got (p, v) t) none) o))

  pub record Named (s : List ℕ) (p : Pauli) (v : ℕ) (t : List ℕ) : Type 0 where
    pub is : s ≡ spell v p ++ t
    pub on : is_on p ≡ true
    pub low : v ≤ top
    pub stops : Stops 10 t

  on-letter : (c : ℕ) (s : List ℕ) (u : ℕ) (r : List ℕ) (p : Pauli) (v : ℕ) (t : List ℕ) → canonical top s ≡ got u r
      → (o : Bool) → is_on (letter_of c) ≡ o → cond {A = Got (Pauli × ℕ)} o (got (letter_of c, u) r) none ≡ got (p, v) t → Named (32 ∷ c ∷ s) p v t
  on-letter c s u r p v t k false o e = absurd (none-got e)
  on-letter c s u r p v t k true o e =
      let n = canonical-only top limit s u r k in
      let w : ◌≡◌ {A = Pauli × ℕ} (letter_of c, u) (p, v) = same-value e in
      let x : letter_of c ≡ p = ap (λ (y : Pauli × ℕ). y.0) w in
      let y : u ≡ v = ap (λ (y : Pauli × ℕ). y.1) w in
      let z : r ≡ t = same_rest e in
      let i : 32 ∷ c ∷ s ≡ spell u (letter_of c) ++ r =
      ap (λ (l : List ℕ). 32 ∷ c ∷ l) n.0
      ∙ (ap (λ (d : ℕ). 32 ∷ d ∷ (numeral 10 u ++ r)) (sym (letter-only c o)) ∙ sym (ap (λ (l : List ℕ). l ++ r) (spell-on (letter_of c) u o))) in
      record {
        is = i ∙ (ap (λ (q : Pauli). spell u q ++ r) x ∙ (ap (λ (j : ℕ). spell j p ++ r) y ∙ ap (λ (l : List ℕ). spell v p ++ l) z));
        on = ap is_on (sym x) ∙ o;
        low = subst (λ (j : ℕ). j ≤ top) y n.1;
        stops = subst (Stops 10) z n.2;
      }

  on-number : (c : ℕ) (s : List ℕ) (p : Pauli) (v : ℕ) (t : List ℕ) (g : Got ℕ) → canonical top s ≡ g → paired (letter_of c) g ≡ got (p, v) t → Named (32 ∷ c ∷ s) p v t
  on-number c s p v t none k e = absurd (none-got e)
  on-number c s p v t (got u r) k e = on-letter c s u r p v t k (is_on (letter_of c)) refl e

  on-space : (b : ℕ) (s : List ℕ) (p : Pauli) (v : ℕ) (t : List ℕ) (x : Bool) → eqb b 32 ≡ x → cond x (lettered top s) none ≡ got (p, v) t → Named (b ∷ s) p v t
  unfolding lettered
  on-space b s p v t false k e = absurd (none-got e)
  on-space b [] p v t true k e = absurd (none-got e)
  on-space b (c ∷ s) p v t true k e =
      subst (λ (d : ℕ). Named (d ∷ c ∷ s) p v t) (sym (eqb-true b 32 k)) (on-number c s p v t (canonical top s) refl e)

  -- ---- and what is read is a piece

  pub named-only : (s : List ℕ) (p : Pauli) (v : ℕ) (t : List ℕ) → named top s ≡ got (p, v) t → Named s p v t
  named-only [] p v t e = absurd (none-got e)
  named-only (b ∷ s) p v t e = on-space b s p v t (eqb b 32) refl e

  -- ---- a text falls into its pieces in one way

  -- rows from qubit q on, whose text starts with a Pauli p at qubit v
  pub record Begins (rs : List Pauli) (q v : ℕ) (p : Pauli) (t : List ℕ) : Type 0 where
    pub gap : ℕ
    pub rest : List Pauli
    pub is : rs ≡ blank gap (p ∷ rest)
    pub at : v ≡ q + gap
    pub text : spaced (suc v) rest ≡ t

  pub begins : (rs : List Pauli) (q v : ℕ) (p : Pauli) (t : List ℕ) → is_on p ≡ true → v ≤ top → Stops 10 t → q + length rs ≤ top → spaced q rs ≡ spell v p ++ t → Begins rs q v p t
  begins rs q v p t o h k m e =
      let l = leads rs q 32 (letter p ∷ (numeral 10 v ++ t)) (e ∙ ap (λ (w : List ℕ). w ++ t) (spell-on p v o)) in
      let u = q + l.gap in
      let g : ◌≡◌ {A = Got (Pauli × ℕ)} (got (l.first, u) (spaced (suc u) l.rest)) (got (p, v) t) =
      sym (named_back l.first u (spaced (suc u) l.rest) l.on (omega (arith, led-short rs l, m)) (spaced-stops (suc u) l.rest))
      ∙ (ap (named top) (sym (led-text rs q l) ∙ e) ∙ named_back p v t o h k) in
      let w : ◌≡◌ {A = Pauli × ℕ} (l.first, u) (p, v) = same-value g in
      let y : u ≡ v = ap (λ (y : Pauli × ℕ). y.1) w in
      record {
        gap = l.gap;
        rest = l.rest;
        is = l.is ∙ ap (λ (x : Pauli). blank l.gap (x ∷ l.rest)) (ap (λ (y : Pauli × ℕ). y.0) w);
        at = sym y;
        text = ap (λ (j : ℕ). spaced (suc j) l.rest) (sym y) ∙ same_rest g;
      }

  -- ---- rows with one text

  here : (rs : List Pauli) (q : ℕ) (p : Pauli) (t : List ℕ) (b : Begins rs q q p t) → rs ≡ p ∷ b.rest
  here rs q p t b = b.is ∙ ap (λ (d : ℕ). blank d (p ∷ b.rest)) (let e : b.gap ≡ 0 = omega (arith, b.at) in e)

  off-on : (ps : List Pauli) (q : ℕ) (p : Pauli) (t : List ℕ) → is_on p ≡ true → Stops 10 t → suc q + length ps ≤ top → spaced (suc q) ps ≡ spell q p ++ t → ⊥
  off-on ps q p t o k m e = let b = begins ps (suc q) q p t o (omega arith) k m e in omega (arith, b.at)

  on-on : (ps rs : List Pauli) (q : ℕ) (p : Pauli) → is_on p ≡ true → length ps ≡ length rs → suc q + length ps ≤ top
      → ((qs : List Pauli) → length ps ≡ length qs → spaced (suc q) ps ≡ spaced (suc q) qs → ps ≡ qs) → (r : Pauli)
      → spell q p ++ spaced (suc q) ps ≡ spaced q (r ∷ rs) → p ∷ ps ≡ r ∷ rs
  on-on ps rs q p o l m again r e =
      let b = begins (r ∷ rs) q q p (spaced (suc q) ps) o (omega arith) (spaced-stops (suc q) ps) (omega arith) (sym e) in
      let h : r ∷ rs ≡ p ∷ b.rest = here (r ∷ rs) q p (spaced (suc q) ps) b in
      let k : suc (length rs) ≡ suc (length b.rest) = ap length h in
      ap (λ (l : List Pauli). p ∷ l) (again b.rest (omega arith) (sym b.text)) ∙ sym h

  spaced-one : (q : ℕ) (ps qs : List Pauli) → length ps ≡ length qs → q + length ps ≤ top → spaced q ps ≡ spaced q qs → ps ≡ qs
  spaced-one q [] [] l m e = refl
  spaced-one q [] (r ∷ qs) l m e = absurd (omega arith)
  spaced-one q (p ∷ ps) [] l m e = absurd (omega arith)
  spaced-one q (I ∷ ps) (I ∷ qs) l m e = ap (λ (r : List Pauli). I ∷ r) (spaced-one (suc q) ps qs (omega arith) (omega arith) e)
  spaced-one q (I ∷ ps) (X ∷ qs) l m e = absurd (off-on ps q X (spaced (suc q) qs) refl (spaced-stops (suc q) qs) (omega arith) e)
  spaced-one q (I ∷ ps) (Y ∷ qs) l m e = absurd (off-on ps q Y (spaced (suc q) qs) refl (spaced-stops (suc q) qs) (omega arith) e)
  spaced-one q (I ∷ ps) (Z ∷ qs) l m e = absurd (off-on ps q Z (spaced (suc q) qs) refl (spaced-stops (suc q) qs) (omega arith) e)
  spaced-one q (X ∷ ps) (r ∷ qs) l m e = on-on ps qs q X refl (omega arith) (omega arith) (λ rs k f. spaced-one (suc q) ps rs k (omega arith) f) r e
  spaced-one q (Y ∷ ps) (r ∷ qs) l m e = on-on ps qs q Y refl (omega arith) (omega arith) (λ rs k f. spaced-one (suc q) ps rs k (omega arith) f) r e
  spaced-one q (Z ∷ ps) (r ∷ qs) l m e = on-on ps qs q Z refl (omega arith) (omega arith) (λ rs k f. spaced-one (suc q) ps rs k (omega arith) f) r e

  -- no two rows of n qubits have the same text
  pub one-row : (ps qs : List Pauli) → length ps ≡ length qs → length ps ≤ top → text_of ps ≡ text_of qs → ps ≡ qs
  one-row ps qs l m e = spaced-one 0 ps qs l (omega arith) (sym (lead-of 0 ps) ∙ (ap lead e ∙ lead-of 0 qs))
