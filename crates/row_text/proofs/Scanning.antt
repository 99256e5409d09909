-- The reader's loop. The Paulis of the qubits before q are read: written, with what is left of the text behind them, they are the whole text, and every
-- row that has this text starts with them. A piece takes both on, since a text falls into its pieces in one way; where none comes next no row has the text.
use Rattle.row_text.proofs.Kit.{◌≡◌, refl, sym, ap, ap₂, ◌∙◌, Bool, true, false, cond, false≢true, List, [], ◌∷◌, ◌++◌, append_assoc, append-nil, ℕ, zero, suc, ◌+◌, ◌-◌, ◌^◌, ◌<◌, ◌≤◌, arith, add-one, eqb, ne_eqb, eqb-true, length, get_or, drop, set, length-append, length-drop, drop_of_length-le, drop-cons, drop-drop, Pauli, I}
use Rattle.encoding.specs.Limits.{max_qubits}
use Rattle.encoding.specs.Refusals.{is_on}
use Rattle.text.specs.Readers.{Got, none, got, starts, ReadTo}
use Rattle.text.specs.Numbers.{canonical}
use Rattle.row_text.specs.Text.{spell, spaced}
use Rattle.row_text.specs.Workers.{letter_of, past, paired, lettered, named, NamedTo, lead, left, Found, Tells, a-row, no_row, blank}
use Rattle.row_text.proofs.Spelling.{spell-on, none-got, same-value, length-blank, spaced-blank, spaced-append, spaced-stops, lead-of, unlead, leads, led-text, led-short, named_back, named-only, begins}

-- ---- a place of a text

pub at-start : (s : List ℕ) → drop 0 s ≡ past (left 0 s)
unfolding left
at-start [] = refl
at-start (b ∷ s) = refl

left-later : (at : ℕ) (s : List ℕ) → (at ≡ 0 → ⊥) → left at s ≡ drop at s
unfolding left
left-later at s h = ap (λ (b : Bool). cond b (lead s) (drop at s)) (ne_eqb at 0 h)

pub at-space : (at : ℕ) (s : List ℕ) → (at ≡ 0 → ⊥) → true ≡ starts 32 (drop at s) → drop (at + 1) s ≡ past (left at s)
at-space at s h e =
    sym (ap past (left-later at s h) ∙ (ap (λ (b : Bool). cond b (drop 1 (drop at s)) []) (sym e) ∙ drop-drop 1 at s))

pub space-within : (at : ℕ) (s : List ℕ) → true ≡ starts 32 (drop at s) → at < length s
space-within at s e = go (drop at s) refl e
  where
    go : (t : List ℕ) → drop at s ≡ t → true ≡ starts 32 t → at < length s
    go [] k f = absurd (false≢true (sym f))
    go (b ∷ t) k f = omega (arith, ap length k, length-drop at s)

pub no-space : (at : ℕ) (s : List ℕ) → (at ≡ 0 → ⊥) → false ≡ starts 32 (drop at s) → past (left at s) ≡ []
no-space at s h e = ap past (left-later at s h) ∙ ap (λ (b : Bool). cond b (drop 1 (drop at s)) []) (sym e)

-- what is left where the text ends, and where it does not
left-none : (at : ℕ) (s : List ℕ) → length s ≤ at → left at s ≡ []
unfolding left
left-none at s h = go (eqb at 0) refl s h
  where
    go : (b : Bool) → eqb at 0 ≡ b → (t : List ℕ) → length t ≤ at → cond b (lead t) (drop at t) ≡ []
    go false e t k = drop_of_length-le t {i = at} k
    go true e [] k = refl
    go true e (c ∷ t) k = let z : at ≡ 0 = eqb-true at 0 e in absurd (omega arith)

left-some : (at : ℕ) (s : List ℕ) → at < length s → (0 < length (left at s)) × (length (left at s) ≤ suc (length s - at))
unfolding left
left-some at s h = go (eqb at 0) refl s h
  where
    go : (b : Bool) → eqb at 0 ≡ b → (t : List ℕ) → at < length t → (0 < length (cond b (lead t) (drop at t))) × (length (cond b (lead t) (drop at t)) ≤ suc (length t - at))
    go false e t k = (omega (arith, length-drop at t), omega (arith, length-drop at t))
    go true e [] k = absurd (omega arith)
    go true e (c ∷ t) k = let z : at ≡ 0 = eqb-true at 0 e in (omega arith, omega arith)

-- ---- a letter and a number

pub end-of-text : (top i : ℕ) (s : List ℕ) → length s ≤ i → lettered top (drop i s) ≡ none
unfolding lettered
end-of-text top i s h = ap (lettered top) (drop_of_length-le s {i = i} h)

module _ (top i : ℕ) (s : List ℕ) (h : i < length s) where
  by-letter : lettered top (drop i s) ≡ paired (letter_of (get_or s i 0)) (canonical top (drop (i + 1) s))
  unfolding lettered
  by-letter = ap (lettered top) (drop-cons s i 0 h) ∙ ap (λ (j : ℕ). paired (letter_of (get_or s i 0)) (canonical top (drop j s))) (sym (add-one i))

  pub no-letter : is_on (letter_of (get_or s i 0)) ≡ false → lettered top (drop i s) ≡ none
  no-letter e = by-letter ∙ go (canonical top (drop (i + 1) s))
    where
      go : (g : Got ℕ) → paired (letter_of (get_or s i 0)) g ≡ none
      go none = refl
      go (got v t) = rw e

  pub no_number : canonical top (drop (i + 1) s) ≡ none → lettered top (drop i s) ≡ none
  no_number e = by-letter ∙ rw e

  pub letter-read : {p : Pauli} → p ≡ letter_of (get_or s i 0) → is_on p ≡ true → {v next : ℕ} → ReadTo (canonical top) s (i + 1) v next → v ≤ top → NamedTo (lettered top (drop i s)) s top p v next
  letter-read {p} e o r k = record { is = by-letter ∙ rw (r.is, ← e, o); within = r.within; low = k }

-- ---- the next Pauli

none-named : (n : ℕ) (t : List ℕ) → past t ≡ [] → named n t ≡ none
unfolding lettered
none-named n t e = go (starts 32 t) (drop 1 t) e
  where
    go : (b : Bool) (u : List ℕ) → cond b u [] ≡ [] → cond {A = Got (Pauli × ℕ)} b (lettered n u) none ≡ none
    go true u f = ap (lettered n) f
    go false u f = refl

module _ (n q : ℕ) (few : n ≤ max_qubits) (t : List ℕ) where
  limit : n < 10 ^ 20
  limit = omega arith

  -- what is written of a row starts with a piece that would have been taken
  not_found : ((p : Pauli) (v : ℕ) (u : List ℕ) → named n t ≡ got (p, v) u → q ≤ v → v < n → ⊥) → (rs : List Pauli) → q + length rs ≡ n → spaced q rs ≡ t → t ≡ []
  not_found f rs m k = go t refl
    where
      go : (u : List ℕ) → t ≡ u → t ≡ []
      go [] z = z
      go (b ∷ u) z =
          let l = leads rs q b u (k ∙ z) in
          let w = q + l.gap in
          let w-low : w < n = omega (arith, led-short rs l, m) in
          let g : named n t ≡ got (l.first, w) (spaced (suc w) l.rest) =
          ap (named n) (sym k ∙ led-text rs q l) ∙ named_back n limit l.first w (spaced (suc w) l.rest) l.on (omega arith) (spaced-stops (suc w) l.rest) in
          absurd (f l.first w (spaced (suc w) l.rest) g (omega arith) w-low)

  -- no space comes first
  pub next-none : past t ≡ [] → (rs : List Pauli) → q + length rs ≡ n → spaced q rs ≡ t → t ≡ []
  next-none e = not_found (λ p v u g a b. none-got (sym (none-named n t e) ∙ g))

  module _ (s : List ℕ) (i : ℕ) (e : drop i s ≡ past t) where
    -- behind its space
    by-named : named n t ≡ lettered n (drop i s)
    unfolding lettered
    by-named = go (starts 32 t) refl ∙ ap (lettered n) (sym e)
      where
        go : (b : Bool) → starts 32 t ≡ b → cond {A = Got (Pauli × ℕ)} b (lettered n (drop 1 t)) none ≡ lettered n (cond b (drop 1 t) [])
        go true f = refl
        go false f = refl

    pub next-unnamed : lettered n (drop i s) ≡ none → (rs : List Pauli) → q + length rs ≡ n → spaced q rs ≡ t → t ≡ []
    next-unnamed k = not_found (λ p v u g a b. none-got (sym (by-named ∙ k) ∙ g))

    module _ {p : Pauli} {v next : ℕ} (r : NamedTo (lettered n (drop i s)) s n p v next) where
      -- its qubit may not come next
      pub next-off : (q ≤ v → v < n → ⊥) → (rs : List Pauli) → q + length rs ≡ n → spaced q rs ≡ t → t ≡ []
      next-off f =
          not_found
          (λ p w u g a b.
          let x : v ≡ w = ap (λ (y : Pauli × ℕ). y.1) (same-value (sym r.is ∙ (sym by-named ∙ g))) in
          f (omega arith) (omega arith))

      pub next-found : q ≤ v → v < n → Found n q t p v (drop next s)
      next-found l h =
          let k = named-only n limit t p v (drop next s) (by-named ∙ r.is) in
          record { is = k.is; on = k.on; low = l; high = h; stops = k.stops }

-- a piece takes the place on
pub goes_on : {n q : ℕ} (s : List ℕ) {p : Pauli} {v : ℕ} (at next : ℕ) → at < length s → next ≤ length s → Found n q (left at s) p v (drop next s) → at < next
goes_on {n} {q} s {p} {v} at next h k f =
    omega (
      arith,
      (left-some at s h).1,
      ap length f.is,
      length-append (spell v p) (drop next s),
      ap length (spell-on p v f.on),
      length-drop next s,
    )

-- ---- lists

blank-append : (d : ℕ) (p : Pauli) (l : List Pauli) → blank d (p ∷ []) ++ l ≡ blank d (p ∷ l)
blank-append zero p l = refl
blank-append (suc d) p l = ap (λ (r : List Pauli). I ∷ r) (blank-append d p l)

blank-split : (d a b : ℕ) → d ≡ a + suc b → blank d [] ≡ blank a (I ∷ blank b [])
blank-split zero a b e = absurd (omega arith)
blank-split (suc d) zero b e = let f : d ≡ b = omega arith in ap (λ (k : ℕ). I ∷ blank k []) f
blank-split (suc d) (suc a) b e = ap (λ (r : List Pauli). I ∷ r) (blank-split d a b (omega arith))

set-blank : (d : ℕ) (p : Pauli) (l : List Pauli) → set (blank d (I ∷ l)) d p ≡ blank d (p ∷ l)
set-blank zero p l = refl
set-blank (suc d) p l = ap (λ (r : List Pauli). I ∷ r) (set-blank d p l)

set-behind : (a l : List Pauli) (k i : ℕ) (p : Pauli) → i ≡ length a + k → set (a ++ l) i p ≡ a ++ set l k p
set-behind [] l k i p e = let f : i ≡ k = omega arith in ap (λ (j : ℕ). set l j p) f
set-behind (x ∷ a) l k zero p e = absurd (omega arith)
set-behind (x ∷ a) l k (suc i) p e = ap (λ (r : List Pauli). x ∷ r) (set-behind a l k i p (omega arith))

-- ---- the loop

-- a row starts with what was read, and what is written of the rest of it is t
pub record Going (front : List Pauli) (q : ℕ) (t : List ℕ) (qs : List Pauli) : Type 0 where
  pub rest : List Pauli
  pub is : qs ≡ front ++ rest
  pub text : spaced q rest ≡ t

pub record Scanning (n : ℕ) (s : List ℕ) (ps : List Pauli) (q at : ℕ) : Type 0 where
  pub front : List Pauli
  pub row : ps ≡ front ++ blank (n - q) []
  pub long : length front ≡ q
  pub low : q ≤ n
  pub spelled : spaced 0 front ++ left at s ≡ lead s
  pub forced : (qs : List Pauli) → length qs ≡ n → spaced 0 qs ≡ lead s → Going front q (left at s) qs

pub scanning : (n : ℕ) (s : List ℕ) → Scanning n s (blank n []) 0 0
unfolding left
scanning n s =
    record {
      front = [];
      row = ap (λ (k : ℕ). blank k []) (let e : n ≡ n - 0 = omega arith in e);
      long = refl;
      low = omega arith;
      spelled = refl;
      forced = λ qs l e. record { rest = qs; is = refl; text = e };
    }

pub scan-long : {n : ℕ} {s : List ℕ} {ps : List Pauli} {q at : ℕ} → Scanning n s ps q at → length ps ≡ n
scan-long {n} {s} {ps} {q} r = omega (arith, ap length r.row, length-append r.front (blank (n - q) []), length-blank (n - q) [], r.long, r.low)

module _ {n : ℕ} {s : List ℕ} {ps : List Pauli} {q at : ℕ} (few : n ≤ max_qubits) (r : Scanning n s ps q at) {p : Pauli} {v next : ℕ} (h : at < length s) (k : next ≤ length s) (f : Found n q (left at s) p v (drop next s)) where
  gap : ℕ
  gap = v - q

  new : List Pauli
  new = r.front ++ blank gap (p ∷ [])

  new_is : (l : List Pauli) → r.front ++ blank gap (p ∷ l) ≡ new ++ l
  unfolding new
  new_is l = ap (λ (x : List Pauli). r.front ++ x) (sym (blank-append gap p l)) ∙ sym (append_assoc r.front (blank gap (p ∷ [])) l)

  later : left next s ≡ drop next s
  later = left-later next s (λ e. omega (arith, goes_on s at next h k f))

  new_row : set ps v p ≡ new ++ blank (n - (v + 1)) []
  unfolding gap
  new_row =
      ap (λ (x : List Pauli). set x v p) (r.row ∙ ap (λ (x : List Pauli). r.front ++ x) (blank-split (n - q) (v - q) (n - (v + 1)) (omega (arith, f.low, f.high))))
      ∙ (set-behind r.front (blank (v - q) (I ∷ blank (n - (v + 1)) [])) (v - q) v p (omega (arith, r.long, f.low))
      ∙ (ap (λ (x : List Pauli). r.front ++ x) (set-blank (v - q) p (blank (n - (v + 1)) [])) ∙ new_is (blank (n - (v + 1)) [])))

  new-long : length new ≡ v + 1
  unfolding new gap
  new-long = omega (arith, length-append r.front (blank (v - q) (p ∷ [])), length-blank (v - q) (p ∷ []), r.long, f.low)

  new-text : spaced 0 new ≡ spaced 0 r.front ++ spell v p
  unfolding new gap
  new-text =
      let e : 0 + length r.front + (v - q) ≡ v = omega (arith, r.long, f.low) in
      spaced-append 0 r.front (blank (v - q) (p ∷ []))
      ∙ ap (λ (x : List ℕ). spaced 0 r.front ++ x)
      (spaced-blank (0 + length r.front) (v - q) (p ∷ []) ∙ (ap (λ (j : ℕ). spell j p ++ []) e ∙ append-nil (spell v p)))

  onward : (qs : List Pauli) → length qs ≡ n → spaced 0 qs ≡ lead s → Going new (v + 1) (left next s) qs
  unfolding gap
  onward qs l e =
      let g = r.forced qs l e in
      let m : q + length g.rest ≤ n = omega (arith, ap length g.is, length-append r.front g.rest, r.long, l) in
      let b = begins n (omega arith) g.rest q v p (drop next s) f.on (omega (arith, f.high)) f.stops m (g.text ∙ f.is) in
      let d : b.gap ≡ v - q = omega (arith, b.at) in
      record {
        rest = b.rest;
        is = g.is ∙ (ap (λ (x : List Pauli). r.front ++ x) (b.is ∙ ap (λ (j : ℕ). blank j (p ∷ b.rest)) d) ∙ new_is b.rest);
        text = ap (λ (j : ℕ). spaced j b.rest) (add-one v) ∙ (b.text ∙ sym later);
      }

  pub scan-more : Scanning n s (set ps v p) (v + 1) next
  scan-more =
      record {
        front = new;
        row = new_row;
        long = new-long;
        low = omega (arith, f.high);
        spelled =
            ap₂ (λ (a b : List ℕ). a ++ b) new-text later
            ∙ (append_assoc (spaced 0 r.front) (spell v p) (drop next s) ∙ (ap (λ (x : List ℕ). spaced 0 r.front ++ x) (sym f.is) ∙ r.spelled));
        forced = onward;
      }

module _ {n : ℕ} {s : List ℕ} {ps : List Pauli} {q at : ℕ} (r : Scanning n s ps q at) where
  -- nothing is left
  pub scan-all : length s ≤ at → Tells n s ps true
  scan-all h =
      let e : spaced 0 r.front ≡ lead s = sym (append-nil (spaced 0 r.front)) ∙ (ap (λ (x : List ℕ). spaced 0 r.front ++ x) (sym (left-none at s h)) ∙ r.spelled) in
      let g : spaced 0 ps ≡ lead s =
      ap (spaced 0) r.row
      ∙ (spaced-append 0 r.front (blank (n - q) [])
      ∙ (ap (λ (x : List ℕ). spaced 0 r.front ++ x) (spaced-blank (0 + length r.front) (n - q) []) ∙ (append-nil (spaced 0 r.front) ∙ e))) in
      a-row (scan-long r) (ap (drop 1) g ∙ unlead s)

  -- something is left, and it does not start with a Pauli that may come next
  pub scan-stops : at < length s → ((rs : List Pauli) → q + length rs ≡ n → spaced q rs ≡ left at s → left at s ≡ []) → Tells n s ps false
  scan-stops h f =
      no_row
      (λ qs l e.
      let g = r.forced qs l (sym (lead-of 0 qs) ∙ ap lead e) in
      let m : q + length g.rest ≡ n = omega (arith, ap length g.is, length-append r.front g.rest, r.long, l) in
      let z : length (left at s) ≡ 0 = ap length (f g.rest m g.text) in
      omega (arith, (left-some at s h).0))
