-- The loop of every list writer, one law for items of any kind: what is written so far, and the items still to come, are the list.
-- An item with the comma before it is the next piece, and is added behind what is written; where it does not fit, the list does not.
use Rattle.text.proofs.Kit.{◌≡◌, sym, ap, ◌∙◌, subst, None, Some, List, [], ◌∷◌, ◌++◌, append_assoc, append-nil, ℕ, ◌+◌, ◌<◌, ◌≤◌, add-one, length, get_or, drop, drop_of_length-le, drop-cons}
use Rattle.text.specs.Readers.{Laid, Short}
use Rattle.text.specs.Lists.{joined}
use Rattle.text.proofs.Adding.{cut, both}

module _ {A : Type 0} (write : A → List ℕ) where
  -- items behind a first, each with its comma
  abbrev pub tail : List A → List ℕ
  tail [] = []
  tail (v ∷ l) = (44 ∷ write v) ++ tail l

  pub joined-tail : (v : A) (l : List A) → joined write v l ≡ write v ++ tail l
  joined-tail v [] = sym (append-nil (write v))
  joined-tail v (w ∷ l) = ap (λ (t : List ℕ). write v ++ (44 ∷ t)) (joined-tail w l)

  module _ (v : A) (l : List A) (o : List ℕ) (at : ℕ) where
    -- so many items behind the first are written
    pub record Listing (p : List ℕ) (place i : ℕ) : Type 0 where
      pub text : List ℕ
      pub is : text ++ tail (drop i l) ≡ joined write v l
      pub laid : Laid text o at p place

    pub begun : {p : List ℕ} {place : ℕ} → Laid (write v) o at p place → Listing p place 0
    begun h = record { text = write v; is = sym (joined-tail v l); laid = h }

    -- the first does not fit
    pub none-fits : {p : List ℕ} → Short (write v) o at p → Short (joined write v l) o at p
    none-fits {p} h = subst (λ (t : List ℕ). Short t o at p) (sym (joined-tail v l)) (cut (write v) (tail l) h)

    module _ {p : List ℕ} {place i : ℕ} (r : Listing p place i) where
      pub all : length l ≤ i → Laid (joined write v l) o at p place
      all h =
          let e : r.text ≡ joined write v l =
          sym (append-nil r.text) ∙ (sym (ap (λ (k : List A). r.text ++ tail k) (drop_of_length-le l {i = i} h)) ∙ r.is) in
          subst (λ (t : List ℕ). Laid t o at p place) e r.laid

      module _ (d : A) (h : i < length l) where
        further : r.text ++ ((44 ∷ write (get_or l i d)) ++ tail (drop (i + 1) l)) ≡ joined write v l
        further =
            let c : drop i l ≡ get_or l i d ∷ drop (i + 1) l = rw (add-one i) (drop-cons l i d h) in
            sym (ap (λ (k : List A). r.text ++ tail k) c) ∙ r.is

        pub onward : {q : List ℕ} {j : ℕ} → Laid (44 ∷ write (get_or l i d)) p place q j → Listing q j (i + 1)
        onward {q} {j} s =
            let w = 44 ∷ write (get_or l i d) in
            record {
              text = r.text ++ w;
              is = append_assoc r.text w (tail (drop (i + 1) l)) ∙ further;
              laid = both r.text w r.laid q (Some j) s;
            }

        pub stopped : {q : List ℕ} → Short (44 ∷ write (get_or l i d)) p place q → Short (joined write v l) o at q
        stopped {q} s =
            let w = 44 ∷ write (get_or l i d) in
            subst (λ (t : List ℕ). Short t o at q) (append_assoc r.text w (tail (drop (i + 1) l)) ∙ further)
            (cut (r.text ++ w) (tail (drop (i + 1) l)) (both r.text w r.laid q None s))
