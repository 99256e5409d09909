-- The reader's loop: what is left, read on behind the digits passed, is the whole, read from the start. Each lemma is one way on from there.
-- Assumes nothing.
use Rattle.text.proofs.Kit.{◌≡◌, refl, sym, ◌∙◌, true, false, cond, None, Some, List, ◌∷◌, ℕ, ◌+◌, ◌*◌, ◌-◌, ◌<◌, ◌≤◌, arith, add-one, ltb, leb, eqb, eq-eqb, ne_eqb, leb-true, lt-ltb, le-ltb, length, get_or, drop, drop_of_length-le, drop-cons, and_right}
use native.Mathlib.Decide.{dec_lt}
use Rattle.text.specs.Readers.{none, Reads}
use Rattle.text.specs.Numbers.{digit_of, places, takes, ended, further, number}

module _ (b top : ℕ) (s : List ℕ) (at : ℕ) where
  -- the digits passed make v, and the place is i
  pub record Reading (v i : ℕ) : Type 0 where
    pub rest : further b top (eqb i at) (places b - (i - at)) v (drop i s) ≡ number b top (drop at s)
    pub small : v ≤ top

  pub begun : Reading 0 at
  begun =
      let e : places b - (at - at) ≡ places b = omega arith in
      record { rest = rw (eq-eqb at at refl, e); small = omega arith }

  -- the digits end at i
  finish : (v : ℕ) {i : ℕ} → i ≤ length s → at ≤ i → number b top (drop at s) ≡ ended (eqb i at) v (drop i s) → Reads (number b top) s at (cond (ltb at i) (Some (v, i)) None)
  finish v {i} k l e = go (dec_lt at i)
    where
      go : Dec (at < i) → Reads (number b top) s at (cond (ltb at i) (Some (v, i)) None)
      go (yes f) = rw (lt-ltb at i f) (record { is = e ∙ rw (ne_eqb i at (λ z. omega arith)); within = k })
      go (no f) = rw (le-ltb at i (omega arith)) (e ∙ rw (eq-eqb i at (omega arith)))

  module _ {v i : ℕ} (r : Reading v i) (l : at ≤ i) where
    -- the bytes end; where the place was past their end, none was passed
    pub at-end : length s ≤ i → (at ≤ length s → i ≤ length s) → Reads (number b top) s at (cond (ltb at (length s)) (Some (v, length s)) None)
    unfolding further
    at-end h k = go (dec_lt at (length s))
      where
        go : Dec (at < length s) → Reads (number b top) s at (cond (ltb at (length s)) (Some (v, length s)) None)
        go (yes f) =
            let m : i ≤ length s = k (omega arith) in
            let e : i ≡ length s = omega arith in
            rw (← e) (finish _ m l (sym r.rest ∙ rw (drop_of_length-le s h)))
        go (no f) =
            let m : length s ≤ at = omega arith in
            rw (le-ltb at (length s) m, drop_of_length-le s m)

    module _ (h : i < length s) where
      onward : number b top (drop at s) ≡ further b top (eqb i at) (places b - (i - at)) v (get_or s i 0 ∷ drop (i + 1) s)
      onward = sym r.rest ∙ rw (add-one i, drop-cons s i 0 h)

      -- no digit
      pub at_other : b ≤ digit_of (get_or s i 0) → Reads (number b top) s at (cond (ltb at i) (Some (v, i)) None)
      unfolding further
      at_other g =
          finish _ (omega arith) l
          (onward ∙ rw (le-ltb (digit_of (get_or s i 0)) b g, add-one i, ← drop-cons s i 0 h))

      module _ {d : ℕ} (k : d ≡ digit_of (get_or s i 0)) (g : d < b) where
        -- a digit that may not stand there
        pub refused : takes b top (places b - (i - at)) v d ≡ false → number b top (drop at s) ≡ none
        unfolding further
        refused f = onward ∙ rw (← k, lt-ltb d b g, f)

        pub taken : takes b top (places b - (i - at)) v d ≡ true → Reading (v * b + d) (i + 1)
        unfolding further
        taken f =
            let e : places b - (i + 1 - at) ≡ places b - (i - at) - 1 = omega arith in
            record {
              rest = rw (ne_eqb (i + 1) at (λ z. omega arith), e) (sym (onward ∙ rw (← k, lt-ltb d b g, f)));
              small = leb-true (v * b + d) top (and_right (ltb 0 (places b - (i - at))) (leb (v * b + d) top) f);
            }
