-- Kept through a column: what the lazy state stands for is the rule's run (`Meets`), and while pivot j is cleared, a row that has the column does not owe it
-- yet (`Clearing`). For a row that comes to owe the pivot has its bit cleared by it, and the table holds the product by one pivot more. Assumes nothing.
use Prim.Native.Nat.{ℕ, suc, ◌+◌, ◌^◌, ◌<◌}
use native.Mathlib.Omega.{arith}
use mathlib.Core.Path.{◌≡◌, refl, sym, ap, ◌∙◌, subst, fun_ext}
use mathlib.Core.Logic.{⊎_elim}
use mathlib.Core.Bool.{Bool, true, false, cond, not, ◌&&◌, xor, false≢true}
use mathlib.Core.Option.{Option, none, some}
use mathlib.Core.List.{List, [], ◌∷◌, ◌++◌}
use lib.Dec.{eqb, ltb}
use lib.ListN.{get_or, drop}
use lib.Pow.{pow_pos}
use borrow.Author.Tests.{eqb-false, ltb-true, not-true}
use Rattle.pauli.proofs.Bools.{cond_ind, and_left, and_right}
use Rattle.reduction.specs.Rule.{entry, Run, mul_at, multiply, counted, first}
use Rattle.reduction.specs.Capacity.{done}
use Rattle.reduction.specs.Workers.{through, multiply_c, turn_c, lead_c, pivot_c, column_by_c, column_c}
use Rattle.reduction.specs.Laws.{Laws}
use Rattle.reduction.proofs.Lists.{same?}
use Rattle.reduction.proofs.Run.{found_left}
use Rattle.reduction.proofs.Walk.{found-one}
use Rattle.tabled.specs.Workers.{Meets, goes, Within, Led, Clearing, Lazy, going, through_l, counted_l, owe, with_table, paid, row_of, settle, pay, pay_all, doubled, Doubles, freeze, multiply_l, fitting, turn_l, lead_l, pivot_l, column_by_l, column_l, column_in}
use Rattle.tabled.proofs.Steps.{put-here, put_other, mul_at-here, mul_at-other, run_of, paid-none, pay-settle, pay-here, pay-none, pay-small, pay-all, multiply-settle, doubled-doubles, paid-same, freeze-settle, paid-more}
use Rattle.tabled.proofs.Meets.{meets-then, meets-through, meets-fitting}

module _ {R : Type 0} {bit : R → ℕ → Bool} {mul : R → R → R} {ph : R → ℕ} {expo : R → R → ℕ} {N : ℕ} (laws : Laws bit mul ph expo N) (capacity : ℕ) where
  -- a new block
  none_left : {G : ℕ} (s : Lazy R) → 0 < G → (pay_all mul s).pivots < G
  unfolding pay_all
  none_left s g = g

  none-owed : (s : Lazy R) (k : ℕ) → (pay_all mul s).owed k < 2 ^ (pay_all mul s).pivots
  unfolding pay_all
  none-owed s k = omega arith

  -- ---- a row owes the pivot too

  module _ (c p j k : ℕ) (s : Lazy R) (C : Clearing bit mul c p j s) (other : k ≡ p → ⊥) (on : bit (row_of mul s k) c ≡ true) where
    owe-here : row_of mul (owe j k p s) k ≡ mul (row_of mul s k) (row_of mul s p)
    unfolding owe
    owe-here =
        ap (λ n. paid mul s.table (s.rows k) n) (put-here s.owed k (s.owed k + 2 ^ j) k refl)
        ∙ paid-more mul laws.assoc s.table (s.rows p) (2 ^ j) (pow_pos j) C.at (s.rows k) (s.owed k) (λ h. C.above (s.owed k) h (C.still k on))
        ∙ ap (λ x. mul (row_of mul s k) x) (sym (paid-none mul s.table (s.rows p) (s.owed p) C.nothing))

    owe-other : (i : ℕ) → (i ≡ k → ⊥) → row_of mul (owe j k p s) i ≡ row_of mul s i
    unfolding owe
    owe-other i n = ap (λ x. paid mul s.table (s.rows i) x) (put_other s.owed k (s.owed k + 2 ^ j) i n)

    owe-row : (i : ℕ) → row_of mul (owe j k p s) i ≡ mul_at mul (row_of mul s) k p i
    owe-row i =
        ⊎_elim
        (λ e. ap (row_of mul (owe j k p s)) e ∙ owe-here ∙ sym (mul_at-here mul (row_of mul s) k p i e))
        (λ n. owe-other i n ∙ sym (mul_at-other mul (row_of mul s) k p i n))
        (same? i k)

    pub owe-settle : settle mul (owe j k p s) ≡ multiply mul k p (settle mul s)
    unfolding settle multiply owe
    owe-settle = ap (λ σ. run_of σ (s.log ++ (entry k p ∷ [])) s.t) (fun_ext owe-row)

    owe-bit : bit (row_of mul (owe j k p s) k) c ≡ false
    unfolding xor
    owe-bit =
        ap (λ r. bit r c) owe-here ∙ laws.bit-mul (row_of mul s k) (row_of mul s p) c ∙ ap (λ x. xor x (bit (row_of mul s p) c)) on
        ∙ ap (λ x. xor true x) (ap (λ r. bit r c) (paid-none mul s.table (s.rows p) (s.owed p) C.nothing) ∙ C.one)

    owe-owed : (i : ℕ) → (i ≡ k → ⊥) → (owe j k p s).owed i ≡ s.owed i
    unfolding owe
    owe-owed i n = put_other s.owed k (s.owed k + 2 ^ j) i n

    owe-sum : (i : ℕ) → i ≡ k → (owe j k p s).owed i ≡ s.owed k + 2 ^ j
    unfolding owe
    owe-sum i e = put-here s.owed k (s.owed k + 2 ^ j) i e

    pub owe-clearing : Clearing bit mul c p j (owe j k p s)
    unfolding owe
    owe-clearing =
        record {
          count = C.count;
          small = λ i. ⊎_elim (λ e. omega (arith, owe-sum i e, C.still k on)) (λ n. omega (arith, owe-owed i n, C.small i)) (same? i k);
          nothing = owe-owed p (λ e. other (sym e)) ∙ C.nothing;
          one = C.one;
          at = C.at;
          above = C.above;
          still = λ i h.
              ⊎_elim
              (λ e. absurd (false≢true (sym owe-bit ∙ ap (λ x. bit (row_of mul (owe j k p s) x) c) (sym e) ∙ h)))
              (λ n. omega (arith, owe-owed i n, C.still i (ap (λ r. bit r c) (sym (owe-other i n)) ∙ h)))
              (same? i k);
        }

  -- ---- the pieces of a column

  pub meets-turn : (c p j k : ℕ) (s : Lazy R) → Clearing bit mul c p j s → Meets mul (Clearing bit mul c p j) (turn_l bit mul capacity c p j k s) (turn_c bit mul capacity c p k (settle mul s))
  unfolding turn_l turn_c settle
  meets-turn c p j k s C = go (not (eqb k p) && bit (row_of mul s k) c) refl
    where
      go : (b : Bool) → (not (eqb k p) && bit (row_of mul s k) c) ≡ b
          → Meets mul (Clearing bit mul c p j) (cond b (fitting bit mul capacity s (owe j k p s)) (going s)) (cond b (multiply_c mul capacity k p (settle mul s)) (done (settle mul s)))
      go true e =
          let n = eqb-false k p (not-true (eqb k p) (and_left (not (eqb k p)) _ e)) in
          let on = and_right (not (eqb k p)) _ e in
          meets-fitting bit mul capacity k p s (owe j k p s) (owe-settle c p j k s C n on) (owe-clearing c p j k s C n on)
      go false e = goes s refl refl C

  -- a state whose rows are those of the rule's run with the pivot led
  led-of : (c p j : ℕ) (s : Lazy R) (r : Run R) → settle mul s ≡ r → bit (r.rows p) c ≡ true → s.pivots ≡ j → ((k : ℕ) → s.owed k < 2 ^ j) → s.owed p ≡ 0 → Led bit mul c p j s
  unfolding settle
  led-of c p j s r e o n h z = record { count = n; small = h; nothing = z; one = ap (λ (x : Run R). bit (x.rows p) c) e ∙ o }

  pub meets-lead : (c p f : ℕ) (rest : List ℕ) (s : Lazy R) → ((k : ℕ) → s.owed k < 2 ^ s.pivots) → first bit (row_of mul s) c (p ∷ rest) ≡ some f
      → Meets mul (Led bit mul c p s.pivots) (lead_l bit mul capacity p f (pay mul p s)) (lead_c bit mul capacity p f (settle mul s))
  unfolding lead_l lead_c settle pay multiply_l
  meets-lead c p f rest s h e = go (eqb f p) refl
    where
      j : ℕ
      j = s.pivots

      s1 : Lazy R
      s1 = pay mul p s

      s2 : Lazy R
      s2 = pay mul f s1

      s3 : Lazy R
      s3 = multiply_l mul p f s2

      small1 : (k : ℕ) → s1.owed k < 2 ^ j
      small1 = pay-small mul p (2 ^ j) s (pow_pos j) h

      found : (b : Bool) → eqb f p ≡ b → bit ((cond b (settle mul s) (multiply mul p f (settle mul s))).rows p) c ≡ true
      found b q = subst (λ x. bit ((cond x (settle mul s) (multiply mul p f (settle mul s))).rows p) c ≡ true) q (found-one bit mul laws.bit-mul c p f (settle mul s) rest e)

      go : (b : Bool) → eqb f p ≡ b
          → Meets mul (Led bit mul c p j) (cond b (going s1) (fitting bit mul capacity s2 (multiply_l mul p f s2))) (cond b (done (settle mul s)) (multiply_c mul capacity p f (settle mul s)))
      go true q = goes s1 refl (ap done (sym (pay-settle mul p s))) (led-of c p j s1 (settle mul s) (pay-settle mul p s) (found true q) refl small1 (pay-here mul p s))
      go false q =
          let same : settle mul s2 ≡ settle mul s = pay-settle mul f s1 ∙ pay-settle mul p s in
          let zero : s2.owed p ≡ 0 = pay-none mul f s1 p (pay-here mul p s) in
          let step : settle mul s3 ≡ multiply mul p f (settle mul s2) = multiply-settle mul p f s2 zero (pay-here mul f s1) in
          subst (λ r. Meets mul (Led bit mul c p j) (fitting bit mul capacity s2 s3) (multiply_c mul capacity p f r)) same
          (meets-fitting bit mul capacity p f s2 s3 step
          (led-of c p j s3 (multiply mul p f (settle mul s)) (step ∙ ap (multiply mul p f) same) (found false q) refl (pay-small mul f (2 ^ j) s1 (pow_pos j) small1) zero))

  -- ---- a pivot

  -- what the next pivot's table is asked to be is enough, whatever lies past its entries
  pub freeze-clearing : (c p j : ℕ) (T : ℕ → R) (s : Lazy R) → Doubles mul (2 ^ j) (s.rows p) s.table T → Led bit mul c p j s → Clearing bit mul c p j (with_table T s)
  unfolding with_table
  freeze-clearing c p j T s D L =
      let same : (k : ℕ) → row_of mul (with_table T s) k ≡ row_of mul s k = λ k. paid-same mul s.table T (2 ^ j) D.below (s.rows k) (s.owed k) (L.small k) in
      record {
        count = ap suc L.count;
        small = λ k. omega (arith, L.small k);
        nothing = L.nothing;
        one = ap (λ r. bit r c) (sym (paid-none mul s.table (s.rows p) (s.owed p) L.nothing)) ∙ L.one;
        at = D.at;
        above = λ n h l. D.above n h l ∙ ap (λ x. mul x (s.rows p)) (sym (D.below n l));
        still = λ k _. L.small k;
      }

  pub meets-clear : (c p j : ℕ) (all : List ℕ) (s : Lazy R) → Clearing bit mul c p j s
      → Meets mul (Clearing bit mul c p j) (through_l (turn_l bit mul capacity c p j) all s) (through (turn_c bit mul capacity c p) all (settle mul s))
  meets-clear c p j all s C = meets-through mul (turn_l bit mul capacity c p j) (turn_c bit mul capacity c p) (λ k s' C'. meets-turn c p j k s' C') all s C

  pub meets-pivot : (c p f : ℕ) (all rest : List ℕ) (s : Lazy R) → ((k : ℕ) → s.owed k < 2 ^ s.pivots) → first bit (row_of mul s) c (p ∷ rest) ≡ some f
      → Meets mul (Clearing bit mul c p s.pivots) (pivot_l bit mul capacity all c p f s) (pivot_c bit mul capacity all c p f (settle mul s))
  unfolding pivot_l pivot_c freeze
  meets-pivot c p f all rest s h e =
      let j = s.pivots in
      meets-then mul (λ s'. through_l (turn_l bit mul capacity c p j) all (freeze mul p s')) (λ r. through (turn_c bit mul capacity c p) all r) (meets-lead c p f rest s h e)
      (λ s' L.
      let D : Doubles mul (2 ^ s'.pivots) (s'.rows p) s'.table (doubled mul (2 ^ s'.pivots) (s'.rows p) s'.table) = doubled-doubles mul (2 ^ s'.pivots) (s'.rows p) s'.table (pow_pos s'.pivots) in
      let h' : (k : ℕ) → s'.owed k < 2 ^ s'.pivots = λ k. subst (λ n. s'.owed k < 2 ^ n) (sym L.count) (L.small k) in
      subst (λ r. Meets mul (Clearing bit mul c p j) (through_l (turn_l bit mul capacity c p j) all (freeze mul p s')) (through (turn_c bit mul capacity c p) all r))
      (freeze-settle mul (s'.rows p) _ s' D h')
      (meets-clear c p j all (freeze mul p s')
      (freeze-clearing c p j _ s' (subst (λ n. Doubles mul (2 ^ n) (s'.rows p) s'.table (doubled mul (2 ^ s'.pivots) (s'.rows p) s'.table)) L.count D) L)))

  -- ---- a column

  module _ (listed extra : List ℕ) where
    pub meets-column : (G c : ℕ) (s : Lazy R) → s.pivots < G → ((k : ℕ) → s.owed k < 2 ^ s.pivots)
        → Meets mul (Within G) (column_l bit mul capacity listed extra c s) (column_c bit mul capacity listed extra c (settle mul s))
    unfolding column_l column_c column_by_l column_by_c settle counted counted_l
    meets-column G c s l h = go (first bit (row_of mul s) c (drop s.t listed)) refl
      where
        go : (o : Option ℕ) → first bit (row_of mul s) c (drop s.t listed) ≡ o
            → Meets mul (Within G) (column_by_l bit mul capacity listed extra c o s) (column_by_c bit mul capacity listed extra c o (settle mul s))
        go none e = goes s refl refl (record { few = omega arith; small = h })
        go (some f) e =
            meets-then mul (λ s'. going (counted_l s')) (λ r. done (counted r))
            (meets-pivot c (get_or listed s.t 0) f (listed ++ extra) (drop (suc s.t) listed) s h (found_left bit mul listed extra c s.t f (row_of mul s) e))
            (λ s' C. goes (counted_l s') refl refl (record {
              few = omega (arith, C.count);
              small = λ k. subst (λ n. s'.owed k < 2 ^ n) (sym C.count) (omega (arith, C.small k));
            }))

    pub meets-column_in : (G c : ℕ) (s : Lazy R) → 0 < G → Within G s
        → Meets mul (Within G) (column_in bit mul capacity G listed extra c s) (column_c bit mul capacity listed extra c (settle mul s))
    unfolding column_in
    meets-column_in G c s g w =
        cond_ind (λ s'. Meets mul (Within G) (column_l bit mul capacity listed extra c s') (column_c bit mul capacity listed extra c (settle mul s))) (ltb s.pivots G)
        (λ e. meets-column G c s (ltb-true s.pivots G e) w.small)
        (λ e. subst (λ r. Meets mul (Within G) (column_l bit mul capacity listed extra c (pay_all mul s)) (column_c bit mul capacity listed extra c r)) (pay-all mul s)
        (meets-column G c (pay_all mul s) (none_left s g) (none-owed s)))
