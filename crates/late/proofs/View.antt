-- A row of a set written, as rows: its product by a row of another set (`written-by`) or a copy (`written-put`) is one row changed, since the words of a sound set
-- are packed from its rows; the table's doubling and paying stand on that. Assumes nothing.
use mathlib.Core.Path.{◌≡◌, refl, sym, ap, ap₂, ◌∙◌, subst, fun_ext}
use mathlib.Core.Logic.{◌⊎◌, inl, inr, ⊎_elim}
use mathlib.Core.List.{List, []}
use Prim.Native.Nat.{ℕ, ◌+◌, ◌*◌, ◌%◌, ◌≤◌, ◌<◌}
use native.Mathlib.Decide.{dec_lt, ℕ_discrete}
use native.Mathlib.Nat.{mul-le-mul_right}
use native.Mathlib.Omega.{arith}
use lib.Arith.{lt_of_le-ne}
use lib.ListN.{length, get_or, take, set, length-set, get_or-eq_default}
use lib.Seq.{get_or-set_same, get_or-set_other}
use Rattle.pauli.specs.Pauli.{Pauli, ◌·◌, mul, phases, has_x, has_z}
use Rattle.pauli.specs.Row.{Row, pad_mul, mul_row}
use Rattle.pauli.proofs.Lists.{length-each}
use Rattle.pauli.proofs.RowLaws.{row-eq, pad-mul}
use Rattle.encoding.specs.Limits.{words_of, max_rows, max_words}
use Rattle.encoding.specs.Words.{qubits, pack}
use Rattle.encoding.specs.Set.{row, Mem, mem_of, count, exponent_at, with_exponent, rows_held, rows_of, Packed, Valid, Sound}
use Rattle.encoding.proofs.RowWords.{in_words, phase-is, product_is}
use Rattle.encoding.proofs.Reading.{qubits-pack}
use Rattle.encoding.proofs.Memory.{x-row, row_count, mem-eq}
use Rattle.encoding.proofs.Exponents.{laid-long, laid-with, units-with, exponent_same, exponent-other, exponent_small}
use Rattle.encoding.proofs.Parts.{row-end}
use Rattle.products.specs.Leaves.{Outside}
use Rattle.products.specs.declared.Factor.{Factor}
use Rattle.products.proofs.PartLaws.{row_other}
use Rattle.reduction.specs.Rule.{Entry}
use Rattle.reduction.proofs.Lists.{same?}
use Rattle.tabled.specs.Workers.{Lazy, put_at, paid, pay, settle}
use Rattle.tabled.proofs.Steps.{put-here, put_other, paid-none, paid-some, pay-settle, pay-here, pay-none, pay-small}
use Rattle.late.specs.Workers.{Keeps, RoomBy, MultipliedBy, RowsBy, RowBy, RowPut, lazy_of, Owing, Paid, PaidAll, DoubleIn, Doubled}

pub keeps-none : {n : ℕ} {M : Mem} → Sound n M → Keeps n M M
keeps-none v = record { sound = v; x_len = refl; z-len = refl; e-len = refl; many = refl }

pub keeps_then : {n : ℕ} {M M₁ M₂ : Mem} → Keeps n M M₁ → Keeps n M₁ M₂ → Keeps n M M₂
keeps_then a b = record { sound = b.sound; x_len = b.x_len ∙ a.x_len; z-len = b.z-len ∙ a.z-len; e-len = b.e-len ∙ a.e-len; many = b.many ∙ a.many }

-- ---- row d of a set written anew

module _ (n w : ℕ) (M : Mem) (v : Valid n w M) (d : ℕ) (hd : d < count M) {xs' zs' : List ℕ} (ox : Outside (d * w) (d * w + w) M.xs xs')
    (oz : Outside (d * w) (d * w + w) M.zs zs') (p : ℕ) (hp : p < 4) where
  written_at : exponent_at (with_exponent M.es d p) d ≡ p
  written_at = exponent_same M.es d p (laid-long (count M) v.exponents) hd hp

  put-valid : Packed n w (row w d xs') (row w d zs') → Valid n w (mem_of (count M) xs' zs' (with_exponent M.es d p))
  put-valid new =
      record {
        wide = v.wide;
        x-long = ox.long ∙ v.x-long;
        z-long = oz.long ∙ v.z-long;
        packed = λ r h. go-packed r h (ℕ_discrete r d);
        exponents = laid-with M.es d p (count M) hd v.exponents;
      }
    where
      go-packed : (r : ℕ) → r < count M → Dec (r ≡ d) → Packed n w (row w r xs') (row w r zs')
      go-packed r h (yes t) = subst (λ (k : ℕ). Packed n w (row w k xs') (row w k zs')) (sym t) new
      go-packed r h (no ne) =
          subst (λ (s : List ℕ). Packed n w s (row w r zs')) (sym (row_other w r d ox ne))
          (subst (λ (s : List ℕ). Packed n w (row w r M.xs) s) (sym (row_other w r d oz ne)) (v.packed r h))

  put-rows : {r : Row} → ◌≡◌ {A = Row} (record { ps = qubits n (row w d xs') (row w d zs'); p = p }) r
      → rows_held n w (mem_of (count M) xs' zs' (with_exponent M.es d p)) ≡ put_at (rows_held n w M) d r
  unfolding rows_held
  put-rows {r} e =
      fun_ext (λ k. ⊎_elim
      (λ t. ap (rows_held n w (mem_of (count M) xs' zs' (with_exponent M.es d p))) t ∙ row-eq refl written_at ∙ e ∙ sym (put-here (rows_held n w M) d r k t))
      (λ ne. row-eq (ap₂ (qubits n) (row_other w k d ox ne) (row_other w k d oz ne)) (exponent-other M.es d p k ne) ∙ sym (put_other (rows_held n w M) d r k ne))
      (same? k d))

pub small-start : (k w : ℕ) → k < max_rows → w ≤ max_words → k * w ≤ max_rows * max_words
small-start k w h g = omega (arith, mul-le-mul_right w h)

pub room_by : {w d a b : ℕ} {M N : Mem} → RowsBy w d a b M N → RoomBy w (d * w) (a * w) (b * w) M.xs M.zs N.xs N.zs
room_by {w} {d} {a} {b} {M} h =
    let in-m : a < count M = omega (arith, h.a_in, h.d-in) in
    record {
      d-x = omega (arith, row-end d w h.d-in, h.x-long);
      d-z = omega (arith, row-end d w h.d-in, h.z-long);
      s-x = omega (arith, row-end a w in-m, h.x-long);
      s-z = omega (arith, row-end a w in-m, h.z-long);
      t-x = omega (arith, row-end b w h.b-in, h.bx-long);
      t-z = omega (arith, row-end b w h.b-in, h.bz-long);
      apart = ⊎_elim (λ e. inl (ap (λ k. k * w) e)) (λ n. inr (row-end a w (lt_of_le-ne h.a_in n))) (same? a d);
    }

-- the product of the whole words is that of the rows
module _ (n w : ℕ) {M N : Mem} (v : Valid n w M) (u : Valid n w N) (d a b : ℕ) (hd : d < count M) (ha : a < count M) (hb : b < count N) where
  A : List Pauli
  A = qubits n (row w a M.xs) (row w a M.zs)

  B : List Pauli
  B = qubits n (row w b N.xs) (row w b N.zs)

  long : length (pad_mul A B) ≡ n
  unfolding A B
  long =
      let e = row_count n w u b hb ∙ sym (row_count n w v a ha) in
      ap length (pad-mul A B e) ∙ length-each ◌·◌ A B e ∙ row_count n w v a ha

  module _ {xs' zs' : List ℕ} {f : Factor} (q : MultipliedBy w (d * w) (a * w) (b * w) M.xs M.zs N.xs N.zs xs' zs' f) where
    x-new : row w d xs' ≡ pack has_x w (pad_mul A B)
    unfolding A B rows_held
    x-new = q.here.x-words ∙ ap (λ k. pack has_x k (mul (in_words w M a) (in_words w N b))) (x-row n w v a ha) ∙ product_is n w v N u has_x refl a b ha hb

    z-new : row w d zs' ≡ pack has_z w (pad_mul A B)
    unfolding A B rows_held
    z-new = q.here.z-words ∙ ap (λ k. pack has_z k (mul (in_words w M a) (in_words w N b))) (x-row n w v a ha) ∙ product_is n w v N u has_z refl a b ha hb

    new : qubits n (row w d xs') (row w d zs') ≡ pad_mul A B
    new = ap₂ (qubits n) x-new z-new ∙ qubits-pack n w (pad_mul A B) long v.wide

    packed_new : Packed n w (row w d xs') (row w d zs')
    packed_new = record { x-is = x-new ∙ ap (pack has_x w) (sym new); z-is = z-new ∙ ap (pack has_z w) (sym new) }

    abbrev value : ℕ
    value = (exponent_at M.es a + exponent_at N.es b + f.phase.0) % 4

    exponent : value ≡ (exponent_at M.es a + exponent_at N.es b + phases (take n A) (take n B)) % 4
    unfolding A B rows_held
    exponent = omega (arith, q.here.factor.exponent, phase-is n w v N a b ha)

    valid-new : Valid n w (mem_of (count M) xs' zs' (with_exponent M.es d value))
    valid-new = put-valid n w M v d hd q.x-rest q.z-rest value (omega arith) packed_new

    rows_new : rows_held n w (mem_of (count M) xs' zs' (with_exponent M.es d value)) ≡ put_at (rows_held n w M) d (mul_row n (rows_held n w M a) (rows_held n w N b))
    unfolding A B rows_held mul_row
    rows_new = put-rows n w M v d hd q.x-rest q.z-rest value (omega arith) (row-eq new exponent)

-- ---- the same of sound sets

-- row d of T was written: it is r
pub record Written (n d : ℕ) (r : Row) (T T' : Mem) : Type 0 where
  pub keeps : Keeps n T T'
  pub rows_are : rows_of n T' ≡ put_at (rows_of n T) d r

module _ {n : ℕ} {T N : Mem} (s : Sound n T) (u : Sound n N) (w : ℕ) (we : w ≡ words_of n) (d b : ℕ) (hd : d < count T) (hb : b < count N) where
  vw : Valid n w T
  vw = subst (λ j. Valid n j T) (sym we) s.valid

  uw : Valid n w N
  uw = subst (λ j. Valid n j N) (sym we) u.valid

  written : {T' : Mem} {r : Row} (p : ℕ) → count T' ≡ count T → T'.es ≡ with_exponent T.es d p → length T'.xs ≡ length T.xs → length T'.zs ≡ length T.zs
      → Valid n w (mem_of (count T) T'.xs T'.zs (with_exponent T.es d p)) → rows_held n w (mem_of (count T) T'.xs T'.zs (with_exponent T.es d p)) ≡ put_at (rows_held n w T) d r → Written n d r T T'
  written {T'} {r} p many e lx lz v q =
      let same : mem_of (count T) T'.xs T'.zs (with_exponent T.es d p) ≡ T' = mem-eq (sym many) refl refl (sym e) in
      record {
        keeps =
            record {
              sound = record { valid = subst (λ j. Valid n j T') we (subst (Valid n w) same v); few-qubits = s.few-qubits; few-rows = omega (arith, many, s.few-rows) };
              x_len = lx;
              z-len = lz;
              e-len = ap length e ∙ units-with T.es d p;
              many = many;
            };
        rows_are = subst (λ j. rows_held n j T' ≡ put_at (rows_held n j T) d r) we (ap (rows_held n w) (sym same) ∙ q);
      }

  pub written-put : {T' : Mem} → RowPut w d b T N T' → Written n d (rows_of n N b) T T'
  unfolding rows_held
  written-put {T'} q =
      let x = q.x-words in
      let z = q.z-words in
      let packed : Packed n w (row w d T'.xs) (row w d T'.zs)
      = subst (λ l. Packed n w l (row w d T'.zs)) (sym x.here) (subst (λ l. Packed n w (row w b N.xs) l) (sym z.here) (uw.packed b hb)) in
      subst (λ j. Written n d (rows_held n j N b) T T') we
      (written (exponent_at N.es b) q.many q.exponents x.rest.long z.rest.long (put-valid n w T vw d hd x.rest z.rest (exponent_at N.es b) (exponent_small N.es b) packed)
      (put-rows n w T vw d hd x.rest z.rest (exponent_at N.es b) (exponent_small N.es b) (row-eq (ap₂ (qubits n) x.here z.here) refl)))

  pub written-by : {T' : Mem} (a : ℕ) → a < count T → RowBy w d a b T N T' → Written n d (mul_row n (rows_of n T a) (rows_of n N b)) T T'
  written-by {T'} a ha q =
      subst (λ j. Written n d (mul_row n (rows_held n j T a) (rows_held n j N b)) T T') we
      (written _ q.many q.exponents q.words.x-rest.long q.words.z-rest.long (valid-new n w vw uw d a b hd ha hb q.words) (rows_new n w vw uw d a b hd ha hb q.words))

-- ---- the table's doubling

-- its entries so far
pub record Filling (n o a : ℕ) (T₀ M T : Mem) (i : ℕ) : Type 0 where
  pub from : 0 < i
  pub le : i ≤ o
  pub keeps : Keeps n T₀ T
  pub below : (j : ℕ) → j < o → rows_of n T j ≡ rows_of n T₀ j
  pub at : rows_of n T o ≡ rows_of n M a
  pub above : (j : ℕ) → 0 < j → j < i → rows_of n T (j + o) ≡ mul_row n (rows_of n T₀ j) (rows_of n M a)

-- what is asked to write row d of a set from row c of it and row b of another
pub rows-by : {n : ℕ} {M N : Mem} → Sound n M → Sound n N → (w : ℕ) → w ≡ words_of n → (c d b : ℕ) → c ≤ d → d < count M → b < count N → RowsBy w d c b M N
rows-by {n} {M} {N} s u w e c d b hc hd hb =
    record {
      few = s.few-rows;
      few-by = u.few-rows;
      narrow = omega (arith, s.few-qubits);
      x-long = s.valid.x-long ∙ ap (λ j. count M * j) (sym e);
      z-long = s.valid.z-long ∙ ap (λ j. count M * j) (sym e);
      bx-long = u.valid.x-long ∙ ap (λ j. count N * j) (sym e);
      bz-long = u.valid.z-long ∙ ap (λ j. count N * j) (sym e);
      a_in = hc;
      d-in = hd;
      b-in = hb;
    }

module _ {n o a : ℕ} {T₀ M : Mem} (h : DoubleIn n o a T₀ M) where
  pub fill_start : rows_of n T₀ o ≡ rows_of n M a → Filling n o a T₀ M T₀ 1
  fill_start e = record { from = omega arith; le = h.some; keeps = keeps-none h.table; below = λ j l. refl; at = e; above = λ j p l. absurd (omega arith) }

  pub fill-in : (w : ℕ) → w ≡ words_of n → {T : Mem} {i : ℕ} → Filling n o a T₀ M T i → i < o → RowsBy w (i + o) i a T M
  fill-in w e {T} {i} F l = rows-by F.keeps.sound h.rows w e i (i + o) a (omega arith) (omega (arith, h.room, F.keeps.many)) h.a_in

  pub fill_more : (w : ℕ) → w ≡ words_of n → {T T' : Mem} {i : ℕ} → Filling n o a T₀ M T i → i < o → RowBy w (i + o) i a T M T' → Filling n o a T₀ M T' (i + 1)
  fill_more w we {T} {T'} {i} F l q =
      let W = written-by F.keeps.sound h.rows w we (i + o) a (omega (arith, h.room, F.keeps.many)) h.a_in i (omega (arith, h.room, F.keeps.many)) q in
      let f = rows_of n M a in
      let r = mul_row n (rows_of n T i) f in
      let other : (j : ℕ) → (j ≡ i + o → ⊥) → rows_of n T' j ≡ rows_of n T j = λ j ne. ap (λ (σ : ℕ → Row). σ j) W.rows_are ∙ put_other (rows_of n T) (i + o) r j ne in
      record {
        from = omega arith;
        le = omega arith;
        keeps = keeps_then F.keeps W.keeps;
        below = λ j g. other j (λ e. omega arith) ∙ F.below j g;
        at = other o (λ e. omega (arith, F.from)) ∙ F.at;
        above = λ j p g. ⊎_elim
            (λ e. ap (λ k. rows_of n T' (k + o)) e ∙ ap (λ (σ : ℕ → Row). σ (i + o)) W.rows_are ∙ put-here (rows_of n T) (i + o) r (i + o) refl ∙ ap (λ x. mul_row n x f) (F.below i l ∙ ap (rows_of n T₀) (sym e)))
            (λ ne. other (j + o) (λ e. ne (omega arith)) ∙ F.above j p (omega arith))
            (same? j i);
      }

  pub fill_end : {T : Mem} {i : ℕ} → Filling n o a T₀ M T i → o ≤ i → Doubled n o a T₀ M T
  fill_end {T} {i} F l = record { keeps = F.keeps; entries = record { below = F.below; at = F.at; above = λ j hj hl. F.above j hj (omega arith) } }

-- the pivot copied, and then the other entries
module _ {n o a : ℕ} {T₀ M : Mem} (h : DoubleIn n o a T₀ M) (w : ℕ) (we : w ≡ words_of n) where
  pub double-put : RowsBy w o o a T₀ M
  double-put = rows-by h.table h.rows w we o o a (omega arith) (omega (arith, h.room, h.some)) h.a_in

  module _ {T : Mem} (q : RowPut w o a T₀ M T) where
    put_is : Written n o (rows_of n M a) T₀ T
    put_is = written-put h.table h.rows w we o a (omega (arith, h.room, h.some)) h.a_in q

    pub double-next : DoubleIn n o a T M
    double-next = record { table = put_is.keeps.sound; rows = h.rows; some = h.some; room = omega (arith, h.room, put_is.keeps.many); a_in = h.a_in }

    pub double-at : rows_of n T o ≡ rows_of n M a
    double-at = ap (λ (σ : ℕ → Row). σ o) put_is.rows_are ∙ put-here (rows_of n T₀) o (rows_of n M a) o refl

    pub double-then : {T' : Mem} → Doubled n o a T M T' → Doubled n o a T₀ M T'
    double-then {T'} D =
        let before : (j : ℕ) → j < o → rows_of n T j ≡ rows_of n T₀ j = λ j l. ap (λ (σ : ℕ → Row). σ j) put_is.rows_are ∙ put_other (rows_of n T₀) o (rows_of n M a) j (λ e. omega arith) in
        record {
          keeps = keeps_then put_is.keeps D.keeps;
          entries =
              record {
                below = λ j l. D.entries.below j l ∙ before j l;
                at = D.entries.at;
                above = λ j p l. D.entries.above j p l ∙ ap (λ x. mul_row n x (rows_of n M a)) (before j l);
              };
        }

-- ---- paying

pub lazy-eq : {σ σ' : ℕ → Row} {o o' : ℕ → ℕ} (T : ℕ → Row) (g : ℕ) (log : List Entry) (t : ℕ) → σ ≡ σ' → o ≡ o'
    → ◌≡◌ {A = Lazy Row} (record { rows = σ; owed = o; table = T; pivots = g; log = log; t = t }) (record { rows = σ'; owed = o'; table = T; pivots = g; log = log; t = t })
lazy-eq T g log t p q = λ i. record { rows = p i; owed = q i; table = T; pivots = g; log = log; t = t }

-- what stands there is put there
put_same : {A : Type 0} (f : ℕ → A) (a : ℕ) (v : A) → f a ≡ v → f ≡ put_at f a v
put_same f a v e = fun_ext (λ k. ⊎_elim (λ q. ap f q ∙ e ∙ sym (put-here f a v k q)) (λ n. sym (put_other f a v k n)) (same? k a))

-- a byte written
pub set-put : (l : List ℕ) (a v : ℕ) → a < length l → ◌≡◌ {A = ℕ → ℕ} (λ k. get_or (set l a v) k 0) (put_at (λ k. get_or l k 0) a v)
set-put l a v h =
    fun_ext (λ k. ⊎_elim
    (λ q. ap (λ j. get_or (set l a v) j 0) q ∙ get_or-set_same l a v 0 h ∙ sym (put-here (λ k. get_or l k 0) a v k q))
    (λ n. get_or-set_other l a k v 0 n ∙ sym (put_other (λ k. get_or l k 0) a v k n))
    (same? k a))

module _ {n : ℕ} {M : Mem} {owed : List ℕ} {T : Mem} (h : Owing n M owed T) (k : ℕ) (hk : k < count M) where
  pub pay-in : (w : ℕ) → w ≡ words_of n → RowsBy w k k (get_or owed k 0) M T
  pay-in w e = rows-by h.rows h.table w e k k (get_or owed k 0) (omega arith) hk (h.small k)

  pub pay-nothing : get_or owed k 0 ≡ 0 → Paid n k M owed T M owed
  unfolding pay
  pay-nothing e =
      record {
        keeps = keeps-none h.rows;
        owed-len = refl;
        state = λ g log t. lazy-eq (rows_of n T) g log t
            (put_same (rows_of n M) k (paid (mul_row n) (rows_of n T) (rows_of n M k) (get_or owed k 0)) (sym (paid-none (mul_row n) (rows_of n T) (rows_of n M k) (get_or owed k 0) e)))
            (put_same (λ j. get_or owed j 0) k 0 e);
      }

  pub pay-product : (w : ℕ) → w ≡ words_of n → {M' : Mem} → (get_or owed k 0 ≡ 0 → ⊥) → RowBy w k k (get_or owed k 0) M T M' → Paid n k M owed T M' (set owed k 0)
  unfolding pay
  pay-product w we {M'} ne q =
      let b = get_or owed k 0 in
      let W = written-by h.rows h.table w we k b hk (h.small k) k hk q in
      record {
        keeps = W.keeps;
        owed-len = length-set owed k 0;
        state = λ g log t. lazy-eq (rows_of n T) g log t
            (W.rows_are ∙ ap (put_at (rows_of n M) k) (sym (paid-some (mul_row n) (rows_of n T) (rows_of n M k) b ne)))
            (set-put owed k 0 (omega (arith, h.long)));
      }

-- ---- one row after another

-- a row paid: what the others owe still lies in the table
pub owing-paid : {n k : ℕ} {M : Mem} {owed : List ℕ} {T M' : Mem} {owed' : List ℕ} → Owing n M owed T → Paid n k M owed T M' owed' → Owing n M' owed' T
owing-paid {n} {k} {M} {owed} {T} {M'} {owed'} h q =
    let L = lazy_of n M owed T 0 [] 0 in
    let at : (i : ℕ) → get_or owed' i 0 ≡ (pay (mul_row n) k L).owed i = λ i. ap (λ (x : Lazy Row). x.owed i) (q.state 0 [] 0) in
    record {
      rows = q.keeps.sound;
      table = h.table;
      long = q.owed-len ∙ h.long ∙ sym q.keeps.many;
      small = λ i. omega (arith, at i, pay-small (mul_row n) k (count T) L (omega (arith, h.small 0)) h.small i);
    }

below? : (k i : ℕ) → (k < i) ⊎ (i ≤ k)
below? k i = go (dec_lt k i)
  where
    go : Dec (k < i) → (k < i) ⊎ (i ≤ k)
    go (yes l) = inl l
    go (no l) = inr (omega arith)

pub record PayingAll (n : ℕ) (M : Mem) (owed : List ℕ) (T M' : Mem) (owed' : List ℕ) (i : ℕ) : Type 0 where
  pub le : i ≤ count M
  pub keeps : Keeps n M M'
  pub owed-len : length owed' ≡ length owed
  pub owing : Owing n M' owed' T
  pub nothing : (k : ℕ) → k < i → get_or owed' k 0 ≡ 0
  pub state : (g : ℕ) (log : List Entry) (t : ℕ) → settle (mul_row n) (lazy_of n M' owed' T g log t) ≡ settle (mul_row n) (lazy_of n M owed T g log t)

module _ {n : ℕ} {M : Mem} {owed : List ℕ} {T : Mem} (h : Owing n M owed T) where
  pub paying-none : PayingAll n M owed T M owed 0
  paying-none = record { le = omega arith; keeps = keeps-none h.rows; owed-len = refl; owing = h; nothing = λ k l. absurd (omega arith); state = λ g log t. refl }

  module _ {M' : Mem} {owed' : List ℕ} {i : ℕ} (P : PayingAll n M owed T M' owed' i) where
    pub paying-more : {M'' : Mem} {owed'' : List ℕ} → i < count M → Paid n i M' owed' T M'' owed'' → PayingAll n M owed T M'' owed'' (i + 1)
    paying-more {M''} {owed''} l q =
        let L = lazy_of n M' owed' T 0 [] 0 in
        let at : (k : ℕ) → get_or owed'' k 0 ≡ (pay (mul_row n) i L).owed k = λ k. ap (λ (x : Lazy Row). x.owed k) (q.state 0 [] 0) in
        record {
          le = omega arith;
          keeps = keeps_then P.keeps q.keeps;
          owed-len = q.owed-len ∙ P.owed-len;
          owing = owing-paid P.owing q;
          nothing = λ k lk. at k ∙ ⊎_elim
              (λ e. subst (λ j. (pay (mul_row n) i L).owed j ≡ 0) (sym e) (pay-here (mul_row n) i L))
              (λ ne. pay-none (mul_row n) i L k (P.nothing k (omega arith)))
              (same? k i);
          state = λ g log t. ap (settle (mul_row n)) (q.state g log t) ∙ pay-settle (mul_row n) i (lazy_of n M' owed' T g log t) ∙ P.state g log t;
        }

    pub paying-all : count M ≤ i → PaidAll n M owed T M' owed'
    unfolding settle
    paying-all l =
        record {
          keeps = P.keeps;
          owed-len = P.owed-len;
          nothing = λ k. ⊎_elim (λ d. P.nothing k d) (λ d. get_or-eq_default owed' 0 (omega (arith, P.owed-len, h.long))) (below? k i);
          state = λ g g' log t. P.state g log t;
        }
