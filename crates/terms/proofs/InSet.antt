-- A row of a set multiplied in place by another: what the words have become, as `mul_in` says it. Where a row is not there, nothing is done; else both lie inside,
-- and the leaf's product is that of the rows' words (`becomes`). Assumes nothing.
use mathlib.Core.Path.{◌≡◌, refl, sym, ap, ap₂, ◌∙◌, subst}
use mathlib.Core.Logic.{◌⊎◌, inl, inr}
use mathlib.Core.Bool.{Bool, true, false, cond, ◌&&◌}
use mathlib.Core.List.{List}
use Prim.Native.Nat.{ℕ, ◌+◌, ◌-◌, ◌*◌, ◌%◌, ◌≤◌, ◌<◌}
use native.Mathlib.Decide.{dec_lt, ℕ_discrete}
use native.Mathlib.Nat.{add-sub_cancel_left}
use native.Mathlib.Omega.{arith}
use borrow.Author.Tests.{eq-eqb, ne_eqb, lt-ltb, le-ltb}
use borrow.Rule.Slice.PartMut.{put_mid}
use lib.Arith.{lt_of_le-ne}
use lib.Dec.{ltb}
use lib.ListN.{length}
use Rattle.pauli.specs.Pauli.{Pauli, has_x, has_z, mul, phases, clashes}
use Rattle.encoding.specs.Limits.{max_qubits, max_rows, words_of}
use Rattle.encoding.specs.Words.{unpack, pack}
use Rattle.encoding.specs.Set.{part, row, Mem, mem_of, count, phase_units, exponent_at, with_exponent, Sound}
use Rattle.encoding.specs.Refusals.{out_lines}
use Rattle.encoding.specs.Ranks.{by_rank}
use Rattle.encoding.proofs.Sets.{shape_of}
use Rattle.encoding.proofs.Parts.{row-end, row-long}
use Rattle.encoding.proofs.Memory.{mem-eq}
use Rattle.encoding.proofs.Exponents.{laid-long}
use Rattle.encoding.proofs.Reading.{length-pack}
use Rattle.products.specs.Leaves.{Outside, inside, ProductIn}
use Rattle.products.specs.declared.Factor.{Factor}
use Rattle.products.proofs.InPlace.{inside_is}
use Rattle.products.proofs.PartLaws.{part-put, outside-put, put_is}
use Rattle.terms.specs.Workers.{both_in, put_row, mul_in, clashes_in, InRows, RowsMultiplied}

-- ---- both rows lie inside

module _ {w a b : ℕ} {M : Mem} (h : InRows w a b M) where
  rows_apart : (a * w ≡ b * w) ⊎ ((a * w + w ≤ b * w) ⊎ (b * w + w ≤ a * w))
  rows_apart = go (ℕ_discrete a b) (dec_lt a b)
    where
      go : Dec (a ≡ b) → Dec (a < b) → (a * w ≡ b * w) ⊎ ((a * w + w ≤ b * w) ⊎ (b * w + w ≤ a * w))
      go (yes e) d = inl (ap (λ k. k * w) e)
      go (no e) (yes l) = inr (inl (row-end a w l))
      go (no e) (no l) = inr (inr (row-end b w (lt_of_le-ne (omega arith) (λ q. e (sym q)))))

  pub rows_inside : inside w (a * w) (b * w) M.xs M.zs ≡ true
  rows_inside =
      inside_is w (a * w) (b * w) M.xs M.zs
      (record {
        s-x = omega (arith, row-end a w h.a_in, h.x-long);
        s-z = omega (arith, row-end a w h.a_in, h.z-long);
        t-x = omega (arith, row-end b w h.b-in, h.x-long);
        t-z = omega (arith, row-end b w h.b-in, h.z-long);
        apart = rows_apart;
      })

  -- what the leaf and the exponent written leave
  pub rows-multiplied : {xs' zs' : List ℕ} {e : Factor} {p : List ℕ} → ProductIn w (a * w) (b * w) M.xs M.zs xs' zs' e → p ≡ with_exponent M.es a ((exponent_at M.es a + exponent_at M.es b + e.phase.0) % 4)
      → (m : ℕ) → m ≡ count M → RowsMultiplied w a b M (mem_of m xs' zs' p) e.clashes
  rows-multiplied {xs'} {zs'} {e} q f m l = record { factor = e; words = q.done rows_inside; many = l; exponents = f; number = refl }

pub in_rows : (n : ℕ) (M : Mem) (w a b : ℕ) → w ≡ words_of n → by_rank (out_lines n M) ≡ 0 → a < count M → b < count M → InRows w a b M
in_rows n M w a b hw e ha hb =
    let s = shape_of n M e in
    record {
      few = s.few-rows;
      narrow = omega (arith, s.few-qubits);
      x-long = s.x-long ∙ ap (λ k. count M * k) (sym hw);
      z-long = s.z-long ∙ ap (λ k. count M * k) (sym hw);
      a_in = ha;
      b-in = hb;
    }

-- ---- `mul_in`: nothing where not both are in

module _ (n a b : ℕ) (M : Mem) where
  stays : both_in n M a b ≡ false → (M ≡ mul_in n a b M) × (0 ≡ clashes_in n a b M)
  unfolding mul_in clashes_in
  stays e =
      let w = words_of n in
      let A = unpack (row w a M.xs) (row w a M.zs) in
      let B = unpack (row w b M.xs) (row w b M.zs) in
      (sym (ap (λ t. cond t (mem_of (count M) (put_row w a (pack has_x w (mul A B)) M.xs) (put_row w a (pack has_z w (mul A B)) M.zs) (with_exponent M.es a ((exponent_at M.es a + exponent_at M.es b + phases A B) % 4))) M) e), sym (ap (λ t. cond t (clashes A B % 65536) 0) e))

  pub no-shape : (by_rank (out_lines n M) ≡ 0 → ⊥) → (M ≡ mul_in n a b M) × (0 ≡ clashes_in n a b M)
  no-shape ne = stays (ap (λ t. t && (ltb a (count M) && ltb b (count M))) (ne_eqb _ 0 ne))

  pub no-a : by_rank (out_lines n M) ≡ 0 → count M ≤ a → (M ≡ mul_in n a b M) × (0 ≡ clashes_in n a b M)
  no-a e h = stays (ap₂ (λ s t. s && (t && ltb b (count M))) (eq-eqb _ 0 e) (le-ltb a (count M) h))

  pub no-b : by_rank (out_lines n M) ≡ 0 → a < count M → count M ≤ b → (M ≡ mul_in n a b M) × (0 ≡ clashes_in n a b M)
  no-b e g h = stays (ap₂ (λ s t. s && t) (eq-eqb _ 0 e) (ap₂ (λ s t. s && t) (lt-ltb a (count M) g) (le-ltb b (count M) h)))

-- ---- and the product where both are

module _ (n a b : ℕ) (M : Mem) (e : by_rank (out_lines n M) ≡ 0) (ha : a < count M) (hb : b < count M) where
  both : both_in n M a b ≡ true
  both = ap₂ (λ s t. s && t) (eq-eqb _ 0 e) (ap₂ (λ s t. s && t) (lt-ltb a (count M) ha) (lt-ltb b (count M) hb))

  pub clashes-in : clashes_in n a b M ≡ clashes (unpack (row (words_of n) a M.xs) (row (words_of n) a M.zs)) (unpack (row (words_of n) b M.xs) (row (words_of n) b M.zs)) % 65536
  unfolding clashes_in
  clashes-in =
      let w = words_of n in
      ap (λ t. cond t (clashes (unpack (row w a M.xs) (row w a M.zs)) (unpack (row w b M.xs) (row w b M.zs)) % 65536) 0) both

  pub becomes : (w : ℕ) → w ≡ words_of n → {M' : Mem} {c : ℕ} → RowsMultiplied w a b M M' c → (M' ≡ mul_in n a b M) × (c ≡ clashes_in n a b M)
  unfolding mul_in
  becomes w hw {M'} {c} q =
      let v = words_of n in
      let A = unpack (row v a M.xs) (row v a M.zs) in
      let B = unpack (row v b M.xs) (row v b M.zs) in
      let q' : RowsMultiplied v a b M M' c = subst (λ k. RowsMultiplied k a b M M' c) hw q in
      let P = q'.words.here in
      let l : length (row v a M.xs) ≡ v = row-long (count M) v a M.xs ha (shape_of n M e).x-long in
      let product-now : M' ≡ mem_of (count M) (put_row v a (pack has_x v (mul A B)) M.xs) (put_row v a (pack has_z v (mul A B)) M.zs) (with_exponent M.es a ((exponent_at M.es a + exponent_at M.es b + phases A B) % 4))
      = mem-eq
      q'.many
      (put_is (a * v) v q'.words.x-rest ∙ ap (put_mid (a * v) v M.xs) (P.x-words ∙ ap (λ k. pack has_x k (mul A B)) l))
      (put_is (a * v) v q'.words.z-rest ∙ ap (put_mid (a * v) v M.zs) (P.z-words ∙ ap (λ k. pack has_z k (mul A B)) l))
      (q'.exponents ∙ ap (with_exponent M.es a) (omega (arith, P.factor.exponent))) in (
        product-now ∙ sym (ap (λ t. cond t (mem_of (count M) (put_row v a (pack has_x v (mul A B)) M.xs) (put_row v a (pack has_z v (mul A B)) M.zs) (with_exponent M.es a ((exponent_at M.es a + exponent_at M.es b + phases A B) % 4))) M) both),
        q'.number ∙ P.factor.number ∙ sym clashes-in,
      )

  -- and the other way: what `mul_in` says is the product
  pub mul-in-is : RowsMultiplied (words_of n) a b M (mul_in n a b M) (clashes (unpack (row (words_of n) a M.xs) (row (words_of n) a M.zs)) (unpack (row (words_of n) b M.xs) (row (words_of n) b M.zs)) % 65536)
  unfolding mul_in
  mul-in-is =
      let w = words_of n in
      let s = a * w in
      let A = unpack (row w a M.xs) (row w a M.zs) in
      let B = unpack (row w b M.xs) (row w b M.zs) in
      let sh = shape_of n M e in
      let end = row-end a w ha in
      let l : length (row w a M.xs) ≡ w = row-long (count M) w a M.xs ha sh.x-long in
      let cancel : s + w - s ≡ w = add-sub_cancel_left s w in
      let at : (f : Pauli → Bool) (us : List ℕ) → length us ≡ count M * w → part s (s + w) (put_mid s w us (pack f w (mul A B))) ≡ pack f (length (row w a M.xs)) (mul A B)
      = λ f us h. ap (λ k. part s (s + w) (put_mid s k us (pack f w (mul A B)))) (sym cancel)
      ∙ part-put s (s + w) us (pack f w (mul A B)) (omega arith) (omega (arith, end)) (length-pack f w (mul A B) ∙ sym cancel)
      ∙ ap (λ k. pack f k (mul A B)) (sym l) in
      let out : (f : Pauli → Bool) (us : List ℕ) → length us ≡ count M * w → Outside s (s + w) us (put_mid s w us (pack f w (mul A B)))
      = λ f us h. subst (λ k. Outside s (s + w) us (put_mid s k us (pack f w (mul A B)))) cancel
      (outside-put s (s + w) us (pack f w (mul A B)) (omega arith) (omega (arith, end)) (length-pack f w (mul A B) ∙ sym cancel)) in
      let N = mem_of (count M) (put_row w a (pack has_x w (mul A B)) M.xs) (put_row w a (pack has_z w (mul A B)) M.zs) (with_exponent M.es a ((exponent_at M.es a + exponent_at M.es b + phases A B) % 4)) in
      subst (λ t. RowsMultiplied w a b M (cond t N M) (clashes A B % 65536)) (sym both)
      (record {
        factor = record { phase = record { 0 = phases A B % 4 }; clashes = clashes A B % 65536 };
        words =
            record {
              here = record { x-words = at has_x M.xs sh.x-long; z-words = at has_z M.zs sh.z-long; factor = record { exponent = refl; number = refl } };
              x-rest = out has_x M.xs sh.x-long;
              z-rest = out has_z M.zs sh.z-long;
            };
        many = refl;
        exponents = ap (with_exponent M.es a) (omega arith);
        number = refl;
      })

-- a row set within the limits has the shape
pub shape_is : {n : ℕ} {M : Mem} → Sound n M → by_rank (out_lines n M) ≡ 0
unfolding by_rank
shape_is {n} {M} s =
    let w = words_of n in
    simp (le-ltb max_qubits n s.few-qubits, le-ltb max_rows (count M) s.few-rows, eq-eqb (length M.xs) (count M * w) s.valid.x-long, eq-eqb (length M.zs) (count M * w) s.valid.z-long, eq-eqb (length M.es) (phase_units (count M)) (laid-long (count M) s.valid.exponents))
