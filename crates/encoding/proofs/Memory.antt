-- A row set in memory. What refusals 1 to 5 leave is a row set; laying back what was read gives the same words; reading what was laid gives the
-- rows. Assumes nothing.
use mathlib.Core.Path.{◌≡◌, refl, sym, ap, ap₂, ◌∙◌, subst}
use mathlib.Core.Bool.{Bool, false}
use mathlib.Core.List.{List}
use Prim.Native.Nat.{ℕ, ◌+◌, ◌*◌, ◌≤◌, ◌<◌}
use native.Mathlib.Decide.{dec_lt}
use native.Mathlib.Omega.{arith}
use borrow.Author.Tests.{ltb-false}
use lib.ListN.{length, get_or, take, drop, get_or-eq_default}
use lib.Seq.{get_or-drop}
use Rattle.pauli.specs.Pauli.{Pauli, has_x, has_z}
use Rattle.pauli.specs.declared.PauliMatrix.TheVariants.{I}
use Rattle.pauli.specs.Row.{Row}
use Rattle.pauli.proofs.RowLaws.{row-eq}
use Rattle.encoding.specs.Limits.{max_qubits, max_rows, words_of}
use Rattle.encoding.specs.Words.{unpack, qubits, pack, lay_rows}
use Rattle.encoding.specs.Set.{row, Mem, count, exponent_at, lay_exponents, rows_held, list, lay_in, bare, Packed, Valid, Sound}
use Rattle.encoding.specs.Refusals.{some, is_on, bad_bits, set_lines}
use Rattle.encoding.specs.Ranks.{by_rank}
use Rattle.encoding.proofs.WordLaws.{Fit, pack-x, pack-z}
use Rattle.encoding.proofs.Padding.{Clean, pack-cut}
use Rattle.encoding.proofs.Reading.{length-qubits, length-unpack, length-pack, qubits-pack, unpack-same}
use Rattle.encoding.proofs.Parts.{row-long, fit-part, rows_ext, row-lay-list, length-lay-list}
use Rattle.encoding.proofs.Scan.{any_none}
use Rattle.encoding.proofs.Spare.{off-all}
use Rattle.encoding.proofs.Faults.{set-lengths}
use Rattle.encoding.proofs.Ranks.{none-holds}
use Rattle.encoding.proofs.Exponents.{laid_from, laid-again, exponent-laid, spare-none}

-- ---- a row is packed when its words fit and its bits at n and above are zero

pub packed-of : (n w : ℕ) {xs zs : List ℕ} → length xs ≡ w → length zs ≡ w → Fit xs → Fit zs → Clean n xs zs → Packed n w xs zs
packed-of n w {xs} {zs} hx hz fx fz c =
    let u = unpack xs zs in
    let at : (f : Pauli → Bool) → f I ≡ false → pack f (length xs) u ≡ pack f w (take n u) =
    λ f f0. ap (λ (k : ℕ). pack f k u) hx ∙ sym (pack-cut f I f0 w n u c) in
    record {
      x-is = sym (pack-x xs zs (hz ∙ sym hx) fx) ∙ at has_x refl;
      z-is = sym (pack-z xs zs (hz ∙ sym hx) fz) ∙ at has_z refl;
    }

clean-pack : (n w : ℕ) (Q : List Pauli) → length Q ≡ n → n ≤ w * 64 → Clean n (pack has_x w Q) (pack has_z w Q)
clean-pack n w Q e h k = get_or-drop n u k I ∙ go (dec_lt (n + k) (w * 64))
  where
    u : List Pauli
    u = unpack (pack has_x w Q) (pack has_z w Q)

    lu : length u ≡ w * 64
    lu = length-unpack (pack has_x w Q) (pack has_z w Q) (length-pack has_z w Q ∙ sym (length-pack has_x w Q)) ∙ ap (λ (m : ℕ). m * 64) (length-pack has_x w Q)

    go : Dec (n + k < w * 64) → get_or u (n + k) I ≡ I
    go (yes l) = unpack-same w Q (omega arith) (n + k) l ∙ get_or-eq_default Q I (omega arith)
    go (no l) = get_or-eq_default u I (omega (arith, lu))

pub clean_of : (n w : ℕ) {xs zs : List ℕ} → length (qubits n xs zs) ≡ n → n ≤ w * 64 → Packed n w xs zs → Clean n xs zs
clean_of n w {xs} {zs} e h p =
    subst (λ (u : List ℕ). Clean n u zs) (sym p.x-is) (subst (λ (v : List ℕ). Clean n (pack has_x w (qubits n xs zs)) v) (sym p.z-is) (clean-pack n w (qubits n xs zs) e h))

-- ---- what refusals 1 to 5 leave

pub valid-of : (n : ℕ) (M : Mem) → Fit M.xs → Fit M.zs → Fit M.es → by_rank (set_lines n M) ≡ 0 → Valid n (words_of n) M
unfolding bad_bits
valid-of n M fx fz fe e =
    let m = count M in
    let w = words_of n in
    let no = none-holds (set_lines n M) refl e in
    let l = set-lengths w M (no 2) in
    let clean : (r : ℕ) → r < m → Clean n (row w r M.xs) (row w r M.zs) =
    λ r h. off-all (drop n (unpack (row w r M.xs) (row w r M.zs))) (any_none (λ r. some is_on (drop n (unpack (row w r M.xs) (row w r M.zs)))) m r (no 3) h) in
    record {
      wide = omega arith;
      x-long = l.0;
      z-long = l.1;
      packed = λ r h. packed-of n w (row-long m w r M.xs h l.0) (row-long m w r M.zs h l.1) (fit-part (r * w) (r * w + w) M.xs fx) (fit-part (r * w) (r * w + w) M.zs fz) (clean r h);
      exponents = laid_from m (exponent_at M.es) l.2 fe (λ k h. refl) (spare-none M.es l.2 (no 4));
    }

-- the limits, from the same
pub within-limits : (n : ℕ) (M : Mem) → by_rank (set_lines n M) ≡ 0 → (n ≤ max_qubits) × (count M ≤ max_rows)
within-limits n M e =
    let no = none-holds (set_lines n M) refl e in
    (ltb-false max_qubits n (no 0), ltb-false max_rows (count M) (no 1))

-- ---- the rows of a set

pub mem-eq : {M N : Mem} → M.m ≡ N.m → M.xs ≡ N.xs → M.zs ≡ N.zs → M.es ≡ N.es → M ≡ N
mem-eq {M} {N} o p q r = λ i. record { m = o i; xs = p i; zs = q i; es = r i }

module _ (n w : ℕ) {M : Mem} (v : Valid n w M) where
  pub x-row : (r : ℕ) → r < count M → length (row w r M.xs) ≡ w
  x-row r h = row-long (count M) w r M.xs h v.x-long

  pub z-row : (r : ℕ) → r < count M → length (row w r M.zs) ≡ w
  z-row r h = row-long (count M) w r M.zs h v.z-long

  -- reading gives n Paulis for each row
  pub row_count : (r : ℕ) → r < count M → length (qubits n (row w r M.xs) (row w r M.zs)) ≡ n
  row_count r h =
      length-qubits n (row w r M.xs) (row w r M.zs) (z-row r h ∙ sym (x-row r h)) (subst (λ (k : ℕ). n ≤ k * 64) (sym (x-row r h)) v.wide)

  pub clean : (r : ℕ) → r < count M → Clean n (row w r M.xs) (row w r M.zs)
  clean r h = clean_of n w (row_count r h) v.wide (v.packed r h)

  -- laying back what was read gives the same words
  pub lay-back : lay_in w (count M) (rows_held n w M) ≡ M
  unfolding lay_in rows_held
  lay-back =
      let m = count M in
      let qs : ℕ → List Pauli = λ k. qubits n (row w k M.xs) (row w k M.zs) in
      mem-eq
      refl
      (rows_ext m w (lay_rows has_x w (list m qs)) M.xs (length-lay-list has_x w m qs) v.x-long (λ r h. row-lay-list has_x w m qs r h ∙ sym (v.packed r h).x-is))
      (rows_ext m w (lay_rows has_z w (list m qs)) M.zs (length-lay-list has_z w m qs) v.z-long (λ r h. row-lay-list has_z w m qs r h ∙ sym (v.packed r h).z-is))
      (sym v.exponents)

-- the memory that holds given rows is the one laid from them
pub laid : (n w : ℕ) {M : Mem} {σ : ℕ → Row} → Valid n w M → rows_held n w M ≡ σ → M ≡ lay_in w (count M) σ
laid n w {M} {σ} v e = sym (lay-back n w v) ∙ ap (lay_in w (count M)) e

-- ---- reading what was laid

-- rows of n qubits with exponents below 4
pub record Proper (n m : ℕ) (σ : ℕ → Row) : Type 0 where
  pub long : (r : ℕ) → r < m → length (σ r).ps ≡ n
  pub small : (r : ℕ) → r < m → (σ r).p < 4

module _ (n w m : ℕ) (σ : ℕ → Row) (wide : n ≤ w * 64) where
  x-laid : (r : ℕ) → r < m → row w r (lay_in w m σ).xs ≡ pack has_x w (σ r).ps
  unfolding lay_in
  x-laid r h = row-lay-list has_x w m (λ k. (σ k).ps) r h

  z-laid : (r : ℕ) → r < m → row w r (lay_in w m σ).zs ≡ pack has_z w (σ r).ps
  unfolding lay_in
  z-laid r h = row-lay-list has_z w m (λ k. (σ k).ps) r h

  lays-x : length (lay_in w m σ).xs ≡ m * w
  unfolding lay_in
  lays-x = length-lay-list has_x w m (λ k. (σ k).ps)

  lays-z : length (lay_in w m σ).zs ≡ m * w
  unfolding lay_in
  lays-z = length-lay-list has_z w m (λ k. (σ k).ps)

  pub count-lay : count (lay_in w m σ) ≡ m
  unfolding lay_in
  count-lay = refl

  p-laid : (r : ℕ) → r < m → (σ r).p < 4 → exponent_at (lay_in w m σ).es r ≡ (σ r).p
  unfolding lay_in
  p-laid r h s = exponent-laid m (λ k. (σ k).p) r h s

  e-laid : (lay_in w m σ).es ≡ lay_exponents (lay_in w m σ).m (exponent_at (lay_in w m σ).es)
  unfolding lay_in
  e-laid = laid-again m (λ k. (σ k).p)

  qubits-laid : (r : ℕ) → r < m → length (σ r).ps ≡ n → qubits n (row w r (lay_in w m σ).xs) (row w r (lay_in w m σ).zs) ≡ (σ r).ps
  qubits-laid r h l = ap₂ (qubits n) (x-laid r h) (z-laid r h) ∙ qubits-pack n w (σ r).ps l wide

  pub read-lay : (r : ℕ) → r < m → length (σ r).ps ≡ n → (σ r).p < 4 → rows_held n w (lay_in w m σ) r ≡ σ r
  unfolding rows_held
  read-lay r h l s = row-eq (qubits-laid r h l) (p-laid r h s)

  pub valid-lay : Proper n m σ → Valid n w (lay_in w m σ)
  valid-lay p =
      record {
        wide = wide;
        x-long = lays-x ∙ ap (λ (k : ℕ). k * w) (sym count-lay);
        z-long = lays-z ∙ ap (λ (k : ℕ). k * w) (sym count-lay);
        packed = λ r h. pk r (subst (λ (k : ℕ). r < k) count-lay h);
        exponents = e-laid;
      }
    where
      pk : (r : ℕ) → r < m → Packed n w (row w r (lay_in w m σ).xs) (row w r (lay_in w m σ).zs)
      pk r h =
          record {
            x-is = x-laid r h ∙ ap (pack has_x w) (sym (qubits-laid r h (p.long r h)));
            z-is = z-laid r h ∙ ap (pack has_z w) (sym (qubits-laid r h (p.long r h)));
          }

-- ---- the bits alone

pub bare-valid : (n w : ℕ) {M : Mem} → Valid n w M → Valid n w (bare M.m M.xs M.zs)
bare-valid n w {M} v =
    record {
      wide = v.wide;
      x-long = v.x-long;
      z-long = v.z-long;
      packed = v.packed;
      exponents = laid-again M.m (λ _. 0);
    }

pub bare-sound : {n : ℕ} {M : Mem} → Sound n M → Sound n (bare M.m M.xs M.zs)
bare-sound {n} s = record { valid = bare-valid n (words_of n) s.valid; few-qubits = s.few-qubits; few-rows = s.few-rows }
