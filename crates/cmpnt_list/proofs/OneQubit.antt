-- One qubit of one row was set: the memory is the one laid from the rows with that qubit set. In the row's own words every other bit is as it was, and no other
-- row's words are written (`qubit-written`). Assumes nothing.
use mathlib.Core.Path.{◌≡◌, refl, sym, ap, ◌∙◌, subst, fun_ext}
use mathlib.Core.Bool.{Bool, true, false, cond}
use mathlib.Core.List.{List}
use Prim.Native.Nat.{ℕ, ◌+◌, ◌-◌, ◌*◌, ◌/◌, ◌≤◌, ◌<◌}
use native.Mathlib.Decide.{ℕ_discrete}
use native.Mathlib.Omega.{arith}
use borrow.Author.Tests.{eq-eqb, ne_eqb}
use lib.Dec.{eqb}
use borrow.Rule.Slice.PartMut.{put_mid}
use lib.ListN.{length, get_or, set, length-set}
use lib.Seq.{ext_get_or, get_or-take, get_or-drop, get_or-set_same, get_or-set_other}
use Rattle.pauli.specs.Pauli.{Pauli, has_x, has_z}
use Rattle.pauli.specs.declared.PauliMatrix.TheVariants.{I}
use Rattle.pauli.specs.Row.{Row}
use Rattle.pauli.specs.Rows.{with_qubit}
use Rattle.encoding.specs.Words.{unpack, qubits, pack, lay_rows}
use Rattle.encoding.specs.Set.{part, row, Mem, mem_of, bare, count, list, exponent_at, lay_exponents, rows_held, lay_in, QubitSet, Valid}
use Rattle.encoding.proofs.WordLaws.{Fit}
use Rattle.encoding.proofs.Padding.{Clean}
use Rattle.encoding.proofs.Qubits.{read_back, others_same}
use Rattle.encoding.proofs.Reading.{length-qubits}
use Rattle.encoding.proofs.Parts.{fit-part}
use Rattle.encoding.proofs.Memory.{mem-eq, packed-of, clean, x-row, z-row}
use Rattle.encoding.proofs.Exponents.{laid_as}
use Rattle.encoding.proofs.Sets.{laid_by}
use Rattle.products.specs.Leaves.{Outside}
use Rattle.products.proofs.PartLaws.{row_other}
use Rattle.cmpnt_list.specs.Workers.{RowAt}
use Rattle.cmpnt_list.proofs.Views.{part-is, put-row, put_rest}

-- ---- a row's two parts: n qubits in w words each

module _ (n w q : ℕ) (p : Pauli) {X Z px pz : List ℕ} (wide : n ≤ w * 64) (hq : q < n) (lx : length X ≡ w) (lz : length Z ≡ w)
    (kx : length px ≡ w) (kz : length pz ≡ w) (cl : Clean n X Z) (s : QubitSet q p X Z px pz) where
  in-x : q / 64 < length X
  in-x = omega arith

  in-z : q / 64 < length Z
  in-z = omega arith

  set-clean : Clean n px pz
  set-clean k =
      get_or-drop n (unpack px pz) k I
      ∙ others_same q p X Z in-x in-z s (n + k) (λ e. omega arith)
      ∙ sym (get_or-drop n (unpack X Z) k I)
      ∙ cl k

  set-qubits : qubits n px pz ≡ set (qubits n X Z) q p
  set-qubits =
      ext_get_or I (qubits n px pz) (set (qubits n X Z) q p) (new ∙ sym (length-set (qubits n X Z) q p ∙ old))
      (λ k h. at k (subst (λ (j : ℕ). k < j) new h) (ℕ_discrete k q))
    where
      new : length (qubits n px pz) ≡ n
      new = length-qubits n px pz (kz ∙ sym kx) (subst (λ (j : ℕ). n ≤ j * 64) (sym kx) wide)

      old : length (qubits n X Z) ≡ n
      old = length-qubits n X Z (lz ∙ sym lx) (subst (λ (j : ℕ). n ≤ j * 64) (sym lx) wide)

      at : (k : ℕ) → k < n → Dec (k ≡ q) → get_or (qubits n px pz) k I ≡ get_or (set (qubits n X Z) q p) k I
      at k h (yes e) =
          get_or-take n (unpack px pz) k I h
          ∙ ap (λ (j : ℕ). get_or (unpack px pz) j I) e
          ∙ read_back q p X Z in-x in-z s
          ∙ sym (ap (λ (j : ℕ). get_or (set (qubits n X Z) q p) j I) e ∙ get_or-set_same (qubits n X Z) q p I (subst (λ (j : ℕ). q < j) (sym old) hq))
      at k h (no ne) =
          get_or-take n (unpack px pz) k I h
          ∙ others_same q p X Z in-x in-z s k ne
          ∙ sym (get_or-set_other (qubits n X Z) q k p I ne ∙ get_or-take n (unpack X Z) k I h)

  pub set-packed : Fit px → Fit pz → (px ≡ pack has_x w (set (qubits n X Z) q p)) × (pz ≡ pack has_z w (set (qubits n X Z) q p))
  set-packed fx fz =
      let k = packed-of n w kx kz fx fz set-clean in
      (k.x-is ∙ ap (pack has_x w) set-qubits, k.z-is ∙ ap (pack has_z w) set-qubits)

-- ---- the set

pub with-here : (σ : ℕ → Row) (r q : ℕ) (p : Pauli) (k : ℕ) → k ≡ r → with_qubit σ r q p k ≡ record { ps = set (σ r).ps q p; p = (σ r).p }
unfolding with_qubit
with-here σ r q p k e = ap (λ (b : Bool). cond b (record { ps = set (σ r).ps q p; p = (σ r).p }) (σ k)) (eq-eqb k r e)

pub with-other : (σ : ℕ → Row) (r q : ℕ) (p : Pauli) (k : ℕ) → (k ≡ r → ⊥) → with_qubit σ r q p k ≡ σ k
unfolding with_qubit
with-other σ r q p k ne = ap (λ (b : Bool). cond b (record { ps = set (σ r).ps q p; p = (σ r).p }) (σ k)) (ne_eqb k r ne)

module _ (n w : ℕ) {M : Mem} (v : Valid n w M) (r q : ℕ) (p : Pauli) (hr : r < count M) (hq : q < n) where
  σ : ℕ → Row
  σ = rows_held n w M

  module _ {xs' zs' : List ℕ} (ox : Outside (r * w) (r * w + w) M.xs xs') (oz : Outside (r * w) (r * w + w) M.zs zs')
      (here : (row w r xs' ≡ pack has_x w (set (σ r).ps q p)) × (row w r zs' ≡ pack has_z w (set (σ r).ps q p))) where
    one-row : mem_of (count M) xs' zs' M.es ≡ lay_in w (count M) (with_qubit (rows_held n w M) r q p)
    unfolding σ rows_held
    one-row =
        laid_by
        (record { x-long = ox.long ∙ v.x-long; z-long = oz.long ∙ v.z-long; x-row = λ k h. xr k h (ℕ_discrete k r); z-row = λ k h. zr k h (ℕ_discrete k r) })
        (laid_as (count M) v.exponents (λ k. (with_qubit (rows_held n w M) r q p k).p) (λ k h. br k (ℕ_discrete k r)))
      where
        xr : (k : ℕ) → k < count M → Dec (k ≡ r) → row w k xs' ≡ pack has_x w (with_qubit (rows_held n w M) r q p k).ps
        xr k h (yes e) = ap (λ (j : ℕ). row w j xs') e ∙ here.0 ∙ ap (λ (x : Row). pack has_x w x.ps) (sym (with-here (rows_held n w M) r q p k e))
        xr k h (no ne) = row_other w k r ox ne ∙ (v.packed k h).x-is ∙ ap (λ (x : Row). pack has_x w x.ps) (sym (with-other (rows_held n w M) r q p k ne))

        zr : (k : ℕ) → k < count M → Dec (k ≡ r) → row w k zs' ≡ pack has_z w (with_qubit (rows_held n w M) r q p k).ps
        zr k h (yes e) = ap (λ (j : ℕ). row w j zs') e ∙ here.1 ∙ ap (λ (x : Row). pack has_z w x.ps) (sym (with-here (rows_held n w M) r q p k e))
        zr k h (no ne) = row_other w k r oz ne ∙ (v.packed k h).z-is ∙ ap (λ (x : Row). pack has_z w x.ps) (sym (with-other (rows_held n w M) r q p k ne))

        br : (k : ℕ) → Dec (k ≡ r) → exponent_at M.es k ≡ (with_qubit (rows_held n w M) r q p k).p
        br k (yes e) = ap (exponent_at M.es) e ∙ ap (λ (x : Row). x.p) (sym (with-here (rows_held n w M) r q p k e))
        br k (no ne) = ap (λ (x : Row). x.p) (sym (with-other (rows_held n w M) r q p k ne))

  -- as the code does it: the two parts of the row are lent, and put back
  pub qubit-written : {a e : ℕ} → RowAt r w (count M) a e → (px pz : List ℕ)
      → length px ≡ length (part a e M.xs) → length pz ≡ length (part a e M.zs)
      → Fit (put_mid a (e - a) M.xs px) → Fit (put_mid a (e - a) M.zs pz)
      → QubitSet q p (part a e M.xs) (part a e M.zs) px pz
      → mem_of (count M) (put_mid a (e - a) M.xs px) (put_mid a (e - a) M.zs pz) M.es ≡ lay_in w (count M) (with_qubit (rows_held n w M) r q p)
  unfolding σ rows_held
  qubit-written {a} {e} at px pz kx kz fx fz s =
      let lx : length (row w r M.xs) ≡ w = x-row n w v r hr in
      let lz : length (row w r M.zs) ≡ w = z-row n w v r hr in
      let hx = put-row at M.xs px v.x-long kx in
      let hz = put-row at M.zs pz v.z-long kz in
      let s' : QubitSet q p (row w r M.xs) (row w r M.zs) px pz =
      subst (λ (u : List ℕ). QubitSet q p u (row w r M.zs) px pz) (part-is at M.xs)
      (subst (λ (u : List ℕ). QubitSet q p (part a e M.xs) u px pz) (part-is at M.zs) s) in
      let k = set-packed n w q p v.wide hq lx lz (kx ∙ ap length (part-is at M.xs) ∙ lx) (kz ∙ ap length (part-is at M.zs) ∙ lz) (clean n w v r hr) s'
      (subst Fit hx (fit-part (r * w) (r * w + w) (put_mid a (e - a) M.xs px) fx)) (subst Fit hz (fit-part (r * w) (r * w + w) (put_mid a (e - a) M.zs pz) fz)) in
      one-row (put_rest at M.xs px v.x-long kx) (put_rest at M.zs pz v.z-long kz) (hx ∙ k.0, hz ∙ k.1)

-- ---- the exponents are as they were

either-ps : (b : Bool) (x y x' y' : Row) → x.ps ≡ x'.ps → y.ps ≡ y'.ps → (cond b x y).ps ≡ (cond b x' y').ps
either-ps true x y x' y' e d = e
either-ps false x y x' y' e d = d

module _ (n w : ℕ) {M : Mem} (v : Valid n w M) (r q : ℕ) (p : Pauli) where
  kept : (k : ℕ) → Dec (k ≡ r) → exponent_at M.es k ≡ (with_qubit (rows_held n w M) r q p k).p
  unfolding rows_held
  kept k (yes e) = ap (exponent_at M.es) e ∙ ap (λ (x : Row). x.p) (sym (with-here (rows_held n w M) r q p k e))
  kept k (no ne) = ap (λ (x : Row). x.p) (sym (with-other (rows_held n w M) r q p k ne))

  pub with-exponents : {xs' zs' : List ℕ}
      → bare M.m xs' zs' ≡ lay_in w M.m (with_qubit (rows_held n w (bare M.m M.xs M.zs)) r q p)
      → mem_of M.m xs' zs' M.es ≡ lay_in w M.m (with_qubit (rows_held n w M) r q p)
  unfolding lay_in rows_held with_qubit
  with-exponents {xs'} {zs'} e =
      let m = M.m in
      let S = rows_held n w (bare m M.xs M.zs) in
      let T = rows_held n w M in
      let ps : ◌≡◌ {A = ℕ → List Pauli} (λ k. (with_qubit S r q p k).ps) (λ k. (with_qubit T r q p k).ps) = fun_ext (λ k. either-ps (eqb k r) (record { ps = set (S r).ps q p; p = (S r).p }) (S k) (record { ps = set (T r).ps q p; p = (T r).p }) (T k) refl refl) in
      mem-eq
      refl
      (ap (λ (N : Mem). N.xs) e ∙ ap (λ (f : ℕ → List Pauli). lay_rows has_x w (list m f)) ps)
      (ap (λ (N : Mem). N.zs) e ∙ ap (λ (f : ℕ → List Pauli). lay_rows has_z w (list m f)) ps)
      (v.exponents ∙ ap (lay_exponents m) (fun_ext (λ k. kept k (ℕ_discrete k r))))
