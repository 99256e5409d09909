-- A row of a set is multiplied by a row of another set: words below i of the target's part are the product's, and all else is as it was (`From`). The part that is
-- read lies before the target's or is it, so word i of it is still the old one when it is its turn. Assumes nothing.
use mathlib.Core.Path.{◌≡◌, refl, sym, ap, ◌∙◌, subst}
use mathlib.Core.Logic.{⊎_elim}
use mathlib.Core.List.{List, ◌++◌}
use Prim.Native.Nat.{ℕ, ◌+◌, ◌-◌, ◌*◌, ◌%◌, ◌^◌, ◌≤◌, ◌<◌, zero-le}
use native.Mathlib.Nat.{add-sub_cancel_left, le-add_right}
use native.Mathlib.Omega.{arith}
use lib.Bits.{bit_xor}
use lib.Count.{ones}
use lib.ListN.{length, get_or, take, drop, set, length-set}
use lib.Seq.{take-set-lt, drop-set-add, take-set-le, drop-set-lt}
use Rattle.pauli.specs.Pauli.{phases, clashes}
use Rattle.encoding.specs.Words.{word}
use Rattle.encoding.specs.Set.{part}
use Rattle.products.specs.Leaves.{SameLength, Outside}
use Rattle.products.specs.declared.Factor.{Factor}
use Rattle.encoding.proofs.WordLaws.{Fit, xors}
use Rattle.encoding.proofs.Parts.{length_part, get_d_part, fit-part}
use Rattle.products.proofs.RowLaws.{Done, done_none, done_more, done_all, length-xors, front_at}
use Rattle.products.proofs.PartLaws.{part-below}
use Rattle.late.specs.Workers.{RoomBy, MultipliedBy}

part-set : (a w : ℕ) (xs : List ℕ) (i v : ℕ) → i < w → part a (a + w) (set xs (a + i) v) ≡ set (part a (a + w) xs) i v
part-set a w xs i v h = ap (take (a + w - a)) (drop-set-add a xs i v) ∙ take-set-lt (a + w - a) (drop a xs) i v (omega arith)

outside_set : {a w : ℕ} {old new : List ℕ} (i v : ℕ) → Outside a (a + w) old new → i < w → Outside a (a + w) old (set new (a + i) v)
outside_set {a} {w} {old} {new} i v o h =
    record {
      long = length-set new (a + i) v ∙ o.long;
      before = take-set-le a new (a + i) v (le-add_right a i) ∙ o.before;
      after = drop-set-lt (a + w) new (a + i) v (omega arith) ∙ o.after;
    }

-- the loop, i words done
pub record From (w d s t : ℕ) (xs₀ zs₀ bx bz xs zs : List ℕ) (n f i : ℕ) : Type 0 where
  pub le : i ≤ w
  pub done : Done (part s (s + w) xs₀) (part s (s + w) zs₀) (part t (t + w) bx) (part t (t + w) bz) (part d (d + w) xs₀) (part d (d + w) zs₀) (part d (d + w) xs) (part d (d + w) zs) n f i
  pub x-rest : Outside d (d + w) xs₀ xs
  pub z-rest : Outside d (d + w) zs₀ zs

module _ {w d s t : ℕ} {xs₀ zs₀ bx bz : List ℕ} (m : RoomBy w d s t xs₀ zs₀ bx bz) where
  long : (a : ℕ) (l : List ℕ) → a + w ≤ length l → length (part a (a + w) l) ≡ w
  long a l h = length_part a (a + w) l (omega arith) h ∙ add-sub_cancel_left a w

  same : SameLength (length (part s (s + w) xs₀)) (part s (s + w) xs₀) (part s (s + w) zs₀) (part t (t + w) bx) (part t (t + w) bz) (part d (d + w) xs₀) (part d (d + w) zs₀)
  same =
      let e = sym (long s xs₀ m.s-x) in
      record { in-lx = refl; in-lz = long s zs₀ m.s-z ∙ e; in-rx = long t bx m.t-x ∙ e; in-rz = long t bz m.t-z ∙ e; in-ox = long d xs₀ m.d-x ∙ e; in-oz = long d zs₀ m.d-z ∙ e }

  pub from-none : From w d s t xs₀ zs₀ bx bz xs₀ zs₀ 0 0 0
  from-none =
      record {
        le = zero-le;
        done = done_none same;
        x-rest = record { long = refl; before = refl; after = refl };
        z-rest = record { long = refl; before = refl; after = refl };
      }

  -- what is read from s on is as it was
  read-s : (i : ℕ) (old new v : List ℕ) → Outside d (d + w) old new → i < w → i ≤ length v → part d (d + w) new ≡ take i v ++ drop i (part d (d + w) old)
      → get_or new (s + i) 0 ≡ get_or (part s (s + w) old) i 0
  read-s i old new v o h k e =
      ⊎_elim
      (λ q. subst (λ j. get_or new (j + i) 0 ≡ get_or (part j (j + w) old) i 0) (sym q) (sym (get_d_part d w new i h) ∙ ap (λ (l : List ℕ). get_or l i 0) e ∙ front_at v (part d (d + w) old) i k))
      (λ q. sym (get_d_part s w new i h) ∙ ap (λ (l : List ℕ). get_or l i 0) (part-below o (omega arith) q))
      m.apart

  pub from_more : {xs zs : List ℕ} {n f i : ℕ} (n' f' : ℕ) → From w d s t xs₀ zs₀ bx bz xs zs n f i → i < w
      → n' ≡ (n + clashes (word 64 (get_or xs (s + i) 0) (get_or zs (s + i) 0)) (word 64 (get_or bx (t + i) 0) (get_or bz (t + i) 0))) % 2 ^ 64
      → (2 * ones f' + clashes (word 64 (get_or xs (s + i) 0) (get_or zs (s + i) 0)) (word 64 (get_or bx (t + i) 0) (get_or bz (t + i) 0))) % 4
      ≡ (2 * ones f + phases (word 64 (get_or xs (s + i) 0) (get_or zs (s + i) 0)) (word 64 (get_or bx (t + i) 0) (get_or bz (t + i) 0))) % 4
      → From w d s t xs₀ zs₀ bx bz (set xs (d + i) (bit_xor (get_or xs (s + i) 0) (get_or bx (t + i) 0))) (set zs (d + i) (bit_xor (get_or zs (s + i) 0) (get_or bz (t + i) 0))) n' f' (i + 1)
  from_more {xs} {zs} {n} {f} {i} n' f' q h en ef =
      let vx = xors (part s (s + w) xs₀) (part t (t + w) bx) in
      let vz = xors (part s (s + w) zs₀) (part t (t + w) bz) in
      let a = part s (s + w) xs₀ in
      let lx : length a ≡ w = long s xs₀ m.s-x in
      let kx : i ≤ length vx = omega (arith, length-xors (part s (s + w) xs₀) (part t (t + w) bx) same.in-rx) in
      let kz : i ≤ length vz = omega (arith, length-xors (part s (s + w) zs₀) (part t (t + w) bz) (same.in-rz ∙ sym same.in-lz), same.in-lz) in
      let e₁ : get_or xs (s + i) 0 ≡ get_or (part s (s + w) xs₀) i 0 = read-s i xs₀ xs vx q.x-rest h kx q.done.x-words in
      let e₂ : get_or zs (s + i) 0 ≡ get_or (part s (s + w) zs₀) i 0 = read-s i zs₀ zs vz q.z-rest h kz q.done.z-words in
      let e₃ : get_or bx (t + i) 0 ≡ get_or (part t (t + w) bx) i 0 = sym (get_d_part t w bx i h) in
      let e₄ : get_or bz (t + i) 0 ≡ get_or (part t (t + w) bz) i 0 = sym (get_d_part t w bz i h) in
      record {
        le = omega arith;
        done = rw (part-set d w xs i (bit_xor (get_or xs (s + i) 0) (get_or bx (t + i) 0)) h, part-set d w zs i (bit_xor (get_or zs (s + i) 0) (get_or bz (t + i) 0)) h, e₁, e₂, e₃, e₄)
            (done_more same n' f' q.done (omega arith) (rw (e₁, e₂, e₃, e₄) at en) (rw (e₁, e₂, e₃, e₄) at ef));
        x-rest = outside_set i (bit_xor (get_or xs (s + i) 0) (get_or bx (t + i) 0)) q.x-rest h;
        z-rest = outside_set i (bit_xor (get_or zs (s + i) 0) (get_or bz (t + i) 0)) q.z-rest h;
      }

  pub from_all : {xs zs : List ℕ} {n f i : ℕ} {r : Factor} → From w d s t xs₀ zs₀ bx bz xs zs n f i → w ≤ i → Fit xs₀ → Fit zs₀ → Fit bx → Fit bz
      → r.phase.0 ≡ (n + 2 * ones f) % 4 → r.clashes ≡ n % 65536 → MultipliedBy w d s t xs₀ zs₀ bx bz xs zs r
  from_all {xs} {zs} {n} {f} {i} q h fx fz gx gz ee en =
      let lx : length (part s (s + w) xs₀) ≡ w = long s xs₀ m.s-x in
      record {
        here = done_all same q.done (omega arith) (fit-part s (s + w) xs₀ fx) (fit-part s (s + w) zs₀ fz) (fit-part t (t + w) bx gx) (fit-part t (t + w) bz gz) ee en;
        x-rest = q.x-rest;
        z-rest = q.z-rest;
      }
