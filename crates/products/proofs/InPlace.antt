-- A row of a set is multiplied in place by a row of the same set: words below i of the target's part are the product's, and all else is as it was
-- (`Inplace`). The two parts are the same or apart, so word i of both is still the old one when it is its turn. Assumes nothing.
use Rattle.std.proofs.Common.{◌≡◌, ℕ, ◌+◌, ◌-◌, ◌*◌, ◌%◌, ◌^◌, ◌<◌, ◌≤◌, Bool, true, ◌&&◌, ◌||◌, eqb, leb, ◌⊎◌, List, ◌++◌, length, get_or, take, drop, set, sym, refl, ap, ◌∙◌, subst, ap₂, inl, inr, le-add_right, arith, length-set, drop-set-lt, eq-eqb, eqb-true, le-leb, leb-true}
use native.Mathlib.Nat.{add-sub_cancel_left}
use lib.Bits.{bit_xor}
use lib.Seq.{take-set-lt, drop-set-add, take-set-le}
use lib.Count.{ones}
use Rattle.pauli.specs.Pauli.{phases, clashes}
use Rattle.pauli.proofs.Bools.{and-true, or-true-or, or_left, or_right}
use Rattle.products.specs.declared.Factor.{Factor}
use Rattle.encoding.specs.Words.{word}
use Rattle.encoding.specs.Set.{part}
use Rattle.products.specs.Leaves.{SameLength, Outside, Product, Multiplied, Room, inside}
use Rattle.encoding.proofs.WordLaws.{Fit, xors}
use Rattle.products.proofs.RowLaws.{Done, done_more, done_all, length-xors, front_at}
use Rattle.encoding.proofs.Parts.{length_part, get_d_part, fit-part}
use Rattle.products.proofs.PartLaws.{part-below, part-above}

-- ---- an element of a part

part-set : (a w : ℕ) (xs : List ℕ) (i v : ℕ) → i < w → part a (a + w) (set xs (a + i) v) ≡ set (part a (a + w) xs) i v
part-set a w xs i v h = ap (take (a + w - a)) (drop-set-add a xs i v) ∙ take-set-lt (a + w - a) (drop a xs) i v (omega arith)

outside_set : {a w : ℕ} {old new : List ℕ} (i v : ℕ) → Outside a (a + w) old new → i < w → Outside a (a + w) old (set new (a + i) v)
outside_set {a} {w} {old} {new} i v o h =
    record {
      long = length-set new (a + i) v ∙ o.long;
      before = take-set-le a new (a + i) v (le-add_right a i) ∙ o.before;
      after = drop-set-lt (a + w) new (a + i) v (omega arith) ∙ o.after;
    }

-- ---- the loop, i words done

pub record Inplace (w s t : ℕ) (xs₀ zs₀ xs zs : List ℕ) (n f i : ℕ) : Type 0 where
  pub done : Done (part s (s + w) xs₀) (part s (s + w) zs₀) (part t (t + w) xs₀) (part t (t + w) zs₀) (part s (s + w) xs₀) (part s (s + w) zs₀) (part s (s + w) xs) (part s (s + w) zs) n f i
  pub x-rest : Outside s (s + w) xs₀ xs
  pub z-rest : Outside s (s + w) zs₀ zs

module _ {w s t : ℕ} {xs₀ zs₀ : List ℕ} (m : Room w s t xs₀ zs₀) where
  long : (a : ℕ) (l : List ℕ) → a + w ≤ length l → length (part a (a + w) l) ≡ w
  long a l h = length_part a (a + w) l (omega arith) h ∙ add-sub_cancel_left a w

  same : SameLength (length (part s (s + w) xs₀)) (part s (s + w) xs₀) (part s (s + w) zs₀) (part t (t + w) xs₀) (part t (t + w) zs₀) (part s (s + w) xs₀) (part s (s + w) zs₀)
  same =
      let e = sym (long s xs₀ m.s-x) in
      let sz = long s zs₀ m.s-z ∙ e in
      record { in-lx = refl; in-lz = sz; in-rx = long t xs₀ m.t-x ∙ e; in-rz = long t zs₀ m.t-z ∙ e; in-ox = refl; in-oz = sz }

  -- what is read: at s the words from i on are as they were, and at t too
  read-s : (i : ℕ) (old new v : List ℕ) → i < w → i ≤ length v → part s (s + w) new ≡ take i v ++ drop i (part s (s + w) old)
      → get_or new (s + i) 0 ≡ get_or (part s (s + w) old) i 0
  read-s i old new v h k e =
      sym (get_d_part s w new i h) ∙ ap (λ (l : List ℕ). get_or l i 0) e ∙ front_at v (part s (s + w) old) i k

  read-t : (i : ℕ) (old new v : List ℕ) → Outside s (s + w) old new → i < w → i ≤ length v → part s (s + w) new ≡ take i v ++ drop i (part s (s + w) old)
      → get_or new (t + i) 0 ≡ get_or (part t (t + w) old) i 0
  read-t i old new v o h k e = go m.apart
    where
      go : (s ≡ t) ⊎ ((s + w ≤ t) ⊎ (t + w ≤ s)) → get_or new (t + i) 0 ≡ get_or (part t (t + w) old) i 0
      go (inl q) = subst (λ (n : ℕ). get_or new (n + i) 0 ≡ get_or (part n (n + w) old) i 0) q (read-s i old new v h k e)
      go (inr (inl q)) = sym (get_d_part t w new i h) ∙ ap (λ (l : List ℕ). get_or l i 0) (part-above (t + w) o q)
      go (inr (inr q)) = sym (get_d_part t w new i h) ∙ ap (λ (l : List ℕ). get_or l i 0) (part-below o (omega arith) q)

  pub inplace-more : {xs zs : List ℕ} {n f i : ℕ} (n' f' : ℕ) → Inplace w s t xs₀ zs₀ xs zs n f i → i < w
      → n' ≡ (n + clashes (word 64 (get_or xs (s + i) 0) (get_or zs (s + i) 0)) (word 64 (get_or xs (t + i) 0) (get_or zs (t + i) 0))) % 2 ^ 64
      → (2 * ones f' + clashes (word 64 (get_or xs (s + i) 0) (get_or zs (s + i) 0)) (word 64 (get_or xs (t + i) 0) (get_or zs (t + i) 0))) % 4 ≡ (2 * ones f + phases (word 64 (get_or xs (s + i) 0) (get_or zs (s + i) 0)) (word 64 (get_or xs (t + i) 0) (get_or zs (t + i) 0))) % 4
      → Inplace w s t xs₀ zs₀ (set xs (s + i) (bit_xor (get_or xs (s + i) 0) (get_or xs (t + i) 0))) (set zs (s + i) (bit_xor (get_or zs (s + i) 0) (get_or zs (t + i) 0))) n' f' (i + 1)
  inplace-more {xs} {zs} {n} {f} {i} n' f' q h en ef =
      let vx = xors (part s (s + w) xs₀) (part t (t + w) xs₀) in
      let vz = xors (part s (s + w) zs₀) (part t (t + w) zs₀) in
      let a = part s (s + w) xs₀ in
      let lx : length a ≡ w = long s xs₀ m.s-x in
      let kx : i ≤ length vx = omega (arith, length-xors (part s (s + w) xs₀) (part t (t + w) xs₀) same.in-rx) in
      let kz : i ≤ length vz = omega (arith, length-xors (part s (s + w) zs₀) (part t (t + w) zs₀) (same.in-rz ∙ sym same.in-lz), same.in-lz) in
      let e₁ : get_or xs (s + i) 0 ≡ get_or (part s (s + w) xs₀) i 0 = read-s i xs₀ xs vx h kx q.done.x-words in
      let e₂ : get_or zs (s + i) 0 ≡ get_or (part s (s + w) zs₀) i 0 = read-s i zs₀ zs vz h kz q.done.z-words in
      let e₃ : get_or xs (t + i) 0 ≡ get_or (part t (t + w) xs₀) i 0 = read-t i xs₀ xs vx q.x-rest h kx q.done.x-words in
      let e₄ : get_or zs (t + i) 0 ≡ get_or (part t (t + w) zs₀) i 0 = read-t i zs₀ zs vz q.z-rest h kz q.done.z-words in
      record {
        done = rw (part-set s w xs i (bit_xor (get_or xs (s + i) 0) (get_or xs (t + i) 0)) h, part-set s w zs i (bit_xor (get_or zs (s + i) 0) (get_or zs (t + i) 0)) h, e₁, e₂, e₃, e₄)
            (done_more same n' f' q.done (omega arith) (rw (e₁, e₂, e₃, e₄) at en) (rw (e₁, e₂, e₃, e₄) at ef));
        x-rest = outside_set i (bit_xor (get_or xs (s + i) 0) (get_or xs (t + i) 0)) q.x-rest h;
        z-rest = outside_set i (bit_xor (get_or zs (s + i) 0) (get_or zs (t + i) 0)) q.z-rest h;
      }

  pub inplace-all : {xs zs : List ℕ} {n f i : ℕ} {r : Factor} → Inplace w s t xs₀ zs₀ xs zs n f i → i ≡ w → Fit xs₀ → Fit zs₀
      → r.phase.0 ≡ (n + 2 * ones f) % 4 → r.clashes ≡ n % 65536
      → Product (part s (s + w) xs₀) (part s (s + w) zs₀) (part t (t + w) xs₀) (part t (t + w) zs₀) (part s (s + w) xs) (part s (s + w) zs) r
  inplace-all {xs} {zs} {n} {f} {i} q h fx fz ee en =
      let lx : length (part s (s + w) xs₀) ≡ w = long s xs₀ m.s-x in
      done_all same q.done (omega arith) (fit-part s (s + w) xs₀ fx) (fit-part s (s + w) zs₀ fz) (fit-part t (t + w) xs₀ fx) (fit-part t (t + w) zs₀ fz) ee en

  pub multiplied : {xs zs : List ℕ} {n f i : ℕ} {r : Factor} → Inplace w s t xs₀ zs₀ xs zs n f i → i ≡ w → Fit xs₀ → Fit zs₀
      → r.phase.0 ≡ (n + 2 * ones f) % 4 → r.clashes ≡ n % 65536 → Multiplied w s t xs₀ zs₀ xs zs r
  multiplied q h fx fz ee en = record { here = inplace-all q h fx fz ee en; x-rest = q.x-rest; z-rest = q.z-rest }

-- ---- the tests as the code makes them

module _ (w s t : ℕ) (xs zs : List ℕ) where
  pub room_of : (a b c : Bool) → a ≡ (leb (s + w) (length xs) && leb (s + w) (length zs)) → b ≡ (leb (t + w) (length xs) && leb (t + w) (length zs))
      → c ≡ (eqb s t || (leb (s + w) t || leb (t + w) s)) → a ≡ true → b ≡ true → c ≡ true → Room w s t xs zs
  room_of a b c ea eb ec ta tb tc =
      let p = and-true (leb (s + w) (length xs)) (leb (s + w) (length zs)) (sym ea ∙ ta) in
      let q = and-true (leb (t + w) (length xs)) (leb (t + w) (length zs)) (sym eb ∙ tb) in
      record {
        s-x = leb-true (s + w) (length xs) p.0;
        s-z = leb-true (s + w) (length zs) p.1;
        t-x = leb-true (t + w) (length xs) q.0;
        t-z = leb-true (t + w) (length zs) q.1;
        apart = ways (or-true-or (eqb s t) (leb (s + w) t || leb (t + w) s) (sym ec ∙ tc));
      }
    where
      ways : (eqb s t ≡ true) ⊎ ((leb (s + w) t || leb (t + w) s) ≡ true) → (s ≡ t) ⊎ ((s + w ≤ t) ⊎ (t + w ≤ s))
      ways (inl e) = inl (eqb-true s t e)
      ways (inr e) = inr (more (or-true-or (leb (s + w) t) (leb (t + w) s) e))
        where
          more : (leb (s + w) t ≡ true) ⊎ (leb (t + w) s ≡ true) → (s + w ≤ t) ⊎ (t + w ≤ s)
          more (inl e) = inl (leb-true (s + w) t e)
          more (inr e) = inr (leb-true (t + w) s e)

  -- and the other way round
  pub inside_is : Room w s t xs zs → inside w s t xs zs ≡ true
  inside_is m =
      ap₂ ◌&&◌ (ap₂ ◌&&◌ (le-leb (s + w) (length xs) m.s-x) (le-leb (s + w) (length zs) m.s-z))
      (ap₂ ◌&&◌ (ap₂ ◌&&◌ (le-leb (t + w) (length xs) m.t-x) (le-leb (t + w) (length zs) m.t-z)) (either m.apart))
    where
      either : (s ≡ t) ⊎ ((s + w ≤ t) ⊎ (t + w ≤ s)) → (eqb s t || (leb (s + w) t || leb (t + w) s)) ≡ true
      either (inl e) = or_left _ (eq-eqb s t e)
      either (inr (inl l)) = or_right (eqb s t) (or_left _ (le-leb (s + w) t l))
      either (inr (inr l)) = or_right (eqb s t) (or_right (leb (s + w) t) (le-leb (t + w) s l))
