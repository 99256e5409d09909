-- The scratch arrays as they are made: all zero, so no row owes anything, and the table is a sound set of which entry 0 has no bit. Parts of them are zero
-- too. Assumes nothing.
use mathlib.Core.Path.{◌≡◌, refl, sym, ap, ap₂, ◌∙◌, subst}
use mathlib.Core.Bool.{Bool, true, false, not, ◌||◌, false≢true}
use mathlib.Core.List.{List}
use Prim.Native.Nat.{ℕ, zero, suc, ◌+◌, ◌-◌, ◌*◌, ◌/◌, ◌%◌, ◌^◌, ◌≤◌, ◌<◌}
use native.Mathlib.Decide.{dec_lt}
use native.Mathlib.Omega.{arith}
use borrow.Author.Tests.{leb-false, lt-leb}
use lib.ListN.{length, get_or, take, drop, replicate, get_or-eq_default, length-take}
use lib.Seq.{get_or-take, get_or-drop}
use mir.Val.{Fits}
use mir.Syntax.{w64}
use Rattle.pauli.specs.Pauli.{of_bits}
use Rattle.pauli.specs.declared.PauliMatrix.TheVariants.{I}
use Rattle.pauli.specs.Row.{mul_row, bit_row}
use Rattle.encoding.specs.Limits.{words_of, max_words}
use Rattle.encoding.specs.Words.{odd, bit_at, unpack}
use Rattle.encoding.specs.Set.{part, row, Mem, mem_of, count, exponent_at, rows_of, Valid, Sound}
use Rattle.encoding.proofs.WordLaws.{Fit}
use Rattle.encoding.proofs.Padding.{Clean}
use Rattle.encoding.proofs.BitLaws.{zero_bit}
use Rattle.encoding.proofs.Qubits.{qubit-at, past-x}
use Rattle.encoding.proofs.Parts.{length_part, row-long}
use Rattle.encoding.proofs.Memory.{packed-of, within-limits}
use Rattle.encoding.proofs.Sets.{set-passes}
use Rattle.encoding.proofs.Scan.{some-none, some-never}
use Rattle.encoding.specs.Refusals.{some, too_large, set_lines}
use Rattle.encoding.specs.Ranks.{by_rank}
use Rattle.encoding.proofs.Exponents.{laid_from, exponent-out}
use Rattle.reduction.specs.Log.{capacity}
use Rattle.reduction.specs.Workers.{Below, through, column_c}
use Rattle.late.specs.Workers.{Come, table_rows, Blank, Blanks, StartIn, word_bit, ListsIn, Told, it-is, it-is-not, start, Does, Reduces, reduced, kept-all}
use Rattle.late.proofs.ColumnBits.{x-column, z-column}

pub zeros : (m k : ℕ) → get_or (replicate {A = ℕ} m 0) k 0 ≡ 0
zeros zero k = refl
zeros (suc m) zero = refl
zeros (suc m) (suc k) = zeros m k

blank_part : (a e : ℕ) (l : List ℕ) → Blank l → Blank (part a e l)
blank_part a e l h i = go (dec_lt i (e - a))
  where
    go : Dec (i < e - a) → get_or (take (e - a) (drop a l)) i 0 ≡ 0
    go (yes q) = get_or-take (e - a) (drop a l) i 0 q ∙ get_or-drop a l i 0 ∙ h (a + i)
    go (no q) = get_or-eq_default (take (e - a) (drop a l)) 0 (omega (arith, length-take (e - a) (drop a l)))

blank-fit : (l : List ℕ) → Blank l → Fit l
blank-fit l h k = subst (Fits w64) (sym (h k)) (omega arith)

blank-bit : (l : List ℕ) → Blank l → (j k : ℕ) → bit_at l j k ≡ false
unfolding bit_at
blank-bit l h j k = ap (λ v. odd (v / 2 ^ k)) (h j) ∙ zero_bit k

blank-clean : (n : ℕ) (xs zs : List ℕ) → length xs ≡ length zs → Blank xs → Blank zs → Clean n xs zs
blank-clean n xs zs e hx hz k = get_or-drop n (unpack xs zs) k I ∙ go (n + k) (dec_lt ((n + k) / 64) (length xs))
  where
    go : (q : ℕ) → Dec (q / 64 < length xs) → get_or (unpack xs zs) q I ≡ I
    go q (yes l) = qubit-at xs zs q l (omega arith) ∙ ap₂ of_bits (blank-bit xs hx (q / 64) (q % 64)) (blank-bit zs hz (q / 64) (q % 64))
    go q (no l) = past-x xs zs q (omega arith)

module _ (n : ℕ) (M : Mem) (s : Sound n M) (w : ℕ) (we : w ≡ words_of n) {owed tx tz tp : List ℕ} (b : Blanks owed tx tz tp) where
  abbrev size : ℕ
  size = table_rows * w

  fits_in : table_rows * w ≤ table_rows * max_words
  fits_in = omega (arith, we, s.few-qubits)

  T : Mem
  T = mem_of table_rows (part 0 (table_rows * w) tx) (part 0 (table_rows * w) tz) tp

  x-size : length (part 0 (table_rows * w) tx) ≡ table_rows * w
  x-size = length_part 0 (table_rows * w) tx (omega arith) (omega (arith, b.x-long, fits_in)) ∙ omega arith

  z-size : length (part 0 (table_rows * w) tz) ≡ table_rows * w
  z-size = length_part 0 (table_rows * w) tz (omega arith) (omega (arith, b.z-long, fits_in)) ∙ omega arith

  valid : Valid n w T
  unfolding T
  valid =
      let bx = blank_part 0 (table_rows * w) tx b.x-blank in
      let bz = blank_part 0 (table_rows * w) tz b.z-blank in
      record {
        wide = omega (arith, we, s.valid.wide);
        x-long = x-size;
        z-long = z-size;
        packed = λ r h.
            let rx = row w r (part 0 (table_rows * w) tx) in
            let rz = row w r (part 0 (table_rows * w) tz) in
            let lx : length rx ≡ w = row-long table_rows w r (part 0 (table_rows * w) tx) h x-size in
            let lz : length rz ≡ w = row-long table_rows w r (part 0 (table_rows * w) tz) h z-size in
            let px = blank_part (r * w) (r * w + w) (part 0 (table_rows * w) tx) bx in
            let pz = blank_part (r * w) (r * w + w) (part 0 (table_rows * w) tz) bz in
            packed-of n w lx lz (blank-fit rx px) (blank-fit rz pz) (blank-clean n rx rz (lx ∙ sym lz) px pz);
        exponents = laid_from table_rows (exponent_at tp) b.e-long (blank-fit tp b.e-blank) (λ k h. refl) (λ k h. exponent-out tp k (omega (arith, b.e-long)));
      }

  sound : Sound n T
  unfolding T
  sound = record { valid = subst (λ j. Valid n j T) we valid; few-qubits = s.few-qubits; few-rows = omega arith }

  no_bits : (q : ℕ) → q < n + n → bit_row n (rows_of n T 0) q ≡ false
  unfolding T
  no_bits q h = go (dec_lt q n)
    where
      at : (l : List ℕ) → Blank l → (j i : ℕ) → word_bit (words_of n) j i l 0 ≡ false
      at l z j i = ap (λ v. odd (v / 2 ^ i)) (z (0 * words_of n + j)) ∙ zero_bit i

      go : Dec (q < n) → bit_row n (rows_of n T 0) q ≡ false
      go (yes l) = sym (x-column n (words_of n) sound.valid 0 (omega arith) q l) ∙ at (part 0 (table_rows * w) tx) (blank_part 0 (table_rows * w) tx b.x-blank) (q / 64) (q % 64)
      go (no l) = sym (z-column n (words_of n) sound.valid 0 (omega arith) q (omega arith) h) ∙ at (part 0 (table_rows * w) tz) (blank_part 0 (table_rows * w) tz b.z-blank) ((q - n) / 64) ((q - n) % 64)

  pub scratch-start : StartIn n M (part 0 (count M) owed) (mem_of table_rows (part 0 (table_rows * w) tx) (part 0 (table_rows * w) tz) tp)
  unfolding T
  scratch-start =
      let nothing = blank_part 0 (count M) owed b.o-blank in
      record {
        owing =
            record {
              rows = s;
              table = sound;
              long = length_part 0 (count M) owed (omega arith) (omega (arith, b.o-long, s.few-rows)) ∙ omega arith;
              small = λ k. omega (arith, nothing k);
            };
        nothing = nothing;
        blank = no_bits;
      }

-- ---- what is asked, and the answer to whether it holds

pub told-yes : {P : Type 0} {r : Bool} → Told P r → r ≡ true → P
told-yes (it-is e p) q = p
told-yes (it-is-not e p) q = absurd (false≢true (sym e ∙ q))

pub told-no : {P : Type 0} {r : Bool} → Told P r → r ≡ false → P → ⊥
told-no (it-is e p) q = λ _. false≢true (sym q ∙ e)
told-no (it-is-not e p) q = p

below_of : (l : List ℕ) (m : ℕ) → some (too_large m) l ≡ false → Below m l
below_of l m e i h = leb-false m (get_or l i 0) (some-none (too_large m) 0 l e i h)

of-below : (l : List ℕ) (m : ℕ) → Below m l → true ≡ some (too_large m) l → ⊥
of-below l m h e = false≢true (sym (some-never (too_large m) 0 l (λ i g. lt-leb m (get_or l i 0) (h i g))) ∙ sym e)

module _ (n : ℕ) (order listed extra : List ℕ) (M : Mem) where
  pub not-ready : (by_rank (set_lines n M) ≡ 0 → ⊥) → Told (ListsIn n order listed extra M) false
  not-ready h = it-is-not refl (λ q. h (set-passes n M q.sound))

  pub ready-if : Valid n (words_of n) M → by_rank (set_lines n M) ≡ 0 → (a b c : Bool) → a ≡ some (too_large (n + n)) order → b ≡ some (too_large (count M)) listed
      → c ≡ some (too_large (count M)) extra → Told (ListsIn n order listed extra M) (not (a || (b || c)))
  ready-if v e true b c ea eb ec = it-is-not refl (λ q. of-below order (n + n) q.order-in ea)
  ready-if v e false true c ea eb ec = it-is-not refl (λ q. of-below listed (count M) q.listed_in eb)
  ready-if v e false false true ea eb ec = it-is-not refl (λ q. of-below extra (count M) q.extra-in ec)
  ready-if v e false false false ea eb ec =
      let l = within-limits n M e in
      it-is refl
      (record {
        sound = record { valid = v; few-qubits = l.0; few-rows = l.1 };
        order-in = below_of order (n + n) (sym ea);
        listed_in = below_of listed (count M) (sym eb);
        extra-in = below_of extra (count M) (sym ec);
      })

-- where what is asked holds, the columns are done
pub reduces-does : {n : ℕ} {order listed extra : List ℕ} {M : Mem} {log : List ℕ} {M' : Mem} {log' : List ℕ} {r : Come} → Reduces n order listed extra M log M' log' r → ListsIn n order listed extra M
    → Does n (through (column_c (bit_row n) (mul_row n) (capacity log) listed extra) order) M log start M' log' r
reduces-does (reduced h d) q = d
reduces-does (kept-all h a b c) q = absurd (h q)
