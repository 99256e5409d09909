-- The loops over a row's qubits. What is still to come behind what was measured, or written, is the whole: a step takes one piece off it and goes on to
-- the next qubit, or past a word that holds I alone.
use Rattle.row_text.proofs.Kit.{◌≡◌, refl, sym, ap, ap₂, ◌∙◌, subst, Bool, true, false, cond, List, [], ◌∷◌, ◌++◌, append_assoc, append-nil, ℕ, zero, suc, ◌+◌, ◌*◌, ◌-◌, ◌/◌, ◌%◌, ◌^◌, ◌<◌, ◌≤◌, arith, add-one, add-zero, zero-add, dec_lt, eqb, ltb, lt-ltb, le-ltb, eq-eqb, ne_eqb, length, get_or, take, drop, length-append, length-drop, length-take, drop_of_length-le, List·get_or-eq-default, drop-cons, get_or-take, Pauli, I, X, Y, Z}
use native.Mathlib.Nat.{zero-div}
use Rattle.pauli.specs.Pauli.{of_bits}
use Rattle.encoding.specs.Words.{odd, bit_at, unpack, qubits}
use Rattle.encoding.proofs.Qubits.{qubit-at}
use Rattle.text.specs.Readers.{over, Laid}
use Rattle.text.proofs.Adding.{length_over, over-append}
use Rattle.text.proofs.Writing.{over_none}
use Rattle.row_text.specs.Text.{spell, spaced, text_of}
use Rattle.row_text.specs.Calls.{TextWritten}
use Rattle.row_text.specs.Workers.{falls_short}
use Rattle.row_text.specs.Workers.{short, piece_at, NoneFrom, Steps}
use Rattle.std.specs.Prelude.{Ok, Err}
use Rattle.encoding.specs.Refusals.{answer_or}
use Rattle.encoding.specs.Refusals.{left_or}
use Rattle.encoding.specs.Set.{part, Mem, rows_held}
use Rattle.cmpnt_list.specs.Workers.{RowAt}
use Rattle.cmpnt_list.proofs.Views.{words-at}

-- ---- steps

next-qubit : (ps : List Pauli) (q : ℕ) → spaced q (drop q ps) ≡ spell q (get_or ps q I) ++ spaced (q + 1) (drop (q + 1) ps)
next-qubit ps q = go (dec_lt q (length ps))
  where
    go : Dec (q < length ps) → spaced q (drop q ps) ≡ spell q (get_or ps q I) ++ spaced (q + 1) (drop (q + 1) ps)
    go (yes h) =
        ap (spaced q) (drop-cons ps q I h) ∙ ap (λ (k : ℕ). spell q (get_or ps q I) ++ spaced k (drop k ps)) (sym (add-one q))
    go (no h) =
        ap (spaced q) (drop_of_length-le ps {i = q} (omega arith))
        ∙ sym (ap₂ (λ (p : Pauli) (l : List Pauli). spell q p ++ spaced (q + 1) l) (List·get_or-eq-default ps I (omega arith)) (drop_of_length-le ps {i = q + 1} (omega arith)))

skipped : (d : ℕ) (ps : List Pauli) (q : ℕ) → ((k : ℕ) → k < d → get_or ps (q + k) I ≡ I) → spaced q (drop q ps) ≡ spaced (q + d) (drop (q + d) ps)
skipped zero ps q h = ap (λ (k : ℕ). spaced k (drop k ps)) (sym (add-zero q))
skipped (suc d) ps q h =
    let e : get_or ps q I ≡ I = ap (λ (k : ℕ). get_or ps k I) (sym (add-zero q)) ∙ h 0 (omega arith) in
    let f : q + 1 + d ≡ q + suc d = omega arith in
    next-qubit ps q
    ∙ (ap (λ (p : Pauli). spell q p ++ spaced (q + 1) (drop (q + 1) ps)) e
    ∙ (skipped d ps (q + 1) (λ k l. let g : q + 1 + k ≡ q + suc k = omega arith in ap (λ (i : ℕ). get_or ps i I) g ∙ h (suc k) (omega arith))
    ∙ ap (λ (k : ℕ). spaced k (drop k ps)) f))

cut-none : (n : ℕ) (u : List Pauli) (j : ℕ) → get_or u j I ≡ I → get_or (take n u) j I ≡ I
cut-none n u j e = go (dec_lt j n)
  where
    go : Dec (j < n) → get_or (take n u) j I ≡ I
    go (yes h) = get_or-take n u j I h ∙ e
    go (no h) = List·get_or-eq-default (take n u) I (omega (arith, length-take n u))

pub step-word : (n : ℕ) (xs zs : List ℕ) (q : ℕ) → NoneFrom xs zs q → Steps (qubits n xs zs) q I (q + 64)
step-word n xs zs q h =
    record { text = skipped 64 (qubits n xs zs) q (λ k l. cut-none n (unpack xs zs) (q + k) (h k l)); on = omega arith; near = omega arith }

off : (us : List ℕ) (q k : ℕ) → get_or us (q / 64) 0 ≡ 0 → (q + k) / 64 ≡ q / 64 → bit_at us ((q + k) / 64) ((q + k) % 64) ≡ false
unfolding bit_at
off us q k g j =
    ap (λ (v : ℕ). odd (v / 2 ^ ((q + k) % 64))) (ap (λ (i : ℕ). get_or us i 0) j ∙ g) ∙ ap odd (zero-div (2 ^ ((q + k) % 64)))

-- a word of zeros holds I alone
pub none_from : (xs zs : List ℕ) (q : ℕ) → q % 64 ≡ 0 → q / 64 < length xs → q / 64 < length zs → get_or xs (q / 64) 0 ≡ 0 → get_or zs (q / 64) 0 ≡ 0 → NoneFrom xs zs q
none_from xs zs q e hx hz ex ez k h =
    let j : (q + k) / 64 ≡ q / 64 = omega arith in
    qubit-at xs zs (q + k) (omega arith) (omega arith) ∙ ap₂ of_bits (off xs q k ex j) (off zs q k ez j)

-- ---- the length

pub record Measuring (ps : List Pauli) (size q : ℕ) : Type 0 where
  pub few : size ≤ 6 * q
  pub rest : size + length (spaced q (drop q ps)) ≡ length (spaced 0 ps)

-- ---- one piece

pub none-at : (at q : ℕ) → piece_at at q I ≡ []
unfolding piece_at
none-at at q = drop_of_length-le [] {i = cond (eqb at 0) 1 0} (omega arith)

module _ (at q : ℕ) (p : Pauli) {c : ℕ} (l : (k : ℕ) → spell k p ≡ 32 ∷ short c k) where
  pub first-at : at ≡ 0 → piece_at at q p ≡ short c q
  unfolding piece_at
  first-at e = ap₂ (λ (b : Bool) (w : List ℕ). drop (cond b 1 0) w) (eq-eqb at 0 e) (l q)

  pub later-at : (at ≡ 0 → ⊥) → piece_at at q p ≡ 32 ∷ short c q
  unfolding piece_at
  later-at e = ap₂ (λ (b : Bool) (w : List ℕ). drop (cond b 1 0) w) (ne_eqb at 0 e) (l q)

pub puts_none : (at q : ℕ) (p : Pauli) (o : List ℕ) → at ≤ length o → p ≡ I → Laid (piece_at at q p) o at o at
puts_none at q p o h e =
    subst (λ (w : List ℕ). Laid w o at o at) (sym (ap (piece_at at q) e ∙ none-at at q))
    (record { room = omega arith; bytes = sym (over_none at o); place = sym (add-zero at) })

-- ---- the bytes

pub record Putting (ps : List Pauli) (o p : List ℕ) (at q : ℕ) : Type 0 where
  pub done : List ℕ
  pub is : done ++ spaced q (drop q ps) ≡ spaced 0 ps
  pub bytes : p ≡ over (drop 1 done) 0 o
  pub place : at ≡ length (drop 1 done)
  pub shape : length done ≡ 1 → ⊥

-- a piece behind what is done, without its space where nothing is
joins : (done : List ℕ) (q at : ℕ) (p : Pauli) → at ≡ length (drop 1 done) → (length done ≡ 1 → ⊥) → drop 1 (done ++ spell q p) ≡ drop 1 done ++ piece_at at q p
unfolding piece_at
joins [] q at p e h = ap (λ (k : ℕ). drop (cond (eqb k 0) 1 0) (spell q p)) (sym e)
joins (b ∷ []) q at p e h = absurd (h refl)
joins (b ∷ d ∷ done) q at p e h = ap (λ (x : Bool). d ∷ done ++ drop (cond x 1 0) (spell q p)) (sym (ne_eqb at 0 (λ z. omega arith)))

spell-shape : (q : ℕ) (p : Pauli) → length (spell q p) ≡ 1 → ⊥
spell-shape q I e = omega arith
spell-shape q X e = omega arith
spell-shape q Y e = omega arith
spell-shape q Z e = omega arith

module _ {ps : List Pauli} {o b : List ℕ} {at q j : ℕ} {p : Pauli} (r : Putting ps o b at q) (s : Steps ps q p j) (room : length (text_of ps) ≤ length o) where
  all : (r.done ++ spell q p) ++ spaced j (drop j ps) ≡ spaced 0 ps
  all =
      append_assoc r.done (spell q p) (spaced j (drop j ps)) ∙ (ap (λ (l : List ℕ). r.done ++ l) (sym s.text) ∙ r.is)

  joined : drop 1 (r.done ++ spell q p) ≡ drop 1 r.done ++ piece_at at q p
  joined = joins r.done q at p r.place r.shape

  fits : length (drop 1 r.done) + length (piece_at at q p) ≤ length o
  fits =
      omega (
        arith,
        room,
        length-drop 1 (spaced 0 ps),
        ap length all,
        length-append (r.done ++ spell q p) (spaced j (drop j ps)),
        length-drop 1 (r.done ++ spell q p),
        ap length joined,
        length-append (drop 1 r.done) (piece_at at q p),
      )

  same-long : length b ≡ length o
  same-long = ap length r.bytes ∙ length_over (drop 1 r.done) 0 o (omega (arith, fits))

  -- there is room for the next piece
  pub next_fits : at + length (piece_at at q p) ≤ length b
  next_fits = omega (arith, fits, r.place, same-long)

  pub put-more : {b' : List ℕ} {at' : ℕ} → Laid (piece_at at q p) b at b' at' → Putting ps o b' at' j
  put-more {b'} {at'} w =
      let f : length (drop 1 r.done) ≡ 0 + length (drop 1 r.done) = omega arith in
      record {
        done = r.done ++ spell q p;
        is = all;
        bytes =
            w.bytes
            ∙ (ap₂ (λ (k : ℕ) (l : List ℕ). over (piece_at at q p) k l) (r.place ∙ f) r.bytes
            ∙ (sym (over-append (drop 1 r.done) 0 o (omega (arith, fits)) (piece_at at q p)) ∙ ap (λ (l : List ℕ). over l 0 o) (sym joined)));
        place = w.place ∙ omega (arith, r.place, ap length joined, length-append (drop 1 r.done) (piece_at at q p));
        shape = λ e. twice r.done (spell q p) r.shape (spell-shape q p) (sym (length-append r.done (spell q p)) ∙ e);
      }
    where
      twice : (a b : List ℕ) → (length a ≡ 1 → ⊥) → (length b ≡ 1 → ⊥) → length a + length b ≡ 1 → ⊥
      twice [] b f g e = g (omega arith)
      twice (x ∷ a) b f g e = f (omega arith)

-- ---- the call

-- where a row lies, its Paulis are
pub row-ps : (n : ℕ) {r w m a e : ℕ} → RowAt r w m a e → (M : Mem) → qubits n (part a e M.xs) (part a e M.zs) ≡ (rows_held n w M r).ps
unfolding rows_held
row-ps n p M = ap (take n) (words-at p M)

module _ (ps : List Pauli) (out : List ℕ) {size : ℕ} (e : size ≡ length (spaced 0 ps) - 1) where
  long : size ≡ length (text_of ps)
  long = e ∙ sym (length-drop 1 (spaced 0 ps))

  pub too_short : length out < size → TextWritten (falls_short ps out) ps out out (Err (record { 0 = 14 }))
  unfolding answer_or
  too_short h =
      let f : ltb (length out) (length (text_of ps)) ≡ true = lt-ltb (length out) (length (text_of ps)) (omega (arith, long)) in
      record {
        answer = ap (λ (b : Bool). answer_or (cond b 14 0) (length (text_of ps))) (sym f);
        bytes = ap (λ (b : Bool). left_or (cond b 14 0) out (text_of ps ++ drop (length (text_of ps)) out)) (sym f);
      }

  pub room_for : size ≤ length out → length (text_of ps) ≤ length out
  room_for h = omega (arith, long)

  pub fitting : {out' : List ℕ} → size ≤ length out → out' ≡ text_of ps ++ drop (length (text_of ps)) out → TextWritten (falls_short ps out) ps out out' (Ok size)
  unfolding answer_or
  fitting {out'} h g =
      let f : ltb (length out) (length (text_of ps)) ≡ false = le-ltb (length out) (length (text_of ps)) (omega (arith, long)) in
      record {
        answer = ap (λ (k : ℕ). Ok k) long ∙ ap (λ (b : Bool). answer_or (cond b 14 0) (length (text_of ps))) (sym f);
        bytes = g ∙ ap (λ (b : Bool). left_or (cond b 14 0) out (text_of ps ++ drop (length (text_of ps)) out)) (sym f);
      }
