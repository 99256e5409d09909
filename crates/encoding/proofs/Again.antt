-- What is laid in memory passes the tests of a call: a set laid from rows of n qubits with exponents below 4, and a basis state of n qubits, both within
-- the limits. So what one call writes the next one takes. Assumes nothing.
use mathlib.Core.Path.{◌≡◌, refl, sym, ap, ◌∙◌, subst}
use mathlib.Core.Bool.{Bool, false}
use mathlib.Core.List.{List}
use Prim.Native.Nat.{ℕ, ◌+◌, ◌*◌, ◌/◌, ◌%◌, ◌≤◌, ◌<◌}
use native.Mathlib.Nat.{div-add-mod'}
use native.Mathlib.Decide.{dec_lt}
use native.Mathlib.Omega.{arith}
use borrow.Author.Tests.{le-ltb, eq-eqb}
use lib.ListN.{length, get_or, drop, get_or-eq_default}
use lib.Seq.{get_or-drop}
use Rattle.pauli.specs.Row.{Row}
use Rattle.encoding.specs.Limits.{max_qubits, max_rows, words_of}
use Rattle.encoding.specs.Words.{unbits}
use Rattle.encoding.specs.Set.{lay, lay_state}
use Rattle.encoding.specs.Refusals.{set_lines, state_lines}
use Rattle.encoding.specs.Ranks.{by_rank}
use Rattle.encoding.proofs.BitLaws.{bit-pack}
use Rattle.encoding.proofs.Memory.{Proper, valid-lay, count-lay}
use Rattle.encoding.proofs.Padding.{Only, of-only}
use Rattle.encoding.proofs.Reading.{length-pack}
use Rattle.encoding.proofs.Sets.{set-passes}
use Rattle.encoding.proofs.States.{unbits-at, length-unbits}

pub lay-passes : (n m : ℕ) (σ : ℕ → Row) → n ≤ max_qubits → m ≤ max_rows → Proper n m σ → by_rank (set_lines n (lay n m σ)) ≡ 0
lay-passes n m σ few-qubits few-rows p =
    let w = words_of n in
    let wide : n ≤ w * 64 = omega arith in
    set-passes n (lay n m σ)
    (record { valid = valid-lay n w m σ wide p; few-qubits = few-qubits; few-rows = subst (λ (k : ℕ). k ≤ max_rows) (sym (count-lay n w m σ wide)) few-rows })

module _ (n : ℕ) (s : List Bool) (e : length s ≡ n) where
  laid-long : length (lay_state n s) ≡ words_of n
  laid-long = length-pack (λ (b : Bool). b) (words_of n) s

  -- the bits at n and above are zero
  spare : Only false (drop n (unbits (lay_state n s)))
  spare k = get_or-drop n (unbits (lay_state n s)) k false ∙ go (dec_lt (n + k) (words_of n * 64))
    where
      go : Dec (n + k < words_of n * 64) → get_or (unbits (lay_state n s)) (n + k) false ≡ false
      go (yes h) =
          let i = n + k in
          let hw : i / 64 < words_of n = omega arith in
          ap (λ (j : ℕ). get_or (unbits (lay_state n s)) j false) (sym (div-add-mod' i 64))
          ∙ unbits-at (lay_state n s) (i / 64) (i % 64) (subst (λ (j : ℕ). i / 64 < j) (sym laid-long) hw) (omega arith)
          ∙ bit-pack (λ (b : Bool). b) false refl (words_of n) s (i / 64) (i % 64) hw (omega arith)
          ∙ ap (λ (j : ℕ). get_or s j false) (div-add-mod' i 64)
          ∙ get_or-eq_default s false (omega arith)
      go (no h) = get_or-eq_default (unbits (lay_state n s)) false (omega (arith, length-unbits (lay_state n s), laid-long))

  pub state-passes : n ≤ max_qubits → by_rank (state_lines n (lay_state n s)) ≡ 0
  unfolding by_rank
  state-passes few =
      simp (le-ltb max_qubits n few, eq-eqb (length (lay_state n s)) (words_of n) laid-long, of-only (λ (b : Bool). b) false refl (drop n (unbits (lay_state n s))) spare)
