-- What a loop wrote, one value at a place after the other. The loop keeps `Placed from i`: no later place is one of the earlier, so a value that stands
-- stays, and what is at no place stays as it was. Assumes nothing.
use mathlib.Core.Path.{◌≡◌, refl, sym, ap, ◌∙◌, subst}
use mathlib.Core.List.{List}
use mathlib.Core.List.{◌++◌}
use Prim.Native.Nat.{ℕ, ◌+◌, ◌-◌, ◌*◌, ◌/◌, ◌%◌, ◌≤◌, ◌<◌}
use native.Mathlib.Decide.{dec_lt}
use Rattle.std.proofs.Common.{length-take-le}
use Rattle.std.proofs.lemmas.List.{get_or-append_right, get_or-take}
use borrow.Rule.Slice.PartMut.{put_mid, post_of, same_len_mid, mid_len}
use native.Mathlib.Nat.{mul-le-mul}
use native.Mathlib.Omega.{arith}
use borrow.Author.Count.{below_more}
use lib.Arith.{digits_div, digits_mod}
use lib.ListN.{length, get_or, take, drop, set, length-set, get_or-append}
use lib.Seq.{get_or-set_same, get_or-set_other, get_or-drop}
use Rattle.encoding.specs.Limits.{max_rows}
use Rattle.encoding.proofs.Parts.{row-end}
use Rattle.matrix.specs.Workers.{wide, Placed, same, always}

-- ---- places

-- the place of a word of few rows is small
pub place-small : (i w : ℕ) → i < 2 * max_rows → w ≤ wide → i * w ≤ 2 * max_rows * wide
place-small i w h k = let e : i ≤ 2 * max_rows = omega arith in mul-le-mul e k

-- word k of row i lies within
pub place-lt : (i m w k : ℕ) {p : ℕ} → i < m → k < w → p ≡ i * w + k → p < m * w
place-lt i m w k h l e = omega (arith, row-end i w h)

-- a place has one row and one word
pub one-row : (v i k : ℕ) {a b : ℕ} → a < v → b < v → i * v + a ≡ k * v + b → i ≡ k
one-row v i k {a} {b} ha hb e = sym (digits_div i ha) ∙ ap (λ (n : ℕ). n / v) e ∙ digits_div k hb

pub one_word : (v i k : ℕ) {a b : ℕ} → a < v → b < v → i * v + a ≡ k * v + b → a ≡ b
one_word v i k {a} {b} ha hb e = sym (digits_mod i ha) ∙ ap (λ (n : ℕ). n % v) e ∙ digits_mod k hb

-- ---- the loop

pub wrote-more : {from i : ℕ} {place value : ℕ → ℕ} {old t : List ℕ} (p x : ℕ) → Placed from i place value old t → from ≤ i → p < length old → p ≡ place i → x ≡ value i
    → ((r : ℕ) → from ≤ r → r < i → place r ≡ p → ⊥) → Placed from (i + 1) place value old (set t p x)
wrote-more {from} {i} {place} {value} {old} {t} p x g f l e v n =
    record {
      long = length-set t p x ∙ g.long;
      here = λ r q s.
          below_more (λ (r : ℕ). from ≤ r → get_or (set t p x) (place r) 0 ≡ value r) i
          (λ r s q. get_or-set_other t p (place r) x 0 (n r q s) ∙ g.here r q s)
          (λ q. ap (λ (k : ℕ). get_or (set t p x) k 0) (sym e) ∙ get_or-set_same t p x 0 (omega (arith, l, g.long)) ∙ v)
          r s q;
      other = λ q k.
          get_or-set_other t p q x 0 (λ z. k i f (omega arith) (z ∙ e))
          ∙ g.other q (λ r a b. k r a (omega (arith, b)));
    }

pub wrote-all : {from to i : ℕ} {place value : ℕ → ℕ} {old t : List ℕ} → Placed from i place value old t → i ≤ to → to ≤ i → Placed from to place value old t
wrote-all {from} {to} {i} {place} {value} {old} {t} g h k = subst (λ (n : ℕ). Placed from n place value old t) (let e : i ≡ to = omega arith in e) g

-- ---- a part that was filled with one value

pub filled : (from to v : ℕ) (old mid : List ℕ) → from ≤ to → to ≤ length old → length mid ≡ to - from → ((k : ℕ) → k < to - from → get_or mid k 0 ≡ v)
    → Placed from to same (always v) old (put_mid from (to - from) old mid)
filled from to v old mid h k l f =
    record {
      long = same_len_mid from (to - from) old mid (l ∙ sym (mid_len from to old k));
      here = λ i g q. behind i g ∙ get_or-append mid after 0 (i - from) (omega (arith, g, q)) ∙ f (i - from) (omega (arith, g, q));
      other = λ p n. go p n (dec_lt p from) (dec_lt p to);
    }
  where
    after : List ℕ
    after = post_of from (to - from) old

    front : length (take from old) ≡ from
    front = length-take-le from old (omega arith)

    behind : (i : ℕ) → from ≤ i → get_or (take from old ++ (mid ++ after)) i 0 ≡ get_or (mid ++ after) (i - from) 0
    behind i g = get_or-append_right (take from old) (mid ++ after) from i 0 front g

    go : (p : ℕ) → ((i : ℕ) → from ≤ i → i < to → p ≡ i → ⊥) → Dec (p < from) → Dec (p < to) → get_or (take from old ++ (mid ++ after)) p 0 ≡ get_or old p 0
    go p n (yes b) e = get_or-append (take from old) (mid ++ after) 0 p (omega (arith, front)) ∙ get_or-take from old p 0 b
    go p n (no b) (yes e) = absurd (n p (omega arith) e refl)
    go p n (no b) (no e) =
        behind p (omega arith)
        ∙ get_or-append_right mid after (to - from) (p - from) 0 l (omega arith)
        ∙ get_or-drop (to - from) (drop from old) (p - from - (to - from)) 0
        ∙ get_or-drop from old (to - from + (p - from - (to - from))) 0
        ∙ ap (λ (i : ℕ). get_or old i 0) (let e : from + (to - from + (p - from - (to - from))) ≡ p = omega arith in e)
