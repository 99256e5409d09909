-- Names: a name ends at the first space or with the line, and two texts are the same where they are so byte by byte. By cases. Assumes nothing.
use Rattle.std.specs.Option.{unwrap_or}
use Rattle.std.specs.List.{position, prefix_len}
use Rattle.text.proofs.Kit.{◌≡◌, refl, ap, ◌∙◌, Bool, true, false, cond, ◌&&◌, List, [], ◌∷◌, ℕ, suc, ◌+◌, ◌≤◌, arith, length, eqb}
use Rattle.naming.specs.Names.{same, name_end}
use lib.Pointwise.{pointwise}
use Rattle.std.specs.Prelude.{Some, None, not, ◌==◌, nat_lt}
use borrow.Author.Tests.{ltb-false}

prefix-is : (s : List ℕ) → prefix_len (λ (c : ℕ). not (c == 32)) s ≡ name_end s
unfolding name_end
prefix-is [] = refl
prefix-is (c ∷ s) = go (c == 32) (prefix-is s)
  where
    go : (b : Bool) → prefix_len (λ (c : ℕ). not (c == 32)) s ≡ name_end s
        → cond (not b) (1 + prefix_len (λ (c : ℕ). not (c == 32)) s) 0 ≡ cond b 0 (suc (name_end s))
    go true e = refl
    go false e = omega (arith, e)

pub end-within : (s : List ℕ) → name_end s ≤ length s
unfolding name_end
end-within [] = omega arith
end-within (c ∷ s) = go (eqb c 32) (end-within s)
  where
    go : (b : Bool) → name_end s ≤ length s → cond b 0 (suc (name_end s)) ≤ suc (length s)
    go true e = omega arith
    go false e = omega (arith, e)

or-end : (k n : ℕ) → k ≤ n → unwrap_or (cond (nat_lt k n) (Some k) None) n ≡ k
or-end k n h = go (nat_lt k n) refl
  where
    go : (b : Bool) → nat_lt k n ≡ b → unwrap_or (cond b (Some k) None) n ≡ k
    go true e = refl
    go false e = let g = ltb-false k n e in omega arith

pub end-first : (s : List ℕ) → unwrap_or (position (λ (c : ℕ). c == 32) s) (length s) ≡ name_end s
end-first s =
    let e = prefix-is s in
    or-end (prefix_len (λ (c : ℕ). not (c == 32)) s) (length s) (omega (arith, e, end-within s)) ∙ e

pub same-pointwise : (s t : List ℕ) → same s t ≡ pointwise eqb s t
same-pointwise [] [] = refl
same-pointwise [] (d ∷ t) = refl
same-pointwise (c ∷ s) [] = refl
same-pointwise (c ∷ s) (d ∷ t) = ap (λ (b : Bool). eqb c d && b) (same-pointwise s t)
