-- Numbers of two, four and eight bytes at a place, by the bytes there: the low half, and the high half above it.
-- A byte is below 256, so that no half reaches into the other. Assumes nothing.
use Rattle.pwl.proofs.Kit.{◌≡◌, refl, ap, ◌∙◌, List, ℕ, suc, ◌+◌, ◌*◌, arith, get_or, drop, drop-drop}
use lib.Seq.{get_or-drop}
use Rattle.pwl.specs.Bytes.{num}

split2 : (k : ℕ) (s : List ℕ) → num (suc (suc k)) s ≡ num 2 s + 65536 * num k (drop 2 s)
unfolding num
split2 k s =
    let e : num k (drop 1 (drop 1 s)) ≡ num k (drop 2 s) = ap (num k) (drop-drop 1 1 s) in
    omega (arith, e)

pub num_two : (s : List ℕ) (at : ℕ) → num 2 (drop at s) ≡ get_or s at 0 + 256 * get_or s (at + 1) 0
unfolding num
num_two s at =
    let e : get_or (drop at s) 0 0 ≡ get_or s at 0 = get_or-drop at s 0 0 ∙ ap (λ (k : ℕ). get_or s k 0) (omega arith) in
    let g : get_or (drop 1 (drop at s)) 0 0 ≡ get_or s (at + 1) 0 =
    ap (λ (t : List ℕ). get_or t 0 0) (drop-drop 1 at s) ∙ get_or-drop (at + 1) s 0 0 ∙ ap (λ (k : ℕ). get_or s k 0) (omega arith) in
    omega (arith, e, g)

pub num_three : (s : List ℕ) → num 3 s ≡ get_or s 0 0 + 256 * num 2 (drop 1 s)
unfolding num
num_three s = refl

pub num_four : (s : List ℕ) (at : ℕ) → num 4 (drop at s) ≡ num 2 (drop at s) + 65536 * num 2 (drop (at + 2) s)
num_four s at = split2 2 (drop at s) ∙ ap (λ (t : List ℕ). num 2 (drop at s) + 65536 * num 2 t) (drop-drop 2 at s)

pub num_eight : (s : List ℕ) (at : ℕ) → num 8 (drop at s) ≡ num 4 (drop at s) + 4294967296 * num 4 (drop (at + 4) s)
num_eight s at =
    let t = drop at s in
    let h : num 4 (drop 2 (drop 2 t)) ≡ num 4 (drop (at + 4) s) = ap (num 4) (drop-drop 2 2 t ∙ drop-drop 4 at s) in
    omega (arith, split2 6 t, split2 4 (drop 2 t), split2 2 t, h)
