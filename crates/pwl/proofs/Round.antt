-- Numbers and their bytes: what was laid is read back, whatever follows it, and what was read is laid again as it stood. By the bytes of one number, the
-- lowest first, and then number by number. Assumes nothing.
use Rattle.pwl.proofs.Kit.{◌≡◌, refl, sym, ap, ◌∙◌, List, [], ◌∷◌, ◌++◌, append_assoc, ℕ, zero, suc, ◌+◌, ◌*◌, ◌/◌, ◌%◌, ◌^◌, ◌<◌, ◌≤◌, arith, length, get_or, drop, length-append, length-drop, drop-drop, drop_at}
use Rattle.pwl.specs.Bytes.{items, les_of, le, num, les, nums, Bytes, Below}

pub length-le : (k v : ℕ) → length (le k v) ≡ k
unfolding le
length-le zero v = refl
length-le (suc k) v = ap suc (length-le k (v / 256))

pub length-les : (k : ℕ) (vs : List ℕ) → length (les k vs) ≡ k * length vs
unfolding les_of
length-les k [] = omega arith
length-les k (v ∷ vs) = length-append (le k v) (les k vs) ∙ (omega (arith, length-le k v, length-les k vs))

pub length-nums : (k c : ℕ) (s : List ℕ) → length (nums k c s) ≡ c
unfolding items
length-nums k zero s = refl
length-nums k (suc c) s = ap suc (length-nums k c (drop k s))

-- ---- laid and read

num-le : (k v : ℕ) (s : List ℕ) → v < 256 ^ k → num k (le k v ++ s) ≡ v
unfolding num le
num-le zero v s h = omega (arith, h)
num-le (suc k) v s h =
    let e : num k (le k (v / 256) ++ s) ≡ v / 256 = num-le k (v / 256) s (omega (arith, h)) in
    omega (arith, e)

pub nums-les : (k : ℕ) (vs s : List ℕ) → Below (256 ^ k) vs → nums k (length vs) (les k vs ++ s) ≡ vs
unfolding items les_of Below
nums-les k [] s h = refl
nums-les k (v ∷ vs) s h =
    let a : (le k v ++ les k vs) ++ s ≡ le k v ++ (les k vs ++ s) = append_assoc (le k v) (les k vs) s in
    let e : num k ((le k v ++ les k vs) ++ s) ≡ v = ap (num k) a ∙ num-le k v (les k vs ++ s) h.0 in
    let d : drop k ((le k v ++ les k vs) ++ s) ≡ les k vs ++ s = ap (drop k) a ∙ drop_at (le k v) (les k vs ++ s) k (length-le k v) in
    ap (λ (x : ℕ). x ∷ nums k (length vs) (drop k ((le k v ++ les k vs) ++ s))) e
    ∙ ap (λ (l : List ℕ). v ∷ l) (ap (nums k (length vs)) d ∙ nums-les k vs s h.1)

-- ---- read and laid

le-num : (k : ℕ) (s : List ℕ) → Bytes s → k ≤ length s → le k (num k s) ++ drop k s ≡ s
unfolding num le Below
le-num zero s b h = refl
le-num (suc k) [] b h = absurd (omega (arith, h))
le-num (suc k) (x ∷ s) b h =
    let m : (x + 256 * num k s) % 256 ≡ x = omega (arith, b.0) in
    let q : (x + 256 * num k s) / 256 ≡ num k s = omega (arith, b.0) in
    ap (λ (y : ℕ). y ∷ (le k ((x + 256 * num k s) / 256) ++ drop k s)) m
    ∙ ap (λ (l : List ℕ). x ∷ l) (ap (λ (y : ℕ). le k y ++ drop k s) q ∙ le-num k s b.1 (omega (arith, h)))

pub bytes_drop : (k : ℕ) (s : List ℕ) → Bytes s → Bytes (drop k s)
unfolding Below
bytes_drop zero s b = b
bytes_drop (suc k) [] b = b
bytes_drop (suc k) (x ∷ s) b = bytes_drop k s b.1

pub les-nums : (k c : ℕ) (s : List ℕ) → Bytes s → k * c ≤ length s → les k (nums k c s) ++ drop (k * c) s ≡ s
unfolding items les_of
les-nums k zero s b h =
    let z : k * 0 ≡ 0 = omega arith in
    ap (λ (j : ℕ). drop j s) z
les-nums k (suc c) s b h =
    let z : k + k * c ≡ k * suc c = omega arith in
    let hk : k ≤ length s = omega (arith, h, z) in
    let hc : k * c ≤ length (drop k s) = omega (arith, h, z, length-drop k s) in
    append_assoc (le k (num k s)) (les k (nums k c (drop k s))) (drop (k * suc c) s)
    ∙ ap (λ (t : List ℕ). le k (num k s) ++ (les k (nums k c (drop k s)) ++ t)) (sym (drop-drop (k * c) k s ∙ ap (λ (j : ℕ). drop j s) z))
    ∙ ap (λ (t : List ℕ). le k (num k s) ++ t) (les-nums k c (drop k s) (bytes_drop k s b) hc)
    ∙ le-num k s b hk

-- ---- what is read fits

head-lt : (s : List ℕ) → Bytes s → get_or s 0 0 < 256
unfolding Below
head-lt [] b = omega arith
head-lt (x ∷ s) b = b.0

pub num-lt : (k : ℕ) (s : List ℕ) → Bytes s → num k s < 256 ^ k
unfolding num
num-lt zero s b = omega arith
num-lt (suc k) s b = omega (arith, head-lt s b, num-lt k (drop 1 s) (bytes_drop 1 s b))

pub nums-lt : (k c : ℕ) (s : List ℕ) → Bytes s → Below (256 ^ k) (nums k c s)
unfolding items Below
nums-lt k zero s b = tt
nums-lt k (suc c) s b = (num-lt k s b, nums-lt k c (drop k s) (bytes_drop k s b))
