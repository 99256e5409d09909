-- Numbers fetched from bytes one after the other: what was fetched so far stands in front of what was there.
-- Number i of a part is the number at its place, so that the next one goes right behind the last. Assumes nothing.
use Rattle.pwl.proofs.Kit.{◌≡◌, refl, sym, ap, ◌∙◌, List, [], ◌∷◌, ◌++◌, append_assoc, ℕ, zero, suc, ◌+◌, ◌*◌, ◌<◌, ◌≤◌, arith, length, get_or, drop, set, drop-drop, drop-cons}
use lib.Seq.{set_at}
use Rattle.std.proofs.lemmas.Nat.{mul-le}
use Rattle.pwl.specs.Bytes.{num, nums, items}

module _ {A : Type 0} (k : ℕ) (read : List ℕ → A) where
  items-more : (c : ℕ) (s : List ℕ) → items k read (suc c) s ≡ items k read c s ++ (read (drop (k * c) s) ∷ [])
  unfolding items
  items-more zero s =
      let z : 0 ≡ k * 0 = omega arith in
      ap (λ (j : ℕ). read (drop j s) ∷ []) z
  items-more (suc c) s =
      let z : k + k * c ≡ k * suc c = omega arith in
      ap (λ (t : List A). read s ∷ t)
      (items-more c (drop k s) ∙ ap (λ (t : List ℕ). items k read c (drop k s) ++ (read t ∷ [])) (drop-drop (k * c) k s ∙ ap (λ (j : ℕ). drop j s) z))

  length-items : (c : ℕ) (s : List ℕ) → length (items k read c s) ≡ c
  unfolding items
  length-items zero s = refl
  length-items (suc c) s = ap suc (length-items c (drop k s))

  pub fetch_none : (s : List ℕ) (out : List A) → out ≡ items k read 0 s ++ drop 0 out
  unfolding items
  fetch_none s out = refl

  pub fetch_more : (from i : ℕ) (s : List ℕ) (out now : List A) (d v : A) → i < length out → now ≡ items k read i (drop from s) ++ drop i out → v ≡ read (drop (from + k * i) s)
      → set now i v ≡ items k read (i + 1) (drop from s) ++ drop (i + 1) out
  fetch_more from i s out now d v h e g =
      let t = drop from s in
      let o : suc i ≡ i + 1 = omega arith in
      ap (λ (l : List A). set l i v) (e ∙ ap (λ (l : List A). items k read i t ++ l) (drop-cons out i d h))
      ∙ set_at (items k read i t) (get_or out i d) (drop (suc i) out) v i (length-items i t)
      ∙ ap (λ (x : A). items k read i t ++ (x ∷ drop (suc i) out)) (g ∙ ap read (sym (drop-drop (k * i) from s)))
      ∙ sym (append_assoc (items k read i t) (read (drop (k * i) t) ∷ []) (drop (suc i) out))
      ∙ ap (λ (l : List A). l ++ drop (suc i) out) (sym (items-more i t)) ∙ ap (λ (j : ℕ). items k read j t ++ drop j out) o

-- ---- where the next one lies

pub place-next : (k i from : ℕ) → (from + k * i) + k ≡ from + k * (i + 1)
place-next k i from = omega arith

pub fits-next : (k : ℕ) {i n : ℕ} (from room : ℕ) → i < n → from + k * n ≤ room → (from + k * i) + k ≤ room
fits-next k {i} {n} from room h r =
    let m : k * (i + 1) ≤ k * n = mul-le k (i + 1) k n (omega arith) (omega (arith, h)) in
    omega (arith, m, r, place-next k i from)

-- ---- one of them

pub nums_at : (k c i : ℕ) (s : List ℕ) → i < c → get_or (nums k c s) i 0 ≡ num k (drop (k * i) s)
unfolding items
nums_at k zero i s h = absurd (omega arith)
nums_at k (suc c) zero s h =
    let z : 0 ≡ k * 0 = omega arith in
    ap (λ (j : ℕ). num k (drop j s)) z
nums_at k (suc c) (suc i) s h =
    let z : k + k * i ≡ k * suc i = omega arith in
    nums_at k c i (drop k s) (omega (arith, h)) ∙ ap (num k) (drop-drop (k * i) k s ∙ ap (λ (j : ℕ). drop j s) z)

pub nums-from : (k c from i : ℕ) (s : List ℕ) → i < c → num k (drop (from + k * i) s) ≡ get_or (nums k c (drop from s)) i 0
nums-from k c from i s h = ap (num k) (sym (drop-drop (k * i) from s)) ∙ sym (nums_at k c i (drop from s) h)
