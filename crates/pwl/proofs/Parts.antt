-- Parts one behind the other, of any shapes: what was laid is read back, what was read is laid again as it stood, and what is read fits. Part by part: one
-- part is a list of numbers, and the next starts where it ends. Assumes nothing.
use Rattle.pwl.proofs.Kit.{◌≡◌, refl, sym, ap, ap₂, ◌∙◌, List, [], ◌∷◌, ◌++◌, append_assoc, ℕ, ◌+◌, ◌*◌, ◌≤◌, arith, length, drop, length-append, length-drop, drop-drop, drop_at}
use Rattle.pwl.specs.Bytes.{les, nums, Bytes}
use Rattle.pwl.specs.File.{Part, part, laid, Shape, shape, bytes_in, read_parts, PartsFit, shapes_of}
use Rattle.pwl.proofs.Round.{length-les, length-nums, nums-les, bytes_drop, les-nums, nums-lt}

pub length-laid : (ps : List Part) → length (laid ps) ≡ bytes_in (shapes_of ps)
unfolding laid bytes_in shapes_of
length-laid [] = refl
length-laid (p ∷ ps) =
    length-append (les p.wide p.numbers) (laid ps) ∙ ap₂ ◌+◌ (length-les p.wide p.numbers) (length-laid ps)

-- where parts are laid from a byte on, they are read there, whatever follows them
pub read-laid : (ps : List Part) (at : ℕ) (s t : List ℕ) → PartsFit ps → drop at s ≡ laid ps ++ t → read_parts (shapes_of ps) at s ≡ ps
unfolding laid read_parts shapes_of PartsFit
read-laid [] at s t f e = refl
read-laid (p ∷ ps) at s t f e =
    let k = p.wide in
    let vs = p.numbers in
    let e1 : drop at s ≡ les k vs ++ (laid ps ++ t) = e ∙ append_assoc (les k vs) (laid ps) t in
    let next : drop (at + k * length vs) s ≡ laid ps ++ t =
    sym (drop-drop (k * length vs) at s) ∙ ap (drop (k * length vs)) e1 ∙ drop_at (les k vs) (laid ps ++ t) (k * length vs) (length-les k vs) in
    ap₂ (λ (l : List ℕ) (qs : List Part). part k l ∷ qs) (ap (nums k (length vs)) e1 ∙ nums-les k vs (laid ps ++ t) f.0)
    (read-laid ps (at + k * length vs) s t f.1 next)

-- what is read, laid again, with what stands behind it
pub laid-read : (hs : List Shape) (at : ℕ) (s : List ℕ) → Bytes s → at + bytes_in hs ≤ length s → laid (read_parts hs at s) ++ drop (at + bytes_in hs) s ≡ drop at s
unfolding laid read_parts bytes_in
laid-read [] at s b h =
    let z : at + 0 ≡ at = omega arith in
    ap (λ (j : ℕ). drop j s) z
laid-read (h ∷ hs) at s b g =
    let d = h.wide * h.many in
    let z : at + (d + bytes_in hs) ≡ (at + d) + bytes_in hs = omega arith in
    let l = les h.wide (nums h.wide h.many (drop at s)) in
    append_assoc l (laid (read_parts hs (at + d) s)) (drop (at + (d + bytes_in hs)) s)
    ∙ ap (λ (j : ℕ). l ++ (laid (read_parts hs (at + d) s) ++ drop j s)) z
    ∙ ap (λ (t : List ℕ). l ++ t) (laid-read hs (at + d) s b (omega (arith, g)) ∙ sym (drop-drop d at s))
    ∙ les-nums h.wide h.many (drop at s) (bytes_drop at s b) (omega (arith, g, length-drop at s))

pub read-shapes : (hs : List Shape) (at : ℕ) (s : List ℕ) → shapes_of (read_parts hs at s) ≡ hs
unfolding read_parts shapes_of
read-shapes [] at s = refl
read-shapes (h ∷ hs) at s =
    ap₂ (λ (c : ℕ) (is : List Shape). shape h.wide c ∷ is) (length-nums h.wide h.many (drop at s)) (read-shapes hs (at + h.wide * h.many) s)

pub read-fit : (hs : List Shape) (at : ℕ) (s : List ℕ) → Bytes s → PartsFit (read_parts hs at s)
unfolding read_parts PartsFit
read-fit [] at s b = tt
read-fit (h ∷ hs) at s b = (nums-lt h.wide h.many (drop at s) (bytes_drop at s b), read-fit hs (at + h.wide * h.many) s b)
