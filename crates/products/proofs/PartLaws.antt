-- Parts of words that are written: what stands there, and what writing one leaves of the others. Words are what lies before a part, the part, and what
-- lies behind it, so that they are settled by the part and by what is outside (`outside-one`). Assumes nothing.
use Rattle.std.proofs.Common.{◌≡◌, ℕ, zero, suc, ◌+◌, ◌-◌, ◌*◌, ◌%◌, ◌<◌, ◌≤◌, Bool, ◌≢◌, List, [], ◌∷◌, ◌++◌, length, take, drop, sym, refl, ap, ◌∙◌, subst, ap₂, arith, length-take-le, take_all, take-take, drop-drop, take_at, drop_at}
use native.Mathlib.Decide.{dec_lt}
use lib.Arith.{lt_of_le-ne}
use native.Mathlib.Nat.{add-sub_cancel_left}
use borrow.Rule.Slice.PartMut.{post_of, put_mid, put_same, same_len_mid, take_put, drop_put}
use Rattle.encoding.proofs.Parts.{row-end, length_part}
use Rattle.pauli.specs.Pauli.{Pauli, has_x, has_z, mul, act, act_phase}
use Rattle.encoding.specs.Words.{unpack, unbits, pack}
use Rattle.encoding.specs.Set.{part, row}
use Rattle.products.specs.declared.Factor.{Factor}
use Rattle.products.specs.Leaves.{FactorOf, Acted, RowAction, SameLength, Outside, Product, ProductAt, RowProduct, shortest₃, shortest₆}

-- the parts from a to e of six runs that all reach e
pub parts_same : (lx lz rx rz ox oz : List ℕ) (a e : ℕ) → a ≤ e → e ≤ length lx → e ≤ length lz → e ≤ length rx → e ≤ length rz → e ≤ length ox → e ≤ length oz
    → SameLength (length (part a e lx)) (part a e lx) (part a e lz) (part a e rx) (part a e rz) (part a e ox) (part a e oz)
parts_same lx lz rx rz ox oz a e h k k₁ k₂ k₃ k₄ k₅ =
    let at : (xs : List ℕ) → e ≤ length xs → length (part a e xs) ≡ length (part a e lx) = λ xs l. length_part a e xs h l ∙ sym (length_part a e lx h k) in
    record { in-lx = refl; in-lz = at lz k₁; in-rx = at rx k₂; in-rz = at rz k₃; in-ox = at ox k₄; in-oz = at oz k₅ }

-- a part of a list that was written: what is there, and what is outside
pub part-put : (a e : ℕ) (xs ys : List ℕ) → a ≤ e → e ≤ length xs → length ys ≡ e - a → part a e (put_mid a (e - a) xs ys) ≡ ys
part-put a e xs ys h k l =
    ap (take (e - a)) (drop_at (take a xs) (ys ++ post_of a (e - a) xs) a (length-take-le a xs (omega arith))) ∙ take_at ys (post_of a (e - a) xs) (e - a) l

pub outside-put : (a e : ℕ) (xs ys : List ℕ) → a ≤ e → e ≤ length xs → length ys ≡ e - a → Outside a e xs (put_mid a (e - a) xs ys)
outside-put a e xs ys h k l =
    record {
      long = same_len_mid a (e - a) xs ys (l ∙ sym (length_part a e xs h k));
      before = take_put a (e - a) xs ys (omega arith);
      after = drop_put a e xs ys h k l;
    }

-- words whose outside is as it was
pub put_is : (s w : ℕ) {old new : List ℕ} → Outside s (s + w) old new → new ≡ put_mid s w old (part s (s + w) new)
put_is s w {old} {new} o =
    sym (put_same s w new)
    ∙ ap₂ (λ u v. u ++ (take w (drop s new) ++ v)) o.before (drop-drop w s new ∙ o.after ∙ sym (drop-drop w s old))
    ∙ ap (λ k. put_mid s w old (take k (drop s new))) (sym (add-sub_cancel_left s w))

-- so words are settled by what is outside and what stands in the part
pub outside-one : (s w : ℕ) {old new₁ new₂ : List ℕ} → Outside s (s + w) old new₁ → Outside s (s + w) old new₂ → part s (s + w) new₁ ≡ part s (s + w) new₂ → new₁ ≡ new₂
outside-one s w {old} o p e = put_is s w o ∙ ap (put_mid s w old) e ∙ sym (put_is s w p)

-- what a call on the parts gives, said of the whole
pub product_at : {lx lz rx rz : List ℕ} (ox oz : List ℕ) (a e : ℕ) {px pz : List ℕ} {p : Factor} → a ≤ e → e ≤ length ox → e ≤ length oz
    → length px ≡ length (part a e ox) → length pz ≡ length (part a e oz)
    → Product (part a e lx) (part a e lz) (part a e rx) (part a e rz) px pz p
    → ProductAt a e lx lz rx rz ox oz (put_mid a (e - a) ox px) (put_mid a (e - a) oz pz) p
product_at {lx} {lz} {rx} {rz} ox oz a e {px} {pz} {p} h kx kz hx hz q =
    let lx' : length px ≡ e - a = hx ∙ length_part a e ox h kx in
    let lz' : length pz ≡ e - a = hz ∙ length_part a e oz h kz in
    record {
      here =
          subst (λ (u : List ℕ). Product (part a e lx) (part a e lz) (part a e rx) (part a e rz) u (part a e (put_mid a (e - a) oz pz)) p)
          (sym (part-put a e ox px h kx lx'))
          (subst (λ (v : List ℕ). Product (part a e lx) (part a e lz) (part a e rx) (part a e rz) px v p) (sym (part-put a e oz pz h kz lz')) q);
      x-rest = outside-put a e ox px h kx lx';
      z-rest = outside-put a e oz pz h kz lz';
    }

-- ---- the other rows

take-inside : (n b a : ℕ) (xs : List ℕ) → b + n ≤ a → take n (drop b (take a xs)) ≡ take n (drop b xs)
take-inside n zero a xs h = take-take n a xs (omega arith)
take-inside n (suc b) zero xs h = absurd (omega arith)
take-inside n (suc b) (suc a) [] h = refl
take-inside n (suc b) (suc a) (x ∷ xs) h = take-inside n b a xs (omega arith)

-- a part that ends before the written one, or starts after it
pub part-below : {a e b f : ℕ} {old new : List ℕ} → Outside a e old new → b ≤ f → f ≤ a → part b f new ≡ part b f old
part-below {a} {e} {b} {f} {old} {new} o h k =
    sym (take-inside (f - b) b a new (omega arith)) ∙ ap (λ (l : List ℕ). take (f - b) (drop b l)) o.before ∙ take-inside (f - b) b a old (omega arith)

pub part-above : {a e b : ℕ} (f : ℕ) {old new : List ℕ} → Outside a e old new → e ≤ b → part b f new ≡ part b f old
part-above {a} {e} {b} f {old} {new} o h =
    let from : (l : List ℕ) → drop b l ≡ drop (b - e) (drop e l) = λ l. ap (λ (n : ℕ). drop n l) (add_back b e h) ∙ sym (drop-drop (b - e) e l) in
    ap (take (f - b)) (from new ∙ ap (drop (b - e)) o.after ∙ sym (from old))
  where
    add_back : (b e : ℕ) → e ≤ b → b ≡ e + (b - e)
    add_back b e h = omega arith

pub row_other : (w k r : ℕ) {old new : List ℕ} → Outside (r * w) (r * w + w) old new → k ≢ r → row w k new ≡ row w k old
row_other w k r {old} {new} o ne = go (dec_lt k r)
  where
    go : Dec (k < r) → row w k new ≡ row w k old
    go (yes h) = part-below o (omega arith) (row-end k w h)
    go (no h) = part-above (k * w + w) o (row-end r w (lt_of_le-ne (omega arith) (λ (e : r ≡ k). ne (sym e))))

-- ---- parts of the same length: the leaf does all of them

pub whole : (k : ℕ) (l : List ℕ) → k ≡ length l → part 0 k l ≡ l
whole k l e = take_all (k - 0) l (omega arith)

pub same-product : {lx lz rx rz ox oz ox' oz' : List ℕ} {e : Factor} → SameLength (length lx) lx lz rx rz ox oz → RowProduct lx lz rx rz ox oz ox' oz' e → Product lx lz rx rz ox' oz' e
same-product {lx} {lz} {rx} {rz} {ox} {oz} {ox'} {oz'} {e} s p =
    let k = shortest₆ lx lz rx rz ox oz in
    let is : k ≡ length lx = omega (arith, s.in-lz, s.in-rx, s.in-rz, s.in-ox, s.in-oz) in
    let l : unpack (part 0 k lx) (part 0 k lz) ≡ unpack lx lz = ap₂ unpack (whole k lx is) (whole k lz (is ∙ sym s.in-lz)) in
    let r : unpack (part 0 k rx) (part 0 k rz) ≡ unpack rx rz = ap₂ unpack (whole k rx (is ∙ sym s.in-rx)) (whole k rz (is ∙ sym s.in-rz)) in
    record {
      x-words = sym (whole k ox' (is ∙ sym (p.x-rest.long ∙ s.in-ox))) ∙ p.here.x-words ∙ ap₂ (pack has_x) (ap length (whole k lx is)) (ap₂ mul l r);
      z-words = sym (whole k oz' (is ∙ sym (p.z-rest.long ∙ s.in-oz))) ∙ p.here.z-words ∙ ap₂ (pack has_z) (ap length (whole k lx is)) (ap₂ mul l r);
      factor = subst (λ (a : List Pauli). FactorOf a (unpack rx rz) e) l (subst (λ (b : List Pauli). FactorOf (unpack (part 0 k lx) (part 0 k lz)) b e) r p.here.factor);
    }

-- the parts from a to e were lent, and put back
pub part-product : {lx lz rx rz ox oz : List ℕ} (a e : ℕ) {px pz : List ℕ} {p : Factor} → a ≤ e → e ≤ length lx → SameLength (length lx) lx lz rx rz ox oz
    → length px ≡ length (part a e ox) → length pz ≡ length (part a e oz)
    → RowProduct (part a e lx) (part a e lz) (part a e rx) (part a e rz) (part a e ox) (part a e oz) px pz p
    → ProductAt a e lx lz rx rz ox oz (put_mid a (e - a) ox px) (put_mid a (e - a) oz pz) p
part-product {lx} {lz} {rx} {rz} {ox} {oz} a e h k s hx hz q =
    let to : (l : List ℕ) → length l ≡ length lx → e ≤ length l = λ l g. omega arith in
    product_at ox oz a e h (to ox s.in-ox) (to oz s.in-oz) hx hz
    (same-product (parts_same lx lz rx rz ox oz a e h k (to lz s.in-lz) (to rx s.in-rx) (to rz s.in-rz) (to ox s.in-ox) (to oz s.in-oz)) q)

pub same-action : {lx lz st st' : List ℕ} {e : ℕ} → length lz ≡ length lx → length st ≡ length lx → RowAction lx lz st st' e → Acted lx lz st st' e
same-action {lx} {lz} {st} {st'} {e} hz hs p =
    let k = shortest₃ lx lz st in
    let is : k ≡ length lx = omega arith in
    let l : unpack (part 0 k lx) (part 0 k lz) ≡ unpack lx lz = ap₂ unpack (whole k lx is) (whole k lz (is ∙ sym hz)) in
    let s : unbits (part 0 k st) ≡ unbits st = ap unbits (whole k st (is ∙ sym hs)) in
    record {
      state = sym (whole k st' (is ∙ sym (p.rest.long ∙ hs))) ∙ p.here.state ∙ ap₂ (pack (λ (b : Bool). b)) (ap length (whole k lx is)) (ap₂ act l s);
      exponent = p.here.exponent ∙ ap₂ (λ (a : List Pauli) (b : List Bool). act_phase a b % 4) l s;
    }
