-- Numbers: what is read is what `Spells` says, and no more; the digits that writers lay spell their number, so reading gives it back.
-- Both by following the digits: after some of them the reader stands at the number that they make, with a place less for each.
use Rattle.text.proofs.Kit.{◌≡◌, refl, ap, ◌∙◌, Bool, true, false, cond, List, [], ◌∷◌, ◌++◌, ℕ, zero, suc, ◌+◌, ◌*◌, ◌-◌, ◌/◌, ◌%◌, ◌^◌, ◌<◌, ◌≤◌, arith, ltb, leb, ltb-true, leb-true, lt-ltb, le-leb, length, length-append, by, and_left, and_right}
use native.Mathlib.Nat.{pow-suc, pow-zero, div-add-mod', div-lt_iff_lt-mul, mod-lt, le-mul_of_pos_right, pow-le-pow_right}
use Rattle.text.specs.Readers.{Got, none, got}
use Rattle.text.specs.Numbers.{glyph, digits, size, numeral, digit_of, places, takes, further, number, worth, Digits, Spells, Stops}
use Rattle.text.proofs.Digits.{digit_glyph}

pub length_digits : (b k v : ℕ) → length (digits b k v) ≡ k
length_digits b zero v = refl
length_digits b (suc k) v =
    length-append (digits b k (v / b)) (glyph (v % b) ∷ []) ∙ (rw (length_digits b k (v / b)) (omega arith))

-- text is a number and what follows it
pub record Split {A : Type 0} (Item : A → List ℕ → Type 0) (Ends : List ℕ → Type 0) (s : List ℕ) (v : A) (t : List ℕ) : Type 0 where
  pub text : List ℕ
  pub is : s ≡ text ++ t
  pub item : Item v text
  pub ends : Ends t

module _ (b top : ℕ) (two : 2 ≤ b) where
  grows : (v d : ℕ) → v ≤ v * b + d
  grows v d = omega (arith, le-mul_of_pos_right {m = b} v (omega arith))

  pub worth-grows : (w : List ℕ) (v : ℕ) → v ≤ worth b v w
  worth-grows [] v = omega arith
  worth-grows (c ∷ w) v = omega (arith, grows v (digit_of c), worth-grows w (v * b + digit_of c))

  -- ---- what spells a number is read

  step : (first : Bool) (left v c : ℕ) (t : List ℕ) → digit_of c < b → 0 < left → v * b + digit_of c ≤ top → further b top first left v (c ∷ t) ≡ further b top false (left - 1) (v * b + digit_of c) t
  unfolding further
  step first left v c t h l k = rw (lt-ltb (digit_of c) b h, lt-ltb 0 left l, le-leb (v * b + digit_of c) top k)

  stop : (left v : ℕ) (t : List ℕ) → Stops b t → further b top false left v t ≡ got v t
  unfolding further
  stop left v [] h = refl
  stop left v (c ∷ t) h = rw h

  run : (w : List ℕ) (left v : ℕ) (t : List ℕ) → Digits b w → length w ≤ left → worth b v w ≤ top → Stops b t → further b top false left v (w ++ t) ≡ got (worth b v w) t
  run [] left v t d l k h = stop left v t h
  run (c ∷ w) left v t d l k h =
      step false left v c (w ++ t) d.0 (omega arith) (omega (arith, worth-grows w (v * b + digit_of c)))
      ∙ run w (left - 1) (v * b + digit_of c) t d.1 (omega arith) k h

  spelled-within : (w : List ℕ) {v : ℕ} → Spells b top v w → worth b 0 w ≤ top
  spelled-within w r = omega (arith, r.makes, r.within)

  pub number-back : (w : List ℕ) {v : ℕ} (t : List ℕ) → Spells b top v w → Stops b t → number b top (w ++ t) ≡ got v t
  number-back [] t r h = absurd (omega (arith, r.some))
  number-back (c ∷ w) t r h =
      let k = spelled-within (c ∷ w) r in
      step true (places b) 0 c (w ++ t) r.all.0 (omega (arith, r.few)) (omega (arith, worth-grows w (0 * b + digit_of c)))
      ∙ run w (places b - 1) (0 * b + digit_of c) t r.all.1 (omega (arith, r.few)) k h
      ∙ ap (λ (n : ℕ). got n t) r.makes

  -- ---- what is read spells a number

  -- behind digits that make v, with so many places left
  record Found (left v : ℕ) (s : List ℕ) (x : ℕ) (t : List ℕ) : Type 0 where
    text : List ℕ
    is : s ≡ text ++ t
    all : Digits b text
    few : length text ≤ left
    makes : worth b v text ≡ x
    within : x ≤ top
    ends : Stops b t

  done : (left v : ℕ) (s : List ℕ) (x : ℕ) (t : List ℕ) → v ≤ top → Stops b s → got v s ≡ got x t → Found left v s x t
  done left v s x t h k e =
      let i : v ≡ x = cc in
      let j : s ≡ t = cc in
      rw (← i, ← j) (record { text = []; is = refl; all = tt; few = omega arith; makes = refl; within = h; ends = k })

  -- a digit before what was found
  before : {left v c : ℕ} {s : List ℕ} {x : ℕ} {t : List ℕ} → digit_of c < b → 0 < left → Found (left - 1) (v * b + digit_of c) s x t → Found left v (c ∷ s) x t
  before {left} {v} {c} d l f =
      record {
        text = c ∷ f.text;
        is = ap (λ (u : List ℕ). c ∷ u) f.is;
        all = (d, f.all);
        few = omega (arith, f.few);
        makes = f.makes;
        within = f.within;
        ends = f.ends;
      }

  -- a byte is no digit, or one that is taken
  at_byte : {P : Type 0} (left v c : ℕ) (s : List ℕ) (x : ℕ) (t : List ℕ) (g : Got ℕ) → (digit_of c < b → 0 < left → v * b + digit_of c ≤ top → further b top false (left - 1) (v * b + digit_of c) s ≡ got x t → P) → (ltb (digit_of c) b ≡ false → g ≡ got x t → P) → (i : Bool) → ltb (digit_of c) b ≡ i → (j : Bool) → takes b top left v (digit_of c) ≡ j → cond i (cond j (further b top false (left - 1) (v * b + digit_of c) s) none) g ≡ got x t → P
  at_byte left v c s x t g r o false i j k e = o i e
  at_byte left v c s x t g r o true i false k e = let z : ◌≡◌ {A = ℕ} 0 1 = cc in absurd (omega arith)
  at_byte left v c s x t g r o true i true k e =
      r (ltb-true (digit_of c) b i)
      (ltb-true 0 left (and_left (ltb 0 left) (leb (v * b + digit_of c) top) k))
      (leb-true (v * b + digit_of c) top (and_right (ltb 0 left) (leb (v * b + digit_of c) top) k))
      e

  passed : (s : List ℕ) (left v x : ℕ) (t : List ℕ) → v ≤ top → further b top false left v s ≡ got x t → Found left v s x t
  unfolding further
  passed [] left v x t h e = done left v [] x t h tt e
  passed (c ∷ s) left v x t h e =
      at_byte left v c s x t (got v (c ∷ s)) (λ d l q k. before d l (passed s (left - 1) (v * b + digit_of c) x t q k)) (done left v (c ∷ s) x t h) (ltb (digit_of c) b) refl (takes b top left v (digit_of c)) refl e

  pub number-only : (s : List ℕ) (x : ℕ) (t : List ℕ) → number b top s ≡ got x t → Split (Spells b top) (Stops b) s x t
  unfolding further
  number-only [] x t e = let z : ◌≡◌ {A = ℕ} 0 1 = cc in absurd (omega arith)
  number-only (c ∷ s) x t e =
      at_byte (places b) 0 c s x t none (λ d l q k. some d l (passed s (places b - 1) (0 * b + digit_of c) x t q k)) (λ i k. let z : ◌≡◌ {A = ℕ} 0 1 = cc in absurd (omega arith)) (ltb (digit_of c) b) refl (takes b top (places b) 0 (digit_of c)) refl e
    where
      some : digit_of c < b → 0 < places b → Found (places b - 1) (0 * b + digit_of c) s x t → Split (Spells b top) (Stops b) (c ∷ s) x t
      some d l f =
          record {
            text = c ∷ f.text;
            is = ap (λ (u : List ℕ). c ∷ u) f.is;
            item = record { all = (d, f.all); some = omega arith; few = omega (arith, f.few); makes = f.makes; within = f.within };
            ends = f.ends;
          }

-- ---- the digits that writers lay

worth-append : (b v : ℕ) (w u : List ℕ) → worth b v (w ++ u) ≡ worth b (worth b v w) u
worth-append b v [] u = refl
worth-append b v (c ∷ w) u = worth-append b (v * b + digit_of c) w u

digits_append : (b : ℕ) (w : List ℕ) (c : ℕ) → Digits b w → digit_of c < b → Digits b (w ++ (c ∷ []))
digits_append b [] c d h = (h, tt)
digits_append b (e ∷ w) c d h = (d.0, digits_append b w c d.1 h)

module _ (b : ℕ) (two : 2 ≤ b) (sixteen : b ≤ 16) where
  back-digit : (v : ℕ) → digit_of (glyph (v % b)) ≡ v % b
  back-digit v = digit_glyph (v % b) (omega (arith, mod-lt v {m = b} (omega arith)))

  digits-all : (k v : ℕ) → Digits b (digits b k v)
  digits-all zero v = tt
  digits-all (suc k) v =
      digits_append b (digits b k (v / b)) (glyph (v % b)) (digits-all k (v / b)) (rw (back-digit v) (mod-lt v {m = b} (omega arith)))

  worth-digits : (k v : ℕ) → v < b ^ k → worth b 0 (digits b k v) ≡ v
  worth-digits zero v h = omega (arith, pow-zero b)
  worth-digits (suc k) v h =
      let q : v / b < b ^ k = (div-lt_iff_lt-mul {k = b} {x = v} (omega arith)).1 (omega (arith, pow-suc b k)) in
      worth-append b 0 (digits b k (v / b)) (glyph (v % b) ∷ [])
      ∙ (rw (worth-digits k (v / b) q, back-digit v) (div-add-mod' v b))

  pub digits-spell : (top k v : ℕ) → 0 < k → k ≤ places b → v < b ^ k → v ≤ top → Spells b top v (digits b k v)
  digits-spell top k v p f h l =
      record {
        all = digits-all k v;
        some = omega (arith, length_digits b k v);
        few = omega (arith, length_digits b k v);
        makes = worth-digits k v h;
        within = l;
      }

  pow-one : b ^ 1 ≡ b
  pow-one = pow-suc b 0 ∙ rw (pow-zero b) (omega arith)

  -- as many digits as a number has are enough for it, and no more than hold it
  size_holds : (f v : ℕ) → v < b ^ suc f → v < b ^ size b f v
  size_holds zero v h = h
  size_holds (suc f) v h =
      by (λ (n : ℕ). v < b ^ n) (ltb v b) (λ e. rw pow-one (ltb-true v b e))
      (λ e. let q = size_holds f (v / b) ((div-lt_iff_lt-mul {k = b} {x = v} (omega arith)).1 (omega (arith, pow-suc b (suc f)))) in omega (arith, (div-lt_iff_lt-mul {k = b} {x = v} {y = b ^ size b f (v / b)} (omega arith)).0 q, pow-suc b (size b f (v / b))))

  size_few : (f k v : ℕ) → v < b ^ suc k → size b f v ≤ suc k
  size_few zero k v h = omega arith
  size_few (suc f) zero v h = rw (lt-ltb v b (omega (arith, pow-one))) (omega arith)
  size_few (suc f) (suc k) v h =
      by (λ (n : ℕ). n ≤ suc (suc k)) (ltb v b) (λ e. omega arith)
      (λ e. omega (arith, size_few f k (v / b) ((div-lt_iff_lt-mul {k = b} {x = v} (omega arith)).1 (omega (arith, pow-suc b (suc k))))))

  pub size-some : (f v : ℕ) → 0 < size b f v
  size-some zero v = omega arith
  size-some (suc f) v = by (λ (n : ℕ). 0 < n) (ltb v b) (λ e. omega arith) (λ e. omega arith)

  -- a writer's text spells its number
  pub numeral-spells : (top v k : ℕ) → suc k ≤ places b → k ≤ 20 → v < b ^ suc k → v ≤ top → Spells b top v (numeral b v)
  unfolding numeral
  numeral-spells top v k p l h t =
      let e = size_few 20 k v h in
      let m = pow-le-pow_right {n = b} (omega arith) {i = suc k} {j = 21} (omega arith) in
      digits-spell top (size b 20 v) v (size-some 20 v) (omega arith) (size_holds 20 v (omega arith)) t
