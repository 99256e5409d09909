-- Reading the image of a run gives the run back, and the image of what was read is the file: so a run has one image and a file one run. The front is
-- three parts of known shapes, which tell the shapes of the rest. Assumes nothing.
use Rattle.pwl.proofs.Kit.{◌≡◌, refl, sym, ap, ap₂, ◌∙◌, subst, Bool, true, false, cond, not, ◌||◌, true≢false, List, [], ◌∷◌, ◌++◌, append-nil, ℕ, ◌+◌, ◌*◌, ◌/◌, ◌≤◌, arith, eqb, ltb, ltb-false, eqb-true, not-false, le-ltb, eq-eqb, length-append, length, get_or, drop, drop_of_length-le, drop-drop, drop_at}
use Rattle.encoding.specs.Ranks.{by_rank}
use Rattle.pwl.specs.Bytes.{items, num, Bytes, Below}
use Rattle.pwl.specs.declared.Front.{Front}
use Rattle.pwl.specs.File.{Run, Part, laid, mark, version, front_of, front_for, front, front_bytes, body, image, Shape, shape, shapes_by, shapes, bytes_in, read_parts, front_at, numbers_at, run_of, run_by, read_run, bad_mark, bad_version, whole_len, file_fault, PartsFit, shapes_of, Fit}
use Rattle.pwl.proofs.Round.{length-nums, num-lt, bytes_drop}
use Rattle.pwl.proofs.Parts.{length-laid, read-laid, laid-read, read-shapes, read-fit}

-- ---- the front

-- what stands in the first 41 bytes: the parts of the front f
pub record Fronted (f : Front) (s : List ℕ) : Type 0 where
  pub marked : num 3 s ≡ mark
  pub of-version : num 2 (drop 3 s) ≡ version
  pub numbers : front_at s ≡ f

hop : (k i j : ℕ) (s : List ℕ) → num k (drop i (drop j s)) ≡ num k (drop (j + i) s)
hop k i j s = ap (num k) (drop-drop i j s)

pub front_is : (n m a b c k : ℕ) (f : Front) → n ≡ f.n → m ≡ f.m → a ≡ f.order → b ≡ f.listed → c ≡ f.extra → k ≡ f.entries → front_of n m a b c k ≡ f
front_is n m a b c k f e1 e2 e3 e4 e5 e6 = rw (e1, e2, e3, e4, e5, e6)

pub front_length : (f : Front) → length (laid (front f)) ≡ front_bytes
unfolding front shapes_of bytes_in
front_length f = length-laid (front f)

-- number i of part j
item : (j i : ℕ) {ps qs : List Part} → ps ≡ qs → get_or (numbers_at ps j) i 0 ≡ get_or (numbers_at qs j) i 0
item j i e = ap (λ (ps : List Part). get_or (numbers_at ps j) i 0) e

pub fronted : (f : Front) (s t : List ℕ) → PartsFit (front f) → s ≡ laid (front f) ++ t → Fronted f s
unfolding front read_parts shapes_of items front_at
fronted f s t fit e =
    let r = read-laid (front f) 0 s t fit e in
    let d7 : drop 7 s ≡ drop 2 (drop 2 (drop 3 s)) = sym (ap (drop 2) (drop-drop 2 3 s) ∙ drop-drop 2 5 s) in
    let d25 : drop 25 s ≡ drop 8 (drop 8 (drop 9 s)) = sym (ap (drop 8) (drop-drop 8 9 s) ∙ drop-drop 8 17 s) in
    let d33 : drop 33 s ≡ drop 8 (drop 8 (drop 8 (drop 9 s))) = sym (drop-drop 8 25 s) ∙ ap (drop 8) d25 in
    record {
      marked = item 0 0 r;
      of-version = item 1 0 r;
      numbers =
          front_is _ _ _ _ _ _ f (sym (hop 2 2 3 s) ∙ item 1 1 r) (ap (num 2) d7 ∙ item 1 2 r)
          (item 2 0 r) (sym (hop 8 8 9 s) ∙ item 2 1 r) (ap (num 8) d25 ∙ item 2 2 r) (ap (num 8) d33 ∙ item 2 3 r);
    }

-- ---- the image is read back

behind : (r : Run) → drop front_bytes (image r) ≡ laid (body r)
unfolding image
behind r = drop_at (laid (front (front_for r))) (laid (body r)) front_bytes (front_length (front_for r))

pub on-image : (r : Run) → Fit r → Fronted (front_for r) (image r)
unfolding image
on-image r w = fronted (front_for r) (image r) (laid (body r)) w.front_fits refl

again : (r : Run) → run_of r.n r.m (body r) ≡ r
unfolding run_of body
again r = refl

pub read-image : (r : Run) → Fit r → read_run (image r) ≡ r
unfolding run_by
read-image r w =
    let s = image r in
    ap (λ (f : Front). run_by f s) (on-image r w).numbers
    ∙ ap (run_of r.n r.m) (ap (λ (hs : List Shape). read_parts hs front_bytes s) (sym w.long)
    ∙ read-laid (body r) front_bytes s [] w.body-fits (behind r ∙ sym (append-nil (laid (body r)))))
    ∙ again r

-- Two runs with one image are one.
pub image-one : (r r' : Run) → Fit r → Fit r' → image r ≡ image r' → r ≡ r'
image-one r r' w w' e = sym (read-image r w) ∙ ap read_run e ∙ read-image r' w'

-- ---- what is known of a file with which nothing is wrong

pub record Good (s : List ℕ) : Type 0 where
  pub marked : num 3 s ≡ mark
  pub of-version : num 2 (drop 3 s) ≡ version
  pub sized : length s ≡ whole_len (front_at s)

or-false : (x y : Bool) → (x || y) ≡ false → (x ≡ false) × (y ≡ false)
or-false true y e = absurd (true≢false e)
or-false false y e = (refl, e)

none : (a b c d : Bool) → ◌≡◌ {A = ℕ} (cond a 17 (cond b 18 (cond c 19 (cond d 20 0)))) 0 → (a ≡ false) × (b ≡ false) × (c ≡ false) × (d ≡ false)
none true b c d e = absurd (omega (arith, e))
none false true c d e = absurd (omega (arith, e))
none false false true d e = absurd (omega (arith, e))
none false false false true e = absurd (omega (arith, e))
none false false false false e = (refl, refl, refl, refl)

pub good : (s : List ℕ) → file_fault s ≡ 0 → Good s
unfolding by_rank
good s e =
    let whole = whole_len (front_at s) in
    let g = none (bad_mark s) (bad_version s) (ltb (length s) whole) (ltb whole (length s)) e in
    record {
      marked = eqb-true (num 3 s) mark (not-false _ (or-false (ltb (length s) 3) (not (eqb (num 3 s) mark)) g.0).1);
      of-version = eqb-true (num 2 (drop 3 s)) version (not-false _ (or-false (ltb (length s) 5) (not (eqb (num 2 (drop 3 s)) version)) g.1).1);
      sized = omega (arith, ltb-false (length s) whole g.2, ltb-false whole (length s) g.3);
    }

pub whole-least : (f : Front) → front_bytes ≤ whole_len f
unfolding whole_len
whole-least f = omega arith

pub no-fault : (s : List ℕ) → Good s → file_fault s ≡ 0
unfolding by_rank
no-fault s g =
    let h = whole-least (front_at s) in
    simp (
      le-ltb (length s) 3 (omega (arith, h, g.sized)),
      eq-eqb (num 3 s) mark g.marked,
      le-ltb (length s) 5 (omega (arith, h, g.sized)),
      eq-eqb (num 2 (drop 3 s)) version g.of-version,
      le-ltb (length s) (whole_len (front_at s)) (omega (arith, g.sized)),
      le-ltb (whole_len (front_at s)) (length s) (omega (arith, g.sized)),
    )

-- The image of a run is a file with which nothing is wrong.
pub whole_length : (r : Run) → shapes_of (body r) ≡ shapes (front_for r) → length (image r) ≡ whole_len (front_for r)
unfolding image whole_len
whole_length r e =
    length-append (laid (front (front_for r))) (laid (body r)) ∙ ap₂ ◌+◌ (front_length (front_for r)) (length-laid (body r) ∙ ap bytes_in e)

pub image-good : (r : Run) → Fit r → file_fault (image r) ≡ 0
image-good r w =
    let f = on-image r w in
    no-fault (image r) (record { marked = f.marked; of-version = f.of-version; sized = whole_length r w.long ∙ sym (ap whole_len f.numbers) })

-- ---- the image of what was read

abbrev front_shapes : List Shape
front_shapes = shape 3 1 ∷ shape 2 3 ∷ shape 8 4 ∷ []

front_read : (s : List ℕ) → Good s → front (front_at s) ≡ read_parts front_shapes 0 s
unfolding front read_parts items front_at
front_read s g =
    let d7 : drop 7 s ≡ drop 2 (drop 2 (drop 3 s)) = sym (ap (drop 2) (drop-drop 2 3 s) ∙ drop-drop 2 5 s) in
    let d25 : drop 25 s ≡ drop 8 (drop 8 (drop 9 s)) = sym (ap (drop 8) (drop-drop 8 9 s) ∙ drop-drop 8 17 s) in
    let d33 : drop 33 s ≡ drop 8 (drop 8 (drop 8 (drop 9 s))) = sym (drop-drop 8 25 s) ∙ ap (drop 8) d25 in
    let e5 : num 2 (drop 2 (drop 3 s)) ≡ num 2 (drop 5 s) = hop 2 2 3 s in
    let e17 : num 8 (drop 8 (drop 9 s)) ≡ num 8 (drop 17 s) = hop 8 8 9 s in
    rw (g.marked, g.of-version, e5, sym (ap (num 2) d7), e17, sym (ap (num 8) d25), sym (ap (num 8) d33))

front-back : (s : List ℕ) → Bytes s → Good s → laid (front (front_at s)) ++ drop front_bytes s ≡ s
unfolding bytes_in
front-back s b g =
    ap (λ (ps : List Part). laid ps ++ drop front_bytes s) (front_read s g)
    ∙ laid-read front_shapes 0 s b (omega (arith, whole-least (front_at s), g.sized))

parts-of : (f : Front) (s : List ℕ) → body (run_by f s) ≡ read_parts (shapes f) front_bytes s
unfolding run_by run_of body read_parts shapes_by
parts-of f s = refl

-- as many numbers as its front says
pub counted : (f : Front) (s : List ℕ) → front_for (run_by f s) ≡ f
unfolding run_by run_of read_parts shapes_by
counted f s =
    let units : length (run_by f s).log ≡ 2 * f.entries = length-nums 2 (2 * f.entries) _ in
    let half : length (run_by f s).log / 2 ≡ f.entries = omega (arith, units) in
    front_is _ _ _ _ _ _ f refl refl (length-nums 2 f.order _) (length-nums 2 f.listed _) (length-nums 2 f.extra _) half

-- Every file with which nothing is wrong is the image of what is read from it: no other file is read as this run.
pub image-read : (s : List ℕ) → Bytes s → file_fault s ≡ 0 → image (read_run s) ≡ s
unfolding image whole_len
image-read s b e =
    let g = good s e in
    let f = front_at s in
    let rest : laid (body (read_run s)) ≡ drop front_bytes s =
    ap laid (parts-of f s) ∙ sym (append-nil (laid (read_parts (shapes f) front_bytes s)))
    ∙ ap (λ (t : List ℕ). laid (read_parts (shapes f) front_bytes s) ++ t) (sym (drop_of_length-le s {i = front_bytes + bytes_in (shapes f)} (omega (arith, g.sized))))
    ∙ laid-read (shapes f) front_bytes s b (omega (arith, g.sized)) in
    ap₂ (λ (h : Front) (t : List ℕ). laid (front h) ++ t) (counted f s) rest ∙ front-back s b g

front_fits : (s : List ℕ) → Bytes s → PartsFit (front (front_at s))
unfolding front front_at PartsFit Below
front_fits s b = (
  (omega arith, tt),
  (
    (omega arith, (num-lt 2 (drop 5 s) (bytes_drop 5 s b), (num-lt 2 (drop 7 s) (bytes_drop 7 s b), tt))),
    ((num-lt 8 (drop 9 s) (bytes_drop 9 s b), (num-lt 8 (drop 17 s) (bytes_drop 17 s b), (num-lt 8 (drop 25 s) (bytes_drop 25 s b), (num-lt 8 (drop 33 s) (bytes_drop 33 s b), tt)))), tt),
  ),
)

-- What is read fits: it has an image.
pub read_fits : (s : List ℕ) → Bytes s → Fit (read_run s)
read_fits s b =
    let f = front_at s in
    record {
      front_fits = subst (λ (h : Front). PartsFit (front h)) (sym (counted f s)) (front_fits s b);
      body-fits = subst PartsFit (sym (parts-of f s)) (read-fit (shapes f) front_bytes s b);
      long = ap shapes_of (parts-of f s) ∙ read-shapes (shapes f) front_bytes s ∙ sym (ap shapes (counted f s));
    }
