-- Bytes and numbers stored one after the other: what is still to come, over what is there, is the whole over what was there. A byte or a number that is
-- stored goes over to what is there. Assumes nothing.
use Rattle.pwl.proofs.Kit.{◌≡◌, refl, sym, ap, ap₂, ◌∙◌, List, [], ◌∷◌, ◌++◌, append_assoc, append-nil, ℕ, zero, suc, ◌+◌, ◌*◌, ◌-◌, ◌/◌, ◌%◌, ◌<◌, ◌≤◌, arith, add-one, length, length-append, get_or, drop, set, drop_of_length-le, drop-cons}
use Rattle.text.specs.Readers.{over}
use Rattle.text.proofs.Writing.{over_none}
use Rattle.text.proofs.Adding.{length_over, over-append, over-one}
use Rattle.pwl.specs.Bytes.{les_of, le, les}
use Rattle.pwl.specs.declared.Front.{Front}
use Rattle.pwl.specs.File.{Run, Part, part, laid, front_for, body, image, mark, version, front, front_bytes, bytes_in, shapes_of}
use Rattle.pwl.specs.Workers.{parts, task_parts, claim_parts, Put, Imaged}
use Rattle.pwl.proofs.Round.{length-le}
use Rattle.pwl.proofs.Parts.{length-laid}
use Rattle.pwl.proofs.Image.{front_length}

over-cons : (c : ℕ) (t : List ℕ) (p : ℕ) (o : List ℕ) → p < length o → over (c ∷ t) p o ≡ over t (p + 1) (set o p c)
over-cons c t p o h = over-append (c ∷ []) p o (omega arith) t ∙ ap (over t (p + 1)) (sym (over-one c p o h))

-- ---- the bytes of a number

pub byte_next : (left r p b : ℕ) (o : List ℕ) → 0 < left → p < length o → b ≡ r % 256 → over (le (left - 1) (r / 256)) (p + 1) (set o p b) ≡ over (le left r) p o
unfolding le
byte_next zero r p b o l h e = absurd (omega arith)
byte_next (suc left) r p b o l h e =
    let z : suc left - 1 ≡ left = omega arith in
    rw z
    (ap (λ (c : ℕ). over (le left (r / 256)) (p + 1) (set o p c)) e ∙ sym (over-cons (r % 256) (le left (r / 256)) p o h))

pub byte_end : (left r p : ℕ) (o : List ℕ) → left ≤ 0 → over (le left r) p o ≡ o
unfolding le
byte_end zero r p o h = over_none p o
byte_end (suc left) r p o h = absurd (omega arith)

-- ---- the numbers of a list, k bytes each

module _ {A : Type 0} (k : ℕ) (value : A → ℕ) (d : A) (list : List A) where
  pub number_next : (i p : ℕ) (o o' : List ℕ) → i < length list → p + k ≤ length o → o' ≡ over (le k (value (get_or list i d))) p o
      → over (les_of k value (drop (i + 1) list)) (p + k) o' ≡ over (les_of k value (drop i list)) p o
  unfolding les_of
  number_next i p o o' h g e =
      let v = value (get_or list i d) in
      let t = les_of k value (drop (suc i) list) in
      let l = length-le k v in
      let there : p + length (le k v) ≤ length o = omega (arith, l) in
      rw (add-one i) (ap (over t (p + k)) e ∙ ap (λ (j : ℕ). over t (p + j) (over (le k v) p o)) (sym l) ∙ sym (over-append (le k v) p o there t)
      ∙ ap (λ (u : List A). over (les_of k value u) p o) (sym (drop-cons list i d h)))

pub number_end : {A : Type 0} (k : ℕ) (value : A → ℕ) (list : List A) (i p : ℕ) (o : List ℕ) → length list ≤ i → over (les_of k value (drop i list)) p o ≡ o
unfolding les_of
number_end {A} k value list i p o h = ap (λ (u : List A). over (les_of k value u) p o) (drop_of_length-le list h) ∙ over_none p o

-- ---- parts

laid-append : (ps qs : List Part) → laid (ps ++ qs) ≡ laid ps ++ laid qs
unfolding laid
laid-append [] qs = refl
laid-append (p ∷ ps) qs =
    ap (λ (l : List ℕ). les p.wide p.numbers ++ l) (laid-append ps qs) ∙ sym (append_assoc (les p.wide p.numbers) (laid ps) (laid qs))

one-part : (k : ℕ) (vs : List ℕ) (at : ℕ) (o : List ℕ) → over (les k vs) at o ≡ over (laid (part k vs ∷ [])) at o
unfolding laid
one-part k vs at o = ap (λ (l : List ℕ). over l at o) (sym (append-nil (les k vs)))

-- parts, and parts behind them
parts_then : (ps qs : List Part) (at next : ℕ) (o : List ℕ) {p q : List ℕ} → next ≡ at + bytes_in (shapes_of ps) → next ≤ length o
    → p ≡ over (laid ps) at o → q ≡ over (laid qs) next p → q ≡ over (laid (ps ++ qs)) at o
parts_then ps qs at next o n h e f =
    let l = length-laid ps in
    let there : at + length (laid ps) ≤ length o = omega (arith, l) in
    let behind : next ≡ at + length (laid ps) = omega (arith, l) in
    f ∙ ap₂ (λ (j : ℕ) (s : List ℕ). over (laid qs) j s) behind e
    ∙ sym (over-append (laid ps) at o there (laid qs)) ∙ ap (λ (w : List ℕ). over w at o) (sym (laid-append ps qs))

pub three_parts : (k : ℕ) (a b c : List ℕ) (at j i : ℕ) (o : List ℕ) {p q r : List ℕ} → j ≡ at + k * length a → i ≡ j + k * length b → i ≤ length o
    → p ≡ over (les k a) at o → q ≡ over (les k b) j p → r ≡ over (les k c) i q → r ≡ over (laid (parts k a b c)) at o
unfolding bytes_in shapes_of
three_parts k a b c at j i o ej ei h ep eq er =
    parts_then (part k a ∷ part k b ∷ []) (part k c ∷ []) at i o (omega (arith, ej, ei)) h
    (parts_then (part k a ∷ []) (part k b ∷ []) at j o (omega (arith, ej)) (omega (arith, ei, h)) (ep ∙ one-part k a at _) (eq ∙ one-part k b j _))
    (er ∙ one-part k c i _)

pub front_parts : (f : Front) (j : ℕ) (o : List ℕ) {p q r : List ℕ} → front_bytes ≤ length o → j ≡ 9
    → p ≡ over (le 3 mark) 0 o → q ≡ over (les 2 (version ∷ f.n ∷ f.m ∷ [])) 3 p → r ≡ over (les 8 (f.order ∷ f.listed ∷ f.extra ∷ f.entries ∷ [])) j q → r ≡ over (laid (front f)) 0 o
unfolding bytes_in shapes_of front les_of
front_parts f j o {p} {q} h ej ep eq er =
    parts_then (part 3 (mark ∷ []) ∷ part 2 (version ∷ f.n ∷ f.m ∷ []) ∷ []) (part 8 (f.order ∷ f.listed ∷ f.extra ∷ f.entries ∷ []) ∷ []) 0 j o ej (omega arith)
    (parts_then (part 3 (mark ∷ []) ∷ []) (part 2 (version ∷ f.n ∷ f.m ∷ []) ∷ []) 0 3 o refl (omega arith)
    (ep ∙ ap (λ (l : List ℕ). over l 0 o) (sym (append-nil (le 3 mark))) ∙ one-part 3 (mark ∷ []) 0 o) (eq ∙ one-part 2 (version ∷ f.n ∷ f.m ∷ []) 3 p))
    (er ∙ one-part 8 (f.order ∷ f.listed ∷ f.extra ∷ f.entries ∷ []) j q)

-- ---- what stands behind the front, and the whole

-- where the first parts end, and that all are there
bytes-append : (ps qs : List Part) → bytes_in (shapes_of (ps ++ qs)) ≡ bytes_in (shapes_of ps) + bytes_in (shapes_of qs)
unfolding bytes_in shapes_of
bytes-append [] qs = omega arith
bytes-append (p ∷ ps) qs = omega (arith, bytes-append ps qs)

pub three_put : (k : ℕ) (a b c : List ℕ) (at : ℕ) (o : List ℕ) {p : List ℕ} {next : ℕ} → next ≡ at + (k * length a + k * length b + k * length c)
    → p ≡ over (laid (parts k a b c)) at o → Put (parts k a b c) at o p next
unfolding bytes_in shapes_of
three_put k a b c at o n e = record { place = omega (arith, n); bytes = e }

pub one_put : (k : ℕ) (a : List ℕ) (at : ℕ) (o : List ℕ) {p : List ℕ} {next : ℕ} → next ≡ at + k * length a → p ≡ over (les k a) at o → Put (part k a ∷ []) at o p next
unfolding bytes_in shapes_of
one_put k a at o n e = record { place = omega (arith, n); bytes = e ∙ one-part k a at o }

pub put_then : (ps qs : List Part) (at : ℕ) (o : List ℕ) {p q : List ℕ} {next end : ℕ} → at + bytes_in (shapes_of (ps ++ qs)) ≤ length o → Put ps at o p next → Put qs next p q end → Put (ps ++ qs) at o q end
put_then ps qs at o {p} {q} {next} {end} h a b =
    let s = bytes-append ps qs in
    record {
      place = omega (arith, a.place, b.place, s);
      bytes = parts_then ps qs at next o a.place (omega (arith, a.place, s, h)) a.bytes b.bytes;
    }

abbrev task_of : Run → List Part
task_of r = task_parts r.order r.listed r.extra r.x r.z r.p

abbrev claim_of : Run → List Part
claim_of r = claim_parts r.log r.cx r.cz r.cp

body_is : (r : Run) → body r ≡ task_of r ++ claim_of r
unfolding body
body_is r = refl

pub image-bytes : (r : Run) → length (image r) ≡ front_bytes + (bytes_in (shapes_of (task_of r)) + bytes_in (shapes_of (claim_of r)))
unfolding image
image-bytes r =
    length-append (laid (front (front_for r))) (laid (body r))
    ∙ ap₂ ◌+◌ (front_length (front_for r)) (length-laid (body r) ∙ ap (λ (ps : List Part). bytes_in (shapes_of ps)) (body_is r) ∙ bytes-append (task_of r) (claim_of r))

module _ (r : Run) (o : List ℕ) (h : length (image r) ≤ length o) where
  pub task-room : front_bytes + bytes_in (shapes_of (task_of r)) ≤ length o
  task-room = omega (arith, h, image-bytes r)

  pub claim-room : {next : ℕ} → next ≡ front_bytes + bytes_in (shapes_of (task_of r)) → next + bytes_in (shapes_of (claim_of r)) ≤ length o
  claim-room e = omega (arith, e, h, image-bytes r)

  pub run-put : (f : Front) {p q s : List ℕ} {next end : ℕ} → f ≡ front_for r
      → p ≡ over (laid (front f)) 0 o → Put (task_of r) front_bytes p q next → Put (claim_of r) next q s end → Imaged r o s end
  unfolding image
  run-put f {p} {q} {s} {next} {end} e a b c =
      let l = image-bytes r in
      let same : length p ≡ length o = ap length a ∙ length_over (laid (front f)) 0 o (omega (arith, front_length f, h, l)) in
      let g = front_length (front_for r) in
      let bs = bytes-append (task_of r) (claim_of r) in
      let w : Put (task_of r ++ claim_of r) front_bytes p s end = put_then (task_of r) (claim_of r) front_bytes p (omega (arith, h, l, same, bs)) b c in
      let k = length-laid (front (front_for r)) in
      record {
        place = omega (arith, w.place, l, bs);
        bytes =
            parts_then (front (front_for r)) (body r) 0 front_bytes o (omega (arith, g, k)) (omega (arith, h, l))
            (a ∙ ap (λ (t : Front). over (laid (front t)) 0 o) e) (w.bytes ∙ ap (λ (ps : List Part). over (laid ps) front_bytes p) (sym (body_is r)))
            ∙ ap (λ (t : List ℕ). over t 0 o) (laid-append (front (front_for r)) (body r));
      }
