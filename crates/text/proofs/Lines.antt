-- Lines, by their table of kinds: fields are read where a text spells them, and nowhere else. From the laws of numbers and lists:
-- behind a field stands a space or nothing, which is neither a digit nor a comma.
use Rattle.text.proofs.Kit.{◌≡◌, refl, sym, ap, ◌∙◌, subst, Bool, true, false, cond, List, [], ◌∷◌, ◌++◌, append_assoc, ℕ, ◌≤◌, arith, le-ltb, drop}
use Rattle.text.specs.Readers.{Got, none, got, starts}
use Rattle.text.specs.Numbers.{digit_of, Stops}
use Rattle.text.specs.Lists.{list}
use Rattle.text.specs.Lines.{Kind, word, one, words, numbers, ints, floats, Value, read, joined_by, further, field, Values, fields, SpellsRoom, SpellsKind, SpellsFields}
use Rattle.text.proofs.Numbers.{Split}
use Rattle.text.proofs.Lists.{Agree, list_back, list-only, starts-cons}
use Rattle.text.proofs.Items as items

-- a space comes next, or nothing
abbrev pub Behind : List ℕ → Type 0
Behind [] = Unit {0}
Behind (c ∷ t) = c ≡ 32

abbrev Any : List ℕ → Type 0
Any t = Unit {0}

-- a reader of fields reads the texts that spell a value, and no others
record Told {A : Type 0} (read : List ℕ → Got A) (Text : A → List ℕ → Type 0) : Type 0 where
  back : (w : List ℕ) {v : A} (t : List ℕ) → Text v w → Behind t → read (w ++ t) ≡ got v t
  only : (s : List ℕ) (v : A) (t : List ℕ) → read s ≡ got v t → Split Text Any s v t

behind-stops : (b : ℕ) → b ≤ 16 → (t : List ℕ) → Behind t → Stops b t
unfolding digit_of
behind-stops b h [] e = tt
behind-stops b h (c ∷ t) e = rw e (le-ltb 16 b h)

behind-comma : (t : List ℕ) → Behind t → starts 44 t ≡ false
behind-comma [] e = refl
behind-comma (c ∷ t) e = rw e

module _ {A : Type 0} {read : List ℕ → Got A} {Item : A → List ℕ → Type 0} (b : ℕ) (h : b ≤ 16) (a : Agree read Item (Stops b)) where
  single : Told read Item
  single =
      record {
        back = λ w t r e. a.back w t r (behind-stops b h t e);
        only = λ s v t e. let o = a.only s v t e in record { text = o.text; is = o.is; item = o.item; ends = tt };
      }

  several : (room : ℕ) → Told (list read room) (SpellsRoom Item room)
  several room =
      record {
        back = λ w {v} t r e. list_back a room v w t r.0 r.1 (behind-stops b h t e) (behind-comma t e);
        only = λ s v t e. let o = list-only a room s v t e in record { text = o.text; is = o.is; item = (o.spells, o.few); ends = tt };
      }

told : (k : Kind) → Told (read k) (SpellsKind k)
told word = single 16 (omega arith) (items.numbers 16 (omega arith) (omega arith) 18446744073709551615)
told (one top) = single 10 (omega arith) (items.numbers 10 (omega arith) (omega arith) top)
told (words room) = several 16 (omega arith) (items.numbers 16 (omega arith) (omega arith) 18446744073709551615) room
told (numbers top room) = several 10 (omega arith) (items.numbers 10 (omega arith) (omega arith) top) room
told (ints room) = several 10 (omega arith) (items.integers 2147483647) room
told (floats room) = several 16 (omega arith) items.floats room

-- ---- what spells a line's fields is read

behind-fields : (ks : List Kind) (v : Values ks) (w t : List ℕ) → SpellsFields ks v w → Behind t → Behind (w ++ t)
behind-fields [] v w t f h = rw f h
behind-fields (k ∷ ks) v w t f h = rw f.is refl

pub fields_back : (ks : List Kind) (v : Values ks) (w t : List ℕ) → SpellsFields ks v w → Behind t → fields ks (w ++ t) ≡ got v t
fields_back [] v w t f h = rw f refl
fields_back (k ∷ ks) v w t f h =
    let r = fields_back ks v.1 f.rest t f.others h in
    let b = (told k).back f.text (f.rest ++ t) f.first (behind-fields ks v.1 f.rest t f.others h) in
    rw (f.is, append_assoc f.text f.rest t, b, r)

-- ---- what is read spells a line's fields

joined_same : {A B : Type 0} (v : A) (g : Got B) (x : A × B) (t : List ℕ) → joined_by v g ≡ got x t → (v ≡ x.0) × (g ≡ got x.1 t)
joined_same v none x t e = let z : ◌≡◌ {A = ℕ} 0 1 = cc in absurd (omega arith)
joined_same v (got w u) x t e =
    let p : (v, w) ≡ x = cc in
    let q : u ≡ t = cc in
    (ap (λ y. y.0) p, ap (got w) q ∙ ap (λ y. got y.1 t) p)

field-only : {A : Type 0} (r : List ℕ → Got A) (s : List ℕ) (v : A) (t : List ℕ) → field r s ≡ got v t → (s ≡ 32 ∷ drop 1 s) × (r (drop 1 s) ≡ got v t)
field-only r s v t e = go (starts 32 s) refl e
  where
    go : (b : Bool) → starts 32 s ≡ b → cond b (r (drop 1 s)) none ≡ got v t → (s ≡ 32 ∷ drop 1 s) × (r (drop 1 s) ≡ got v t)
    go true i k = (starts-cons 32 s i, k)
    go false i k = let z : ◌≡◌ {A = ℕ} 0 1 = cc in absurd (omega arith)

pub fields-only : (ks : List Kind) (s : List ℕ) (v : Values ks) (t : List ℕ) → fields ks s ≡ got v t → Split (SpellsFields ks) Any s v t
fields-only [] s v t e = let p : s ≡ t = cc in record { text = []; is = p; item = refl; ends = tt }
fields-only (k ∷ ks) s v t e = go (field (read k) s) refl e (λ u w f. fields-only ks u w t f)
  where
    go : (g : Got (Value k)) → field (read k) s ≡ g → further g (fields ks) ≡ got v t → ((u : List ℕ) (w : Values ks) → fields ks u ≡ got w t → Split (SpellsFields ks) Any u w t) → Split (SpellsFields (k ∷ ks)) Any s v t
    go none i e r = let z : ◌≡◌ {A = ℕ} 0 1 = cc in absurd (omega arith)
    go (got x u) i e r =
        let j = joined_same x (fields ks u) v t e in
        let f = field-only (read k) s x u i in
        let m = (told k).only (drop 1 s) x u f.1 in
        let n = r u v.1 j.1 in
        let p : s ≡ (32 ∷ (m.text ++ n.text)) ++ t =
        f.0 ∙ ap (λ (l : List ℕ). 32 ∷ l) (m.is ∙ (ap (λ (l : List ℕ). m.text ++ l) n.is ∙ sym (append_assoc m.text n.text t))) in
        record {
          text = 32 ∷ (m.text ++ n.text);
          is = p;
          item = record { text = m.text; rest = n.text; is = refl; first = subst (λ (y : Value k). SpellsKind k y m.text) j.0 m.item; others = n.item };
          ends = tt;
        }
