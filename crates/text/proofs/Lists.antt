-- Lists of any items whose reader reads what spells an item and no more: the same holds of the list.
-- A comma cannot be part of an item, so that each item ends where its text does; a turn of the reader is an item of the text.
use Rattle.text.proofs.Kit.{◌≡◌, refl, sym, ap, ◌∙◌, Bool, true, false, cond, false≢true, List, [], ◌∷◌, ◌++◌, append_assoc, ℕ, zero, suc, ◌≤◌, arith, eqb-true, length, drop, and_left}
use Rattle.text.specs.Readers.{Got, none, got, starts}
use Rattle.text.specs.Numbers.{no_digit}
use Rattle.text.specs.Lists.{joined, listed, after, more, items, dash, list, SpellsList}
use Rattle.text.proofs.Numbers.{Split}

-- a reader of items that spell their values; Ends says what may stand behind an item
pub record Agree {A : Type 0} (read : List ℕ → Got A) (Item : A → List ℕ → Type 0) (Ends : List ℕ → Type 0) : Type 0 where
  pub back : (w : List ℕ) {v : A} (t : List ℕ) → Item v w → Ends t → read (w ++ t) ≡ got v t
  pub only : (s : List ℕ) (v : A) (t : List ℕ) → read s ≡ got v t → Split Item Ends s v t
  pub apart : (w : List ℕ) {v : A} (t : List ℕ) → Item v w → dash (w ++ t) ≡ false
  pub comma : (t : List ℕ) → Ends (44 ∷ t)
  pub plain : (t : List ℕ) → Ends t → no_digit t ≡ true

pub starts-cons : (c : ℕ) (s : List ℕ) → starts c s ≡ true → s ≡ c ∷ drop 1 s
starts-cons c [] e = absurd (false≢true e)
starts-cons c (d ∷ s) e = ap (λ (n : ℕ). n ∷ s) (eqb-true d c e)

module _ {A : Type 0} {read : List ℕ → Got A} {Item : A → List ℕ → Type 0} {Ends : List ℕ → Type 0} (a : Agree read Item Ends) where
  items_back : (room : ℕ) (v : A) (l : List A) (w t : List ℕ) → SpellsList Item (v ∷ l) w → suc (length l) ≤ room → Ends t → starts 44 t ≡ false → items read room (w ++ t) ≡ got (v ∷ l) t
  items_back zero v l w t f h e k = absurd (omega arith)
  items_back (suc room) v [] w t f h e k = rw (a.back w t f e, k)
  items_back (suc room) v (x ∷ l) w t f h e k =
      let u = f.rest in
      let i = items_back room x l u t f.others (omega arith) e k in
      rw (f.is, append_assoc f.text (44 ∷ u) t, a.back f.text (44 ∷ (u ++ t)) f.first (a.comma (u ++ t)), i)

  apart-first : (v : A) (l : List A) (w t : List ℕ) → SpellsList Item (v ∷ l) w → dash (w ++ t) ≡ false
  apart-first v [] w t f = a.apart w t f
  apart-first v (x ∷ l) w t f =
      rw (f.is, append_assoc f.text (44 ∷ f.rest) t) (a.apart f.text (44 ∷ (f.rest ++ t)) f.first)

  -- what spells a list is read
  pub list_back : (room : ℕ) (vs : List A) (w t : List ℕ) → SpellsList Item vs w → length vs ≤ room → Ends t → starts 44 t ≡ false → list read room (w ++ t) ≡ got vs t
  unfolding list
  list_back room [] w t f h e k = rw (f, a.plain t e)
  list_back room (v ∷ l) w t f h e k = rw (apart-first v l w t f) (items_back room v l w t f h e k)

  -- ---- what is read spells a list

  pub record Taken (room : ℕ) (s : List ℕ) (vs : List A) (t : List ℕ) : Type 0 where
    pub text : List ℕ
    pub is : s ≡ text ++ t
    pub spells : SpellsList Item vs text
    pub few : length vs ≤ room

  abbrev Some : List A → Type 0
  Some [] = ⊥
  Some (v ∷ l) = Unit {0}

  longer : (v : A) (ws : List A) (w u : List ℕ) → Some ws → Item v w → SpellsList Item ws u → SpellsList Item (v ∷ ws) (w ++ (44 ∷ u))
  longer v [] w u h i f = absurd h
  longer v (x ∷ l) w u h i f = record { text = w; rest = u; is = refl; first = i; others = f }

  -- one item, and then the rest
  go : (room : ℕ) (s : List ℕ) (vs : List A) (t : List ℕ) → ((u : List ℕ) (ws : List A) → items read room u ≡ got ws t → Some ws × Taken room u ws t) → (g : Got A) → read s ≡ g → more false (items read room) g ≡ got vs t → Some vs × Taken (suc room) s vs t
  go room s vs t r none e k = let z : ◌≡◌ {A = ℕ} 0 1 = cc in absurd (omega arith)
  go room s vs t r (got v u) e k = parted (starts 44 u) refl k
    where
      o : Split Item Ends s v u
      o = a.only s v u e

      on : (g : Got (List A)) → items read room (drop 1 u) ≡ g → u ≡ 44 ∷ drop 1 u → after (v ∷ []) g ≡ got vs t → Some vs × Taken (suc room) s vs t
      on none m i k = let z : ◌≡◌ {A = ℕ} 0 1 = cc in absurd (omega arith)
      on (got ws x) m i k =
          let p : x ≡ t = cc in
          let q : v ∷ ws ≡ vs = cc in
          let f = r (drop 1 u) ws (m ∙ ap (got ws) p) in
          let n : s ≡ (o.text ++ (44 ∷ f.1.text)) ++ t =
          o.is ∙ (ap (λ (l : List ℕ). o.text ++ l) (i ∙ ap (λ (l : List ℕ). 44 ∷ l) f.1.is) ∙ sym (append_assoc o.text (44 ∷ f.1.text) t)) in
          rw (← q) (tt, record { text = o.text ++ (44 ∷ f.1.text); is = n; spells = longer v ws o.text f.1.text f.0 o.item f.1.spells; few = omega (arith, f.1.few) })

      parted : (b : Bool) → starts 44 u ≡ b → cond b (after (v ∷ []) (items read room (drop 1 u))) (got (v ∷ []) u) ≡ got vs t → Some vs × Taken (suc room) s vs t
      parted false i k =
          let p : u ≡ t = cc in
          let q : v ∷ [] ≡ vs = cc in
          rw (← p, ← q) (tt, record { text = o.text; is = o.is; spells = o.item; few = omega arith })
      parted true i k = on (items read room (drop 1 u)) refl (starts-cons 44 u i) k

  items-only : (room : ℕ) (s : List ℕ) (vs : List A) (t : List ℕ) → items read room s ≡ got vs t → Some vs × Taken room s vs t
  items-only zero s vs t e = let z : ◌≡◌ {A = ℕ} 0 1 = cc in absurd (omega arith)
  items-only (suc room) s vs t e = go room s vs t (λ u ws k. items-only room u ws t k) (read s) refl e

  pub list-only : (room : ℕ) (s : List ℕ) (vs : List A) (t : List ℕ) → list read room s ≡ got vs t → Taken room s vs t
  unfolding list
  list-only room s vs t e = dashed (dash s) refl e
    where
      dashed : (b : Bool) → dash s ≡ b → cond b (got [] (drop 1 s)) (items read room s) ≡ got vs t → Taken room s vs t
      dashed true d e =
          let p : drop 1 s ≡ t = cc in
          let q : [] ≡ vs = cc in
          rw (← q, ← p)
          (record { text = 45 ∷ []; is = starts-cons 45 s (and_left (starts 45 s) (no_digit (drop 1 s)) d); spells = refl; few = omega arith })
      dashed false d e = (items-only room s vs t e).1

-- ---- what writers write spells a list

module _ {A : Type 0} (write : A → List ℕ) (Item : A → List ℕ → Type 0) (Fine : A → Type 0) (spells : (v : A) → Fine v → Item v (write v)) where
  abbrev pub All : List A → Type 0
  All [] = Unit {0}
  All (v ∷ l) = Fine v × All l

  pub listed-spells : (vs : List A) → All vs → SpellsList Item vs (listed write vs)
  listed-spells [] f = refl
  listed-spells (v ∷ []) f = spells v f.0
  listed-spells (v ∷ x ∷ l) f =
      record { text = write v; rest = joined write x l; is = refl; first = spells v f.0; others = listed-spells (x ∷ l) f.1 }
