-- The loop of every list reader, one law for items of any kind, in pairs or not: the items taken, before what is left, read on, are the whole list.
-- A turn takes what is read for an item; where it is none, or there is no room for another, what is left is none too.
use Rattle.text.proofs.Kit.{◌≡◌, refl, sym, ap, ◌∙◌, Bool, true, false, not, ◌&&◌, List, [], ◌∷◌, ◌++◌, append_assoc, ℕ, ◌+◌, ◌-◌, suc, ◌<◌, ◌≤◌, arith, add-one, length, take, drop, set, length-set, drop-drop, and_left}
use lib.Seq.{take-suc-set, drop-set-lt}
use Rattle.std.specs.Prelude.{Result, Ok, Err}
use Rattle.text.specs.Readers.{Got, none, got, starts, ReadTo}
use Rattle.text.specs.Lists.{after, more, items_of, mark, dash, colon, list, log, Filled, Unread, Fills}
use Rattle.text.specs.Lines.{field_of}
use Rattle.text.specs.Workers.{Passed}
use Rattle.text.proofs.Places.{there}

module _ {A : Type 0} where
  after_nothing : (g : Got (List A)) → after [] g ≡ g
  after_nothing none = refl
  after_nothing (got ws t) = refl

  after-after : (vs ws : List A) (g : Got (List A)) → after vs (after ws g) ≡ after (vs ++ ws) g
  after-after vs ws none = refl
  after-after vs ws (got us t) = ap (λ (l : List A). got l t) (sym (append_assoc vs ws us))

-- ---- the loop

module _ {A : Type 0} (read : List ℕ → Got A) (pairs : Bool) (s : List ℕ) (at : ℕ) (o : List A) where
  abbrev pub all_items : ℕ → List ℕ → Got (List A)
  all_items = items_of pairs pairs read

  -- n items were taken, the place is i, and the next is a pair's first or not
  pub record Taking (p : List A) (n : ℕ) (first : Bool) (i : ℕ) : Type 0 where
    pub all : after (take n p) (items_of pairs first read (length o - n) (drop i s)) ≡ all_items (length o) (drop at s)
    pub same : length p ≡ length o
    pub rest : drop n p ≡ drop n o

  pub begun : Taking o 0 pairs at
  begun =
      let e : length o - 0 ≡ length o = omega arith in
      record { all = rw e (after_nothing (all_items (length o) (drop at s))); same = refl; rest = refl }

  module _ {p : List A} {n : ℕ} {first : Bool} {i : ℕ} (t : Taking p n first i) where
    -- no room is left
    full : length p ≤ n → all_items (length o) (drop at s) ≡ none
    full h = let e : length o - n ≡ 0 = omega (arith, t.same) in sym t.all ∙ rw e

    pub spent : length p ≤ n → n ≤ length p → Unread all_items s at o p n
    spent h g = record { is = full h; room = omega (arith, t.same); same = t.same; rest = t.rest }

    module _ (h : n < length p) where
      left : ℕ
      left = length o - (n + 1)

      onward : all_items (length o) (drop at s) ≡ after (take n p) (more first (items_of pairs (pairs && not first) read (length o - (n + 1))) (read (drop i s)))
      onward = let e : length o - n ≡ suc (length o - (n + 1)) = omega (arith, t.same) in sym t.all ∙ rw e

      -- no item is there
      pub broken : read (drop i s) ≡ none → Unread all_items s at o p n
      broken e = record { is = onward ∙ rw e; room = omega (arith, t.same); same = t.same; rest = t.rest }

      module _ {v : A} {j : ℕ} (r : ReadTo read s i v j) where
        taken : take (n + 1) (set p n v) ≡ take n p ++ (v ∷ [])
        taken = rw (add-one n) (take-suc-set p n v h)

        -- the last item, which no pair's first is
        pub last : starts (mark first) (drop j s) ≡ false → first ≡ false → Filled all_items s at o (set p n v) (n + 1) j
        last g f = record {
          is = onward ∙ rw (r.is, g, f, taken);
          within = r.within;
          room = omega (arith, t.same);
          same = length-set p n v ∙ t.same;
          rest = drop-set-lt (n + 1) p n v (omega arith) ∙ (sym (drop-drop 1 n p) ∙ ap (drop 1) t.rest ∙ drop-drop 1 n o);
        }

        pub halved : starts (mark first) (drop j s) ≡ false → first ≡ true → Unread all_items s at o (set p n v) (n + 1)
        halved g f = record {
          is = onward ∙ rw (r.is, g, f);
          room = omega (arith, t.same);
          same = length-set p n v ∙ t.same;
          rest = drop-set-lt (n + 1) p n v (omega arith) ∙ (sym (drop-drop 1 n p) ∙ ap (drop 1) t.rest ∙ drop-drop 1 n o);
        }

        -- a turn: what was read is stored, and a mark stands behind it
        pub turn : {k : ℕ} → Passed (mark first) s j k → Taking (set p n v) (n + 1) (pairs && not first) k
        turn g = record {
          all = sym (onward ∙ rw (r.is, g.is, taken, g.rest) (after-after (take n p) (v ∷ []) (items_of pairs (pairs && not first) read (length o - (n + 1)) (drop 1 (drop j s)))));
          same = length-set p n v ∙ t.same;
          rest = drop-set-lt (n + 1) p n v (omega arith) ∙ (sym (drop-drop 1 n p) ∙ ap (drop 1) t.rest ∙ drop-drop 1 n o);
        }

-- ---- behind a space, the empty list or items

module _ {A : Type 0} (read : List ℕ → Got A) (room : ℕ) (t : List ℕ) where
  pub list_empty : dash t ≡ true → list read room t ≡ got [] (drop 1 t)
  unfolding list
  list_empty h = rw h

  pub list_items : dash t ≡ false → list read room t ≡ items_of false false read room t
  unfolding list
  list_items h = rw h

  pub log_empty : dash t ≡ true → log read room t ≡ got [] (drop 1 t)
  unfolding log
  log_empty h = rw h

  pub log_items : dash t ≡ false → {pairs : Bool} → pairs ≡ colon (read t) → log read room t ≡ items_of pairs pairs read room t
  unfolding log
  log_items h e = rw (h, e)

module _ {A : Type 0} (all : ℕ → List ℕ → Got (List A)) {s : List ℕ} {at i : ℕ} (p : Passed 32 s at i) (o : List A) where
  pub behind_empty : dash (drop i s) ≡ true → all (length o) (drop i s) ≡ got [] (drop 1 (drop i s)) → Filled (field_of all) s at o o 0 (i + 1)
  behind_empty h e =
      let k : i < length s = there 45 s i (and_left _ _ h) in
      record {
        is = rw (p.is, ← p.rest, e, drop-drop 1 i s);
        within = omega arith;
        room = omega arith;
        same = refl;
        rest = refl;
      }

  pub behind_space : (one : ℕ → List ℕ → Got (List A)) → all (length o) (drop i s) ≡ one (length o) (drop i s) → (q : List A) (r : Result (ℕ × ℕ) ℕ) → Fills one s i o q r → Fills (field_of all) s at o q r
  behind_space one e q (Err k) f = record { is = rw (p.is, ← p.rest) (e ∙ f.is); room = f.room; same = f.same; rest = f.rest }
  behind_space one e q (Ok r) f =
      record { is = rw (p.is, ← p.rest) (e ∙ f.is); within = f.within; room = f.room; same = f.same; rest = f.rest }
