-- A pivot led late, in memory: the pivot and the row found pay, so they lie as they stand for, and the product in place is the rule's. What the rows stand for does
-- not change by paying; full, nothing more is done. Assumes nothing.
use mathlib.Core.Path.{◌≡◌, refl, sym, ap, ◌∙◌, subst}
use mathlib.Core.Logic.{◌⊎◌, inl, inr}
use mathlib.Core.Bool.{Bool, true, false, cond}
use mathlib.Core.List.{List}
use Prim.Native.Nat.{ℕ, ◌+◌, ◌*◌, ◌^◌, ◌≤◌, ◌<◌}
use native.Mathlib.Decide.{dec_lt}
use native.Mathlib.Omega.{arith}
use lib.Arith.{lt_of_le-ne}
use lib.Dec.{eqb, ltb}
use lib.Pow.{pow_pos}
use lib.ListN.{length, take, set, length-set}
use lib.Seq.{get_or-set_other}
use borrow.Author.Tests.{lt-ltb, le-ltb, eq-eqb, ne_eqb}
use Rattle.pauli.specs.Row.{Row, mul_row, bit_row}
use Rattle.encoding.specs.Limits.{words_of}
use Rattle.encoding.specs.Set.{Mem, rows_of}
use Rattle.products.specs.Leaves.{Room, ProductIn}
use Rattle.products.specs.declared.Factor.{Factor}
use Rattle.products.proofs.InPlace.{inside_is}
use Rattle.encoding.proofs.Parts.{row-end}
use Rattle.reduction.specs.Rule.{Entry, mul_at}
use Rattle.reduction.specs.Log.{pairs, capacity}
use Rattle.reduction.specs.Workers.{lead_c}
use Rattle.reduction.proofs.Log.{length-first}
use Rattle.reduction.proofs.Lists.{same?}
use Rattle.reduction.proofs.PauliRows.{rows-laws}
use Rattle.tabled.specs.Workers.{Lazy, going, stopped, put_at, pay, multiply_l, fitting, lead_l, settle, Meets, Led}
use Rattle.tabled.proofs.Steps.{pay-small}
use Rattle.tabled.proofs.Columns.{meets-lead}
use Rattle.late.specs.Workers.{Stage, MultipliedBy, RowsBy, RowBy, Paid, Store, store, late_of, held_by, held_of, Shape, Carries, Runs, PutIn, Puts, kept, made, LeadIn, Finds, Makes, lead_by}
use Rattle.late.proofs.View.{keeps-none, keeps_then, room_by, written-by, owing-paid}
use Rattle.late.proofs.Runs.{held-going, carries-then}
use Rattle.late.proofs.Turning.{logged-two}

-- ---- the product in place

-- rows of one set are the same or do not overlap
pub room_of : {w a b : ℕ} {M : Mem} → RowsBy w a a b M M → Room w (a * w) (b * w) M.xs M.zs
room_of {w} {a} {b} {M} h =
    let r = room_by h in
    record { s-x = r.s-x; s-z = r.s-z; t-x = r.t-x; t-z = r.t-z; apart = apart (same? a b) }
  where
    other : (a ≡ b → ⊥) → Dec (a < b) → (a * w + w ≤ b * w) ⊎ (b * w + w ≤ a * w)
    other ne (yes l) = inl (row-end a w l)
    other ne (no l) = inr (row-end b w (lt_of_le-ne (omega arith) (λ e. ne (sym e))))

    apart : (a ≡ b) ⊎ (a ≡ b → ⊥) → (a * w ≡ b * w) ⊎ ((a * w + w ≤ b * w) ⊎ (b * w + w ≤ a * w))
    apart (inl e) = inl (ap (λ k. k * w) e)
    apart (inr ne) = inr (other ne (dec_lt a b))

pub product-by : {w a b : ℕ} {M : Mem} {xs' zs' : List ℕ} {f : Factor} → RowsBy w a a b M M → ProductIn w (a * w) (b * w) M.xs M.zs xs' zs' f
    → MultipliedBy w (a * w) (a * w) (b * w) M.xs M.zs M.xs M.zs xs' zs' f
product-by {w} {a} {b} {M} h q =
    let d = q.done (inside_is w (a * w) (b * w) M.xs M.zs (room_of h)) in
    record { here = d.here; x-rest = d.x-rest; z-rest = d.z-rest }

pub by-words : (n : ℕ) {w a b : ℕ} {M N M' : Mem} → w ≡ words_of n → RowBy w a a b M N M' → RowBy (words_of n) a a b M N M'
by-words n {w} {a} {b} {M} {N} {M'} e q = subst (λ j. RowBy j a a b M N M') e q

-- ---- the row found pays, and the pivot is multiplied by it

-- the rows and the log of a state
lazy-put : {σ σ' : ℕ → Row} {o : ℕ → ℕ} {T : ℕ → Row} {g t : ℕ} {l l' : List Entry} → σ ≡ σ' → l ≡ l'
    → ◌≡◌ {A = Lazy Row} (record { rows = σ; owed = o; table = T; pivots = g; log = l; t = t }) (record { rows = σ'; owed = o; table = T; pivots = g; log = l'; t = t })
lazy-put {σ} {σ'} {o} {T} {g} {t} p q = λ i. record { rows = p i; owed = o; table = T; pivots = g; log = q i; t = t }

put-mul : (n : ℕ) (σ : ℕ → Row) (a b : ℕ) → put_at σ a (mul_row n (σ a) (σ b)) ≡ mul_at (mul_row n) σ a b
unfolding put_at mul_at
put-mul n σ a b = refl

module _ {n k : ℕ} {M T : Mem} {owed log : List ℕ} {s : Stage} (sh : Shape n (store M T owed log s)) {M' : Mem} {owed' : List ℕ} (q : Paid n k M owed T M' owed') where
  paid-is : late_of n (store M' T owed' log s) ≡ pay (mul_row n) k (late_of n (store M T owed log s))
  paid-is = q.state s.g (pairs (take (s.entries + s.entries) log)) s.t

  paid-shape : Shape n (store M' T owed' log s)
  paid-shape = record { owing = owing-paid sh.owing q; big = sh.big; fits = sh.fits; blank = sh.blank; room = sh.room }

  paid-carries : Carries n (store M T owed log s) (store M' T owed' log s)
  paid-carries =
      record {
        shape = paid-shape;
        grows = omega arith;
        rows-keep = q.keeps;
        table-keep = keeps-none sh.owing.table;
        owed-len = q.owed-len;
        log-len = refl;
        past = λ _ _. refl;
      }

module _ {n p f : ℕ} {M T : Mem} {owed log : List ℕ} {s : Stage} (h : LeadIn n p f (store M T owed log s)) {M' : Mem} {owed' : List ℕ} (q : Paid n f M owed T M' owed') where
  abbrev L : Lazy Row
  L = late_of n (store M T owed log s)

  abbrev L' : Lazy Row
  L' = late_of n (store M' T owed' log s)

  pub put_in : PutIn n M' log s p f
  put_in = record { rows = q.keeps.sound; room = h.shape.room; a_in = omega (arith, h.p-in, q.keeps.many); b-in = omega (arith, h.f-in, q.keeps.many) }

  there : length (pairs (take (s.entries + s.entries) log)) ≡ s.entries
  there = length-first s.entries log h.shape.room

  by-fit : (b : Bool) → ltb (length (pairs (take (s.entries + s.entries) log))) (capacity log) ≡ b → cond b (going (multiply_l (mul_row n) p f L')) (stopped L') ≡ lead_by n (capacity log) p f L
  unfolding fitting
  by-fit b e =
      sym (ap (λ x. cond x (going (multiply_l (mul_row n) p f L')) (stopped L')) e)
      ∙ ap (λ Q. fitting (bit_row n) (mul_row n) (capacity log) Q (multiply_l (mul_row n) p f Q)) (paid-is h.shape q)

  full-makes : capacity log ≤ s.entries → Makes n (lead_by n (capacity log) p f) (store M T owed log s) (store M' T owed' log (record { full = true; entries = s.entries; t = s.t; g = s.g }))
  unfolding held_by
  full-makes l =
      let K = paid-carries h.shape q in
      let sh = K.shape in
      record {
        is = by-fit false (le-ltb (length (pairs (take (s.entries + s.entries) log))) (capacity log) (omega (arith, there)));
        carries =
            record {
              shape = record { owing = sh.owing; big = sh.big; fits = sh.fits; blank = sh.blank; room = sh.room };
              grows = omega arith;
              rows-keep = K.rows-keep;
              table-keep = K.table-keep;
              owed-len = K.owed-len;
              log-len = refl;
              past = λ _ _. refl;
            };
      }

  done-makes : {M'' : Mem} → s.entries < capacity log → RowBy (words_of n) p p f M' M' M''
      → Makes n (lead_by n (capacity log) p f) (store M T owed log s)
      (store M'' T owed' (set (set log (s.entries + s.entries) p) (s.entries + s.entries + 1) f) (record { full = false; entries = s.entries + 1; t = s.t; g = s.g }))
  unfolding held_by multiply_l
  done-makes {M''} l B =
      let m = s.entries + s.entries in
      let sh = paid-shape h.shape q in
      let W = written-by put_in.rows put_in.rows (words_of n) refl p f put_in.a_in put_in.b-in p put_in.a_in B in
      record {
        is = ap going (lazy-put (W.rows_are ∙ put-mul n (rows_of n M') p f) (logged-two s.entries log p f l))
            ∙ by-fit true (lt-ltb (length (pairs (take m log))) (capacity log) (omega (arith, there)));
        carries =
            record {
              shape =
                  record {
                    owing =
                        record {
                          rows = W.keeps.sound;
                          table = sh.owing.table;
                          long = sh.owing.long ∙ sym W.keeps.many;
                          small = sh.owing.small;
                        };
                    big = sh.big;
                    fits = sh.fits;
                    blank = sh.blank;
                    room = simp length-set (omega arith);
                  };
              grows = omega arith;
              rows-keep = keeps_then q.keeps W.keeps;
              table-keep = keeps-none h.shape.owing.table;
              owed-len = q.owed-len;
              log-len = simp length-set;
              past = λ i hi. get_or-set_other (set log m p) (m + 1) i f 0 (omega arith) ∙ get_or-set_other log m i p 0 (omega arith);
            };
      }

  pub lead-makes : {M'' : Mem} {log' : List ℕ} {r : Stage} → Puts n M' log s p f M'' log' r → Makes n (lead_by n (capacity log) p f) (store M T owed log s) (store M'' T owed' log' r)
  lead-makes {M''} {log'} {r} (kept l a b e) =
      subst (λ x. Makes n (lead_by n (capacity log) p f) (store M T owed log s) (store x T owed' log' r)) (sym a)
      (subst (λ x. Makes n (lead_by n (capacity log) p f) (store M T owed log s) (store M' T owed' x r)) (sym b)
      (subst (λ x. Makes n (lead_by n (capacity log) p f) (store M T owed log s) (store M' T owed' log x)) (sym e) (full-makes l)))
  lead-makes {M''} {log'} {r} (made l B b e) =
      subst (λ x. Makes n (lead_by n (capacity log) p f) (store M T owed log s) (store M'' T owed' x r)) (sym b)
      (subst (λ x. Makes n (lead_by n (capacity log) p f) (store M T owed log s) (store M'' T owed' (set (set log (s.entries + s.entries) p) (s.entries + s.entries + 1) f) x)) (sym e) (done-makes l B))

-- ---- the pivot pays first

module _ {n c p f : ℕ} {M T : Mem} {owed log : List ℕ} {s : Stage} (h : LeadIn n p f (store M T owed log s)) (F : Finds n c p f (store M T owed log s))
    {M' : Mem} {owed' : List ℕ} (q : Paid n p M owed T M' owed') where
  abbrev Q : Lazy Row
  Q = late_of n (store M T owed log s)

  abbrev Q' : Lazy Row
  Q' = late_of n (store M' T owed' log s)

  pub lead-next : LeadIn n p f (store M' T owed' log s)
  lead-next =
      record {
        shape = paid-shape h.shape q;
        going = h.going;
        small = λ k. subst (λ (x : Lazy Row). x.owed k < 2 ^ s.g) (sym (paid-is h.shape q)) (pay-small (mul_row n) p (2 ^ s.g) Q (pow_pos s.g) h.small k);
        p-in = omega (arith, h.p-in, q.keeps.many);
        f-in = omega (arith, h.f-in, q.keeps.many);
      }

  lead-if : (b : Bool) → eqb f p ≡ b → cond b (going Q') (lead_by n (capacity log) p f Q') ≡ lead_l (bit_row n) (mul_row n) (capacity log) p f (pay (mul_row n) p Q)
  unfolding lead_l
  lead-if b e =
      sym (ap (λ x. cond x (going Q') (lead_by n (capacity log) p f Q')) e)
      ∙ ap (λ R. lead_l (bit_row n) (mul_row n) (capacity log) p f R) (paid-is h.shape q)

  lead-runs : {S : Store} → held_of n S ≡ lead_l (bit_row n) (mul_row n) (capacity log) p f (pay (mul_row n) p Q) → Carries n (store M T owed log s) S
      → Runs n (Led (bit_row n) (mul_row n) c p s.g) (lead_c (bit_row n) (mul_row n) (capacity log) p f) (store M T owed log s) S
  lead-runs {S} e K =
      record {
        meets = subst (λ x. Meets (mul_row n) (Led (bit_row n) (mul_row n) c p s.g) x (lead_c (bit_row n) (mul_row n) (capacity log) p f (settle (mul_row n) Q))) (sym e)
            (meets-lead (rows-laws n) (capacity log) c p f F.rest Q h.small F.found);
        carries = K;
      }

  pub lead-same : f ≡ p → Runs n (Led (bit_row n) (mul_row n) c p s.g) (lead_c (bit_row n) (mul_row n) (capacity log) p f) (store M T owed log s) (store M' T owed' log s)
  lead-same e = lead-runs (held-going n (store M' T owed' log s) h.going ∙ lead-if true (eq-eqb f p e)) (paid-carries h.shape q)

  pub lead-other : (f ≡ p → ⊥) → {S : Store} → Makes n (lead_by n (capacity log) p f) (store M' T owed' log s) S
      → Runs n (Led (bit_row n) (mul_row n) c p s.g) (lead_c (bit_row n) (mul_row n) (capacity log) p f) (store M T owed log s) S
  lead-other ne D = lead-runs (D.is ∙ lead-if false (ne_eqb f p ne)) (carries-then (paid-carries h.shape q) D.carries)
