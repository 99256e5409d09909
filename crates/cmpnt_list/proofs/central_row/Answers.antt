-- The closure is asked of each row below m (`cases_from_all`): where all commute with the row it is central (`every-all`), and where one does not it is
-- not (`every-not`).
use Rattle.std.proofs.Common.{◌≡◌, ◌<◌, ℕ, Bool, true, false, List, length, get_or, sym, refl, subst, ◌∙◌, rules, arith, zero-add, zero-le}
use Rattle.std.specs.Bool.{MatchBool}
use Rattle.std.specs.List.{AllWithin, HoldsAt, range_with_len}
use Rattle.std.proofs.lemmas.Iterator.{cases_from_all, YieldsList-from_range}
use Rattle.std.proofs.lemmas.List.FromFn.{length-range_with_len, get_or-range_with_len}
use Rattle.pauli.specs.Rows.{commute, every_below, central}
use Rattle.pauli.proofs.Scan.{every-all, every-not}
use Rattle.encoding.specs.Set.{set_of, rows_of}
use Rattle.cmpnt_list.proofs.central_row.Goals as goal

abbrev below : ℕ → List ℕ
below m = range_with_len 0 m

below-at : (m k : ℕ) → k < m → get_or (below m) k 0 ≡ k
below-at m k l = get_or-range_with_len 0 m k 0 l ∙ zero-add k

every-is : (b : Bool) (m : ℕ) (f : ℕ → Bool)
    → MatchBool b (AllWithin (λ k. f k ≡ true) (below m) 0 (length (below m))) ((k : ℕ) × (k < length (below m)) × HoldsAt (λ k. f k ≡ false) (below m) k) → b ≡ every_below m f
every-is true m f h = sym (every-all f m (λ k l. subst (λ (i : ℕ). f i ≡ true) (below-at m k l) (h k 0 zero-le (omega (arith, l, length-range_with_len 0 m)))))
every-is false m f h =
    let l : h.0 < m = omega (arith, h.1, length-range_with_len 0 m) in
    sym (every-not f m h.0 l (subst (λ (i : ℕ). f i ≡ false) (below-at m h.0 l) (h.2 0)))

pub returns : goal.returns
unfolding central
returns c =
    let s = c.args.set.now in
    let M = set_of s in
    let f : ℕ → Bool = λ k. commute s.n (rows_of s.n M c.args.r) (rows_of s.n M k) in
    every-is c.all.result s.m f
    (cases_from_all _ _ _ (λ k. f k ≡ true) (λ k. f k ≡ false) c.all.ensures.ran (YieldsList-from_range 0 s.m s.m refl (omega arith)) (λ x q k. search rules) (λ x q k. search rules))
