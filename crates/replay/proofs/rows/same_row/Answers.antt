-- Words that differ, X or Z, are rows that differ (`row-x-not`, `row-z-not`), because the bits at n and above are zero in both sets; where all are
-- the same, the exponents decide (`row_same`).
use mathlib.Core.Path.{subst, ◌≡◌, sym, ap₂, ◌∙◌}
use lib.Dec.{eqb}
use Rattle.encoding.specs.Set.{row}
use Rattle.encoding.specs.Limits.{words_of}
use Rattle.replay.proofs.Alike.{row-x-not, row-z-not, row_same}
use Rattle.replay.proofs.rows.same_row.Goals as goal

pub returns-then-not-same_words : goal.returns-then-not-same_words
returns-then-not-same_words c =
    let a = c.args in
    let p = c.requires in
    let e = c.words-w.ensures in
    let x = c.same_words in
    let ne = subst (λ w. row w a.k a.set.now.x.now ≡ row w a.k a.claimed.now.x.now → ⊥) e (x.ensures.no c.if-not-same_words.true) in
    row-x-not a.set.now.n (words_of a.set.now.n) p.valid p.valid_2 (sym p.one_m) a.k p.k_lt_m ne

pub returns-then-not-same_words-2 : goal.returns-then-not-same_words-2
returns-then-not-same_words-2 c =
    let a = c.args in
    let p = c.requires in
    let e = c.words-w.ensures in
    let z = c.same_words-2 in
    let ne = subst (λ w. row w a.k a.set.now.z.now ≡ row w a.k a.claimed.now.z.now → ⊥) e (z.ensures.no c.if-not-same_words-2.true) in
    row-z-not a.set.now.n (words_of a.set.now.n) p.valid p.valid_2 (sym p.one_m) a.k p.k_lt_m ne

pub returns : goal.returns
returns c =
    let a = c.args in
    let p = c.requires in
    let e = c.words-w.ensures in
    let x = c.same_words in
    let z = c.same_words-2 in
    let ex = subst (λ w. row w a.k a.set.now.x.now ≡ row w a.k a.claimed.now.x.now) e (x.ensures.yes c.if-not-same_words.false) in
    let ez = subst (λ w. row w a.k a.set.now.z.now ≡ row w a.k a.claimed.now.z.now) e (z.ensures.yes c.if-not-same_words-2.false) in
    ap₂ eqb c.get_exponent-a.ensures c.get_exponent-b.ensures ∙ row_same a.set.now.n (words_of a.set.now.n) p.valid p.valid_2 (sym p.one_m) a.k p.k_lt_m ex ez
