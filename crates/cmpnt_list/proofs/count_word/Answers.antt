-- One return for each Pauli: the ones of a masked word are the places that hold it, and for I those that hold another, by one computed test over the
-- two bits of a place (`word_count`).
use mathlib.Core.Path.{◌≡◌, sym, ap, ◌∙◌}
use native.Mathlib.Omega.{arith}
use Rattle.pauli.specs.declared.PauliMatrix.TheVariants.{I, X, Y, Z}
use Rattle.pauli.specs.Pauli.{Pauli}
use Rattle.encoding.specs.Words.{word}
use Rattle.cmpnt_list.specs.Workers.{masked}
use Rattle.cmpnt_list.proofs.Counting.{word_count}
use Rattle.cmpnt_list.proofs.count_word.Goals as goal

pub returns-in-I : goal.returns-in-I
returns-in-I c =
    let x = c.args.x in
    let z = c.args.z in
    let r = c.count in
    let q : r.result ≡ masked I (word 64 x z) = omega (arith, word_count I tt c.ranges.x.fits c.ranges.z.fits, r.ensures.0) in
    (q ∙ ap (λ (p : Pauli). masked p (word 64 x z)) (sym c.in-I.is), r.ensures.1)

pub returns-in-X : goal.returns-in-X
returns-in-X c =
    let x = c.args.x in
    let z = c.args.z in
    let r = c.count-in-X in
    let q : r.result ≡ masked X (word 64 x z) = omega (arith, word_count X tt c.ranges.x.fits c.ranges.z.fits, r.ensures.0) in
    (q ∙ ap (λ (p : Pauli). masked p (word 64 x z)) (sym c.in-X.is), r.ensures.1)

pub returns-in-Y : goal.returns-in-Y
returns-in-Y c =
    let x = c.args.x in
    let z = c.args.z in
    let r = c.count-in-Y in
    let q : r.result ≡ masked Y (word 64 x z) = omega (arith, word_count Y tt c.ranges.x.fits c.ranges.z.fits, r.ensures.0) in
    (q ∙ ap (λ (p : Pauli). masked p (word 64 x z)) (sym c.in-Y.is), r.ensures.1)

pub returns-in-Z : goal.returns-in-Z
returns-in-Z c =
    let x = c.args.x in
    let z = c.args.z in
    let r = c.count-in-Z in
    let q : r.result ≡ masked Z (word 64 x z) = omega (arith, word_count Z tt c.ranges.x.fits c.ranges.z.fits, r.ensures.0) in
    (q ∙ ap (λ (p : Pauli). masked p (word 64 x z)) (sym c.in-Z.is), r.ensures.1)
