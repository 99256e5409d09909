-- Every sum on the way is at most what the outputs have room for, so that none wraps.
-- Words and phase words are the front's, by the contracts of encoding.
use native.Mathlib.Omega.{arith}
use mathlib.Core.Path.{◌≡◌, refl, ap, ◌∙◌}
use Prim.Native.Nat.{ℕ, ◌*◌}
use Rattle.encoding.specs.Limits.{words_of}
use Rattle.verdict.proofs.ends_of.Goals as goal

pub product-words-requires : goal.product-words-requires
product-words-requires c =
    let f = c.args.f in
    let e : f.m * c.words.result ≡ f.m * words_of f.n = ap (λ (k : ℕ). f.m * k) c.words.ensures in
    omega (arith, c.requires.for-x, e)

pub overflow_add-listed : goal.overflow_add-listed
overflow_add-listed c = omega (arith, c.requires.for-units)

pub overflow_add-extra : goal.overflow_add-extra
overflow_add-extra c = omega (arith, c.requires.for-units)

pub overflow_mul-log : goal.overflow_mul-log
overflow_mul-log c = omega (arith, c.requires.for-units)

pub overflow_add-log : goal.overflow_add-log
overflow_add-log c = omega (arith, c.requires.for-units)

pub returns : goal.returns
returns c =
    let f = c.args.f in
    record {
      order = refl;
      listed = refl;
      extra = refl;
      log = refl;
      words = c.product-words.ensures ∙ ap (λ (k : ℕ). f.m * k) c.words.ensures;
      phases = c.phase_words-phases.ensures;
    }
