-- What the engine says of each bit of the matrix (`Filled`) is, for a sound set whose words are as many as it asks, that the words are those laid from
-- the commutation of each two rows (`filled`).
use mathlib.Core.Path.{subst}
use Prim.Native.Nat.{ℕ}
use Rattle.encoding.specs.Limits.{words_of}
use Rattle.encoding.specs.Set.{set_of}
use Rattle.matrix.specs.Matrix.{Filled}
use Rattle.cmpnt_list.proofs.Filling.{filled}
use Rattle.cmpnt_list.proofs.fill_matrix.Goals as goal

pub returns : goal.returns
returns c =
    let s = c.args.set.now in
    let f = c.fill in
    filled s.n {M = set_of s} c.requires.sound c.requires.out_len
    (subst (λ (w : ℕ). Filled w s.m (words_of s.m) s.x.now s.z.now c.args.out.now f.new.out) c.words-w.ensures f.ensures)
    f.auto.out
    c.type_inv.out
