-- Where the sizes fit (`sizes`), half is made, and the other half mirrored (`whole`).
use mathlib.Core.Path.{sym, ◌∙◌}
use mathlib.Core.Bool.{false≢true}
use Rattle.matrix.proofs.Across.{whole}
use Rattle.matrix.proofs.Sized.{sizes}
use Rattle.matrix.proofs.fill.Goals as goal

pub returns-then-fits : goal.returns-then-fits
returns-then-fits c =
    let a = c.args in
    let e = sym c.fits.ensures ∙ c.if-fits.true in
    record {
      done = λ h. whole c.words-v.ensures (sizes a.w a.m a.x.now a.z.now a.out.now e) c.columns.ensures c.mirror.ensures;
      kept = λ h. absurd (false≢true (sym h ∙ e));
    }
