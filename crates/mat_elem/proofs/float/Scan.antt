-- What is finite lies between the infinities. Assumes nothing.
use Rattle.std.proofs.Common.{◌≡◌, true, false, ◌&&◌, refl}
use lib.Ieee.{Float, nan, inf, fin, lt}
use lib.Ieee.Scale.{finite}

pub between : (x : Float) → (lt x (inf false) && lt (inf true) x) ≡ finite x
unfolding lt
between nan = refl
between (inf true) = refl
between (inf false) = refl
between (fin s m d) = refl
