-- `late::scratched` meets its contract: arrays of zeros owe nothing and hold a table whose entry 0 is the identity. Their lengths are the limits'
-- own. Assumes nothing.
use Prim.Native.Nat.{ℕ}
use lib.ListN.{length-replicate}
use Rattle.encoding.specs.Limits.{max_rows}
use Rattle.late.proofs.Scratch.{zeros}
use Rattle.late.proofs.scratched.Goals as goal

pub lend-requires : goal.lend-requires
lend-requires c = (c.requires, record { o-long = length-replicate {A = ℕ} max_rows 0; x-long = length-replicate {A = ℕ} 4096 0; z-long = length-replicate {A = ℕ} 4096 0; e-long = length-replicate {A = ℕ} 2 0; o-blank = zeros max_rows; x-blank = zeros 4096; z-blank = zeros 4096; e-blank = zeros 2 })

pub returns : goal.returns
returns c = c.lend.ensures
