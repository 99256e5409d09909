-- The words of RULES 12.3, of sets in memory: a right claim, an order that names every column, starting rows without a phase of their own. Each is
-- reduction's specs/Demand.antt at Pauli rows. Assumes nothing.
use Rattle.std.specs.Prelude.{◌+◌}
use Rattle.pauli.specs.Row.{Row, mul_row, bit_row}
use Rattle.encoding.specs.Set.{count, rows_of}
use Rattle.reduction.specs.Log.{pairs}
use Rattle.reduction.specs.Demand.{Right, NamesAll, NoPhase}
use Rattle.replay.specs.Check.{Task, Claim}

-- Each entry multiplies a listed or extra row by a different, listed row; the full replay gives the claimed bits and phases; and these stand in
-- the reduced form of RULES 5.10.
abbrev pub RightClaim : Task → Claim → Type 0
RightClaim T L =
    Right (bit_row T.n) (mul_row T.n) (λ (r : Row). r.p) (T.n + T.n) (count T.start) T.order T.listed T.extra
    (rows_of T.n T.start) (pairs L.log) (rows_of T.n L.rows)

-- The order names every column: X and Z of each qubit.
abbrev pub EveryColumn : Task → Type 0
EveryColumn T = NamesAll (T.n + T.n) T.order

-- No product of listed starting rows, repeats allowed, is the identity with a phase exponent other than 0.
abbrev pub NoPhaseAtStart : Task → Type 0
NoPhaseAtStart T = NoPhase (bit_row T.n) (mul_row T.n) (λ (r : Row). r.p) (T.n + T.n) T.listed (rows_of T.n T.start)
