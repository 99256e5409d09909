-- The laws of `some` and `some_below`, from where they stand. Assumes nothing.
pub use Rattle.pauli.proofs.Bools.{none_of}
pub use Rattle.pauli.proofs.Scan.{some-hit, some_more, some_next, some_end, some-none, some-never, some_at, any-more, any-hit, any_none, any_same, any-never, any-past}
