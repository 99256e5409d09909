-- `late::lend` meets its contract: the first m bytes and the first entries of the scratch arrays are lent; a part of zeros is zeros, so the run
-- starts with nothing owed. Assumes nothing.
use native.Mathlib.Omega.{arith}
use Rattle.encoding.specs.Set.{mem_of}
use Rattle.late.proofs.Scratch.{scratch-start}
use Rattle.late.proofs.lend.Goals as goal

pub overflow_mul-k : goal.overflow_mul-k
overflow_mul-k c = omega (arith, c.words-k.ensures, c.requires.0.sound.few-qubits)

pub slice_bounds-reduce-end : goal.slice_bounds-reduce-end
slice_bounds-reduce-end c = omega (arith, c.requires.1.o-long, c.requires.0.sound.few-rows)

pub slice_bounds-reduce-end-2 : goal.slice_bounds-reduce-end-2
slice_bounds-reduce-end-2 c = omega (arith, c.requires.1.x-long, c.words-k.ensures, c.requires.0.sound.few-qubits)

pub slice_bounds-reduce-end-3 : goal.slice_bounds-reduce-end-3
slice_bounds-reduce-end-3 c = omega (arith, c.requires.1.z-long, c.words-k.ensures, c.requires.0.sound.few-qubits)

pub reduce-requires : goal.reduce-requires
reduce-requires c =
    let a = c.args in
    let h = c.requires.0 in
    record {
      start_in = scratch-start a.n (mem_of a.m a.x.now a.z.now a.p.now) h.sound c.words-k.result c.words-k.ensures c.requires.1;
      below = (h.order-in, h.listed_in, h.extra-in);
    }

pub returns : goal.returns
returns c = c.reduce.ensures
