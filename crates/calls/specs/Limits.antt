-- docs/CALLS.md, "How long a line may be": the most elements that a list of a line may have, as the constants of src/main.rt. Assumes nothing.
use Rattle.std.specs.Prelude.{ℕ, ◌+◌, ◌/◌}
use Rattle.encoding.specs.Limits.{max_rows}

-- words of a set, of a state, of an output
abbrev pub most_words : ℕ
most_words = max_rows + 512

abbrev pub most_phases : ℕ
most_phases = (max_rows + 64) / 32

-- bytes of a row's text
abbrev pub most_text : ℕ
most_text = 24000
