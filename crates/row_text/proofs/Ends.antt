-- Small texts, computed from the definition: `X0 Y3`, the empty text, and some that are no row's. Assumes nothing.
use Rattle.row_text.proofs.Kit.{◌≡◌, refl, true, false, [], ◌∷◌, I, X, Y}
use Rattle.text.specs.Numbers.{glyph, numeral}
use Rattle.row_text.specs.Text.{text_of, any_row, the_row, is_text, row_of}

pub x0-y3 : text_of (X ∷ I ∷ I ∷ Y ∷ []) ≡ 88 ∷ 48 ∷ 32 ∷ 89 ∷ 51 ∷ []
unfolding numeral glyph
x0-y3 = refl

pub x10 : text_of (I ∷ I ∷ I ∷ I ∷ I ∷ I ∷ I ∷ I ∷ I ∷ I ∷ X ∷ []) ≡ 88 ∷ 49 ∷ 48 ∷ []
unfolding numeral glyph
x10 = refl

-- read on two qubits: X0 Y1; the empty text also on none
pub x0-y1 : row_of 2 (88 ∷ 48 ∷ 32 ∷ 89 ∷ 49 ∷ []) ≡ X ∷ Y ∷ []
unfolding row_of the_row any_row numeral glyph
x0-y1 = refl

pub nothing : is_text 0 [] ≡ true
unfolding is_text any_row
nothing = refl

-- X00, X0 with a space behind it, Y1 X0, X0 X0, X2
pub leading-zero : is_text 2 (88 ∷ 48 ∷ 48 ∷ []) ≡ false
unfolding is_text any_row numeral glyph
leading-zero = refl

pub space-behind : is_text 2 (88 ∷ 48 ∷ 32 ∷ []) ≡ false
unfolding is_text any_row numeral glyph
space-behind = refl

pub falling : is_text 2 (89 ∷ 49 ∷ 32 ∷ 88 ∷ 48 ∷ []) ≡ false
unfolding is_text any_row numeral glyph
falling = refl

pub repeated : is_text 2 (88 ∷ 48 ∷ 32 ∷ 88 ∷ 48 ∷ []) ≡ false
unfolding is_text any_row numeral glyph
repeated = refl

pub qubit-n : is_text 2 (88 ∷ 50 ∷ []) ≡ false
unfolding is_text any_row numeral glyph
qubit-n = refl
