-- The field of a text: none where it is empty, else a space and the text.
use Rattle.forms.proofs.Kit.{◌≡◌, refl, List, [], ◌∷◌, ◌++◌, ℕ, arith, length}
use Rattle.forms.specs.Answers.{text_field}

pub no_text : (s : List ℕ) → length s ≡ 0 → text_field s ≡ []
no_text [] e = refl
no_text (c ∷ t) e = absurd (omega arith)

pub some-text : (s : List ℕ) → (length s ≡ 0 → ⊥) → text_field s ≡ (32 ∷ []) ++ s
some-text [] e = absurd (e refl)
some-text (c ∷ t) e = refl
