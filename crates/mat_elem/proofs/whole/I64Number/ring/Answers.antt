use Rattle.std.proofs.Common.{◌≡◌, ℕ, zero, suc, ◌+◌, ◌%◌, [], ◌∷◌, get_or, ℤ, pos, arith, to_z-of_z, w64, SFits, to_z, of_z}
use Rattle.mat_elem.specs.Numbers.{complex, ring_at}
use Rattle.mat_elem.proofs.whole.I64Number.ring.Goals as goal

fits-at : {a b c d : ℤ} → SFits w64 a → SFits w64 b → SFits w64 c → SFits w64 d → (k : ℕ) → SFits w64 (get_or (a ∷ b ∷ c ∷ d ∷ []) k (pos 0))
fits-at p q r s zero = p
fits-at p q r s (suc zero) = q
fits-at p q r s (suc (suc zero)) = r
fits-at p q r s (suc (suc (suc zero))) = s
fits-at p q r s (suc (suc (suc (suc k)))) = record { sfits = omega arith }

abbrev stored : ℤ → ℤ
stored z = to_z w64 (of_z w64 z)

-- each is stored and read as it is
ring-is : {a b c d : ℤ} (k : ℕ) → SFits w64 a → SFits w64 b → SFits w64 c → SFits w64 d → {p q r s : ℤ} → p ≡ a → q ≡ b → r ≡ c → s ≡ d
    → complex (stored (get_or (p ∷ q ∷ r ∷ s ∷ []) k (pos 0))) (stored (get_or (p ∷ q ∷ r ∷ s ∷ []) ((k + 3) % 4) (pos 0))) ≡ ring_at (a ∷ b ∷ c ∷ d ∷ []) k (pos 0)
ring-is k fa fb fc fd e f g h = rw (e, f, g, h) (rw (to_z-of_z (fits-at fa fb fc fd k), to_z-of_z (fits-at fa fb fc fd ((k + 3) % 4))))

pub returns : goal.returns
returns c =
    let f = c.ranges in
    ring-is c.args.place f.a f.b f.c f.d (to_z-of_z f.a) (to_z-of_z f.b) (to_z-of_z f.c) (to_z-of_z f.d)
