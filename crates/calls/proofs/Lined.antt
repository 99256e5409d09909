-- A line: blank, or the call that it names on what stands behind the name.
use Rattle.calls.proofs.Kit.{◌≡◌, sym, ap, ◌∙◌, subst, Bool, true, false, List, [], ℕ, length, take, drop, eqb, Got}
use mathlib.Core.Bool.{◌||◌}
use Rattle.std.specs.Prelude.{Option, Some}
use Rattle.text.specs.Readers.{starts}
use Rattle.naming.specs.Names.{call_of, name_end}
use Rattle.calls.specs.Answer.{answer_to, blank, answer_of, Answers, behind_set}
use Rattle.naming.specs.declared.Call.{Call}

pub answers-as : {a b : Option (List ℕ)} → a ≡ b → (o : List ℕ) (at : ℕ) (p : List ℕ) (r : Option ℕ) → Answers b o at p r → Answers a o at p r
answers-as e o at p r h = subst (λ (x : Option (List ℕ)). Answers x o at p r) (sym e) h

pub blank-by : (s : List ℕ) {h b : Bool} → h ≡ starts 35 (drop 0 s) → (eqb (length s) 0 || h) ≡ b → blank s ≡ b
blank-by s e k = ap (λ (x : Bool). eqb (length s) 0 || x) (sym e) ∙ k

pub no_answer : (s : List ℕ) → blank s ≡ true → answer_of s ≡ Some []
unfolding answer_of
no_answer s h = rw h

pub by_call : (s : List ℕ) {n : ℕ} {c : Call} → blank s ≡ false → n ≡ name_end s → c ≡ call_of (take (name_end s) s) → answer_of s ≡ answer_to c (drop n s)
unfolding answer_of
by_call s h e k = rw (k, e, h)

-- ---- a set, and what stands behind it

pub set-as : {A : Type 0} (f : A → List ℕ → Option (List ℕ)) {x y : Got A} → x ≡ y → behind_set f x ≡ behind_set f y
set-as f e = ap (behind_set f) e
