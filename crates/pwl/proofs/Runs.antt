-- The run in a file by its places: each part is the numbers from its place on, so that what the tests find of bytes they find of the run. Places are sums of
-- one front's numbers, so that all parts lie within a file that is as long as its front says. Assumes nothing.
use Rattle.pwl.proofs.Kit.{◌≡◌, refl, sym, ap, ap₂, ◌∙◌, Result, Ok, Err, Refusal, Bool, false, cond, List, ℕ, ◌+◌, ◌*◌, ◌%◌, ◌<◌, ◌≤◌, arith, lt-ltb, le-ltb, ne_eqb, length, drop}
use Rattle.encoding.specs.Limits.{max_qubits, max_rows, words_of}
use Rattle.encoding.specs.Words.{odd}
use Rattle.encoding.specs.Set.{Mem, phase_units}
use Rattle.encoding.specs.Refusals.{least, smaller, answer_or, done_or, set_lines}
use Rattle.encoding.specs.Ranks.{by_rank, place_in, placed, joined}
use Rattle.encoding.proofs.Faults.{or_else, first_by, next_by, smaller-is}
use Rattle.terms.proofs.Whole.{or-zero}
use Rattle.terms.specs.Refused.{list_lines}
use Rattle.terms.proofs.Answers.{by_parts}
use Rattle.replay.specs.Check.{task_lines, claim_lines}
use Rattle.replay.proofs.Faults.{check-in-turn}
use Rattle.pwl.specs.declared.Front.{Front}
use Rattle.pwl.specs.declared.Places.{Places}
use Rattle.pwl.specs.Bytes.{nums}
use Rattle.pwl.specs.File.{run_of, run_by, read_parts, shapes_by, bytes_in, whole_len}
use Rattle.pwl.specs.Calls.{task_of, claim_of, run_lines}
use Rattle.pwl.specs.Workers.{set_at, places_by, places_of, TaskFault}
use Rattle.pwl.proofs.Round.{length-nums}

-- ---- where parts lie: within the file

module _ (f : Front) (at : Places) (e : at ≡ places_of f) where
  pub words_are : at.words ≡ f.m * words_of f.n
  unfolding places_by
  words_are = ap (λ (p : Places). p.words) e

  pub phases_are : at.phases ≡ phase_units f.m
  unfolding places_by
  phases_are = ap (λ (p : Places). p.phases) e

  module _ {l : ℕ} (h : whole_len f ≤ l) where
    pub order_fits : 41 + 2 * f.order ≤ l
    unfolding whole_len bytes_in shapes_by
    order_fits = omega (arith, h)

    pub lists_fit : 41 + 2 * (f.order + f.listed + f.extra) ≤ l
    unfolding whole_len bytes_in shapes_by
    lists_fit = omega (arith, h)

    pub units_fit : f.order + f.listed + f.extra + 2 * f.entries ≤ l
    unfolding whole_len bytes_in shapes_by
    units_fit = omega (arith, h)

    pub listed_fits : at.listed + 2 * f.listed ≤ l
    unfolding places_by whole_len bytes_in shapes_by
    listed_fits = let q : at.listed ≡ (places_of f).listed = ap (λ (p : Places). p.listed) e in omega (arith, h, q)

    pub extra_fits : at.extra + 2 * f.extra ≤ l
    unfolding places_by whole_len bytes_in shapes_by
    extra_fits = let q : at.extra ≡ (places_of f).extra = ap (λ (p : Places). p.extra) e in omega (arith, h, q)

    pub start_fits : at.start + 8 * at.words + 8 * at.words + 8 * at.phases ≤ l
    unfolding places_by whole_len bytes_in shapes_by
    start_fits = let q : at.start ≡ (places_of f).start = ap (λ (p : Places). p.start) e in omega (arith, h, q, words_are, phases_are)

    pub log_fits : at.log + 2 * (2 * f.entries) ≤ l
    unfolding places_by whole_len bytes_in shapes_by
    log_fits = let q : at.log ≡ (places_of f).log = ap (λ (p : Places). p.log) e in omega (arith, h, q)

    pub claim_fits : at.claim + 8 * at.words + 8 * at.words + 8 * at.phases ≤ l
    unfolding places_by whole_len bytes_in shapes_by
    claim_fits = let q : at.claim ≡ (places_of f).claim = ap (λ (p : Places). p.claim) e in omega (arith, h, q, words_are, phases_are)

-- ---- the parts, and what the tests say of them

module _ (f : Front) (s : List ℕ) (at : Places) (e : at ≡ places_of f) where
  pub start_is : set_at f.m at.words at.phases at.start s ≡ (task_of (run_by f s)).start
  unfolding run_by run_of read_parts shapes_by places_by
  start_is = ap (λ (p : Places). set_at f.m p.words p.phases p.start s) e

  pub claim-is : set_at f.m at.words at.phases at.claim s ≡ (claim_of (run_by f s)).rows
  unfolding run_by run_of read_parts shapes_by places_by
  claim-is = ap (λ (p : Places). set_at f.m p.words p.phases p.claim s) e

  pub order_is : nums 2 f.order (drop 41 s) ≡ (run_by f s).order
  unfolding run_by run_of read_parts shapes_by
  order_is = refl

  pub listed-is : nums 2 f.listed (drop at.listed s) ≡ (run_by f s).listed
  unfolding run_by run_of read_parts shapes_by places_by
  listed-is = ap (λ (p : Places). nums 2 f.listed (drop p.listed s)) e

  pub extra-is : nums 2 f.extra (drop at.extra s) ≡ (run_by f s).extra
  unfolding run_by run_of read_parts shapes_by places_by
  extra-is = ap (λ (p : Places). nums 2 f.extra (drop p.extra s)) e

  module _ {k : Result Unit Refusal} (ek : k ≡ done_or (by_rank (set_lines f.n (set_at f.m at.words at.phases at.start s)))) where
    number : k ≡ done_or (by_rank (set_lines f.n (task_of (run_by f s)).start))
    number = ek ∙ ap (λ (M : Mem). done_or (by_rank (set_lines f.n M))) start_is

    pub task_first : {x : Refusal} → k ≡ Err x → TaskFault f s (Err x)
    unfolding run_by run_of
    task_first h =
        let r = run_by f s in
        first_by (by_rank (set_lines f.n (task_of r).start)) (by_rank (list_lines f.n f.m r.order r.listed r.extra)) tt number h tt
        ∙ ap done_or (by_parts f.n (task_of r).start r.order r.listed r.extra)

    pub task_told : {u : Unit} → k ≡ Ok u → {g : Result Unit Refusal}
        → g ≡ done_or (by_rank (list_lines f.n f.m (nums 2 f.order (drop 41 s)) (nums 2 f.listed (drop at.listed s)) (nums 2 f.extra (drop at.extra s)))) → TaskFault f s g
    unfolding run_by run_of
    task_told h {g} eg =
        let r = run_by f s in
        let l : by_rank (list_lines f.n f.m (nums 2 f.order (drop 41 s)) (nums 2 f.listed (drop at.listed s)) (nums 2 f.extra (drop at.extra s)))
        ≡ by_rank (list_lines f.n f.m r.order r.listed r.extra) = rw (order_is, listed-is, extra-is) in
        next_by (by_rank (set_lines f.n (task_of r).start)) (by_rank (list_lines f.n f.m r.order r.listed r.extra)) tt number h tt (eg ∙ ap done_or l)
        ∙ ap done_or (by_parts f.n (task_of r).start r.order r.listed r.extra)

  -- a log in a file is of whole entries
  even-units : odd (length (run_by f s).log) ≡ false
  unfolding run_by run_of read_parts shapes_by
  even-units =
      let l : length (run_by f s).log ≡ 2 * f.entries = length-nums 2 (2 * f.entries) _ in
      ne_eqb (length (run_by f s).log % 2) 1 (λ z. omega (arith, z, l))

  pub run_number : {a b k : Result Unit Refusal} → TaskFault f s a → b ≡ done_or (by_rank (set_lines f.n (set_at f.m at.words at.phases at.claim s))) → k ≡ smaller a b
      → k ≡ done_or (by_rank (run_lines (run_by f s)))
  unfolding by_rank run_by run_of
  run_number ea eb ek =
      let T = task_of (run_by f s) in
      let L = claim_of (run_by f s) in
      let p = least (by_rank (task_lines T)) (by_rank (claim_lines T.n L.rows)) in
      ek ∙ ap₂ smaller ea (eb ∙ ap (λ (M : Mem). done_or (by_rank (set_lines f.n M))) claim-is) ∙ smaller-is (by_rank (task_lines T)) (by_rank (claim_lines T.n L.rows))
      ∙ ap done_or (sym (check-in-turn T L ∙ ap (λ (c : Bool). or_else p (cond c 9 0)) even-units ∙ or-zero p))

-- the limits come first
pub limit_1 : (f : Front) (s : List ℕ) → max_qubits < f.n → Err (record { 0 = 1 }) ≡ done_or (by_rank (run_lines (run_by f s)))
unfolding answer_or by_rank place_in placed joined run_by run_of
limit_1 f s h = simp (lt-ltb _ _ h)

pub limit_2 : (f : Front) (s : List ℕ) → f.n ≤ max_qubits → max_rows < f.m → Err (record { 0 = 2 }) ≡ done_or (by_rank (run_lines (run_by f s)))
unfolding answer_or by_rank place_in placed joined run_by run_of
limit_2 f s h g = simp (le-ltb _ _ h, lt-ltb _ _ g)
