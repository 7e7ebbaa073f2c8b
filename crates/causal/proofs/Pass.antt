-- An ascending pass over the sequences: which outputs were seen to look ahead; and number 4. Assumes nothing.
use mathlib.Core.Path.{◌≡◌, sym, ap, subst, ◌∙◌}
use mathlib.Core.Bool.{true, false}
use mathlib.Core.Logic.{⊎_elim}
use mathlib.Core.List.{List}
use Prim.Native.Nat.{ℕ, ◌+◌, ◌-◌, ◌^◌, ◌≤◌, ◌<◌}
use native.Mathlib.Nat.{eq-or-lt_of_le}
use native.Mathlib.Decide.{dec_lt}
use native.Mathlib.Omega.{arith}
use Rattle.std.specs.Prelude.{Some, None}
use Rattle.verdict.specs.Judgements.{answer}
use Rattle.verdict.proofs.Laws.{first_is, finds_none}
use Rattle.layered.specs.Search.{least}
use Rattle.layered.proofs.Search.{every_each, every_fails, least_le, least_tells, least_is}
use Rattle.circuit.specs.Circuit.{all_inputs, all_outputs, as_first, looks_ahead, look_ahead_checked}
use Rattle.circuit.specs.Found.{found}
use Rattle.circuit.specs.WellFormed.{CircuitHeaded, LegalGates}
use Rattle.circuit.proofs.Found.{found_here, found_nowhere, is_found, none_is}
use Rattle.circuit.proofs.Ahead.{ahead_seen, ahead_unseen}
use Rattle.lanes.specs.Limits.{lane_count}
use Rattle.latest.specs.Latest.{reaches_later}
use Rattle.latest.proofs.Unreached.{unreached}
use Rattle.causal.specs.Played.{part_as_first, FirstDiffering}

-- where the pass stands before the sequence `at`: no output from `from` to before `found` is seen to look ahead, and `found` is, if there is such an output
pub record Pass (b : List ℕ) (from found at : ℕ) : Type 0 where
  pub low : from ≤ found
  pub high : found ≤ all_outputs b
  pub before : (q x : ℕ) → from ≤ q → q < found → x < at → as_first b q x ≡ true
  pub there : found < all_outputs b → looks_ahead b found ≡ true

module _ (b : List ℕ) (H : CircuitHeaded b) (from : ℕ) where
  pub pass_start : from ≤ all_outputs b → (total : ℕ) → total ≡ all_outputs b → Pass b from total 0
  pass_start h total e = record { low = omega arith; high = omega arith; before = λ q x lo hi l. absurd (omega arith); there = λ l. absurd (omega arith) }

  -- a part more
  pub pass_more : (found at r : ℕ) → Pass b from found at → FirstDiffering b at from found r → Pass b from r (at + lane_count)
  unfolding part_as_first
  pass_more found at r P D = record {
    low = D.r_from;
    high = omega (arith, P.high, D.r_to);
    before = λ q x lo hi l. go q x lo hi l (dec_lt x at);
    there = λ l. ⊎_elim (λ (e : r ≡ found). subst (λ r. looks_ahead b r ≡ true) (sym e) (P.there (omega arith))) (seen l) (eq-or-lt_of_le D.r_to);
  }
    where
      go : (q x : ℕ) → from ≤ q → q < r → x < at + lane_count → Dec (x < at) → as_first b q x ≡ true
      go q x lo hi l (yes m) = P.before q x lo (omega (arith, D.r_to)) m
      go q x lo hi l (no m) =
          let e : at + (x - at) ≡ x = omega arith in
          subst (λ x. as_first b q x ≡ true) e (every_each (λ j. as_first b q (at + j)) lane_count (D.before q lo hi) (x - at) (omega arith))

      seen : r < all_outputs b → r < found → looks_ahead b r ≡ true
      seen l m = let (j, k, f) = every_fails lane_count (λ j. as_first b r (at + j)) (D.there m) in ahead_seen b H r l (at + j) f

  module _ (none : (q : ℕ) → q < from → looks_ahead b q ≡ false) where
    -- after all sequences
    pass_least : (found at count : ℕ) → count ≡ 2 ^ all_inputs b → count ≤ at → Pass b from found at → found ≡ least (all_outputs b) (looks_ahead b)
    pass_least found at count e h P = sym (least_is (all_outputs b) found (looks_ahead b) P.high (λ q l. go q l (dec_lt q from)) P.there)
      where
        go : (q : ℕ) → q < found → Dec (q < from) → looks_ahead b q ≡ false
        go q l (yes m) = none q m
        go q l (no m) = ahead_unseen b H q (omega (arith, P.high)) (λ x k. P.before q x (omega arith) l (omega arith))

    pub pass_some : (r at count : ℕ) → count ≡ 2 ^ all_inputs b → count ≤ at → Pass b from r at → r < all_outputs b → Some r ≡ found (all_outputs b) (least (all_outputs b) (looks_ahead b))
    pass_some r at count e h P l = found_here _ _ l ∙ ap (found (all_outputs b)) (pass_least r at count e h P)

    pub pass_none : (r at count : ℕ) → count ≡ 2 ^ all_inputs b → count ≤ at → Pass b from r at → all_outputs b ≤ r → None ≡ found (all_outputs b) (least (all_outputs b) (looks_ahead b))
    pass_none r at count e h P l = found_nowhere _ _ l ∙ ap (found (all_outputs b)) (pass_least r at count e h P)

    -- nothing before `from` looks ahead: once it is seen to do so, it is the first
    pub pass_early : (r at : ℕ) → r ≡ from → from < all_outputs b → Pass b from r at → Some r ≡ found (all_outputs b) (least (all_outputs b) (looks_ahead b))
    pass_early r at e l P =
        found_here _ _ (omega arith) ∙ ap (found (all_outputs b)) (sym (least_is (all_outputs b) r (looks_ahead b) P.high (λ q l. none q (omega arith)) P.there))

-- ---- the verdict

module _ (b : List ℕ) (H : CircuitHeaded b) where
  -- of the first output that looks ahead
  pub judged_at : (q : ℕ) → Some q ≡ found (all_outputs b) (least (all_outputs b) (looks_ahead b)) → answer 4 q ≡ look_ahead_checked b
  unfolding look_ahead_checked
  judged_at q e =
      let f = is_found (all_outputs b) _ q e in
      let t = least_tells (all_outputs b) (looks_ahead b) in
      rw (f.0, first_is (looks_ahead b) 4 (λ q. q) (answer 0 0) _ (all_outputs b) f.1 t.0 (t.1 f.1))

  pub judged_none : None ≡ found (all_outputs b) (least (all_outputs b) (looks_ahead b)) → answer 0 0 ≡ look_ahead_checked b
  unfolding look_ahead_checked
  judged_none e =
      let n = none_is (all_outputs b) _ e in
      sym (finds_none (looks_ahead b) 4 (λ q. q) (answer 0 0) 0 (all_outputs b) (λ q lo hi. (least_tells (all_outputs b) (looks_ahead b)).0 q (omega (arith, n))))

  module _ (L : LegalGates b) where
    none_before_least : (q : ℕ) → q < least (all_outputs b) (reaches_later b) → looks_ahead b q ≡ false
    none_before_least q h =
        unreached b H L q (omega (arith, least_le (all_outputs b) (reaches_later b))) ((least_tells (all_outputs b) (reaches_later b)).0 q (omega arith))

    -- the first output that reaches a later input: none before it looks ahead
    module _ (from : ℕ) (e : Some from ≡ found (all_outputs b) (least (all_outputs b) (reaches_later b))) where
      pub reaching_to : from < all_outputs b
      reaching_to = omega (arith, is_found (all_outputs b) _ from e)

      pub none_before : (q : ℕ) → q < from → looks_ahead b q ≡ false
      none_before q h = none_before_least q (omega (arith, is_found (all_outputs b) _ from e))

    -- where there is none, nothing is played
    pub none_reaching : None ≡ found (all_outputs b) (least (all_outputs b) (reaches_later b)) → answer 0 0 ≡ look_ahead_checked b
    unfolding look_ahead_checked
    none_reaching e =
        let n = none_is (all_outputs b) _ e in
        sym (finds_none (looks_ahead b) 4 (λ q. q) (answer 0 0) 0 (all_outputs b) (λ q lo hi. none_before_least q (omega (arith, n))))
