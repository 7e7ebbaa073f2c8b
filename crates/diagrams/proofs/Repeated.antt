-- Functions that are false, or an earlier one again, have no nodes of their own.
use mathlib.Core.Path.{◌≡◌, sym, ap, ap₂, ◌∙◌}
use mathlib.Core.Bool.{Bool, true, false, not}
use mathlib.Core.Logic.{◌⊎◌, ⊎_elim}
use mathlib.Core.List.{List, ◌∷◌, ◌++◌}
use Prim.Native.Nat.{ℕ, zero, suc, ◌+◌, ◌*◌, ◌-◌, ◌/◌, ◌^◌, ◌≤◌, ◌<◌}
use native.Mathlib.Nat.{add-mul, add-zero, add-suc}
use native.Mathlib.Omega.{arith}
use lib.Arith.{digits_div}
use lib.Dec.{T, eqb, eqb→eq, T_not}
use lib.ListN.{length, length-append}
use Rattle.layered.specs.Search.{least}
use Rattle.layered.proofs.Search.{both, iff_eq, least_finds, tally_split, tally_nowhere}
use Rattle.layered.proofs.Lists.{total_cong}
use Rattle.diagrams.specs.Counts.{bits, block, same_block, is_node, nodes_at, nodes_of}
use Rattle.diagrams.proofs.Blocks.{bits_length, number, bits_number, number_div, number_below, SameOn, on_same}
use Rattle.diagrams.proofs.Counted.{half_low, half_high}

module _ (N : ℕ) (F : ℕ → List Bool → Bool) where
  -- function x is false, or an earlier one
  unfoldable pub Repeats : (x : ℕ) → Type 0
  Repeats x = ((vs : List Bool) → length vs ≡ N → F x vs ≡ false) ⊎ ((s : ℕ) × (s < x) × ((vs : List Bool) → length vs ≡ N → F x vs ≡ F s vs))

  -- block q, of function M
  module _ (M k r q : ℕ) (e : r + suc k ≡ N) (of : q / 2 ^ k ≡ M) where
    is_block : (vs : List Bool) → block F k q vs ≡ F M (bits k q ++ vs)
    unfolding block
    is_block vs = ap (λ s. F s (bits k q ++ vs)) of

    long : (vs : List Bool) → length vs ≡ suc r → length (bits k q ++ vs) ≡ N
    long vs l = length-append (bits k q) vs ∙ omega (arith, bits_length k q)

    -- its halves are the same where M is false
    false_halves : ((vs : List Bool) → length vs ≡ N → F M vs ≡ false) → T (same_block F (suc k) r (2 * q) (2 * q + 1))
    unfolding SameOn
    false_halves z =
        on_same F (suc k) r (2 * q) (2 * q + 1)
        (λ vs l.
        half_low F k q vs ∙ is_block (false ∷ vs) ∙ z _ (long (false ∷ vs) (omega arith)) ∙ sym (z _ (long (true ∷ vs) (omega arith))) ∙ sym (is_block (true ∷ vs)) ∙ sym (half_high F k q vs))

    -- and it is the same as a block of s where M is s
    as_earlier : (s : ℕ) → ((vs : List Bool) → length vs ≡ N → F M vs ≡ F s vs) → T (same_block F k (suc r) (number s (bits k q)) q)
    unfolding SameOn block bits
    as_earlier s z =
        let p : ℕ = number s (bits k q) in
        let n : length (bits k q) ≡ k = bits_length k q in
        let m : length (bits k q) + 0 ≡ k = omega (arith, n) in
        let d : p / 2 ^ k ≡ s = ap (λ i. p / 2 ^ i) (sym n) ∙ number_div (bits k q) s in
        let b : bits k p ≡ bits k q = ap (λ i. bits i p) (sym m) ∙ bits_number (bits k q) 0 s in
        on_same F k (suc r) p q (λ vs l. ap₂ (λ s ps. F s (ps ++ vs)) d b ∙ sym (z _ (long vs l)) ∙ sym (is_block vs))

    -- so it is no node's
    no_node : M * 2 ^ k ≤ q → Repeats M → is_node F k r q ≡ false
    unfolding is_node Repeats
    no_node l R = iff_eq (is_node F k r q) false (λ t. none ((both (not (same_block F (suc k) r (2 * q) (2 * q + 1))) _).0 t)) (λ t. absurd t)
      where
        none : T (not (same_block F (suc k) r (2 * q) (2 * q + 1))) × T (eqb (least q (λ p. same_block F k (suc r) p q)) q) → ⊥
        none (h, f) = ⊎_elim
            (λ z. T_not (same_block F (suc k) r (2 * q) (2 * q + 1)) h (false_halves z))
            (λ (S : (s : ℕ) × (s < M) × ((vs : List Bool) → length vs ≡ N → F M vs ≡ F s vs)).
            let p : ℕ = number S.0 (bits k q) in
            let b : p < M * 2 ^ k = rw (bits_length k q) at (number_below (bits k q) S.0 M S.1) in
            omega (arith, eqb→eq (least q (λ p. same_block F k (suc r) p q)) q f, (least_finds q p (λ p. same_block F k (suc r) p q) (omega arith) (as_earlier S.0 S.2)).1))
            R

  one_more : (M : ℕ) → Repeats M → nodes_of N (suc M) F ≡ nodes_of N M F
  unfolding nodes_of nodes_at
  one_more M R = total_cong N _ _ (λ k h.
      let c : ℕ = 2 ^ k in
      let size : suc M * c ≡ M * c + c = omega (arith, add-mul 1 M c) in
      let z = tally_nowhere c (λ i. is_node F k (N - suc k) (M * c + i)) (λ i l. no_node M k (N - suc k) (M * c + i) (omega arith) (digits_div M l) (omega arith) R) in
      rw size (tally_split (M * c) c (is_node F k (N - suc k)) ∙ omega (arith, z)))

  -- j functions that repeat add no nodes
  pub nodes_repeated : (M j : ℕ) → ((i : ℕ) → i < j → Repeats (M + i)) → nodes_of N (M + j) F ≡ nodes_of N M F
  nodes_repeated M zero R = rw (add-zero M)
  nodes_repeated M (suc j) R = rw (add-suc M j) (one_more (M + j) (R j (omega arith)) ∙ nodes_repeated M j (λ i l. R i (omega arith)))
