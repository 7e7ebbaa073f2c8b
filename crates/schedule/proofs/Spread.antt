-- The source that the lists make of a network, and what is judged by it. Assumes nothing.
use mathlib.Core.Path.{◌≡◌, refl, ap, ap₂, ◌∙◌}
use mathlib.Core.Bool.{Bool, true, false, cond}
use mathlib.Core.List.{List, ◌++◌}
use Prim.Native.Nat.{ℕ, ◌+◌, ◌*◌, ◌-◌, ◌/◌, ◌%◌, ◌<◌}
use native.Mathlib.Omega.{arith}
use lib.Dec.{ltb, eqb}
use lib.ListN.{length, get_or}
use borrow.Author.Tests.{ltb-false, eqb-false}
use Rattle.verdict.specs.Judgements.{Verdict, answer, figures, refusal_figures}
use Rattle.verdict.specs.declared.Refusal.{Refusal}
use Rattle.verdict.proofs.Laws.{refusal_number}
use Rattle.verdict.specs.declared.Figures.{Figures}
use Rattle.words.specs.Words.{word_bytes}
use Rattle.layered.proofs.Search.{least_cong}
use Rattle.circuit.specs.Circuit.{gates, lefts_at, rights_at, all_inputs, all_outputs, operand, circuit_words, output_gate, look_ahead_checked}
use Rattle.circuit.specs.WellFormed.{HeadOf}
use Rattle.circuit.specs.declared.Head.{Head}
use Rattle.circuit.proofs.Lists.{listed_cong}
use Rattle.source.specs.Rearranged.{standing, renamed, renamed_gate, item_at, connects_at, shown_literal, rearranged_gates, rearranged}
use Rattle.source.specs.Source.{sourced, SourceOf}
use Rattle.source.specs.Source.SourceOf.{spread}
use Rattle.source.specs.declared.Source.{Source}
use Rattle.source.proofs.Sources.{sourced_spread}
use Rattle.folded.specs.Folded.{scratch_needed, six_checked, cleared_to, cleared}
use Rattle.lent.specs.Lent.{Takes}
use Rattle.spreading.specs.Spread.{schedule_checked, spread_lent, spread_scratch}
use Rattle.spreading.proofs.Schedule.{Scheduled}

-- ---- only as many items of the lists are read as the network has inputs and outputs

standing_same : (own all : ℕ) (ps qs : List ℕ) → ((i : ℕ) → i < own → get_or ps i 0 ≡ get_or qs i 0) → (s : ℕ) → standing own ps all s ≡ standing own qs all s
unfolding standing
standing_same own all ps qs P s = go (ltb own s) refl (eqb s 0) refl
  where
    go : (t : Bool) → ltb own s ≡ t → (z : Bool) → eqb s 0 ≡ z
        → cond t (all + (s - own)) (cond z 0 (1 + get_or ps (s - 1) 0)) ≡ cond t (all + (s - own)) (cond z 0 (1 + get_or qs (s - 1) 0))
    go true _ _ _ = refl
    go false _ true _ = refl
    go false e false z = ap (λ p. 1 + p) (P (s - 1) (omega (arith, ltb-false own s e, eqb-false s 0 z)))

module _ (c : List ℕ) (n m T : ℕ) (ps qs ins outs : List ℕ) (P : (i : ℕ) → i < all_inputs c → get_or ps i 0 ≡ get_or ins i 0) (Q : (k : ℕ) → k < all_outputs c → get_or qs k 0 ≡ get_or outs k 0) where
  gate_same : (g : ℕ) → renamed_gate c ps (n * T) g ≡ renamed_gate c ins (n * T) g
  unfolding renamed_gate renamed
  gate_same g =
      let same : (l : ℕ) → 2 * standing (all_inputs c) ps (n * T) (l / 2) + l % 2 ≡ 2 * standing (all_inputs c) ins (n * T) (l / 2) + l % 2
      = λ l. ap (λ s. 2 * s + l % 2) (standing_same (all_inputs c) (n * T) ps ins P (l / 2)) in
      ap₂ (λ x y. (x, y)) (same (operand c (lefts_at c) g)) (same (operand c (rights_at c) g))

  item_same : (q : ℕ) → item_at (all_outputs c) qs q ≡ item_at (all_outputs c) outs q
  unfolding item_at
  item_same q = least_cong (all_outputs c) _ _ (λ k h. ap (λ p. eqb p q) (Q k h))

  shown-same : (q : ℕ) → output_gate (connects_at c qs q) (shown_literal c qs (n * T) q) ≡ output_gate (connects_at c outs q) (shown_literal c outs (n * T) q)
  unfolding connects_at shown_literal
  shown-same q = rw (item_same q)

  pub rearranged_same : rearranged c n m T ps qs ≡ rearranged c n m T ins outs
  unfolding rearranged rearranged_gates
  rearranged_same =
      ap (λ gs. word_bytes (circuit_words n m T gs))
      (ap₂ ◌++◌ (listed_cong _ _ (gates c) (λ g _. gate_same g)) (listed_cong _ _ (m * T) (λ q _. shown-same q)))

-- ---- the source

module _ (c : List ℕ) (n m T : ℕ) (ins outs : List ℕ) (S : Scheduled c n m T ins outs) (own : Head) (O : HeadOf c own) (ps qs : List ℕ)
    (P : (i : ℕ) → i < length ins → get_or ps i 0 ≡ get_or ins i 0) (Q : (k : ℕ) → k < length outs → get_or qs k 0 ≡ get_or outs k 0) where
  abbrev pub made : Source
  made = record { inputs = n; outputs = m; frames = T; gates = own.gates + m * T; base = 1 + n * T; total = m * T; own = own; whole = false; places = ps; shown = qs }

  pub made_source : SourceOf c made
  made_source =
      let F = S.spreads in
      spread refl (record {
        network = record { headed = F.network.headed; head_is = O; legal = F.network.legal };
        one_frame = F.one_frame;
        few = F.few;
        sizes = F.sizes;
        base_is = refl;
        total_is = refl;
        gates_is = ap (λ g. g + m * T) O.gates_is;
        places_in = λ i h. rw (P i (omega (arith, S.ins_many))) (F.places_in i h);
        few_outputs = F.few_outputs;
      })

  pub made_is : sourced made c ≡ rearranged c n m T ins outs
  made_is = sourced_spread c made refl ∙ rearranged_same c n m T ps qs ins outs (λ i h. P i (omega (arith, S.ins_many))) (λ k h. Q k (omega (arith, S.outs_many)))

-- ---- what is judged

module _ (c : List ℕ) (n m T : ℕ) (ins outs s : List ℕ) where
  abbrev r : List ℕ
  r = rearranged c n m T ins outs

  -- the network, the sizes or the lists are refused
  pub schedule_refused : (r : Refusal) → refusal_figures r ≡ schedule_checked c n m T ins outs → refusal_figures r ≡ spread_lent c n m T ins outs (length s)
  unfolding spread_lent
  schedule_refused r e = rw (← e, refusal_number r)

  -- a refusal leaves the scratch
  pub scratch_kept : (f : Figures) → f ≡ spread_lent c n m T ins outs (length s) → eqb f.number 0 ≡ false → s ≡ spread_scratch c n m T ins outs s
  unfolding spread_scratch
  scratch_kept f e z = rw (← e, z)

  module _ (p : ℕ) (e : schedule_checked c n m T ins outs ≡ answer 0 p) where
    -- number 4
    pub ahead_refused : (f : Figures) → f ≡ look_ahead_checked r → eqb f.number 0 ≡ false → f ≡ spread_lent c n m T ins outs (length s)
    unfolding spread_lent
    ahead_refused f q z = rw (e, ← q, z)

    module _ (o : ℕ) (a : look_ahead_checked r ≡ answer 0 o) (v : Verdict) (needed : ℕ) (k : needed ≡ scratch_needed r) (s' : List ℕ) (K : Takes needed s s' v) where
      pub lent_judged : figures v ≡ spread_lent c n m T ins outs (length s)
      unfolding spread_lent
      lent_judged = rw (e, a) (K.answered ∙ ap (λ k. six_checked k (length s)) k)

      pub lent_left : s' ≡ spread_scratch c n m T ins outs s
      unfolding spread_scratch spread_lent cleared
      lent_left = rw (e, a) (K.left ∙ ap (λ k. cond (ltb (length s) k) s (cleared_to k s)) k ∙ go (ltb (length s) (scratch_needed r)))
        where
          go : (t : Bool) → cond t s (cleared_to (scratch_needed r) s) ≡ cond (eqb (cond t (answer 6 (scratch_needed r)) (answer 0 0)).number 0) (cleared_to (scratch_needed r) s) s
          go true = refl
          go false = refl
