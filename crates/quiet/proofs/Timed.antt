-- TimedWords one after the other: what their acceptance tells, and when they are accepted. Assumes nothing.
use mathlib.Core.Path.{◌≡◌, refl, sym, ap, ◌∙◌, subst}
use mathlib.Core.Bool.{Bool, true, false, cond}
use mathlib.Core.List.{List, [], ◌∷◌, ◌++◌}
use Prim.Native.Nat.{ℕ, suc, ◌+◌, ◌^◌, ◌≤◌, ◌<◌}
use native.Mathlib.Nat.{add-zero}
use native.Mathlib.Omega.{arith}
use lib.Dec.{T, eqb, ltb, ltb→lt}
use lib.ListN.{length}
use borrow.Author.Tests.{lt-leb, eqb-true}
use Rattle.verdict.specs.Judgements.{answer, and_then}
use Rattle.verdict.specs.declared.Figures.{Figures}
use Rattle.verdict.proofs.Laws.{both_accept}
use Rattle.sizes.specs.Sizes.{inputs, frames}
use Rattle.layered.specs.States.{Words, more}
use Rattle.layered.specs.Machines.{feed, reached}
use Rattle.layered.proofs.Search.{both}
use Rattle.table.specs.Table.{states, machine, head_checked, checked}
use Rattle.table.proofs.Accepted.{head_accepts, sound}
use Rattle.positions.specs.declared.Position.{Position}
use Rattle.steps.specs.Steps.{move_checked, step_checked, step_after, stepped, moved, handed_back, position_of}
use Rattle.steps.specs.Theorems.{steps_by, outputs_of}
use Rattle.steps.specs.declared.StepFigures.{StepFigures}
use Rattle.steps.proofs.Steps.{move_passes}
use Rattle.quiet.specs.Limits.{week_minutes}
use Rattle.quiet.specs.Windows.{windows_checked, time_checked, is_quiet}
use Rattle.quiet.specs.Quiet.{quiet_checked, heard, quiet_stepped}
use Rattle.quiet.specs.Theorems.{TimedWord, words_of, quiet_steps_by, all_accepted, left_at, silenced, all_timed, QuietSteps, AfterSilence, QuietAccepts}

abbrev at : (t s : ℕ) → Position
at t s = record { layer = t; state = s }

-- ---- one word

module _ (b ws : List ℕ) (m t s w : ℕ) where
  -- one that is accepted moves the board as the plain step does, which is accepted too
  accepted : T (eqb (quiet_stepped b ws m t s w).number 0) → (quiet_stepped b ws m t s w ≡ heard (is_quiet ws m) (moved b t s w)) × (stepped b t s w ≡ moved b t s w)
  unfolding quiet_stepped quiet_checked stepped step_checked
  accepted h = go (eqb f.number 0) refl h
    where
      f : Figures
      f = and_then (head_checked b) (and_then (time_checked ws m) (move_checked b t s w))

      go : (x : Bool) → eqb f.number 0 ≡ x → T (eqb (cond x (moved b t s w) (handed_back f t s)).number 0)
          → (heard (is_quiet ws m) (step_after f b t s w) ≡ heard (is_quiet ws m) (moved b t s w)) × (step_after (and_then (head_checked b) (move_checked b t s w)) b t s w ≡ moved b t s w)
      go true e h =
          let a = both_accept (head_checked b) _ f.place (ap (λ (n : ℕ). answer n f.place) (eqb-true f.number 0 e)) in
          let c = both_accept (time_checked ws m) (move_checked b t s w) _ a.2 in
          (rw e, rw (a.1, c.2))
      go false e h = absurd (rw e at h)

  -- with windows and a minute that pass, one that the plain table accepts is accepted
  passes : (p q : ℕ) → checked b ≡ answer 0 p → windows_checked ws ≡ answer 0 q → m < week_minutes → t < frames b → s < states b t → w < 2 ^ inputs b
      → quiet_stepped b ws m t s w ≡ heard (is_quiet ws m) (moved b t s w)
  unfolding quiet_stepped quiet_checked time_checked
  passes p q e d hm ht hs hw = rw ((head_accepts b p e).1, d, lt-leb week_minutes m hm, move_passes b p e t s w ht hs hw)

-- ---- many

module _ (b ws : List ℕ) where
  -- what is left of timed words behind the first, which was accepted and led to the state s of layer t
  behind : (f : StepFigures) (t s : ℕ) (is : List TimedWord) → position_of f ≡ at t s → T (all_accepted (quiet_steps_by b ws (position_of f) is)) → T (all_accepted (quiet_steps_by b ws (at t s) is))
  behind f t s is e h = subst (λ (p : Position). T (all_accepted (quiet_steps_by b ws p is))) e h

  pub quiet_steps : QuietSteps b ws
  unfolding QuietSteps quiet_steps_by steps_by all_accepted left_at outputs_of silenced words_of feed reached
  quiet_steps p [] h = record { accepted = tt; position_same = refl; position_is = ap (λ (k : ℕ). at k p.state) (sym (add-zero p.layer)); outputs_silenced = refl; outputs_are = refl }
  quiet_steps p (i ∷ is) h =
      let t = p.layer in
      let s = p.state in
      let w = i.word in
      let n = (machine b).next t s w in
      let x = (both (eqb (quiet_stepped b ws i.minute t s w).number 0) _).0 h in
      let a = accepted b ws i.minute t s w x.0 in
      let r = quiet_steps (at (suc t) n) is (behind (quiet_stepped b ws i.minute t s w) (suc t) n is (ap position_of a.0) x.1) in
      let k : suc t + length is ≡ t + suc (length is) = omega arith in
      record {
        accepted = rw a.1 r.accepted;
        position_same = rw (a.0, a.1) r.position_same;
        position_is = rw a.1 (r.position_is ∙ ap (λ (k : ℕ). at k (reached (machine b) (suc t) n (words_of is))) k);
        outputs_silenced = rw (a.0, a.1) (ap (λ (l : List ℕ). cond (is_quiet ws i.minute) 0 ((machine b).out t s w) ∷ l) r.outputs_silenced);
        outputs_are = rw a.1 (ap (λ (l : List ℕ). (machine b).out t s w ∷ l) r.outputs_are);
      }

  pub after_silence : AfterSilence b ws
  unfolding AfterSilence quiet_steps_by all_accepted outputs_of words_of reached
  after_silence p [] i h q =
      let x = (both (eqb (quiet_stepped b ws i.minute p.layer p.state i.word).number 0) _).0 h in
      rw ((accepted b ws i.minute p.layer p.state i.word x.0).0, q, add-zero p.layer)
  after_silence p (j ∷ is) i h q =
      let t = p.layer in
      let s = p.state in
      let n = (machine b).next t s j.word in
      let x = (both (eqb (quiet_stepped b ws j.minute t s j.word).number 0) _).0 h in
      let a = accepted b ws j.minute t s j.word x.0 in
      let r = after_silence (at (suc t) n) is i (behind (quiet_stepped b ws j.minute t s j.word) (suc t) n (is ++ (i ∷ [])) (ap position_of a.0) x.1) q in
      let k : suc t + length is ≡ t + suc (length is) = omega arith in
      rw (a.0, ← k) (ap (λ (l : List ℕ). cond (is_quiet ws j.minute) 0 ((machine b).out t s j.word) ∷ l) r)

  -- words of up to T frames, from a state
  module _ (p q : ℕ) (e : checked b ≡ answer 0 p) (d : windows_checked ws ≡ answer 0 q) where
    accepts : {k : ℕ} (t s : ℕ) (is : List TimedWord) → s < states b t → t + k ≤ frames b → Words (2 ^ inputs b) k (words_of is) → T (all_timed is)
        → T (all_accepted (quiet_steps_by b ws (at t s) is))
    unfolding quiet_steps_by all_accepted all_timed words_of
    accepts t s [] hs hk r m = tt
    accepts t s (i ∷ is) hs hk (more hw r) m =
        let x = (both (ltb i.minute week_minutes) _).0 m in
        let a = passes b ws i.minute t s i.word p q e d (ltb→lt _ _ x.0) (omega arith) hs hw in
        rw a (accepts (suc t) ((machine b).next t s i.word) is ((sound b p e).legal.next_is t s i.word (omega arith) hs hw) (omega arith) r x.1)

  pub quiet_accepts : QuietAccepts b ws
  unfolding QuietAccepts
  quiet_accepts p q e d k is h r m = accepts p q e d 0 0 is (sound b p e).legal.start_is (omega arith) r m

  -- all three, as the calls cite them
  pub theorems : QuietSteps b ws × (AfterSilence b ws × QuietAccepts b ws)
  theorems = (quiet_steps, (after_silence, quiet_accepts))
