-- Where the entries of a table stand, and what is known of its sizes. Assumes nothing.
use mathlib.Core.Path.{◌≡◌, ap, ◌∙◌}
use mathlib.Core.List.{List}
use Prim.Native.Nat.{ℕ, suc, ◌+◌, ◌*◌, ◌^◌, ◌≤◌, ◌<◌}
use native.Mathlib.Nat.{one-le-pow, mul-le-mul_right}
use native.Mathlib.Omega.{arith}
use lib.Arith.{digits_lt}
use lib.ListN.{length, get_or}
use lib.Pow.{pow_mono}
use Rattle.words.specs.Words.{word_at}
use Rattle.sizes.specs.Sizes.{inputs, outputs, frames}
use Rattle.table.specs.Table.{states, connected, nexts_at, head_length, entry_at, machine}
use Rattle.table.proofs.Offsets.{layer_in, arrays_stand, head_length_lem}
use Rattle.trial.specs.Tried.{Held}
use Rattle.trial.specs.declared.Sought.{Sought}

module _ (a : Sought) (bytes starts : List ℕ) (H : Held bytes starts a) where
  words_is : a.words ≡ 2 ^ inputs bytes
  words_is = H.words_are ∙ ap (λ n. 2 ^ n) H.inputs_are

  pub words_some : 0 < a.words
  words_some = rw H.words_are (one-le-pow a.inputs 2 (omega arith))

  pub words_few : a.words ≤ 4
  words_few = rw H.words_are (pow_mono H.few_inputs)

  pub few_bits : a.inputs * a.frames ≤ 16
  few_bits = rw (H.inputs_are, H.frames_are) H.sound.headed.sized.bits_to

  pub few_frames : a.frames ≤ 16
  few_frames = rw H.frames_are H.sound.headed.sized.frames_to

  pub few_outputs : outputs bytes ≤ 16
  few_outputs = H.sound.headed.sized.outputs_to

  pub few_entries : a.entries ≤ 12
  few_entries = let l = mul-le-mul_right a.words H.few_states in let m = words_few in omega (arith, H.entries_are)

  pub masks : (t : ℕ) → t < a.frames → connected bytes t < 2 ^ outputs bytes
  masks t l = H.sound.headed.connected_to t (omega (arith, H.frames_are))

  pub head_in : head_length a.frames ≤ length bytes
  head_in = omega (arith, head_length_lem a.frames, (arrays_stand bytes).0, (arrays_stand bytes).1, (arrays_stand bytes).2, H.sound.headed.whole, H.frames_are)

  pub entry_in : (s w : ℕ) → s < a.states → w < a.words → s * a.words + w < a.entries
  entry_in s w ls lw = rw H.entries_are (digits_lt ls lw)

  pub start_in : (machine bytes).start < states bytes 0
  start_in = H.sound.legal.start_is

  module _ (t s w : ℕ) (lt : t < a.frames) (ls : s < states bytes t) (lw : w < a.words) where
    frame_in : t < frames bytes
    frame_in = omega (arith, H.frames_are)

    word_in : w < 2 ^ inputs bytes
    word_in = omega (arith, words_is)

    pub next_below : (machine bytes).next t s w < states bytes (suc t)
    next_below = H.sound.legal.next_is t s w frame_in ls word_in

    -- the entry is among all entries
    pub entry_inside : get_or starts t 0 + 2 * (s * a.words + w) + 2 ≤ nexts_at bytes
    entry_inside =
        let d : s * a.words + w < states bytes t * a.words = digits_lt ls lw in
        let e : states bytes t * a.words ≡ states bytes t * 2 ^ inputs bytes = ap (λ n. states bytes t * n) words_is in
        omega (arith, d, e, layer_in bytes t frame_in, H.starts_are t lt, (arrays_stand bytes).1)

    pub next_inside : a.gap + (get_or starts t 0 + 2 * (s * a.words + w)) + 1 < length bytes
    next_inside = omega (arith, entry_inside, H.gap_is, (arrays_stand bytes).2, H.sound.headed.whole)

    pub out_at : word_at bytes (get_or starts t 0 + 2 * (s * a.words + w)) ≡ (machine bytes).out t s w
    unfolding entry_at
    out_at = ap (word_at bytes) (omega (arith, H.starts_are t lt, ap (λ n. s * n) words_is))

    pub next_at : word_at bytes (a.gap + (get_or starts t 0 + 2 * (s * a.words + w))) ≡ (machine bytes).next t s w
    unfolding entry_at
    next_at = ap (word_at bytes) (omega (arith, H.starts_are t lt, H.gap_is, (arrays_stand bytes).1, ap (λ n. s * n) words_is))
