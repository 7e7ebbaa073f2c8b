-- Where the layers lie: one after the other, all before the end of the half; and the sizes that follow. Assumes nothing.
use mathlib.Core.Path.{◌≡◌, ap, ap₂, ◌∙◌}
use Prim.Native.Nat.{ℕ, zero, suc, ◌+◌, ◌*◌, ◌-◌, ◌/◌, ◌^◌, ◌≤◌, ◌<◌, min}
use native.Mathlib.Nat.{pow-zero, pow-suc, mul-suc, mul-le-mul_left, mul-le-mul_right, add-mul, le_refl, pow-le-pow_right, one-le-pow}
use native.Mathlib.Numerals.{add-one}
use native.Mathlib.Decide.{le_ind}
use native.Mathlib.Omega.{arith}
use lib.Pow.{pow_mono, pow_pos}
use lib.ListN.{set}
use Rattle.layered.proofs.Rows.{pow-mul, power_fits}
use Rattle.layered.proofs.States.{count_at_most, number_below}
use Rattle.explore.specs.Explore.{column_count, layer_at, Laid, count_at, Subject, grouped, next_layer, Groupable, Nextable}
use Rattle.explore.specs.declared.Layout.{Layout}
use Rattle.explore.specs.declared.Cursor.{Cursor}

-- the next layer begins behind all words of this one's
pub layer_next : (K t : ℕ) → layer_at K (suc t) ≡ layer_at K t * K + 1
unfolding layer_at
layer_next K zero = omega (arith, pow-zero K)
layer_next K (suc t) = omega (arith, layer_next K t, pow-suc K t, add-mul (layer_at K t) (K ^ t) K)

module _ (K : ℕ) (two : 2 ≤ K) where
  layer_below : (t : ℕ) → layer_at K t < K ^ t
  unfolding layer_at
  layer_below zero = rw pow-zero (le_refl 1)
  layer_below (suc t) = rw pow-suc (omega (arith, layer_below t, mul-le-mul_left (K ^ t) two))

  -- later layers begin behind earlier ones
  pub layer_apart : (t u : ℕ) → t < u → layer_at K t + K ^ t ≤ layer_at K u
  unfolding layer_at
  layer_apart t u h = le_ind (λ u. layer_at K t + K ^ t ≤ layer_at K u) (le_refl _) (λ u _ p. omega arith) u h

  power_le : (t u : ℕ) → t ≤ u → K ^ t ≤ K ^ u
  power_le t u h = pow-le-pow_right {n = K} (omega arith) h

  -- a layer below T ends in the half
  pub layer_in : (t T : ℕ) → t < T → layer_at K t + K ^ t < K ^ T
  unfolding layer_at
  layer_in t T h = omega (arith, layer_below (suc t), power_le (suc t) T h)

module _ (layout : Layout) (L : Laid layout) where
  pub two_words : 2 ≤ layout.fan
  two_words = omega (arith, L.fan_is, pow_mono {i = 1} L.inputs_from)

  pub frames_to : layout.frames ≤ 16
  frames_to = omega (arith, L.bits_to, mul-le-mul_right layout.frames L.inputs_from)

  pub outputs_few : layout.outputs * layout.frames ≤ 256
  outputs_few = omega (arith, frames_to, mul-le-mul_right layout.frames L.outputs_to)

  pub half_to : layout.half ≤ 65536
  half_to = omega (arith, L.half_is, ap (λ (K : ℕ). K ^ layout.frames) L.fan_is, power_fits layout.bits layout.frames L.bits_to)

  -- a layer below the last has at most 32,768 histories
  pub few_histories : (t : ℕ) → t < layout.frames → layout.fan ^ t ≤ 32768
  few_histories t h =
      let b : layout.bits * t ≤ 15 = omega (arith, mul-suc layout.bits t, mul-le-mul_left layout.bits h, L.bits_to, L.inputs_from) in
      let p : 2 ^ (layout.bits * t) ≤ 32768 = pow_mono {j = 15} b in
      omega (arith, p, pow-mul 2 layout.bits t, ap (λ (K : ℕ). K ^ t) L.fan_is)

  pub words_few : layout.fan ≤ 65536
  words_few =
      let b : layout.bits ≤ 16 = omega (arith, L.bits_to, mul-le-mul_left layout.bits L.frames_from) in
      let p : 2 ^ layout.bits ≤ 65536 = pow_mono {j = 16} b in
      omega (arith, p, L.fan_is)

  -- an output of a later frame
  pub outputs_le : (t u : ℕ) → t ≤ u → layout.outputs * t ≤ layout.outputs * u
  outputs_le t u h = mul-le-mul_left layout.outputs h

  module _ (g : Subject) where
    -- no more states than histories
    pub few_states : (t : ℕ) → count_at layout g t ≤ layout.fan ^ t
    few_states t = omega (arith, count_at_most (2 ^ layout.bits) layout.frames g.y t, ap (λ (K : ℕ). K ^ t) L.fan_is)

    pub some_state : (t : ℕ) → 1 ≤ count_at layout g t
    some_state t = omega (arith, number_below (2 ^ layout.bits) layout.frames g.y t 0 (one-le-pow t (2 ^ layout.bits) (pow_pos layout.bits)))

-- how many ids an output has, for a group
pub group_count : (layout : Layout) (c : Cursor) → Groupable layout c → (1 ≤ c.states * layout.fan) × (c.states * layout.fan ≤ 4294967296)
group_count layout c G =
    let L = G.laid in
    let a : 1 * layout.fan ≤ c.states * layout.fan = mul-le-mul_right layout.fan G.states_from in
    let b : c.states * layout.fan ≤ 65536 * layout.fan = mul-le-mul_right layout.fan G.states_to in
    (omega (arith, two_words layout L), omega (arith, words_few layout L))

pub grouped_is : (layout : Layout) (c : Cursor) (parts : ℕ) → parts ≡ min (layout.outputs * layout.frames - c.first) (column_count / (c.states * layout.fan))
    → record { layer = c.layer; states = c.states; at = c.at; first = c.first; parts = parts; state = 0; counts = c.counts } ≡ grouped layout c
unfolding grouped
grouped_is layout c parts e = ap (λ (p : ℕ). record { layer = c.layer; states = c.states; at = c.at; first = c.first; parts = p; state = 0; counts = c.counts }) e

-- ---- a layer more

module _ (layout : Layout) (c : Cursor) (k : ℕ) where
  -- as it is computed
  abbrev pub layer_more : Cursor
  layer_more = record {
    layer = c.layer + 1;
    states = k;
    at = c.at * layout.fan + 1;
    first = layout.outputs * (c.layer + 1 + 1);
    parts = 0;
    state = 0;
    counts = set c.counts (c.layer + 1) k;
  }

  pub next_is : grouped layout layer_more ≡ next_layer layout c k
  next_is = ap₂ (λ (a b : ℕ). grouped layout (record { layer = a; states = k; at = c.at * layout.fan + 1; first = layout.outputs * b; parts = 0; state = 0; counts = set c.counts a k }))
      (add-one c.layer) (add-one (c.layer + 1) ∙ ap suc (add-one c.layer))

  module _ (N : Nextable layout c k) where
    pub next_place : c.layer + 1 < 17
    next_place = omega (arith, frames_to layout N.laid, N.more)

    pub next_groupable : Groupable layout layer_more
    next_groupable = record { laid = N.laid; states_from = N.count_from; states_to = omega (arith, N.count_to); first_to = outputs_le layout N.laid (c.layer + 1 + 1) layout.frames (omega (arith, N.more)) }

    pub next-first : layout.outputs * (c.layer + 1 + 1) ≤ 256
    next-first = omega (arith, next_groupable.first_to, outputs_few layout N.laid)
