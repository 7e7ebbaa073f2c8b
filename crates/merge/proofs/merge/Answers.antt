-- `merge::merge` meets its contract: each return is a case of the definition.
-- Assumes nothing.
use mathlib.Core.Path.{◌≡◌, sym, ap, subst}
use Prim.Native.Nat.{◌+◌, ◌*◌, ◌≤◌, ◌<◌}
use native.Mathlib.Nat.{mul-le-mul_right}
use native.Mathlib.Omega.{arith}
use lib.ListN.{length}
use lib.Pow.{pow_mono}
use Rattle.sizes.specs.Sizes.{inputs}
use Rattle.sizes.specs.declared.Sizes.{Sizes}
use Rattle.table.specs.Sound.{Sound, layout_of}
use Rattle.table.specs.declared.Layout.{Layout}
use Rattle.table.proofs.Accepted.{sound}
use Rattle.table.proofs.Offsets.{Laid, laid}
use Rattle.merged.specs.Merged.{entries_of, first_machine}
use Rattle.merge.specs.Merge.{target, merge_bytes}
use Rattle.merge.specs.Found.{FewestIs}
use Rattle.merge.specs.declared.Fewest.{Fewest}
use Rattle.merge.proofs.Bytes.{bytes_length, words_found, words_left}
use Rattle.merge.proofs.Outcomes.{narrow_few, narrow_refused, table_refused, unmatched, short, accepted}
use Rattle.merge.proofs.merge.Goals as goal
use Rattle.merge.proofs.merge.Goals.{In_ok-check}

-- ---- the table is accepted, and n is at most 2

legal : (t : In_ok-check) → Sound t.args.table.now
legal t = sound t.args.table.now t.in_ok-check.field-0 (sym t.in_ok-check.ensures.verdict)

few_inputs : (t : In_ok-check) → inputs t.args.table.now ≤ 2
few_inputs t = narrow_few t.args.table.now _ (sym t.in_ok-check_narrow.ensures)

-- ---- the fewest states, of which there are as many entries as the definition has

module _ (t : In_ok-check) (layout : Layout) (el : layout ≡ layout_of t.args.table.now) where
  stands : Laid t.args.table.now layout
  stands = laid _ _ (legal t).headed el

  words_few : layout.words ≤ 4
  words_few = rw stands.words_is (pow_mono (few_inputs t))

  module _ (F : Fewest) (known : FewestIs t.args.table.now F) where
    entries_are : F.states * layout.words ≡ entries_of (target t.args.table.now) F.states
    unfolding entries_of
    entries_are = ap (λ w. F.states * w) stands.words_is

    -- where there is a machine
    few_entries : (F.states ≤ 3) × (F.states * layout.words ≤ 12)
    few_entries =
        let m = mul-le-mul_right layout.words known.few in
        (known.few, omega (arith, m, words_few))

    bytes_are : 6 + 4 * (F.states * layout.words) ≡ length (merge_bytes t.args.table.now)
    unfolding merge_bytes
    bytes_are = omega (arith, entries_are, ap (entries_of (target t.args.table.now)) known.states_are, bytes_length t.args.table.now (first_machine (target t.args.table.now)))

-- ---- the answers

pub returns-in_err-check_narrow : goal.returns-in_err-check_narrow
returns-in_err-check_narrow c =
    let p = narrow_refused c.args.table.now c.args.res.now _ _ c.from_residual.ensures.1 c.in_err-check_narrow.ensures in
    record { verdict = p.0; res = p.1.0; merges = p.1.1.0; alike = p.1.1.1 }

pub returns-in_err-check : goal.returns-in_err-check
returns-in_err-check c =
    let p = table_refused c.args.table.now c.args.res.now c.in_ok-check_narrow.field-0 c.in_ok-check_narrow.ensures _ _ c.from_residual-in_err-check.ensures.1 c.in_err-check.ensures.verdict in
    record { verdict = p.0; res = p.1.0; merges = p.1.1.0; alike = p.1.1.1 }

pub read-layout-requires : goal.read-layout-requires
read-layout-requires c = (legal (goal.at.read-layout-requires c).In_ok-check).headed

pub read-sizes-requires : goal.read-sizes-requires
read-sizes-requires c =
    let l = stands (goal.at.read-sizes-requires c).In_ok-check _ c.read-layout.ensures in
    omega (arith, l.end_at, l.nexts-at, l.outputs-at)

pub layer_starts-starts-requires : goal.layer_starts-starts-requires
layer_starts-starts-requires c = ((legal (goal.at.layer_starts-starts-requires c).In_ok-check).headed, c.read-layout.ensures)

pub fewest_states-requires : goal.fewest_states-requires
fewest_states-requires c =
    let t = (goal.at.fewest_states-requires c).In_ok-check in
    let n = ap (λ (s : Sizes). s.inputs) c.read-sizes.ensures in record {
      sound = (legal t, c.read-layout.ensures);
      inputs_value = (n, subst (λ x. x ≤ 2) (sym n) (few_inputs t), c.layer_starts-starts.ensures.starts);
    }

pub returns-in_default : goal.returns-in_default
returns-in_default c =
    let p =
    unmatched c.args.table.now c.args.res.now c.in_ok-check_narrow.field-0 c.in_ok-check_narrow.ensures c.in_ok-check.field-0 c.in_ok-check.ensures.verdict (c.fewest_states.ensures.none c.in_default.is) in
    record { verdict = p.0; res = p.1.0; merges = p.1.1.0; alike = p.1.1.1 }

pub overflow_mul-entries : goal.overflow_mul-entries
overflow_mul-entries c = omega (arith, few_entries (goal.at.overflow_mul-entries c).In_ok-check _ c.read-layout.ensures _ (c.fewest_states.ensures.one _ c.in-Some.is))

pub overflow_mul-bytes : goal.overflow_mul-bytes
overflow_mul-bytes c = omega (arith, few_entries (goal.at.overflow_mul-bytes c).In_ok-check _ c.read-layout.ensures _ (c.fewest_states.ensures.one _ c.in-Some.is))

pub overflow_add-bytes : goal.overflow_add-bytes
overflow_add-bytes c = omega (arith, few_entries (goal.at.overflow_add-bytes c).In_ok-check _ c.read-layout.ensures _ (c.fewest_states.ensures.one _ c.in-Some.is))

pub returns-then-res-bytes : goal.returns-then-res-bytes
returns-then-res-bytes c =
    let t = (goal.at.returns-then-res-bytes c).In_ok-check in
    let F = (c.fewest_states.ensures.one _ c.in-Some.is) in
    let few = few_entries t _ c.read-layout.ensures _ F in
    let p =
    short c.args.table.now c.args.res.now c.in_ok-check_narrow.field-0 c.in_ok-check_narrow.ensures c.in_ok-check.field-0 c.in_ok-check.ensures.verdict
    (omega (arith, few, F.states_are)) _ (bytes_are t _ c.read-layout.ensures _ F) (omega (arith, c.if-res-bytes.true)) in
    record { verdict = p.0; res = p.1.0; merges = p.1.1.0; alike = p.1.1.1 }

pub write_machine-requires : goal.write_machine-requires
write_machine-requires c =
    let t = (goal.at.write_machine-requires c).In_ok-check in
    let F = (c.fewest_states.ensures.one _ c.in-Some.is) in
    let few = few_entries t _ c.read-layout.ensures _ F in
    let Z = (legal t).headed.sized in record {
      inputs_bound = (omega (arith, ap (λ (s : Sizes). s.inputs) c.read-sizes.ensures, Z.inputs_to), omega (arith, ap (λ (s : Sizes). s.outputs) c.read-sizes.ensures, Z.outputs_to), omega (arith, few));
      outs_len = (F.outs_long, F.nexts_long, few.1, omega (arith, c.if-res-bytes.false));
    }

pub returns : goal.returns
returns c =
    let t = (goal.at.returns c).In_ok-check in
    let F = (c.fewest_states.ensures.one _ c.in-Some.is) in
    let few = few_entries t _ c.read-layout.ensures _ F in
    let bytes = bytes_are t _ c.read-layout.ensures _ F in
    let p =
    accepted c.args.table.now c.args.res.now c.in_ok-check_narrow.field-0 c.in_ok-check_narrow.ensures c.in_ok-check.field-0 c.in_ok-check.ensures.verdict
    (omega (arith, few, F.states_are)) _ bytes _ (omega (arith, c.if-res-bytes.false))
    (words_left c.args.table.now _ _ _ _ c.write_machine.ensures (words_found c.args.table.now c.in-Some.fewest F _ _ c.read-sizes.ensures (entries_are t _ c.read-layout.ensures _ F) few.1) bytes) in
    record { verdict = p.0; res = p.1.0; merges = p.1.1.0; alike = p.1.1.1 }
