-- `quiet::windows::check_windows` meets its contract. The invariant: what the definition says of all windows is what it says of those that are left.
-- Assumes nothing.
use Rattle.std.proofs.Common.{◌≡◌, sym, ap, ap₂, ◌∙◌, ℕ, ◌+◌, ◌-◌, ◌*◌, ◌<◌, min, length, drop, length-drop, arith}
use Rattle.std.specs.Iterator.Adapters.{enumerate_source, enumerate_count}
use Rattle.std.specs.Slice.Iter.{chunks_rest, chunks_size}
use borrow.Author.Tests.{lt-ltb, le-ltb}
use Rattle.verdict.specs.Judgements.{answer, refuse_first}
use Rattle.verdict.proofs.Laws.{first_here, first_later, first-none}
use Rattle.quiet.specs.Windows.{window_count, is_bad, windows_checked}
use Rattle.quiet.proofs.Minutes.{none_bad, pair_bad, behind}
use Rattle.quiet.proofs.windows.check_windows.Goals as goal
use Rattle.quiet.proofs.windows.check_windows.Goals.{After-is_bad, In-None}

-- the window that comes is window k
judged : (c : After-is_bad) → (is_bad c.args.windows.now (enumerate_count c.loop-i.i-iterator) ≡ c.is_bad.result)
    × (chunks_rest (enumerate_source c.next.new.self) ≡ drop (2 * (enumerate_count c.loop-i.i-iterator + 1)) c.args.windows.now)
    × (enumerate_count c.loop-i.i-iterator < window_count c.args.windows.now)
unfolding window_count
judged c =
    let k = enumerate_count c.loop-i.i-iterator in
    let ws = c.args.windows.now in
    let s = c.in-Some.ensures.steps in
    let I = c.loop-i.invariant in
    let at = sym I.2 ∙ s.0.1.0 in
    let size = s.0.1.1 ∙ ap₂ min I.1 (ap length I.2) in
    let some : 0 < length (drop (2 * k) ws) = omega (arith, s.0.1.2, ap length I.2) in (
      sym (c.is_bad.ensures ∙ pair_bad ws c.in-Some.window.now _ k at size some),
      behind ws c.in-Some.window.now _ k at size some,
      omega (arith, length-drop (2 * k) ws),
    )

-- none is left
all_judged : (c : In-None) → windows_checked c.args.windows.now ≡ none_bad c.args.windows.now
unfolding window_count
all_judged c =
    let k = enumerate_count c.loop-i.i-iterator in
    let I = c.loop-i.invariant in
    I.3 ∙ first-none _ _ _ _ k (window_count c.args.windows.now) (omega (arith, c.in-None.ensures.steps.0.1.0, ap length I.2, length-drop (2 * k) c.args.windows.now))

pub loop-i-init : goal.loop-i-init
unfolding windows_checked
loop-i-init c =
    let ws = c.args.windows.now in
    let gives = c.into_iter-i-iterator.ensures.into_iter_gives in
    let i : enumerate_count c.into_iter-i-iterator.result ≡ 0 = ap enumerate_count gives ∙ c.enumerate-i-items.ensures.count in
    let src = ap enumerate_source gives ∙ c.enumerate-i-items.ensures.source in
    let z : window_count ws ≡ window_count ws - 0 = omega arith in (
      omega arith,
      ap chunks_size src ∙ c.chunks.ensures.size,
      ap chunks_rest src ∙ c.chunks.ensures.rest ∙ sym (ap (λ (k : ℕ). drop (2 * k) ws) i),
      ap (refuse_first (is_bad ws) 15 (λ i. i) (none_bad ws) 0) z ∙ sym (ap (λ (k : ℕ). refuse_first (is_bad ws) 15 (λ i. i) (none_bad ws) k (window_count ws - k)) i),
    )

pub returns-then-is_bad : goal.returns-then-is_bad
returns-then-is_bad c =
    let j = judged (goal.at.returns-then-is_bad c).After-is_bad in
    ap (answer 15) c.in-Some.ensures.steps.1 ∙ sym (c.loop-i.invariant.3 ∙ first_here _ _ _ _ _ _ j.2 (j.0 ∙ c.if-is_bad.true))

pub loop-i-preserved : goal.loop-i-preserved
loop-i-preserved c =
    let j = judged (goal.at.loop-i-preserved c).After-is_bad in
    let s = c.in-Some.ensures.steps in
    let ws = c.args.windows.now in (
      omega (arith, j, s.2),
      s.0.0 ∙ c.loop-i.invariant.1,
      j.1 ∙ sym (ap (λ (k : ℕ). drop (2 * k) ws) s.2),
      c.loop-i.invariant.3 ∙ first_later _ _ _ _ _ _ j.2 (j.0 ∙ c.if-is_bad.false) ∙ sym (ap (λ (k : ℕ). refuse_first (is_bad ws) 15 (λ i. i) (none_bad ws) k (window_count ws - k)) s.2),
    )

pub returns-then-count-gt-WINDOWS : goal.returns-then-count-gt-WINDOWS
unfolding window_count
returns-then-count-gt-WINDOWS c =
    sym (all_judged (goal.at.returns-then-count-gt-WINDOWS c).In-None ∙ rw (lt-ltb _ _ c.if-count-gt-WINDOWS.true))

pub returns : goal.returns
unfolding window_count
returns c = sym (all_judged (goal.at.returns c).In-None ∙ rw (le-ltb _ _ c.if-count-gt-WINDOWS.false))
