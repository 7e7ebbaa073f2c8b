-- The figures that document 01 wants proved ("Figures to hold", those with a star), in the layout of document 02, Point 8, and the cases of that point
-- and of Point 10: one table, in their order, of calls with what they are to answer and leave, and its test.
use Rattle.std.specs.Prelude.{ℕ, ◌+◌, ◌*◌, ◌≡◌, Bool, true, ◌&&◌, List, [], ◌∷◌, ◌++◌, eqb, length, take, set, replicate}
use Rattle.words.specs.Words.{word_bytes}
use Rattle.verdict.specs.Judgements.{answer}
use Rattle.verdict.specs.declared.Figures.{Figures}
use Rattle.circuit.specs.Limits.{mark}
use Rattle.circuit.specs.Circuit.{checked}
use Rattle.circuit.specs.Examples.{parity, identity, silent, delayed}
use Rattle.steps.specs.Steps.{stepped}
use Rattle.layered.specs.Search.{equal}
use Rattle.folded.specs.Folded.{fold_checked, fold_result, scratch_after}
use Rattle.unfolded.specs.Unfolded.{unfold_checked, unfold_result}

-- ---- calls

-- a call, with what it is given and lent; of the list of records only its length counts
pub data Call : Type 0 where
  Check : (circuit : List ℕ) → Call
  Fold : (circuit scratch : List ℕ) (nodes : ℕ) (result : List ℕ) → Call
  Unfold : (table result : List ℕ) → Call
  Step : (table : List ℕ) (layer state word : ℕ) → Call

-- number and place, and all else that a call leaves: what its result holds (of a step: output, layer and state), and its scratch
pub record Outcome : Type 0 where
  pub figures : Figures
  pub result : List ℕ
  pub scratch : List ℕ

-- what a call answers and leaves, by the definitions that its promise cites
unfoldable pub outcome_of : Call → Outcome
outcome_of (Check b) = record { figures = checked b; result = []; scratch = [] }
outcome_of (Fold b scratch nodes result) = record {
  figures = fold_checked b (length scratch) nodes (length result);
  result = fold_result b (length scratch) nodes result;
  scratch = scratch_after b scratch;
}
outcome_of (Unfold b result) = record { figures = unfold_checked b (length result); result = unfold_result b result; scratch = [] }
outcome_of (Step b layer state word) =
    let s = stepped b layer state word in
    record { figures = answer s.number s.place; result = s.output ∷ s.layer ∷ s.state ∷ []; scratch = [] }

-- ---- tables and further circuits, as words; a table is n, m, T, the counts, the connected outputs, the outputs, the next
-- states

-- the table of parity
unfoldable pub parity_folded : List ℕ
parity_folded = (1 ∷ 1 ∷ 2 ∷ []) ++ ((1 ∷ 2 ∷ 1 ∷ []) ++ ((1 ∷ 1 ∷ []) ++ ((0 ∷ 1 ∷ 0 ∷ 1 ∷ 1 ∷ 0 ∷ []) ++ (0 ∷ 1 ∷ 0 ∷ 0 ∷ 0 ∷ 0 ∷ []))))

-- the circuit that is drawn of parity's table
unfoldable pub parity_drawn : List ℕ
parity_drawn =
    (1 ∷ 1 ∷ 2 ∷ 17 ∷ [])
    ++ ((1 ∷ 1 ∷ 1 ∷ 1 ∷ 1 ∷ 1 ∷ 1 ∷ 1 ∷ 1 ∷ 15 ∷ 15 ∷ 17 ∷ 17 ∷ 1 ∷ 32 ∷ 19 ∷ 35 ∷ [])
    ++ (3 ∷ 2 ∷ 6 ∷ 8 ∷ 11 ∷ 13 ∷ 13 ∷ 5 ∷ 4 ∷ 20 ∷ 22 ∷ 20 ∷ 22 ∷ 27 ∷ 29 ∷ 1 ∷ 1 ∷ []))

-- the table of the identity
unfoldable pub identity_folded : List ℕ
identity_folded = (1 ∷ 1 ∷ 1 ∷ []) ++ ((1 ∷ 1 ∷ []) ++ ((1 ∷ []) ++ ((0 ∷ 1 ∷ []) ++ (0 ∷ 0 ∷ []))))

-- the table of the silent circuit
unfoldable pub silent_folded : List ℕ
silent_folded = (1 ∷ 1 ∷ 2 ∷ []) ++ ((1 ∷ 1 ∷ 1 ∷ []) ++ ((1 ∷ 1 ∷ []) ++ ((0 ∷ 0 ∷ 0 ∷ 0 ∷ []) ++ (0 ∷ 0 ∷ 0 ∷ 0 ∷ []))))

-- the table of the delayed one
unfoldable pub delayed_folded : List ℕ
delayed_folded =
    (1 ∷ 1 ∷ 3 ∷ [])
    ++ ((1 ∷ 2 ∷ 2 ∷ 1 ∷ [])
    ++ ((1 ∷ 1 ∷ 1 ∷ []) ++ ((0 ∷ 0 ∷ 0 ∷ 0 ∷ 0 ∷ 0 ∷ 0 ∷ 0 ∷ 1 ∷ 1 ∷ []) ++ (0 ∷ 1 ∷ 0 ∷ 0 ∷ 1 ∷ 1 ∷ 0 ∷ 0 ∷ 0 ∷ 0 ∷ []))))

-- parity with gate g, from 0, marked as an unconnected output
unfoldable pub marked : (g : ℕ) → List ℕ
marked g = set (set parity (4 + g) mark) (9 + g) mark

-- its table where that is output 2, and the circuit that is drawn of it
unfoldable pub marked_folded : List ℕ
marked_folded = (1 ∷ 1 ∷ 2 ∷ []) ++ ((1 ∷ 1 ∷ 1 ∷ []) ++ ((1 ∷ 0 ∷ []) ++ ((0 ∷ 1 ∷ 0 ∷ 0 ∷ []) ++ (0 ∷ 0 ∷ 0 ∷ 0 ∷ []))))

unfoldable pub marked_drawn : List ℕ
marked_drawn =
    (1 ∷ 1 ∷ 2 ∷ 13 ∷ [])
    ++ ((1 ∷ 1 ∷ 1 ∷ 1 ∷ 1 ∷ 14 ∷ 1 ∷ 1 ∷ 1 ∷ 17 ∷ 17 ∷ 19 ∷ mark ∷ [])
    ++ (3 ∷ 2 ∷ 6 ∷ 8 ∷ 11 ∷ 13 ∷ 13 ∷ 5 ∷ 4 ∷ 20 ∷ 22 ∷ 1 ∷ mark ∷ []))

-- n = 8, m = 1, T frames, all outputs false
unfoldable pub wide : (T : ℕ) → List ℕ
wide T = 8 ∷ 1 ∷ T ∷ T ∷ replicate (2 * T) 0

-- ---- the table

-- a call, and what it is to answer and leave
pub record Row : Type 0 where
  pub call : Call
  pub expected : Outcome

-- a row of the table: call, number, place, result, scratch
abbrev pub row : Call → (number place : ℕ) (result scratch : List ℕ) → Row
row c number place result scratch = record { call = c; expected = record { figures = answer number place; result = result; scratch = scratch } }

-- what is lent: k numbers that are not 0
abbrev pub lent : ℕ → List ℕ
lent k = replicate k 9

-- what needed scratch holds once it is cleared
abbrev pub zeros : ℕ → List ℕ
zeros k = replicate k 0

unfoldable pub rows : List Row
unfolding parity parity_folded parity_drawn identity identity_folded silent silent_folded delayed delayed_folded marked marked_folded marked_drawn wide word_bytes
rows =
    -- Parity folds to 1 1 2, 1 2 1, 1 1, ..: 40 bytes
    row (Fold (word_bytes parity) (lent 8) 7 (lent 40)) 0 40 (word_bytes parity_folded) (zeros 8)
    -- drawn back, 17 gates
    ∷ row (Unfold (word_bytes parity_folded) (lent 76)) 0 76 (word_bytes parity_drawn) []
    -- y = x: counts 1 1
    ∷ row (Fold (word_bytes identity) (lent 4) 1 (lent 20)) 0 20 (word_bytes identity_folded) (zeros 4)
    -- all outputs false: 1 1 1
    ∷ row (Fold (word_bytes silent) (lent 8) 2 (lent 32)) 0 32 (word_bytes silent_folded) (zeros 8)
    -- y1 = y2 = 0, y3 = x1: 1 2 2 1
    ∷ row (Fold (word_bytes delayed) (lent 16) 3 (lent 60)) 0 60 (word_bytes delayed_folded) (zeros 16)
    -- Parity less one byte
    ∷ row (Check (take 27 (word_bytes parity))) 1 27 [] []
    -- n = 0
    ∷ row (Check (word_bytes (set parity 0 0))) 2 0 [] []
    -- n = 8, T = 3; T = 2 is within limits
    ∷ row (Check (word_bytes (wide 3))) 2 4 [] []
    ∷ row (Check (word_bytes (wide 2))) 0 0 [] []
    -- Parity's first left literal 6; 5 is legal
    ∷ row (Check (word_bytes (set parity 4 6))) 3 8 [] []
    ∷ row (Check (word_bytes (set parity 4 5))) 0 0 [] []
    -- its fourth left literal 4
    ∷ row (Check (word_bytes (set parity 7 4))) 4 0 [] []
    -- Parity with 7 scratch numbers
    ∷ row (Fold (word_bytes parity) (lent 7) 0 (lent 40)) 6 8 (lent 40) (lent 7)
    -- with 39 bytes
    ∷ row (Fold (word_bytes parity) (lent 8) 7 (lent 39)) 7 40 (lent 39) (zeros 8)
    -- step at layer 2, state 0
    ∷ row (Step (word_bytes parity_folded) 2 0 0) 10 2 (0 ∷ 2 ∷ 0 ∷ []) []
    -- Parity with output 2 unconnected: counts 1 1 1, words 1 0; drawn back, the mark again
    ∷ row (Fold (word_bytes (marked 4)) (lent 8) 6 (lent 32)) 0 32 (word_bytes marked_folded) (zeros 8)
    ∷ row (Unfold (word_bytes marked_folded) (lent 60)) 0 60 (word_bytes marked_drawn) []
    -- the mark on a gate that is no output; as the left literal alone, and as the right
    ∷ row (Check (word_bytes (marked 0))) 3 8 [] []
    ∷ row (Check (word_bytes (set parity 8 mark))) 3 16 [] []
    ∷ row (Check (word_bytes (set parity 13 mark))) 3 26 [] []
    -- output 1 unconnected, and named by output 2: from the left, and inverted from the right
    ∷ row (Check (word_bytes (set (marked 3) 8 12))) 3 16 [] []
    ∷ row (Check (word_bytes (set (marked 3) 13 13))) 3 26 [] []
    -- connected outputs of 2^m in frame 1; no output connected in frame 2, with one set there; the same to a step
    ∷ row (Unfold (word_bytes (set parity_folded 6 2)) (lent 76)) 2 12 (lent 76) []
    ∷ row (Unfold (word_bytes (set parity_folded 7 0)) (lent 76)) 5 22 (lent 76) []
    ∷ row (Step (word_bytes (set parity_folded 7 0)) 1 0 1) 5 22 (0 ∷ 1 ∷ 0 ∷ []) []
    -- Parity's inputs have 2 nodes, with gates 1 to 5 there are 4, 5, 6, 6, 7; 18 is judged before 7
    ∷ row (Fold (word_bytes parity) (lent 8) 1 (lent 40)) 18 0 (lent 40) (zeros 8)
    ∷ row (Fold (word_bytes parity) (lent 8) 3 (lent 40)) 18 1 (lent 40) (zeros 8)
    ∷ row (Fold (word_bytes parity) (lent 8) 4 (lent 40)) 18 2 (lent 40) (zeros 8)
    ∷ row (Fold (word_bytes parity) (lent 8) 5 (lent 40)) 18 3 (lent 40) (zeros 8)
    ∷ row (Fold (word_bytes parity) (lent 8) 6 (lent 39)) 18 5 (lent 39) (zeros 8)
    ∷ []

-- ---- the test

-- number, place, result and scratch are equal
unfoldable pub agree : Outcome → Outcome → Bool
unfolding equal
agree o p =
    eqb o.figures.number p.figures.number
    && (eqb o.figures.place p.figures.place
    && (equal o.result p.result
    && equal o.scratch p.scratch))

-- every row's call answers and leaves what is expected
unfoldable pub hold : List Row → Bool
unfolding outcome_of agree
hold [] = true
hold (r ∷ rs) = agree (outcome_of r.call) r.expected && hold rs

-- what the test shows, as equations
unfoldable pub Each : List Row → Type 0
unfolding outcome_of
Each [] = Unit
Each (r ∷ rs) = (outcome_of r.call ≡ r.expected) × Each rs
