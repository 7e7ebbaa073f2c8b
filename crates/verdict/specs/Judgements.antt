-- Document 01's "number, place", and how judgements follow one another.
use Rattle.std.specs.Prelude.{ℕ, zero, suc, List, ◌++◌, Bool, cond, eqb, drop, Result, Ok, Err}
use Rattle.verdict.specs.declared.Figures.{Figures}
use Rattle.verdict.specs.declared.Refusal.{Refusal}
use Rattle.verdict.specs.declared.Refusal.TheVariants.{Length, Size, Literal, LookAhead, Entry, Scratch, Room, Gates, Word, End, Position, Count, Sequences, Plan, Window, Minute, Mask, Nodes, Outside, Taken, Unmatched}

-- a number and a place; number 0 is acceptance
abbrev pub answer : (number place : ℕ) → Figures
answer number place = record { number = number; place = place }

-- what document 01 gives each case, and document 02 from 13 on
abbrev pub refusal_figures : Refusal → Figures
refusal_figures (Length p) = answer 1 p
refusal_figures (Size p) = answer 2 p
refusal_figures (Literal p) = answer 3 p
refusal_figures (LookAhead p) = answer 4 p
refusal_figures (Entry p) = answer 5 p
refusal_figures (Scratch p) = answer 6 p
refusal_figures (Room p) = answer 7 p
refusal_figures (Gates p) = answer 8 p
refusal_figures (Word p) = answer 9 p
refusal_figures (End p) = answer 10 p
refusal_figures (Position p) = answer 11 p
refusal_figures (Count p) = answer 12 p
refusal_figures (Sequences p) = answer 13 p
refusal_figures (Plan p) = answer 14 p
refusal_figures (Window p) = answer 15 p
refusal_figures (Minute p) = answer 16 p
refusal_figures (Mask p) = answer 17 p
refusal_figures (Nodes p) = answer 18 p
refusal_figures (Outside p) = answer 19 p
refusal_figures (Taken p) = answer 20 p
refusal_figures (Unmatched p) = answer 21 p

-- what every call answers: accepted with a place, or refused
abbrev pub Verdict : Type 0
Verdict = Result ℕ Refusal

abbrev pub figures : Verdict → Figures
figures (Ok p) = answer 0 p
figures (Err r) = refusal_figures r

-- one judgement: refused with this number and place where the test holds, else what the rest says
abbrev pub refuse : (test : Bool) (number place : ℕ) → Figures → Figures
refuse test number place rest = cond test (answer number place) rest

-- the first judgement if it refuses, else the second
abbrev pub and_then : Figures → Figures → Figures
and_then f g = cond (eqb f.number 0) g f

-- refused at the first i of k, k + 1, .., k + count - 1 at which the test holds; where there is none, what the rest says
unfoldable pub refuse_first : (test : ℕ → Bool) (number : ℕ) (place : ℕ → ℕ) → Figures → (k count : ℕ) → Figures
refuse_first test number place rest k zero = rest
refuse_first test number place rest k (suc count) = refuse (test k) number (place k) (refuse_first test number place rest (suc k) count)

-- the first of the judgements k, k + 1, .., k + count - 1 that refuses; where there is none, accepted with place 0
unfoldable pub first_refusal : (ℕ → Figures) → (k count : ℕ) → Figures
first_refusal f k zero = answer 0 0
first_refusal f k (suc count) = and_then (f k) (first_refusal f (suc k) count)

-- what a result buffer holds after a call: where it accepts, what is defined, and then the rest as before; untouched where it refuses
abbrev pub result_after : Figures → (defined before : List ℕ) → List ℕ
result_after f defined before = cond (eqb f.number 0) (defined ++ drop f.place before) before
