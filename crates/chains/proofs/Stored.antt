-- Laws of gates that are stored one behind the other. Assumes nothing.
use mathlib.Core.Path.{◌≡◌, refl, sym, ap, ap₂, ◌∙◌}
use mathlib.Core.Bool.{Bool, cond}
use mathlib.Core.List.{List, [], ◌∷◌, ◌++◌, map, map-append}
use Prim.Native.Nat.{ℕ, suc, ◌+◌, ◌*◌, ◌-◌, ◌≤◌, ◌<◌}
use native.Mathlib.Decide.{le_ind}
use native.Mathlib.Numerals.{add-one}
use native.Mathlib.Omega.{arith}
use lib.ListN.{length, length-append, length-map}
use borrow.Author.Tests.{eq-eqb, ne_eqb}
use Rattle.words.specs.Words.{stored}
use Rattle.words.proofs.Laws.{stored_none, stored_length, stored_more, stored_comm}
use Rattle.circuit.specs.Lists.{listed}
use Rattle.unfolded.specs.Unfolded.{chain, last_of, chains_from, ending}
use Rattle.circuit.proofs.Lists.{listed_length, listed_more}
use Rattle.unfolded.proofs.Gates.{chain_length, chains_more}
use Rattle.chains.specs.Chains.{Fits, gates_stored, end_of}
use Rattle.chains.specs.declared.Target.{Target}

-- ---- gates

abbrev lefts : List (ℕ × ℕ) → List ℕ
lefts gs = map (λ g. g.0) gs

abbrev rights : List (ℕ × ℕ) → List ℕ
rights gs = map (λ g. g.1) gs

pub gates_none : (G k : ℕ) (v : List ℕ) → gates_stored G k v [] ≡ v
unfolding gates_stored
gates_none G k v = stored_none 2 _ _ ∙ stored_none 2 v _

-- the result is as long as before
pub gates_length : (G k : ℕ) (v : List ℕ) (gs : List (ℕ × ℕ)) → k + length gs ≤ G → 8 + 4 * G ≤ length v → length (gates_stored G k v gs) ≡ length v
unfolding gates_stored
gates_length G k v gs h room =
    let l : length (lefts gs) ≡ length gs = length-map gs (λ g. g.0) in
    let r : length (rights gs) ≡ length gs = length-map gs (λ g. g.1) in
    let e : length (stored 2 v (8 + 2 * k) (lefts gs)) ≡ length v = stored_length 2 v (8 + 2 * k) (lefts gs) (omega arith) in
    stored_length 2 _ (8 + 2 * (G + k)) (rights gs) (omega arith) ∙ e

-- so there is room for what is to come
pub fits_still : (target : Target) (v w : List ℕ) (k : ℕ) (gs : List (ℕ × ℕ)) → Fits target v → w ≡ gates_stored target.gates k v gs → k + length gs ≤ target.gates
    → Fits target w
fits_still target v w k gs F e h =
    let l : length w ≡ length v = ap length e ∙ gates_length target.gates k v gs h F.room in
    record {
      inputs_from = F.inputs_from;
      inputs_to = F.inputs_to;
      words_are = F.words_are;
      outputs_to = F.outputs_to;
      base_to = F.base_to;
      gates_to = F.gates_to;
      room = omega (arith, F.room);
    }

-- more gates behind those that were stored
pub gates_append : (G k : ℕ) (v : List ℕ) (gs hs : List (ℕ × ℕ)) (j : ℕ) → j ≡ k + length gs → j + length hs ≤ G → 8 + 4 * G ≤ length v
    → gates_stored G j (gates_stored G k v gs) hs ≡ gates_stored G k v (gs ++ hs)
unfolding gates_stored
gates_append G k v gs hs j e h room =
    let a : length (lefts gs) ≡ length gs = length-map gs (λ g. g.0) in
    let b : length (rights gs) ≡ length gs = length-map gs (λ g. g.1) in
    let c : length (lefts hs) ≡ length hs = length-map hs (λ g. g.0) in
    let d : length (rights hs) ≡ length hs = length-map hs (λ g. g.1) in
    let ml : lefts (gs ++ hs) ≡ lefts gs ++ lefts hs = map-append (λ g. g.0) gs hs in
    let mr : rights (gs ++ hs) ≡ rights gs ++ rights hs = map-append (λ g. g.1) gs hs in
    let x : List ℕ = stored 2 v (8 + 2 * k) (lefts gs) in
    let y : List ℕ = stored 2 v (8 + 2 * k) (lefts (gs ++ hs)) in
    let n : length x ≡ length v = stored_length 2 v (8 + 2 * k) (lefts gs) (omega arith) in
    let m : length y ≡ length v = stored_length 2 v (8 + 2 * k) (lefts (gs ++ hs)) (rw ml (omega (arith, length-append (lefts gs) (lefts hs)))) in
    let left : stored 2 x (8 + 2 * j) (lefts hs) ≡ y = stored_more 2 v (8 + 2 * k) (lefts gs) (lefts hs) (8 + 2 * j) (omega arith) (omega arith) ∙ ap (stored 2 v (8 + 2 * k)) (sym ml) in
    ap (λ (w : List ℕ). stored 2 w (8 + 2 * (G + j)) (rights hs))
    (sym (stored_comm 2 x (8 + 2 * j) (lefts hs) (8 + 2 * (G + k)) (rights gs) (omega arith) (omega arith)) ∙ ap (λ (w : List ℕ). stored 2 w (8 + 2 * (G + k)) (rights gs)) left)
    ∙ stored_more 2 y (8 + 2 * (G + k)) (rights gs) (rights hs) (8 + 2 * (G + j)) (omega arith) (omega arith)
    ∙ ap (stored 2 y (8 + 2 * (G + k))) (sym mr)

-- ---- chains

-- what a chain ends with
last_is : (at : ℕ) (rs : List ℕ) (l : ℕ) → l ≡ 2 * (at + length rs) → l ≡ last_of (suc at) (2 * at) rs
unfolding last_of
last_is at [] l q = omega arith
last_is at (r ∷ rs) l q = last_is (suc at) rs l (omega arith)

pub end_is : (base first k : ℕ) (rs : List ℕ) → k ≡ first + length rs → end_of base first k ≡ last_of (base + first) 1 rs
unfolding end_of last_of
end_is base first k [] e = ap (λ (t : Bool). cond t 1 (2 * (base + (k - 1)))) (eq-eqb k first (omega arith))
end_is base first k (r ∷ rs) e =
    ap (λ (t : Bool). cond t 1 (2 * (base + (k - 1)))) (ne_eqb k first (λ q. absurd (omega arith)))
    ∙ last_is (base + first) rs (2 * (base + (k - 1))) (omega arith)

-- one gate more
chain_snoc : (at left : ℕ) (rs : List ℕ) (r : ℕ) → chain at left (rs ++ (r ∷ [])) ≡ chain at left rs ++ ((last_of at left rs, r) ∷ [])
unfolding chain last_of
chain_snoc at left [] r = refl
chain_snoc at left (x ∷ rs) r = ap (λ (gs : List (ℕ × ℕ)). (left, x) ∷ gs) (chain_snoc (suc at) (2 * at) rs r)

-- the chain so far is stored from gate k on, and its next gate is stored behind it
pub chain_more : (G base k : ℕ) (v w : List ℕ) (rs rs' : List ℕ) (j l r : ℕ) → w ≡ gates_stored G k v (chain (base + k) 1 rs) → j ≡ k + length rs → l ≡ end_of base k j
    → rs ++ (r ∷ []) ≡ rs' → j < G → 8 + 4 * G ≤ length v → gates_stored G j w ((l, r) ∷ []) ≡ gates_stored G k v (chain (base + k) 1 rs')
chain_more G base k v w rs rs' j l r ew ej el er h room =
    ap₂ (λ (w : List ℕ) (l : ℕ). gates_stored G j w ((l, r) ∷ [])) ew (el ∙ end_is base k j rs ej)
    ∙ gates_append G k v (chain (base + k) 1 rs) ((last_of (base + k) 1 rs, r) ∷ []) j (omega (arith, chain_length (base + k) 1 rs)) (omega arith) room
    ∙ ap (gates_stored G k v) (sym (chain_snoc (base + k) 1 rs r) ∙ ap (chain (base + k) 1) er)

-- one chain more, of those that each begin with literal 1
pub chains_next : (G base k : ℕ) (v w : List ℕ) (f : ℕ → List ℕ) (i j : ℕ) → w ≡ gates_stored G k v (chains_from (base + k) f i) → j ≡ k + length (chains_from (base + k) f i)
    → j + length (f i) ≤ G → 8 + 4 * G ≤ length v → gates_stored G j w (chain (base + j) 1 (f i)) ≡ gates_stored G k v (chains_from (base + k) f (i + 1))
unfolding chains_from
chains_next G base k v w f i j ew ej h room =
    let e : base + j ≡ base + k + length (chains_from (base + k) f i) = omega arith in
    ap₂ (λ (w : List ℕ) (at : ℕ). gates_stored G j w (chain at 1 (f i))) ew e
    ∙ gates_append G k v (chains_from (base + k) f i) _ j ej (omega (arith, chain_length (base + k + length (chains_from (base + k) f i)) 1 (f i))) room
    ∙ ap (λ (i : ℕ). gates_stored G k v (chains_from (base + k) f i)) (sym (add-one i))

-- how many gates they are
pub chains_longer : (at : ℕ) (f : ℕ → List ℕ) (i : ℕ) → length (chains_from at f (i + 1)) ≡ length (chains_from at f i) + length (f i)
chains_longer at f i = ap (λ (i : ℕ). length (chains_from at f i)) (add-one i) ∙ chains_more at f i

-- the chains so far are no more than all
pub chains_room : (at : ℕ) (f : ℕ → List ℕ) (i c : ℕ) → i < c → length (chains_from at f i) + length (f i) ≤ length (chains_from at f c)
chains_room at f i c h =
    le_ind (λ c. length (chains_from at f i) + length (f i) ≤ length (chains_from at f c)) (omega (arith, chains_more at f i))
    (λ c _ p. omega (arith, chains_more at f c)) c h

-- what chain i ends with, which has the gates from `first` up to k
pub ending_is : (base k : ℕ) (f : ℕ → List ℕ) (i first j : ℕ) → first ≡ k + length (chains_from (base + k) f i) → j ≡ first + length (f i)
    → end_of base first j ≡ ending (base + k) f i
unfolding ending
ending_is base k f i first j ef ej =
    let e : base + first ≡ base + k + length (chains_from (base + k) f i) = omega arith in
    end_is base first j (f i) ej ∙ ap (λ (at : ℕ). last_of at 1 (f i)) e

-- ---- gates of a list

pub each_more : (G k : ℕ) (v w : List ℕ) (f : ℕ → ℕ × ℕ) (i j : ℕ) (g : ℕ × ℕ) → w ≡ gates_stored G k v (listed [] f i) → j ≡ k + i → g ≡ f i → j < G → 8 + 4 * G ≤ length v
    → gates_stored G j w (g ∷ []) ≡ gates_stored G k v (listed [] f (i + 1))
each_more G k v w f i j g ew ej eg h room =
    ap (λ (w : List ℕ). gates_stored G j w (g ∷ [])) ew
    ∙ gates_append G k v (listed [] f i) (g ∷ []) j (omega (arith, listed_length f i)) (omega arith) room
    ∙ ap (gates_stored G k v) (listed_more f i g eg)
