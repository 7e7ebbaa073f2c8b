-- Laws of the steps by value, and of a turn of each walk.
use mathlib.Core.Path.{◌≡◌, refl, sym, ap, ap₂, ◌∙◌, subst}
use mathlib.Core.Bool.{true, false, cond}
use mathlib.Core.Logic.{◌⊎◌, inl, inr, ⊎_elim, ◌≢◌}
use mathlib.Core.List.{List}
use Prim.Native.Nat.{ℕ, zero, suc, ◌+◌, ◌*◌, ◌-◌, ◌/◌, ◌%◌, ◌^◌, ◌≤◌, ◌<◌}
use native.Mathlib.Nat.{mul-le-mul_right, eq-or-lt_of_le, pow-suc, pow-zero}
use native.Mathlib.Omega.{arith}
use lib.Arith.{digits_mod, digits_div}
use lib.Pow.{pow_pos, pow_mono, pow-lt}
use lib.Dec.{eqb}
use lib.ListN.{length, get_or, set, length-set}
use lib.Seq.{get_or-set_same, get_or-set_other}
use Rattle.diagrams.specs.Diagrams.{Nodes, branch, follow}
use Rattle.diagrams.specs.Frames.{word_bits}
use Rattle.diagrams.proofs.Growth.{decide}
use Rattle.diagrams.proofs.Frames.{word_length}
use Rattle.diagrams.proofs.Paths.{row_low, row_high, step_down, follow_step, follow_top, follow_node}
use Rattle.nodes.specs.declared.Node.{Node}
use Rattle.nodes.proofs.Laws.{eqb_yes, eqb_no}
use Rattle.records.specs.Records.{node_of, nodes_in, Kept}
use Rattle.descend.specs.declared.Spread.{Spread}
use Rattle.descend.specs.declared.Cursor.{Cursor}
use Rattle.descend.specs.declared.Job.{Job}
use Rattle.descend.specs.Descend.{Standing, branch_of, Followable, Expandable, Expanded, Traceable, Traced, first_cursor, next_cursor, CursorFits}

-- ---- by value

module _ (s : Spread) (c : Cursor) where
  pub cursor_turns : c.low + s.stride ≡ c.end → ◌≡◌ {A = Cursor} (record { level = c.level + 1; count = c.count + 1; low = s.at; high = c.high + s.stride; end = c.high + s.stride }) (next_cursor s c)
  unfolding next_cursor
  cursor_turns e = ap (λ b. cond b
      (record { level = c.level + 1; count = c.count + 1; low = s.at; high = c.high + s.stride; end = c.high + s.stride })
      (record { level = c.level; count = c.count + 1; low = c.low + s.stride; high = c.high + s.stride; end = c.end })) (eqb_yes (c.low + s.stride) c.end e)

  pub cursor_goes : c.low + s.stride ≢ c.end → ◌≡◌ {A = Cursor} (record { level = c.level; count = c.count + 1; low = c.low + s.stride; high = c.high + s.stride; end = c.end }) (next_cursor s c)
  unfolding next_cursor
  cursor_goes d = ap (λ b. cond b
      (record { level = c.level + 1; count = c.count + 1; low = s.at; high = c.high + s.stride; end = c.high + s.stride })
      (record { level = c.level; count = c.count + 1; low = c.low + s.stride; high = c.high + s.stride; end = c.end })) (eqb_no (c.low + s.stride) c.end d)

-- two stores, of equal numbers
pub stores_equal : (ws : List ℕ) (i j : ℕ) {a b c d : ℕ} → a ≡ b → c ≡ d → set (set ws i a) j c ≡ set (set ws i b) j d
stores_equal ws i j e f = ap₂ (λ a c. set (set ws i a) j c) e f

-- ---- one step down

module _ (ns : List Node) (top path : ℕ) (s : Standing ns top) where
  abbrev D : Nodes
  D = nodes_in ns

  module _ (id : ℕ) (x : Node) (e : x ≡ node_of ns id) (node : 0 < D.level id) where
    level_is : x.level ≡ D.level id
    unfolding nodes_in
    level_is = ap (λ x. x.level) e

    branch_is : branch_of x path ≡ cond (eqb (path / 2 ^ (D.level id - 1) % 2) 1) (D.high id) (D.low id)
    unfolding nodes_in
    branch_is = ap (λ x. branch_of x path) e

    pub down_needs : x.level ≤ top → (0 < x.level) × (x.level ≤ 16)
    down_needs l = (omega (arith, level_is, node), omega (arith, s.most, s.few, l))

    pub down_below : x.level ≤ top → D.level id < D.level (branch_of x path)
    down_below l = subst (λ g. D.level id < D.level g) (sym branch_is) (step_down s.inputs D s.reduced id (eqb (path / 2 ^ (D.level id - 1) % 2) 1) node (omega (arith, level_is, s.most, l)))

    pub down_node : x.level ≤ top → 0 < D.level (branch_of x path)
    down_node l = omega (arith, down_below l)

    pub down_leads : x.level ≤ top → follow D 1 (word_bits top path) id ≡ follow D 1 (word_bits top path) (branch_of x path)
    down_leads l = follow_step s.inputs D s.reduced top path id s.most node (omega (arith, level_is, l)) ∙ ap (follow D 1 (word_bits top path)) (sym branch_is)

    pub down_nearer : x.level ≤ top → suc top - D.level (branch_of x path) < suc top - D.level id
    down_nearer l = omega (arith, down_below l, level_is, l)

    pub down_ends : top < x.level → follow D 1 (word_bits top path) id ≡ id
    down_ends l = follow_top D top path id (omega (arith, level_is, l))

-- ---- doubling

below : (m n : ℕ) → (m < n) ⊎ (n ≤ m)
below m zero = inr (omega arith)
below zero (suc n) = inl (omega arith)
below (suc m) (suc n) = ⊎_elim (λ l. inl (omega arith)) (λ l. inr (omega arith)) (below m n)

pow_under : (m n : ℕ) → 2 ^ m < 2 ^ n → m < n
pow_under m n l = ⊎_elim (λ l. l) (λ b. absurd (omega (arith, l, pow_mono b))) (below m n)

-- a power of two tells its exponent
pow_same : (m n : ℕ) → 2 ^ m ≡ 2 ^ n → m ≡ n
pow_same m n e = ⊎_elim (λ l. absurd (omega (arith, e, pow-lt l))) (λ b. ⊎_elim (λ l. absurd (omega (arith, e, pow-lt l))) (λ c. omega arith) (below n m)) (below m n)

-- the words of i bits, at their places, of which those below w are split into words of one bit more
module _ (D : Nodes) (l f n : ℕ) (place : ℕ → ℕ) (single : (u v : ℕ) → place u ≡ place v → u ≡ v) (ws : List ℕ) (inside : (v : ℕ) → v < 2 ^ n → place v < length ws) where
  abbrev led : (i v : ℕ) → ℕ
  led i v = follow D l (word_bits i v) f

  pub record Half (i w : ℕ) (ms : List ℕ) : Type 0 where
    pub long : length ms ≡ length ws
    pub low_is : (v : ℕ) → v < w → get_or ms (place v) 0 ≡ led (suc i) v
    pub high_is : (v : ℕ) → v < w → get_or ms (place (v + 2 ^ i)) 0 ≡ led (suc i) (v + 2 ^ i)
    pub rest_is : (v : ℕ) → w ≤ v → v < 2 ^ i → get_or ms (place v) 0 ≡ led i v
    pub other_is : (j : ℕ) → ((v : ℕ) → v < 2 ^ n → j ≢ place v) → get_or ms j 0 ≡ get_or ws j 0

  pub half_first : Half 0 0 (set ws (place 0) f)
  unfolding follow word_bits
  half_first = record {
    long = length-set ws (place 0) f;
    low_is = λ v b. absurd (omega arith);
    high_is = λ v b. absurd (omega arith);
    rest_is = λ v a b. let z : v ≡ 0 = omega (arith, pow-zero 2) in ap (λ v. get_or (set ws (place 0) f) (place v) 0) z ∙ get_or-set_same ws (place 0) f 0 (inside 0 (pow_pos n));
    other_is = λ j d. get_or-set_other ws (place 0) j f 0 (d 0 (pow_pos n));
  }

  -- all are split: the next level
  pub half_turn : (i : ℕ) (ms : List ℕ) → Half i (2 ^ i) ms → Half (suc i) 0 ms
  half_turn i ms h = record {
    long = h.long;
    low_is = λ v b. absurd (omega arith);
    high_is = λ v b. absurd (omega arith);
    rest_is = λ v a b. ⊎_elim (λ b. h.low_is v b) (λ c. let e : v - 2 ^ i + 2 ^ i ≡ v = omega arith in subst (λ v. get_or ms (place v) 0 ≡ led (suc i) v) e (h.high_is (v - 2 ^ i) (omega (arith, pow-suc 2 i)))) (below v (2 ^ i));
    other_is = h.other_is;
  }

  -- one is split
  module _ (i w : ℕ) (ms : List ℕ) (h : Half i w ms) (w-in : w < 2 ^ i) (i-in : i < n) where
    abbrev id : ℕ
    id = get_or ms (place w) 0

    id_is : id ≡ led i w
    id_is = h.rest_is w (omega arith) w-in

    abbrev to_low : ℕ
    to_low = branch D (l + i) false id

    abbrev to_high : ℕ
    to_high = branch D (l + i) true id

    abbrev after : List ℕ
    after = set (set ms (place w) to_low) (place (w + 2 ^ i)) to_high

    within : 2 ^ suc i ≤ 2 ^ n
    within = pow_mono i-in

    in_low : place w < length ms
    in_low = omega (arith, h.long, inside w (omega (arith, within, pow-suc 2 i)))

    in_high : place (w + 2 ^ i) < length ms
    in_high = omega (arith, h.long, inside (w + 2 ^ i) (omega (arith, within, pow-suc 2 i)))

    elsewhere : (j : ℕ) → j ≢ place w → j ≢ place (w + 2 ^ i) → get_or after j 0 ≡ get_or ms j 0
    elsewhere j d e = get_or-set_other (set ms (place w) to_low) (place (w + 2 ^ i)) j to_high 0 e ∙ get_or-set_other ms (place w) j to_low 0 d

    at_low : get_or after (place w) 0 ≡ led (suc i) w
    at_low =
        get_or-set_other (set ms (place w) to_low) (place (w + 2 ^ i)) (place w) to_high 0 (λ e. omega (arith, single w (w + 2 ^ i) e, pow_pos i)) ∙ get_or-set_same ms (place w) to_low 0 in_low
        ∙ ap (branch D (l + i) false) id_is ∙ sym (row_low D l i w f w-in)

    at_high : get_or after (place (w + 2 ^ i)) 0 ≡ led (suc i) (w + 2 ^ i)
    at_high =
        get_or-set_same (set ms (place w) to_low) (place (w + 2 ^ i)) to_high 0 (omega (arith, in_high, length-set ms (place w) to_low))
        ∙ ap (branch D (l + i) true) id_is ∙ sym (row_high D l i w f w-in)

    pub half_split : Half i (w + 1) after
    half_split = record {
      long = length-set (set ms (place w) to_low) (place (w + 2 ^ i)) to_high ∙ length-set ms (place w) to_low ∙ h.long;
      low_is = λ v b. ⊎_elim (λ e. subst (λ v. get_or after (place v) 0 ≡ led (suc i) v) (sym e) at_low)
          (λ d. elsewhere (place v) (λ e. d (single v w e)) (λ e. omega (arith, single v (w + 2 ^ i) e)) ∙ h.low_is v (omega (arith, less v b d))) (decide v w);
      high_is = λ v b. ⊎_elim (λ e. subst (λ v. get_or after (place (v + 2 ^ i)) 0 ≡ led (suc i) (v + 2 ^ i)) (sym e) at_high)
          (λ d. elsewhere (place (v + 2 ^ i)) (λ e. omega (arith, single (v + 2 ^ i) w e)) (λ e. d (omega (arith, single (v + 2 ^ i) (w + 2 ^ i) e))) ∙ h.high_is v (less v b d)) (decide v w);
      rest_is = λ v a b. elsewhere (place v) (λ e. omega (arith, single v w e)) (λ e. omega (arith, single v (w + 2 ^ i) e)) ∙ h.rest_is v (omega arith) b;
      other_is = λ j d. elsewhere j (d w (omega (arith, within, pow-suc 2 i))) (d (w + 2 ^ i) (omega (arith, within, pow-suc 2 i))) ∙ h.other_is j d;
    }
      where
        less : (v : ℕ) → v < w + 1 → v ≢ w → v < w
        less v b d = ⊎_elim (λ e. absurd (d e)) (λ l. l) (eq-or-lt_of_le {n = v} {m = w} (omega arith))

-- ---- expanding: a turn

-- a legal table stands
pub standing_of : (N R top : ℕ) (ns : List Node) → Kept N R ns → top ≤ N → N ≤ 16 → Standing ns top
standing_of N R top ns k m b = record { inputs = N; reduced = k.table.reduced; inside = λ f h. omega (arith, k.table.below f h, k.within); most = m; few = b }

-- fewer levels
pub standing_less : (ns : List Node) (m n : ℕ) → m ≤ n → Standing ns n → Standing ns m
standing_less ns m n l s = record { inputs = s.inputs; reduced = s.reduced; inside = s.inside; most = omega (arith, s.most); few = s.few }

-- the branch of an id at a level, from its record
module _ (ns : List Node) (id level l : ℕ) (x : Node) (e : x ≡ node_of ns id) (d : level ≡ l) where
  low_branch : cond (eqb x.level level) x.low id ≡ branch (nodes_in ns) l false id
  unfolding nodes_in branch
  low_branch = ap₂ (λ x l. cond (eqb x.level l) x.low id) e d

  high_branch : cond (eqb x.level level) x.high id ≡ branch (nodes_in ns) l true id
  unfolding nodes_in branch
  high_branch = ap₂ (λ x l. cond (eqb x.level l) x.high id) e d

module _ (ns : List Node) (ws : List ℕ) (f : ℕ) (s : Spread) (p : Expandable ns ws f s) where
  abbrev place : ℕ → ℕ
  place v = s.at + v * s.stride

  abbrev n : ℕ
  n = p.bits

  pub place_single : (u v : ℕ) → place u ≡ place v → u ≡ v
  place_single u v e =
      let d : u * s.stride + 0 ≡ v * s.stride + 0 = omega (arith, e) in
      sym (digits_div u p.apart) ∙ ap (λ x. x / s.stride) d ∙ digits_div v p.apart

  place_next : (v : ℕ) → place v + s.stride ≡ place (v + 1)
  place_next v = omega arith

  pub place_inside : (v : ℕ) → v < 2 ^ n → place v < length ws
  place_inside v l =
      let b : (v + 1) * s.stride ≤ s.size * s.stride = mul-le-mul_right s.stride (omega (arith, l, p.size_is)) in
      omega (arith, b, p.within, place_next v)

  abbrev Halved : (i w : ℕ) (ms : List ℕ) → Type 0
  Halved = Half (nodes_in ns) s.level f n place place_single ws place_inside

  -- the cursor's word and how many bits it has, and what the list holds there
  pub record Going (c : Cursor) (ms : List ℕ) : Type 0 where
    pub done : ℕ
    pub word : ℕ
    pub word_in : word < 2 ^ done
    pub within : word + 2 ^ done ≤ 2 ^ n
    pub half : Halved done word ms
    pub level_is : c.level ≡ s.level + done
    pub count_is : c.count ≡ word + 2 ^ done
    pub low_is : c.low ≡ place word
    pub high_is : c.high ≡ place (word + 2 ^ done)
    pub end_is : c.end ≡ place (2 ^ done)

  pub begin_needs : length ws * 4 < 2 ^ 63 → (s.at < length ws) × (s.at + s.stride < 2 ^ 64)
  begin_needs room = let b = place_inside 0 (pow_pos n) in (omega (arith, b), omega (arith, b, p.short, room))

  pub going_first : (c : Cursor) (ms : List ℕ) → c ≡ first_cursor s → ms ≡ set ws s.at f → Going c ms
  going_first c ms d e =
      let one : 2 ^ 0 ≡ 1 = pow-zero 2 in
      let z : place 0 ≡ s.at = omega arith in
      record {
        done = 0;
        word = 0;
        word_in = omega (arith, one);
        within = omega (arith, one, pow_pos n);
        half = subst (Halved 0 0) (ap (λ j. set ws j f) z ∙ sym e) (half_first (nodes_in ns) s.level f n place place_single ws place_inside);
        level_is = ap (λ c. c.level) d ∙ omega arith;
        count_is = ap (λ c. c.count) d ∙ omega (arith, one);
        low_is = ap (λ c. c.low) d ∙ sym z;
        high_is = ap (λ c. c.high) d ∙ ap (λ v. s.at + v) (omega arith) ∙ sym (ap (λ k. place (0 + k)) one);
        end_is = ap (λ c. c.end) d ∙ ap (λ v. s.at + v) (omega arith) ∙ sym (ap place one);
      }

  module _ (c : Cursor) (ms : List ℕ) (g : Going c ms) (less : c.count < s.size) where
    early : g.done < n
    early = pow_under g.done n (omega (arith, less, p.size_is, g.count_is))

    abbrev i : ℕ
    i = g.done

    abbrev w : ℕ
    w = g.word

    high_word : w + 2 ^ i < 2 ^ n
    high_word = omega (arith, less, p.size_is, g.count_is)

    pub low_in : c.low < length ms
    low_in = omega (arith, g.low_is, g.half.long, place_inside w (omega (arith, high_word)))

    pub high_in : c.high < length ms
    high_in = omega (arith, g.high_is, g.half.long, place_inside (w + 2 ^ i) high_word)

    pub fits : length ws * 4 < 2 ^ 63 → CursorFits s c
    fits room =
        let few : n ≤ 17 = omega (arith, p.standing.most, p.standing.few) in
        let size : 2 ^ n ≤ 2 ^ 17 = pow_mono few in
        record {
          level_fits = omega (arith, g.level_is, early, p.standing.most, p.standing.few);
          count_fits = omega (arith, less, p.size_is, size);
          low_fits = omega (arith, low_in, g.half.long, p.short, room);
          high_fits = omega (arith, high_in, g.half.long, p.short, room);
        }

    module _ (id : ℕ) (id_is : id ≡ get_or ms c.low 0) where
      id_here : id ≡ get_or ms (place w) 0
      id_here = id_is ∙ ap (λ j. get_or ms j 0) g.low_is

      pub id_in : id < length ns + 2
      id_in =
          let N = p.standing.inputs in
          let short : length (word_bits i w) + s.level ≤ suc N = omega (arith, word_length i w, early, p.standing.most) in
          p.standing.inside id (subst (λ id. 0 < (nodes_in ns).level id) (sym (id_here ∙ g.half.rest_is w (omega arith) g.word_in))
          (follow_node N (nodes_in ns) p.standing.reduced (word_bits i w) s.level f short p.node))

      module _ (x : Node) (x-is : x ≡ node_of ns id) (r : Cursor) (zs : List ℕ) (r-is : r ≡ next_cursor s c)
          (zs-is : zs ≡ set (set ms c.low (cond (eqb x.level c.level) x.low id)) c.high (cond (eqb x.level c.level) x.high id)) where
        split_is : Halved i (w + 1) zs
        split_is =
            let a : cond (eqb x.level c.level) x.low id ≡ branch (nodes_in ns) (s.level + i) false (get_or ms (place w) 0) = low_branch ns id c.level (s.level + i) x x-is g.level_is ∙ ap (branch (nodes_in ns) (s.level + i) false) id_here in
            let b : cond (eqb x.level c.level) x.high id ≡ branch (nodes_in ns) (s.level + i) true (get_or ms (place w) 0) = high_branch ns id c.level (s.level + i) x x-is g.level_is ∙ ap (branch (nodes_in ns) (s.level + i) true) id_here in
            let z : zs ≡ set (set ms (place w) (branch (nodes_in ns) (s.level + i) false (get_or ms (place w) 0))) (place (w + 2 ^ i)) (branch (nodes_in ns) (s.level + i) true (get_or ms (place w) 0))
            = zs-is ∙ stores_equal ms c.low c.high a b ∙ ap₂ (λ j k. set (set ms j (branch (nodes_in ns) (s.level + i) false (get_or ms (place w) 0))) k (branch (nodes_in ns) (s.level + i) true (get_or ms (place w) 0))) g.low_is g.high_is in
            subst (Halved i (w + 1)) (sym z) (half_split (nodes_in ns) s.level f n place place_single ws place_inside i w ms g.half g.word_in early)

        low_next : c.low + s.stride ≡ place (w + 1)
        low_next = ap (λ j. j + s.stride) g.low_is ∙ place_next w

        high_next : c.high + s.stride ≡ place (w + 2 ^ i + 1)
        high_next = ap (λ j. j + s.stride) g.high_is ∙ place_next (w + 2 ^ i)

        turned : w + 1 ≡ 2 ^ i → Going r zs
        turned e =
            let d = r-is ∙ sym (cursor_turns s c (low_next ∙ ap place e ∙ sym g.end_is)) in
            let two : 2 ^ suc i ≡ 2 ^ i * 2 = pow-suc 2 i in
            let h : c.high + s.stride ≡ place (2 ^ suc i) = high_next ∙ ap place (omega (arith, e, two)) in
            record {
              done = suc i;
              word = 0;
              word_in = pow_pos (suc i);
              within = omega (arith, pow_mono early);
              half = half_turn (nodes_in ns) s.level f n place place_single ws place_inside i zs (subst (λ k. Halved i k zs) e split_is);
              level_is = ap (λ c. c.level) d ∙ omega (arith, g.level_is);
              count_is = ap (λ c. c.count) d ∙ omega (arith, g.count_is, e, two);
              low_is = ap (λ c. c.low) d ∙ omega arith;
              high_is = ap (λ c. c.high) d ∙ h ∙ ap place (omega arith);
              end_is = ap (λ c. c.end) d ∙ h;
            }

        gone : w + 1 ≢ 2 ^ i → Going r zs
        gone n =
            let d = r-is ∙ sym (cursor_goes s c (λ e. n (place_single (w + 1) (2 ^ i) (sym low_next ∙ e ∙ g.end_is)))) in
            record {
              done = i;
              word = w + 1;
              word_in = ⊎_elim (λ e. absurd (n e)) (λ l. l) (eq-or-lt_of_le {n = w + 1} {m = 2 ^ i} (omega (arith, g.word_in)));
              within = omega (arith, high_word);
              half = split_is;
              level_is = ap (λ c. c.level) d ∙ g.level_is;
              count_is = ap (λ c. c.count) d ∙ omega (arith, g.count_is);
              low_is = ap (λ c. c.low) d ∙ low_next;
              high_is = ap (λ c. c.high) d ∙ high_next ∙ ap place (omega arith);
              end_is = ap (λ c. c.end) d ∙ g.end_is;
            }

        pub going_on : Going r zs
        going_on = ⊎_elim turned gone (decide (w + 1) (2 ^ i))

        pub going_nearer : s.size - r.count < s.size - c.count
        going_nearer =
            let e : r.count ≡ c.count + 1 = ⊎_elim (λ e. ap (λ c. c.count) (r-is ∙ sym (cursor_turns s c e))) (λ n. ap (λ c. c.count) (r-is ∙ sym (cursor_goes s c n))) (decide (c.low + s.stride) c.end) in
            omega (arith, e, less)

  pub going_ends : (c : Cursor) (ms : List ℕ) → Going c ms → s.size ≤ c.count → Expanded ns ws f s ms
  going_ends c ms g over = record {
    leads = λ m v e l.
        let same : m ≡ n = pow_same m n (sym e ∙ p.size_is) in
        g.half.rest_is v (omega (arith, last)) (omega (arith, l, p.size_is, ap (λ k. 2 ^ k) all)) ∙ ap (λ k. follow (nodes_in ns) s.level (word_bits k v) f) (all ∙ sym same);
    kept = λ j d. g.half.other_is j (λ v l. d v (omega (arith, l, p.size_is)));
  }
    where
      all : g.done ≡ n
      all = ⊎_elim (λ e. absurd (omega (arith, over, p.size_is, g.count_is, g.word_in, pow-suc 2 g.done, pow_mono e)))
          (λ b. ⊎_elim (λ l. absurd (omega (arith, g.within, pow-lt l))) (λ a. omega arith) (below n g.done)) (below g.done n)

      last : g.word ≡ 0
      last = omega (arith, g.within, ap (λ k. 2 ^ k) all)

-- ---- tracing: a turn

module _ (ns : List Node) (ws : List ℕ) (job : Job) (t : Traceable ns ws job) where
  -- where id i leads by the path, and then by the word w
  abbrev reached : (i w : ℕ) → ℕ
  reached i w = follow (nodes_in ns) (suc job.top) (word_bits t.bits w) (follow (nodes_in ns) 1 (word_bits job.top job.path) (get_or ws (job.from + i) 0))

  -- the first i ids are traced
  pub record Tracing (i : ℕ) (ms : List ℕ) : Type 0 where
    pub long : length ms ≡ length ws
    pub leads : (w k : ℕ) → w < job.fan → k < i → get_or ms (job.at + w * job.count + k) 0 ≡ reached k w
    pub before : (j : ℕ) → j < job.at → get_or ms j 0 ≡ get_or ws j 0
    pub after : (j : ℕ) → job.at + job.fan * job.count ≤ j → get_or ms j 0 ≡ get_or ws j 0

  pub tracing_first : Tracing 0 ws
  tracing_first = record { long = refl; leads = λ w k l m. absurd (omega arith); before = λ j l. refl; after = λ j l. refl }

  module _ (i : ℕ) (ms : List ℕ) (g : Tracing i ms) (less : i < job.count) where
    pub from_in : job.from + i < length ms
    from_in = omega (arith, less, t.apart, t.within, g.long)

    -- the ids stand before the words' places
    same : get_or ms (job.from + i) 0 ≡ get_or ws (job.from + i) 0
    same = g.before (job.from + i) (omega (arith, less, t.apart))

    module _ (id : ℕ) (id_is : id ≡ get_or ms (job.from + i) 0) where
      node : 0 < (nodes_in ns).level id
      node = subst (λ id. 0 < (nodes_in ns).level id) (sym (id_is ∙ same)) (t.node i less)

      pub followable : Followable ns id job.top
      followable = record { standing = standing_less ns job.top (job.top + t.bits) (omega arith) t.standing; node = node }

      -- a stride is no longer than all of them
      row_short : job.count ≤ job.fan * job.count
      row_short = let h : 1 * job.count ≤ job.fan * job.count = mul-le-mul_right job.count (omega (arith, t.fan_is, pow_pos t.bits)) in omega (arith, h)

      pub spread_needs : length ws * 4 < 2 ^ 63 → (job.top + 1 < 2 ^ 32) × (job.at + i < 2 ^ 64)
      spread_needs room = (omega (arith, t.standing.most, t.standing.few), omega (arith, less, row_short, t.within, room))

      module _ (f : ℕ) (f-is : f ≡ follow (nodes_in ns) 1 (word_bits job.top job.path) id) (s : Spread) (s-is : (s.level ≡ job.top + 1) × (s.size ≡ job.fan) × (s.at ≡ job.at + i) × (s.stride ≡ job.count)) where
        f_node : 0 < (nodes_in ns).level f
        f_node =
            let N = t.standing.inputs in
            subst (λ f. 0 < (nodes_in ns).level f) (sym f-is)
            (follow_node N (nodes_in ns) t.standing.reduced (word_bits job.top job.path) 1 id (omega (arith, word_length job.top job.path, t.standing.most)) node)

        places : s.size * s.stride ≡ job.fan * job.count
        places = ap₂ (λ m k. m * k) s-is.1 s-is.3

        pub expandable : Expandable ns ms f s
        expandable = record {
          bits = t.bits;
          size_is = s-is.1 ∙ t.fan_is;
          standing = standing_less ns (s.level + t.bits - 1) (job.top + t.bits) (omega (arith, s-is.0)) t.standing;
          node = f_node;
          apart = omega (arith, s-is.3, less);
          within = omega (arith, places, s-is.2, s-is.3, less, t.within, g.long);
          short = omega (arith, row_short, s-is.3, t.within, g.long);
        }

        module _ (zs : List ℕ) (long : length zs ≡ length ms) (x : Expanded ns ms f s zs) where
          place_is : (w : ℕ) → s.at + w * s.stride ≡ job.at + w * job.count + i
          place_is w = ap₂ (λ a k. a + w * k) s-is.2 s-is.3 ∙ omega arith

          -- another column's places
          column : (w v k : ℕ) → k < i → job.at + w * job.count + k ≢ s.at + v * s.stride
          column w v k l e =
              let d : w * job.count + k ≡ v * job.count + i = omega (arith, e, place_is v) in
              let m : k ≡ i = sym (digits_mod w (omega (arith, l, less))) ∙ ap (λ x. x % job.count) d ∙ digits_mod v less in
              omega (arith, m, l)

          here : (w : ℕ) → w < job.fan → get_or zs (job.at + w * job.count + i) 0 ≡ reached i w
          here w l =
              let e : suc job.top ≡ s.level = omega (arith, s-is.0) in
              ap (λ j. get_or zs j 0) (sym (place_is w)) ∙ x.leads t.bits w (s-is.1 ∙ t.fan_is) (omega (arith, s-is.1, l))
              ∙ ap₂ (λ l f. follow (nodes_in ns) l (word_bits t.bits w) f) (sym e) (f-is ∙ ap (follow (nodes_in ns) 1 (word_bits job.top job.path)) (id_is ∙ same))

          last_place : (w : ℕ) → w < s.size → s.at + w * s.stride < job.at + job.fan * job.count
          last_place w l =
              let b : (w + 1) * job.count ≤ job.fan * job.count = mul-le-mul_right job.count (omega (arith, l, s-is.1)) in
              omega (arith, b, place_is w, less)

          pub tracing_on : Tracing (i + 1) zs
          tracing_on = record {
            long = long ∙ g.long;
            leads = λ w k l m. ⊎_elim (λ e. subst (λ k. get_or zs (job.at + w * job.count + k) 0 ≡ reached k w) (sym e) (here w l))
                (λ b. x.kept (job.at + w * job.count + k) (λ v a. column w v k b) ∙ g.leads w k l b) (eq-or-lt_of_le {n = k} {m = i} (omega arith));
            before = λ j l. x.kept j (λ v a e. omega (arith, e, place_is v, l)) ∙ g.before j l;
            after = λ j l. x.kept j (λ v a e. omega (arith, e, last_place v a, l)) ∙ g.after j l;
          }

  pub tracing_ends : (i : ℕ) (ms : List ℕ) → Tracing i ms → job.count ≤ i → Traced ns ws job ms
  tracing_ends i ms g over = record {
    leads = λ m w k e l b.
        let same : m ≡ t.bits = pow_same m t.bits (sym e ∙ t.fan_is) in
        g.leads w k l (omega (arith, b, over)) ∙ ap (λ m. follow (nodes_in ns) (suc job.top) (word_bits m w) (follow (nodes_in ns) 1 (word_bits job.top job.path) (get_or ws (job.from + k) 0))) (sym same);
    before = g.before;
    after = g.after;
  }
