-- A turn of the recursive AND, on lists: what each call may be asked, and what follows from what it says.
use mathlib.Core.Path.{◌≡◌, refl, ◌∙◌}
use mathlib.Core.Logic.{◌≢◌}
use mathlib.Core.List.{List}
use Prim.Native.Nat.{ℕ, suc, ◌+◌, ◌-◌, ◌≤◌, ◌<◌, min}
use native.Mathlib.Omega.{arith}
use Rattle.std.specs.Prelude.{Some}
use lib.ListN.{length}
use Rattle.diagrams.specs.Making
use Rattle.diagrams.specs.Making.{Joined, Laid, Table, Known, no_id}
use Rattle.diagrams.proofs.Caching.{and_made, and_answers}
use Rattle.nodes.specs.declared.Node.{Node}
use Rattle.nodes.specs.declared.Pair.{Pair}
use Rattle.nodes.specs.declared.Halves.{Halves}
use Rattle.nodes.specs.Nodes.{halves_of}
use Rattle.nodes.proofs.Conjoin as step
use Rattle.records.specs.Records.{node_of, nodes_in}
use Rattle.records.proofs.Laws.{shows_of}
use Rattle.conjoin.specs.Cache.{Slot, Looked, KeptIn, Ready, Anded}
use Rattle.conjoin.proofs.Laws.{cached_kept, looked_and, cached_set}

module _ {N R c : ℕ} {ns : List Node} {ws : List ℕ} {p : Pair} {left : ℕ} (pre : Ready N R c ns ws p left) where
  T₀ : Table N R (nodes_in ns)
  T₀ = pre.kept.table

  pub first_in : p.f < length ns + 2
  first_in = omega (arith, T₀.below p.f (omega (arith, pre.first, pre.most)), pre.kept.within)

  pub second_in : p.g < length ns + 2
  second_in = omega (arith, T₀.below p.g (omega (arith, pre.second, pre.most)), pre.kept.within)

  pub known_real : (r : ℕ) → (p.f ≢ no_id → p.g ≢ no_id → r ≢ no_id) → r ≢ no_id
  known_real r f = f (λ e. omega (arith, T₀.below p.f (omega (arith, pre.first, pre.most)), pre.kept.room)) (λ e. omega (arith, T₀.below p.g (omega (arith, pre.second, pre.most)), pre.kept.room))

  -- what is known at once is the answer
  pub known_is : {r : ℕ} → Known p.f p.a p.g p.b r → r ≢ no_id → Anded N R (suc N - left) c (nodes_in ns) (nodes_in ns) ws ws p r
  known_is {r} K n = record { and = step.step_known N R left p (nodes_in ns) T₀ pre.kept.room pre.most pre.first pre.second r K n; still = λ _. pre.cached; before = λ i h. refl }

  module _ {s : ℕ} (S : Slot c s) where
    pub slot_in : s + 4 ≤ length ws
    slot_in = omega (arith, S.is, S.small, pre.space)

    pub cached_real : {r : ℕ} → Looked ws s p (Some r) → r ≢ no_id
    cached_real {r} L e = omega (arith, T₀.below r (looked_and N (nodes_in ns) c ws s p r pre.cached S L).both, pre.kept.room)

    -- and so is what the cache has
    pub cached_is : {r : ℕ} → Looked ws s p (Some r) → Anded N R (suc N - left) c (nodes_in ns) (nodes_in ns) ws ws p r
    cached_is {r} L = record {
      and = and_answers N R (suc N - left) (nodes_in ns) T₀ pre.kept.room p.f p.a p.g p.b r (omega (arith, pre.most)) (omega arith) pre.first pre.second (looked_and N (nodes_in ns) c ws s p r pre.cached S L);
      still = λ _. pre.cached;
      before = λ i h. refl;
    }

    module _ (K : Known p.f p.a p.g p.b no_id) {x y : Node} (x-is : x ≡ node_of ns p.f) (y-is : y ≡ node_of ns p.g) {l : ℕ} (l-is : l ≡ min x.level y.level) where
      pub to_level : l ≤ N
      to_level = step.to_level N R left p (nodes_in ns) T₀ pre.kept.room pre.most pre.first pre.second K x y (shows_of ns p.f x x-is) (shows_of ns p.g y y-is) l l-is

      from_level : suc N - left ≤ l
      from_level = step.from_level N R left p (nodes_in ns) T₀ pre.kept.room pre.most pre.first pre.second K x y (shows_of ns p.f x x-is) (shows_of ns p.g y y-is) l l-is

      pub level_pos : 0 < l
      level_pos = omega (arith, from_level, pre.most)

      pub left_falls : N - l < left
      left_falls = step.left_falls N R left p (nodes_in ns) T₀ pre.kept.room pre.most pre.first pre.second K x y (shows_of ns p.f x x-is) (shows_of ns p.g y y-is) l l-is

      module _ {h : Halves} (h-is : h ≡ halves_of x y l p) where
        lows : (suc N - (N - l) ≤ (nodes_in ns).level h.low.f) × (suc N - (N - l) ≤ (nodes_in ns).level h.low.g)
        lows = step.low_levels_are N R left p (nodes_in ns) T₀ pre.kept.room pre.most pre.first pre.second K x y (shows_of ns p.f x x-is) (shows_of ns p.g y y-is) l l-is h h-is

        pub low_ready : Ready N R c ns ws h.low (N - l)
        low_ready = record {
          kept = pre.kept;
          most = omega arith;
          small = pre.small;
          first = lows.0;
          second = lows.1;
          cached = pre.cached;
          space = pre.space;
          near = pre.near;
        }

        module _ {low : ℕ} (cs : List Node) {us : List ℕ} (cs-as : length cs ≡ length ns) (us-as : length us ≡ length ws) (L : Anded N R (suc N - (N - l)) c (nodes_in ns) (nodes_in cs) ws us h.low low) where
          -- there are too few records
          pub low_none_is : low ≡ no_id → Anded N R (suc N - left) c (nodes_in ns) (nodes_in cs) ws us p low
          low_none_is e = record {
            and = step.step_none N R left p (nodes_in ns) T₀ pre.kept.room pre.most pre.first pre.second K x y (shows_of ns p.f x x-is) (shows_of ns p.g y y-is) l l-is h h-is (nodes_in cs) low L.and e;
            still = λ n. absurd (n e);
            before = L.before;
          }

          module _ (is : low ≢ no_id) where
            T₁ : Table N R (nodes_in cs)
            T₁ = L.and.table is

            highs : (suc N - (N - l) ≤ (nodes_in cs).level h.high.f) × (suc N - (N - l) ≤ (nodes_in cs).level h.high.g)
            highs = step.high_levels_are N R left p (nodes_in ns) T₀ pre.kept.room pre.most pre.first pre.second K x y (shows_of ns p.f x x-is) (shows_of ns p.g y y-is) l l-is h h-is (nodes_in cs) low L.and is

            pub high_ready : Ready N R c cs us h.high (N - l)
            high_ready = record {
              kept = record { table = T₁; within = omega (arith, pre.kept.within); room = pre.kept.room };
              most = omega arith;
              small = pre.small;
              first = highs.0;
              second = highs.1;
              cached = L.still is;
              space = omega (arith, pre.space);
              near = pre.near;
            }

            module _ {high : ℕ} (ds : List Node) {vs : List ℕ} (ds-as : length ds ≡ length ns) (vs-as : length vs ≡ length ws) (H : Anded N R (suc N - (N - l)) c (nodes_in cs) (nodes_in ds) us vs h.high high) where
              pub join_ready : high ≢ no_id → (high ≢ no_id → Laid R (nodes_in ds)) × ((0 < l) × ((R ≤ length ds) × (R + 2 < no_id)))
              join_ready n = ((λ _. (H.and.table n).laid), (level_pos, (omega (arith, pre.kept.within), pre.kept.room)))

              pub last_in : s + 4 ≤ length vs
              last_in = omega (arith, slot_in)

              -- where there is no join, there are too few records
              pub lacking_is : (es : List Node) → Joined R (nodes_in ds) (nodes_in es) l low high no_id → Anded N R (suc N - left) c (nodes_in ns) (nodes_in es) ws vs p no_id
              lacking_is es J = record {
                and = step.step_joined N R left p (nodes_in ns) T₀ pre.kept.room pre.most pre.first pre.second K x y (shows_of ns p.f x x-is) (shows_of ns p.g y y-is) l l-is h h-is (nodes_in cs) low L.and is (nodes_in ds) high H.and (nodes_in es) no_id J;
                still = λ n. absurd (n refl);
                before = λ i b. H.before i b ∙ L.before i b;
              }

              -- so there are where the high half has none
              pub high_none_is : high ≡ no_id → Anded N R (suc N - left) c (nodes_in ns) (nodes_in ds) ws vs p no_id
              high_none_is e = lacking_is ds (Making.nothing e refl)

              -- the join is the answer, and may be kept
              pub joined_is : {made : ℕ} (es : List Node) {ys : List ℕ} → Joined R (nodes_in ds) (nodes_in es) l low high made → KeptIn vs ys s p made → Anded N R (suc N - left) c (nodes_in ns) (nodes_in es) ws ys p made
              joined_is {made} es {ys} J K' = record {
                and = step.step_joined N R left p (nodes_in ns) T₀ pre.kept.room pre.most pre.first pre.second K x y (shows_of ns p.f x x-is) (shows_of ns p.g y y-is) l l-is h h-is (nodes_in cs) low L.and is (nodes_in ds) high H.and (nodes_in es) made J;
                still = λ n.
                    let hi = step.step_high N R left p (nodes_in ns) T₀ pre.kept.room pre.most pre.first pre.second K x y (shows_of ns p.f x x-is) (shows_of ns p.g y y-is) l l-is h h-is (nodes_in cs) low L.and is (nodes_in ds) high H.and (nodes_in es) made J n in
                    let G = step.step_grown N R left p (nodes_in ns) T₀ pre.kept.room pre.most pre.first pre.second K x y (shows_of ns p.f x x-is) (shows_of ns p.g y y-is) l l-is h h-is (nodes_in cs) low L.and is (nodes_in ds) high H.and (nodes_in es) made J n in
                    let M = (step.step_at N R left p (nodes_in ns) T₀ pre.kept.room pre.most pre.first pre.second K x y (shows_of ns p.f x x-is) (shows_of ns p.g y y-is) l l-is h h-is (nodes_in cs) low L.and is (nodes_in ds) high H.and (nodes_in es) made J).made n in
                    let A = and_made N l (nodes_in ns) (nodes_in es) T₀.reduced p.f p.a p.g p.b made level_pos (omega (arith, to_level))
                    (step.first_of N R left p (nodes_in ns) T₀ pre.kept.room pre.most pre.first pre.second K x y (shows_of ns p.f x x-is) (shows_of ns p.g y y-is) l l-is)
                    (step.second_of N R left p (nodes_in ns) T₀ pre.kept.room pre.most pre.first pre.second K x y (shows_of ns p.f x x-is) (shows_of ns p.g y y-is) l l-is)
                    (step.one_of N R left p (nodes_in ns) T₀ pre.kept.room pre.most pre.first pre.second K x y (shows_of ns p.f x x-is) (shows_of ns p.g y y-is) l l-is) M in
                    cached_set N (nodes_in es) c vs ys s p made (cached_kept N l G.0 (nodes_in ds) (nodes_in es) c vs (H.and.table hi).reduced G.1 (H.still hi)) S K' A;
                before = λ i b. K'.else_is i (λ m. omega (arith, S.is)) ∙ H.before i b ∙ L.before i b;
              }
