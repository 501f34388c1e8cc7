-- What the writes of each change of the chain leave.
use Rattle.offset_allocator.proofs.Common.{◌≡◌, ◌≢◌, ℕ, ◌+◌, ◌-◌, ◌<◌, ◌≤◌, ◌^◌, Bool, false, Option, None, Some, MatchOption, List, [], ◌∷◌, ◌++◌, length, get_or, refl, sym, ◌∙◌, ap, arith}
use Rattle.offset_allocator.proofs.Common.{append_assoc, length-append, length-set, set, nat_eq, cases_eq, ChainCells, Node, node, put, with_spare, first_or, last_or, IsRow, IsChain, HasPlace}
use Rattle.offset_allocator.proofs.Common.{coalesced_before, coalesced_after, Block, Place, free_block, units, count_named, one, common_steps}
use Rattle.offset_allocator.proofs.Linking.Exchange.{IsTop, IsExchange, IsRelinked, back_to, on_to, wrote, top, kept_names, pushed_names, link_back, link_on, link_none, back, relinked_spare}
use Rattle.offset_allocator.proofs.{Linking.Exchange.relinked_memory, Tallies.one-eq, Tallies.one-other, Tallies.times-append, Tallies.units-append, Linking.Nodes.nodes-with_spare}
use Rattle.offset_allocator.proofs.{Linking.Nodes.reserved-with_spare, Linking.Ends.end_free, Linking.Places.placed, Linking.Places.at_place, Linking.Places.next_place}
use Rattle.offset_allocator.proofs.Linking.Places.{previous_place}

pub spare-with_spare : (c : ChainCells) (i v : ℕ) → (with_spare c i v).spare ≡ set c.spare i v
unfolding with_spare
spare-with_spare c i v = refl

not_top : {t : ChainCells} {m last count x y : ℕ} {p : Place} → HasPlace t m last count x p → IsTop t count y (p.before ++ p.block ∷ p.after) → y ≢ x
not_top {y = y} {p = p} h tp q = omega (arith, tp.absent, times-append y p.before (p.block ∷ p.after), one-eq y p.block.name (h.name ∙ sym q))

-- two blocks become one, under the name of b; the name of g is unused again
name_freed : (b g : Block) {t w d e : ChainCells} {m last count y : ℕ} {fs old cs : List Block} {n : ℕ} → IsChain t m last count (fs ++ (old ++ cs)) → g.name ≡ y → (node t y).used ≡ false
    → ((k : ℕ) → k ≢ b.name → node w k ≡ node t k) → length w.nodes ≡ length t.nodes → d.spare ≡ t.spare → d.reserved ≡ t.reserved → e ≡ with_spare d count y
    → IsRow w (last_or None fs) (units fs) (record b { size = n } ∷ []) (first_or None cs)
    → ((k : ℕ) → count_named k old ≡ one (nat_eq k b.name) + one (nat_eq k g.name)) → length old ≡ 2
    → IsExchange t w d e count (count + 1) fs old (record b { size = n } ∷ []) cs
name_freed b g {t} {w} {d} {e} {m} {last} {count} {y} {fs} {old} {cs} {n} h named free other cells same memory e' row two both =
    grind (arith, length-append, spare-with_spare, one-eq, cases_eq, one-other, nodes-with_spare, reserved-with_spare, length-set, pushed_names)

-- one block becomes two, the other under an unused name
name_taken : {t w d : ChainCells} {count y : ℕ} {b : Block} {fs new cs : List Block} → IsTop t count y (fs ++ b ∷ cs) → 0 < count
    → ((k : ℕ) → k ≢ b.name → k ≢ y → node w k ≡ node t k) → length w.nodes ≡ length t.nodes → d.spare ≡ t.spare → d.reserved ≡ t.reserved
    → IsRow w (last_or None fs) (units fs) new (first_or None cs) → ((k : ℕ) → count_named k new ≡ one (nat_eq k b.name) + one (nat_eq k y)) → length new ≡ 2
    → IsExchange t w d d count (count - 1) fs (b ∷ []) new cs
name_taken {t} {w} {d} {count} {y} {b} tp some other cells spare memory row two both = grind (arith, one-eq, kept_names)

-- a remainder is split off
pub split_place : {t w₁ w₂ d : ChainCells} {m last last' count x n y o s : ℕ} {a b c : Option ℕ} {p : Place} → HasPlace t m last count x p → 0 < count
    → y ≡ get_or t.spare (count - 1) 0 → n ≤ s
    → o ≡ (node t x).offset → s ≡ (node t x).size → a ≡ (node t x).after → b ≡ Some x → c ≡ Some y
    → w₁ ≡ put t y (record { offset = o + n; size = s - n; used = false; before = b; after = a }) → w₂ ≡ put w₁ x (record (node w₁ x) { size = n; after = c })
    → IsRelinked a (back_to y) w₂ d → MatchOption a (last' ≡ y) (λ _. last' ≡ last)
    → HasPlace d m last' (count - 1) x (record p { block = record p.block { size = n }; after = free_block y (p.block.size - n) ∷ p.after })
split_place {t} {w₁} {w₂} {d} {m} {last} {last'} {count} {x} {n} {y} {o} {s} {a} {b} {c} {p} h some popped within eo es ea eb ec e₁ e₂ linked moved =
    let at = at_place h in
    let tp = top y h.chain some popped in
    let sized : s ≡ p.block.size = es ∙ ap (λ v. v.size) at in
    let aa : a ≡ first_or None p.after = ea ∙ ap (λ v. v.after) at in
    let ne : y ≢ x = not_top h tp in
    let s₁ = wrote e₁ tp.below in
    let s₂ = wrote e₂ (omega (arith, s₁.cells, h.below)) in
    let at_x : node w₂ x ≡ record { offset = units p.before; size = n; used = p.block.used; before = last_or None p.before; after = Some y } =
    s₂.here ∙ ap (λ (v : Node). record v { size = n; after = c }) (s₁.other x (λ q. ne (sym q)) ∙ at) ∙ rw ec refl in
    let at_y : node w₂ y ≡ record { offset = units p.before + n; size = p.block.size - n; used = false; before = Some x; after = first_or None p.after } = grind (arith, common_steps) in
    let exchange : IsExchange t w₂ d d count (count - 1) p.before (p.block ∷ []) (record p.block { size = n } ∷ free_block y (p.block.size - n) ∷ []) p.after =
    name_taken tp some (λ k u v. let nx : k ≢ x = λ q. u (q ∙ sym h.name) in s₂.other k nx ∙ s₁.other k v) (s₂.cells ∙ s₁.cells) (relinked_spare (back_to y) w₂ d a linked
    ∙ s₂.spare ∙ s₁.spare) (relinked_memory (back_to y) w₂ d a linked ∙ s₂.memory ∙ s₁.memory)
    (rw h.name (at_x, (at_y, tt))) (λ k. omega arith) refl in
    placed (link_back h.chain exchange last' y (rw aa at linked) refl refl (omega arith) (rw aa at moved)) h.name

-- padding is split off
pub split_before_place : {t w₁ w₂ d : ChainCells} {m last count x n y o s : ℕ} {a b c : Option ℕ} {p : Place} → HasPlace t m last count x p → 0 < count
    → y ≡ get_or t.spare (count - 1) 0 → n ≤ s
    → o ≡ (node t x).offset → s ≡ (node t x).size → a ≡ (node t x).before → b ≡ Some x → c ≡ Some y
    → w₁ ≡ put t y (record { offset = o; size = n; used = false; before = a; after = b }) → w₂ ≡ put w₁ x (record (node w₁ x) { offset = o + n; size = s - n; before = c })
    → IsRelinked a (on_to y) w₂ d
    → HasPlace d m last (count - 1) x (record { before = p.before ++ free_block y n ∷ []; block = record p.block { size = p.block.size - n }; after = p.after })
split_before_place {t} {w₁} {w₂} {d} {m} {last} {count} {x} {n} {y} {o} {s} {a} {b} {c} {p} h some popped within eo es ea eb ec e₁ e₂ linked =
    let at = at_place h in
    let tp = top y h.chain some popped in
    let ao : o ≡ units p.before = eo ∙ ap (λ v. v.offset) at in
    let sized : s ≡ p.block.size = es ∙ ap (λ v. v.size) at in
    let aa : a ≡ last_or None p.before = ea ∙ ap (λ v. v.before) at in
    let ne : y ≢ x = not_top h tp in
    let s₁ = wrote e₁ tp.below in
    let s₂ = wrote e₂ (omega (arith, s₁.cells, h.below)) in
    let at_x : node w₂ x ≡ record { offset = units p.before + n; size = p.block.size - n; used = p.block.used; before = Some y; after = first_or None p.after } =
    s₂.here ∙ ap (λ (v : Node). record v { offset = o + n; size = s - n; before = c }) (s₁.other x (λ q. ne (sym q)) ∙ at) ∙ rw (ao, sized, ec) refl in
    let at_y : node w₂ y ≡ record { offset = units p.before; size = n; used = false; before = last_or None p.before; after = Some x } = s₂.other y ne ∙ s₁.here ∙ rw (ao, aa, eb) refl in
    let exchange : IsExchange t w₂ d d count (count - 1) p.before (p.block ∷ []) (free_block y n ∷ record p.block { size = p.block.size - n } ∷ []) p.after =
    name_taken tp some (λ k u v. let nx : k ≢ x = λ q. u (q ∙ sym h.name) in s₂.other k nx ∙ s₁.other k v) (s₂.cells ∙ s₁.cells) (relinked_spare (on_to y) w₂ d a linked
    ∙ s₂.spare ∙ s₁.spare) (relinked_memory (on_to y) w₂ d a linked ∙ s₂.memory ∙ s₁.memory)
    (rw h.name (at_y, (at_x, tt))) (λ k. omega arith) refl in
    placed (rw append_assoc (link_on h.chain exchange y (rw aa at linked) refl refl (omega arith))) h.name

-- a block is coalesced with the free one after it
pub coalesce_after_place : (d : ChainCells) {t w e : ChainCells} {m last last' count x y s : ℕ} {a : Option ℕ} {p : Place} → HasPlace t m last count x p → Some y ≡ (node t x).after
    → (node t y).used ≡ false
    → s ≡ (node t x).size + (node t y).size → a ≡ (node t y).after → w ≡ put t x (record (node t x) { size = s; after = a })
    → IsRelinked a (back_to x) w d → MatchOption a (last' ≡ x) (λ _. last' ≡ last) → e ≡ with_spare d count y
    → HasPlace e m last' (count + 1) x (coalesced_after p)
coalesce_after_place d {t} {w} {e} {m} {last} {last'} {count} {x} {y} {s} {a} {p} h next free es ea e₁ linked moved e₂ =
    let n = next_place h next in
    let b : Block = n.block in
    let at_y = at_place n.place in
    let idle : b.used ≡ false = sym (ap (λ (v : Node). v.used) at_y) ∙ free in
    let aa : a ≡ first_or None n.rest = ea ∙ ap (λ (v : Node). v.after) at_y in
    let sized : s ≡ p.block.size + (b.size + 0) = omega (arith, es, ap (λ (v : Node). v.size) (at_place h), ap (λ (v : Node). v.size) at_y) in
    let s₁ = wrote e₁ h.below in
    let exchange : IsExchange t w d e count (count + 1) p.before (p.block ∷ b ∷ []) (record p.block { size = p.block.size + (b.size + 0) } ∷ []) n.rest =
    name_freed p.block b (rw n.is at h.chain) n.place.name free (λ k q. s₁.other k (λ z. q (z ∙ sym h.name))) s₁.cells (relinked_spare (back_to x) w d a linked
    ∙ s₁.spare) (relinked_memory (back_to x) w d a linked ∙ s₁.memory) e₂
    (simp h.name (s₁.here ∙ ap (λ (v : Node). record v { size = s; after = a }) (at_place h) ∙ rw (sized, aa) refl, tt))
    (λ k. omega arith) refl in
    rw (n.is, idle) (placed (link_back (rw n.is at h.chain) exchange last' x (rw aa at linked) (ap (λ i. Some i) h.name) refl (omega arith) (rw aa at moved)) h.name)

-- a free block is coalesced into the one after it
pub coalesce_before_place : (d : ChainCells) {t w e : ChainCells} {m last count x y o s : ℕ} {a : Option ℕ} {p : Place} → HasPlace t m last count x p → Some y ≡ (node t x).before
    → (node t y).used ≡ false
    → o ≡ (node t y).offset → s ≡ (node t y).size + (node t x).size → a ≡ (node t y).before → w ≡ put t x (record (node t x) { offset = o; size = s; before = a })
    → IsRelinked a (on_to x) w d → e ≡ with_spare d count y
    → HasPlace e m last (count + 1) x (coalesced_before p)
coalesce_before_place d {t} {w} {e} {m} {last} {count} {x} {y} {o} {s} {a} {p} h previous free eo es ea e₁ linked e₂ =
    let n = previous_place h previous in
    let b : Block = n.block in
    let at_y = at_place n.place in
    let is = end_free n.front b (sym (ap (λ (v : Node). v.used) at_y) ∙ free) in
    let aa : a ≡ last_or None n.front = ea ∙ ap (λ (v : Node). v.before) at_y in
    let ao : o ≡ units n.front = eo ∙ ap (λ (v : Node). v.offset) at_y in
    let sized : s ≡ (b.size + 0) + p.block.size = omega (arith, es, ap (λ (v : Node). v.size) (at_place h), ap (λ (v : Node). v.size) at_y) in
    let s₁ = wrote e₁ h.below in
    let exchange : IsExchange t w d e count (count + 1) n.front (b ∷ p.block ∷ []) (record p.block { size = (b.size + 0) + p.block.size } ∷ []) p.after =
    name_freed p.block b n.place.chain n.place.name free (λ k q. s₁.other k (λ z. q (z ∙ sym h.name))) s₁.cells (relinked_spare (on_to x) w d a linked
    ∙ s₁.spare) (relinked_memory (on_to x) w d a linked ∙ s₁.memory) e₂
    (simp h.name (s₁.here ∙ ap (λ (v : Node). record v { offset = o; size = s; before = a }) (at_place h) ∙ rw (ao, sized, aa) refl, tt))
    (λ k. omega arith) refl in
    rw (n.is, is.0, is.1) (placed (link_on n.place.chain exchange x (rw aa at linked) (ap (λ i. Some i) h.name) refl (omega arith)) h.name)

-- a block is made used or free
pub mark_place : {t d : ChainCells} {m last count x : ℕ} {u : Bool} {p : Place} → HasPlace t m last count x p → d ≡ put t x (record (node t x) { used = u })
    → HasPlace d m last count x (record p { block = record p.block { used = u } })
mark_place {t} {d} {m} {last} {count} {x} {u} {p} h e =
    let s = wrote e h.below in
    let exchange : IsExchange t d d d count count p.before (p.block ∷ []) (record p.block { used = u } ∷ []) p.after = record {
      row = rw h.name (s.here ∙ ap (λ (v : Node). record v { used = u }) (at_place h), tt);
      others = λ k a b. s.other k (λ q. omega (arith, one-eq k p.block.name (h.name ∙ sym q)));
      gone = λ k a b. absurd (omega arith);
      cells = s.cells;
      same = refl;
      memory = s.memory;
      stack = ap (λ (l : List ℕ). length l) s.spare;
      names = λ k. omega (arith, kept_names t d count s.spare k);
      full = refl;
    } in
    placed (link_none h.chain exchange refl refl refl (back h.chain exchange) (omega (arith, h.chain.fits, units-append p.before (p.block ∷ p.after)))) h.name

-- the last block has fewer units
pub trim_place : (n : ℕ) {t d : ChainCells} {m last count x : ℕ} {fs : List Block} {b : Block} → HasPlace t m last count x (record { before = fs; block = b; after = [] }) → n ≤ b.size
    → d ≡ put t x (record (node t x) { size = n }) → HasPlace d m last count x (record { before = fs; block = record b { size = n }; after = [] })
trim_place n {t} {d} {m} {last} {count} {x} {fs} {b} h small e =
    let w = wrote e h.below in
    let exchange : IsExchange t d d d count count fs (b ∷ []) (record b { size = n } ∷ []) [] = record {
      row = rw h.name (w.here ∙ ap (λ (v : Node). record v { size = n }) (at_place h), tt);
      others = λ k u v. w.other k (λ q. omega (arith, one-eq k b.name (h.name ∙ sym q)));
      gone = λ k u v. absurd (omega arith);
      cells = w.cells;
      same = refl;
      memory = w.memory;
      stack = ap (λ (l : List ℕ). length l) w.spare;
      names = λ k. omega (arith, kept_names t d count w.spare k);
      full = refl;
    } in
    placed (link_none h.chain exchange refl refl refl tt (omega (arith, small, h.chain.fits, units-append fs (b ∷ [])))) h.name

-- the last block has more units
pub grow_place : (more : ℕ) {t d : ChainCells} {m last count x s : ℕ} {fs : List Block} {b : Block} → HasPlace t m last count x (record { before = fs; block = b; after = [] })
    → units (fs ++ b ∷ []) + more < 2 ^ 32
    → s ≡ (node t x).size → d ≡ put t x (record (node t x) { size = s + more }) → HasPlace d m last count x (record { before = fs; block = record b { size = b.size + more }; after = [] })
grow_place more {t} {d} {m} {last} {count} {x} {s} {fs} {b} h small es e =
    let w = wrote e h.below in
    let sized : s ≡ b.size = es ∙ ap (λ (v : Node). v.size) (at_place h) in
    let exchange : IsExchange t d d d count count fs (b ∷ []) (record b { size = b.size + more } ∷ []) [] = record {
      row = rw h.name (w.here ∙ ap (λ (v : Node). record v { size = s + more }) (at_place h) ∙ rw sized refl, tt);
      others = λ k u v. w.other k (λ q. omega (arith, one-eq k b.name (h.name ∙ sym q)));
      gone = λ k u v. absurd (omega arith);
      cells = w.cells;
      same = refl;
      memory = w.memory;
      stack = ap (λ (l : List ℕ). length l) w.spare;
      names = λ k. omega (arith, kept_names t d count w.spare k);
      full = refl;
    } in
    placed (link_none h.chain exchange refl refl refl tt (omega (arith, small, units-append fs (b ∷ [])))) h.name
