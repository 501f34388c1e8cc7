-- What the writes leave of a chain without one of its free blocks.
use Rattle.offset_allocator.proofs.Common.{◌≡◌, ◌≢◌, ℕ, Bool, ◌+◌, ◌-◌, ◌<◌, ◌≤◌, ◌^◌, false, Option, None, Some, MatchOption, IfSome, List, [], ◌∷◌, ◌++◌, length, refl, sym, ap, ap₂, subst, ◌∙◌, arith}
use Rattle.offset_allocator.proofs.{Common.nat_tests, Common.length-append, Common.length-set, Linking.Exchange.node_same, Linking.Nodes.nodes-with_spare, Linking.Nodes.reserved-with_spare}
use Rattle.offset_allocator.proofs.{Linking.Writes.spare-with_spare, Tallies.one-eq, Tallies.one-other, Tallies.one-same, Tallies.times-append, Tallies.units-append, Linking.Places.placed}
use Rattle.offset_allocator.proofs.Common.{cases_eq, inl, inr, take, nat_eq, one, times, ChainCells, Node, node, put, with_spare, first_or, last_or, IsRow, HasPlace, Block, Place, units, count_named}
use Rattle.offset_allocator.proofs.Linking.Rows.{times-end, times-first, last_or-append, IsRow-front, IsRow-back, IsRow-append, IsRow-kept, IsRow-moved, IsRow-aimed}
use Rattle.offset_allocator.proofs.Linking.Exchange.{IsRelinked, back_to, on_to, wrote, relinked_at, relinked_other, relinked_length, relinked_spare, relinked_memory, kept_names, pushed_names}
use Rattle.offset_allocator.specs.Moving.Gaps.{HasGap, IsGap}
use Rattle.offset_allocator.specs.declared.moves.gap.Gap.{Gap}

-- the last of a list, whatever is before it
last_any : (last p : ℕ) (bs : List Block) → last_or (Some p) bs ≡ Some last → last_or (Some last) bs ≡ Some last
last_any last p [] e = refl
last_any last p (b ∷ bs) e = e

-- a change of the bins leaves a gap
pub kept_gap : {A B : Type 0} {max : ℕ} {number : A → ℕ} {gap : Gap A B} {c d : ChainCells} {m last last' count count' : ℕ} {p : Place} → (d ≡ c) × (last' ≡ last) × (count' ≡ count)
    → IsGap max number gap c m last count p → IsGap max number gap d m last' count' p
kept_gap e i = rw (e.0, e.1, e.2) i

-- a free block leaves the chain
pub opened : {c : ChainCells} {m last count x : ℕ} {p : Place} → HasPlace c m last count x p → p.block.used ≡ false → HasGap c m last count x p
opened {c} {m} {last} {count} {x} {p} h idle =
    let zero_is : 0 + units p.before ≡ units p.before = omega arith in
    let back = IsRow-back c None 0 p.before (p.block ∷ p.after) None h.chain.row in
    record {
      memory = h.chain.memory;
      within = h.chain.within;
      stack = h.chain.stack;
      front = (_, IsRow-front c None 0 p.before (p.block ∷ p.after) None h.chain.row);
      back = (_, rw zero_is at back.1);
      ends = last_any last p.block.name p.after (sym (last_or-append None p.before (p.block ∷ p.after)) ∙ h.chain.ends);
      each = h.chain.each;
      idle = h.chain.idle;
      full = h.chain.full;
      fits = h.chain.fits;
      name = h.name;
      free = idle;
      gone = rw (← h.name) (ap (λ (v : Node). v.used) back.0 ∙ idle);
    }

module _ {c : ChainCells} {m last count x : ℕ} (fs : List Block) (g : Block) (cs : List Block) (h : HasGap c m last count x (record { before = fs; block = g; after = cs })) where
  pub seen : (k : ℕ) → (count_named k fs + (one (nat_eq k g.name) + count_named k cs)) + times k (take count c.spare) ≤ 1
  seen k = let e = h.each k in grind (arith, times-append)

  there : (k : ℕ) → 1 ≤ count_named k fs + (one (nat_eq k g.name) + count_named k cs) → k < length c.nodes
  there k l = let e = h.each k in let t = times-append k fs (g ∷ cs) in grind (arith, nat_tests)

  pub gap_below : x < length c.nodes
  gap_below = there x (omega (arith, one-eq x g.name h.name))

  pub room : count < length c.spare
  room = omega (arith, h.stack, h.full, length-append fs (g ∷ cs))

  pub before_below : (z : ℕ) → last_or None fs ≡ Some z → z < length c.nodes
  before_below z e = there z (omega (arith, times-end z fs e))

  pub after_below : (z : ℕ) → first_or None cs ≡ Some z → z < length c.nodes
  after_below z e = there z (omega (arith, times-first z cs e))

  pub before_some : (o : Option ℕ) → last_or None fs ≡ o → IfSome o (λ z. z < length c.nodes)
  before_some None e = tt
  before_some (Some z) e = before_below z e

  pub after_some : (o : Option ℕ) → first_or None cs ≡ o → IfSome o (λ z. z < length c.nodes)
  after_some None e = tt
  after_some (Some z) e = after_below z e

-- the block after the gap, where the list of those after it is known
pub follows : {c : ChainCells} {m last count x : ℕ} {p : Place} {b : Block} {bs : List Block} → HasGap c m last count x p → p.after ≡ b ∷ bs
    → HasGap c m last count x (record { before = p.before; block = p.block; after = b ∷ bs })
follows {c} {m} {last} {count} {x} {p} h e = subst (λ (l : List Block). HasGap c m last count x (record { before = p.before; block = p.block; after = l })) e h

-- the block after the gap
module _ {c : ChainCells} {m last count x : ℕ} (fs : List Block) (g b : Block) (bs : List Block) (h : HasGap c m last count x (record { before = fs; block = g; after = b ∷ bs })) where
  pub next_node : (node c b.name).size ≡ b.size
  next_node = ap (λ (v : Node). v.size) h.back.1.0

  pub next_used : (node c b.name).used ≡ b.used
  next_used = ap (λ (v : Node). v.used) h.back.1.0

  pub next_after : (node c b.name).after ≡ first_or None bs
  next_after = ap (λ (v : Node). v.after) h.back.1.0

  pub next_below : b.name < length c.nodes
  next_below = there fs g (b ∷ bs) h b.name (omega (arith, one-same b.name))

  pub next_fits : (units fs + g.size) + b.size < 2 ^ 32
  next_fits = omega (arith, h.fits, units-append fs (g ∷ b ∷ bs))

  -- its first n units slide to the front of the units, and the others go into the gap
  pub passed_by : (n : ℕ) → n ≤ b.size → {w d : ChainCells} → w ≡ put c b.name (record (node c b.name) { offset = units fs; size = n; before = last_or None fs })
      → IsRelinked (last_or None fs) (on_to b.name) w d
      → HasGap d m last count x (record { before = fs ++ record b { size = n } ∷ []; block = record g { size = g.size + (b.size - n) }; after = bs })
  passed_by n few {w} {d} e linked =
      let b₁ : Block = record b { size = n } in
      let g₁ : Block = record g { size = g.size + (b.size - n) } in
      let s = wrote e next_below in
      let once : (k : ℕ) → (count_named k fs + (one (nat_eq k g.name) + (one (nat_eq k b.name) + count_named k bs))) ≤ 1 = λ k. omega (arith, seen fs g (b ∷ bs) h k) in
      let other : (k : ℕ) → k ≢ b.name → last_or None fs ≢ Some k → node d k ≡ node c k = λ k u v. relinked_other (on_to b.name) w d (last_or None fs) k linked v ∙ s.other k u in
      let apart : (k : ℕ) → 1 ≤ one (nat_eq k g.name) + count_named k bs → node d k ≡ node c k =
      λ k l. other k (λ q. omega (arith, once k, one-eq k b.name (sym q))) (λ q. omega (arith, once k, times-end k fs q)) in
      let here : node d b.name ≡ record { offset = 0 + units fs; size = n; used = b.used; before = last_or None fs; after = first_or None bs } =
      relinked_other (on_to b.name) w d (last_or None fs) b.name linked (λ q. omega (arith, once b.name, one-same b.name, times-end b.name fs q))
      ∙ s.here ∙ ap (λ (v : Node). record v { offset = units fs; size = n; before = last_or None fs }) h.back.1.0
      ∙ ap (λ o. record { offset = o; size = n; used = b.used; before = last_or None fs; after = first_or None bs }) (sym zero_is) in
      let front : IsRow d None 0 fs (Some b.name) = IsRow-aimed c d None 0 fs h.front.0 (Some b.name) (λ k. omega (arith, once k))
      (λ z q. relinked_at (on_to b.name) w d (last_or None fs) z linked q (rw s.cells (before_below fs g (b ∷ bs) h z q))
      ∙ ap (on_to b.name) (s.other z (λ r. omega (arith, once z, times-end z fs q, one-eq z b.name (sym r)))))
      (λ k l ne. other k (λ q. omega (arith, once k, l, one-eq k b.name (sym q))) ne) h.front.1 in
      let cells : length d.nodes ≡ length c.nodes = relinked_length (on_to b.name) w d (last_or None fs) linked ∙ s.cells in
      let spare : d.spare ≡ c.spare = relinked_spare (on_to b.name) w d (last_or None fs) linked ∙ s.spare in
      let offset : (units fs + g.size) + b.size ≡ units (fs ++ b₁ ∷ []) + (g.size + (b.size - n)) = omega (arith, few, units-append fs (b₁ ∷ [])) in
      record {
        memory = relinked_memory (on_to b.name) w d (last_or None fs) linked ∙ s.memory ∙ h.memory;
        within = omega (arith, cells, h.within);
        stack = ap (λ (l : List ℕ). length l) spare ∙ h.stack ∙ sym cells;
        front = (first_or None bs, IsRow-append d None 0 fs (b₁ ∷ []) (first_or None bs) front (here, tt));
        back = (Some b.name, IsRow-kept c d _ _ bs None (λ k l. apart k (omega arith)) (rw offset at h.back.1.1));
        ends = last_any last b.name bs h.ends;
        each = λ k. rw cells (omega (arith, h.each k, times-append k fs (g ∷ b ∷ bs), times-append k (fs ++ b₁ ∷ []) (g₁ ∷ bs), times-append k fs (b₁ ∷ []), kept_names c d count spare k));
        idle = λ k none.
            let no : (count_named k fs ≡ 0) × (one (nat_eq k g.name) ≡ 0) × (one (nat_eq k b.name) ≡ 0) × (count_named k bs ≡ 0) = (
              omega (arith, times-append k (fs ++ b₁ ∷ []) (g₁ ∷ bs), times-append k fs (b₁ ∷ [])),
              omega (arith, times-append k (fs ++ b₁ ∷ []) (g₁ ∷ bs), times-append k fs (b₁ ∷ [])),
              omega (arith, times-append k (fs ++ b₁ ∷ []) (g₁ ∷ bs), times-append k fs (b₁ ∷ [])),
              omega (arith, times-append k (fs ++ b₁ ∷ []) (g₁ ∷ bs), times-append k fs (b₁ ∷ [])),
            ) in
            ap (λ (v : Node). v.used) (other k (λ q. omega (arith, no.2, one-eq k b.name (sym q))) (λ q. omega (arith, no.0, times-end k fs q)))
            ∙ h.idle k (omega (arith, no.0, no.1, no.2, no.3, times-append k fs (g ∷ b ∷ bs)));
        full = omega (arith, cells, h.full, length-append fs (g ∷ b ∷ bs), length-append (fs ++ b₁ ∷ []) (g₁ ∷ bs), length-append fs (b₁ ∷ []));
        fits = omega (arith, few, h.fits, units-append fs (g ∷ b ∷ bs), units-append (fs ++ b₁ ∷ []) (g₁ ∷ bs), units-append fs (b₁ ∷ []));
        name = h.name;
        free = h.free;
        gone = ap (λ (v : Node). v.used) (apart x (omega (arith, one-eq x g.name h.name))) ∙ h.gone;
      }
    where
      zero_is : 0 + units fs ≡ units fs
      zero_is = omega arith

  -- it goes into the gap, and its name is unused again
  pub taken_in : {e : ChainCells} → b.used ≡ false → e ≡ with_spare c count b.name
      → HasGap e m last (count + 1) x (record { before = fs; block = record g { size = g.size + b.size }; after = bs })
  taken_in {e} idle q =
      let nodes : e.nodes ≡ c.nodes = ap (λ (t : ChainCells). t.nodes) q ∙ nodes-with_spare c count b.name in
      let cells : length e.nodes ≡ length c.nodes = ap (λ (l : List Node). length l) nodes in
      let same : (k : ℕ) → node e k ≡ node c k = λ k. node_same c e k nodes in
      let spare = ap (λ (t : ChainCells). t.spare) q ∙ spare-with_spare c count b.name in
      let offset : (units fs + g.size) + b.size ≡ units fs + (g.size + b.size) = omega arith in
      record {
        memory = ap (λ (t : ChainCells). t.reserved) q ∙ reserved-with_spare c count b.name ∙ h.memory;
        within = omega (arith, cells, h.within);
        stack = ap (λ (l : List ℕ). length l) spare ∙ length-set c.spare count b.name ∙ h.stack ∙ sym cells;
        front = (_, IsRow-kept c e None 0 fs _ (λ k l. same k) h.front.1);
        back = (_, IsRow-kept c e _ _ bs None (λ k l. same k) (rw offset at h.back.1.1));
        ends = last_any last b.name bs h.ends;
        each = λ k. rw cells (omega (
          arith,
          h.each k,
          times-append k fs (g ∷ b ∷ bs),
          times-append k fs (record g { size = g.size + b.size } ∷ bs),
          pushed_names c e count b.name (room fs g (b ∷ bs) h) spare k,
        ));
        idle = λ k none. ap (λ (v : Node). v.used) (same k) ∙ elim (cases_eq k b.name) [
          | inl r ↦ rw r (next_used ∙ idle)
          | inr ne ↦ h.idle k (omega (
            arith,
            none,
            times-append k fs (g ∷ b ∷ bs),
            times-append k fs (record g { size = g.size + b.size } ∷ bs),
            one-other k b.name ne,
          ))
        ];
        full = omega (arith, cells, h.full, length-append fs (g ∷ b ∷ bs), length-append fs (record g { size = g.size + b.size } ∷ bs));
        fits = omega (arith, h.fits, units-append fs (g ∷ b ∷ bs), units-append fs (record g { size = g.size + b.size } ∷ bs));
        name = h.name;
        free = h.free;
        gone = ap (λ (v : Node). v.used) (same x) ∙ h.gone;
      }

-- the block is back in the chain
pub closed : {c w : ChainCells} (d : ChainCells) {e : ChainCells} {m last last' count x : ℕ} (fs : List Block) (g : Block) (cs : List Block)
    → HasGap c m last count x (record { before = fs; block = g; after = cs })
    → w ≡ put c x (record { offset = units fs; size = g.size; used = false; before = last_or None fs; after = first_or None cs })
    → IsRelinked (last_or None fs) (on_to x) w d → IsRelinked (first_or None cs) (back_to x) d e → MatchOption (first_or None cs) (last' ≡ x) (λ _. last' ≡ last)
    → HasPlace e m last' count x (record { before = fs; block = g; after = cs })
closed {c} {w} d {e} {m} {last} {last'} {count} {x} fs g cs h wr on back moved =
    let s = wrote wr (gap_below fs g cs h) in
    let once : (k : ℕ) → (count_named k fs + (one (nat_eq k g.name) + count_named k cs)) ≤ 1 = λ k. omega (arith, seen fs g cs h k) in
    let mine : one (nat_eq x g.name) ≡ 1 = one-eq x g.name h.name in
    let not_before : last_or None fs ≢ Some x = λ q. omega (arith, once x, mine, times-end x fs q) in
    let not_after : first_or None cs ≢ Some x = λ q. omega (arith, once x, mine, times-first x cs q) in
    let on_cells : length d.nodes ≡ length c.nodes = relinked_length (on_to x) w d (last_or None fs) on ∙ s.cells in
    let cells : length e.nodes ≡ length c.nodes = relinked_length (back_to x) d e (first_or None cs) back ∙ on_cells in
    let spare : e.spare ≡ c.spare = relinked_spare (back_to x) d e (first_or None cs) back ∙ relinked_spare (on_to x) w d (last_or None fs) on ∙ s.spare in
    let here : node e x ≡ record { offset = 0 + units fs; size = g.size; used = g.used; before = last_or None fs; after = first_or None cs } =
    relinked_other (back_to x) d e (first_or None cs) x back not_after ∙ relinked_other (on_to x) w d (last_or None fs) x on not_before ∙ s.here
    ∙ ap₂ (λ o u. record { offset = o; size = g.size; used = u; before = last_or None fs; after = first_or None cs }) (sym zero_is) (sym h.free) in
    let no_x : (k : ℕ) → 1 ≤ count_named k fs + count_named k cs → k ≢ x = λ k l q. omega (arith, once k, one-eq k g.name (h.name ∙ sym q)) in
    let front : IsRow e None 0 fs (Some x) = IsRow-aimed c e None 0 fs h.front.0 (Some x) (λ k. omega (arith, once k))
    (λ z q. relinked_other (back_to x) d e (first_or None cs) z back (λ r. omega (arith, once z, times-first z cs r, times-end z fs q))
    ∙ relinked_at (on_to x) w d (last_or None fs) z on q (rw s.cells (before_below fs g cs h z q)) ∙ ap (on_to x) (s.other z (no_x z (omega (arith, times-end z fs q)))))
    (λ k l ne. relinked_other (back_to x) d e (first_or None cs) k back (λ r. omega (arith, once k, l, times-first k cs r))
    ∙ relinked_other (on_to x) w d (last_or None fs) k on ne ∙ s.other k (no_x k (omega (arith, l)))) h.front.1 in
    let offset : units fs + g.size ≡ (0 + units fs) + g.size = omega arith in
    let last_row : IsRow e (Some x) ((0 + units fs) + g.size) cs None = IsRow-moved c e h.back.0 (Some x) _ cs None (λ k. omega (arith, once k))
    (λ z q. relinked_at (back_to x) d e (first_or None cs) z back q (rw on_cells (after_below fs g cs h z q))
    ∙ ap (back_to x) (relinked_other (on_to x) w d (last_or None fs) z on (λ r. omega (arith, once z, times-end z fs r, times-first z cs q))
    ∙ s.other z (no_x z (omega (arith, times-first z cs q)))))
    (λ k l ne. relinked_other (back_to x) d e (first_or None cs) k back ne ∙ relinked_other (on_to x) w d (last_or None fs) k on (λ r. omega (arith, once k, l, times-end k fs r))
    ∙ s.other k (no_x k (omega (arith, l)))) (rw offset at h.back.1) in
    placed (record {
      memory = relinked_memory (back_to x) d e (first_or None cs) back ∙ relinked_memory (on_to x) w d (last_or None fs) on ∙ s.memory ∙ h.memory;
      within = omega (arith, cells, h.within);
      stack = ap (λ (l : List ℕ). length l) spare ∙ h.stack ∙ sym cells;
      row = IsRow-append e None 0 fs (g ∷ cs) None (rw (← h.name) at front) (rw (← h.name) at here, rw (← h.name) at last_row);
      ends = last_or-append None fs (g ∷ cs) ∙ rw h.name (ended cs moved h.ends);
      each = λ k. rw cells (omega (arith, h.each k, kept_names c e count spare k));
      idle = λ k none.
          let no = times-append k fs (g ∷ cs) in
          ap (λ (v : Node). v.used) (relinked_other (back_to x) d e (first_or None cs) k back (λ r. omega (arith, none, no, times-first k cs r))
          ∙ relinked_other (on_to x) w d (last_or None fs) k on (λ r. omega (arith, none, no, times-end k fs r))
          ∙ s.other k (λ q. omega (arith, none, no, one-eq k g.name (h.name ∙ sym q)))) ∙ h.idle k none;
      full = omega (arith, cells, h.full);
      fits = h.fits;
    }) h.name
  where
    zero_is : 0 + units fs ≡ units fs
    zero_is = omega arith

    ended : (l : List Block) → MatchOption (first_or None l) (last' ≡ x) (λ _. last' ≡ last) → last_or (Some last) l ≡ Some last → last_or (Some x) l ≡ Some last'
    ended [] q r = ap (λ v. Some v) (sym q)
    ended (b ∷ l) q r = r ∙ ap (λ v. Some v) (sym q)

-- what the tables say of the block after the gap, whose name is y
module _ {A B : Type 0} {max : ℕ} {number : A → ℕ} {gap : Gap A B} {t : ChainCells} {m last count : ℕ} {p : Place} (i : IsGap max number gap t m last count p) {b : Block} {bs : List Block}
    (e : p.after ≡ b ∷ bs) {y : ℕ} (named : b.name ≡ y) where
  at_next : HasGap t m last count gap.name (record { before = p.before; block = p.block; after = b ∷ bs })
  at_next = follows i.there e

  pub met_below : y < length t.nodes
  met_below = subst (λ k. k < length t.nodes) named (next_below _ _ b bs at_next)

  pub met_short : {j k : ℕ} → j ≡ m → j < k → y < k
  met_short same few = let below = met_below in let within = i.there.within in omega (arith, below, within)

  pub met_sized : {n : ℕ} → n ≡ (node t y).size → n ≡ b.size
  met_sized cell = cell ∙ ap (λ k. (node t k).size) (sym named) ∙ next_node _ _ b bs at_next

  pub met_used : {u w : Bool} → u ≡ (node t y).used → u ≡ w → b.used ≡ w
  met_used cell is = sym (next_used _ _ b bs at_next) ∙ ap (λ k. (node t k).used) named ∙ sym cell ∙ is

  pub met_ends : gap.offset + gap.size < 2 ^ 32
  met_ends = let fits = next_fits _ _ b bs at_next in let o = i.offset in let s = i.size in omega (arith, fits, o, s)

  pub met_fits : {n : ℕ} → n ≡ (node t y).size → (gap.offset + gap.size) + n ≤ 4294967295
  met_fits cell = let fits = next_fits _ _ b bs at_next in let o = i.offset in let s = i.size in let n = met_sized cell in omega (arith, fits, o, s, n)
