-- The ways over the blocks of a space: on to the last one, or back to the first one, where runs are reversed.
use Rattle.offset_allocator.proofs.Common.{◌≡◌, ℕ, ◌<◌, Bool, true, false, not, Option, None, Some, List, [], ◌∷◌, ◌++◌, length, drop, if◌then◌else◌, refl, sym, ap, subst, ◌∙◌, inl, inr, arith}
use Rattle.offset_allocator.proofs.Common.{append_assoc, append-nil, reverse, reverse-append, true≢false, not-true, Block, units, starts_free, ends_used, first_or, last_or, tally}
use Rattle.offset_allocator.proofs.Common.{ChainCells, Node, node, IsChain, IsSpace, HasPlace, blocks}
use Rattle.offset_allocator.proofs.{Linking.Places.placed, Linking.Places.at_place, Linking.Rows.last_or-append, Tallies.tally_append, Tallies.units-append, Tallies.free_sum}
use Rattle.offset_allocator.proofs.{Moving.OneStep.given_one, Moving.Runs.ends_used-end, Moving.Searching.IsBest, Moving.Searching.cost_is, Moving.Searching.last_of}
use Rattle.std.proofs.lemmas.List.{length-reverse, reverse-reverse}
use Rattle.offset_allocator.specs.Moving.Room.{IsRun, IsAtMost, IsLess, cost_of}
use Rattle.offset_allocator.specs.Moving.RoomBySteps.{IsCheapestBy, Serves}
use Rattle.offset_allocator.specs.Moving.Spans.{HasNoneAlone, IsWay, in_space, link_on}
use Rattle.offset_allocator.specs.declared.moves.runs.Run.{Run}

-- the blocks on a way
abbrev pub on_way : Bool → List Block → List Block
on_way true bs = reverse bs
on_way false bs = bs

-- ---- reversed lists
reverse_one : (b : Block) (bs : List Block) → reverse (b ∷ bs) ≡ reverse bs ++ b ∷ []
reverse_one b bs = reverse-append (b ∷ []) bs

reverse_end : (bs : List Block) (b : Block) → reverse (bs ++ b ∷ []) ≡ b ∷ reverse bs
reverse_end bs b = reverse-append bs (b ∷ [])

tally_reverse : (f : Block → ℕ) (bs : List Block) → tally f (reverse bs) ≡ tally f bs
tally_reverse f [] = refl
tally_reverse f (b ∷ bs) = ap (tally f) (reverse_one b bs) ∙ tally_append f (reverse bs) (b ∷ []) ∙ omega (arith, tally_reverse f bs)

units_reverse : (bs : List Block) → units (reverse bs) ≡ units bs
units_reverse [] = refl
units_reverse (b ∷ bs) = ap units (reverse_one b bs) ∙ units-append (reverse bs) (b ∷ []) ∙ omega (arith, units_reverse bs)

last_reverse : (bs : List Block) → last_or None (reverse bs) ≡ first_or None bs
last_reverse [] = refl
last_reverse (b ∷ bs) = ap (last_or None) (reverse_one b bs) ∙ last_or-append None (reverse bs) (b ∷ [])

pub way_units : (back : Bool) (bs : List Block) → units (on_way back bs) ≡ units bs
way_units true bs = units_reverse bs
way_units false bs = refl

pub way_length : (back : Bool) (bs : List Block) → length (on_way back bs) ≡ length bs
way_length true bs = length-reverse bs
way_length false bs = refl

pub way_first : (back : Bool) (bs : List Block) (x : ℕ) → (if back then last_or None bs else first_or None bs) ≡ Some x → first_or None (on_way back bs) ≡ Some x
way_first true bs x e = sym (last_reverse (reverse bs)) ∙ ap (last_or None) (reverse-reverse bs) ∙ e
way_first false bs x e = e

pub way_alone : (back : Bool) (want short : ℕ) (bs : List Block) → HasNoneAlone want short bs → HasNoneAlone want short (on_way back bs)
way_alone true want short bs h front rest b e =
    h (reverse rest) (reverse front) b (sym (reverse-reverse bs) ∙ ap reverse e ∙ reverse-append front (b ∷ rest) ∙ ap (λ l. l ++ reverse front) (reverse_one b rest) ∙ append_assoc (reverse rest) (b ∷ []) (reverse front))
way_alone false want short bs h front rest b e = h front rest b e

-- ---- the ways of a space
module _ {c : ChainCells} {last spare : ℕ} (space : IsSpace c last spare) where
  there : (before : List Block) (b : Block) (after : List Block) → blocks c last ≡ before ++ b ∷ after → HasPlace c c.reserved last spare b.name (record { before = before; block = b; after = after })
  there before b after e = placed (subst (IsChain c c.reserved last spare) e space) refl

  way_on : (before bs : List Block) → blocks c last ≡ before ++ bs → IsWay c false bs
  way_on before [] e = tt
  way_on before (b ∷ bs) e =
      let h = there before b bs e in
      let at = at_place h in
      (h.below, ap (λ (n : Node). n.size) at, ap (λ (n : Node). n.used) at, ap (λ (n : Node). n.after) at, way_on (before ++ b ∷ []) bs (e ∙ sym (append_assoc before (b ∷ []) bs)))

  way_back : (bs after : List Block) → blocks c last ≡ reverse bs ++ after → IsWay c true bs
  way_back [] after e = tt
  way_back (b ∷ bs) after e =
      let is : blocks c last ≡ reverse bs ++ b ∷ after = e ∙ ap (λ l. l ++ after) (reverse_one b bs) ∙ append_assoc (reverse bs) (b ∷ []) after in
      let h = there (reverse bs) b after is in
      let at = at_place h in
      (h.below, ap (λ (n : Node). n.size) at, ap (λ (n : Node). n.used) at, ap (λ (n : Node). n.before) at ∙ last_reverse bs, way_back bs (b ∷ after) is)

  pub way_of : (back : Bool) → IsWay c back (on_way back (blocks c last))
  way_of false = way_on [] (blocks c last) refl
  way_of true = way_back (reverse (blocks c last)) [] (sym (append-nil (reverse (reverse (blocks c last))) ∙ reverse-reverse (blocks c last)))

-- the next block on a way, in the tables
pub record IsNext (c : ChainCells) (back : Bool) (bs : List Block) (x : ℕ) : Type 0 where
  pub block : Block
  pub rest : List Block
  pub is : bs ≡ block ∷ rest
  pub name : block.name ≡ x
  pub below : x < length c.nodes
  pub size : (node c x).size ≡ block.size
  pub used : (node c x).used ≡ block.used
  pub link : link_on c back x ≡ first_or None rest

pub next_on : (c : ChainCells) (back : Bool) (bs : List Block) (x : ℕ) → IsWay c back bs → first_or None bs ≡ Some x → IsNext c back bs x
next_on c back [] x w e = absurd (cc)
next_on c back (b ∷ bs) x w e =
    let name : b.name ≡ x = cc in
    subst (IsNext c back (b ∷ bs)) name (record { block = b; rest = bs; is = refl; name = refl; below = w.0; size = w.1; used = w.2; link = w.3 })

pub way_past : (c : ChainCells) (back : Bool) (met bs : List Block) → IsWay c back (met ++ bs) → IsWay c back bs
way_past c back [] bs w = w
way_past c back (m ∷ met) bs w = way_past c back met bs w.4

-- ---- runs on a way back
mirror : {run bs : List Block} → IsRun run bs → IsRun (reverse run) (reverse bs)
mirror {run} {bs} r = record {
  front = reverse r.back;
  back = reverse r.front;
  is = ap reverse r.is ∙ reverse-append r.front (run ++ r.back) ∙ ap (λ l. l ++ reverse r.front) (reverse-append run r.back) ∙ append_assoc (reverse r.back) (reverse run) (reverse r.front);
  begins = elim (last_of run) [
    | inl z ↦ absurd (true≢false (sym r.begins ∙ ap starts_free z))
    | inr h ↦ ap (λ l. starts_free (reverse l)) h.2 ∙ ap starts_free (reverse_end h.0 h.1) ∙ ap not (sym (ends_used-end h.0 h.1) ∙ sym (ap ends_used h.2) ∙ r.ends)
  ];
  ends = go run r.begins;
}
  where
    go : (l : List Block) → starts_free l ≡ true → ends_used (reverse l) ≡ false
    go [] s = refl
    go (b ∷ l) s = ap ends_used (reverse_one b l) ∙ ends_used-end (reverse l) b ∙ not-true b.used s

mirror_back : {run bs : List Block} → IsRun run (reverse bs) → IsRun (reverse run) bs
mirror_back {run} {bs} r = subst (IsRun (reverse run)) (reverse-reverse bs) (mirror r)

mirror_serves : {want : ℕ} (run : List Block) → Serves 1 want 0 run → Serves 1 want 0 (reverse run)
mirror_serves run h = record {
  units = omega (arith, h.units, given_one run, given_one (reverse run), free_sum run, free_sum (reverse run), tally_reverse (λ (b : Block). if b.used then 0 else b.size) run);
  names = omega arith;
}

mirror_cost : (run : List Block) → cost_of (reverse run) ≡ cost_of run
mirror_cost run = cost_is (cost_of (reverse run)) run (tally_reverse _ run) (tally_reverse _ run)

-- what is known at the end
module _ (s want short : ℕ) (front bs : List Block) where
  on_is : (known : Option Run) → IsBest false s want short front bs known → IsCheapestBy s want short (front ++ bs) known
  on_is None h = h.1
  on_is (Some r) h = (
    (
      h.block ∷ h.rest,
      record { front = h.before; back = h.after; is = h.is; begins = ap not h.idle; ends = ap ends_used h.split ∙ ends_used-end h.init h.last ∙ h.free },
      h.serves,
      h.cost,
      ap (λ n. Some n) h.first,
      ap (last_or None) h.split ∙ last_or-append None h.init (h.last ∷ []) ∙ ap (λ n. Some n) h.end,
      h.later refl,
    ),
    h.least,
  )

module _ (want : ℕ) (front bs all : List Block) (is : front ++ bs ≡ reverse all) where
  back_is : (known : Option Run) → IsBest true 1 want 0 front bs known → IsCheapestBy 1 want 0 all (in_space true known)
  unfolding mirror
  back_is None h = λ run r k. h.1 (reverse run) (subst (IsRun (reverse run)) (sym is) (mirror r)) (mirror_serves run k)
  back_is (Some r) h =
      let run = h.block ∷ h.rest in
      let here : IsRun run (front ++ bs) = record { front = h.before; back = h.after; is = h.is; begins = ap not h.idle; ends = ap ends_used h.split ∙ ends_used-end h.init h.last ∙ h.free } in
      let m = mirror here in
      let turned : reverse run ≡ h.last ∷ reverse h.init = ap reverse h.split ∙ reverse_end h.init h.last in
      let past : drop 1 (reverse run ++ reverse h.before) ≡ reverse (h.before ++ h.init) = ap (λ l. drop 1 (l ++ reverse h.before)) turned ∙ sym (reverse-append h.before h.init) in (
        (
          reverse run,
          record { front = m.front; back = m.back; is = sym (reverse-reverse all) ∙ ap reverse (sym is) ∙ m.is; begins = m.begins; ends = m.ends },
          mirror_serves run h.serves,
          h.cost ∙ sym (mirror_cost run),
          ap (first_or None) turned ∙ ap (λ n. Some n) h.end,
          last_reverse run ∙ ap (λ n. Some n) h.first,
          λ other o k. subst (IsLess r.cost) (mirror_cost other) (h.sooner refl (reverse other) (mirror_back (subst (IsRun other) past o)) (mirror_serves other k)),
        ),
        λ other o k. subst (IsAtMost r.cost) (mirror_cost other) (h.least (reverse other) (subst (IsRun (reverse other)) (sym is) (mirror o)) (mirror_serves other k)),
      )

pub best_is : (back : Bool) (s want short : ℕ) (front bs all : List Block) → front ++ bs ≡ on_way back all → (back ≡ true → (s ≡ 1) × (short ≡ 0)) → (known : Option Run) → IsBest back s want short front bs known
    → IsCheapestBy s want short all (in_space back known)
best_is false s want short front bs all is single None h = subst (λ l. IsCheapestBy s want short l None) is (on_is s want short front bs None h)
best_is false s want short front bs all is single (Some r) h = subst (λ l. IsCheapestBy s want short l (Some r)) is (on_is s want short front bs (Some r) h)
best_is true s want short front bs all is single known h =
    let e = single refl in
    subst (λ i. IsCheapestBy i want short all (in_space true known)) (sym e.0) (subst (λ i. IsCheapestBy 1 want i all (in_space true known)) (sym e.1) (back_is want front bs all is known
    (subst (λ i. IsBest true 1 want i front bs known) e.1 (subst (λ i. IsBest true i want short front bs known) e.0 h))))
