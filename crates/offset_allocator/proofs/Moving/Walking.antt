-- How far the walk over a way has come that searches for the cheapest run.
use Rattle.offset_allocator.proofs.Common.{◌≡◌, ℕ, ◌+◌, ◌-◌, ◌*◌, ◌%◌, ◌^◌, ◌<◌, ◌≤◌, Bool, true, false, nat_eq, Option, None, Some, List, [], ◌∷◌, ◌++◌, length, drop, refl, sym, ap, subst, ◌∙◌, inl, inr, arith}
use Rattle.offset_allocator.proofs.Common.{append_assoc, append-nil, length-append, true≢false, Block, one, units, first_or, ChainCells, IsSpace, blocks, node}
use Rattle.offset_allocator.proofs.{Tallies.units-append, Moving.Runs.block_is}
use Rattle.offset_allocator.proofs.Moving.Searching.{HasNone, IsBest, alone_none, best_found, best_on, cost_is, drop_back, ends_same, last_of, no_run, none_on, none_turn, serve_steps, some_needed, steps_serve}
use Rattle.offset_allocator.proofs.Moving.Ways.{IsNext, next_on, on_way, way_alone, way_of, way_past}
use Rattle.offset_allocator.specs.Moving.RoomBySteps.{Serves}
use Rattle.offset_allocator.specs.Moving.Room.{IsRun, cost_of}
use Rattle.offset_allocator.specs.Moving.Spans.{AreSums, HasNoneAlone, HaveSteps, IsBetter, IsLeft, IsSpan, IsWay, head_of, link_on}
use Rattle.offset_allocator.specs.declared.moves.runs.Run.{Run}
use Rattle.offset_allocator.specs.declared.moves.runs.Span.{Span}
use Rattle.offset_allocator.specs.declared.moves.runs.Sums.{Sums}

-- the blocks that were met: those in `front` are left out, and the others are the span
pub record IsOn (back : Bool) (s want short : ℕ) (met : List Block) (h : Span) (known : Option Run) (start count : ℕ) : Type 0 where
  pub front : List Block
  pub bs : List Block
  pub is : met ≡ front ++ bs
  pub span : IsSpan s h bs
  pub best : IsBest back s want short front bs known
  pub none : HasNone s want short (drop 1 bs)
  pub counted : count ≡ start + 3 * length met + 3 * length front

-- the numbers of what is left of a span
pub left_sums : {s need few : ℕ} {h : Span} {bs : List Block} (l : IsLeft s need few h bs) → AreSums s h.sums (head_of h ∷ l.span.more)
left_sums {s} {need} {few} {h} l = subst (AreSums s h.sums) l.span.head l.span.sums

-- the run that a span is
abbrev pub run_on : Span → ℕ → Run
run_on h x = record { first = h.first; end = x; cost = record { units = h.sums.units; ranges = h.sums.ranges } }

module _ {back : Bool} {s want short : ℕ} {met : List Block} {h : Span} {known : Option Run} {start count : ℕ} (i : IsOn back s want short met h known start count) (b : Block) where
  grown : met ++ b ∷ [] ≡ i.front ++ (i.bs ++ b ∷ [])
  grown = ap (λ l. l ++ b ∷ []) i.is ∙ append_assoc i.front i.bs (b ∷ [])

  module _ {n : Sums} (sums : AreSums s n (i.bs ++ b ∷ [])) where
    pub spanned : IsSpan s (record h { sums = n }) (i.bs ++ b ∷ [])
    spanned = record { sums = sums; more = i.span.more ++ b ∷ []; head = ap (λ l. l ++ b ∷ []) i.span.head }

    pub turned_on : {count' : ℕ} → (b.used ≡ false → Serves s want short (i.bs ++ b ∷ []) → ⊥) → count' ≡ count + 3
        → IsOn back s want short (met ++ b ∷ []) (record h { sums = n }) known start count'
    turned_on few e = record {
      front = i.front;
      bs = i.bs ++ b ∷ [];
      is = grown;
      span = spanned;
      best = best_on back s want short i.front i.bs b few known i.best;
      none = none_on back s want short i.front i.bs b few i.none;
      counted = omega (arith, e, i.counted, length-append met (b ∷ []));
    }

  module _ (free : b.used ≡ false) {need few : ℕ} (need_is : need ≡ want - b.size % s) (few_is : few ≡ short - (1 - one (nat_eq (b.size % s) 0)))
      {h' : Span} (l : IsLeft s need few h' (i.bs ++ b ∷ [])) (tight : HaveSteps s need few l.span.more → ⊥) where
    -- the span that is left ends in the block
    ends : (bs : List Block) × (l.left ≡ bs ++ b ∷ []) × (i.bs ≡ l.gone ++ bs)
    ends = elim (last_of l.left) [
      | inl z ↦ absurd (let e = sym z ∙ l.span.head in cc)
      | inr k ↦
          let e = ends_same i.bs (l.gone ++ k.0) b k.1 (l.is ∙ ap (λ m. l.gone ++ m) k.2 ∙ sym (append_assoc l.gone k.0 (k.1 ∷ []))) in
          (k.0, k.2 ∙ ap (λ x. k.0 ++ x ∷ []) (sym e.1), e.0)
    ]

    abbrev bs : List Block
    bs = ends.0

    whole : bs ++ b ∷ [] ≡ head_of h' ∷ l.span.more
    whole = sym ends.1 ∙ l.span.head

    serves : Serves s want short (head_of h' ∷ l.span.more)
    serves = subst (Serves s want short) whole (steps_serve s want short b free need_is few_is bs (subst (HaveSteps s need few) ends.1 l.enough))

    shortest : Serves s want short l.span.more → ⊥
    shortest = go bs whole
      where
        go : (m : List Block) → m ++ b ∷ [] ≡ head_of h' ∷ l.span.more → Serves s want short l.span.more → ⊥
        go [] e k =
            let none : [] ≡ l.span.more = ap (drop 1) e in
            let z = subst (Serves s want short) (sym none) k in
            tight (subst (HaveSteps s need few) none (omega (arith, z.units, need_is), omega (arith, z.names, few_is)))
        go (y ∷ m) e k =
            let same : m ++ b ∷ [] ≡ l.span.more = ap (drop 1) e in
            tight (subst (HaveSteps s need few) same (serve_steps s want short b free need_is few_is m (subst (Serves s want short) (sym same) k)))

    pub turned_found : {count' x : ℕ} {r : Run} → b.name ≡ x → IsBetter back known (run_on h' x) r → count' ≡ count + 3 + 3 * length l.gone
        → IsOn back s want short (met ++ b ∷ []) h' (Some r) start count'
    turned_found {count'} {x} {r} name better e =
        let same : i.front ++ i.bs ≡ (i.front ++ l.gone) ++ bs = ap (λ m. i.front ++ m) ends.2 ∙ sym (append_assoc i.front l.gone bs) in
        let none : HasNone s want short (drop 1 bs) = λ run q k. i.none run (subst (λ m. IsRun run (drop 1 m)) (sym ends.2) (drop_back l.gone bs q)) k in
        let all = left_sums l in
        let cost : (run_on h' x).cost ≡ cost_of (head_of h' ∷ l.span.more) = cost_is (run_on h' x).cost (head_of h' ∷ l.span.more) all.units all.ranges in
        record {
          front = i.front ++ l.gone;
          bs = bs ++ b ∷ [];
          is = ap (λ m. m ++ b ∷ []) (i.is ∙ same) ∙ append_assoc (i.front ++ l.gone) bs (b ∷ []);
          span = record { sums = subst (AreSums s h'.sums) ends.1 l.span.sums; more = l.span.more; head = whole };
          best = best_found back s want short (i.front ++ l.gone) bs b free (head_of h') l.span.more whole serves shortest (run_on h' x) cost known i.front i.bs same i.best
              refl name none r better;
          none = none_turn s want short b bs none (λ y m f _ k. shortest (subst (Serves s want short) (ap (drop 1) (ap (λ m. m ++ b ∷ []) (sym f) ∙ whole)) k));
          counted = omega (arith, e, i.counted, length-append met (b ∷ []), length-append i.front l.gone);
        }

-- how far a walk over these blocks has come: to those in `rest`, to which `at` is the link
pub record IsWalking (back : Bool) (s want short : ℕ) (all : List Block) (h : Span) (known : Option Run) (at : Option ℕ) (start count : ℕ) : Type 0 where
  pub met : List Block
  pub rest : List Block
  pub is : all ≡ met ++ rest
  pub next : first_or None rest ≡ at
  pub on : IsOn back s want short met h known start count

-- at its end all blocks are met
pub all_met : {back : Bool} {s want short : ℕ} {all : List Block} {h : Span} {known : Option Run} {at : Option ℕ} {start count : ℕ} (i : IsWalking back s want short all h known at start count) → at ≡ None
    → all ≡ i.on.front ++ i.on.bs
all_met i e = i.is ∙ ap (λ l. i.met ++ l) (none_next i.rest (i.next ∙ e)) ∙ append-nil i.met ∙ i.on.is
  where
    none_next : (rest : List Block) → first_or None rest ≡ None → rest ≡ []
    none_next [] q = refl
    none_next (b ∷ rest) q = absurd (cc)

-- its first block, in the tables
pub begun : {c : ChainCells} {last spare : ℕ} (space : IsSpace c last spare) (back : Bool) (s want short : ℕ) → HasNoneAlone want short (blocks c last) → {x size : ℕ} {used : Bool} (n : IsNext c back (on_way back (blocks c last)) x)
    → size ≡ (node c x).size → used ≡ (node c x).used → {at : Option ℕ} → at ≡ link_on c back x → {m : Sums} → AreSums s m (n.block ∷ []) → {start count : ℕ} → count ≡ start + 3
    → IsWalking back s want short (on_way back (blocks c last)) (record { first = x; size = size; used = used; sums = m }) None at start count
begun {c} {last} space back s want short alone {x} {size} {used} n size_is used_is at_is sums e = record {
  met = n.block ∷ [];
  rest = n.rest;
  is = n.is;
  next = sym (at_is ∙ n.link);
  on = record {
    front = [];
    bs = n.block ∷ [];
    is = refl;
    span = record { sums = sums; more = []; head = ap (λ b. b ∷ []) (block_is n.block x size used n.name (size_is ∙ n.size) (used_is ∙ n.used)) };
    best = (refl, alone_none s want short n.block (way_alone back want short (blocks c last) alone [] n.rest n.block n.is));
    none = λ run r k. no_run run r;
    counted = omega (arith, e);
  };
}

-- the next block of a walk, in the tables
pub met_next : {c : ChainCells} {last spare : ℕ} (space : IsSpace c last spare) {back : Bool} {s want short : ℕ} {h : Span} {known : Option Run} {at : Option ℕ} {start count : ℕ}
    (i : IsWalking back s want short (on_way back (blocks c last)) h known at start count) {x : ℕ} → at ≡ Some x → IsNext c back i.rest x
met_next {c} space {back} i {x} e = next_on c back i.rest x (way_past c back i.met i.rest (subst (IsWay c back) i.is (way_of space back))) (i.next ∙ e)

-- a turn of the walk
module _ {c : ChainCells} {back : Bool} {s want short : ℕ} {all : List Block} {h : Span} {known : Option Run} {at : Option ℕ} {start count : ℕ} (i : IsWalking back s want short all h known at start count)
    {x : ℕ} (n : IsNext c back i.rest x) where
  pub turn_is : all ≡ (i.met ++ n.block ∷ []) ++ n.rest
  turn_is = i.is ∙ ap (λ l. i.met ++ l) n.is ∙ sym (append_assoc i.met (n.block ∷ []) n.rest)

  lengths : length all ≡ length i.met + 1 + length n.rest
  lengths = omega (arith, ap (λ (l : List Block). length l) turn_is, length-append (i.met ++ n.block ∷ []) n.rest, length-append i.met (n.block ∷ []))

  pub turn_fits : {size : ℕ} → n.block.size ≡ size → units all < 2 ^ 32 → length all < 2 ^ 32 → (bs : List Block) × AreSums s h.sums bs × (units bs + size < 2 ^ 32) × (length bs + 1 < 2 ^ 32)
  turn_fits sized few_units few =
      let o = i.on in (
        o.bs,
        o.span.sums,
        omega (arith, sized, few_units, ap units i.is, ap units n.is, units-append i.met i.rest, ap units o.is, units-append o.front o.bs),
        omega (arith, few, lengths, ap (λ (l : List Block). length l) o.is, length-append o.front o.bs),
      )

  pub turn_walks : {h' : Span} {known' : Option Run} {at' : Option ℕ} {count' : ℕ} → IsOn back s want short (i.met ++ n.block ∷ []) h' known' start count' → at' ≡ first_or None n.rest
      → IsWalking back s want short all h' known' at' start count'
  turn_walks on e = record { met = i.met ++ n.block ∷ []; rest = n.rest; is = turn_is; next = sym e; on = on }

  pub turn_way : IsWay c back all → IsWay c back ((i.on.bs ++ n.block ∷ []) ++ n.rest)
  turn_way way = way_past c back i.on.front ((i.on.bs ++ n.block ∷ []) ++ n.rest)
      (subst (IsWay c back) (turn_is ∙ ap (λ l. l ++ n.rest) (grown i.on n.block) ∙ append_assoc i.on.front (i.on.bs ++ n.block ∷ []) n.rest) way)

  turn_short : length (i.on.bs ++ n.block ∷ []) ≤ length all
  turn_short = omega (arith, lengths, ap (λ (l : List Block). length l) i.on.is, length-append i.on.front i.on.bs, length-append i.on.bs (n.block ∷ []))

  -- it has not met all blocks yet
  pub turn_left : count < start + 6 * length all
  turn_left = omega (arith, i.on.counted, lengths, ap (λ (l : List Block). length l) i.on.is, length-append i.on.front i.on.bs)

  -- as the tables say
  module _ {size : ℕ} {used : Bool} (size_is : size ≡ (node c x).size) (used_is : used ≡ (node c x).used) {m : Sums}
      (sums : (bs : List Block) (b : Block) → b.size ≡ size → b.used ≡ used → AreSums s h.sums bs → AreSums s m (bs ++ b ∷ [])) where
    all_sums : AreSums s m (i.on.bs ++ n.block ∷ [])
    all_sums = sums i.on.bs n.block (sym (size_is ∙ n.size)) (sym (used_is ∙ n.used)) i.on.span.sums

    pub turn_used : used ≡ true → {count' : ℕ} → count' ≡ count + 3 → IsOn back s want short (i.met ++ n.block ∷ []) (record h { sums = m }) known start count'
    turn_used live e = turned_on i.on n.block all_sums (λ f k. true≢false (sym (sym (used_is ∙ n.used) ∙ live) ∙ f)) e

    -- a free one
    module _ (idle : used ≡ false) {need few : ℕ} (need_is : need ≡ want - size % s) (few_is : few ≡ short - (1 - one (nat_eq (size % s) 0))) where
      free : n.block.used ≡ false
      free = sym (used_is ∙ n.used) ∙ idle

      need_of : need ≡ want - n.block.size % s
      need_of = need_is ∙ ap (λ k. want - k % s) (size_is ∙ n.size)

      few_of : few ≡ short - (1 - one (nat_eq (n.block.size % s) 0))
      few_of = few_is ∙ ap (λ k. short - (1 - one (nat_eq (k % s) 0))) (size_is ∙ n.size)

      pub turn_few : ((need ≤ m.whole) × (few ≤ m.names) → ⊥) → {count' : ℕ} → count' ≡ count + 3 → IsOn back s want short (i.met ++ n.block ∷ []) (record h { sums = m }) known start count'
      turn_few never e = turned_on i.on n.block all_sums (λ f k.
          let q = serve_steps s want short n.block f need_of few_of i.on.bs k in
          never (omega (arith, q.0, all_sums.whole), omega (arith, q.1, all_sums.names))) e

      pub turn_some : HasNoneAlone want short all → 1 ≤ need + few
      turn_some alone = some_needed s want short n.block free need_of few_of (alone i.met n.rest n.block (i.is ∙ ap (λ l. i.met ++ l) n.is) free)

      module _ (have : (need ≤ m.whole) × (few ≤ m.names)) where
        have_all : HaveSteps s need few (i.on.bs ++ n.block ∷ [])
        have_all = (omega (arith, have.0, all_sums.whole), omega (arith, have.1, all_sums.names))

        pub turn_place : IsWay c back all → {limit : ℕ} → length all ≤ limit
            → (bs rest : List Block) × IsWay c back (bs ++ rest) × IsSpan s (record h { sums = m }) bs × HaveSteps s need few bs × (length bs ≤ limit)
        turn_place way few = (i.on.bs ++ n.block ∷ [], n.rest, turn_way way, spanned i.on n.block all_sums, have_all, omega (arith, few, turn_short))

        pub turn_found : IsWay c back all → {h' : Span} {r : Run} {count₁ count' : ℕ}
            → ((bs rest : List Block) → IsWay c back (bs ++ rest) → IsSpan s (record h { sums = m }) bs → HaveSteps s need few bs
            → (l : IsLeft s need few h' bs) × (HaveSteps s need few l.span.more → ⊥) × (count' ≡ count₁ + 3 * length l.gone))
            → IsBetter back known (run_on h' x) r → count₁ ≡ count + 2 → IsOn back s want short (i.met ++ n.block ∷ []) h' (Some r) start (count' + 1) × (count₁ ≤ count')
        turn_found way shortened better e =
            let k = shortened (i.on.bs ++ n.block ∷ []) n.rest (turn_way way) (spanned i.on n.block all_sums) have_all in
            (turned_found i.on n.block free need_of few_of k.0 k.1 n.name better (omega (arith, e, k.2)), omega (arith, k.2))

-- a span that is left, with others behind it
module _ (c : ChainCells) (back : Bool) {s need few : ℕ} {h : Span} {bs : List Block} (rest : List Block) (way : IsWay c back (bs ++ rest)) (l : IsLeft s need few h bs) where
  pub left_way : IsWay c back (head_of h ∷ (l.span.more ++ rest))
  left_way = way_past c back l.gone (head_of h ∷ (l.span.more ++ rest))
      (subst (IsWay c back) (ap (λ m. m ++ rest) (l.is ∙ ap (λ m. l.gone ++ m) l.span.head) ∙ append_assoc l.gone (head_of h ∷ l.span.more) rest) way)

  module _ (some : 1 ≤ need + few) (have : HaveSteps s need few l.span.more) where
    pub left_more : None ≡ link_on c back h.first → ⊥
    left_more e = go l.span.more have (e ∙ left_way.3)
      where
        go : (m : List Block) → HaveSteps s need few m → None ≡ first_or None (m ++ rest) → ⊥
        go [] k q = absurd (omega (arith, some, k.0, k.1))
        go (b ∷ m) k q = absurd (cc)

    module _ {y : ℕ} (e : Some y ≡ link_on c back h.first) where
      pub left_next : IsNext c back (l.span.more ++ rest) y
      left_next = next_on c back (l.span.more ++ rest) y left_way.4 (sym (e ∙ left_way.3))

      pub one_less : {n : Sums} (m : ℕ) (v : Bool) → m ≡ (node c y).size → v ≡ (node c y).used → AreSums s n l.span.more
          → (k : IsLeft s need few (record { first = y; size = m; used = v; sums = n }) bs) × (length k.gone ≡ length l.gone + 1)
      one_less {n} m v sized used sums = (
        record {
          gone = l.gone ++ head_of h ∷ [];
          left = l.span.more;
          is = l.is ∙ ap (λ k. l.gone ++ k) l.span.head ∙ sym (append_assoc l.gone (head_of h ∷ []) l.span.more);
          span = go l.span.more have left_next.is sums;
          enough = have;
        },
        omega (arith, length-append l.gone (head_of h ∷ [])),
      )
        where
          go : (k : List Block) → HaveSteps s need few k → k ++ rest ≡ left_next.block ∷ left_next.rest → AreSums s n k → IsSpan s (record { first = y; size = m; used = v; sums = n }) k
          go [] q is a = absurd (omega (arith, some, q.0, q.1))
          go (b ∷ k) q is a =
              let same : b ≡ left_next.block = cc in
              record { sums = a; more = k; head = ap (λ x. x ∷ k) (same ∙ block_is left_next.block y m v left_next.name (sized ∙ left_next.size) (used ∙ left_next.used)) }
