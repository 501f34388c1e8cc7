-- Releases in a row: the reply to the call after them.
use Rattle.offset_calls.proofs.Common.{◌≡◌, ℕ, ◌+◌, ◌-◌, ◌≤◌, Bool, not, ◌&&◌, ◌||◌, List, [], ◌∷◌, sum, Option, None, nat_eq, nat_le, if◌then◌else◌, refl, sym, ap, ap₂, subst₂, ◌∙◌, inl, inr}
use Rattle.offset_calls.proofs.Common.{IsCollapse, collapse, outline, releases, State, start, is_short_of, place_of, Call, Answer, Compacted, Offset, Refusal, Outcome, resize, number, moves}
use Rattle.offset_calls.proofs.Common.{offset_at, reason, step, after, without_offset, arith, ◌⊎◌, false, option_map, subst, Some, is_some, true≢false, false≢true, Nodes, total, free_sizes}
use Rattle.offset_calls.proofs.{Common.chosen_place, Common.◌++◌, Alike.same_starts, Alike.same_free_start, Followed.well_calls}
use Rattle.offset_script.proofs.Commute.{IsSameSpace, releases_outline, releases_scalars, same_next, same_number, some_same, same_granted}
use Rattle.offset_script.proofs.Pairs.{Kind, Lives, Frees, Pair, left_tag, right_tag, left, right, lefts, rights, IsSamePlace, neither, both, same_free, same_total, same_units, same_short}
use Rattle.offset_script.proofs.{Pairs.same_free_sizes, Pairs.same_place_of, Members.IsIn, Similar.HasSameNumber, Similar.paired, Tests.if_same, Well.well_start, Members.in_parts, Members.in_left}
use Rattle.offset_script.proofs.Members.{in_right}
use Rattle.offset_allocator.specs.{View.padding_to, Classes.value, Classes.up, declared.moves.room.RoomCost.RoomCost}
use Rattle.std.specs.Option.{option_or}
use Rattle.offset_calls.specs.{Calls.answered, Calls.Found, Calls.beside, Calls.make_room, Calls.RoomMade, Ending.first_live, Ending.last_live, Ending.live_before}
use Rattle.offset_calls.specs.Calls as plain
use Rattle.offset_calls.specs.{Ending.live_after, Histories.goes_by_begin, Room.Split, Room.cheapest}
use Rattle.offset_calls.specs.declared.calls.LiveRange.{LiveRange}
use Rattle.offset_calls.proofs.SteppedPairs.{kept_right, used_pairs}
use Rattle.offset_calls.specs.{Stepped.kept, Stepped.first_run, Stepped.to_the_end, Budget.is_within, Budget.longest_that}
use Rattle.offset_calls.specs.Calls.{moves_by, moves_of_run, slides_run, compact_by, compact_within, make_room_by}
use Rattle.offset_calls.proofs.EndPairs.{same_free_end, IsSent, AreSent, sent, sent_first, sent_last}
use Rattle.offset_calls.specs.Tight.{holds, better, holding_place, request_tight, allocate_tight, lack, reason_held}
use Rattle.offset_calls.proofs.Splits.{IsSameSplit, no_split, same_split, same_cost, same_cheapest, same_room_cost, same_cheapest_by, same_to_the_end, same_within, same_goes_on}
use Rattle.offset_calls.specs.AtOffset.{last_place, request_at}
use Rattle.offset_calls.proofs.AtPairs.{same_last_place, same_can_take}
use Rattle.std.specs.Prelude.{min}
use Rattle.offset_script.specs.Histories as script
use Rattle.offset_script.specs.Machine as machine
use Rattle.offset_calls.specs.declared.calls.Call.TheVariants as call

same_moved : (k : Kind) → HasSameNumber k → number (left_tag k) ≡ number (right_tag k)
same_moved (Lives i j) e = e
same_moved (Frees s u) e = refl

same_moves : (from to : ℕ) (ps : List Pair) → ((q : Pair) → IsIn q ps → HasSameNumber q.kind) → moves from to (lefts ps) ≡ moves from to (rights ps)
same_moves from to [] h = refl
same_moves from to (q ∷ ps) h =
    let stay = same_moves (from + q.size) to ps (λ x i. h x (inr i)) in
    let move = same_moves (from + q.size) (to + q.size) ps (λ x i. h x (inr i)) in
    search (arith, stay, move, same_free, (same_moved q.kind (h q (inl refl))))

same_moves_by : (n from to : ℕ) (ps : List Pair) → ((q : Pair) → IsIn q ps → HasSameNumber q.kind) → moves_by n from to (lefts ps) ≡ moves_by n from to (rights ps)
same_moves_by n from to [] h = refl
same_moves_by n from to (q ∷ ps) h =
    let stay = same_moves_by n (from + q.size) (to + kept n q.size (lefts ps)) ps (λ x i. h x (inr i)) in
    let move = same_moves_by n (from + q.size) (to + q.size) ps (λ x i. h x (inr i)) in
    let more = ap (λ k. moves_by n (from + q.size) (to + k) (rights ps)) (kept_right n q.size ps) in
    search (arith, stay, move, more, same_free, (same_moved q.kind (h q (inl refl))))

some_better : (x : Bool) (b : machine.Block) (bs : List machine.Block) (o : Option machine.Place) → is_some (better x b bs o) ≡ (x || is_some o)
some_better x b bs None = search (arith, is_some)
some_better x b bs (Some p) = search (arith, is_some)

module _ (s t : State) (a : IsSameSpace s t) where
  short : (k : ℕ) → is_short_of k s ≡ is_short_of k t
  short k = same_short s t a.blocks.pairs a.limit a.blocks.left_blocks a.blocks.right_blocks k

  placed : (k : ℕ) → IsSamePlace (λ q. Unit {0}) a.blocks.pairs (place_of k s.blocks) (place_of k t.blocks)
  placed k = subst₂ (λ x y. IsSamePlace (λ q. Unit {0}) a.blocks.pairs (place_of k x) (place_of k y)) (sym a.blocks.left_blocks) (sym a.blocks.right_blocks)
      (same_place_of k k a.blocks.pairs (λ q i. same_number k q.kind (a.blocks.numbers q i)))

  resize_reply : (n : ℕ) (can can' : machine.Place → Bool) (o o' : Option machine.Place) → IsSamePlace (λ q. Unit {0}) a.blocks.pairs o o' → ((xs : List Pair) (q : Pair) (ys : List Pair)
      → can (record { before = lefts xs; block = left q; after = lefts ys }) ≡ can' (record { before = rights xs; block = right q; after = rights ys }))
      → without_offset (resize can n s o).reply ≡ without_offset (resize can' n t o').reply
  resize_reply n can can' None None neither same = refl
  resize_reply n can can' o o' (both xs q ys e f) same = if_same (λ (x y : Outcome). without_offset x.reply ≡ without_offset y.reply) (nat_eq n q.size) (nat_eq n q.size) _ _ _ _ refl (λ z. refl)
      (if_same (λ (x y : Outcome). without_offset x.reply ≡ without_offset y.reply) _ _ _ _ _ _ (same xs q ys) (λ z. refl) refl)

  offset_reply : (o o' : Option machine.Place) → IsSamePlace (λ q. Unit {0}) a.blocks.pairs o o' → offset_at o ≡ offset_at o'
  offset_reply None None neither = refl
  offset_reply o o' (both xs q ys e f) = ap Offset (same_total xs)

  reason_reply : (k n : ℕ) → reason k n s ≡ reason k n t
  reason_reply k n = search (arith, short, some_same, same_units, same_free_sizes, sum)

  -- a request that takes any free block which holds it
  held_some : (n align o : ℕ) (ps : List Pair) → is_some (holding_place n align o (lefts ps)) ≡ is_some (holding_place n align o (rights ps))
  held_some n align o [] = refl
  held_some n align o (q ∷ ps) =
      some_better (holds n align o (left q)) (left q) (lefts ps) (holding_place n align (o + q.size) (lefts ps))
      ∙ ap₂ (λ x y. (x && nat_le (padding_to align o + n) q.size) || y) (same_free q.kind) (held_some n align (o + q.size) ps)
      ∙ sym (some_better (holds n align o (right q)) (right q) (rights ps) (holding_place n align (o + q.size) (rights ps)))

  some_either : (o p o' p' : Option machine.Place) → is_some o ≡ is_some o' → is_some p ≡ is_some p' → is_some (option_or o p) ≡ is_some (option_or o' p')
  some_either None p None p' e f = f
  some_either (Some x) p (Some x') p' e f = refl
  some_either None p (Some x') p' e f = absurd (false≢true e)
  some_either (Some x) p None p' e f = absurd (true≢false e)

  held_same : (n align : ℕ) → is_some (holding_place n align 0 s.blocks) ≡ is_some (holding_place n align 0 t.blocks)
  held_same n align = ap (λ bs. is_some (holding_place n align 0 bs)) a.blocks.left_blocks ∙ held_some n align 0 a.blocks.pairs
      ∙ sym (ap (λ bs. is_some (holding_place n align 0 bs)) a.blocks.right_blocks)

  chosen_same : (n : ℕ) → is_some (chosen_place n s.blocks) ≡ is_some (chosen_place n t.blocks)
  chosen_same n = ap (λ bs. is_some (chosen_place n bs)) a.blocks.left_blocks ∙ some_same n a.blocks.pairs ∙ sym (ap (λ bs. is_some (chosen_place n bs)) a.blocks.right_blocks)

  request_reply : (spare needed n align : ℕ) → script.without_offset (request_tight s spare needed n align).answer ≡ script.without_offset (request_tight t spare needed n align).answer
  request_reply spare needed n align = if_same (λ (x y : machine.Outcome). script.without_offset x.answer ≡ script.without_offset y.answer) _ _ _ _ _ _ (short spare) (λ e. refl)
      (same_granted s t a.grants n (padding_to align) _ _ (some_either _ _ _ _ (chosen_same needed) (held_same n align)))

  tight_reply : (n align : ℕ) → without_offset (answered (allocate_tight n align s)).reply ≡ without_offset (answered (allocate_tight n align t)).reply
  tight_reply n align = ap Answer (if_same (λ (x y : machine.Outcome). script.without_offset x.answer ≡ script.without_offset y.answer) (nat_le align 1) (nat_le align 1) _ _ _ _ refl
      (λ e. request_reply 1 n n align) (request_reply 2 (n + align - 1) n align))

  -- a request for the units from an offset on
  last_places : (offset : ℕ) → IsSamePlace (λ q. Unit {0}) a.blocks.pairs (last_place offset 0 s.blocks) (last_place offset 0 t.blocks)
  last_places offset = subst₂ (λ x y. IsSamePlace (λ q. Unit {0}) a.blocks.pairs (last_place offset 0 x) (last_place offset 0 y)) (sym a.blocks.left_blocks) (sym a.blocks.right_blocks)
      (same_last_place offset 0 a.blocks.pairs)

  at_reply : (offset n : ℕ) (o o' : Option machine.Place) → IsSamePlace (λ q. Unit {0}) a.blocks.pairs o o'
      → script.without_offset (request_at offset n s o).answer ≡ script.without_offset (request_at offset n t o').answer
  at_reply offset n None None neither = refl
  at_reply offset n o o' (both xs q ys e f) = if_same (λ (x y : machine.Outcome). script.without_offset x.answer ≡ script.without_offset y.answer) _ _ _ _ _ _ (same_can_take offset n s t short xs q ys)
      (λ z. same_granted s t a.grants n (λ begin. offset - begin) (Some (record { before = lefts xs; block = left q; after = lefts ys })) (Some (record { before = rights xs; block = right q; after = rights ys })) refl)
      refl

  held_reason : (k n align : ℕ) → reason_held k n align s ≡ reason_held k n align t
  held_reason k n align =
      let units = same_units s t a.blocks.pairs a.limit a.blocks.left_blocks a.blocks.right_blocks in
      let free = ap sum (same_free_sizes s t a.blocks.pairs a.limit a.blocks.left_blocks a.blocks.right_blocks) in
      ap₂ (λ b h. if b then Some Nodes else if h then None else Some (lack n (total s.blocks) (sum (free_sizes s.blocks)))) (short k) (held_same n align)
      ∙ ap₂ (λ m f. if is_short_of k t then Some Nodes else if is_some (holding_place n align 0 t.blocks) then None else Some (lack n m f)) units free

  -- making room
  runs_same : (want : ℕ) → IsSameSplit a.blocks.pairs (cheapest want s.blocks) (cheapest want t.blocks)
  runs_same want = subst₂ (λ x y. IsSameSplit a.blocks.pairs (cheapest want x) (cheapest want y)) (sym a.blocks.left_blocks) (sym a.blocks.right_blocks) (same_cheapest want a.blocks.pairs)

  made_reply : (o o' : Option Split) → IsSameSplit a.blocks.pairs o o' → (make_room s o).reply ≡ (make_room t o').reply
  made_reply None None no_split = refl
  made_reply o o' (same_split f r b e) = if_same (λ (x y : Outcome). x.reply ≡ y.reply) _ _ _ _ _ _ (ap (λ (c : RoomCost). nat_eq c.ranges 0) (same_cost r))
      (λ z. ap (λ c. RoomMade (Some c) []) (same_cost r))
      (ap₂ (λ c l. RoomMade (Some c) l) (same_cost r)
      (same_moves (total (lefts f)) (total (lefts f)) r (λ q i. a.blocks.numbers q (subst (IsIn q) (sym e) (in_right q f (r ++ b) (in_left q r b i))))
      ∙ ap (λ n. moves n n (rights r)) (same_total f)))

  -- sliding by whole steps
  both_sides : (find : List machine.Block → Option Split) → IsSameSplit a.blocks.pairs (find (lefts a.blocks.pairs)) (find (rights a.blocks.pairs)) → IsSameSplit a.blocks.pairs (find s.blocks) (find t.blocks)
  both_sides find h = subst₂ (λ x y. IsSameSplit a.blocks.pairs (find x) (find y)) (sym a.blocks.left_blocks) (sym a.blocks.right_blocks) h

  run_moves_same : (n : ℕ) (f k b : List Pair) → a.blocks.pairs ≡ f ++ (k ++ b)
      → moves_of_run n (record { front = lefts f; run = lefts k; back = lefts b }) ≡ moves_of_run n (record { front = rights f; run = rights k; back = rights b })
  run_moves_same n f k b e = same_moves_by n (total (lefts f)) (total (lefts f)) k (λ q i. a.blocks.numbers q (subst (IsIn q) (sym e) (in_right q f (k ++ b) (in_left q k b i))))
      ∙ ap (λ m. moves_by n m m (rights k)) (same_total f)

  slides_reply : (n : ℕ) (x y : plain.Reply) (f k b : List Pair) → x ≡ y → without_offset (slides_run n s x (record { front = lefts f; run = lefts k; back = lefts b })).reply
      ≡ without_offset (slides_run n t y (record { front = rights f; run = rights k; back = rights b })).reply
  slides_reply n x y f k b is = if_same (λ (x y : Outcome). without_offset x.reply ≡ without_offset y.reply) _ _ _ _ _ _ (ap₂ (λ (x y : Bool). x && y) (ap (λ u. nat_eq u 0) (used_pairs n k)) (short 1)) (λ e. refl)
      (ap without_offset is)

  stepped_reply : (n : ℕ) (o o' : Option Split) → IsSameSplit a.blocks.pairs o o' → without_offset (compact_by n s o).reply ≡ without_offset (compact_by n t o').reply
  stepped_reply n None None no_split = refl
  stepped_reply n o o' (same_split f k b e) = slides_reply n _ _ f k b
      (ap Compacted (ap (moves_by n 0 0) a.blocks.left_blocks ∙ same_moves_by n 0 0 a.blocks.pairs a.blocks.numbers ∙ ap (moves_by n 0 0) (sym a.blocks.right_blocks)))

  within_reply : (n : ℕ) (o o' : Option Split) → IsSameSplit a.blocks.pairs o o' → without_offset (compact_within n s o).reply ≡ without_offset (compact_within n t o').reply
  within_reply n None None no_split = refl
  within_reply n o o' (same_split f k b e) = slides_reply n _ _ f k b (ap₂ (λ p l. plain.CompactedWithin p l) (same_goes_on f k b) (run_moves_same n f k b e))

  made_by_reply : (n : ℕ) (o o' : Option Split) → IsSameSplit a.blocks.pairs o o' → (make_room_by n s o).reply ≡ (make_room_by n t o').reply
  made_by_reply n None None no_split = refl
  made_by_reply n o o' (same_split f k b e) = if_same (λ (x y : Outcome). x.reply ≡ y.reply) _ _ _ _ _ _ (ap (λ (c : RoomCost). nat_eq c.ranges 0) (same_cost k))
      (λ z. ap (λ c. RoomMade (Some c) []) (same_cost k)) (ap₂ (λ c l. RoomMade (Some c) l) (same_cost k) (run_moves_same n f k b e))

  sent_same : (k : Kind) → HasSameNumber k → IsSent (λ n. n) k
  sent_same (Lives i j) e = e
  sent_same (Frees x y) e = tt

  sent_all : AreSent (λ n. n) a.blocks.pairs
  sent_all q i = sent_same q.kind (a.blocks.numbers q i)

  sent_none : (r : Option LiveRange) → option_map (sent (λ n. n)) r ≡ r
  sent_none None = refl
  sent_none (Some r) = refl

  beside_reply : (f : machine.Place → Option LiveRange)
      → ((xs : List Pair) (q : Pair) (ys : List Pair) → ((x : Pair) → IsIn x xs ⊎ IsIn x ys → IsIn x a.blocks.pairs)
      → f (record { before = lefts xs; block = left q; after = lefts ys }) ≡ f (record { before = rights xs; block = right q; after = rights ys }))
      → (o o' : Option machine.Place) → IsSamePlace (λ q. Unit {0}) a.blocks.pairs o o' → without_offset (beside f o) ≡ without_offset (beside f o')
  beside_reply f same None None neither = refl
  beside_reply f same o o' (both xs q ys e u) = ap Found (same xs q ys (λ x i. subst (IsIn x) (sym e) (in_parts x xs q ys i)))

  next_reply : (c : Call) → goes_by_begin c ≡ false → without_offset (step c s).reply ≡ without_offset (step c t).reply
  next_reply (call.Command c) other = ap Answer (same_next s t a c)
  next_reply (call.Shrink k n) other = resize_reply n _ _ _ _ (placed k) (λ xs q ys. ap₂ (λ x y. nat_le n q.size && (x || not y)) (same_starts ys) (short 1))
  next_reply (call.Grow k n) other = resize_reply n _ _ _ _ (placed k) (λ xs q ys. ap (λ f. nat_le q.size n && nat_le n (q.size + f)) (same_free_start ys))
  next_reply call.Compact other = ap Compacted (ap (moves 0 0) a.blocks.left_blocks ∙ same_moves 0 0 a.blocks.pairs a.blocks.numbers ∙ ap (moves 0 0) (sym a.blocks.right_blocks))
  next_reply (call.CompactBy n) other = stepped_reply n _ _ (both_sides (first_run to_the_end n 0 0) (same_to_the_end n 0 0 a.blocks.pairs))
  next_reply (call.CompactWithin n from u m) other = within_reply n _ _ (both_sides (first_run (longest_that (is_within u m)) n from 0) (same_within u m n from 0 a.blocks.pairs))
  next_reply (call.Offset k) other = ap without_offset (offset_reply _ _ (placed k))
  next_reply (call.Refusal n) other = ap Refusal (reason_reply 1 n)
  next_reply (call.AllocateTight n) other = tight_reply n 1
  next_reply (call.AllocateTightAligned n align) other = tight_reply n align
  next_reply (call.AllocateAt offset n) other = ap Answer (at_reply offset n _ _ (last_places offset))
  next_reply (call.RefusalTight n) other = ap Refusal (held_reason 1 n 1)
  next_reply (call.RefusalTightAligned n align) other = ap Refusal (held_reason (if nat_le align 1 then 1 else 2) n align)
  next_reply (call.WouldBegin n align) other = absurd (true≢false other)
  next_reply (call.MakeRoom n) other = ap without_offset (made_reply _ _ (runs_same (value (up n))))
  next_reply (call.MakeRoomBy n align m) other = ap without_offset
      (made_by_reply m _ _ (same_cheapest_by s t a.blocks.pairs a.limit a.blocks.left_blocks a.blocks.right_blocks m (value (up (n + align - 1))) (min align 2)))
  next_reply (call.RoomCost n) other = ap plain.RoomCost (same_room_cost a.blocks.pairs _ _ (runs_same (value (up n))))
  next_reply (call.RoomCostBy n align m) other = ap plain.RoomCost
      (same_room_cost a.blocks.pairs _ _ (same_cheapest_by s t a.blocks.pairs a.limit a.blocks.left_blocks a.blocks.right_blocks m (value (up (n + align - 1))) (min align 2)))
  next_reply (call.Relocate k) other = absurd (true≢false other)
  next_reply (call.RelocateAligned k align) other = absurd (true≢false other)
  next_reply (call.Retract n) other = if_same (λ (x y : Outcome). without_offset x.reply ≡ without_offset y.reply) _ _ _ _ _ _
      (ap (nat_le n) (ap machine.units_at_end a.blocks.left_blocks ∙ same_free_end a.blocks.pairs ∙ ap machine.units_at_end (sym a.blocks.right_blocks))) (λ z. refl) refl
  next_reply call.FirstLive other = ap Found (ap (first_live 0) a.blocks.left_blocks ∙ sent_first (λ n. n) 0 a.blocks.pairs sent_all ∙ sent_none (first_live 0 (rights a.blocks.pairs))
      ∙ ap (first_live 0) (sym a.blocks.right_blocks))
  next_reply call.LastLive other = ap Found (ap (last_live 0) a.blocks.left_blocks ∙ sent_last (λ n. n) 0 a.blocks.pairs sent_all ∙ sent_none (last_live 0 (rights a.blocks.pairs))
      ∙ ap (last_live 0) (sym a.blocks.right_blocks))
  next_reply (call.LiveBefore k) other = beside_reply live_before (λ xs q ys i. sent_last (λ n. n) 0 xs (λ x j. sent_all x (i x (inl j))) ∙ sent_none (last_live 0 (rights xs))) _ _ (placed k)
  next_reply (call.LiveAfter k) other = beside_reply live_after
      (λ xs q ys i. sent_first (λ n. n) (total (lefts xs) + q.size) ys (λ x j. sent_all x (i x (inr j))) ∙ sent_none (first_live (total (lefts xs) + q.size) (rights ys))
      ∙ ap (λ m. first_live (m + q.size) (rights ys)) (same_total xs)) _ _ (placed k)
  next_reply (call.RefusalAligned n align) other = ap₂ (λ x y. Refusal (if nat_le align 1 then x else y)) (reason_reply 1 n) (reason_reply 2 (n + align - 1))

pub rows_space : (size limit : ℕ) → 2 ≤ limit → (cs : List Call) (ks : List ℕ) → let s = after cs (start size limit) in
    outline (machine.after (releases ks) s).blocks ≡ collapse ks (outline s.blocks)
rows_space size limit h cs ks = releases_outline ks (after cs (start size limit)) (well_calls cs (start size limit) (well_start size limit h))

pub rows_next : (size limit : ℕ) → 2 ≤ limit → (cs : List Call) (ks : List ℕ) (t : State) → let s = after cs (start size limit) in
    IsCollapse ks s t → (c : Call) → goes_by_begin c ≡ false → without_offset (step c (machine.after (releases ks) s)).reply ≡ without_offset (step c t).reply
rows_next size limit h cs ks t is =
    let s = after cs (start size limit) in
    let scalars = releases_scalars ks s in
    let same = paired _ _ (rows_space size limit h cs ks ∙ sym is.blocks) in
    next_reply (machine.after (releases ks) s) t (record { limit = scalars.0 ∙ sym is.limit; grants = scalars.1 ∙ sym is.grants; blocks = same })
