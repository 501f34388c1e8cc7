-- What holds of every state that the machine reaches.
use Rattle.offset_script.proofs.Common.{◌≡◌, ℕ, zero, suc, ◌+◌, ◌-◌, ◌<◌, ◌≤◌, true, false, ◌&&◌, ◌||◌, ◌⊎◌, List, [], ◌∷◌, ◌++◌, length, Option, Some, None, nat_lt, nat_le, refl, sym, ap, subst, ◌∙◌}
use Rattle.offset_script.proofs.Common.{inl, inr, arith, leb-false, length-append, cases_lt, true≢false, and_parts, and_left, and_right, or_parts, and_cases, not-false, Command, max_size, padding_to}
use Rattle.offset_script.proofs.Common.{Tag, Live, Free, Block, block, is_free, total, Place, chosen_place, place_of, free_part, ends_live, coalesce, State, Answer, Outcome, start, step, after}
use Rattle.offset_script.proofs.Common.{request, grant, grant_or_refuse, is_short_of, returns_only, leaves, release, reset, extend, stamp_of_call, stamp_of_padding, cond_both}
use Rattle.offset_script.proofs.{Lists.sums_coalesced, Lists.starts_free, Lists.ends_free, Lists.AreApart, Lists.hit, Lists.count, Lists.whole, Lists.count-append, Lists.count_free_part}
use Rattle.offset_script.proofs.{Lists.apart_append, Lists.apart_parts, Lists.AreFree, Lists.coalesced, Lists.count_coalesce, Lists.apart_coalesce, Found.found_at, Found.chosen_at}
use Rattle.offset_allocator.proofs.{Views.ViewApart.left_false, Views.ViewApart.right_false, Tallies.hit_cases}
use Rattle.offset_script.specs.declared.scripts.Command.TheVariants as command
use Rattle.offset_script.specs.Machine as machine

-- the tag of a block that a call before has left
abbrev pub IsOld : State → Tag → Type 0
IsOld s (Live k) = (1 ≤ k) × (k ≤ s.grants)
IsOld s (Free x) = x < stamp_of_padding s

-- what holds of every state that the machine reaches
pub record IsWell (s : State) : Type 0 where
  pub some : 1 ≤ length s.blocks
  pub apart : AreApart s.blocks
  pub once : (t : Tag) → count t s.blocks ≤ 1
  pub old : (t : Tag) → 1 ≤ count t s.blocks → IsOld s t
  pub room : length s.blocks + 1 ≤ s.limit

-- a tag of a later call is not there
pub not_there : (s : State) → IsWell s → (t : Tag) → (IsOld s t → ⊥) → count t s.blocks ≡ 0
not_there s w t n = elim (cases_lt 0 (count t s.blocks)) [ inl l ↦ absurd (n (w.old t l)) | inr l ↦ omega arith ]

-- the machine
pub well_start : (size limit : ℕ) → 2 ≤ limit → IsWell (start size limit)
well_start size limit h = search (arith, hit_cases)

-- a call after which each tag occurs no more often than before, except for new ones
module _ (s s' : State) (w : IsWell s) (news : Tag → ℕ) (counts : (t : Tag) → count t s'.blocks ≤ count t s.blocks + news t)
    (fresh : (t : Tag) → (news t ≡ 0) ⊎ ((news t ≡ 1) × (IsOld s t → ⊥) × IsOld s' t)) (grants : s.grants ≤ s'.grants) (calls : s.calls ≤ s'.calls) where
  still_old : (t : Tag) → IsOld s t → IsOld s' t
  still_old (Live k) o = (o.0, omega (arith, o.1))
  still_old (Free x) o = omega arith

  well_next : 1 ≤ length s'.blocks → length s'.blocks + 1 ≤ s'.limit → AreApart s'.blocks → IsWell s'
  well_next some room apart =
      let once : (t : Tag) → count t s'.blocks ≤ 1 = λ t. elim (fresh t) [ inl z ↦ omega (arith, counts t, w.once t) | inr n ↦ omega (arith, counts t, not_there s w t n.1) ] in
      let old : (t : Tag) → 1 ≤ count t s'.blocks → IsOld s' t = λ t c. elim (fresh t) [ inl z ↦ still_old t (w.old t (omega (arith, counts t))) | inr n ↦ n.2 ] in
      record { some = some; apart = apart; once = once; old = old; room = room }

-- a call that leaves the blocks as they are
pub well_quiet : (s : State) → IsWell s → (a : Answer) → IsWell (returns_only s a).state
well_quiet s w a = well_next s (returns_only s a).state w (λ t. 0) (λ t. omega arith) (λ t. inl refl) (omega arith) (omega arith) w.some w.room w.apart

-- blocks that a call leaves, where each tag occurs no more often than before, except for the stamp of the call
pub well_leaves : (s : State) → IsWell s → (bs : List Block) (a : Answer) → 1 ≤ length bs → length bs + 1 ≤ s.limit → AreApart bs
    → ((t : Tag) → count t bs ≤ count t s.blocks + hit t (Free (stamp_of_call s))) → IsWell (leaves s bs a).state
well_leaves s w bs a some room apart counts = search (arith, hit_cases)

-- a grant
pub free_part_is : (n s : ℕ) → AreFree (free_part n s) × AreApart (free_part n s) × (total (free_part n s) ≡ n) × (length (free_part n s) ≤ 1)
free_part_is zero s = (tt, tt, refl, omega arith)
free_part_is (suc n) s = ((refl, tt), (refl, tt), omega arith, omega arith)

pub apart_free_part : (n s : ℕ) (ys : List Block) → AreApart ys → starts_free ys ≡ false → AreApart (free_part n s ++ ys)
apart_free_part zero s ys a e = a
apart_free_part (suc n) s ys a e = (e, a)

-- the blocks that a grant leaves
abbrev pub granted_blocks : Place → ℕ → ℕ → ℕ → ℕ → ℕ → List Block
granted_blocks p n padding front k rest = p.before ++ (free_part padding front ++ (block n (Live k) ∷ (free_part (p.block.size - (padding + n)) rest ++ p.after)))

count_granted : (t : Tag) (p : Place) (n padding front k rest : ℕ)
    → count t (granted_blocks p n padding front k rest) + hit t p.block.tag ≤ count t (whole p) + (hit t (Free front) + (hit t (Live k) + hit t (Free rest)))
count_granted t p n padding front k rest = search (arith, count-append, count_free_part)

apart_granted : (p : Place) (n padding front k rest : ℕ) → is_free p.block.tag ≡ true → AreApart (whole p) → AreApart (granted_blocks p n padding front k rest)
apart_granted p n padding front k rest f a =
    let parts = apart_parts p.before (p.block ∷ p.after) a in
    let end : ends_free p.before ≡ false = left_false (ends_free p.before) (is_free p.block.tag) parts.2 f in
    let beginning : starts_free p.after ≡ false = right_false (is_free p.block.tag) (starts_free p.after) parts.1.0 f in
    apart_append p.before _ parts.0 (apart_free_part padding front _ (refl, apart_free_part _ rest p.after parts.1.1 beginning) refl) (and_left _ _ end)

-- a grant
pub well_grant : (s : State) → IsWell s → (n padding : ℕ) (p : Place) → s.blocks ≡ whole p → is_free p.block.tag ≡ true → (spare : ℕ) → length s.blocks + spare < s.limit
    → length (free_part padding (stamp_of_padding s)) + 1 ≤ spare → IsWell (grant s n padding p).state
well_grant s w n padding p e f spare room enough = search (arith, well_next, count_granted, length, length-append, free_part_is, apart_granted, hit_cases)

-- coalescing leaves some block, and at most one more
pub length_coalesce : (xs : List Block) (n s : ℕ) (ys : List Block) → (1 ≤ length (coalesce xs n s ys)) × (length (coalesce xs n s ys) ≤ length xs + suc (length ys))
length_coalesce xs n s ys =
    let c = coalesced xs n s ys in
    let e = sums_coalesced length length-append xs n s ys c in
    (omega arith, omega (arith, c.end.few))

well_granted : (s : State) → IsWell s → (needed n : ℕ) (padding_at : ℕ → ℕ) (spare : ℕ) → ((o x : ℕ) → length (free_part (padding_at o) x) + 1 ≤ spare) → length s.blocks + spare < s.limit
    → (o : Option Place) → chosen_place needed s.blocks ≡ o → IsWell (grant_or_refuse s n padding_at o).state
well_granted s w needed n padding_at spare enough room None e = well_quiet s w machine.Refused
well_granted s w needed n padding_at spare enough room (Some p) e =
    let c = chosen_at needed s.blocks p e in
    well_grant s w n (padding_at (total p.before)) p c.0 (and_parts _ _ c.1).0 spare room (enough _ _)

well_request : (s : State) → IsWell s → (spare needed n : ℕ) (padding_at : ℕ → ℕ) → ((o x : ℕ) → length (free_part (padding_at o) x) + 1 ≤ spare)
    → IsWell (request s spare needed n padding_at).state
well_request s w spare needed n padding_at enough = cond_both (is_short_of spare s) _ _ (λ (o : Outcome). IsWell o.state) (λ e. well_quiet s w machine.Refused)
    (λ e. well_granted s w needed n padding_at spare enough (leb-false s.limit (length s.blocks + spare) e) (chosen_place needed s.blocks) refl)

-- a release
well_release : (s : State) → IsWell s → (k : ℕ) (o : Option Place) → place_of k s.blocks ≡ o → IsWell (release s o).state
well_release s w k None e = well_quiet s w machine.Gone
well_release s w k (Some p) e =
    let f = found_at k s.blocks p e in
    let parts = apart_parts p.before (p.block ∷ p.after) (subst AreApart f.0 w.apart) in
    let sizes = length_coalesce p.before p.block.size (stamp_of_call s) p.after in
    well_leaves s w _ machine.Freed sizes.0 (let r = w.room in omega (arith, sizes.1, ap length f.0, length-append p.before (p.block ∷ p.after)))
    (apart_coalesce p.before _ _ p.after parts.0 parts.1.1)
    (λ t. omega (arith, count_coalesce t p.before p.block.size (stamp_of_call s) p.after, ap (count t) f.0, count-append t p.before (p.block ∷ p.after)))

-- a last block that is free coalesces, so no block is added
length_at_end : (bs : List Block) (n s : ℕ) → (ends_live bs ≡ false → 1 ≤ length bs → length (coalesce bs n s []) ≤ length bs) × (length (coalesce bs n s []) ≤ length bs + 1)
length_at_end bs n s = (shorter, (length_coalesce bs n s []).1)
  where
    ends_some : (bs : List Block) → 1 ≤ length bs → ends_live bs ≡ false → ends_free bs ≡ true
    ends_some [] h e = absurd (omega arith)
    ends_some (b ∷ []) h e = not-false (is_free b.tag) e
    ends_some (b ∷ c ∷ bs) h e = ends_some (c ∷ bs) (omega arith) e

    shorter : ends_live bs ≡ false → 1 ≤ length bs → length (coalesce bs n s []) ≤ length bs
    shorter e h =
        let c = coalesced bs n s [] in
        let lengths = sums_coalesced length length-append bs n s [] c in
        elim (cases_lt 0 (length c.last)) [ inl l ↦ omega arith | inr l ↦ absurd (true≢false (sym (ends_some bs h e) ∙ ap ends_free c.at_front ∙ c.end.live (omega arith))) ]

-- more units at the end
well_extend : (s : State) → IsWell s → (more : ℕ) → IsWell (extend more s).state
well_extend s w zero = well_quiet s w machine.Extended
well_extend s w (suc more) = cond_both (nat_lt max_size (total s.blocks + suc more) || (ends_live s.blocks && is_short_of 1 s)) _ _ (λ (o : Outcome). IsWell o.state)
    (λ e. well_quiet s w machine.Refused) (λ e.
    let sizes = length_coalesce s.blocks (suc more) (stamp_of_call s) [] in
    let at_end = length_at_end s.blocks (suc more) (stamp_of_call s) in
    let few : length (coalesce s.blocks (suc more) (stamp_of_call s) []) + 1 ≤ s.limit = elim (and_cases (ends_live s.blocks) (is_short_of 1 s) (or_parts _ _ e).1)
    [ inl free ↦ omega (arith, at_end.0 free w.some, w.room) | inr spare ↦ omega (arith, at_end.1, leb-false s.limit (length s.blocks + 1) spare) ] in
    well_leaves s w _ machine.Extended sizes.0 few (apart_coalesce s.blocks _ _ [] w.apart tt) (λ t. omega (arith, count_coalesce t s.blocks (suc more) (stamp_of_call s) [])))

-- a reset
well_reset : (s : State) → IsWell s → IsWell (reset s).state
well_reset s w = let r = w.room in let o = w.some in well_leaves s w _ machine.Reset (omega arith) (omega arith) (and_right true false refl, tt) (λ t. omega arith)

no_padding : (o x : ℕ) → length (free_part 0 x) + 1 ≤ 1
no_padding o x = omega arith

-- each command keeps it
pub well_step : (c : Command) (s : State) → IsWell s → IsWell (step c s).state
well_step (command.Alloc n) s w = well_request s w 1 n n (λ offset. 0) no_padding
well_step (command.Free k) s w = well_release s w k (place_of k s.blocks) refl
well_step command.Reset s w = well_reset s w
well_step (command.Align n align) s w = cond_both (nat_le align 1) _ _ (λ (o : Outcome). IsWell o.state) (λ e. well_request s w 1 n n (λ offset. 0) no_padding)
    (λ e. cond_both (nat_lt max_size (n + align - 1)) _ _ (λ (o : Outcome). IsWell o.state) (λ e. well_quiet s w machine.Refused)
    (λ e. well_request s w 2 (n + align - 1) n (padding_to align) (λ o x. let h = (free_part_is (padding_to align o) x).3 in omega arith)))
well_step (command.Extend more) s w = well_extend s w more
well_step other s w = well_quiet s w (step other s).answer

-- so do all commands in order
pub well_after : (cs : List Command) (s : State) → IsWell s → IsWell (after cs s)
well_after [] s w = w
well_after (c ∷ cs) s w = well_after cs _ (well_step c s w)
