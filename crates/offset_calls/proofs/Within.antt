-- A compaction by whole steps within a budget: the run that slides is the one that the plain machine finds, what is left
-- agrees with it, and where it goes on and the moves are the same.
use Rattle.offset_calls.proofs.Common.{◌≡◌, ◌≢◌, ℕ, ◌+◌, ◌≤◌, ◌⊎◌, ◌&&◌, ◌||◌, Bool, true, false, not, List, [], ◌∷◌, ◌++◌, length, Option, Some, None, is_some, option_map, nat_eq, nat_le, if◌then◌else◌}
use Rattle.offset_calls.proofs.Common.{refl, sym, ap, ap₂, subst, subst₂, ◌∙◌, inl, inr, arith, map-append, append-nil, length-append, true≢false, cases_lt, and_parts, Block, View, Handle, IsWellFormed, FoldsTo}
use Rattle.offset_calls.proofs.Common.{State, is_free, total, units, count_named, one, Move, AreNumbered, Reply, Answer, Outcome, replies_only}
use Rattle.std.proofs.lemmas.Bool.Decides.{nat_tests}
use Rattle.std.proofs.lemmas.List.Elements.{filter-append}
use Rattle.offset_allocator.specs.declared.moves.over_frames.Progress.{Progress}
use Rattle.offset_allocator.specs.declared.moves.room.RoomCost.{RoomCost}
use Rattle.offset_allocator.specs.Moving.BySteps.{CanFollow}
use Rattle.offset_allocator.specs.Moving.BySteps as by
use Rattle.offset_allocator.specs.Moving.Budget.{CompactsWithin, IsRunWithin, IsWithin, SlidesWithin, StopsAt, first_from}
use Rattle.offset_allocator.specs.Moving.Budget as named_budget
use Rattle.offset_allocator.specs.Moving.Compacting as named_moves
use Rattle.offset_allocator.proofs.Moving.Budgeted.{begun, from_here}
use Rattle.offset_allocator.proofs.Tallies.{one-same, tally_append}
use Rattle.offset_script.specs.Agreement.{Label, by_name, by_tag, IsAtState}
use Rattle.offset_script.proofs.{Ends.total_units, Labels.names, Labels.tags, Lists.starts_free, Lists.total-append, Members.map_parts, Members.map_first, Well.IsWell, Well.well_quiet}
use Rattle.offset_script.specs.Totals.{live}
use Rattle.offset_script.specs.Machine as machine
use Rattle.offset_calls.specs.Budget.{is_within, longest_that, next_of, start_of}
use Rattle.offset_calls.specs.Calls.{CompactedWithin, compact_within, moves_of_run}
use Rattle.offset_calls.specs.Room.{Split, from_first, after_first}
use Rattle.offset_calls.specs.{Slides.Notes, Slides.slid_reply, Slides.so_far, Steps.TakesSlide, Stepped.first_run, Stepped.slid_run}
use Rattle.offset_calls.specs.declared.calls.Call.TheVariants as call
use Rattle.offset_calls.proofs.Rooms.{Agrees, none_numbered, noted, stays}
use Rattle.offset_calls.proofs.{Runs.cost_same, Stepped.IsReach, Stepped.IsSlidRun, Stepped.first_run_in, Stepped.run_agrees, Stepped.run_here, Stepped.run_moves, Stepped.can_follow, Stepped.cannot_follow, Stepped.well_slides}

abbrev split : List machine.Block → List machine.Block → List machine.Block → Split
split f r b = record { front = f; run = r; back = b }

-- ---- where a run begins

some_map : (b : machine.Block) (o : Option Split) → is_some (option_map (after_first b) o) ≡ is_some o
some_map b None = refl
some_map b (Some p) = refl

not_not : (t : Bool) → not (not t) ≡ t
not_not true = refl
not_not false = refl

-- a run begins where the allocator finds a block
same_begun : (reach : List machine.Block → Split) (n from o : ℕ) (ls : List Label) → is_some (first_run reach n from o (tags ls)) ≡ is_some (first_from n from o (names ls))
same_begun reach n from o [] = refl
same_begun reach n from o (l ∷ []) = refl
same_begun reach n from o (l ∷ m ∷ ls) =
    go (is_free l.tag) (nat_le n l.size && nat_le from (o + l.size)) (first_run reach n from (o + l.size) (tags (m ∷ ls))) (same_begun reach n from (o + l.size) (m ∷ ls))
  where
    go : (t u : Bool) (p : Option Split) → is_some p ≡ is_some (first_from n from (o + l.size) (names (m ∷ ls)))
        → is_some (if t && u then Some (from_first (by_tag l) (reach (tags (m ∷ ls)))) else option_map (after_first (by_tag l)) p)
        ≡ is_some (if not (not t) && u then Some l.name else first_from n from (o + l.size) (names (m ∷ ls)))
    go true true p ih = refl
    go true false p ih = some_map (by_tag l) p ∙ ih
    go false u p ih = some_map (by_tag l) p ∙ ih

-- that block is in the list
begun_there : (n from o : ℕ) (bs : List Block) (x : ℕ) → first_from n from o bs ≡ Some x → 1 ≤ count_named x bs
begun_there n from o bs x e =
    let i = begun n from o bs x e in
    omega (arith, ap (count_named x) i.is, tally_append (λ (b : Block). one (nat_eq x b.name)) i.front (i.first ∷ i.rest), one-same x, ap (λ (y : ℕ). one (nat_eq x y)) i.name)

-- the run that begins at a block with others after it
abbrev run_at : (List machine.Block → Split) → List machine.Block → machine.Block → List machine.Block → Split
run_at reach f b bs = split (f ++ (reach bs).front) (b ∷ (reach bs).run) (reach bs).back

found_there : (reach : List machine.Block → Split) (n from o : ℕ) (f : List Label) (l : Label) (ls : List Label) → ((x : ℕ) → count_named x (names (f ++ l ∷ ls)) ≤ 1) → first_from n from o (names (f ++ l ∷ ls)) ≡ Some l.name
    → (is_free l.tag ≡ true) × (first_run reach n from o (tags (f ++ l ∷ ls)) ≡ Some (run_at reach (tags f) (by_tag l) (tags ls)))
found_there reach n from o [] l [] once e = absurd (cc)
found_there reach n from o [] l (m ∷ ls) once e = go (is_free l.tag && (nat_le n l.size && nat_le from (o + l.size))) refl
  where
    some : names (m ∷ ls) ≢ []
    some q = absurd (cc)

    some' : tags (m ∷ ls) ≢ []
    some' q = absurd (cc)

    go : (t : Bool) → (is_free l.tag && (nat_le n l.size && nat_le from (o + l.size))) ≡ t
        → (is_free l.tag ≡ true) × (first_run reach n from o (tags (l ∷ m ∷ ls)) ≡ Some (run_at reach [] (by_tag l) (tags (m ∷ ls))))
    go true t = ((and_parts (is_free l.tag) _ t).0, run_here reach n from o (by_tag l) (tags (m ∷ ls)) some' true t)
    go false t =
        let later : first_from n from (o + l.size) (names (m ∷ ls)) ≡ Some l.name =
        sym (from_here n from o (by_name l) (names (m ∷ ls)) some false (sym (ap (λ (x : Bool). x && (nat_le n l.size && nat_le from (o + l.size))) (not_not (is_free l.tag)) ∙ t))) ∙ e in
        absurd (omega (arith, once l.name, one-same l.name, begun_there n from (o + l.size) (names (m ∷ ls)) l.name later))
found_there reach n from o (g ∷ f) l ls once e = go (is_free g.tag && (nat_le n g.size && nat_le from (o + g.size))) refl
    (λ h. found_there reach n from (o + g.size) f l ls (λ x. omega (arith, once x)) h)
  where
    some : (f : List Label) → names (f ++ l ∷ ls) ≢ []
    some [] q = absurd (cc)
    some (h ∷ f) q = absurd (cc)

    some' : (f : List Label) → tags (f ++ l ∷ ls) ≢ []
    some' [] q = absurd (cc)
    some' (h ∷ f) q = absurd (cc)

    there : (f : List Label) → 1 ≤ count_named l.name (names (f ++ l ∷ ls))
    there f = omega (
      arith,
      ap (count_named l.name) (map-append by_name f (l ∷ ls)),
      tally_append (λ (b : Block). one (nat_eq l.name b.name)) (names f) (names (l ∷ ls)),
      one-same l.name,
    )

    go : (t : Bool) → (is_free g.tag && (nat_le n g.size && nat_le from (o + g.size))) ≡ t
        → (first_from n from (o + g.size) (names (f ++ l ∷ ls)) ≡ Some l.name
        → (is_free l.tag ≡ true) × (first_run reach n from (o + g.size) (tags (f ++ l ∷ ls)) ≡ Some (run_at reach (tags f) (by_tag l) (tags ls))))
        → (is_free l.tag ≡ true) × (first_run reach n from o (tags (g ∷ (f ++ l ∷ ls))) ≡ Some (run_at reach (by_tag g ∷ tags f) (by_tag l) (tags ls)))
    go true t ih =
        let q : Some g.name ≡ Some l.name =
        sym (from_here n from o (by_name g) (names (f ++ l ∷ ls)) (some f) true (sym (ap (λ (x : Bool). x && (nat_le n g.size && nat_le from (o + g.size))) (not_not (is_free g.tag)) ∙ t))) ∙ e in
        let same : g.name ≡ l.name = cc in
        absurd (omega (arith, once l.name, one-same l.name, ap (λ (y : ℕ). one (nat_eq l.name y)) same, there f))
    go false t ih =
        let later = ih (sym (from_here n from o (by_name g) (names (f ++ l ∷ ls)) (some f) false (sym (ap (λ (x : Bool). x && (nat_le n g.size && nat_le from (o + g.size))) (not_not (is_free g.tag)) ∙ t))) ∙ e) in
        (later.0, run_here reach n from o (by_tag g) (tags (f ++ l ∷ ls)) (some' f) false t ∙ ap (option_map (after_first (by_tag g))) later.1)

-- ---- how far it goes

-- blocks that pass a test, and after them one with which they do not
longest_is : (test : List machine.Block → Bool) (r b : List machine.Block) → ((xs zs : List machine.Block) → r ≡ xs ++ zs → test xs ≡ true)
    → ((c : machine.Block) (cs : List machine.Block) → b ≡ c ∷ cs → test (r ++ c ∷ []) ≡ false) → longest_that test (r ++ b) ≡ split [] r b
longest_is test [] [] pass stop = refl
longest_is test [] (c ∷ cs) pass stop = ap (λ (t : Bool). if t then from_first c (longest_that (λ run. test (c ∷ run)) cs) else split [] [] (c ∷ cs)) (stop c cs refl)
longest_is test (x ∷ r) b pass stop =
    ap (λ (t : Bool). if t then from_first x (longest_that (λ run. test (x ∷ run)) (r ++ b)) else split [] [] (x ∷ (r ++ b))) (pass (x ∷ []) r refl)
    ∙ ap (from_first x) (longest_is (λ run. test (x ∷ run)) r b (λ xs zs e. pass (x ∷ xs) zs (ap (λ l. x ∷ l) e)) stop)

-- the budget in numbers: of units, and of blocks
abbrev is_enough : ℕ → ℕ → ℕ → ℕ → Bool
is_enough u k units blocks = nat_eq blocks 1 || (nat_le units u && nat_le blocks k)

abbrev IsEnough : ℕ → ℕ → ℕ → ℕ → Type 0
IsEnough u k units blocks = (blocks ≡ 1) ⊎ ((units ≤ u) × (blocks ≤ k))

enough_is : (u k units blocks : ℕ) → is_enough u k units blocks ≡ true → IsEnough u k units blocks
enough_is u k units blocks e = grind (arith, nat_tests)

enough_too : (u k units blocks : ℕ) → IsEnough u k units blocks → is_enough u k units blocks ≡ true
enough_too u k units blocks h = grind (arith, nat_tests)

enough_less : (u k units blocks units' blocks' : ℕ) → units ≤ units' → blocks ≤ blocks' → (blocks ≡ 0 → units ≡ 0) → IsEnough u k units' blocks' → IsEnough u k units blocks
enough_less u k units blocks units' blocks' less few none (inl alone) = elim (cases_lt 0 blocks) [
  | inl some ↦ inl (omega (arith, some, few, alone))
  | inr nothing ↦ let no_units = none (omega (arith, nothing)) in inr (omega (arith, no_units), omega (arith, nothing))
]
enough_less u k units blocks units' blocks' less few none (inr h) = inr (omega (arith, h.0, less), omega (arith, h.1, few))

-- of the live ones of blocks
module _ (u k : ℕ) where
  within_is : (ls : List Label) → is_within u k (tags ls) ≡ true → IsWithin u k (names ls)
  within_is ls e = subst₂ (IsEnough u k) (ap (λ (c : RoomCost). c.units) (cost_same ls)) (ap (λ (c : RoomCost). c.ranges) (cost_same ls)) (enough_is u k (total (live (tags ls))) (length (live (tags ls))) e)

  within_too : (ls : List Label) → IsWithin u k (names ls) → is_within u k (tags ls) ≡ true
  within_too ls h = enough_too u k (total (live (tags ls))) (length (live (tags ls))) (subst₂ (IsEnough u k) (sym (ap (λ (c : RoomCost). c.units) (cost_same ls))) (sym (ap (λ (c : RoomCost). c.ranges) (cost_same ls))) h)

  live_parts : (xs zs : List machine.Block) → live (xs ++ zs) ≡ live xs ++ live zs
  live_parts xs zs = filter-append (λ (b : machine.Block). not (is_free b.tag)) xs zs

  none_live : (bs : List machine.Block) → length bs ≡ 0 → total bs ≡ 0
  none_live [] e = refl
  none_live (b ∷ bs) e = absurd (omega (arith, e))

  -- a shorter beginning is within it too
  begins_within : (xs zs : List machine.Block) → is_within u k (xs ++ zs) ≡ true → is_within u k xs ≡ true
  begins_within xs zs e =
      let units = ap total (live_parts xs zs) ∙ total-append (live xs) (live zs) in
      let blocks = ap (λ (l : List machine.Block). length l) (live_parts xs zs) ∙ length-append (live xs) (live zs) in
      enough_too u k (total (live xs)) (length (live xs)) (enough_less u k (total (live xs)) (length (live xs)) (total (live (xs ++ zs))) (length (live (xs ++ zs))) (omega (arith, units)) (omega (arith, blocks))
      (none_live (live xs)) (enough_is u k (total (live (xs ++ zs))) (length (live (xs ++ zs))) e))

  -- a free block more is
  free_within : (xs : List machine.Block) (c : machine.Block) → is_free c.tag ≡ true → is_within u k xs ≡ true → is_within u k (xs ++ c ∷ []) ≡ true
  free_within xs c free e = ap₂ (is_enough u k) (ap total same) (ap (λ (l : List machine.Block). length l) same) ∙ e
    where
      same : live (xs ++ c ∷ []) ≡ live xs
      same = live_parts xs (c ∷ []) ∙ ap (λ (t : Bool). live xs ++ (if not t then c ∷ [] else [])) free ∙ append-nil (live xs)

  reached_is : (r b : List Label) → IsWithin u k (names r) → StopsAt u k (names r) (names b) → longest_that (is_within u k) (tags r ++ tags b) ≡ split [] (tags r) (tags b)
  reached_is r b within stops = longest_is (is_within u k) (tags r) (tags b) pass (stop b stops)
    where
      pass : (xs zs : List machine.Block) → tags r ≡ xs ++ zs → is_within u k xs ≡ true
      pass xs zs e = begins_within xs zs (ap (is_within u k) (sym e) ∙ within_too r within)

      stop : (b : List Label) → StopsAt u k (names r) (names b) → (c : machine.Block) (cs : List machine.Block) → tags b ≡ c ∷ cs → is_within u k (tags r ++ c ∷ []) ≡ false
      stop [] h c cs e = absurd (cc)
      stop (l ∷ b) h c cs e = let same : by_tag l ≡ c = cc in ap (λ (d : machine.Block). is_within u k (tags r ++ d ∷ [])) (sym same) ∙ go (is_within u k (tags r ++ by_tag l ∷ [])) refl
        where
          go : (t : Bool) → is_within u k (tags r ++ by_tag l ∷ []) ≡ t → is_within u k (tags r ++ by_tag l ∷ []) ≡ false
          go true t = absurd (h.1 (subst (IsWithin u k) (map-append by_name r (l ∷ [])) (within_is (r ++ l ∷ []) (ap (is_within u k) (map-append by_tag r (l ∷ [])) ∙ t))))
          go false t = t

-- ---- the run that slides

-- it, with its labels
pub record IsLabelledReach (n from u k : ℕ) (ls : List Label) (front : List Block) (first : Block) (rest back : List Block) : Type 0 where
  pub f : List Label
  pub r : List Label
  pub b : List Label
  pub is : ls ≡ f ++ (r ++ b)
  pub front_is : names f ≡ front
  pub run_is : names r ≡ first ∷ rest
  pub back_is : names b ≡ back
  pub free : first.used ≡ false
  pub found : first_run (longest_that (is_within u k)) n from 0 (tags ls) ≡ Some (split (tags f) (tags r) (tags b))

pub reached_at : (n from u k : ℕ) (ls : List Label) → ((x : ℕ) → count_named x (names ls) ≤ 1) → (front : List Block) (first : Block) (rest back : List Block) → names ls ≡ front ++ (first ∷ (rest ++ back))
    → first_from n from 0 (names ls) ≡ Some first.name → IsWithin u k rest → StopsAt u k rest back → IsLabelledReach n from u k ls front first rest back
reached_at n from u k ls once front first rest back is begins within stops =
    let o = map_parts by_name ls front (first ∷ (rest ++ back)) is in
    let q = map_first by_name o.1 first (rest ++ back) o.4 in
    let t = map_parts by_name q.1 rest back q.4 in
    let whole : ls ≡ o.0 ++ (q.0 ∷ (t.0 ++ t.1)) = o.2 ∙ ap (λ l. o.0 ++ l) (q.2 ∙ ap (λ l. q.0 ∷ l) t.2) in
    let at = found_there (longest_that (is_within u k)) n from 0 o.0 q.0 (t.0 ++ t.1) (λ x. subst (λ l. count_named x (names l) ≤ 1) whole (once x))
    (ap (λ l. first_from n from 0 (names l)) (sym whole) ∙ begins ∙ ap (λ (b : Block). Some b.name) (sym q.3)) in
    let far = reached_is u k t.0 t.1 (subst (IsWithin u k) (sym t.3) within) (subst₂ (StopsAt u k) (sym t.3) (sym t.4) stops) in
    record {
      f = o.0;
      r = q.0 ∷ t.0;
      b = t.1;
      is = whole;
      front_is = o.3;
      run_is = ap₂ (λ (b : Block) (bs : List Block). b ∷ bs) q.3 t.3;
      back_is = t.4;
      free = sym (ap (λ (b : Block). b.used) q.3) ∙ ap not at.0;
      found = ap (λ l. first_run (longest_that (is_within u k)) n from 0 (tags l)) whole ∙ at.1
          ∙ ap Some (ap (λ (p : Split). split (tags o.0 ++ p.front) (by_tag q.0 ∷ p.run) p.back) (ap (longest_that (is_within u k)) (map-append by_tag t.0 t.1) ∙ far)
          ∙ ap (λ l. split l (tags (q.0 ∷ t.0)) (tags t.1)) (append-nil (tags o.0)));
    }

-- how far it comes
same_start : (o : ℕ) (ls : List Label) → named_budget.start_of o (names ls) ≡ start_of o (tags ls)
same_start o [] = refl
same_start o (l ∷ ls) = refl

same_units : (f r : List Label) → units (names f ++ names r) ≡ total (tags f) + total (tags r)
same_units f r = sym (ap units (map-append by_name f r)) ∙ sym (total_units (f ++ r)) ∙ ap total (map-append by_tag f r) ∙ total-append (tags f) (tags r)

next_same : (f r b : List Label) (run : List Block) → names r ≡ run → named_budget.start_of (units (names f ++ run)) (names b) ≡ next_of (split (tags f) (tags r) (tags b))
next_same f r b run is = ap (λ l. named_budget.start_of (units (names f ++ l)) (names b)) (sym is)
    ∙ ap (λ (o : ℕ). named_budget.start_of o (names b)) (same_units f r) ∙ same_start (total (tags f) + total (tags r)) b

-- ---- every state stays well-formed

-- blocks that do not start free
abbrev IsLive : List machine.Block → Type 0
IsLive bs = starts_free bs ≡ false

longest_found : (test : List machine.Block → Bool) → test [] ≡ true → ((xs : List machine.Block) (c : machine.Block) → is_free c.tag ≡ true → test xs ≡ true → test (xs ++ c ∷ []) ≡ true)
    → (bs : List machine.Block) → IsReach IsLive bs (longest_that test bs)
longest_found test none free [] = record { front = refl; is = refl; back = refl }
longest_found test none free (b ∷ bs) = go (test (b ∷ [])) refl (λ e. longest_found (λ run. test (b ∷ run)) e (λ xs c f t. free (b ∷ xs) c f t) bs)
  where
    go : (t : Bool) → test (b ∷ []) ≡ t → (test (b ∷ []) ≡ true → IsReach IsLive bs (longest_that (λ run. test (b ∷ run)) bs))
        → IsReach IsLive (b ∷ bs) (if t then from_first b (longest_that (λ run. test (b ∷ run)) bs) else split [] [] (b ∷ bs))
    go true e ih = let h = ih e in record { front = h.front; is = ap (λ l. b ∷ l) h.is; back = h.back }
    go false e ih = record { front = refl; is = refl; back = not_free (is_free b.tag) refl }
      where
        not_free : (f : Bool) → is_free b.tag ≡ f → is_free b.tag ≡ false
        not_free true f = absurd (true≢false (sym (free [] b f none) ∙ e))
        not_free false f = f

pub well_within : (s : State) → IsWell s → (n from u k : ℕ) → IsWell (compact_within n s (first_run (longest_that (is_within u k)) n from 0 s.blocks)).state
well_within s w n from u k = go (first_run (longest_that (is_within u k)) n from 0 s.blocks) refl
  where
    go : (o : Option Split) → first_run (longest_that (is_within u k)) n from 0 s.blocks ≡ o → IsWell (compact_within n s o).state
    go None e = well_quiet s w machine.Gone
    go (Some p) e =
        let f = first_run_in IsLive (longest_that (is_within u k)) (longest_found (is_within u k) (enough_too u k 0 0 (inr (omega arith, omega arith))) (free_within u k)) n from 0 s.blocks p e in
        well_slides s w n _ p f.is f.begins f.back

-- ---- the step

module _ (v w : View) (hs left : List (Option Handle)) (r : Reply) (s : State) (formed : IsWellFormed w) (ws : IsWell s) (p : IsAtState v hs s) (e : left ≡ hs) where
  abbrev IsSame : Outcome → Type 0
  IsSame o = Agrees v w hs left r s formed ws p e o

  module _ (n from u k : ℕ) where
    abbrev found : Option Split
    found = first_run (longest_that (is_within u k)) n from 0 s.blocks

    -- the labels of a run that slides
    labelled : (front : List Block) (first : Block) (rest back : List Block) → IsRunWithin n from u k v front first rest back → IsLabelledReach n from u k p.agrees.labels front first rest back
    labelled front first rest back h = reached_at n from u k p.agrees.labels (λ x. subst (λ l. count_named x l ≤ 1) p.agrees.view (p.formed.distinct x)) front first rest back (sym p.agrees.view ∙ h.is)
        (ap (first_from n from 0) (sym p.agrees.view) ∙ h.begins) h.within h.stops

    -- the run that the machine finds
    abbrev run_of : (f r b : List Label) → Split
    run_of f r b = split (tags f) (tags r) (tags b)

    found_is : (front : List Block) (first : Block) (rest back : List Block) → (h : IsRunWithin n from u k v front first rest back)
        → found ≡ Some (run_of (labelled front first rest back h).f (labelled front first rest back h).r (labelled front first rest back h).b)
    found_is front first rest back h = ap (first_run (longest_that (is_within u k)) n from 0) p.agrees.state ∙ (labelled front first rest back h).found

    none_if : {A : Type 0} (o : Option A) → is_some o ≡ false → o ≡ None
    none_if None f = refl
    none_if (Some x) f = absurd (true≢false f)

    none_found : first_from n from 0 v.blocks ≡ None → found ≡ None
    none_found f = none_if found (ap (λ bs. is_some (first_run (longest_that (is_within u k)) n from 0 bs)) p.agrees.state ∙ same_begun (longest_that (is_within u k)) n from 0 p.agrees.labels
        ∙ ap is_some (ap (first_from n from 0) (sym p.agrees.view) ∙ f))

    slid : (xs : List named_moves.Move) (ms : List Move) → AreNumbered hs xs ms → (q : Progress) → (h : SlidesWithin n from u k v w q) → CanFollow n v (h.first ∷ h.rest)
        → FoldsTo Notes [] (by.moves_by n (units h.front) (units h.front) (h.first ∷ h.rest)) xs → r ≡ CompactedWithin q.next ms → IsSame (compact_within n s found)
    slid xs ms a q h follows folds is =
        let l = labelled h.front h.first h.rest h.back h.reached in
        let at = run_of l.f l.r l.b in
        let run : IsSlidRun n v w h.front (h.first ∷ h.rest) h.back = record { is = h.reached.is; name = h.name; view = h.view } in
        let fits = can_follow v hs s p.formed ws p.agrees n l.r (subst (CanFollow n v) (sym l.run_is) follows) in
        let moved : ms ≡ moves_of_run n at = run_moves v hs s p.formed ws p.agrees n w formed h.front (h.first ∷ h.rest) h.back run l.f l.r l.b l.is l.front_is l.run_is l.back_is ms
        (subst (λ ys. AreNumbered hs ys ms) (noted _ [] xs folds) a) in
        let next : q.next ≡ next_of at = ap (λ (p : Progress). p.next) h.progress
        ∙ sym (ap₂ (λ fs bs. named_budget.start_of (units (fs ++ h.first ∷ h.rest)) bs) l.front_is l.back_is)
        ∙ next_same l.f l.r l.b (h.first ∷ h.rest) l.run_is in
        subst (λ o. IsSame (compact_within n s o)) (sym (found_is h.front h.first h.rest h.back h.reached))
        (subst (λ b. IsSame (if b then replies_only s (Answer machine.Refused) else record { state = slid_run n s at; reply = CompactedWithin (next_of at) (moves_of_run n at) })) (sym fits) (
          is ∙ ap₂ CompactedWithin next moved,
          subst (λ l. IsAtState w l (slid_run n s at)) (sym e) (record {
            formed = formed;
            agrees = run_agrees v hs s p.formed ws p.agrees n w formed h.front (h.first ∷ h.rest) h.back run l.f l.r l.b l.is l.front_is l.run_is l.back_is;
            grants = p.grants;
          }),
        ))

    taken : (xs : List named_moves.Move) (ms : List Move) → AreNumbered hs xs ms → (c : Option Progress) → CompactsWithin Notes n from u k v [] c w xs → r ≡ slid_reply (so_far c) ms → IsSame (compact_within n s found)
    taken xs ms a None m is =
        let l = labelled m.2.0 m.2.1 m.2.2 m.2.3 m.2.4 in
        let at = run_of l.f l.r l.b in
        let full = cannot_follow v hs s p.formed ws p.agrees n l.r (λ c. m.2.5 (subst (CanFollow n v) l.run_is c)) in
        subst (λ o. IsSame (compact_within n s o)) (sym (found_is m.2.0 m.2.1 m.2.2 m.2.3 m.2.4))
        (subst (λ b. IsSame (if b then replies_only s (Answer machine.Refused) else record { state = slid_run n s at; reply = CompactedWithin (next_of at) (moves_of_run n at) })) (sym full)
        (stays v w hs left r s formed ws p e (Answer machine.Refused) m.0 is))
    taken xs ms a (Some q) (inl m) is = subst (λ o. IsSame (compact_within n s o)) (sym (none_found m.0))
        (stays v w hs left r s formed ws p e (CompactedWithin None []) m.2 (is ∙ ap₂ CompactedWithin (ap (λ (p : Progress). p.next) m.1) (none_numbered hs xs ms m.3 a)))
    taken xs ms a (Some q) (inr m) is = slid xs ms a q m.0 m.1 m.2 is

    pub within_taken : TakesSlide (call.CompactWithin n from u k) v hs w r → IsSame (compact_within n s found)
    within_taken t = taken t.1 t.3 t.4 t.2.0 t.2.1 (t.5 ∙ ap (λ o. slid_reply o t.3) t.2.2)
