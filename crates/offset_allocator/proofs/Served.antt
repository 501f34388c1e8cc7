-- What contracts say of a request, from the relation that says it all.
use Rattle.offset_allocator.specs.Relations.{SameState}
use Rattle.offset_allocator.proofs.Common.{◌≡◌, ◌↔◌, ℕ, ◌+◌, ◌%◌, ◌<◌, ◌≤◌, Bool, length, Option, Some, None, IsSome, IfSome, if◌then◌else◌, refl, sym, ap, ap₂, subst, ◌∙◌, arith, le-leb, cases_lt}
use Rattle.offset_allocator.proofs.Common.{false≢true, lt-leb, down, View, Handle, units, count_named, place_of, IsWellFormed, free_sizes, reported_largest, padding_to, max_size, largest}
use Rattle.offset_allocator.proofs.Common.{IsGoodRefusal, AdmitsBlocks, CanGrant, blocks_needed, units_needed, Splits, Allocates, Aligns, IsSplitNearBest, Grants}
use Rattle.offset_allocator.proofs.Views.ViewFits.{HasName, there_middle, near_best_fit, good_refusal, fits_exactly, refusal_past, largest_small}
use Rattle.offset_allocator.proofs.{Padding.reaches, Refusals.fit_small, Views.Split.well_split, Views.Split.part_room, Ranges.beside, Ranges.split_grants, Views.ViewPlaces.place_here}

-- a request that may add this many blocks, takes a block of a class large enough for the units needed, and is granted n
-- of them, after padding
abbrev pub Serves : ℕ → ℕ → ℕ → (ℕ → ℕ) → View → View → Option Handle → Type 0
Serves blocks needed n padding_at v w None = (CanGrant blocks needed v → ⊥) × SameState v w
Serves blocks needed n padding_at v w (Some g) = AdmitsBlocks blocks v × Splits needed n padding_at v w g

pub plain_serves : (n : ℕ) (v w : View) (r : Option Handle) → Allocates n v w r → Serves 1 n n (λ offset. 0) v w r
plain_serves n v w None a = a
plain_serves n v w (Some g) a = a

pub serves_plain : (n : ℕ) (v w : View) (r : Option Handle) → Serves 1 n n (λ offset. 0) v w r → Allocates n v w r
serves_plain n v w None a = a
serves_plain n v w (Some g) a = a

pub aligned_serves : (n align : ℕ) (v w : View) (r : Option Handle) → Aligns n align v w r → Serves (blocks_needed align) (units_needed n align) n (padding_to align) v w r
aligned_serves n align v w None a = a
aligned_serves n align v w (Some g) a = a

-- where a region is reported, one more block may exist
pub reported_room : (v : View) → 1 ≤ reported_largest v → AdmitsBlocks 1 v
reported_room v l = grind (arith, cases_lt, le-leb)

module _ (blocks needed n : ℕ) (padding_at : ℕ → ℕ) (v w : View) (known : IsWellFormed v) where
  pub can_grant : (r : Option Handle) → Serves blocks needed n padding_at v w r → IsSome r ↔ CanGrant blocks needed v
  can_grant None a = (λ h. absurd (false≢true h), λ h. absurd (a.0 h))
  can_grant (Some g) a = (λ h. (a.0, (down a.1.block.size, a.1.fits, λ e. let f = sym a.1.newest ∙ e in absurd (cc))), λ h. refl)

  pub same : (r : Option Handle) → Serves blocks needed n padding_at v w r → r ≡ None → SameState v w
  same None a e = a.1
  same (Some g) a e = absurd (cc)

  pub granted : 1 ≤ blocks → (r : Option Handle) → Serves blocks needed n padding_at v w r → 1 ≤ needed → IsSome r ↔ (AdmitsBlocks blocks v × (needed ≤ reported_largest v))
  granted some r a l = let c = can_grant r a in (
    λ h. let k = c.0 h in (k.0, subst (λ m. needed ≤ m) (sym (reported k.0)) ((fits_exactly v known needed (omega (arith, fit_small needed v known k.1, known.fits)) known.fits l).0 k.1)),
    λ h.
        let within = subst (λ m. needed ≤ m) (reported h.0) h.1 in
        c.1 (h.0, (fits_exactly v known needed (largest_small v known known.fits needed l within) known.fits l).1 within),
  )
    where
      reported : AdmitsBlocks blocks v → reported_largest v ≡ largest (free_sizes v.blocks)
      reported room = ap (λ (b : Bool). if b then 0 else largest (free_sizes v.blocks)) (lt-leb v.max_allocs (length v.blocks + 1) (omega (arith, room, some)))

  pub refused : (r : Option Handle) → Serves blocks needed n padding_at v w r → r ≡ None → AdmitsBlocks blocks v → IsGoodRefusal needed (free_sizes v.blocks)
  refused (Some g) a e room = grind arith
  refused None a e room = grind (arith, cases_lt, refusal_past, good_refusal)

  pub nearly : (r : Option Handle) → Serves blocks needed n padding_at v w r → IfSome r (IsSplitNearBest needed v)
  nearly None a = tt
  nearly (Some g) a =
      let s = a.1 in
      let small : needed ≤ 4294967295 = omega (arith, fit_small needed v known ((can_grant (Some g) a).0 refl).1, known.fits) in
      let alone = beside s.block.name s.before s.block s.after refl (omega (arith, known.distinct s.block.name, ap (count_named s.block.name) s.blocks)) in
      record {
        place = record { before = s.before; block = s.block; after = s.after };
        there = ap₂ place_of (ap (λ (h : Handle). h.name) s.grant) s.blocks ∙ place_here s.block.name s.before s.block s.after alone.0 refl;
        free = s.free;
        fit = near_best_fit v known needed small known.fits s.block (subst (HasName s.block) (sym s.blocks) (there_middle s.before s.block s.after)) s.smallest;
      }

  module _ (some : 1 ≤ blocks) (two : (o : ℕ) → 1 ≤ padding_at o → 2 ≤ blocks) where
    pub well_served : (g : Handle) → Serves blocks needed n padding_at v w (Some g) → IsWellFormed w
    well_served g a = well_split a.1 blocks known a.0 (part_room a.1.padding_name a.1.padding blocks some (λ l. two (units a.1.before) (omega (arith, l, a.1.padded))))

    pub grants : (r : Option Handle) → Serves blocks needed n padding_at v w r → IfSome r (Grants n v w)
    grants None a = tt
    grants (Some g) a = split_grants a.1 known (well_served g a)

-- what was counted changes nothing of a split, nor does other padding of the same units
pub split_as : {needed n : ℕ} {padding_at : ℕ → ℕ} {v w : View} {g : Handle} → Splits needed n padding_at v w g → (a b : ℕ) (padded_at : ℕ → ℕ)
    → ((o : ℕ) → padding_at o ≡ padded_at o) → Splits needed n padded_at (record v { accesses = a }) (record w { accesses = b }) g
split_as {w = w} s a b padded_at alike = grind arith

pub aligns_counted : (n align : ℕ) (v w : View) (accesses : ℕ) (r : Option Handle) → Aligns n align (record v { accesses = accesses }) w r → Aligns n align v w r
aligns_counted n align v w accesses None a = a
aligns_counted n align v w accesses (Some g) a = (a.0, split_as a.1 v.accesses w.accesses (padding_to align) (λ o. refl))

-- with an alignment of 1 an aligned request is a plain one
pub one_aligns : (n : ℕ) (v w : View) (r : Option Handle) → Aligns n 1 v w r → Allocates n v w r
one_aligns n v w r a = serves_plain n v w r (subst (λ k. Serves 1 k n (λ offset. 0) v w r) same (unpadded r (aligned_serves n 1 v w r a)))
  where
    same : units_needed n 1 ≡ n
    same = omega arith

    unpadded : (r : Option Handle) → Serves 1 (units_needed n 1) n (padding_to 1) v w r → Serves 1 (units_needed n 1) n (λ offset. 0) v w r
    unpadded None a = a
    unpadded (Some g) a = (a.0, split_as a.1 v.accesses w.accesses (λ offset. 0) (λ o. omega arith))

-- an aligned request that no space can hold
pub past_refuses : (n align : ℕ) (v : View) → IsWellFormed v → max_size < units_needed n align → (accesses : ℕ) → Aligns n align v (record v { accesses = accesses }) None
past_refuses n align v known far accesses = (λ h. absurd (omega (arith, far, fit_small (units_needed n align) v known h.1, known.fits)), refl)

-- an aligned grant begins at a multiple of the alignment
pub multiple : (n align : ℕ) (v w : View) (r : Option Handle) → 1 ≤ align → Aligns n align v w r → IfSome r (λ h. h.offset % align ≡ 0)
multiple n align v w None some a = grind arith
multiple n align v w (Some g) some a = grind (arith, reaches)
