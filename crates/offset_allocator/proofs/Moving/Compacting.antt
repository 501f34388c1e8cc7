-- The whole allocator after its live ranges were moved to the front.
use Rattle.offset_allocator.proofs.{Emptied.no_name, Emptied.none_at, Linking.Exchange.unused}
use Rattle.offset_allocator.proofs.{Sound.Fields, Sound.AreSound, Sound.shown, Sound.well_counted}
use Rattle.offset_allocator.proofs.Common.{◌≡◌, ℕ, ◌+◌, Bool, true, false, not, ◌&&◌, Some, None, List, [], ◌∷◌, ◌++◌, length, replicate, if◌then◌else◌, nat_eq, refl, sym, ap, ap₂}
use Rattle.offset_allocator.proofs.Common.{subst, ◌∙◌, arith, append-nil, AllByRecursion, nat_tests, length-replicate, ext_get_or, down, Block, View}
use Rattle.offset_allocator.proofs.Common.{Place, one, units, free_sizes, count_named, count_in_bin, bin_at, push_all, IsWellFormed, live, moves}
use Rattle.offset_allocator.proofs.Common.{move_of, first_free, gathered, Compacts, blocks, bins_in, AreInBins, common_steps, drop}
use Rattle.offset_allocator.proofs.Moving.Sliding.{first_used, first_idle, live_used, live_idle, moves_used, moves_idle}
use Rattle.offset_allocator.specs.Names.{free_blocks, names_of}

abbrev pub AreUsed : List Block → Type 0
AreUsed bs = AllByRecursion (λ b. b.used ≡ true) bs

-- used blocks
pub used_append : (bs cs : List Block) → AreUsed bs → AreUsed cs → AreUsed (bs ++ cs)
used_append [] cs h k = k
used_append (b ∷ bs) cs h k = (h.0, used_append bs cs h.1 k)

pub live_are_used : (bs : List Block) → AreUsed (live bs)
live_are_used [] = tt
live_are_used (b ∷ bs) = go b.used refl (live_are_used bs)
  where
    go : (u : Bool) → b.used ≡ u → AreUsed (live bs) → AreUsed (live (b ∷ bs))
    go true e h = subst AreUsed (sym (live_used b bs e)) (e, h)
    go false e h = subst AreUsed (sym (live_idle b bs e)) h

pub live_whole : (bs : List Block) → AreUsed bs → live bs ≡ bs
live_whole [] h = refl
live_whole (b ∷ bs) h = live_used b bs h.0 ∙ ap (λ l. b ∷ l) (live_whole bs h.1)

pub live_append : (bs cs : List Block) → live (bs ++ cs) ≡ live bs ++ live cs
live_append [] cs = grind arith
live_append (b ∷ bs) cs = grind (arith, live_append bs cs)

none_listed : (bs : List Block) → AreUsed bs → (c x : ℕ) → count_in_bin c x bs ≡ 0
none_listed [] h c x = refl
none_listed (b ∷ bs) h c x = let ih = none_listed bs h.1 c x in omega (arith, ih, ap (λ (u : Bool). one (not u && (nat_eq c (down b.size) && nat_eq x b.name))) h.0)

-- bins with no block
pub none_filed : (ls : List (List ℕ)) (bs : List Block) → length ls ≡ 256 → AreUsed bs → AreInBins bs ls → ls ≡ replicate 256 []
none_filed ls bs long used f = ext_get_or [] ls _ (long ∙ sym (length-replicate {A = List ℕ} 256 [])) (λ c _. no_name (bin_at ls c) (λ y. f c y ∙ none_listed bs used c y) ∙ sym (none_at c))

-- the free blocks of a list
pub free_past : (b : Block) (bs : List Block) → b.used ≡ true → free_blocks (b ∷ bs) ≡ free_blocks bs
free_past b bs u = ap (λ (t : Bool). if not t then b ∷ free_blocks bs else free_blocks bs) u

pub free_here : (b : Block) (bs : List Block) → b.used ≡ false → free_blocks (b ∷ bs) ≡ b ∷ free_blocks bs
free_here b bs u = ap (λ (t : Bool). if not t then b ∷ free_blocks bs else free_blocks bs) u

none_free : (bs : List Block) → AreUsed bs → free_blocks bs ≡ []
none_free [] a = refl
none_free (b ∷ bs) a = free_past b bs a.0 ∙ none_free bs a.1

-- the first free block
pub record IsFirst (bs : List Block) (x : ℕ) : Type 0 where
  pub place : Place
  pub is : bs ≡ place.before ++ place.block ∷ place.after
  pub name : place.block.name ≡ x
  pub idle : place.block.used ≡ false
  pub used : AreUsed place.before
  pub live : live bs ≡ place.before ++ live place.after
  pub sizes : free_sizes bs ≡ place.block.size ∷ free_sizes place.after
  pub moves : (i : ℕ) → moves i i bs ≡ moves (i + (units place.before + place.block.size)) (i + units place.before) place.after
  pub rest : drop 1 (free_blocks bs) ≡ free_blocks place.after
  pub all : free_blocks bs ≡ place.block ∷ free_blocks place.after

stays : (i : ℕ) (b : Block) → move_of i i b ≡ []
stays i b = grind (arith, nat_tests)

pub first_is : (bs : List Block) (x : ℕ) → first_free bs ≡ Some x → IsFirst bs x
first_is [] x e = absurd (cc)
first_is (b ∷ bs) x e = go b.used refl (λ h. first_is bs x h)
  where
    go : (u : Bool) → b.used ≡ u → (first_free bs ≡ Some x → IsFirst bs x) → IsFirst (b ∷ bs) x
    go true u rest =
        let f : IsFirst bs x = rest (sym (first_used b bs u) ∙ e) in
        let p : Place = f.place in
        let from : (i : ℕ) → (i + b.size) + (units p.before + p.block.size) ≡ i + ((b.size + units p.before) + p.block.size) = λ i. omega arith in
        let to : (i : ℕ) → (i + b.size) + units p.before ≡ i + (b.size + units p.before) = λ i. omega arith in
        record {
          place = record { before = b ∷ p.before; block = p.block; after = p.after };
          is = ap (λ l. b ∷ l) f.is;
          name = f.name;
          idle = f.idle;
          used = (u, f.used);
          live = live_used b bs u ∙ ap (λ l. b ∷ l) f.live;
          sizes = ap (λ (v : Bool). if v then free_sizes bs else b.size ∷ free_sizes bs) u ∙ f.sizes;
          moves = λ i. moves_used i i b bs u ∙ ap (λ l. l ++ moves (i + b.size) (i + b.size) bs) (stays i b) ∙ f.moves (i + b.size) ∙ ap₂ (λ j k. moves j k p.after) (from i) (to i);
          rest = ap (drop 1) (free_past b bs u) ∙ f.rest;
          all = free_past b bs u ∙ f.all;
        }
    go false u rest =
        let from : (i : ℕ) → i + b.size ≡ i + (0 + b.size) = λ i. omega arith in
        let to : (i : ℕ) → i ≡ i + 0 = λ i. omega arith in
        record {
          place = record { before = []; block = b; after = bs };
          is = refl;
          name = cc;
          idle = u;
          used = tt;
          live = live_idle b bs u;
          sizes = ap (λ (v : Bool). if v then free_sizes bs else b.size ∷ free_sizes bs) u;
          moves = λ i. moves_idle i i b bs u ∙ ap₂ (λ j k. moves j k bs) (from i) (to i);
          rest = ap (drop 1) (free_here b bs u);
          all = free_here b bs u;
        }

-- no free block
pub record IsPacked (bs : List Block) : Type 0 where
  pub used : AreUsed bs
  pub sizes : free_sizes bs ≡ []
  pub moves : (i : ℕ) → moves i i bs ≡ []

pub packed : (bs : List Block) → first_free bs ≡ None → IsPacked bs
packed [] e = record { used = tt; sizes = refl; moves = λ i. refl }
packed (b ∷ bs) e = go b.used refl (λ h. packed bs h)
  where
    go : (u : Bool) → b.used ≡ u → (first_free bs ≡ None → IsPacked bs) → IsPacked (b ∷ bs)
    go true u rest = grind (arith, common_steps, first_used, moves_used, stays)
    go false u rest = grind (arith, common_steps, first_idle)

-- the live blocks stay
pub compacts_live : (v w : View) → Compacts v w → live w.blocks ≡ live v.blocks
compacts_live v w c = grind (arith, live_append, live_whole, live_are_used, append-nil)

module _ (f : Fields) (s : AreSound f) where
  abbrev v : View
  v = shown f

  abbrev ls : List (List ℕ)
  ls = bins_in f.max f.cells.bins

  w : IsWellFormed v
  w = well_counted (shown (record f { accesses = 0 })) f.accesses s.well

  -- a space with none
  pub stays_packed : (accesses : ℕ) → first_free (blocks f.cells.chain f.last) ≡ None → Compacts (shown f) (shown (record f { accesses = accesses }))
  stays_packed accesses e =
      let r = packed v.blocks e in
      let t = unused s.space (omega (arith, w.room, s.memory)) in
      let whole = live_whole v.blocks r.used in
      let none : gathered t.0 (free_sizes v.blocks) ≡ [] = ap (gathered t.0) r.sizes in
      record {
        name = t.0;
        below = omega (arith, t.1, s.memory);
        first = rw e tt;
        names = sym (ap (λ (bs : List Block). v.unused ++ names_of (drop 1 bs)) (none_free v.blocks r.used) ∙ append-nil v.unused);
        absent = ap (count_named t.0) whole ∙ t.2;
        view = sym (ap₂ (λ (bs g : List Block). record v { blocks = bs ++ g; bins = push_all g (replicate 256 []); accesses = accesses }) whole none
            ∙ ap₂ (λ (bs : List Block) (bins : List (List ℕ)). record v { blocks = bs; bins = bins; accesses = accesses }) (append-nil v.blocks) (sym (none_filed v.bins v.blocks w.classes r.used w.binned)));
      }
