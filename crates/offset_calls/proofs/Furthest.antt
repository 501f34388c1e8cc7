-- What slides by whole steps goes as far to the front as whole steps can take it.
use Rattle.offset_calls.proofs.Common.{◌≡◌, ℕ, zero, suc, ◌+◌, ◌-◌, ◌*◌, ◌<◌, ◌≤◌, Bool, true, false, not, ◌&&◌, ◌⊎◌, List, [], ◌∷◌, ◌++◌, length, Option, Some, None, nat_eq, nat_le, if◌then◌else◌, refl, sym, ap, ap₂, subst}
use Rattle.offset_calls.proofs.Common.{◌∙◌, inl, inr, arith, append-nil, leb-false, le-leb, true≢false, State, Free, is_free, total, free_part, stamp_of_call, start, step, after, Call, Answer}
use Rattle.std.specs.Prelude.{◌%◌, ◌/◌}
use Rattle.std.proofs.lemmas.Nat.{mod_below}
use Rattle.std.proofs.Math.Nat.{mod-le, mod-eq_of_lt, mod-add-div', mod-add-mod, add-mod_right, add-mul, add-mul-mod_self_right}
use Rattle.offset_script.specs.Machine as machine
use Rattle.offset_script.specs.Totals.{live}
use Rattle.offset_script.proofs.{Lists.AreApart, Lists.starts_free, Well.IsWell, Well.well_start}
use Rattle.offset_calls.specs.Calls.{Compacted, compact_by, moves_by, replies_only}
use Rattle.offset_calls.proofs.Common.{is_short_of, option_map}
use Rattle.std.proofs.lemmas.List.Elements.{filter-append}
use Rattle.offset_script.proofs.Lists.{apart_parts}
use Rattle.offset_calls.specs.Room.{Split, after_first, from_first}
use Rattle.offset_calls.specs.{Places.ArePlaces, Places.NoneIsLater, Places.starts, Stepped.first_run, Stepped.given_up, Stepped.kept, Stepped.slid_by, Stepped.slid_run, Stepped.stepped, Stepped.to_the_end, Stepped.used_up}
use Rattle.offset_calls.specs.declared.calls.Call.TheVariants as call
use Rattle.offset_calls.proofs.Followed.{well_calls}

-- ---- remainders
module _ (n c : ℕ) (some : 1 ≤ n) where
  shifted : (x : ℕ) → ((c + x) + (n - c % n)) % n ≡ x % n
  shifted x =
      let whole : (c + x) + (n - c % n) ≡ (x + c / n * n) + n = omega (arith, mod-add-div' c n, mod_below c n some) in
      ap (λ m. m % n) whole ∙ add-mod_right (x + c / n * n) n ∙ add-mul-mod_self_right x (c / n) n

  -- what is added to c leaves the same remainder
  added : (d m : ℕ) → (c + d) % n ≡ (c + m) % n → d % n ≡ m % n
  added d m e =
      sym (shifted d) ∙ sym (mod-add-mod (c + d) n (n - c % n)) ∙ ap (λ k. (k + (n - c % n)) % n) e ∙ mod-add-mod (c + m) n (n - c % n) ∙ shifted m

  -- of the places from c on that are whole steps from c + m the first is c + m % n
  first_place : (m q : ℕ) → c ≤ q → q % n ≡ (c + m) % n → c + m % n ≤ q
  first_place m q l e =
      let there : c + (q - c) ≡ q = omega (arith, l) in
      let same = added (q - c) m (ap (λ k. k % n) there ∙ e) in
      let below = mod-le (q - c) n in
      omega (arith, l, same, below)

-- whole steps off
steps_off : (n o c k : ℕ) → o ≡ c + k * n → c % n ≡ o % n
steps_off n o c k e = sym (ap (λ m. m % n) e ∙ add-mul-mod_self_right c k n)

-- ---- starts
starts-append : (o : ℕ) (xs ys : List machine.Block) → starts o (xs ++ ys) ≡ starts o xs ++ starts (o + total xs) ys
starts-append o [] ys = let z : o ≡ o + 0 = omega arith in ap (λ k. starts k ys) z
starts-append o (x ∷ xs) ys =
    let z : (o + x.size) + total xs ≡ o + (x.size + total xs) = omega arith in
    go (is_free x.tag) (starts-append (o + x.size) xs ys ∙ ap (λ k. starts (o + x.size) xs ++ starts k ys) z)
  where
    go : (t : Bool) → starts (o + x.size) (xs ++ ys) ≡ starts (o + x.size) xs ++ starts (o + (x.size + total xs)) ys
        → (if t then starts (o + x.size) (xs ++ ys) else o ∷ starts (o + x.size) (xs ++ ys)) ≡ (if t then starts (o + x.size) xs else o ∷ starts (o + x.size) xs) ++ starts (o + (x.size + total xs)) ys
    go true e = e
    go false e = ap (λ l. o ∷ l) e

starts_part : (c m s : ℕ) (ys : List machine.Block) → starts c (free_part m s ++ ys) ≡ starts (c + m) ys
starts_part c zero s ys = let z : c ≡ c + 0 = omega arith in ap (λ k. starts k ys) z
starts_part c (suc m) s ys = refl

-- what a run leaves, block by block
stepped_live : (n t : ℕ) (b : machine.Block) (bs : List machine.Block) → is_free b.tag ≡ false → stepped n t (b ∷ bs) ≡ b ∷ stepped n (t + 1) bs
stepped_live n t b bs e = ap (λ (f : Bool). (if f then free_part (kept n b.size bs) t else b ∷ []) ++ stepped n (t + 1) bs) e

stepped_free : (n t : ℕ) (b : machine.Block) (bs : List machine.Block) → is_free b.tag ≡ true → stepped n t (b ∷ bs) ≡ free_part (kept n b.size bs) t ++ stepped n (t + 1) bs
stepped_free n t b bs e = ap (λ (f : Bool). (if f then free_part (kept n b.size bs) t else b ∷ []) ++ stepped n (t + 1) bs) e

starts_live : (o : ℕ) (b : machine.Block) (bs : List machine.Block) → is_free b.tag ≡ false → starts o (b ∷ bs) ≡ o ∷ starts (o + b.size) bs
starts_live o b bs e = ap (λ (f : Bool). if f then starts (o + b.size) bs else o ∷ starts (o + b.size) bs) e

starts_free_first : (o : ℕ) (b : machine.Block) (bs : List machine.Block) → is_free b.tag ≡ true → starts o (b ∷ bs) ≡ starts (o + b.size) bs
starts_free_first o b bs e = ap (λ (f : Bool). if f then starts (o + b.size) bs else o ∷ starts (o + b.size) bs) e

live_first : (b : machine.Block) (bs : List machine.Block) → is_free b.tag ≡ false → live (b ∷ bs) ≡ b ∷ live bs
live_first b bs e = ap (λ (f : Bool). if not f then b ∷ live bs else live bs) e

live_after : (b : machine.Block) (bs : List machine.Block) → is_free b.tag ≡ true → live (b ∷ bs) ≡ live bs
live_after b bs e = ap (λ (f : Bool). if not f then b ∷ live bs else live bs) e

live_part : (m s : ℕ) (ys : List machine.Block) → live (free_part m s ++ ys) ≡ live ys
live_part zero s ys = refl
live_part (suc m) s ys = refl

pub live_stepped : (n t : ℕ) (bs : List machine.Block) → live (stepped n t bs) ≡ live bs
live_stepped n t [] = refl
live_stepped n t (b ∷ bs) = go (is_free b.tag) refl (live_stepped n (t + 1) bs)
  where
    go : (f : Bool) → is_free b.tag ≡ f → live (stepped n (t + 1) bs) ≡ live bs → live (stepped n t (b ∷ bs)) ≡ live (b ∷ bs)
    go true e ih = ap live (stepped_free n t b bs e) ∙ live_part (kept n b.size bs) t (stepped n (t + 1) bs) ∙ ih ∙ sym (live_after b bs e)
    go false e ih = ap live (stepped_live n t b bs e) ∙ live_first b (stepped n (t + 1) bs) e ∙ ap (λ (l : List machine.Block). b ∷ l) ih ∙ sym (live_first b bs e)

-- ---- places
module _ (n : ℕ) (some : 1 ≤ n) where
  -- after a free block, which keeps what whole steps leave
  kept_off : (o c k m : ℕ) → o ≡ c + k * n → o + m ≡ (c + m % n) + (k + m / n) * n
  kept_off o c k m e =
      let whole = mod-add-div' m n in
      let split : (k + m / n) * n ≡ k * n + m / n * n = add-mul k (m / n) n in
      omega (arith, e, whole, split)

  -- the blocks are at places
  places : (t o c from k : ℕ) (bs : List machine.Block) → o ≡ c + k * n → from ≤ c → ArePlaces n from (live bs) (starts o bs) (starts c (stepped n t bs))
  places t o c from k [] e l = tt
  places t o c from k (b ∷ bs) e l = go (is_free b.tag) refl (λ p d f j. places (t + 1) p d f j bs)
    where
      after_free : (ys : List machine.Block) → bs ≡ ys → ((p d f j : ℕ) → p ≡ d + j * n → f ≤ d → ArePlaces n f (live bs) (starts p bs) (starts d (stepped n (t + 1) bs)))
          → ArePlaces n from (live bs) (starts (o + b.size) bs) (starts (c + kept n b.size bs) (stepped n (t + 1) bs))
      after_free [] is ih = subst (λ (l : List machine.Block). ArePlaces n from (live l) (starts (o + b.size) l) (starts (c + kept n b.size l) (stepped n (t + 1) l))) (sym is) tt
      after_free (y ∷ ys) is ih =
          let same : kept n b.size bs ≡ b.size % n = ap (kept n b.size) is in
          subst (λ m. ArePlaces n from (live bs) (starts (o + b.size) bs) (starts (c + m) (stepped n (t + 1) bs))) (sym same)
          (ih (o + b.size) (c + b.size % n) from (k + b.size / n) (kept_off o c k b.size e) (omega (arith, l)))

      go : (f : Bool) → is_free b.tag ≡ f → ((p d f j : ℕ) → p ≡ d + j * n → f ≤ d → ArePlaces n f (live bs) (starts p bs) (starts d (stepped n (t + 1) bs)))
          → ArePlaces n from (live (b ∷ bs)) (starts o (b ∷ bs)) (starts c (stepped n t (b ∷ bs)))
      go true f ih = subst (λ l. ArePlaces n from l (starts o (b ∷ bs)) (starts c (stepped n t (b ∷ bs)))) (sym (live_after b bs f))
          (subst (λ l. ArePlaces n from (live bs) l (starts c (stepped n t (b ∷ bs)))) (sym (starts_free_first o b bs f))
          (subst (λ l. ArePlaces n from (live bs) (starts (o + b.size) bs) l) (sym (ap (starts c) (stepped_free n t b bs f) ∙ starts_part c (kept n b.size bs) t (stepped n (t + 1) bs))) (after_free bs refl ih)))
      go false f ih = subst (λ l. ArePlaces n from l (starts o (b ∷ bs)) (starts c (stepped n t (b ∷ bs)))) (sym (live_first b bs f))
          (subst (λ l. ArePlaces n from (b ∷ live bs) l (starts c (stepped n t (b ∷ bs)))) (sym (starts_live o b bs f))
          (subst (λ l. ArePlaces n from (b ∷ live bs) (o ∷ starts (o + b.size) bs) l) (sym (ap (starts c) (stepped_live n t b bs f) ∙ starts_live c b (stepped n (t + 1) bs) f))
          (l, steps_off n o c k e, ih (o + b.size) (c + b.size) (c + b.size) k (omega (arith, e)) (omega arith))))

  none_left : (o : ℕ) (qs : List ℕ) → ArePlaces n o [] [] qs → NoneIsLater [] qs
  none_left o [] h = tt
  none_left o (q ∷ qs) h = h

  -- wherever these blocks begin, no other places for them are earlier
  abbrev NoOthersEarlier : ℕ → List machine.Block → Type 0
  NoOthersEarlier t bs = (p d f j : ℕ) (zs : List ℕ) → AreApart bs → p ≡ d + j * n → ((q : ℕ) → f ≤ q → q % n ≡ p % n → d ≤ q) → (d ≤ f) ⊎ (starts_free bs ≡ false)
      → ArePlaces n f (live bs) (starts p bs) zs → NoneIsLater (starts d (stepped n t bs)) zs

  -- the blocks are at no later places than any others
  least : (t o c from k : ℕ) (bs : List machine.Block) (qs : List ℕ) → AreApart bs → o ≡ c + k * n → ((q : ℕ) → from ≤ q → q % n ≡ o % n → c ≤ q) → (c ≤ from) ⊎ (starts_free bs ≡ false)
      → ArePlaces n from (live bs) (starts o bs) qs → NoneIsLater (starts c (stepped n t bs)) qs
  least t o c from k [] qs apart e first may h = none_left from qs h
  least t o c from k (b ∷ bs) qs apart e first may h = go (is_free b.tag) refl (λ p d f j zs a e x m. least (t + 1) p d f j bs zs a e x m)
    where
      after_free : (ys : List machine.Block) → bs ≡ ys → is_free b.tag ≡ true → NoOthersEarlier (t + 1) bs → ArePlaces n from (live bs) (starts (o + b.size) bs) qs → NoneIsLater (starts (c + kept n b.size bs) (stepped n (t + 1) bs)) qs
      after_free [] is f ih g =
          subst (λ (l : List machine.Block). NoneIsLater (starts (c + kept n b.size l) (stepped n (t + 1) l)) qs) (sym is)
          (none_left from qs (subst (λ (l : List machine.Block). ArePlaces n from (live l) (starts (o + b.size) l) qs) is g))
      after_free (y ∷ ys) is f ih g =
          let same : kept n b.size bs ≡ b.size % n = ap (kept n b.size) is in
          let begins : c ≤ from = elim may [ inl l ↦ l | inr z ↦ absurd (true≢false (sym f ∙ z)) ] in
          let z : o + b.size ≡ (c + b.size) + k * n = omega (arith, e) in
          let here : (q : ℕ) → from ≤ q → q % n ≡ (o + b.size) % n → c + b.size % n ≤ q =
          λ q l r. first_place n c some b.size q (omega (arith, begins, l)) (r ∙ ap (λ m. m % n) z ∙ add-mul-mod_self_right (c + b.size) k n) in
          let next : starts_free bs ≡ false = ap (λ (x : Bool). x && starts_free bs) (sym f) ∙ apart.0 in
          subst (λ m. NoneIsLater (starts (c + m) (stepped n (t + 1) bs)) qs) (sym same)
          (ih (o + b.size) (c + b.size % n) from (k + b.size / n) qs apart.1 (kept_off o c k b.size e) here (inr next) g)

      after_live : (zs : List ℕ) → NoOthersEarlier (t + 1) bs → ArePlaces n from (b ∷ live bs) (o ∷ starts (o + b.size) bs) zs → NoneIsLater (c ∷ starts (c + b.size) (stepped n (t + 1) bs)) zs
      after_live [] ih g = g
      after_live (z ∷ zs) ih g =
          let at = first z g.0 g.1 in
          (at, ih (o + b.size) (c + b.size) (z + b.size) k zs apart.1 (omega (arith, e)) (λ q l r. omega (arith, at, l)) (inl (omega (arith, at))) g.2)

      go : (f : Bool) → is_free b.tag ≡ f → NoOthersEarlier (t + 1) bs → NoneIsLater (starts c (stepped n t (b ∷ bs))) qs
      go true f ih = subst (λ l. NoneIsLater l qs) (sym (ap (starts c) (stepped_free n t b bs f) ∙ starts_part c (kept n b.size bs) t (stepped n (t + 1) bs)))
          (after_free bs refl f ih (subst (λ l. ArePlaces n from (live bs) l qs) (starts_free_first o b bs f) (subst (λ l. ArePlaces n from l (starts o (b ∷ bs)) qs) (live_after b bs f) h)))
      go false f ih = subst (λ l. NoneIsLater l qs) (sym (ap (starts c) (stepped_live n t b bs f) ∙ starts_live c b (stepped n (t + 1) bs) f))
          (after_live qs ih (subst (λ l. ArePlaces n from (b ∷ live bs) l qs) (starts_live o b bs f) (subst (λ l. ArePlaces n from l (starts o (b ∷ bs)) qs) (live_first b bs f) h)))

-- ---- runs that slide
live-append : (xs ys : List machine.Block) → live (xs ++ ys) ≡ live xs ++ live ys
live-append xs ys = filter-append (λ (b : machine.Block). not (is_free b.tag)) xs ys

slid_starts : (n t c : ℕ) (run : List machine.Block) → starts c (slid_by n t run) ≡ starts c (stepped n t run)
slid_starts n t c run = starts-append c (stepped n t run) (machine.block (given_up n run) (Free (t + length run)) ∷ []) ∙ append-nil (starts c (stepped n t run))

slid_live : (n t : ℕ) (run : List machine.Block) → live (slid_by n t run) ≡ live run
slid_live n t run = live-append (stepped n t run) (machine.block (given_up n run) (Free (t + length run)) ∷ []) ∙ append-nil (live (stepped n t run)) ∙ live_stepped n t run

-- live blocks as they were, at places from o on, and none of them later than at any others
abbrev pub IsFurthest : ℕ → ℕ → List machine.Block → List machine.Block → Type 0
IsFurthest n o bs new = (live new ≡ live bs) × ArePlaces n o (live bs) (starts o bs) (starts o new) × ((qs : List ℕ) → ArePlaces n o (live bs) (starts o bs) qs → NoneIsLater (starts o new) qs)

furthest : (n t o : ℕ) (bs new : List machine.Block) → 1 ≤ n → AreApart bs → live new ≡ live bs → starts o new ≡ starts o (stepped n t bs) → IsFurthest n o bs new
furthest n t o bs new some apart same at = (
  same,
  subst (ArePlaces n o (live bs) (starts o bs)) (sym at) (places n some t o o o 0 bs (omega arith) (omega arith)),
  λ qs h. subst (λ l. NoneIsLater l qs) (sym at) (least n some t o o o 0 bs qs apart (omega arith) (λ q l r. l) (inl (omega arith)) h),
)

-- a run of blocks
pub run_furthest : (size limit : ℕ) → 2 ≤ limit → (cs : List Call) (n : ℕ) (p : Split) → 1 ≤ n → (after cs (start size limit)).blocks ≡ p.front ++ (p.run ++ p.back)
    → IsFurthest n (total p.front) p.run (slid_by n (stamp_of_call (after cs (start size limit))) p.run)
run_furthest size limit low cs n p some is =
    let s = after cs (start size limit) in
    let w : IsWell s = well_calls cs _ (well_start size limit low) in
    let apart = (apart_parts p.run p.back (apart_parts p.front (p.run ++ p.back) (subst AreApart is w.apart)).1).0 in
    furthest n (stamp_of_call s) (total p.front) p.run (slid_by n (stamp_of_call s) p.run) some apart (slid_live n (stamp_of_call s) p.run) (slid_starts n (stamp_of_call s) (total p.front) p.run)

-- all blocks
stamps : (n t u c : ℕ) (bs : List machine.Block) → starts c (stepped n t bs) ≡ starts c (stepped n u bs)
stamps n t u c [] = refl
stamps n t u c (b ∷ bs) = go (is_free b.tag) refl (λ c. stamps n (t + 1) (u + 1) c bs)
  where
    go : (f : Bool) → is_free b.tag ≡ f → ((c : ℕ) → starts c (stepped n (t + 1) bs) ≡ starts c (stepped n (u + 1) bs)) → starts c (stepped n t (b ∷ bs)) ≡ starts c (stepped n u (b ∷ bs))
    go true f ih = ap (starts c) (stepped_free n t b bs f) ∙ starts_part c (kept n b.size bs) t (stepped n (t + 1) bs) ∙ ih (c + kept n b.size bs) ∙ sym (ap (starts c) (stepped_free n u b bs f) ∙ starts_part c (kept n b.size bs) u (stepped n (u + 1) bs))
    go false f ih = ap (starts c) (stepped_live n t b bs f) ∙ starts_live c b (stepped n (t + 1) bs) f ∙ ap (λ l. c ∷ l) (ih (c + b.size)) ∙ sym (ap (starts c) (stepped_live n u b bs f) ∙ starts_live c b (stepped n (u + 1) bs) f)

module _ (n t : ℕ) (some : 1 ≤ n) where
  -- the blocks are as if all slid
  abbrev AreSlid : ℕ → List machine.Block → Option Split → Type 0
  AreSlid u bs None = (c : ℕ) → starts c bs ≡ starts c (stepped n u bs)
  AreSlid u bs (Some p) = (live (p.front ++ (slid_by n t p.run ++ p.back)) ≡ live bs) × ((c : ℕ) → starts c (p.front ++ (slid_by n t p.run ++ p.back)) ≡ starts c (stepped n u bs))

  -- a block before the first that has a step
  before : (u : ℕ) (b d : machine.Block) (bs : List machine.Block) → (is_free b.tag ≡ true → b.size < n) → (c : ℕ) → starts c (stepped n u (b ∷ d ∷ bs)) ≡ starts c (b ∷ stepped n (u + 1) (d ∷ bs))
  before u b d bs few c = go (is_free b.tag) refl
    where
      go : (f : Bool) → is_free b.tag ≡ f → starts c (stepped n u (b ∷ d ∷ bs)) ≡ starts c (b ∷ stepped n (u + 1) (d ∷ bs))
      go true f = ap (starts c) (stepped_free n u b (d ∷ bs) f) ∙ starts_part c (b.size % n) u (stepped n (u + 1) (d ∷ bs)) ∙ ap (λ m. starts (c + m) (stepped n (u + 1) (d ∷ bs))) (mod-eq_of_lt (few f)) ∙ sym (starts_free_first c b (stepped n (u + 1) (d ∷ bs)) f)
      go false f = ap (starts c) (stepped_live n u b (d ∷ bs) f)

  one_more : (c : ℕ) (b : machine.Block) (xs ys : List machine.Block) → ((c : ℕ) → starts c xs ≡ starts c ys) → starts c (b ∷ xs) ≡ starts c (b ∷ ys)
  one_more c b xs ys same = ap (λ l. if is_free b.tag then l else c ∷ l) (same (c + b.size))

  slid_before : (u : ℕ) (b d : machine.Block) (bs : List machine.Block) → (is_free b.tag ≡ true → b.size < n) → (r : Option Split) → AreSlid (u + 1) (d ∷ bs) r → AreSlid u (b ∷ d ∷ bs) (option_map (after_first b) r)
  slid_before u b d bs few None h = λ c. one_more c b (d ∷ bs) (stepped n (u + 1) (d ∷ bs)) h ∙ sym (before u b d bs few c)
  slid_before u b d bs few (Some p) h = (
    ap (λ (l : List machine.Block). if not (is_free b.tag) then b ∷ l else l) h.0,
    λ c. one_more c b (p.front ++ (slid_by n t p.run ++ p.back)) (stepped n (u + 1) (d ∷ bs)) h.1 ∙ sym (before u b d bs few c),
  )

  -- the first of two blocks, with what is known of those after it
  abbrev with_rest : machine.Block → machine.Block → List machine.Block → Option Split → Bool → Option Split
  with_rest b d bs r x = if x then Some (from_first b (to_the_end (d ∷ bs))) else option_map (after_first b) r

  next_slid : (u o : ℕ) (b d : machine.Block) (bs : List machine.Block) (r : Option Split) → AreSlid (u + 1) (d ∷ bs) r → (f : Bool) → is_free b.tag ≡ f → (m : Bool) → nat_le n b.size ≡ m
      → AreSlid u (b ∷ d ∷ bs) (with_rest b d bs r (is_free b.tag && (nat_le n b.size && nat_le 0 (o + b.size))))
  next_slid u o b d bs r ih true f true e = subst (λ x. AreSlid u (b ∷ d ∷ bs) (with_rest b d bs r x)) (sym (ap₂ (λ (x y : Bool). x && (y && nat_le 0 (o + b.size))) f e ∙ le-leb 0 (o + b.size) (omega arith))) (
    ap live (append-nil (slid_by n t (b ∷ d ∷ bs))) ∙ slid_live n t (b ∷ d ∷ bs),
    λ c. ap (starts c) (append-nil (slid_by n t (b ∷ d ∷ bs))) ∙ slid_starts n t c (b ∷ d ∷ bs) ∙ stamps n t u c (b ∷ d ∷ bs),
  )
  next_slid u o b d bs r ih true f false e = subst (λ x. AreSlid u (b ∷ d ∷ bs) (with_rest b d bs r x)) (sym (ap₂ (λ (x y : Bool). x && (y && nat_le 0 (o + b.size))) f e)) (slid_before u b d bs (λ z. leb-false n b.size e) r ih)
  next_slid u o b d bs r ih false f m e = subst (λ x. AreSlid u (b ∷ d ∷ bs) (with_rest b d bs r x)) (sym (ap (λ (x : Bool). x && (nat_le n b.size && nat_le 0 (o + b.size))) f))
      (slid_before u b d bs (λ z. absurd (true≢false (sym z ∙ f))) r ih)

  last_slid : (c u : ℕ) (b : machine.Block) (f : Bool) → is_free b.tag ≡ f → starts c (b ∷ []) ≡ starts c (stepped n u (b ∷ []))
  last_slid c u b true f = starts_free_first c b [] f ∙ sym (ap (starts c) (stepped_free n u b [] f))
  last_slid c u b false f = sym (ap (starts c) (stepped_live n u b [] f))

  all_slid : (u o : ℕ) (bs : List machine.Block) → AreSlid u bs (first_run to_the_end n 0 o bs)
  all_slid u o [] = λ c. refl
  all_slid u o (b ∷ []) = λ c. last_slid c u b (is_free b.tag) refl
  all_slid u o (b ∷ d ∷ bs) = next_slid u o b d bs (first_run to_the_end n 0 (o + b.size) (d ∷ bs)) (all_slid (u + 1) (o + b.size) (d ∷ bs)) (is_free b.tag) refl (nat_le n b.size) refl

-- a compaction that is not refused
module _ (n : ℕ) (some : 1 ≤ n) (s : State) (w : IsWell s) where
  slides : (p : Split) (x : Bool) → AreSlid n (stamp_of_call s) some 0 s.blocks (Some p)
      → ((if x then replies_only s (Answer machine.Refused) else record { state = slid_run n s p; reply = Compacted (moves_by n 0 0 s.blocks) }).reply ≡ Answer machine.Refused → ⊥)
      → IsFurthest n 0 s.blocks (if x then replies_only s (Answer machine.Refused) else record { state = slid_run n s p; reply = Compacted (moves_by n 0 0 s.blocks) }).state.blocks
  slides p true h done = absurd (done refl)
  slides p false h done = furthest n 0 0 s.blocks (slid_run n s p).blocks some w.apart h.0 (h.1 0)

  compacts : (o : Option Split) → AreSlid n (stamp_of_call s) some 0 s.blocks o → ((compact_by n s o).reply ≡ Answer machine.Refused → ⊥) → IsFurthest n 0 s.blocks (compact_by n s o).state.blocks
  compacts None h done = furthest n 0 0 s.blocks s.blocks some w.apart refl (h 0)
  compacts (Some p) h done = slides p (nat_eq (used_up n p.run) 0 && is_short_of 1 s) h done

pub compacted_furthest : (size limit : ℕ) → 2 ≤ limit → (cs : List Call) (n : ℕ) → 1 ≤ n → ((step (call.CompactBy n) (after cs (start size limit))).reply ≡ Answer machine.Refused → ⊥)
    → IsFurthest n 0 (after cs (start size limit)).blocks (step (call.CompactBy n) (after cs (start size limit))).state.blocks
compacted_furthest size limit low cs n some done =
    let s = after cs (start size limit) in
    compacts n some s (well_calls cs _ (well_start size limit low)) (first_run to_the_end n 0 0 s.blocks) (all_slid n (stamp_of_call s) some 0 0 s.blocks) done
