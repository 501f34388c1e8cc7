-- The sums of sizes, and the numbers of live blocks, that every call keeps.
use Rattle.offset_script.proofs.Common.{◌≡◌, ℕ, zero, suc, ◌+◌, ◌≤◌, true, false, not, cond, ◌&&◌, ◌||◌, List, [], ◌∷◌, ◌++◌, length, nat_le, nat_lt, if◌then◌else◌, refl, sym, ap, subst, ◌∙◌, inl}
use Rattle.offset_script.proofs.Common.{inr, arith, le-leb, length-append, sum, filter-append, max_size, Block, is_free, total, free_sizes, Place, chosen_place, free_part, ends_live, coalesce, State}
use Rattle.offset_script.proofs.Common.{Outcome, start, step, after, is_short_of, returns_only, request, grant_or_refuse, stamp_of_call, stamp_of_padding, largest, Command, KeepsSpace, cond_both}
use Rattle.offset_script.proofs.Lists.{sums_coalesced, whole, total-append, AreFree, coalesced}
use Rattle.offset_script.proofs.{Found.chosen_at, Found.found_at, Well.granted_blocks, Well.free_part_is, Nests.does}
use Rattle.std.proofs.lemmas.List.Sums.{sum_by-cons}
use Rattle.offset_script.specs.Totals.{requested_units, live, added_units, added_by}
use Rattle.offset_script.specs.declared.scripts.Command.TheVariants as command
use Rattle.offset_script.specs.Machine as machine

total_coalesce : (xs : List Block) (n s : ℕ) (ys : List Block) → total (coalesce xs n s ys) ≡ total xs + (n + total ys)
total_coalesce xs n s ys = let e = sums_coalesced total total-append xs n s ys (coalesced xs n s ys) in omega arith

total_granted : (p : Place) (n padding front k rest : ℕ) → padding + n ≤ p.block.size → total (granted_blocks p n padding front k rest) ≡ total (whole p)
total_granted p n padding front k rest h = search (arith, total-append, free_part_is)

-- how many blocks are live
abbrev live_blocks : List Block → ℕ
live_blocks bs = length (live bs)

live-append : (xs ys : List Block) → live_blocks (xs ++ ys) ≡ live_blocks xs + live_blocks ys
live-append xs ys = ap length (filter-append (λ (b : Block). not (is_free b.tag)) xs ys) ∙ length-append (live xs) (live ys)

live_free_part : (n s : ℕ) → live_blocks (free_part n s) ≡ 0
live_free_part zero s = refl
live_free_part (suc n) s = refl

live_length : (bs : List Block) → live_blocks bs ≤ length bs
live_length [] = omega arith
live_length (b ∷ bs) = let ih = live_length bs in elim (is_free b.tag) as (λ x. length (cond (not x) (b ∷ live bs) (live bs)) ≤ suc (length bs)) [ true ↦ omega arith | false ↦ omega arith ]

live_more : (b : Block) (bs : List Block) → live_blocks bs ≤ live_blocks (b ∷ bs)
live_more b bs = elim (is_free b.tag) as (λ x. live_blocks bs ≤ length (cond (not x) (b ∷ live bs) (live bs))) [ true ↦ omega arith | false ↦ omega arith ]

live_none : (fs : List Block) → AreFree fs → live_blocks fs ≡ 0
live_none [] f = refl
live_none (b ∷ fs) f = ap (λ x. length (cond (not x) (b ∷ live fs) (live fs))) f.0 ∙ live_none fs f.1

live_coalesce : (xs : List Block) (n s : ℕ) (ys : List Block) → live_blocks (coalesce xs n s ys) ≡ live_blocks xs + live_blocks ys
live_coalesce xs n s ys =
    let c = coalesced xs n s ys in
    let e = sums_coalesced live_blocks live-append xs n s ys c in
    omega (arith, live_none c.last c.end.free, live_none c.first c.start.free)

live_granted : (p : Place) (n padding front k rest : ℕ) → live_blocks (granted_blocks p n padding front k rest) ≡ live_blocks p.before + (1 + live_blocks p.after)
live_granted p n padding front k rest = search (arith, live-append, live_free_part)

-- a command that keeps the space keeps the sum
total_kept : (c : Command) (s : State) → KeepsSpace c → total (step c s).state.blocks ≡ total s.blocks
total_kept c s k = elim (does c s k) [
  | inl q ↦ ap (λ (o : Outcome). total o.state.blocks) q.is
  | inr (inl d) ↦ ap (λ (o : Outcome). total o.state.blocks) d.is ∙ total_granted d.place (requested_units c) d.padding (stamp_of_padding s) (s.grants + 1) (stamp_of_call s) d.within
      ∙ ap total (sym (chosen_at d.needed s.blocks d.place d.chose).0)
  | inr (inr d) ↦ ap (λ (o : Outcome). total o.state.blocks) d.is ∙ total_coalesce d.place.before d.place.block.size (stamp_of_call s) d.place.after
      ∙ sym (total-append d.place.before (d.place.block ∷ d.place.after)) ∙ ap total (sym (found_at d.number s.blocks d.place d.found).0)
]

-- what a command leaves has as many units more as it adds
abbrev pub Adds : Command → State → Outcome → Type 0
Adds c s o = total o.state.blocks ≡ total s.blocks + added_units c o.answer

adds_none : (n m : ℕ) → n ≡ m → n ≡ m + 0
adds_none n m e = omega arith

pub adds_step : (c : Command) (s : State) → Adds c s (step c s)
adds_step command.Reset s = refl
adds_step (command.Extend zero) s = adds_none _ _ refl
adds_step (command.Extend (suc more)) s =
    cond_both (nat_lt max_size (total s.blocks + suc more) || (ends_live s.blocks && is_short_of 1 s)) _ _ (Adds (command.Extend (suc more)) s)
    (λ e. adds_none _ _ refl) (λ e. let j = total_coalesce s.blocks (suc more) (stamp_of_call s) [] in omega arith)
adds_step c s = adds_none _ _ (total_kept c s tt)

pub adds_all : (cs : List Command) (s : State) → total (after cs s).blocks ≡ total s.blocks + added_by cs s
adds_all [] s = omega arith
adds_all (c ∷ cs) s = let a = adds_step c s in let ih = adds_all cs (step c s).state in omega arith

-- the live and the free units of a list
parted : (bs : List Block) → total (live bs) + sum (free_sizes bs) ≡ total bs
parted [] = refl
parted (b ∷ bs) = let e = sum_by-cons (λ n. n) b.size (free_sizes bs) in search (arith, (parted bs), e, cond, sum)

pub sums_law : (size limit : ℕ) (cs : List Command) → let bs = (after cs (start size limit)).blocks in total (live bs) + sum (free_sizes bs) ≡ size + added_by cs (start size limit)
sums_law size limit cs = let p = parted (after cs (start size limit)).blocks in let a = adds_all cs (start size limit) in omega arith

-- an outcome where no more than limit - 2 blocks are live
abbrev HasFew : State → Outcome → Type 0
HasFew s o = (live_blocks o.state.blocks + 2 ≤ s.limit) × (o.state.limit ≡ s.limit)

few_kept : (c : Command) (s : State) → KeepsSpace c → live_blocks s.blocks + 2 ≤ s.limit → HasFew s (step c s)
few_kept c s k h = elim (does c s k) [
  | inl q ↦ subst (HasFew s) (sym q.is) (h, refl)
  | inr (inl d) ↦
      let l = live_granted d.place (requested_units c) d.padding (stamp_of_padding s) (s.grants + 1) (stamp_of_call s) in
      let e = ap length (chosen_at d.needed s.blocks d.place d.chose).0 ∙ length-append d.place.before (d.place.block ∷ d.place.after) in
      subst (HasFew s) (sym d.is) (omega (arith, d.room, live_length d.place.before, live_length d.place.after), refl)
  | inr (inr d) ↦
      let e = ap live_blocks (found_at d.number s.blocks d.place d.found).0 ∙ live-append d.place.before (d.place.block ∷ d.place.after) in
      let l = live_coalesce d.place.before d.place.block.size (stamp_of_call s) d.place.after in
      subst (HasFew s) (sym d.is) (omega (arith, live_more d.place.block d.place.after), refl)
]

few_step : (c : Command) (s : State) → live_blocks s.blocks + 2 ≤ s.limit → HasFew s (step c s)
few_step command.Reset s h = (omega arith, refl)
few_step (command.Extend zero) s h = (h, refl)
few_step (command.Extend (suc more)) s h = cond_both (nat_lt max_size (total s.blocks + suc more) || (ends_live s.blocks && is_short_of 1 s)) _ _ (HasFew s)
    (λ e. (h, refl)) (λ e. (let j = live_coalesce s.blocks (suc more) (stamp_of_call s) [] in omega arith, refl))
few_step c s h = few_kept c s tt h

few_all : (cs : List Command) (s : State) (limit : ℕ) → s.limit ≡ limit → live_blocks s.blocks + 2 ≤ limit → live_blocks (after cs s).blocks + 2 ≤ limit
few_all [] s limit e h = h
few_all (c ∷ cs) s limit e h = let f = few_step c s (omega arith) in few_all cs (step c s).state limit (f.1 ∙ e) (omega (arith, f.0))

pub few_law : (size limit : ℕ) → 2 ≤ limit → (cs : List Command) → live_blocks (after cs (start size limit)).blocks + 2 ≤ limit
few_law size limit h cs = few_all cs (start size limit) limit refl h

-- a full space is short of any number of blocks
short_too : (s : State) (spare : ℕ) → 1 ≤ spare → s.limit ≤ length s.blocks + 1 → is_short_of spare s ≡ true
short_too s spare some h = le-leb s.limit (length s.blocks + spare) (omega arith)

refused : (s : State) (spare needed n : ℕ) (padding_at : ℕ → ℕ) → 1 ≤ spare → s.limit ≤ length s.blocks + 1 → (request s spare needed n padding_at).answer ≡ machine.Refused
refused s spare needed n padding_at some h = ap (λ b. (if b then returns_only s machine.Refused else grant_or_refuse s n padding_at (chosen_place needed s.blocks)).answer) (short_too s spare some h)

pub full_refuses : (s : State) (n : ℕ) → s.limit ≤ length s.blocks + 1 → (step (command.Alloc n) s).answer ≡ machine.Refused
full_refuses s n h = refused s 1 n n (λ offset. 0) (omega arith) h

pub full_refuses_aligned : (s : State) (n align : ℕ) → s.limit ≤ length s.blocks + 1 → (step (command.Align n align) s).answer ≡ machine.Refused
full_refuses_aligned s n align h = search (arith, cond_both, nat_le, nat_lt, full_refuses, refused)

pub full_report : (s : State) → s.limit ≤ length s.blocks + 1 → (step command.Report s).answer ≡ machine.Report 0 0
full_report s h = ap (λ b. if b then machine.Report 0 0 else machine.Report (sum (free_sizes s.blocks)) (largest (free_sizes s.blocks))) (short_too s 1 (omega arith) h)
