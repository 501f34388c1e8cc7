-- Releases in a row leave the same space in any order.
use Rattle.offset_script.proofs.Common.{◌≡◌, ℕ, zero, suc, ◌+◌, true, false, ◌&&◌, ◌||◌, ◌≤◌, List, [], ◌∷◌, ◌++◌, sum, Option, Some, None, is_some, nat_eq, nat_lt, nat_le, if◌then◌else◌, refl, sym}
use Rattle.offset_script.proofs.Common.{ap, ap₂, subst, subst₂, ◌∙◌, arith, eq-eqb, eqb-true, append_assoc, map-append, true≢false, false≢true, false_from_ne_true, Command, rows_below, Tag, Live}
use Rattle.offset_script.proofs.Common.{Free, Block, block, is_free, has_number, total, Place, fits, choose, chosen_place, place_of, coalesce, State, start, step, after, request, grant_or_refuse}
use Rattle.offset_script.proofs.Common.{release, size_at, stamp_of_call, holder, outline, widen, collapse, without_offset, releases, IsCollapse, list_any, option_map_or, or-false}
use Rattle.offset_script.proofs.Pairs.{Kind, Lives, Frees, Pair, left_tag, right_tag, left, right, lefts, rights, same_free, same_short, same_free_sizes, same_refusal, IsSamePlace, neither, both}
use Rattle.offset_script.proofs.{Pairs.same_place_of, Well.IsWell, Well.well_start, Well.well_after, Well.well_step, Found.found_at, Found.not_found, Similar.HasSameNumber, Similar.ArePaired}
use Rattle.offset_script.proofs.{Similar.paired, Tests.if_same}
use Rattle.offset_script.proofs.Lists.{AreFree, coalesced, apart_coalesce, count_coalesce, count, hit, hit_self, number_of, count-append, starts_free, AreApart, apart_parts}
use Rattle.offset_script.specs.declared.scripts.Command.TheVariants as command
use Rattle.offset_script.specs.Machine as machine

-- sizes, and the numbers of live blocks
abbrev Outline : Type 0
Outline = List (ℕ × Option ℕ)

-- one block before collapsed ones
abbrev collapse_block : List ℕ → ℕ → Option ℕ → Outline → Outline
collapse_block ks n h o = if option_map_or (λ k. list_any (nat_eq k) ks) h true then widen n o else (n, h) ∷ o

-- collapsing twice
widen-widen : (n m : ℕ) (o : Outline) → widen n (widen m o) ≡ widen (n + m) o
widen-widen n m [] = refl
widen-widen n m (b ∷ o) = search (arith)

collapse-widen : (ks : List ℕ) (n : ℕ) (o : Outline) → collapse ks (widen n o) ≡ widen n (collapse ks o)
collapse-widen ks n [] = refl
collapse-widen ks n (b ∷ o) = search (arith, widen-widen)

collapse_block_more : (k : ℕ) (ks : List ℕ) (n : ℕ) (h : Option ℕ) (o p : Outline) → collapse ks o ≡ p → collapse ks (collapse_block (k ∷ []) n h o) ≡ collapse_block (k ∷ ks) n h p
collapse_block_more k ks n None o p ih = collapse-widen ks n o ∙ ap (widen n) ih
collapse_block_more k ks n (Some j) o p ih = search (arith, nat_eq, collapse-widen, or-false)

collapse_one_more : (k : ℕ) (ks : List ℕ) (o : Outline) → collapse ks (collapse (k ∷ []) o) ≡ collapse (k ∷ ks) o
collapse_one_more k ks [] = refl
collapse_one_more k ks (b ∷ o) = collapse_block_more k ks b.0 b.1 (collapse (k ∷ []) o) (collapse (k ∷ ks) o) (collapse_one_more k ks o)

-- where nothing is to be released
no_hit : (t : Tag) (j : ℕ) → t ≡ Live j → (c : ℕ) → hit (Live j) t + c ≡ 0 → ⊥
no_hit t j e c z = let h : hit (Live j) t ≡ 1 = ap (hit (Live j)) e ∙ hit_self (Live j) in omega arith

widen_apart : (n : ℕ) (bs : List Block) → starts_free bs ≡ false → widen n (outline bs) ≡ (n, None) ∷ outline bs
widen_apart n [] e = refl
widen_apart n (b ∷ bs) e = search (arith, true≢false)

-- a block that is not released stays
stays : (ks : List ℕ) (n : ℕ) (t : Tag) (bs : List Block) → ((j : ℕ) → t ≡ Live j → list_any (nat_eq j) ks ≡ false) → (is_free t && starts_free bs) ≡ false
    → collapse_block ks n (holder t) (outline bs) ≡ (n, holder t) ∷ outline bs
stays ks n (Live j) bs h a = ap (λ b. if b then widen n (outline bs) else (n, Some j) ∷ outline bs) (h j refl)
stays ks n (Free s) bs h a = widen_apart n bs a

not_among : (ks : List ℕ) (b : Block) (bs : List Block) → ((j : ℕ) → list_any (nat_eq j) ks ≡ true → count (Live j) (b ∷ bs) ≡ 0) → (j : ℕ) → b.tag ≡ Live j
    → list_any (nat_eq j) ks ≡ false
not_among ks b bs h j e = false_from_ne_true (list_any (nat_eq j) ks) (λ f. no_hit b.tag j e (count (Live j) bs) (h j f))

unchanged : (ks : List ℕ) (bs : List Block) → AreApart bs → ((j : ℕ) → list_any (nat_eq j) ks ≡ true → count (Live j) bs ≡ 0) → collapse ks (outline bs) ≡ outline bs
unchanged ks [] a h = refl
unchanged ks (b ∷ bs) a h = ap (collapse_block ks b.size (holder b.tag)) (unchanged ks bs a.1 (λ j e. let z = h j e in omega arith)) ∙ stays ks b.size b.tag bs (not_among ks b bs h) a.0

none_of : (k : ℕ) (bs : List Block) → count (Live k) bs ≡ 0 → (j : ℕ) → list_any (nat_eq j) (k ∷ []) ≡ true → count (Live j) bs ≡ 0
none_of k bs z j e = subst (λ x. count (Live x) bs ≡ 0) (sym (eqb-true j k (sym (or-false (nat_eq j k)) ∙ e))) z

free_holder : (t : Tag) → is_free t ≡ true → holder t ≡ None
free_holder (Live j) e = absurd (false≢true e)
free_holder (Free s) e = refl

-- free blocks after units that are free, and before them
free_after : (ks : List ℕ) (n : ℕ) (gs : List Block) (o : Outline) → AreFree gs → widen n (collapse ks (outline gs ++ o)) ≡ widen (n + total gs) (collapse ks o)
free_after ks n [] o f = ap (λ m. widen m (collapse ks o)) (omega arith)
free_after ks n (b ∷ gs) o f = search (arith, (free_after ks (n + b.size) gs o f.1), free_holder, widen-widen)

free_before : (ks : List ℕ) (n : ℕ) (fs : List Block) (o p : Outline) → AreFree fs → collapse ks o ≡ widen n p → collapse ks (outline fs ++ o) ≡ widen (total fs + n) p
free_before ks n [] o p f e = e ∙ ap (λ m. widen m p) (omega arith)
free_before ks n (b ∷ fs) o p f e = search (arith, (free_before ks n fs o p f.1 e), free_holder, widen-widen)

-- a collapse goes by the collapse of what comes last
collapse_same : (ks : List ℕ) (o p q : Outline) → collapse ks p ≡ collapse ks q → collapse ks (o ++ p) ≡ collapse ks (o ++ q)
collapse_same ks [] p q e = e
collapse_same ks (b ∷ o) p q e = ap (collapse_block ks b.0 b.1) (collapse_same ks o p q e)

coalesce_outline : (k : ℕ) (xs : List Block) (n st : ℕ) (ys : List Block) → AreApart (coalesce xs n st ys) → count (Live k) (coalesce xs n st ys) ≡ 0
    → outline (coalesce xs n st ys) ≡ collapse (k ∷ []) (outline (xs ++ block n (Live k) ∷ ys))
coalesce_outline k xs n st ys a none =
    let c = coalesced xs n st ys in
    let m = total c.last + n + total c.first in
    let tail = outline c.last ++ ((n, Some k) ∷ (outline c.first ++ outline c.back)) in
    let released : collapse (k ∷ []) ((n, Some k) ∷ (outline c.first ++ outline c.back)) ≡ widen (n + total c.first) (collapse (k ∷ []) (outline c.back)) =
    search (arith, free_after, eq-eqb, c.start) in
    let same : collapse (k ∷ []) ((m, None) ∷ outline c.back) ≡ collapse (k ∷ []) tail =
    sym (free_before (k ∷ []) (n + total c.first) c.last _ _ c.end.free released ∙ ap (λ i. widen i (collapse (k ∷ []) (outline c.back))) (omega arith)) in
    let parts : outline ((c.front ++ c.last) ++ block n (Live k) ∷ (c.first ++ c.back)) ≡ outline c.front ++ tail = simp (map-append, append_assoc) in
    sym (unchanged (k ∷ []) (coalesce xs n st ys) a (none_of k (coalesce xs n st ys) none))
    ∙ ap (λ bs. collapse (k ∷ []) (outline bs)) c.is
    ∙ ap (collapse (k ∷ [])) (map-append (λ (b : Block). (b.size, holder b.tag)) c.front (block m (Free st) ∷ c.back))
    ∙ collapse_same (k ∷ []) (outline c.front) ((m, None) ∷ outline c.back) tail same
    ∙ ap (collapse (k ∷ [])) (sym (ap₂ (λ x y. outline (x ++ block n (Live k) ∷ y)) c.at_front c.at_back ∙ parts))

-- releases in a row
released_outline : (s : State) → IsWell s → (k : ℕ) (o : Option Place) → place_of k s.blocks ≡ o → outline (release s o).state.blocks ≡ collapse (k ∷ []) (outline s.blocks)
released_outline s w k None e = sym (unchanged (k ∷ []) s.blocks w.apart (none_of k s.blocks (not_found k s.blocks e)))
released_outline s w k (Some p) e =
    let f = found_at k s.blocks p e in
    let tag : p.block.tag ≡ Live k = number_of k p.block.tag f.1 in
    let parts = apart_parts p.before (p.block ∷ p.after) (subst AreApart f.0 w.apart) in
    let own : hit (Live k) p.block.tag ≡ 1 = ap (hit (Live k)) tag ∙ hit_self (Live k) in
    let once = w.once (Live k) in
    let none_after : count (Live k) p.after ≡ 0 = omega (arith, own, once, ap (count (Live k)) f.0, count-append (Live k) p.before (p.block ∷ p.after), f.2) in
    coalesce_outline k p.before p.block.size (stamp_of_call s) p.after (apart_coalesce p.before _ _ p.after parts.0 parts.1.1)
    (omega (arith, f.2, none_after, count_coalesce (Live k) p.before p.block.size (stamp_of_call s) p.after))
    ∙ ap (λ t. collapse (k ∷ []) (outline (p.before ++ block p.block.size t ∷ p.after))) (sym tag)
    ∙ ap (λ bs. collapse (k ∷ []) (outline bs)) (sym f.0)

pub releases_outline : (ks : List ℕ) (s : State) → IsWell s → outline (after (releases ks) s).blocks ≡ collapse ks (outline s.blocks)
releases_outline [] s w = sym (unchanged [] s.blocks w.apart (λ j e. absurd (false≢true e)))
releases_outline (k ∷ ks) s w =
    releases_outline ks (step (command.Free k) s).state (well_step (command.Free k) s w)
    ∙ ap (collapse ks) (released_outline s w k (place_of k s.blocks) refl)
    ∙ collapse_one_more k ks (outline s.blocks)

released_scalars : (s : State) (o : Option Place) → ((release s o).state.limit ≡ s.limit) × ((release s o).state.grants ≡ s.grants)
released_scalars s None = (refl, refl)
released_scalars s (Some p) = (refl, refl)

pub releases_scalars : (ks : List ℕ) (s : State) → ((after (releases ks) s).limit ≡ s.limit) × ((after (releases ks) s).grants ≡ s.grants)
releases_scalars [] s = (refl, refl)
releases_scalars (k ∷ ks) s = let r = released_scalars s (place_of k s.blocks) in let ih = releases_scalars ks (step (command.Free k) s).state in (ih.0 ∙ r.0, ih.1 ∙ r.1)

-- one command at two states of one outline
pub record IsSameSpace (s t : State) : Type 0 where
  pub limit : s.limit ≡ t.limit
  pub grants : s.grants ≡ t.grants
  pub blocks : ArePaired s.blocks t.blocks

-- whether a request is granted goes by the sizes
some_chosen : (n : ℕ) (b : Block) (bs : List Block) (o : Option Place) → is_some (choose n b bs o) ≡ (fits n b || is_some o)
some_chosen n b bs None = search (arith, is_some)
some_chosen n b bs (Some p) = search (arith, is_some)

pub some_same : (n : ℕ) (p : List Pair) → is_some (chosen_place n (lefts p)) ≡ is_some (chosen_place n (rights p))
some_same n [] = refl
some_same n (q ∷ p) = search (arith, (some_same n p), some_chosen, left, lefts, nat_le, same_free, right, rights)

pub same_granted : (s t : State) → s.grants ≡ t.grants → (n : ℕ) (padding_at : ℕ → ℕ) (o p : Option Place) → is_some o ≡ is_some p
    → without_offset (grant_or_refuse s n padding_at o).answer ≡ without_offset (grant_or_refuse t n padding_at p).answer
same_granted s t g n padding_at None None e = refl
same_granted s t g n padding_at None (Some p) e = absurd (false≢true e)
same_granted s t g n padding_at (Some o) None e = absurd (true≢false e)
same_granted s t g n padding_at (Some o) (Some p) e = ap (λ k. machine.Grant (k + 1) 0) g

same_request : (s t : State) → IsSameSpace s t → (spare needed n : ℕ) (padding_at : ℕ → ℕ)
    → without_offset (request s spare needed n padding_at).answer ≡ without_offset (request t spare needed n padding_at).answer
same_request s t a spare needed n padding_at = search (arith, if_same, same_short, same_granted, is_some, some_same)

pub same_number : (k : ℕ) (q : Kind) → HasSameNumber q → has_number k (left_tag q) ≡ has_number k (right_tag q)
same_number k (Lives i j) e = ap (nat_eq k) e
same_number k (Frees s u) e = refl

same_released : (s t : State) (p : List Pair) (o o' : Option Place) → IsSamePlace (λ q. Unit {0}) p o o'
    → (without_offset (release s o).answer ≡ without_offset (release t o').answer) × (size_at o ≡ size_at o')
same_released s t p None None neither = (refl, refl)
same_released s t p o o' (both xs q ys e f) = (refl, refl)

same_place : (s t : State) → IsSameSpace s t → (k : ℕ) → (without_offset (release s (place_of k s.blocks)).answer ≡ without_offset (release t (place_of k t.blocks)).answer)
    × (size_at (place_of k s.blocks) ≡ size_at (place_of k t.blocks))
same_place s t a k = subst₂ (λ x y. (without_offset (release s (place_of k x)).answer ≡ without_offset (release t (place_of k y)).answer) × (size_at (place_of k x) ≡ size_at (place_of k y)))
    (sym a.blocks.left_blocks) (sym a.blocks.right_blocks)
    (same_released s t a.blocks.pairs _ _ (same_place_of k k a.blocks.pairs (λ q i. same_number k q.kind (a.blocks.numbers q i))))

same_extend : (s t : State) → IsSameSpace s t → (more : ℕ) → without_offset (step (command.Extend more) s).answer ≡ without_offset (step (command.Extend more) t).answer
same_extend s t a zero = refl
same_extend s t a (suc more) = search (arith, if_same, nat_lt, same_refusal)

pub same_next : (s t : State) → IsSameSpace s t → (c : Command) → without_offset (step c s).answer ≡ without_offset (step c t).answer
same_next s t a (command.Alloc n) = same_request s t a 1 n n (λ offset. 0)
same_next s t a (command.Free k) = (same_place s t a k).0
same_next s t a (command.Size k) = ap without_offset (same_place s t a k).1
same_next s t a command.Report = search (arith, sum, same_short, same_free_sizes)
same_next s t a command.Full = ap (λ l. machine.Full (rows_below 256 l)) (same_free_sizes s t a.blocks.pairs a.limit a.blocks.left_blocks a.blocks.right_blocks)
same_next s t a command.Reset = refl
same_next s t a (command.Align n align) = search (arith, if_same, nat_le, nat_lt, same_request)
same_next s t a (command.Extend more) = same_extend s t a more

pub commute_space : (size limit : ℕ) → 2 ≤ limit → (cs : List Command) (ks : List ℕ) → let s = after cs (start size limit) in
    outline (after (releases ks) s).blocks ≡ collapse ks (outline s.blocks)
commute_space size limit h cs ks = releases_outline ks (after cs (start size limit)) (well_after cs (start size limit) (well_start size limit h))

pub commute_next : (size limit : ℕ) → 2 ≤ limit → (cs : List Command) (ks : List ℕ) (t : State) → let s = after cs (start size limit) in
    IsCollapse ks s t → (c : Command) → without_offset (step c (after (releases ks) s)).answer ≡ without_offset (step c t).answer
commute_next size limit h cs ks t is = search (arith, releases_scalars, same_next, paired, commute_space)
