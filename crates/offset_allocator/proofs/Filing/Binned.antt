-- The bins after a change of one of them.
use Rattle.offset_allocator.proofs.{Filing.Masks.flag, Filing.Masks.masked_same, Filing.Masks.flag_cons, Filing.Masks.flag_full, Tallies.hit_cases, Tallies.one-same, Tallies.times-join}
use Rattle.offset_allocator.proofs.{Tallies.without, Linking.Walks.without_first, Linking.Walks.without_later}
use Rattle.offset_allocator.proofs.Common.{◌≡◌, ◌≢◌, ◌<◌, ◌≤◌, ◌+◌, ◌⊎◌, ℕ, List, [], ◌∷◌, ◌++◌, map, refl, sym, ap, subst, ◌∙◌, inl, inr, arith, length, drop, slice_index, slice_set, cases_eq}
use Rattle.offset_allocator.proofs.Common.{length-set, length-map, get_or-set_same, get_or-set_other, get_or-map, ext_get_or, set-get_or, set-set, set_comm, BinCells, bin_at, times, push, remove}
use Rattle.offset_allocator.proofs.Common.{IsLinked, IsAmong, first_of, names_from, HasBins, AreMasks, IsUnlisted, IsBinned, bins_in, common_steps}
use Rattle.offset_allocator.proofs.Views.ViewBins.{names_same, names_other, times_without_le, unlisted_removed}
use Rattle.offset_allocator.proofs.Linking.Walks.{name_below, older_below, chain_fits, walk_is, IsLater, found, kept, led, not_first, first_same, newer_kept, next_among, older_kept, unlinked}

module _ {none : ℕ} {t : BinCells} {ls : List (List ℕ)} (k : HasBins none t ls) where
  pub single : (c : ℕ) → c < 256 → (x : ℕ) → times x (bin_at ls c) ≤ 1
  single c h x = elim (cases_eq c 0) [ inl e ↦ omega (arith, k.once c 1 x h (omega arith) (omega arith)) | inr n ↦ omega (arith, k.once c 0 x h (omega arith) n) ]

  pub fits : (c : ℕ) → c < 256 → length (bin_at ls c) ≤ length t.newer
  fits c ch = chain_fits none t k.names_small none (bin_at ls c) (k.links c ch) (single c ch)

  -- the lists that the tables hold are those that contracts see
  pub shown : bins_in none t ≡ ls
  unfolding bins_in
  shown =
      let long = length-map t.heads (names_from none t.older (length t.older)) in
      ext_get_or [] (map (names_from none t.older (length t.older)) t.heads) ls (omega arith) (λ c h.
      let ch : c < 256 = omega arith in
      get_or-map (names_from none t.older (length t.older)) t.heads c 0 [] (omega arith) ∙ ap (names_from none t.older (length t.older)) (k.heads c ch)
      ∙ walk_is none t k.names_small (length t.older) none (bin_at ls c) (omega (arith, k.older_len, fits c ch)) (k.links c ch))

  -- class c has the names ys: only links of names that it has or had are written
  relisted : (c : ℕ) → c < 256 → (t' : BinCells) (ys : List ℕ) → length t'.newer ≡ length t.newer → length t'.older ≡ length t.older
      → t'.heads ≡ slice_set t.heads c (first_of none ys) → IsLinked none t' none ys
      → ((y : ℕ) → y < length t.newer → times y ys ≡ 0 → times y (bin_at ls c) ≡ 0 → (slice_index t'.newer y ≡ slice_index t.newer y)
      × (slice_index t'.older y ≡ slice_index t.older y))
      → ((y d : ℕ) → d < 256 → d ≢ c → times y ys + times y (bin_at ls d) ≤ 1) → HasBins none t' (slice_set ls c ys)
  relisted c ch t' ys nl ol hd chain same new =
      let ll = k.lists_len in
      let hl = k.heads_len in
      let other : (d : ℕ) → d ≢ c → bin_at (slice_set ls c ys) d ≡ bin_at ls d = λ d n. names_other ls c d ys n in
      let here : (d : ℕ) → d ≡ c → bin_at (slice_set ls c ys) d ≡ ys = λ d e. ap (bin_at (slice_set ls c ys)) e ∙ names_same ls c ys ll ch in
      record {
        older_len = ol ∙ k.older_len ∙ sym nl;
        names_small = omega (arith, k.names_small);
        heads_len = rw hd (length-set t.heads c (first_of none ys) ∙ hl);
        lists_len = length-set ls c ys ∙ ll;
        heads = grind (arith, common_steps, cases_eq, get_or-set_same, get_or-set_other);
        links = λ d h. elim (cases_eq d c) [
          | inl e ↦ rw (here d e) chain
          | inr n ↦ rw (other d n) (kept none t t' nl none (bin_at ls d) (λ y a. same y (name_below none t k.names_small none (bin_at ls d) (k.links d h) y a) (omega (arith, new y d h n))
              (omega (arith, k.once d c y h ch n))) (k.links d h))
        ];
        once = grind (arith, common_steps, cases_eq);
      }

  module _ (c : ℕ) (ch : c < 256) where
    -- the first name
    pub head : bin_at ls c ≢ [] → (bin_at ls c ≡ slice_index t.heads c ∷ drop 1 (bin_at ls c)) × IsLinked none t none (slice_index t.heads c ∷ drop 1 (bin_at ls c))
    head f = let e = cons (bin_at ls c) f (k.heads c ch) in (e, subst (IsLinked none t none) e (k.links c ch))
      where
        cons : (xs : List ℕ) → xs ≢ [] → slice_index t.heads c ≡ first_of none xs → xs ≡ slice_index t.heads c ∷ drop 1 xs
        cons [] f e = absurd (f refl)
        cons (x ∷ xs) f e = ap (λ i. i ∷ xs) (sym e)

    pub head_among : slice_index t.heads c ≢ none → IsAmong (slice_index t.heads c) (bin_at ls c)
    head_among n = grind (arith, head, one-same)

    pub head_below : slice_index t.heads c ≢ none → slice_index t.heads c < length t.newer
    head_below n = (head (λ e. n (k.heads c ch ∙ ap (first_of none) e))).1.0

    pub head_small : slice_index t.heads c ≤ none
    head_small = elim (cases_eq (slice_index t.heads c) none) [ inl e ↦ omega (arith, e) | inr n ↦ omega (arith, head_below n, k.names_small) ]

    pub without_head : bin_at ls c ≢ [] → without (slice_index t.heads c) (bin_at ls c) ≡ drop 1 (bin_at ls c)
    without_head f = let e = (head f).0 in ap (without (slice_index t.heads c)) e ∙ without_first (slice_index t.heads c) (drop 1 (bin_at ls c)) (let o = ap (times (slice_index t.heads c)) e in
        omega (arith, single c ch (slice_index t.heads c)))

    -- whether names are left
    pub none_left : (xs : List ℕ) (b : ℕ) → IsLinked none t b xs → first_of none xs ≡ none → xs ≡ []
    none_left [] b d e = refl
    none_left (x ∷ xs) b d e = absurd (omega (arith, d.0, k.names_small))

    -- as far as the first name, where it is that of no node
    pub past_none : (xs : List ℕ) (b : ℕ) → IsLinked none t b xs → length t.newer ≤ first_of none xs → xs ≡ []
    past_none [] b d l = refl
    past_none (x ∷ xs) b d l = absurd (omega (arith, d.0, l))

    pub is_first : (x : ℕ) → IsAmong x (bin_at ls c) → slice_index t.newer x ≡ none → (bin_at ls c ≢ []) × (slice_index t.heads c ≡ x)
    is_first x a e = elim (found none t k.names_small none x (bin_at ls c) (k.links c ch) a) [
      | inl f ↦ (λ n. let q = ap (times x) n in omega arith, k.heads c ch ∙ ap (first_of none) f.1)
      | inr f ↦ absurd (let l = name_below none t k.names_small none (bin_at ls c) (k.links c ch) none
          (rw (f.is, e) (omega (arith, times-join none f.front (none ∷ x ∷ f.rest), one-same none))) in omega (arith, k.names_small))
    ]

    pub below : (x : ℕ) → IsAmong x (bin_at ls c) → x < length t.newer
    below x a = name_below none t k.names_small none (bin_at ls c) (k.links c ch) x a

    pub older_in : (x : ℕ) → IsAmong x (bin_at ls c) → slice_index t.older x ≢ none → slice_index t.older x < length t.newer
    older_in x a n = older_below none t k.names_small none (bin_at ls c) (k.links c ch) x a n

    pub older_among : (x : ℕ) → IsAmong x (bin_at ls c) → slice_index t.older x ≢ none → IsAmong (slice_index t.older x) (bin_at ls c)
    older_among x a n = next_among none t k.names_small none (bin_at ls c) (k.links c ch) x a n

    pub is_later : (x : ℕ) → IsAmong x (bin_at ls c) → slice_index t.newer x ≢ none → IsLater none t k.names_small x (bin_at ls c)
    is_later x a n = elim (found none t k.names_small none x (bin_at ls c) (k.links c ch) a) [ inl f ↦ absurd (n f.0) | inr f ↦ f ]

    pub newer_in : (x : ℕ) → IsAmong x (bin_at ls c) → slice_index t.newer x ≢ none → slice_index t.newer x < length t.newer
    newer_in x a n =
        let f = is_later x a n in
        let w : ℕ = slice_index t.newer x in
        below w (omega (arith, ap (times w) f.is, times-join w f.front (w ∷ x ∷ f.rest), one-same w))

    -- a link to a newer name that is that of no node is none
    pub newer_past : (x : ℕ) → IsAmong x (bin_at ls c) → length t.newer ≤ slice_index t.newer x → slice_index t.newer x ≡ none
    newer_past x a l = elim (cases_eq (slice_index t.newer x) none) [ inl e ↦ e | inr n ↦ absurd (omega (arith, newer_in x a n, l)) ]

    pub later_masked : (x : ℕ) {masks : List ℕ} {top : ℕ} → IsAmong x (bin_at ls c) → slice_index t.newer x ≢ none → AreMasks ls masks top
        → AreMasks (slice_set ls c (without x (bin_at ls c))) masks top
    later_masked x a n m =
        let f = is_later x a n in
        let is = ap (without x) f.is ∙ without_later x (slice_index t.newer x) f.front f.rest (let o = ap (times x) f.is in omega (arith, single c ch x)) in
        masked_same m k.lists_len c ch (without x (bin_at ls c)) (ap flag is ∙ mid f.front _ _ ∙ sym (ap flag f.is ∙ mid f.front _ _))
      where
        mid : (fs : List ℕ) (w : ℕ) (cs : List ℕ) → flag (fs ++ w ∷ cs) ≡ 1
        mid [] w cs = omega arith
        mid (y ∷ fs) w cs = omega arith

    -- ---- changes
    module _ (t' : BinCells) where
      -- x becomes the first name of the class
      pub pushed : (x : ℕ) → x < length t.newer → IsUnlisted x ls → t'.newer ≡ slice_set (slice_set t.newer x none) (slice_index t.heads c) x
          → t'.older ≡ slice_set t.older x (slice_index t.heads c) → t'.heads ≡ slice_set t.heads c x → HasBins none t' (slice_set ls c (x ∷ bin_at ls c))
      pushed x l fresh newer older heads =
          let h : ℕ = slice_index t.heads c in
          let long : length t'.newer ≡ length t.newer = rw newer (length-set (slice_set t.newer x none) h x ∙ length-set t.newer x none) in
          let absent : times x (bin_at ls c) ≡ 0 = omega (arith, fresh c ch) in
          let newer_kept : (y : ℕ) → y ≢ x → y ≢ h → slice_index t'.newer y ≡ slice_index t.newer y =
          λ y n m. rw newer (get_or-set_other (slice_set t.newer x none) h y x 0 m ∙ get_or-set_other t.newer x y none 0 n) in
          let older_kept : (y : ℕ) → y ≢ x → slice_index t'.older y ≡ slice_index t.older y = λ y n. rw older (get_or-set_other t.older x y h 0 n) in
          let head = k.heads c ch in
          let apart : (y : ℕ) → IsAmong y (bin_at ls c) → y ≢ x = λ y a e. let q = ap (λ i. times i (bin_at ls c)) e in omega arith in
          let not_head : (y : ℕ) → y < length t.newer → times y (bin_at ls c) ≡ 0 → y ≢ h = λ y b z e. not_first y (bin_at ls c) (omega arith) z (e ∙ head) in
          relisted c ch t' (x ∷ bin_at ls c) long (rw older (length-set t.older x h)) heads (
            omega arith,
            rw newer (get_or-set_other (slice_set t.newer x none) h x x 0 (not_head x l absent) ∙ get_or-set_same t.newer x none 0 l),
            rw older (get_or-set_same t.older x h 0 (omega (arith, k.older_len))) ∙ head,
            led none t t' long none x (bin_at ls c) (single c ch) (linked_back (bin_at ls c) (k.links c ch) head) (λ y a n. newer_kept y (apart y a) (λ e. n (e ∙ head)))
                (λ y a. older_kept y (apart y a)) (k.links c ch),
          )
          (λ y b u v. let n : y ≢ x = λ e. let q = ap (λ i. times i (x ∷ [])) e in omega (arith, one-same x) in (newer_kept y n (not_head y b v), older_kept y n))
          (λ y d dh n. elim (hit_cases y x) [
            | inl i ↦ grind (arith, common_steps)
            | inr i ↦ omega (arith, i.1, k.once d c y dh ch n)
          ])
        where
          linked_back : (xs : List ℕ) → IsLinked none t none xs → slice_index t.heads c ≡ first_of none xs → slice_index t'.newer (first_of none xs) ≡ x ⊎ (xs ≡ [])
          linked_back [] d e = inr refl
          linked_back (y ∷ xs) d e = inl (rw (newer, ← e) (get_or-set_same (slice_set t.newer x none) (slice_index t.heads c) x 0 (omega (arith, d.0, length-set t.newer x none))))

      -- the first name leaves
      pub without_newest : (after : ℕ) → bin_at ls c ≢ [] → after ≡ slice_index t.older (slice_index t.heads c) → t'.newer ≡ slice_set t.newer after none → t'.older ≡ t.older
          → t'.heads ≡ slice_set t.heads c after → HasBins none t' (slice_set ls c (drop 1 (bin_at ls c)))
      without_newest after full next newer older heads =
          let xs : List ℕ = drop 1 (bin_at ls c) in
          let h = head full in
          let first : after ≡ first_of none xs = next ∙ h.1.2 in
          let few : (y : ℕ) → times y xs ≤ times y (bin_at ls c) = λ y. let e = ap (times y) h.0 in omega arith in
          let long : length t'.newer ≡ length t.newer = rw newer (length-set t.newer after none) in
          let newer_kept : (y : ℕ) → y ≢ first_of none xs → slice_index t'.newer y ≡ slice_index t.newer y =
          λ y n. rw newer (get_or-set_other t.newer after y none 0 (λ s. n (s ∙ first))) in
          relisted c ch t' xs long (rw older) (rw first at heads)
          (led none t t' long (slice_index t.heads c) none xs (λ y. omega (arith, few y, single c ch y)) (linked_back xs first (slice_index t.heads c) h.1.3)
          (λ y a n. newer_kept y n) (λ y a. rw older) h.1.3)
          (λ y b u v. (newer_kept y (not_first y xs (omega arith) u), rw older))
          (λ y e eh n. omega (arith, few y, k.once e c y eh ch n))
        where
          linked_back : (xs : List ℕ) → after ≡ first_of none xs → (b : ℕ) → IsLinked none t b xs → slice_index t'.newer (first_of none xs) ≡ none ⊎ (xs ≡ [])
          linked_back [] e b d = inr refl
          linked_back (y ∷ xs) e b d = inl (rw (newer, ← e) (get_or-set_same t.newer after none 0 (omega (arith, d.0))))

      -- a later name leaves
      pub left : (x before after : ℕ) → IsLater none t k.names_small x (bin_at ls c) → before ≡ slice_index t.newer x → after ≡ slice_index t.older x
          → t'.newer ≡ slice_set t.newer after before → t'.older ≡ slice_set t.older before after → t'.heads ≡ t.heads → HasBins none t' (slice_set ls c (without x (bin_at ls c)))
      left x before after f be af newer older heads =
          let w : ℕ = slice_index t.newer x in
          let chain : IsLinked none t none (f.front ++ w ∷ x ∷ f.rest) = rw f.is at (k.links c ch) in
          let o : (y : ℕ) → times y (f.front ++ w ∷ x ∷ f.rest) ≤ 1 = rw f.is at (single c ch) in
          let is : without x (bin_at ls c) ≡ f.front ++ w ∷ f.rest = ap (without x) f.is ∙ without_later x w f.front f.rest (o x) in
          let first : after ≡ first_of none f.rest = af ∙ rest_first f.front none chain in
          let newer' : t'.newer ≡ slice_set t.newer (first_of none f.rest) w = rw (← first, ← be) newer in
          let older' : t'.older ≡ slice_set t.older w (first_of none f.rest) = rw (← first, ← be) older in
          let head : slice_index t.heads c ≡ first_of none (without x (bin_at ls c)) = grind (arith, common_steps, first_same) in
          relisted c ch t' (without x (bin_at ls c)) (rw newer (length-set t.newer after before)) (rw older (length-set t.older before after)) (heads ∙ sym (rw (← head) (set-get_or t.heads c 0)))
          (rw is (unlinked none t t' w x f.rest k.names_small k.older_len newer' older' none f.front o chain))
          (λ y l u v.
          let z : times y f.front + (times y (w ∷ []) + times y f.rest) ≡ 0 = omega (arith, v, ap (times y) f.is, times-join y f.front (w ∷ x ∷ f.rest)) in (
            newer_kept none t t' w x f.rest k.names_small k.older_len newer' older' y (not_first y f.rest (omega arith) (omega arith)),
            older_kept none t t' w x f.rest k.names_small k.older_len newer' older' y (λ e. let q = ap (λ i. times i (w ∷ [])) e in omega (arith, one-same w)),
          ))
          (λ y d dh n. omega (arith, times_without_le x y (bin_at ls c), k.once d c y dh ch n))
        where
          rest_first : (l : List ℕ) (b : ℕ) → IsLinked none t b (l ++ slice_index t.newer x ∷ x ∷ f.rest) → slice_index t.older x ≡ first_of none f.rest
          rest_first [] b d = d.3.2
          rest_first (y ∷ l) b d = rest_first l y d.3

-- x takes the place of the first name: the links are those of a removal and a push
pub exchanged : {none : ℕ} {t : BinCells} {ls : List (List ℕ)} (k : HasBins none t ls) (c : ℕ) → c < 256 → (t' : BinCells) (x after : ℕ) → x < length t.newer → IsUnlisted x ls
    → bin_at ls c ≢ [] → after ≡ slice_index t.older (slice_index t.heads c)
    → t'.newer ≡ slice_set (slice_set t.newer x none) after x → t'.older ≡ slice_set t.older x after → t'.heads ≡ slice_set t.heads c x
    → HasBins none t' (push c x (remove c (slice_index t.heads c) ls))
exchanged {none} {t} {ls} k c ch t' x after l fresh full next newer older heads =
    let h = head k c ch full in
    let absent : times x (drop 1 (bin_at ls c)) ≡ 0 = omega (arith, fresh c ch, ap (times x) h.0) in
    let apart : after ≢ x = λ e. not_first x (drop 1 (bin_at ls c)) (omega arith) absent (sym e ∙ next ∙ h.1.2) in
    let left : BinCells = record t { newer = slice_set t.newer after none; heads = slice_set t.heads c after } in
    let rest : HasBins none left (remove c (slice_index t.heads c) ls) = rw (without_head k c ch full) (without_newest k c ch left after full next refl refl refl) in
    let first : slice_index left.heads c ≡ after = get_or-set_same t.heads c after 0 (omega arith) in
    pushed rest c ch t' x (omega (arith, length-set t.newer after none)) (unlisted_removed x (slice_index t.heads c) c ls k.lists_len ch fresh)
    (rw first (newer ∙ sym (ap (λ (i : List ℕ). slice_set i after x) (set_comm t.newer after x none none apart) ∙ set-set (slice_set t.newer x none) after none x)))
    (rw first older) (heads ∙ sym (set-set t.heads c after x))

pub exchange_masked : {ls : List (List ℕ)} {masks : List ℕ} {top : ℕ} → AreMasks ls masks top → length ls ≡ 256 → (c x y : ℕ) → c < 256 → bin_at ls c ≢ []
    → AreMasks (push c x (remove c y ls)) masks top
exchange_masked {ls} m n c x y ch full =
    rw (set-set ls c (without y (bin_at ls c)) (x ∷ bin_at (remove c y ls) c)) (masked_same m n c ch _ (flag_cons x (bin_at (remove c y ls) c) ∙ sym (flag_full _ full)))

pub binned : {none : ℕ} {t : BinCells} {top : ℕ} {ls : List (List ℕ)} → HasBins none t ls → AreMasks ls t.masks top → IsBinned none t top × (bins_in none t ≡ ls)
binned {none} {t} {top} {ls} k m = let e = shown k in (record { linked = subst (HasBins none t) (sym e) k; masked = subst (λ l. AreMasks l t.masks top) (sym e) m }, e)

-- the clauses of a change of the bins
pub changed : {none : ℕ} {t : BinCells} {top : ℕ} {ls : List (List ℕ)} {R C : Type 0} → HasBins none t ls → AreMasks ls t.masks top → R → C
    → record { binned : IsBinned none t top; lists : bins_in none t ≡ ls; chain : R; accesses : C }
changed k m chain accesses = let b = binned k m in record { binned = b.0; lists = b.1; chain = chain; accesses = accesses }
