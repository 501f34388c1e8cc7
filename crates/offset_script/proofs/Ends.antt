-- Labels by names and by tags: what is free, sums, and the names of grants.
use Rattle.offset_script.proofs.Common.{◌≡◌, ℕ, ◌+◌, ◌≤◌, true, false, not, ◌&&◌, List, [], ◌∷◌, ◌++◌, length, Option, Some, None, refl, ap, subst₂, ◌∙◌, arith, option_or, false≢true, not-false, Tag}
use Rattle.offset_script.proofs.Common.{Live, Free, is_free, has_number, total, units, AllByRecursion}
use Rattle.offset_script.specs.Agreement.{Label, name_of}
use Rattle.offset_script.proofs.{Lists.count, Lists.hit_number, Labels.names, Labels.tags, Tests.not_not}
use Rattle.offset_script.specs.Machine as plain
use Rattle.offset_allocator.specs.View as named
use Rattle.offset_script.proofs.Lists as lists

-- all of these are free
abbrev pub AreFree : List Label → Type 0
AreFree ls = AllByRecursion (λ l. is_free l.tag ≡ true) ls

-- by names
pub free_named : (xs ys : List Label) → AllByRecursion (λ b. b.used ≡ false) (names xs ++ names ys) → AreFree xs × AreFree ys
free_named [] [] f = (tt, tt)
free_named [] (y ∷ ys) f = (tt, (not-false _ f.0, (free_named [] ys f.1).1))
free_named (x ∷ xs) ys f = let r = free_named xs ys f.1 in ((not-false _ f.0, r.0), r.1)

-- by tags
pub free_tagged : (ls : List Label) → AreFree ls → lists.AreFree (tags ls)
free_tagged [] f = tt
free_tagged (l ∷ ls) f = (f.0, free_tagged ls f.1)

-- free neighbours, by names and by tags
pub apart_tagged : (ls : List Label) → named.AreCoalesced (names ls) → lists.AreApart (tags ls)
apart_tagged [] a = tt
apart_tagged (l ∷ []) a = search (arith, not_not)
apart_tagged (l ∷ m ∷ ls) a = (subst₂ (λ x y. (x && y) ≡ false) (not_not (is_free l.tag)) (not_not (is_free m.tag)) a.0, apart_tagged (m ∷ ls) a.1)

-- a list of blocks ends live just where its last block is live
pub ends_live_last : (ls : List Label) (l : Label) → plain.ends_live (tags (ls ++ l ∷ [])) ≡ not (is_free l.tag)
ends_live_last [] l = refl
ends_live_last (x ∷ []) l = refl
ends_live_last (x ∷ y ∷ ls) l = ends_live_last (y ∷ ls) l

-- where it does not, its last block is free
pub last_free : (ls : List Label) → 1 ≤ length ls → plain.ends_live (tags ls) ≡ false → (front : List Label) × (l : Label) × (ls ≡ front ++ l ∷ []) × (is_free l.tag ≡ true)
last_free [] some e = absurd (omega arith)
last_free (l ∷ []) some e = ([], l, refl, not-false (is_free l.tag) e)
last_free (l ∷ m ∷ ls) some e = let r = last_free (m ∷ ls) (omega arith) e in (l ∷ r.0, r.1, ap (λ z. l ∷ z) r.2, r.3)

-- the units of all
pub total_units : (ls : List Label) → total (tags ls) ≡ units (names ls)
total_units [] = refl
total_units (l ∷ ls) = ap (λ n. l.size + n) (total_units ls)

-- the sizes of the free blocks
pub free_sizes_labels : (ls : List Label) → plain.free_sizes (tags ls) ≡ named.free_sizes (names ls)
free_sizes_labels [] = refl
free_sizes_labels (l ∷ ls) = search (arith, (free_sizes_labels ls), not)

-- the names of grants
pub or_none : (o : Option ℕ) → option_or o None ≡ o
or_none None = refl
or_none (Some x) = refl

-- a grant is in the first list, or else in the second
pub name_append : (k : ℕ) (xs ys : List Label) → name_of k (xs ++ ys) ≡ option_or (name_of k xs) (name_of k ys)
name_append k [] ys = refl
name_append k (x ∷ xs) ys = search (arith, (name_append k xs ys))

no_number : (k : ℕ) (t : Tag) → is_free t ≡ true → has_number k t ≡ false
no_number k (Live j) e = absurd (false≢true e)
no_number k (Free s) e = refl

-- a free block has no grant
pub name_skip : (k : ℕ) (l : Label) (ls : List Label) → is_free l.tag ≡ true → name_of k (l ∷ ls) ≡ name_of k ls
name_skip k l ls e = rw (no_number k l.tag e) refl

-- free blocks have no grant
pub name_free : (k : ℕ) (ls : List Label) → AreFree ls → name_of k ls ≡ None
name_free k [] f = refl
name_free k (l ∷ ls) f = name_skip k l ls f.0 ∙ name_free k ls f.1

-- where no block is live with a number, there is no name of it
pub name_none : (k : ℕ) (ls : List Label) → count (Live k) (tags ls) ≡ 0 → name_of k ls ≡ None
name_none k [] e = refl
name_none k (l ∷ ls) e = let ih = name_none k ls (omega arith) in rw (hit_number k l.tag (omega arith)) ih
