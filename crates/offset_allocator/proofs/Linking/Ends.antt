-- The last block of a list, and whether it is free.
use Rattle.offset_allocator.proofs.Common.{◌≡◌, ◌≢◌, ℕ, Bool, true, false, not, List, [], ◌∷◌, ◌++◌, Some, None, if◌then◌else◌, refl, ap, Block, free_end, without_end, free_start, without_start}
use Rattle.offset_allocator.proofs.Common.{last_or}

-- a list with a last block
pub record Ended (w : ℕ) (bs : List Block) : Type 0 where
  pub front : List Block
  pub last : Block
  pub is : bs ≡ front ++ last ∷ []
  pub name : last.name ≡ w

ended_from : (b : Block) (bs : List Block) (w : ℕ) → last_or (Some b.name) bs ≡ Some w → Ended w (b ∷ bs)
ended_from b [] w e = record { front = []; last = b; is = refl; name = (cc) }
ended_from b (d ∷ bs) w e = let r = ended_from d bs w e in record { front = b ∷ r.front; last = r.last; is = ap (λ l. b ∷ l) r.is; name = r.name }

pub ended : (bs : List Block) (w : ℕ) → last_or None bs ≡ Some w → Ended w bs
ended [] w e = absurd (cc)
ended (b ∷ bs) w e = ended_from b bs w e

last_some : (k : ℕ) (bs : List Block) → last_or (Some k) bs ≢ None
last_some k [] e = absurd (cc)
last_some k (b ∷ bs) e = last_some b.name bs e

pub last_none : (bs : List Block) → last_or None bs ≡ None → bs ≡ []
last_none [] e = refl
last_none (b ∷ bs) e = absurd (last_some b.name bs e)

pub end_free : (fs : List Block) (d : Block) → d.used ≡ false → (free_end (fs ++ d ∷ []) ≡ d ∷ []) × (without_end (fs ++ d ∷ []) ≡ fs)
end_free [] d e = (ap (λ (u : Bool). if not u then d ∷ [] else []) e, ap (λ (u : Bool). if not u then [] else d ∷ []) e)
end_free (f ∷ []) d e = let r = end_free [] d e in (r.0, ap (λ l. f ∷ l) r.1)
end_free (f ∷ g ∷ fs) d e = let r = end_free (g ∷ fs) d e in (r.0, ap (λ l. f ∷ l) r.1)

pub end_used : (fs : List Block) (d : Block) → d.used ≡ true → (free_end (fs ++ d ∷ []) ≡ []) × (without_end (fs ++ d ∷ []) ≡ fs ++ d ∷ [])
end_used [] d e = (ap (λ (u : Bool). if not u then d ∷ [] else []) e, ap (λ (u : Bool). if not u then [] else d ∷ []) e)
end_used (f ∷ []) d e = let r = end_used [] d e in (r.0, ap (λ l. f ∷ l) r.1)
end_used (f ∷ g ∷ fs) d e = let r = end_used (g ∷ fs) d e in (r.0, ap (λ l. f ∷ l) r.1)

-- nothing goes where nothing is free
pub end_kept : (l : List Block) → free_end l ≡ [] → without_end l ≡ l
end_kept [] e = refl
end_kept (b ∷ []) e = elim b.used as (λ u. (if not u then b ∷ [] else []) ≡ [] → (if not u then [] else b ∷ []) ≡ b ∷ []) [ true ↦ λ q. refl | false ↦ λ q. absurd (cc) ] e
end_kept (b ∷ d ∷ l) e = ap (λ t. b ∷ t) (end_kept (d ∷ l) e)

pub start_kept : (l : List Block) → free_start l ≡ [] → without_start l ≡ l
start_kept [] e = refl
start_kept (b ∷ l) e = elim b.used as (λ u. (if not u then b ∷ [] else []) ≡ [] → (if not u then l else b ∷ l) ≡ b ∷ l) [ true ↦ λ q. refl | false ↦ λ q. absurd (cc) ] e
