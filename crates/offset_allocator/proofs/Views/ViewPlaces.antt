-- Where a name is.
use Rattle.offset_allocator.proofs.Common.{◌≡◌, ℕ, List, [], ◌∷◌, ◌++◌, Option, Some, None, nat_eq, option_map, if◌then◌else◌, refl, ap, subst, inl, inr, arith, eq-eqb, ne_eqb, Block, one}
use Rattle.offset_allocator.proofs.{Common.count_named, Common.Place, Common.place_of, Tallies.hit_cases}

-- a place after one more block
abbrev after_one : Block → Option Place → Option Place
after_one b o = option_map (λ (p : Place). record p { before = b ∷ p.before }) o

-- where a name is
abbrev PlaceAt : ℕ → List Block → Option Place → Type 0
PlaceAt x bs None = count_named x bs ≡ 0
PlaceAt x bs (Some p) = (bs ≡ p.before ++ p.block ∷ p.after) × (x ≡ p.block.name) × (count_named x p.before ≡ 0)

place_step : (x : ℕ) (b : Block) (bs : List Block) (o : Option Place) → PlaceAt x bs o
    → PlaceAt x (b ∷ bs) (if nat_eq x b.name then Some (record { before = []; block = b; after = bs }) else after_one b o)
place_step x b bs o f = elim (hit_cases x b.name) [
  | inl e ↦ rw (eq-eqb x b.name e.0) (refl, e.0, refl)
  | inr n ↦ rw (ne_eqb x b.name n.0) (miss o f n.1)
]
  where
    miss : (o : Option Place) → PlaceAt x bs o → one (nat_eq x b.name) ≡ 0 → PlaceAt x (b ∷ bs) (after_one b o)
    miss None f n = omega arith
    miss (Some p) f n = (ap (λ l. b ∷ l) f.0, f.1, omega arith)

place_all : (x : ℕ) (bs : List Block) → PlaceAt x bs (place_of x bs)
place_all x [] = refl
place_all x (b ∷ bs) = place_step x b bs (place_of x bs) (place_all x bs)

pub place_at : (x : ℕ) (bs : List Block) (p : Place) → place_of x bs ≡ Some p → (bs ≡ p.before ++ p.block ∷ p.after) × (x ≡ p.block.name) × (count_named x p.before ≡ 0)
place_at x bs p e = subst (PlaceAt x bs) e (place_all x bs)

pub no_place : (x : ℕ) (bs : List Block) → place_of x bs ≡ None → count_named x bs ≡ 0
no_place x bs e = subst (PlaceAt x bs) e (place_all x bs)

-- a name is at its first block
pub place_here : (x : ℕ) (before : List Block) (b : Block) (after : List Block) → count_named x before ≡ 0 → x ≡ b.name
    → place_of x (before ++ b ∷ after) ≡ Some (record { before = before; block = b; after = after })
place_here x [] b after n e = rw (eq-eqb x b.name e) refl
place_here x (c ∷ before) b after n e = elim (hit_cases x c.name) [
  | inl f ↦ absurd (let g = f.1 in omega arith)
  | inr f ↦ rw (ne_eqb x c.name f.0) (ap (after_one c) (place_here x before b after (omega arith) e))
]
