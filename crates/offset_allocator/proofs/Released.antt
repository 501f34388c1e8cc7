-- Free blocks at the ends of lists.
use Rattle.offset_allocator.proofs.Common.{◌≡◌, Bool, true, false, not, ◌&&◌, List, [], ◌∷◌, ◌++◌, if◌then◌else◌, refl, sym, ap, ap₂, ◌∙◌, append-nil, true≢false, AllByRecursion, Block, AreCoalesced}
use Rattle.offset_allocator.proofs.Common.{free_start, without_start, free_end, without_end, starts_free}
use Rattle.offset_allocator.proofs.{Linking.Ends.end_free, Views.ViewApart.ends_free, Views.ViewApart.apart_parts, Views.ViewApart.no_end, Views.ViewApart.no_start}

pub idle_append : (bs cs : List Block) → AllByRecursion (λ b. b.used ≡ false) bs → AllByRecursion (λ b. b.used ≡ false) cs → AllByRecursion (λ b. b.used ≡ false) (bs ++ cs)
idle_append [] cs h k = k
idle_append (b ∷ bs) cs h k = (h.0, idle_append bs cs h.1 k)

pub idle_parts : (bs cs : List Block) → AllByRecursion (λ b. b.used ≡ false) (bs ++ cs) → AllByRecursion (λ b. b.used ≡ false) bs × AllByRecursion (λ b. b.used ≡ false) cs
idle_parts [] cs h = (tt, h)
idle_parts (b ∷ bs) cs h = let p = idle_parts bs cs h.1 in ((h.0, p.0), p.1)

idle_if : (b : Block) (u : Bool) → b.used ≡ u → AllByRecursion (λ b. b.used ≡ false) (if not u then b ∷ [] else [])
idle_if b true e = tt
idle_if b false e = (e, tt)

pub idle_end : (bs : List Block) → AllByRecursion (λ b. b.used ≡ false) (free_end bs)
idle_end [] = tt
idle_end (b ∷ []) = idle_if b b.used refl
idle_end (b ∷ c ∷ bs) = idle_end (c ∷ bs)

pub idle_start : (bs : List Block) → AllByRecursion (λ b. b.used ≡ false) (free_start bs)
idle_start [] = tt
idle_start (b ∷ bs) = idle_if b b.used refl

pub two_free : (b c : Block) (bs : List Block) → b.used ≡ false → c.used ≡ false → AreCoalesced (b ∷ c ∷ bs) → ⊥
two_free b c bs e f a = true≢false (ap₂ (λ (x y : Bool). not x && not y) (sym e) (sym f) ∙ a.0)

-- free blocks after a list that ends in none are its free end
pub end_is : (before left : List Block) → AllByRecursion (λ b. b.used ≡ false) left → AreCoalesced (before ++ left) → ends_free before ≡ false → (free_end (before ++ left) ≡ left)
    × (without_end (before ++ left) ≡ before)
end_is before [] i a e = let n = no_end before e in (ap free_end (append-nil before) ∙ n.0, ap without_end (append-nil before) ∙ n.1)
end_is before (b ∷ []) i a e = end_free before b i.0
end_is before (b ∷ c ∷ left) i a e = absurd (two_free b c left i.0 i.1.0 (apart_parts before (b ∷ c ∷ left) a).1)

pub start_is : (right after : List Block) → AllByRecursion (λ b. b.used ≡ false) right → AreCoalesced (right ++ after) → starts_free after ≡ false → (free_start (right ++ after) ≡ right)
    × (without_start (right ++ after) ≡ after)
start_is [] after i a e = no_start after e
start_is (b ∷ []) after i a e = (ap (λ (u : Bool). if not u then b ∷ [] else []) i.0, ap (λ (u : Bool). if not u then after else b ∷ after) i.0)
start_is (b ∷ c ∷ right) after i a e = absurd (two_free b c (right ++ after) i.0 i.1.0 a)
