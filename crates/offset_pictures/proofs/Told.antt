-- Each refused call is reported by the spot of its pixel.
use Rattle.std.proofs.Common.{◌≡◌, ℕ, ◌+◌, ◌∙◌, Bool, true, false, All, List, [], ◌∷◌, nat_eq, refl, sym, ap, subst, arith, eqb-true, eq-eqb, true≢false, if◌then◌else◌}
use Rattle.std.proofs.lemmas.List.Elements.{All-cons, All-nil}
use Rattle.offset_pictures.specs.declared.axes.Axis.{Axis}
use Rattle.offset_pictures.specs.declared.reasons.Spot.{Spot}
use Rattle.offset_pictures.specs.declared.refusing.Refused.{Refused}
use Rattle.offset_pictures.specs.Reasons.{BeginElsewhere, EachRefusalIsToldOf, TellOf, one_spot, pixel_of, spot_before, spots_of}

-- where the next spot is of another pixel
elsewhere : (left right : ℕ) (ss : List Spot) → left ≡ right → BeginElsewhere right ss → BeginElsewhere left ss
elsewhere left right [] same e = tt
elsewhere left right (s ∷ ss) same e = λ is. e (sym same ∙ is)

module _ (calls : Axis) (r : Refused) (rs : List Refused) where
  abbrev left : ℕ
  left = pixel_of calls r.call

  abbrev IsIn : ℕ → Refused → Type 0
  IsIn at c = pixel_of calls c.call ≡ at

  -- a call before those of these spots
  told_at : (b : Spot) (ss : List Spot) (t : Bool) → nat_eq left b.left ≡ t → TellOf calls rs (b ∷ ss)
      → TellOf calls (r ∷ rs) (if t then record { left = left; first = r; more = 0 + b.more + 1 } ∷ ss else one_spot left r ∷ b ∷ ss)
  told_at b ss true e h =
      let same : left ≡ b.left = eqb-true left b.left e in (
        b.first ∷ h.0,
        h.1,
        ap (λ l. r ∷ l) h.2,
        omega (arith, h.3),
        All-cons (IsIn left) r (b.first ∷ h.0) refl (subst (λ at. All (IsIn at) (b.first ∷ h.0)) (sym same) h.4),
        elsewhere left b.left ss same h.5,
        h.6,
      )
  told_at b ss false e h =
      ([], rs, refl, refl, All-cons (IsIn left) r [] refl (All-nil (IsIn left)), λ is. true≢false (sym (eq-eqb left b.left is) ∙ e), h)

  told_before : (ss : List Spot) → TellOf calls rs ss → TellOf calls (r ∷ rs) (spot_before (one_spot left r) ss)
  told_before [] h = ([], [], ap (λ l. r ∷ l) h, refl, All-cons (IsIn left) r [] refl (All-nil (IsIn left)), tt, refl)
  told_before (b ∷ ss) h = told_at b ss (nat_eq left b.left) refl h

pub told_law : EachRefusalIsToldOf
told_law calls [] = refl
told_law calls (r ∷ rs) = told_before calls r rs (spots_of calls rs) (told_law calls rs)
