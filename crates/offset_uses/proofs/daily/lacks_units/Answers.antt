use Rattle.std.proofs.Common.{◌≡◌, refl, subst, inl, inr}
use Rattle.std.proofs.lemmas.Bool.{false≢true}
use Rattle.offset_allocator.specs.Requests.{CanGrant, IsWhy}
use Rattle.offset_allocator.specs.declared.reports.Refusal.TheVariants.{TooLarge, Space, Fragmented}
use Rattle.offset_uses.proofs.daily.lacks_units.Goals as goal

-- a request that is granted lacks nothing
pub returns-in-None : goal.returns-in-None
returns-in-None g c =
    let w : CanGrant 1 c.args.size c.args.space.now = c.in-None.ensures.granted.0 refl in (
      λ e. absurd (false≢true e),
      λ h. absurd (elim h [
        | inl s ↦ c.refusals_advise.ensures.none 1 c.args.size Space s w
        | inr t ↦ c.refusals_advise.ensures.none 1 c.args.size TooLarge t w
      ]),
    )

-- one that is refused as fragmented has no other reason
pub returns-in-Some-Fragmented : goal.returns-in-Some-Fragmented
returns-in-Some-Fragmented g c =
    let why = subst (IsWhy 1 c.args.size c.args.space.now) c.in-Some-Fragmented.field-0-is c.in-Some-Fragmented.ensures.why in (
      λ e. absurd (false≢true e),
      λ h. absurd (elim h [
        | inl s ↦ let e : Fragmented ≡ Space = c.refusals_advise.ensures.one 1 c.args.size Fragmented Space why s in cc
        | inr t ↦ let e : Fragmented ≡ TooLarge = c.refusals_advise.ensures.one 1 c.args.size Fragmented TooLarge why t in cc
      ]),
    )
