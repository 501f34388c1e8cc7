use Rattle.std.proofs.Common.{ℕ, List, Option, Some, None, IfSome, sym, subst, ◌∙◌}
use Rattle.offset_allocator.specs.Classes.{up, value}
use Rattle.offset_allocator.specs.Moving.RoomBySteps.{IsLeastCostBy, names_short}
use Rattle.offset_allocator.specs.Requests.{blocks_needed, units_needed}
use Rattle.offset_allocator.specs.View.{Block}
use Rattle.offset_allocator.specs.declared.moves.room.RoomCost.{RoomCost}
use Rattle.offset_uses.proofs.daily.place_aligned_within.Goals.{in-None, in-Some}
use Rattle.offset_uses.proofs.daily.place_aligned_within.Goals as goal

-- where there was a cost before, there is one when room is made
made : (s want short : ℕ) (bs : List Block) (c : RoomCost) (r : Option RoomCost) (A : Type 0) → IsLeastCostBy s want short bs (Some c) → IsLeastCostBy s want short bs r → IfSome r (λ d. A) → A
made s want short bs c None A k l h = absurd (l k.0.0 k.0.1 k.0.2)
made s want short bs c (Some d) A k l h = h

pub unwrap-requires-2 : goal.unwrap-requires-2
unwrap-requires-2 c = elim c.match-room_cost_by.branch [
  | in-None w ↦ let e = sym c.if-not-is_cheap.false ∙ w.is_cheap-is in absurd (cc)
  | in-Some w ↦
      let want = value (up (units_needed c.args.size c.args.align)) in
      let short = names_short (blocks_needed c.args.align) c.args.space.now in
      c.allocate_aligned.ensures.can_grant.1
      (made c.args.step want short c.args.space.now.blocks w.in-Some.cost c.make_room_by.result _ (subst (IsLeastCostBy c.args.step want short c.args.space.now.blocks) w.in-Some.is c.room_cost_by.ensures.cost)
      c.make_room_by.ensures.cost c.make_room_by.ensures.granted)
]
