use Rattle.offset_allocator.proofs.{Common.◌∙◌, Common.ap, Common.Node, Linking.Places.at_place, Moving.Gaps.opened}
use Rattle.offset_allocator.proofs.moves.gap.open.Goals as goal

pub returns-clause-gap : goal.returns-clause-gap
returns-clause-gap g c m last spare p h idle = record {
  there = opened h idle;
  offset = c.offset.ensures.cell ∙ ap (λ (v : Node). v.offset) (at_place h);
  size = c.requires.size ∙ ap (λ (v : Node). v.size) (at_place h);
  link = c.before-2.ensures.cell ∙ ap (λ (v : Node). v.before) (at_place h);
}
