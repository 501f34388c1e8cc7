use Rattle.offset_allocator.proofs.{Common.◌∙◌, Common.◌≡◌, Common.◌++◌, Common.◌∷◌, Common.[], Common.sym, Common.rules, Common.ap, Common.arith, Common.length, Common.map, Arranging.Entries.first_node, Arranging.Entries.map_push}
use Rattle.offset_allocator.proofs.layouts.by_node.ByNodeTables.with_capacity.Goals as goal

pub push_within-requires : goal.push_within-requires
push_within-requires g c = omega (arith, c.requires.some, ap length c.in_ok-nodes.ensures.empty, c.in_ok-nodes.ensures.exact, c.in_ok-nodes.nodes.ok.0)

pub push_within-requires-2 : goal.push_within-requires-2
push_within-requires-2 g c = omega (arith, c.requires.some, ap length c.in_ok-spare.ensures.empty, c.in_ok-spare.ensures.exact, c.in_ok-spare.spare.ok.0)

pub returns-clause-chain : goal.returns-clause-chain
returns-clause-chain g c = record {
  nodes = first_node g.NI.NodeIndex.MAX g.NI.NodeIndex.number _ _ _ c.in_ok-nodes.ensures.empty c.push_within.ensures.items c.blank.ensures.node;
  spare = map_push g.NI.NodeIndex.number _ _ _ c.push_within-2.ensures.items (ap (map g.NI.NodeIndex.number) c.in_ok-spare.ensures.empty) c.link_to.ensures.number;
  reserved = c.push_within.ensures.memory ∙ c.in_ok-nodes.ensures.exact;
}

pub invariant_of-result : goal.invariant_of-result
invariant_of-result g c =
    let nodes : length c.push_within.new.values.items ≡ 1 = ap length (c.push_within.ensures.items ∙ ap (λ l. l ++ c.blank.result ∷ []) c.in_ok-nodes.ensures.empty) in
    let spare : length c.push_within-2.new.values.items ≡ 1 = ap length (c.push_within-2.ensures.items ∙ ap (λ l. l ++ c.link_to.result ∷ []) c.in_ok-spare.ensures.empty) in
    let room = c.push_within.ensures.memory ∙ c.in_ok-nodes.ensures.exact in
    record {
      spare = spare ∙ sym nodes;
      heads = search rules;
      masks = search rules;
      within = omega (arith, nodes, room, c.requires.some);
      memory = c.push_within-2.ensures.memory ∙ c.in_ok-spare.ensures.exact ∙ sym room;
      limit = omega (arith, room, c.requires.limit);
    }
