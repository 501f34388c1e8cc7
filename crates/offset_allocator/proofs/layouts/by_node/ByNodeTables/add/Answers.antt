use Rattle.offset_allocator.proofs.{Common.[], Common.◌∷◌, Common.sym, Common.◌≡◌, Common.◌∙◌, Common.length, Common.ap, Common.arith, Common.map-set, Common.length-set, Common.length-append, Common.with_node, Common.nodes_of, Common.node_of, Common.Cells}
use Rattle.offset_allocator.proofs.Arranging.Entries.{length-nodes_of, map_push, room_left, spare_left}
use Rattle.offset_allocator.proofs.layouts.by_node.ByNodeTables.add.Goals as goal

pub link_to-name-requires : goal.link_to-name-requires
link_to-name-requires g c = omega (arith, room_left g.NI.NodeIndex.MAX g.NI.NodeIndex.number c.self.inside c.self.view_is c.requires.memory)

pub push_within-requires : goal.push_within-requires
push_within-requires g c = room_left g.NI.NodeIndex.MAX g.NI.NodeIndex.number c.self.inside c.self.view_is c.requires.memory

pub push_within-requires-2 : goal.push_within-requires-2
push_within-requires-2 g c = spare_left g.NI.NodeIndex.MAX g.NI.NodeIndex.number c.self.inside c.self.view_is c.self.invariant c.requires.memory

pub returns-clause-newer : goal.returns-clause-newer
returns-clause-newer g c = map_push (λ n. g.NI.NodeIndex.number n.newer) _ _ _ c.push_within.ensures.items (ap (λ (v : Cells). v.bins.newer) c.self.view_is) c.blank.ensures.newer

pub returns-clause-older : goal.returns-clause-older
returns-clause-older g c = map_push (λ n. g.NI.NodeIndex.number n.older) _ _ _ c.push_within.ensures.items (ap (λ (v : Cells). v.bins.older) c.self.view_is) c.blank.ensures.older

pub returns-clause-chain : goal.returns-clause-chain
unfolding with_node nodes_of
returns-clause-chain g c =
    let is = c.self.view_is in
    let nodes = map_push (node_of g.NI.NodeIndex.MAX g.NI.NodeIndex.number) _ _ _ c.push_within.ensures.items (ap (λ (v : Cells). v.chain.nodes) is) c.blank.ensures.node in
    let name : g.NI.NodeIndex.number c.link_to-name.result ≡ length c.args.self.now.chain.nodes = omega (arith, ap (λ (v : Cells). length v.chain.nodes) is, length-nodes_of g.NI.NodeIndex.MAX g.NI.NodeIndex.number c.self.inside.nodes.items) in
    let pushed = map_push g.NI.NodeIndex.number _ _ _ c.push_within-2.ensures.items (ap (λ (v : Cells). v.chain.spare) is) name in
    let spare = map-set g.NI.NodeIndex.number c.push_within-2.new.values.items c.args.place c.link_to-name.result in
    let reserved = c.push_within.ensures.memory ∙ ap (λ (v : Cells). v.chain.reserved) is in
    cc (nodes, name, pushed, spare, reserved)

pub invariant_of-self : goal.invariant_of-self
invariant_of-self g c =
    let h = c.self.invariant in
    let nodes = ap length c.push_within.ensures.items ∙ length-append c.self.inside.nodes.items (c.blank.result ∷ []) in
    let spare = ap length c.push_within-2.ensures.items ∙ length-append c.self.inside.spare.items (c.link_to-name.result ∷ []) in
    let same = length-set c.push_within-2.new.values.items c.args.place c.link_to-name.result in
    record {
      spare = omega (arith, h.spare, nodes, spare, same);
      heads = h.heads;
      masks = h.masks;
      within = omega (arith, nodes, c.push_within.ensures.memory, room_left g.NI.NodeIndex.MAX g.NI.NodeIndex.number c.self.inside c.self.view_is c.requires.memory);
      memory = c.push_within-2.ensures.memory ∙ h.memory ∙ sym c.push_within.ensures.memory;
      limit = omega (arith, c.push_within.ensures.memory, h.limit);
    }

pub index_mut-requires : goal.index_mut-requires
index_mut-requires g c = omega (
  arith,
  c.requires.place,
  c.push_within-2.ensures.len,
  c.self.inside.spare.ok.0,
  c.self.invariant.spare,
  ap (λ (v : Cells). length v.chain.nodes) c.self.view_is,
  length-nodes_of g.NI.NodeIndex.MAX g.NI.NodeIndex.number c.self.inside.nodes.items,
)

pub returns-clause-accesses : goal.returns-clause-accesses
returns-clause-accesses g c = omega (arith, c.tick.ensures, c.tick-2.ensures, c.tick-3.ensures, c.tick-4.ensures, c.tick-5.ensures, c.tick-6.ensures, c.tick-7.ensures, c.tick-8.ensures)
