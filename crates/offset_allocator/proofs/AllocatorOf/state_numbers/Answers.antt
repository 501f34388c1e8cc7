use Rattle.offset_allocator.proofs.{Saving.Saved.names_once, Linking.Exchange.there-below, Linking.Walks.length_below}
use Rattle.offset_allocator.proofs.Common.{◌≡◌, ◌∙◌, ◌++◌, ◌∷◌, [], ap, ap₂, sym, take, length, length-take-le, append_assoc, arith, ℕ, List, Block, View, count_named, blocks, bins_in}
use Rattle.offset_allocator.specs.Saving.State.{block_words}
use Rattle.std.specs.List.{concat}
use Rattle.offset_allocator.proofs.AllocatorOf.state_numbers.Goals as goal

pub overflow_cast-len : goal.overflow_cast-len
overflow_cast-len g c =
    let v : View = c.args.self.now in
    let w = c.formed.ensures in
    let same : blocks (g.T.Tables.cells c.self.inside.store.tables).chain c.self.inside.store.last ≡ v.blocks = ap (λ (u : View). u.blocks) c.self.view_is in
    let bins : concat (bins_in g.T.Index.NodeIndex.MAX (g.T.Tables.cells c.self.inside.store.tables).bins) ≡ concat v.bins = ap (λ (u : View). concat u.bins) c.self.view_is in
    let few = length_below (length (g.T.Tables.cells c.self.inside.store.tables).chain.nodes) (concat v.bins) (λ x. omega (arith, names_once v w x, w.distinct x))
    (λ x s. there-below _ _ _ _ x _ c.self.invariant.space (omega (arith, s, names_once v w x, ap (count_named x) same))) in
    omega (arith, few, ap length (c.in_ok-names.ensures ∙ bins), c.len.ensures, c.in_ok-names.names.ok.0, c.shape.ensures.within, c.shape.ensures.limit, c.shape.ensures.word)

pub returns : goal.returns
returns g c =
    let v : View = c.args.self.now in
    let w = c.formed.ensures in
    let chain = c.self.invariant.space in
    let us : List ℕ = take c.self.inside.store.spare_count (g.T.Tables.cells c.self.inside.store.tables).chain.spare in
    let same : blocks (g.T.Tables.cells c.self.inside.store.tables).chain c.self.inside.store.last ≡ v.blocks = ap (λ (u : View). u.blocks) c.self.view_is in
    let bins : concat (bins_in g.T.Index.NodeIndex.MAX (g.T.Tables.cells c.self.inside.store.tables).bins) ≡ concat v.bins = ap (λ (u : View). concat u.bins) c.self.view_is in
    let names : c.in_ok-names.names.items ≡ concat v.bins = c.in_ok-names.ensures ∙ bins in
    let long : length us ≡ c.self.inside.store.spare_count =
    length-take-le c.self.inside.store.spare_count (g.T.Tables.cells c.self.inside.store.tables).chain.spare (omega (arith, chain.full, chain.stack)) in
    let bs : List Block = blocks (g.T.Tables.cells c.self.inside.store.tables).chain c.self.inside.store.last in
    let head : List ℕ = 1414742351 ∷ 1 ∷ c.self.inside.size ∷ c.self.inside.max_allocs ∷ c.block_count.result ∷ c.len.result ∷ c.self.inside.store.spare_count ∷ [] in
    let begun : c.extend_from_slice.new.self.items ≡ head = c.in_ok-extend_from_slice.ensures.items ∙ ap (λ l. l ++ head) c.new-words.ensures.items in
    let size : c.self.inside.size ≡ v.size = ap (λ (u : View). u.size) c.self.view_is in
    let limit : c.self.inside.max_allocs ≡ v.max_allocs = ap (λ (u : View). u.max_allocs) c.self.view_is in
    let count : c.block_count.result ≡ length v.blocks = c.block_count.ensures in
    let free : c.len.result ≡ length (concat v.bins) = omega (arith, c.len.ensures, c.in_ok-names.names.ok.0, ap length names) in
    let unused : us ≡ v.unused = ap (λ (u : View). u.unused) c.self.view_is in
    let left : c.self.inside.store.spare_count ≡ length v.unused = sym long ∙ ap length unused in
    let same_head : head ≡ 1414742351 ∷ 1 ∷ v.size ∷ v.max_allocs ∷ length v.blocks ∷ length (concat v.bins) ∷ length v.unused ∷ [] = cc in
    c.in_ok-push_unused.ensures
    ∙ ap (λ l. l ++ us) (c.in_ok-extend_from_slice-2.ensures.items
    ∙ ap₂ (λ (l m : List ℕ). l ++ m) (c.in_ok-push_blocks.ensures ∙ ap (λ l. l ++ block_words bs) begun) (c.deref.ensures.value ∙ names))
    ∙ append_assoc (head ++ block_words bs) (concat v.bins) us ∙ append_assoc head (block_words bs) (concat v.bins ++ us)
    ∙ ap₂ (λ (h t : List ℕ). h ++ t) same_head (ap₂ (λ (l : List Block) (m : List ℕ). block_words l ++ (concat v.bins ++ m)) same unused)
