-- The first live range of a space.
use Rattle.offset_allocator.proofs.Common.{◌≡◌, ℕ, ◌+◌, Bool, true, false, List, [], ◌∷◌, ◌++◌, Option, None, Some, option_map, refl, sym, ap, subst, ◌∙◌, arith}
use Rattle.offset_allocator.proofs.Common.{Node, node, HasPlace, IsChain, Block, Place, Handle, View, units, placed, blocks}
use Rattle.offset_allocator.specs.Reporting.Walking.{first_handle, first_live}
use Rattle.offset_allocator.proofs.{Sound.Fields, Sound.AreSound, Sound.shown, Linking.Places.placed as placed_at_name, Linking.Places.at_place, Tallies.units-append}

-- the name of a grant
abbrev pub name_of : Option Handle → Option ℕ
name_of o = option_map (λ (g : Handle). g.name) o

-- one more block before those that were met
pub met_used : (fs : List Block) (b : Block) (met : List Block) → b.used ≡ true → Some b.name ≡ name_of (first_handle (placed (units fs) (b ∷ met)))
met_used fs b met e = grind (arith, e)

pub met_free : (fs : List Block) (b : Block) (met : List Block) (first : Option ℕ) → b.used ≡ false → first ≡ name_of (first_handle (placed (units (fs ++ b ∷ [])) met))
    → first ≡ name_of (first_handle (placed (units fs) (b ∷ met)))
met_free fs b met first e f =
    let size : units (fs ++ b ∷ []) ≡ units fs + b.size = omega (arith, units-append fs (b ∷ [])) in
    f ∙ ap (λ (o : ℕ). name_of (first_handle (placed o met))) size ∙ grind (arith, e)

-- where the first grant of blocks is
pub record First (o : ℕ) (bs : List Block) (g : Handle) : Type 0 where
  pub place : Place
  pub is : bs ≡ place.before ++ (place.block ∷ place.after)
  pub name : place.block.name ≡ g.name
  pub offset : o + units place.before ≡ g.offset

pub first_place : (o : ℕ) (bs : List Block) (g : Handle) → first_handle (placed o bs) ≡ Some g → First o bs g
first_place o [] g e = absurd (cc)
first_place o (b ∷ bs) g e = go b.used refl (λ f. first_place (o + b.size) bs g f)
  where
    go : (u : Bool) → b.used ≡ u → (first_handle (placed (o + b.size) bs) ≡ Some g → First (o + b.size) bs g) → First o (b ∷ bs) g
    go true u ih =
        let f : Some (record { name = b.name; offset = o }) ≡ Some g = grind (arith, e, u) in
        record { place = record { before = []; block = b; after = bs }; is = refl; name = cc; offset = (let h : o ≡ g.offset = cc in omega (arith, h)) }
    go false u ih =
        let f : first_handle (placed (o + b.size) bs) ≡ Some g = grind (arith, e, u) in
        let r = ih f in
        record {
          place = record { before = b ∷ r.place.before; block = r.place.block; after = r.place.after };
          is = ap (λ (l : List Block). b ∷ l) r.is;
          name = r.name;
          offset = omega (arith, r.offset);
        }

-- the grant of a name
pub named_grant : (o : Option Handle) (x : ℕ) → Some x ≡ name_of o → (g : Handle) × (o ≡ Some g) × (g.name ≡ x)
named_grant None x e = absurd (cc)
named_grant (Some g) x e = (g, refl, cc)

module _ (it : Fields) (s : AreSound it) (x : ℕ) (e : Some x ≡ name_of (first_handle (placed 0 (blocks it.cells.chain it.last)))) where
  pub first_of : (g : Handle) × (first_handle (placed 0 (blocks it.cells.chain it.last)) ≡ Some g) × (g.name ≡ x)
  first_of = named_grant (first_handle (placed 0 (blocks it.cells.chain it.last))) x e

  pub first_at : First 0 (blocks it.cells.chain it.last) first_of.0
  first_at = first_place 0 (blocks it.cells.chain it.last) first_of.0 first_of.1

  pub first_there : HasPlace it.cells.chain it.cells.chain.reserved it.last it.count x first_at.place
  first_there = placed_at_name (subst (λ (l : List Block). IsChain it.cells.chain it.cells.chain.reserved it.last it.count l) first_at.is s.space) (first_at.name ∙ first_of.2)

  pub first_said : (v : View) → shown it ≡ v → Some (record { name = x; offset = (node it.cells.chain x).offset }) ≡ first_live v
  first_said v view =
      let o : (node it.cells.chain x).offset ≡ first_of.0.offset = ap (λ (n : Node). n.offset) (at_place first_there) ∙ omega (arith, first_at.offset) in
      ap (λ (m : ℕ). Some (record { name = x; offset = m })) o ∙ ap (λ (n : ℕ). Some (record { name = n; offset = first_of.0.offset })) (sym first_of.2)
      ∙ sym first_of.1 ∙ ap first_live view
