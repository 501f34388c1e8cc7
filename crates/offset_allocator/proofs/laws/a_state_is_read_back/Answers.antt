use Rattle.offset_allocator.proofs.{Common.◌∙◌, Common.ap, Common.arith, Common.subst, Common.sym, Common.View, Saving.Bytes.same_bytes, Sound.fields_of, Sound.names_sound, Saving.Restored.one_view}
use Rattle.offset_allocator.specs.{View.AreNames, Saving.State.words_in}
use Rattle.offset_allocator.proofs.laws.a_state_is_read_back.Goals as goal

pub returns-clause-one : goal.returns-clause-one
returns-clause-one g c v w bytes f h s t = one_view v w (words_in bytes) f h s.text t.text

pub returns-clause-bytes : goal.returns-clause-bytes
returns-clause-bytes g c v a b small few s t = same_bytes a b s.whole t.whole small few (s.text ∙ sym t.text)

pub returns-clause-names : goal.returns-clause-names
returns-clause-names g c = subst AreNames c.allocator.view_is (names_sound (fields_of g.T.Tables.cells g.T.Index.NodeIndex.MAX c.allocator.inside) c.allocator.invariant)

pub returns-clause-admitted : goal.returns-clause-admitted
returns-clause-admitted g c = omega (arith, c.allocator.invariant.admitted, ap (λ (v : View). v.max_allocs) c.allocator.view_is)
