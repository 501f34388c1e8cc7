use Rattle.offset_allocator.proofs.Common.{◌≡◌, ◌≤◌, List, [], ◌∷◌, ◌++◌, Some, None, length, refl, sym, ap, ◌∙◌, arith, append-nil, append_assoc, length-append, Node, Block, last_or, first_free}
use Rattle.offset_allocator.proofs.{Common.count_named, Common.common_steps, Linking.Ends.Ended, Linking.Ends.ended, Linking.Ends.last_none, Linking.Places.at_place, Moving.Sliding.walked}
use Rattle.offset_allocator.proofs.{Moving.Sliding.first_used, Moving.Sliding.first_idle, Moving.Starts.first_front, Moving.Starts.until_front, Linking.Exchange.each-le, Moving.Nearest.until_last}
use Rattle.offset_allocator.specs.Moving.Compacting.{until, until_free}
use Rattle.offset_allocator.proofs.moves.compact.first_free.Goals as goal
use Rattle.offset_allocator.proofs.moves.compact.first_free.Goals.{then-not-is_used, else-not-is_used}

pub is_used-requires : goal.is_used-requires
is_used-requires g c = let i = c.loop-at.invariant in (walked c.requires.space.1 i.front (i.met ++ i.rest) i.is (i.ends ∙ c.in-Some.is)).below

pub loop-at-init : goal.loop-at-init
loop-at-init g c =
    let s = c.requires.start in
    record {
      front = s.0;
      met = [];
      rest = s.1;
      is = s.2;
      ends = s.3;
      first = refl;
      whole = λ e. s.4 (sym (ap first_free (append-nil s.0)) ∙ e);
      all = ap (until c.args.start) s.2 ∙ until_last s.0 s.1 c.args.start s.3 (let e = each-le _ _ _ _ _ c.requires.space.1 c.args.start in omega (arith, e, ap (count_named c.args.start) s.2))
          ∙ omega arith;
      accesses = omega arith;
    }

pub before-at-requires : goal.before-at-requires
before-at-requires g c = let i = c.loop-at.invariant in (walked c.requires.space.1 i.front (i.met ++ i.rest) i.is (i.ends ∙ c.in-Some.is)).below

pub loop-at-preserved : goal.loop-at-preserved
loop-at-preserved g c =
    let i = c.loop-at.invariant in
    let e : last_or None i.front ≡ Some c.in-Some.name = i.ends ∙ c.in-Some.is in
    let f : Ended c.in-Some.name i.front = ended i.front c.in-Some.name e in
    let h = walked c.requires.space.1 i.front (i.met ++ i.rest) i.is e in
    let used : c.is_used.result ≡ f.last.used = c.is_used.ensures.cell ∙ ap (λ (n : Node). n.used) (at_place h) in
    record {
      front = f.front;
      met = f.last ∷ i.met;
      rest = i.rest;
      is = i.is ∙ ap (λ (l : List Block). l ++ (i.met ++ i.rest)) f.is ∙ append_assoc f.front (f.last ∷ []) (i.met ++ i.rest);
      ends = sym (c.before-at.ensures.before ∙ ap (λ (n : Node). n.before) (at_place h));
      first = grind (arith, common_steps, then-not-is_used, first_idle, else-not-is_used, first_used);
      whole = λ n. i.whole (ap (λ (l : List Block). first_free (l ++ i.met)) f.is ∙ ap first_free (append_assoc f.front (f.last ∷ []) i.met) ∙ n);
      all = omega (arith, i.all, ap (λ (l : List Block). length l) f.is, length-append f.front (f.last ∷ []));
      accesses = omega (arith, i.accesses, c.is_used.ensures.accesses, c.before-at.ensures.accesses);
    }

-- nothing is left to meet
module _ (front met rest : List Block) (n : front ≡ []) where
  met_first : (bs : List Block) → bs ≡ front ++ (met ++ rest) → (first_free (front ++ met) ≡ None → rest ≡ []) → first_free bs ≡ first_free met
  met_first bs is h = ap first_free (is ∙ ap (λ (l : List Block). l ++ (met ++ rest)) n) ∙ first_front met rest (λ e. h (ap (λ (l : List Block). first_free (l ++ met)) n ∙ e))

  met_until : (bs : List Block) → bs ≡ front ++ (met ++ rest) → (first_free (front ++ met) ≡ None → rest ≡ []) → (until_free bs ≤ length met) × (length met ≤ length bs)
  met_until bs is h =
      let all = is ∙ ap (λ (l : List Block). l ++ (met ++ rest)) n in (
        omega (arith, ap until_free all, until_front met rest (λ e. h (ap (λ (l : List Block). first_free (l ++ met)) n ∙ e))),
        omega
            (arith, ap (λ (l : List Block). length l) all, length-append met rest),
      )

pub returns : goal.returns
returns g c =
    let i = c.loop-at.invariant in
    record {
      first = i.first ∙ sym (met_first i.front i.met i.rest (last_none i.front (i.ends ∙ c.in_default.is)) _ i.is i.whole);
      accesses = omega (arith, i.all, i.accesses, ap (λ (l : List Block). length l) (last_none i.front (i.ends ∙ c.in_default.is)));
      least =
          let n = last_none i.front (i.ends ∙ c.in_default.is) in
          let u = met_until i.front i.met i.rest n _ i.is i.whole in
          omega (arith, u.0, i.all, ap (λ (l : List Block). length l) n);
      most =
          let n = last_none i.front (i.ends ∙ c.in_default.is) in
          let u = met_until i.front i.met i.rest n _ i.is i.whole in
          omega (arith, u.1, i.all, ap (λ (l : List Block). length l) n);
    }
