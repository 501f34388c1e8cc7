use Rattle.offset_allocator.proofs.Common.{◌≡◌, ◌%◌, ◌↔◌, ◌+◌, ◌*◌, ◌<◌, ◌≤◌, ◌⊎◌, ◌∙◌, ℕ, true, false, List, [], ◌∷◌, ◌++◌, Some, None, length, refl, sym, ap, subst, arith, inl, inr, append_assoc, length-append, Node, Block, IsChain}
use Rattle.offset_allocator.proofs.Common.{HasPlace, IsSpace, blocks, ends_used, last_or, count_used, used_units, ap₂, true≢false}
use Rattle.offset_allocator.proofs.{Extending.ends_last, Linking.Places.at_place, Linking.Places.end_fits, Linking.Places.placed, Tallies.units-append}
use Rattle.offset_allocator.proofs.Moving.Budgeted.{Started, started, started_place, none_left, last_added, free_added, live_added, free_within, live_within, not_within, used_fit, IsFollowed, followed_first, followed_on, followed_end}
use Rattle.offset_allocator.specs.declared.moves.over_frames.{Progress.Progress, Reach.Reach}
use Rattle.offset_allocator.specs.Moving.Budget.{IsWithin}
use Rattle.offset_allocator.proofs.moves.over_frames.run_from.Given.{Over}
use Rattle.offset_allocator.proofs.moves.over_frames.run_from.Goals.{then-used+else-is_beyond, else-used, After-is_used-used}
use Rattle.offset_allocator.proofs.moves.over_frames.run_from.Goals as goal

pub after-requires : goal.after-requires
after-requires g c =
    let r = c.requires.place in
    (placed (subst (λ (l : List Block). IsChain (g.T.Tables.cells c.args.tables.now).chain (g.T.Tables.cells c.args.tables.now).chain.reserved r.0 r.1 l) r.6 r.5) r.7).below

pub is_freed_by-requires-clause-below : goal.is_freed_by-requires-clause-below
is_freed_by-requires-clause-below g c =
    let r = c.requires.place in
    (placed (subst (λ (l : List Block). IsChain (g.T.Tables.cells c.args.tables.now).chain (g.T.Tables.cells c.args.tables.now).chain.reserved r.0 r.1 l) r.6 r.5) r.7).below

pub loop-at-init : goal.loop-at-init
loop-at-init g c = record {
  grows = omega arith;
  at = λ last spare front b after space is name idle.
      let place : HasPlace (g.T.Tables.cells c.args.tables.now).chain (g.T.Tables.cells c.args.tables.now).chain.reserved last spare c.args.first (record { before = front; block = b; after = after }) =
      placed (subst (λ (l : List Block). IsChain (g.T.Tables.cells c.args.tables.now).chain (g.T.Tables.cells c.args.tables.now).chain.reserved last spare l) is space) name in (
        [],
        after,
        refl,
        sym (c.linked-at.ensures ∙ c.after.ensures.cell ∙ ap (λ (n : Node). n.after) (at_place place)),
        inr (omega arith, omega arith),
        ap Some name,
        idle,
        followed_first c.args.step b c.args.admits c.is_freed_by.result
            (subst (λ (n : Node). (c.is_freed_by.result ≡ true) ↔ ((c.args.admits ≡ true) ⊎ (n.size % c.args.step ≡ 0))) (at_place place) c.is_freed_by.ensures.is) idle,
        refl,
        omega arith,
      );
}

-- the block that is looked at
record Met (g : Over) (c : After-is_used-used g) (last spare : ℕ) (front : List Block) (b : Block) (after : List Block) : Type 0 where
  rest : List Block
  next : Block
  left : List Block
  is : after ≡ rest ++ next ∷ left
  place : HasPlace (g.T.Tables.cells c.args.tables.now).chain (g.T.Tables.cells c.args.tables.now).chain.reserved last spare c.in-Some.name (record { before = front ++ b ∷ rest; block = next; after = left })
  size : c.size-size.result ≡ next.size
  used : c.is_used-used.result ≡ next.used
  within : IsWithin c.args.most_units c.args.most_ranges rest
  ends : last_or None (b ∷ rest) ≡ Some c.loop-at.reach.end
  used_end : ends_used (b ∷ rest) ≡ c.loop-at.reach.end_used
  follows : IsFollowed c.args.step c.args.admits c.loop-at.reach.follows (b ∷ rest)
  so_far : c.loop-at.reach.progress ≡ record { units = used_units rest; ranges = count_used rest; next = None }
  counted : c.is_used-used.new.count ≤ c.after.new.count + 3 * length rest + 2

met : (g : Over) (c : After-is_used-used g) (last spare : ℕ) (front : List Block) (b : Block) (after : List Block) → IsSpace (g.T.Tables.cells c.args.tables.now).chain last spare
    → blocks (g.T.Tables.cells c.args.tables.now).chain last ≡ front ++ b ∷ after → b.name ≡ c.args.first → b.used ≡ false → Met g c last spare front b after
met g c last spare front b after space is name idle =
    let i = c.loop-at.invariant.at last spare front b after space is name idle in
    let s : Started i.1 c.in-Some.name = started i.1 c.in-Some.name (i.3 ∙ c.in-Some.is) in
    let place = started_place space front b i.0 i.1 (is ∙ ap (λ (l : List Block). front ++ b ∷ l) i.2) s in
    record {
      rest = i.0;
      next = s.first;
      left = s.rest;
      is = i.2 ∙ ap (λ (l : List Block). i.0 ++ l) s.is;
      place = place;
      size = c.size-size.ensures.cell ∙ ap (λ (n : Node). n.size) (at_place place);
      used = c.is_used-used.ensures.cell ∙ ap (λ (n : Node). n.used) (at_place place);
      within = i.4;
      ends = i.5;
      used_end = i.6;
      follows = i.7;
      so_far = i.8;
      counted = omega (arith, i.9, c.size-size.ensures.accesses, c.is_used-used.ensures.accesses);
    }

pub size-size-requires : goal.size-size-requires
size-size-requires g c =
    let r = c.requires.place in
    let i = c.loop-at.invariant.at r.0 r.1 r.2 r.3 r.4 r.5 r.6 r.7 r.8 in
    (started_place r.5 r.2 r.3 i.0 i.1 (r.6 ∙ ap (λ (l : List Block). r.2 ++ r.3 ∷ l) i.2) (started i.1 c.in-Some.name (i.3 ∙ c.in-Some.is))).below

pub is_used-used-requires : goal.is_used-used-requires
is_used-used-requires g c =
    let r = c.requires.place in
    let i = c.loop-at.invariant.at r.0 r.1 r.2 r.3 r.4 r.5 r.6 r.7 r.8 in
    (started_place r.5 r.2 r.3 i.0 i.1 (r.6 ∙ ap (λ (l : List Block). r.2 ++ r.3 ∷ l) i.2) (started i.1 c.in-Some.name (i.3 ∙ c.in-Some.is))).below

pub after-requires-in-Some : goal.after-requires-in-Some
after-requires-in-Some g c =
    let r = c.requires.place in
    (met g (goal.at.after-requires-in-Some g c).After-is_used-used r.0 r.1 r.2 r.3 r.4 r.5 r.6 r.7 r.8).place.below

pub overflow_add-reach : goal.overflow_add-reach
overflow_add-reach g c =
    let r = c.requires.place in
    let m = met g (goal.at.overflow_add-reach g c).After-is_used-used r.0 r.1 r.2 r.3 r.4 r.5 r.6 r.7 r.8 in
    omega (arith, m.size, ap (λ (p : Progress). p.units) m.so_far, used_fit m.rest, end_fits m.place, units-append r.2 (r.3 ∷ m.rest))

pub returns-then-is_beyond : goal.returns-then-is_beyond
returns-then-is_beyond g c = record {
  place = λ last spare front b after space is name idle.
      let m = met g (goal.at.returns-then-is_beyond g c).After-is_used-used last spare front b after space is name idle in
      let far = c.is_beyond.ensures.beyond.0 c.if-is_beyond.true in
      let past : (1 ≤ count_used m.rest) × ((c.args.most_units < used_units m.rest + m.next.size) ⊎ (c.args.most_ranges ≤ count_used m.rest)) = (
        omega (arith, far.0, ap (λ (p : Progress). p.ranges) m.so_far),
        elim far.1
            [ inl l ↦ inl (omega (arith, l, m.size, ap (λ (p : Progress). p.units) m.so_far)) | inr l ↦ inr (omega (arith, l, ap (λ (p : Progress). p.ranges) m.so_far)) ],
      ) in
      let live : m.next.used ≡ true = sym m.used ∙ c.if-used.true in (
        m.rest,
        m.next ∷ m.left,
        m.is,
        m.within,
        (live, not_within m.rest m.next c.args.most_units c.args.most_ranges live past),
        m.ends,
        followed_end c.args.step b c.args.admits m.rest c.loop-at.reach.follows c.loop-at.reach.end_used m.used_end m.follows,
        ap (λ (p : Progress). let q : Progress = record { units = p.units; ranges = p.ranges; next = Some c.offset.result } in q) m.so_far
            ∙ ap (λ (n : ℕ). let q : Progress = record { units = used_units m.rest; ranges = count_used m.rest; next = Some n } in q) (c.offset.ensures.cell ∙ ap (λ (n : Node). n.offset) (at_place m.place)),
        omega (arith, c.loop-at.invariant.grows, c.after.ensures.accesses, c.size-size.ensures.accesses, c.is_used-used.ensures.accesses, c.offset.ensures.accesses),
        omega (arith, m.counted, c.after.ensures.accesses, c.offset.ensures.accesses),
      );
}

pub loop-at-smaller : goal.loop-at-smaller
loop-at-smaller g c =
    let r = c.requires.place in
    let i = c.loop-at.invariant.at r.0 r.1 r.2 r.3 r.4 r.5 r.6 r.7 r.8 in
    let m = met g (goal.at.loop-at-smaller g c).After-is_used-used r.0 r.1 r.2 r.3 r.4 r.5 r.6 r.7 r.8 in
    omega (
      arith,
      m.counted,
      m.place.chain.full,
      length-append (r.2 ++ r.3 ∷ m.rest) (m.next ∷ m.left),
      length-append r.2 (r.3 ∷ m.rest),
      c.loop-at.invariant.grows,
      c.size-size.ensures.accesses,
      c.is_used-used.ensures.accesses,
      c.after-in-Some.ensures.accesses,
    )

pub loop-at-preserved : goal.loop-at-preserved
loop-at-preserved g c = record {
  grows = omega (arith, c.loop-at.invariant.grows, c.size-size.ensures.accesses, c.is_used-used.ensures.accesses, c.after-in-Some.ensures.accesses);
  at = λ last spare front b after space is name idle.
      let m = met g (goal.at.loop-at-preserved g c).After-is_used-used last spare front b after space is name idle in
      let more : List Block = m.rest ++ m.next ∷ [] in
      let both : IsWithin c.args.most_units c.args.most_ranges more × IsFollowed c.args.step c.args.admits c.if-used.reach.follows (b ∷ more) × (c.if-used.reach.progress ≡ record { units = used_units more; ranges = count_used more; next = None }) = elim c.if-used.branch [
        | then-used+else-is_beyond w ↦
            let live : m.next.used ≡ true = sym m.used ∙ w.if-used.true in
            let a = live_added m.rest m.next live in (
              live_within m.rest m.next c.args.most_units c.args.most_ranges live
                  (λ h. let far = w.is_beyond.ensures.beyond.1 (
                    omega (arith, h.0, ap (λ (p : Progress). p.ranges) m.so_far),
                    elim h.1
                        [ inl l ↦ inl (omega (arith, l, m.size, ap (λ (p : Progress). p.units) m.so_far)) | inr l ↦ inr (omega (arith, l, ap (λ (p : Progress). p.ranges) m.so_far)) ],
                  ) in
                  absurd (true≢false (sym far ∙ w.if-is_beyond.false))),
              followed_on c.args.step b c.args.admits m.rest m.next c.loop-at.reach.follows c.if-used.reach.follows m.follows
                  (let same : c.if-used.reach.follows ≡ c.loop-at.reach.follows = ap (λ (r : Reach). r.follows) w.reach-is in
                  (λ e. inl (sym same ∙ e), λ e. elim e [ inl f ↦ same ∙ f | inr z ↦ absurd (true≢false (sym live ∙ z.0)) ])),
              ap (λ (r : Reach). r.progress) w.reach-is
                  ∙ ap (λ (p : Progress). let q : Progress = record { units = p.units + c.size-size.result; ranges = p.ranges + 1; next = p.next } in q) m.so_far
                  ∙ ap₂ (λ (u r : ℕ). let q : Progress = record { units = u; ranges = r; next = None } in q) (omega (arith, a.0, m.size)) (sym a.1),
            )
        | else-used w ↦
            let still : m.next.used ≡ false = sym m.used ∙ w.if-used.false in
            let a = free_added m.rest m.next still in (
              free_within m.rest m.next c.args.most_units c.args.most_ranges still m.within,
              followed_on c.args.step b c.args.admits m.rest m.next c.loop-at.reach.follows c.if-used.reach.follows m.follows
                  (let same : c.if-used.reach.follows ≡ w.is_freed.result = ap (λ (r : Reach). r.follows) w.reach-is in (
                    λ e. elim (w.is_freed.ensures.is.0 (sym same ∙ e)) [ inl f ↦ inl f | inr z ↦ inr (still, ap (λ n. n % c.args.step) (sym m.size) ∙ z) ],
                    λ e. same ∙ w.is_freed.ensures.is.1 (elim e [ inl f ↦ inl f | inr z ↦ inr (ap (λ n. n % c.args.step) m.size ∙ z.1) ]),
                  )),
              ap (λ (r : Reach). r.progress) w.reach-is ∙ m.so_far ∙ ap₂ (λ (u r : ℕ). let q : Progress = record { units = u; ranges = r; next = None } in q) (sym a.0) (sym a.1),
            )
      ] in (
        more,
        m.left,
        m.is ∙ sym (append_assoc m.rest (m.next ∷ []) m.left),
        sym (c.linked-at-in-Some.ensures ∙ c.after-in-Some.ensures.cell ∙ ap (λ (n : Node). n.after) (at_place m.place)),
        both.0,
        last_added (Some b.name) m.rest m.next ∙ ap Some m.place.name,
        ends_last (b ∷ m.rest) m.next ∙ sym m.used,
        both.1,
        both.2,
        omega (arith, m.counted, c.after-in-Some.ensures.accesses, length-append m.rest (m.next ∷ [])),
      );
}

pub returns : goal.returns
returns g c = record {
  place = λ last spare front b after space is name idle.
      let i = c.loop-at.invariant.at last spare front b after space is name idle in
      let none = none_left i.1 (i.3 ∙ c.in_default.is) in (
        i.0,
        [],
        i.2 ∙ ap (λ (l : List Block). i.0 ++ l) none,
        i.4,
        tt,
        i.5,
        followed_end c.args.step b c.args.admits i.0 c.loop-at.reach.follows c.loop-at.reach.end_used i.6 i.7,
        i.8,
        omega (arith, c.loop-at.invariant.grows, c.after.ensures.accesses),
        omega (arith, i.9, c.after.ensures.accesses),
      );
}
