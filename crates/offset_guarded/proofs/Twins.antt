-- Twins: what calls read of them is the same, and so is what each call leaves.
use Rattle.std.proofs.Common.{◌≡◌, ◌≢◌, ℕ, ◌+◌, ◌⊎◌, Bool, true, false, ◌&&◌, Option, Some, None, IsSome, is_some, option_map, if◌then◌else◌, nat_eq, refl, sym, ap, ap₂}
use Rattle.std.proofs.Common.{subst, ◌∙◌, inl, inr, eq-eqb}
use Rattle.std.proofs.lemmas.Bool.{cases_eq}
use Rattle.offset_allocator.specs.{Ranges.Range, Relations.SameState, View.View, View.Handle, View.IsWellFormed}
use Rattle.offset_allocator.specs.Ranges as named
use Rattle.offset_allocator.specs.Relations as space
use Rattle.offset_allocator.proofs.{DecidedChanges.frees_decided, DecidedChanges.resets_decided, Ranges.frees_gone, Ranges.frees_others, Views.ViewTaken.well_frees}
use Rattle.offset_guarded.specs.Guard.{Guard, Ticket, handle_in, serial_of}
use Rattle.offset_guarded.specs.Guard as guarded
use Rattle.offset_guarded.specs.State.{SameGuard}
use Rattle.offset_guarded.specs.Step.{IsJoined}
use Rattle.offset_guarded.specs.Twins.{IsTwin}
use Rattle.offset_guarded.proofs.{Divisors.one_joined, Guards.live_fits}

none_if : (b : Bool) (o : Option Range) → o ≡ None → (if b then o else None) ≡ None
none_if true o e = e
none_if false o e = refl

some_or : (o : Option Range) → (o ≡ None) ⊎ IsSome o
some_or None = inl refl
some_or (Some r) = inr refl

-- ---- one heap
pub as_twin : (g h : Guard) → IsTwin g h → h ≡ record g { space = record g.space { accesses = h.space.accesses }; serials = h.serials }
as_twin g h t =
    ap (λ (v : View). record h { space = v }) t.space
    ∙ ap₂ (λ (n r : ℕ). record h { space = record g.space { accesses = h.space.accesses }; given = n; realm = r }) t.given t.realm
    ∙ ap (λ (s : ℕ). record g { space = record g.space { accesses = h.space.accesses }; serials = h.serials; step = s }) t.step

pub own_twin : (g : Guard) → IsTwin g g
own_twin g = record { space = refl; serials = λ x l. refl; given = refl; realm = refl; step = refl }

-- the ticket that a name has now
abbrev ticket_now : ℕ → Guard → Ticket
ticket_now x g = record { offset = 0; name = x; serial = serial_of x g; realm = g.realm }

own_range : (x : ℕ) (g : Guard) → guarded.range_of (ticket_now x g) g ≡ named.range_of x g.space
own_range x g = ap (λ (b : Bool). if b then named.range_of x g.space else None) (ap₂ (λ (a b : Bool). a && b) (eq-eqb g.realm g.realm refl) (eq-eqb (serial_of x g) (serial_of x g) refl))

live_state : (x : ℕ) (v w : View) → SameState v w → named.IsLive x w → named.IsLive x v
live_state x v w same l = subst IsSome (ap (λ (z : View). named.range_of x z) same) l

pub twin_sym : (g h : Guard) → IsTwin g h → IsTwin h g
twin_sym g h t = record {
  space = sym (ap (λ (v : View). record v { accesses = g.space.accesses }) t.space);
  serials = λ x l. sym (t.serials x (live_state x g.space h.space t.space l));
  given = sym t.given;
  realm = sym t.realm;
  step = sym t.step;
}

pub range_twin : (u : Ticket) (g h : Guard) → IsTwin g h → guarded.range_of u h ≡ guarded.range_of u g
range_twin u g h t = elim (some_or (named.range_of u.name g.space)) [
  | inl none ↦
      none_if (guarded.fits u h) (named.range_of u.name h.space) (ap (λ (z : View). named.range_of u.name z) t.space ∙ none)
      ∙ sym (none_if (guarded.fits u g) (named.range_of u.name g.space) none)
  | inr live ↦
      ap₂ (λ (r s : ℕ). if nat_eq u.realm r && nat_eq u.serial s then named.range_of u.name h.space else None) t.realm (t.serials u.name live)
      ∙ ap (λ (z : View). if guarded.fits u g then named.range_of u.name z else None) t.space
]

-- ---- a grant
module _ (n : ℕ) (g h : Guard) (t : Ticket) (s : guarded.Grants n g h t) where
  serial_kept : (x : ℕ) → x ≢ t.name → named.IsLive x h.space → serial_of x h ≡ serial_of x g
  serial_kept x d live =
      let u : Ticket = ticket_now x g in
      let was : named.IsLive x g.space = subst IsSome (s.space.others x d) live in
      sym (live_fits u h (subst IsSome (sym (s.others u (λ alike. d alike.0) ∙ own_range x g)) was)).1

  was_live : (x : ℕ) → x ≢ t.name → named.IsLive x h.space → named.IsLive x g.space
  was_live x d live = subst IsSome (s.space.others x d) live

  own_serial : serial_of t.name h ≡ t.serial
  own_serial = let o : Option Range = Some (record { offset = t.offset; size = n }) in let some : IsSome o = refl in sym (live_fits t h (subst IsSome (sym s.range) some)).1

module _ (n : ℕ) (g g' h h' : Guard) (t t' : Ticket) (twin : IsTwin g g') (s : guarded.Grants n g h t) (s' : guarded.Grants n g' h' t')
    (same : (Some (handle_in t) ≡ Some (handle_in t')) × SameState h.space h'.space) where
  handle : handle_in t ≡ handle_in t'
  handle = let e = same.0 in cc

  name : t.name ≡ t'.name
  name = ap (λ (a : Handle). a.name) handle

  serial : t.serial ≡ t'.serial
  serial = s.serial ∙ sym (ap (λ (k : ℕ). k + 1) twin.given) ∙ sym s'.serial

  pub same_ticket : t ≡ t'
  same_ticket =
      ap₂ (λ (o x : ℕ). let u : Ticket = record t { offset = o; name = x } in u) (ap (λ (a : Handle). a.offset) handle) name
      ∙ ap₂ (λ (n m : ℕ). let u : Ticket = record t' { serial = n; realm = m } in u) serial (s.realm.0 ∙ sym twin.realm ∙ sym s'.realm.0)

  serials : (x : ℕ) → named.IsLive x h.space → serial_of x h' ≡ serial_of x h
  serials x live =
      let live' : named.IsLive x h'.space = subst IsSome (sym (ap (λ (z : View). named.range_of x z) same.1)) live in
      elim (cases_eq x t.name) [
        | inl e ↦ ap (λ y. serial_of y h') (e ∙ name) ∙ own_serial n g' h' t' s' ∙ sym serial ∙ sym (own_serial n g h t s) ∙ sym (ap (λ y. serial_of y h) e)
        | inr d ↦
            serial_kept n g' h' t' s' x (λ e. d (e ∙ sym name)) live' ∙ twin.serials x (was_live n g h t s x d live)
            ∙ sym (serial_kept n g h t s x d live)
      ]

  pub grant_twins : h'.step ≡ h.step → IsTwin h h'
  grant_twins step = record {
    space = same.1;
    serials = serials;
    given = s'.given ∙ sym serial ∙ sym s.given;
    realm = s'.realm.1 ∙ twin.realm ∙ sym s.realm.1;
    step = step;
  }

-- two steps take one alignment in
pub joined_twins : (align : ℕ) (g g' h h' : Guard) → IsTwin g g' → IsJoined g.step align h.step → IsJoined g'.step align h'.step → h'.step ≡ h.step
joined_twins align g g' h h' twin j j' = one_joined g.step align h'.step h.step (subst (λ (n : ℕ). IsJoined n align h'.step) twin.step j') j

-- ---- a release, and a reset
pub free_twins : (x : ℕ) (g g' h h' : Guard) → IsWellFormed g.space → IsTwin g g' → space.Frees x g.space h.space → space.Frees x g'.space h'.space → h ≡ record g { space = h.space }
    → h' ≡ record g' { space = h'.space } → IsTwin h h'
free_twins x g g' h h' known twin f f' e e' =
    let after = well_frees x g.space h.space known f in
    record {
      space = frees_decided x g.space g'.space h.space h'.space known twin.space f f';
      serials = λ y live. elim (cases_eq y x) [
        | inl here ↦ absurd (let o : Option Range = None in let none : IsSome o = subst IsSome (ap (λ z. named.range_of z h.space) here ∙ frees_gone x g.space h.space known after f) live in cc)
        | inr d ↦
            ap (λ (z : Guard). serial_of y z) e' ∙ twin.serials y (subst IsSome (frees_others x g.space h.space known after f y d) live)
            ∙ sym (ap (λ (z : Guard). serial_of y z) e)
      ];
      given = ap (λ (z : Guard). z.given) e' ∙ twin.given ∙ sym (ap (λ (z : Guard). z.given) e);
      realm = ap (λ (z : Guard). z.realm) e' ∙ twin.realm ∙ sym (ap (λ (z : Guard). z.realm) e);
      step = ap (λ (z : Guard). z.step) e' ∙ twin.step ∙ sym (ap (λ (z : Guard). z.step) e);
    }

pub reset_twins : (g g' h h' : Guard) → IsWellFormed g.space → IsTwin g g' → space.Resets g.space h.space → space.Resets g'.space h'.space → h ≡ record g { space = h.space; step = 1 }
    → h' ≡ record g' { space = h'.space; step = 1 } → ((t : Ticket) → guarded.range_of t h ≡ None) → IsTwin h h'
reset_twins g g' h h' known twin f f' e e' none = record {
  space = resets_decided g.space g'.space h.space h'.space known twin.space f f';
  serials = λ y live. absurd (let o : Option Range = None in let gone : IsSome o = subst IsSome (sym (own_range y h) ∙ none (ticket_now y h)) live in cc);
  given = ap (λ (z : Guard). z.given) e' ∙ twin.given ∙ sym (ap (λ (z : Guard). z.given) e);
  realm = ap (λ (z : Guard). z.realm) e' ∙ twin.realm ∙ sym (ap (λ (z : Guard). z.realm) e);
  step = ap (λ (z : Guard). z.step) e' ∙ sym (ap (λ (z : Guard). z.step) e);
}

-- ---- a change in place
-- with the serials that were, and no other live ticket
pub kept_twins : (g g' h h' : Guard) → IsTwin g g' → guarded.KeepsSerials g h → guarded.KeepsSerials g' h' → guarded.KeepsLive g h → SameState h.space h'.space → IsTwin h h'
kept_twins g g' h h' twin s s' kept same = record {
  space = same;
  serials = λ x live. s'.cells x ∙ twin.serials x (was x live) ∙ sym (s.cells x);
  given = s'.given ∙ twin.given ∙ sym s.given;
  realm = s'.realm ∙ twin.realm ∙ sym s.realm;
  step = s'.step ∙ twin.step ∙ sym s.step;
}
  where
    one_ticket : (x : ℕ) → ticket_now x h ≡ ticket_now x g
    one_ticket x = ap₂ (λ (n r : ℕ). let t : Ticket = record { offset = 0; name = x; serial = n; realm = r } in t) (s.cells x) s.realm

    was : (x : ℕ) → named.IsLive x h.space → named.IsLive x g.space
    was x live =
        let here : is_some (guarded.range_of (ticket_now x h) h) ≡ true = ap is_some (own_range x h) ∙ live in
        ap is_some (sym (own_range x g)) ∙ ap (λ t. is_some (guarded.range_of t g)) (sym (one_ticket x)) ∙ sym (kept (ticket_now x h)) ∙ here

-- no serial changes, and each ticket has as many units as it had
pub slid_twins : (g g' h h' : Guard) → IsTwin g g' → h ≡ record g { space = h.space } → h' ≡ record g' { space = h'.space } → guarded.KeepsSizes g h → SameState h.space h'.space → IsTwin h h'
slid_twins g g' h h' twin e e' sizes same = kept_twins g g' h h' twin (serials g h e) (serials g' h' e') (λ t. sized (guarded.range_of t h) (guarded.range_of t g) (sizes t)) same
  where
    serials : (g h : Guard) → h ≡ record g { space = h.space } → guarded.KeepsSerials g h
    serials g h e = record {
      cells = λ x. ap (λ (z : Guard). serial_of x z) e;
      given = ap (λ (z : Guard). z.given) e;
      realm = ap (λ (z : Guard). z.realm) e;
      step = ap (λ (z : Guard). z.step) e;
    }

    sized : (o p : Option Range) → option_map (λ (r : Range). r.size) o ≡ option_map (λ (r : Range). r.size) p → is_some o ≡ is_some p
    sized None None e = refl
    sized None (Some r) e = absurd (cc)
    sized (Some r) None e = absurd (cc)
    sized (Some r) (Some s) e = refl

-- ---- a twin of a twin
pub twin_trans : (g h i : Guard) → IsTwin g h → IsTwin h i → IsTwin g i
twin_trans g h i t u = record {
  space = u.space ∙ ap (λ (v : View). record v { accesses = i.space.accesses }) t.space;
  serials = λ x live. u.serials x (subst IsSome (sym (ap (λ (z : View). named.range_of x z) t.space)) live) ∙ t.serials x live;
  given = u.given ∙ t.given;
  realm = u.realm ∙ t.realm;
  step = u.step ∙ t.step;
}

pub same_twin : (g h : Guard) → guarded.IsSame g h → IsTwin g h
same_twin g h s = record { space = s.0; serials = λ x live. s.1.cells x; given = s.1.given; realm = s.1.realm; step = s.1.step }

-- alike but for the count of accesses
pub read_twin : (g h : Guard) → SameGuard g h → IsTwin g h
read_twin g h e = record {
  space = ap (λ (z : Guard). z.space) e;
  serials = λ x live. ap (λ (z : Guard). serial_of x z) e;
  given = ap (λ (z : Guard). z.given) e;
  realm = ap (λ (z : Guard). z.realm) e;
  step = ap (λ (z : Guard). z.step) e;
}

pub copy_twin : (g h : Guard) → guarded.IsCopy g h → IsTwin g h
copy_twin g h e = read_twin g h (e ∙ ap (λ (k : ℕ). record g { space = record g.space { accesses = k } }) (sym (ap (λ (z : Guard). z.space.accesses) e)))
