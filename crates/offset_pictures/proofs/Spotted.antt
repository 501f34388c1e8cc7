-- Refused calls by pixels, and what is still to be written of them.
use Rattle.std.proofs.Common.{◌≡◌, ℕ, ◌+◌, ◌<◌, ◌≤◌, ◌∙◌, Bool, true, false, cond, List, [], ◌∷◌, ◌++◌, Option}
use Rattle.std.proofs.Common.{Some, None, append_assoc, append-nil, eqb-true, eq-eqb, get_or, drop, length, nat_eq, refl, sym, ap, ap₂, arith}
use Rattle.std.proofs.lemmas.List.{at_drop_more, at_drop_all}
use Rattle.std.specs.Prelude.{flat_map}
use Rattle.offset_allocator.specs.declared.reports.StorageReport.{StorageReport}
use Rattle.offset_pictures.specs.declared.axes.Axis.{Axis}
use Rattle.offset_pictures.specs.declared.reasons.Spot.{Spot}
use Rattle.offset_pictures.specs.declared.refusing.Refused.{Refused}
use Rattle.offset_pictures.specs.Reasons.{one_spot, pixel_of, spot_before, spot_text, spots_of}

-- the calls of a pixel that are open, before those to come
abbrev pub opened : Option Spot → List Spot → List Spot
opened None ss = ss
opened (Some s) ss = spot_before s ss

abbrev joined : Spot → Spot → Spot
joined a b = record { left = a.left; first = a.first; more = a.more + b.more + 1 }

joins_next : (a b : Spot) (hs : List Spot) → nat_eq a.left b.left ≡ true → spot_before a (b ∷ hs) ≡ joined a b ∷ hs
joins_next a b hs same = ap (λ t. cond t (joined a b ∷ hs) (a ∷ b ∷ hs)) same

stays_before : (a b : Spot) (hs : List Spot) → nat_eq a.left b.left ≡ false → spot_before a (b ∷ hs) ≡ a ∷ b ∷ hs
stays_before a b hs other = ap (λ t. cond t (joined a b ∷ hs) (a ∷ b ∷ hs)) other

three_joined : (a b c : Spot) → joined a (joined b c) ≡ joined (joined a b) c
three_joined a b c = let e : a.more + (b.more + c.more + 1) + 1 ≡ a.more + b.more + 1 + c.more + 1 = omega arith in ap (λ (n : ℕ). record { left = a.left; first = a.first; more = n }) e

-- the calls of a pixel before others of the same, before more
joins_at : (t : Bool) (a b h : Spot) (hs : List Spot) → nat_eq a.left b.left ≡ true → nat_eq b.left h.left ≡ t → spot_before a (spot_before b (h ∷ hs)) ≡ spot_before (joined a b) (h ∷ hs)
joins_at true a b h hs same e =
    ap (spot_before a) (joins_next b h hs e) ∙ joins_next a (joined b h) hs same ∙ ap (λ (g : Spot). g ∷ hs) (three_joined a b h)
    ∙ sym (joins_next (joined a b) h hs (ap (λ x. nat_eq x h.left) (eqb-true a.left b.left same) ∙ e))
joins_at false a b h hs same e =
    ap (spot_before a) (stays_before b h hs e) ∙ joins_next a b (h ∷ hs) same
    ∙ sym (stays_before (joined a b) h hs (ap (λ x. nat_eq x h.left) (eqb-true a.left b.left same) ∙ e))

before_same : (a b : Spot) (ss : List Spot) → nat_eq a.left b.left ≡ true → spot_before a (spot_before b ss) ≡ spot_before (joined a b) ss
before_same a b [] same = joins_next a b [] same
before_same a b (h ∷ hs) same = joins_at (nat_eq b.left h.left) a b h hs same refl

-- the calls of a pixel before those of another, before more
stays_at : (t : Bool) (a b h : Spot) (hs : List Spot) → nat_eq a.left b.left ≡ false → nat_eq b.left h.left ≡ t → spot_before a (spot_before b (h ∷ hs)) ≡ a ∷ spot_before b (h ∷ hs)
stays_at true a b h hs other e =
    ap (spot_before a) (joins_next b h hs e) ∙ stays_before a (joined b h) hs other ∙ ap (λ (gs : List Spot). a ∷ gs) (sym (joins_next b h hs e))
stays_at false a b h hs other e =
    ap (spot_before a) (stays_before b h hs e) ∙ stays_before a b (h ∷ hs) other ∙ ap (λ (gs : List Spot). a ∷ gs) (sym (stays_before b h hs e))

before_other : (a b : Spot) (ss : List Spot) → nat_eq a.left b.left ≡ false → spot_before a (spot_before b ss) ≡ a ∷ spot_before b ss
before_other a b [] other = stays_before a b [] other
before_other a b (h ∷ hs) other = stays_at (nat_eq b.left h.left) a b h hs other refl

pub no_open : (spot : Option Spot) → ((s : Spot) → spot ≡ Some s → ⊥) → spot ≡ None
no_open None h = refl
no_open (Some s) h = absurd (h s refl)

module _ (calls : Axis) (height : ℕ) (reports : List StorageReport) (refused : List Refused) where
  abbrev to_come : ℕ → List Spot
  to_come i = spots_of calls (drop i refused)

  abbrev pub text : List Spot → List ℕ
  text ss = flat_map (spot_text height reports) ss

  -- the calls to come, one of which is this one
  next_call : (i left : ℕ) (d : Refused) → i < length refused → left ≡ pixel_of calls (get_or refused i d).call → to_come i ≡ spot_before (one_spot left (get_or refused i d)) (to_come (i + 1))
  next_call i left d less at =
      at_drop_more (spots_of calls) refused i d less ∙ ap (λ (y : ℕ). spot_before (one_spot y (get_or refused i d)) (to_come (i + 1))) (sym at)

  -- a call that joins the open ones, which are then `next`
  pub call_joins : (i left : ℕ) (d : Refused) (spot : Option Spot) (s next : Spot) (out whole : List ℕ) → i < length refused → left ≡ pixel_of calls (get_or refused i d).call → s.left ≡ left
      → next.left ≡ s.left → next.first ≡ s.first → next.more ≡ s.more + 1 → spot ≡ Some s → out ++ text (opened spot (to_come i)) ≡ whole → out ++ text (opened (Some next) (to_come (i + 1))) ≡ whole
  call_joins i left d spot s next out whole less at same l f m started before =
      let e : next.more ≡ s.more + 0 + 1 = omega arith in
      let all : next ≡ joined s (one_spot left (get_or refused i d)) =
      ap₂ (λ (x : ℕ) (y : Refused). record { left = x; first = y; more = next.more }) l f ∙ ap (λ (n : ℕ). record { left = s.left; first = s.first; more = n }) e in
      ap (λ (n : Spot). out ++ text (spot_before n (to_come (i + 1)))) all
      ∙ ap (λ ss. out ++ text ss) (sym (before_same s (one_spot left (get_or refused i d)) (to_come (i + 1)) (eq-eqb s.left left same)))
      ∙ ap (λ ss. out ++ text (spot_before s ss)) (sym (next_call i left d less at))
      ∙ ap (λ o. out ++ text (opened o (to_come i))) (sym started) ∙ before

  -- a call of another pixel, before which the open ones are written
  pub call_begins : (i left : ℕ) (d : Refused) (spot : Option Spot) (s : Spot) (out new whole : List ℕ) → i < length refused → left ≡ pixel_of calls (get_or refused i d).call
      → nat_eq s.left left ≡ false
      → new ≡ out ++ spot_text height reports s → spot ≡ Some s → out ++ text (opened spot (to_come i)) ≡ whole → new ++ text
      (opened (Some (one_spot left (get_or refused i d))) (to_come (i + 1))) ≡ whole
  call_begins i left d spot s out new whole less at other put started before =
      ap (λ o. o ++ text (spot_before (one_spot left (get_or refused i d)) (to_come (i + 1)))) put
      ∙ append_assoc out (spot_text height reports s) (text (spot_before (one_spot left (get_or refused i d)) (to_come (i + 1))))
      ∙ ap (λ ss. out ++ text ss) (sym (before_other s (one_spot left (get_or refused i d)) (to_come (i + 1)) other))
      ∙ ap (λ ss. out ++ text (spot_before s ss)) (sym (next_call i left d less at))
      ∙ ap (λ o. out ++ text (opened o (to_come i))) (sym started) ∙ before

  -- the first call
  pub call_is_first : (i left : ℕ) (d : Refused) (spot : Option Spot) (out whole : List ℕ) → i < length refused → left ≡ pixel_of calls (get_or refused i d).call → spot ≡ None
      → out ++ text (opened spot (to_come i)) ≡ whole → out ++ text (opened (Some (one_spot left (get_or refused i d))) (to_come (i + 1))) ≡ whole
  call_is_first i left d spot out whole less at started before =
      ap (λ ss. out ++ text ss) (sym (next_call i left d less at)) ∙ ap (λ o. out ++ text (opened o (to_come i))) (sym started) ∙ before

  -- in the end the open ones are written
  pub last_spot : (i : ℕ) (spot : Option Spot) (s : Spot) (out new whole : List ℕ) → length refused ≤ i → new ≡ out ++ spot_text height reports s → spot ≡ Some s
      → out ++ text (opened spot (to_come i)) ≡ whole → new ≡ whole
  last_spot i spot s out new whole all put started before =
      put ∙ ap (λ t. out ++ t) (sym (append-nil (spot_text height reports s)))
      ∙ ap (λ ss. out ++ text (spot_before s ss)) (sym (at_drop_all (spots_of calls) refused i all))
      ∙ ap (λ o. out ++ text (opened o (to_come i))) (sym started) ∙ before

  pub no_spot : (i : ℕ) (spot : Option Spot) (out whole : List ℕ) → length refused ≤ i → spot ≡ None → out ++ text (opened spot (to_come i)) ≡ whole → out ≡ whole
  no_spot i spot out whole all started before =
      sym (append-nil out) ∙ ap (λ ss. out ++ text ss) (sym (at_drop_all (spots_of calls) refused i all)) ∙ ap (λ o. out ++ text (opened o (to_come i))) (sym started) ∙ before
