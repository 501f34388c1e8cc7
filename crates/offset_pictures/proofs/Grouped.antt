-- Groups of states and runs of marks, and what is still to be written of them.
use Rattle.std.proofs.Common.{◌≡◌, ℕ, ◌+◌, ◌<◌, ◌≤◌, ◌∙◌, Bool, true, false, cond, List, [], ◌∷◌, ◌++◌, Option, Some}
use Rattle.std.proofs.Common.{None, append_assoc, append-nil, codes, eqb-true, eq-eqb, get_or, drop, length, nat_eq, refl, sym, ap, ap₂, arith}
use Rattle.std.proofs.lemmas.List.{at_drop_more, at_drop_all}
use Rattle.std.specs.Prelude.{max, min}
use Rattle.offset_pictures.specs.declared.axes.Axis.{Axis}
use Rattle.offset_pictures.specs.declared.step_lines.Group.{Group}
use Rattle.offset_pictures.specs.declared.plots.Plot.{Plot}
use Rattle.offset_pictures.specs.{Numerals.pixels_text, Axes.y_of, Axes.x_of, Marks.after_equal}
use Rattle.offset_pictures.specs.StepLines.{column_of, column_text, group_before, groups_from, groups_text, join_groups, one_state, steps_text}

-- ---- groups

-- the group that is open, before those to come
abbrev pub opened : Option Group → List Group → List Group
opened None gs = gs
opened (Some g) gs = group_before g gs

joins_next : (a b : Group) (hs : List Group) → nat_eq a.left b.left ≡ true → group_before a (b ∷ hs) ≡ join_groups a b ∷ hs
joins_next a b hs same = ap (λ t. cond t (join_groups a b ∷ hs) (a ∷ b ∷ hs)) same

stays_before : (a b : Group) (hs : List Group) → nat_eq a.left b.left ≡ false → group_before a (b ∷ hs) ≡ a ∷ b ∷ hs
stays_before a b hs other = ap (λ t. cond t (join_groups a b ∷ hs) (a ∷ b ∷ hs)) other

min_assoc : (a b c : ℕ) → min a (min b c) ≡ min (min a b) c
min_assoc a b c = omega arith

max_assoc : (a b c : ℕ) → max a (max b c) ≡ max (max a b) c
max_assoc a b c = omega arith

three_joined : (a b c : Group) → join_groups a (join_groups b c) ≡ join_groups (join_groups a b) c
three_joined a b c = ap₂ (λ (x y : ℕ). record { left = a.left; least = x; most = y; last = c.last }) (min_assoc a.least b.least c.least) (max_assoc a.most b.most c.most)

-- a group before a group at the same place, before others
joins_at : (t : Bool) (a b h : Group) (hs : List Group) → nat_eq a.left b.left ≡ true → nat_eq b.left h.left ≡ t → group_before a (group_before b (h ∷ hs)) ≡ group_before (join_groups a b) (h ∷ hs)
joins_at true a b h hs same e =
    ap (group_before a) (joins_next b h hs e) ∙ joins_next a (join_groups b h) hs same ∙ ap (λ (g : Group). g ∷ hs) (three_joined a b h)
    ∙ sym (joins_next (join_groups a b) h hs (ap (λ x. nat_eq x h.left) (eqb-true a.left b.left same) ∙ e))
joins_at false a b h hs same e =
    ap (group_before a) (stays_before b h hs e) ∙ joins_next a b (h ∷ hs) same
    ∙ sym (stays_before (join_groups a b) h hs (ap (λ x. nat_eq x h.left) (eqb-true a.left b.left same) ∙ e))

before_same : (a b : Group) (gs : List Group) → nat_eq a.left b.left ≡ true → group_before a (group_before b gs) ≡ group_before (join_groups a b) gs
before_same a b [] same = joins_next a b [] same
before_same a b (h ∷ hs) same = joins_at (nat_eq b.left h.left) a b h hs same refl

-- a group before a group at another place, before others
stays_at : (t : Bool) (a b h : Group) (hs : List Group) → nat_eq a.left b.left ≡ false → nat_eq b.left h.left ≡ t → group_before a (group_before b (h ∷ hs)) ≡ a ∷ group_before b (h ∷ hs)
stays_at true a b h hs other e =
    ap (group_before a) (joins_next b h hs e) ∙ stays_before a (join_groups b h) hs other ∙ ap (λ (gs : List Group). a ∷ gs) (sym (joins_next b h hs e))
stays_at false a b h hs other e =
    ap (group_before a) (stays_before b h hs e) ∙ stays_before a b (h ∷ hs) other ∙ ap (λ (gs : List Group). a ∷ gs) (sym (stays_before b h hs e))

before_other : (a b : Group) (gs : List Group) → nat_eq a.left b.left ≡ false → group_before a (group_before b gs) ≡ a ∷ group_before b gs
before_other a b [] other = stays_before a b [] other
before_other a b (h ∷ hs) other = stays_at (nat_eq b.left h.left) a b h hs other refl

-- the states to come, one of which is this one
next_state : (calls : Axis) (i v place : ℕ) (values : List ℕ) → i < length values → v ≡ get_or values i v → place ≡ x_of calls i
    → groups_from calls i (drop i values) ≡ group_before (one_state place v) (groups_from calls (i + 1) (drop (i + 1) values))
next_state calls i v place values less is at =
    at_drop_more (groups_from calls i) values i v less
    ∙ ap₂ (λ (x y : ℕ). group_before (one_state y x) (groups_from calls (i + 1) (drop (i + 1) values))) (sym is) (sym at)

-- ---- the steps of the loop over states: the text so far and that of what is to come are as before

least_of_both : (a b n : ℕ) → n ≡ min b a → n ≡ min a b
least_of_both a b n e = omega arith

most_of_both : (a b n : ℕ) → n ≡ max b a → n ≡ max a b
most_of_both a b n e = omega arith

-- a group is the record of its fields
is_record : (next : Group) (l x y z : ℕ) → next.left ≡ l → next.least ≡ x → next.most ≡ y → next.last ≡ z → next ≡ record { left = l; least = x; most = y; last = z }
is_record next l x y z el ex ey ez =
    ap₂ (λ (a b : ℕ). record { left = a; least = b; most = next.most; last = next.last }) el ex ∙ ap₂ (λ (a b : ℕ). record { left = l; least = x; most = a; last = b }) ey ez

-- a state that joins the open group, which is then `next`
pub state_joins : (u calls : Axis) (i v place pen : ℕ) (group : Option Group) (g next : Group) (values out whole : List ℕ) → i < length values → v ≡ get_or values i v → place ≡ x_of calls i
    → g.left ≡ place
    → next.left ≡ g.left → next.least ≡ min v g.least → next.most ≡ max v g.most → next.last ≡ v → group ≡ Some g
    → out ++ groups_text u pen (opened group (groups_from calls i (drop i values))) ≡ whole
    → out ++ groups_text u pen (opened (Some next) (groups_from calls (i + 1) (drop (i + 1) values))) ≡ whole
state_joins u calls i v place pen group g next values out whole less is at same l x y z started before =
    let to_come : List Group = groups_from calls (i + 1) (drop (i + 1) values) in
    let joined : next ≡ join_groups g (one_state place v) = is_record next g.left (min g.least v) (max g.most v) v l (least_of_both g.least v next.least x) (most_of_both g.most v next.most y) z in
    ap (λ (n : Group). out ++ groups_text u pen (group_before n to_come)) joined
    ∙ ap (λ gs. out ++ groups_text u pen gs) (sym (before_same g (one_state place v) to_come (eq-eqb g.left place same)))
    ∙ ap (λ gs. out ++ groups_text u pen (group_before g gs)) (sym (next_state calls i v place values less is at))
    ∙ ap (λ o. out ++ groups_text u pen (opened o (groups_from calls i (drop i values)))) (sym started) ∙ before

-- a state at another place, before which the open group is written
pub state_begins : (u calls : Axis) (i v place pen : ℕ) (group : Option Group) (g : Group) (values out new whole : List ℕ) → i < length values → v ≡ get_or values i v → place ≡ x_of calls i
    → nat_eq g.left place ≡ false
    → new ≡ out ++ column_text (column_of u g) pen → group ≡ Some g → out ++ groups_text u pen (opened group (groups_from calls i (drop i values))) ≡ whole
    → new ++ groups_text u (y_of u g.last) (opened (Some (one_state place v)) (groups_from calls (i + 1) (drop (i + 1) values))) ≡ whole
state_begins u calls i v place pen group g values out new whole less is at other put started before =
    let to_come : List Group = groups_from calls (i + 1) (drop (i + 1) values) in
    ap (λ o. o ++ groups_text u (y_of u g.last) (group_before (one_state place v) to_come)) put
    ∙ append_assoc out (column_text (column_of u g) pen) _
    ∙ ap (λ gs. out ++ groups_text u pen gs) (sym (before_other g (one_state place v) to_come other))
    ∙ ap (λ gs. out ++ groups_text u pen (group_before g gs)) (sym (next_state calls i v place values less is at))
    ∙ ap (λ o. out ++ groups_text u pen (opened o (groups_from calls i (drop i values)))) (sym started) ∙ before

-- the first state
pub state_is_first : (u calls : Axis) (i v place pen : ℕ) (group : Option Group) (values out whole : List ℕ) → i < length values → v ≡ get_or values i v → place ≡ x_of calls i → group ≡ None
    → out ++ groups_text u pen (opened group (groups_from calls i (drop i values))) ≡ whole
    → out ++ groups_text u pen (opened (Some (one_state place v)) (groups_from calls (i + 1) (drop (i + 1) values))) ≡ whole
state_is_first u calls i v place pen group values out whole less is at started before =
    ap (λ gs. out ++ groups_text u pen gs) (sym (next_state calls i v place values less is at))
    ∙ ap (λ o. out ++ groups_text u pen (opened o (groups_from calls i (drop i values)))) (sym started) ∙ before

pub no_open : (group : Option Group) → ((g : Group) → group ≡ Some g → ⊥) → group ≡ None
no_open None h = refl
no_open (Some g) h = absurd (h g refl)

-- in the end the open group is written
pub last_group : (u calls : Axis) (i pen : ℕ) (group : Option Group) (g : Group) (values out new whole : List ℕ) → length values ≤ i → new ≡ out ++ column_text (column_of u g) pen → group ≡ Some g
    → out ++ groups_text u pen (opened group (groups_from calls i (drop i values))) ≡ whole → new ≡ whole
last_group u calls i pen group g values out new whole all put started before =
    put ∙ ap (λ t. out ++ t) (sym (append-nil (column_text (column_of u g) pen)))
    ∙ ap (λ gs. out ++ groups_text u pen (group_before g gs)) (sym (at_drop_all (groups_from calls i) values i all))
    ∙ ap (λ o. out ++ groups_text u pen (opened o (groups_from calls i (drop i values)))) (sym started) ∙ before

pub no_group : (u calls : Axis) (i pen : ℕ) (group : Option Group) (values out whole : List ℕ) → length values ≤ i → group ≡ None
    → out ++ groups_text u pen (opened group (groups_from calls i (drop i values))) ≡ whole → out ≡ whole
no_group u calls i pen group values out whole all started before =
    sym (append-nil out) ∙ ap (λ gs. out ++ groups_text u pen gs) (sym (at_drop_all (groups_from calls i) values i all))
    ∙ ap (λ o. out ++ groups_text u pen (opened o (groups_from calls i (drop i values)))) (sym started) ∙ before

-- ---- marks

-- the places to come that get a mark, after one at this place
abbrev pub marked_after : Option ℕ → List ℕ → List ℕ
marked_after None ps = ps
marked_after (Some b) ps = after_equal b ps

-- ---- a line of steps

pub steps_are_put : (p : Plot) (base : ℕ) (values out begun drawn : List ℕ) → begun ≡ out ++ (codes "M" ++ pixels_text p.calls.start ++ codes " " ++ pixels_text base)
    → drawn ≡ begun ++ groups_text p.units base (groups_from p.calls 0 values)
    → drawn ++ (codes "H" ++ pixels_text (p.calls.start + p.calls.span) ++ codes "V" ++ pixels_text base) ≡ out ++ steps_text p base values
steps_are_put p base values out begun drawn begin draw =
    let start : List ℕ = codes "M" ++ pixels_text p.calls.start ++ codes " " ++ pixels_text base in
    let line : List ℕ = groups_text p.units base (groups_from p.calls 0 values) in
    ap (λ o. o ++ (codes "H" ++ pixels_text (p.calls.start + p.calls.span) ++ codes "V" ++ pixels_text base)) (draw ∙ ap (λ o. o ++ line) begin ∙ append_assoc out start line)
    ∙ simp append_assoc
