-- Counting lives by the calls that begin and end them.
use Rattle.std.proofs.Common.{◌≡◌, ℕ, ◌+◌, ◌^◌, ◌<◌, ◌≤◌, Bool, true, false, ◌&&◌, List, [], ◌∷◌, All, length, map, take, get_or, arith, sym, ◌∙◌, ap, subst, refl, nat_lt, nat_eq, nat_le, add-zero, ◌*◌}
use Rattle.std.specs.Prelude.{if◌then◌else◌, sum_by, count_by}
use Rattle.std.proofs.lemmas.Bool.Decides.{nat_tests}
use Rattle.std.proofs.lemmas.List.Sums.{sum_by-cons, sum_by_more, sum_by-le, count_by-le-length}
use Rattle.std.proofs.lemmas.List.Elements.{All-head, All-tail, All-weaker}
use Rattle.offset_pictures.specs.declared.living.Life.{Life}
use Rattle.offset_pictures.specs.declared.figures.Count.{Count}
use Rattle.offset_pictures.specs.{Lives.IsOrdered, Lives.is_on, Lives.life_view, Counting.IsChange, Counting.lowered, Counting.raised}

-- how many of these lives pass a test, and how many units they have
pub record IsCount (test : Life → Bool) (ls : List Life) (c : Count) : Type 0 where
  pub lives : c.lives ≡ count_by test ls
  pub units : c.units ≡ sum_by (λ l. if test l then l.size else 0) ls

-- a weight of the lives whose key is below a call, and of those at it
abbrev below : (key w : Life → ℕ) (s : ℕ) → Life → ℕ
below key w s l = if nat_lt (key l) s then w l else 0

abbrev at : (key w : Life → ℕ) (s : ℕ) → Life → ℕ
at key w s l = if nat_eq (key l) s then w l else 0

one_next : (k s w : ℕ) → (if nat_lt k (s + 1) then w else 0) ≡ (if nat_lt k s then w else 0) + (if nat_eq k s then w else 0)
one_next k s w = grind (arith, nat_tests)

pub next : (key w : Life → ℕ) (s : ℕ) (ls : List Life) → sum_by (below key w (s + 1)) ls ≡ sum_by (below key w s) ls + sum_by (at key w s) ls
next key w s [] = refl
next key w s (l ∷ ls) = omega (arith, sum_by-cons (below key w (s + 1)) l ls, sum_by-cons (below key w s) l ls, sum_by-cons (at key w s) l ls, one_next (key l) s (w l), next key w s ls)

one_on : (first last s w : ℕ) → first ≤ last → (if nat_lt first s then w else 0) ≡ (if nat_lt last s then w else 0) + (if nat_lt first s && nat_le s last then w else 0)
one_on first last s w h = grind (arith, nat_tests)

-- those that a call has begun are those that a call has ended, and those that are on
pub on : (w : Life → ℕ) (s : ℕ) (ls : List Life) → All IsOrdered (map life_view ls)
    → sum_by (below (λ l. l.first) w s) ls ≡ sum_by (below (λ l. l.last) w s) ls + sum_by (λ l. if is_on s (life_view l) then w l else 0) ls
on w s [] h = refl
on w s (l ∷ ls) h = omega (
  arith,
  sum_by-cons (below (λ x. x.first) w s) l ls,
  sum_by-cons (below (λ x. x.last) w s) l ls,
  sum_by-cons (λ x. if is_on s (life_view x) then w x else 0) l ls,
  one_on
      l.first l.last s (w l) (All-head IsOrdered (life_view l) (map life_view ls) h),
  on w s ls (All-tail IsOrdered (life_view l) (map life_view ls) h),
)

at_most : (b : Bool) (x : ℕ) → x < 4294967296 → (if b then x else 0) ≤ 4294967295
at_most true x h = omega arith
at_most false x h = omega arith

-- a count of lives is not large
pub few : (test : Life → Bool) (ls : List Life) (c : Count) → IsCount test ls c → All (λ l. l.size < 4294967296) ls → (c.lives ≤ length ls) × (c.units ≤ length ls * 4294967295)
few test ls c h sizes =
    let bounded : All (λ l. (if test l then l.size else 0) ≤ 4294967295) ls =
    All-weaker (λ l. l.size < 4294967296) (λ l. (if test l then l.size else 0) ≤ 4294967295) (λ l less. at_most (test l) l.size less) ls sizes in
    (omega (arith, h.lives, count_by-le-length test ls), omega (arith, h.units, sum_by-le (λ l. if test l then l.size else 0) 4294967295 ls bounded))

-- a change is not far from the middle
pub near : (call : ℕ) (ls : List Life) (c : Count) → IsChange call ls c → All (λ l. l.size < 4294967296) ls
    → (c.lives ≤ 2 ^ 63 + length ls) × (2 ^ 63 ≤ c.lives + length ls) × (c.units ≤ 2 ^ 127 + length ls * 4294967295) × (2 ^ 127 ≤ c.units + length ls * 4294967295)
near call ls c h sizes =
    let begun = few (λ l. nat_eq l.first call) ls (record { lives = _; units = _ }) (record { lives = refl; units = refl }) sizes in
    let ended = few (λ l. nat_eq l.last call) ls (record { lives = _; units = _ }) (record { lives = refl; units = refl }) sizes in
    (omega (arith, h.lives, begun.0), omega (arith, h.lives, ended.0), omega (arith, h.units, begun.1), omega (arith, h.units, ended.1))

raised_by : (b : Bool) (c new : Count) (units : ℕ) → new ≡ (if b then raised c units else c) → (new.lives ≡ c.lives + (if b then 1 else 0)) × (new.units ≡ c.units + (if b then units else 0))
raised_by true c new units e = (ap (λ x. x.lives) e, ap (λ x. x.units) e)
raised_by false c new units e = (ap (λ x. x.lives) e ∙ sym (add-zero c.lives), ap (λ x. x.units) e ∙ sym (add-zero c.units))

lowered_by : (b : Bool) (c new : Count) (units : ℕ) → 0 < c.lives → units ≤ c.units → new ≡ (if b then lowered c units else c)
    → (new.lives + (if b then 1 else 0) ≡ c.lives) × (new.units + (if b then units else 0) ≡ c.units)
lowered_by true c new units one all e = (omega (arith, ap (λ x. x.lives) e), omega (arith, ap (λ x. x.units) e))
lowered_by false c new units one all e = (omega (arith, ap (λ x. x.lives) e), omega (arith, ap (λ x. x.units) e))

-- a count is not smaller after one more life
pub not_less : (b : Bool) (c new : Count) (units : ℕ) → new ≡ (if b then raised c units else c) → (c.lives ≤ new.lives) × (c.units ≤ new.units)
not_less b c new units e = let r = raised_by b c new units e in (omega (arith, r.0), omega (arith, r.1))

-- one more life, which one call begins and one ends
pub changed_more : (call : ℕ) (ls : List Life) (i : ℕ) (d : Life) (c begun ended : Count) → i < length ls → IsChange call (take i ls) c → 0 < c.lives → (get_or ls i d).size ≤ c.units
    → begun ≡ (if nat_eq (get_or ls i d).first call then raised c (get_or ls i d).size else c)
    → ended ≡ (if nat_eq (get_or ls i d).last call then lowered begun (get_or ls i d).size else begun) → IsChange call (take (i + 1) ls) ended
changed_more call ls i d c begun ended less h one all more fewer =
    let l = get_or ls i d in
    let r = raised_by (nat_eq l.first call) c begun l.size more in
    let f = lowered_by (nat_eq l.last call) begun ended l.size (omega (arith, r.0, one)) (omega (arith, r.1, all)) fewer in
    record {
      lives = omega (arith, r.0, f.0, h.lives, sum_by_more (λ x. if nat_eq x.first call then 1 else 0) ls i d less, sum_by_more (λ x. if nat_eq x.last call then 1 else 0) ls i d less);
      units = omega (arith, r.1, f.1, h.units, sum_by_more (λ x. if nat_eq x.first call then x.size else 0) ls i d less, sum_by_more (λ x. if nat_eq x.last call then x.size else 0) ls i d less);
    }

-- before the first call no life is on
pub none_on : (w : Life → ℕ) (ls : List Life) → sum_by (λ l. if is_on 0 (life_view l) then w l else 0) ls ≡ 0
none_on w [] = refl
none_on w (l ∷ ls) =
    let one : (if is_on 0 (life_view l) then w l else 0) ≡ 0 = grind (arith, nat_tests) in
    omega (arith, sum_by-cons (λ x. if is_on 0 (life_view x) then w x else 0) l ls, one, none_on w ls)

pub none_yet : (ls : List Life) → IsCount (λ l. is_on 0 (life_view l)) ls (record { lives = 0; units = 0 })
none_yet ls = record { lives = sym (none_on (λ _. 1) ls); units = sym (none_on (λ l. l.size) ls) }

-- what is on after one more call
moves : (w : Life → ℕ) (s : ℕ) (ls : List Life) → All IsOrdered (map life_view ls)
    → sum_by (λ l. if is_on (s + 1) (life_view l) then w l else 0) ls + sum_by (at (λ l. l.last) w s) ls
    ≡ sum_by (λ l. if is_on s (life_view l) then w l else 0) ls + sum_by (at (λ l. l.first) w s) ls
moves w s ls h = omega (arith, on w s ls h, on w (s + 1) ls h, next (λ l. l.first) w s ls, next (λ l. l.last) w s ls)

-- the lives on in a state, and the change of the call that leads to the next one
pub joins : (s after : ℕ) (ls given : List Life) (changes : List Count) (c d : Count) → s + 1 ≡ after → All IsOrdered (map life_view ls) → given ≡ ls → All (λ l. l.size < 4294967296) given
    → length given < 2 ^ 63 → IsCount (λ l. is_on s (life_view l)) ls c → IsChange s given (get_or changes s d) → d ≡ get_or changes s d
    → (c.lives + d.lives ≡ 2 ^ 63 + count_by (λ l. is_on after (life_view l)) ls)
    × (c.units + d.units ≡ 2 ^ 127 + sum_by (λ l. if is_on after (life_view l) then l.size else 0) ls)
    × (c.lives + d.lives < 2 ^ 64) × (c.units + d.units < 2 ^ 128)
joins s after ls given changes c d next ordered same sizes short h there is =
    let change : IsChange s ls d = subst (λ x. IsChange s ls x) (sym is) (subst (λ x. IsChange s x (get_or changes s d)) same there) in
    let lives : c.lives + d.lives ≡ 2 ^ 63 + count_by (λ l. is_on after (life_view l)) ls =
    subst (λ n. c.lives + d.lives ≡ 2 ^ 63 + count_by (λ l. is_on n (life_view l)) ls) next (omega (arith, h.lives, change.lives, moves (λ _. 1) s ls ordered)) in
    let units : c.units + d.units ≡ 2 ^ 127 + sum_by (λ l. if is_on after (life_view l) then l.size else 0) ls =
    subst (λ n. c.units + d.units ≡ 2 ^ 127 + sum_by (λ l. if is_on n (life_view l) then l.size else 0) ls) next (omega (arith, h.units, change.units, moves (λ l. l.size) s ls ordered)) in
    let most = few (λ l. is_on after (life_view l)) ls (record { lives = _; units = _ }) (record { lives = refl; units = refl }) (subst (All (λ l. l.size < 4294967296)) same sizes) in
    let least : length ls < 2 ^ 63 = subst (λ x. length x < 2 ^ 63) same short in
    (lives, units, omega (arith, lives, most.0, least), omega (arith, units, most.1, least))
