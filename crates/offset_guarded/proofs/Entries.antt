-- Entries after one of them is replaced.
use Rattle.std.proofs.Common.{◌≡◌, ◌+◌, ◌-◌, ◌<◌, ◌≤◌, ℕ, zero, suc, List, [], ◌∷◌, ◌++◌, Option, Some, None, Result, Ok, Err, Bool, false, true, length, slice_set, slice_index_or, refl, sym, ap, subst, ◌∙◌, inl, inr, arith, true≢false}
use Rattle.std.specs.Int.{from_bool}
use Rattle.std.specs.List.{cons_option}
use Rattle.std.specs.Prelude.{OnOk, is_ok, is_some, IsSome, filter_map, cond, replicate, option_map, IfSome}
use Rattle.std.proofs.lemmas.Bool.{cases_eq, cases_lt}
use Rattle.std.proofs.lemmas.List.Elements.{filter_map-append}
use Rattle.std.proofs.lemmas.List.{append-nil, get_or-set_same, get_or-set_other, set_past}
use Rattle.offset_guarded.specs.Guard.{Ticket}
use Rattle.offset_guarded.specs.Values.{AreNamed, entries, entry}

pub named_set : {V : Type 0} (cells : List (Option (Ticket × V))) (x : ℕ) (v : Option (Ticket × V)) → AreNamed cells → ((e : Ticket × V) → v ≡ Some e → e.0.name ≡ x)
    → AreNamed (slice_set cells x v)
named_set cells x v named here y e q = elim (cases_lt x (length cells)) [
  | inl l ↦ elim (cases_eq y x) [
    | inl s ↦ here e (sym (get_or-set_same cells x v None l) ∙ sym (ap (λ z. entry z (slice_set cells x v)) s) ∙ q) ∙ sym s
    | inr n ↦ named y e (sym (get_or-set_other cells x y v None n) ∙ q)
  ]
  | inr l ↦ named y e (sym (ap (entry y) (set_past cells x v (omega (arith, l)))) ∙ q)
]

-- what a call that did not fail left
pub if_ok : {T E : Type 0} (P : Type 0) (r : Result T E) → OnOk r P → is_ok r ≡ true → P
if_ok P (Ok x) p e = p
if_ok P (Err x) p e = cc

-- one more cell with the default
pub one_more : {X : Type 0} (d : X) (cells : List X) (x : ℕ) → slice_index_or (cells ++ d ∷ []) x d ≡ slice_index_or cells x d
one_more d [] zero = refl
one_more d [] (suc x) = refl
one_more d (c ∷ cells) zero = refl
one_more d (c ∷ cells) (suc x) = one_more d cells x

-- a cell that is given the default has it, also where there is no such cell
pub cleared : {X : Type 0} (d : X) (cells : List X) (x : ℕ) → slice_index_or (slice_set cells x d) x d ≡ d
cleared d [] x = refl
cleared d (c ∷ cells) zero = refl
cleared d (c ∷ cells) (suc x) = cleared d cells x

-- a cell has what it is given, by a number that is its place
pub put_there : {X : Type 0} (d : X) (cells : List X) (x y : ℕ) (v : X) → y ≡ x → y < length cells → slice_index_or (slice_set cells y v) x d ≡ v
put_there d cells x y v e l = ap (λ z. slice_index_or (slice_set cells y v) z d) (sym e) ∙ get_or-set_same cells y v d l

-- one cell before others adds its value, if it has one
len_cons : {X : Type 0} (c : Option X) (l : List X) → length (cons_option c l) ≡ length l + cond (is_some c) 1 0
len_cons None l = omega arith
len_cons (Some x) l = omega arith

-- no more than cells
pub few_entries : {X : Type 0} (cells : List (Option X)) → length (filter_map (λ c. c) cells) ≤ length cells
few_entries [] = omega arith
few_entries (None ∷ cells) = omega (arith, few_entries cells)
few_entries (Some x ∷ cells) = omega (arith, few_entries cells)

entries_set : {X : Type 0} (cells : List (Option X)) (x : ℕ) (v : Option X) → x < length cells
    → length (filter_map (λ c. c) (slice_set cells x v)) + cond (is_some (slice_index_or cells x None)) 1 0 ≡ length (filter_map (λ c. c) cells) + cond (is_some v) 1 0
entries_set [] x v l = absurd (omega (arith, l))
entries_set {X} (c ∷ cells) zero v l =
    let rest : List X = filter_map (λ z. z) cells in
    let new : length (filter_map (λ z. z) (slice_set (c ∷ cells) zero v)) ≡ length (cons_option v rest) = refl in
    let old : length (filter_map (λ z. z) (c ∷ cells)) ≡ length (cons_option c rest) = refl in
    omega (arith, new, old, len_cons v rest, len_cons c rest)
entries_set {X} (c ∷ cells) (suc x) v l =
    let rest : List X = filter_map (λ z. z) cells in
    let others : List X = filter_map (λ z. z) (slice_set cells x v) in
    let new : length (filter_map (λ z. z) (slice_set (c ∷ cells) (suc x) v)) ≡ length (cons_option c others) = refl in
    let old : length (filter_map (λ z. z) (c ∷ cells)) ≡ length (cons_option c rest) = refl in
    omega (arith, new, old, len_cons c others, len_cons c rest, entries_set cells x v (omega (arith, l)))

-- what an exchange in one cell makes of their number
pub exchanged : {X : Type 0} (cells : List (Option X)) (x : ℕ) (v : Option X) (kept out into : ℕ) → x < length cells → kept ≡ length (filter_map (λ c. c) cells)
    → out ≡ cond (is_some (slice_index_or cells x None)) 1 0 → into ≡ cond (is_some v) 1 0
    → (out ≤ kept) × (kept - out + into ≡ length (filter_map (λ c. c) (slice_set cells x v)))
exchanged cells x v kept out into l k o i =
    (omega (arith, entries_set cells x None l, k, o), omega (arith, entries_set cells x None l, entries_set cells x v l, k, o, i))

-- a cell more without a value adds none
pub entries_more : {X : Type 0} (cells : List (Option X)) → filter_map (λ c. c) (cells ++ None ∷ []) ≡ filter_map (λ c. c) cells
entries_more cells = filter_map-append (λ c. c) cells (None ∷ []) ∙ append-nil _

-- cells without a value have none
pub entries_none : {X : Type 0} (n : ℕ) → filter_map (λ c. c) (replicate {A = Option X} n None) ≡ []
entries_none zero = refl
entries_none (suc n) = entries_none n

named_none : {V : Type 0} (n x : ℕ) → entry x (replicate {A = Option (Ticket × V)} n None) ≡ None
named_none zero x = refl
named_none (suc n) zero = refl
named_none (suc n) (suc x) = named_none n x

pub none_kept : {V : Type 0} (n : ℕ) → AreNamed (replicate {A = Option (Ticket × V)} n None) × (0 ≡ length (entries (replicate {A = Option (Ticket × V)} n None)))
none_kept {V} n = ((λ x e q. let none = named_none {V = V} n x in absurd (cc)), sym (ap length (entries_none n)))

-- a bool as a number
as_one : (b : Bool) → from_bool b ≡ cond b 1 0
as_one false = refl
as_one true = refl

pub number_of : (b c : Bool) (n : ℕ) → n ≡ from_bool b → b ≡ c → n ≡ cond c 1 0
number_of b c n e q = e ∙ ap from_bool q ∙ as_one c

-- a cell that has a value is there
pub within : {X : Type 0} (cells : List (Option X)) (x : ℕ) → IsSome (slice_index_or cells x None) → x < length cells
within [] x p = absurd (true≢false (sym p))
within (c ∷ cells) zero p = omega arith
within (c ∷ cells) (suc x) p = omega (arith, within cells x p)

-- what holds of a value that is there
pub if_some : {X : Type 0} (P : X → Type 0) (o : Option X) → IfSome o P → (e : X) → o ≡ Some e → P e
if_some P None p e q = absurd (cc)
if_some P (Some x) p e q = let same : x ≡ e = cc in subst P same p

-- an entry whose value is another has the ticket that it had
kept_ticket : {V : Type 0} (x : ℕ) (w : V) (o : Option (Ticket × V)) → ((p : Ticket × V) → o ≡ Some p → p.0.name ≡ x)
    → (e : Ticket × V) → option_map (λ z. (z.0, w)) o ≡ Some e → e.0.name ≡ x
kept_ticket x w None h e q = absurd (cc)
kept_ticket x w (Some p) h e q = let same : (p.0, w) ≡ e = cc in ap (λ (z : Ticket × _). z.0.name) (sym same) ∙ h p refl

kept_one : {V : Type 0} (w : V) (o : Option (Ticket × V)) → is_some (option_map {T = Ticket × V} {U = Ticket × V} (λ z. (z.0, w)) o) ≡ is_some o
kept_one w None = refl
kept_one w (Some p) = refl

pub value_kept : {V : Type 0} (cells : List (Option (Ticket × V))) (x k : ℕ) (o : Option (Ticket × V)) (w : V) → o ≡ entry x cells → x < length cells
    → AreNamed cells × (k ≡ length (entries cells))
    → AreNamed (slice_set cells x (option_map (λ z. (z.0, w)) o)) × (k ≡ length (entries (slice_set cells x (option_map (λ z. (z.0, w)) o))))
value_kept cells x k o w r l kept =
    let new : Option (Ticket × _) = option_map (λ z. (z.0, w)) o in (
      named_set cells x new kept.0 (kept_ticket x w o (λ p q. kept.0 x p (sym r ∙ q))),
      omega (arith, entries_set cells x new l, ap {B = ℕ} (λ b. cond b 1 0) (kept_one w o), ap {B = ℕ} (λ z. cond (is_some z) 1 0) r, kept.1),
    )
