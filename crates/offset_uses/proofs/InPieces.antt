-- What bytes hold while the pieces of a move are copied, one after the other.
use Rattle.std.proofs.Common.{◌≡◌, ℕ, zero, suc, ◌+◌, ◌-◌, ◌<◌, ◌≤◌, true, false, List, [], ◌∷◌, length, slice_index_or, if◌then◌else◌, nat_eq, refl, ◌∙◌, arith}
use Rattle.std.specs.Prelude.{min}
use Rattle.std.specs.List.{AllByRecursion}
use Rattle.std.proofs.lemmas.Bool.{cases_eq}
use Rattle.std.proofs.lemmas.Bool.Decides.{nat_tests}
use Rattle.offset_allocator.specs.declared.moves.pieces.Piece.{Piece}
use Rattle.offset_allocator.specs.Moving.Pieces.{pieces, copied, all_copied, ArePieces}
use Rattle.offset_allocator.proofs.Moving.InPieces.{together, apart}
use Rattle.offset_uses.specs.Pool.{IsCopied}

-- what a list holds at each index
abbrev pub held : List ℕ → ℕ → ℕ → ℕ
held xs d i = slice_index_or xs i d

-- copies of what is the same leave the same
same_copied : (p : Piece) (f g : ℕ → ℕ) → ((i : ℕ) → f i ≡ g i) → (i : ℕ) → copied p f i ≡ copied p g i
same_copied p f g e i = rw (e i, e (i + (p.from - p.to))) refl

all_same : (ps : List Piece) (f g : ℕ → ℕ) → ((i : ℕ) → f i ≡ g i) → (i : ℕ) → all_copied ps f i ≡ all_copied ps g i
all_same [] f g e i = e i
all_same (p ∷ ps) f g e i = all_same ps (copied p f) (copied p g) (same_copied p f g e) i

-- one copy
one_copied : (p : Piece) (xs ys : List ℕ) → IsCopied p.from p.to p.size xs ys → p.to ≤ p.from → p.from + p.size ≤ length xs → (i d : ℕ) → held ys d i ≡ copied p (held xs d) i
one_copied p xs ys c l m i d =
    let at : i < p.to + p.size → p.to ≤ i → p.from + (i - p.to) ≡ i + (p.from - p.to) = λ a b. omega (arith, a, b, l) in
    grind (arith, cases_eq, nat_tests, c.copied l m i d, c.below l m i d, c.after l m i d, at)

-- each of these reads units up to an end
abbrev pub AreUpTo : ℕ → List Piece → Type 0
AreUpTo end ps = AllByRecursion (λ p. p.from + p.size ≤ end) ps

pub up_to : (k most from to n end : ℕ) → from + n ≤ end → AreUpTo end (pieces k most from to n)
up_to zero most from to n end l = tt
up_to (suc k) most from to n end l =
    let ih = up_to k most (from + min most n) (to + min most n) (n - min most n) end (omega (arith, l)) in
    elim (nat_eq n 0) as (λ e. AreUpTo end (if e then [] else record { from = from; to = to; size = min most n } ∷ pieces k most (from + min most n) (to + min most n) (n - min most n))) [
      | true ↦ tt
      | false ↦ (omega (arith, l), ih)
    ]

-- the bytes xs became ys while a move was copied but for these pieces
pub record IsPartly (from to size : ℕ) (xs ys : List ℕ) (rest : List Piece) : Type 0 where
  pub len : length ys ≡ length xs
  pub most : ℕ
  pub apart : ArePieces most rest
  pub within : AreUpTo (from + size) rest
  pub whole : from + size ≤ length xs → (i d : ℕ) → all_copied rest (held ys d) i ≡ copied (record { from = from; to = to; size = size }) (held xs d) i

pub at_first : (from to size most : ℕ) (xs : List ℕ) → 0 < most → to < from → IsPartly from to size xs xs (pieces size (min most (from - to)) from to size)
at_first from to size most xs some down = record {
  len = refl;
  most = most;
  apart = apart size most (min most (from - to)) from to size (omega (arith, some, down)) (omega arith) (omega (arith, down));
  within = up_to size (min most (from - to)) from to size (from + size) (omega arith);
  whole = λ l i d. together size (min most (from - to)) from to size i (held xs d) (omega (arith, some, down)) down (omega arith);
}

pub one_more : {from to size : ℕ} {xs ys : List ℕ} {p : Piece} {ps : List Piece} (zs : List ℕ) → IsPartly from to size xs ys (p ∷ ps) → IsCopied p.from p.to p.size ys zs
    → IsPartly from to size xs zs ps
one_more {from} {to} {size} {xs} {ys} {p} {ps} zs h c = record {
  len = c.len ∙ h.len;
  most = h.most;
  apart = h.apart.4;
  within = h.within.1;
  whole = λ l i d. all_same ps (held zs d) (copied p (held ys d)) (λ j. one_copied p ys zs c (omega (arith, h.apart.2)) (omega (arith, h.within.0, h.len, l)) j d) i ∙ h.whole l i d;
}

pub in_the_end : {from to size : ℕ} {xs ys : List ℕ} → IsPartly from to size xs ys [] → IsCopied from to size xs ys
in_the_end {from} {to} {size} {xs} {ys} h = record {
  len = h.len;
  copied = λ l m k d a b.
      let at : from + (k - to) ≡ k + (from - to) = omega (arith, a, b, l) in
      grind (arith, cases_eq, nat_tests, h.whole m k d, at, a, b);
  below = λ l m k d a. grind (arith, cases_eq, nat_tests, h.whole m k d, a);
  after = λ l m k d a. grind (arith, cases_eq, nat_tests, h.whole m k d, a);
}
